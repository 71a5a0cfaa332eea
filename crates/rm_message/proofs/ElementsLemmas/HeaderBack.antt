-- Header blocks are read back as they were written.
use Rattle.std.proofs.Common.{◌≡◌, ◌≢◌, ℕ, ◌^◌, ◌≤◌, ◌<◌, Bool, true, false, if◌then◌else◌, List, [], ◌∷◌, ◌++◌}
use Rattle.std.proofs.Common.{refl, ap, ◌∙◌, arith, Option, Some, None, Ok, codes, decimal, nat_eq, nat_lt, map}
use Rattle.std.proofs.Common.{is_some}
use Rattle.std.specs.List.{AllByRecursion}
use Rattle.std.proofs.lemmas.List.{append-nil}
use Rattle.std.proofs.lemmas.Bool.{le-ltb}
use Rattle.std.proofs.lemmas.Bool.Decides.{nat_tests}
use Rattle.rm_base.specs.Text.{IsText}
use Rattle.soap_document.specs.Profile.Tree.{Element, element, Parts, none, text, attrs_of, parts_of}
use Rattle.soap_writer.specs.Nodes.Node.{Tag as NodeTag, expanded_name, Node, Nodes, nothing, more, each_node}
use Rattle.soap_writer.specs.Nodes.Node.{node_tree}
use Rattle.soap_writer.specs.Nodes.Node.{nodes_tree}
use Rattle.soap_writer.specs.Values.Children.{name_in, text_among, value_among, children_named, has_name}
use Rattle.soap_writer.specs.Values.Outcome.{optional, each}
use Rattle.soap_writer.specs.Values.EachLaws.{each_again}
use Rattle.soap_writer.specs.Values.NumberLaws.{number_back, decimal_number}
use Rattle.soap_writer.specs.Values.TextLaws.{text_back}
use Rattle.rm_sides.specs.declared.ranges.range.Range.{Range}
use Rattle.rm_message.specs.Elements.Headers.{ident_of, identifier, number_of, message_number, numbered_in, bound_in}
use Rattle.rm_message.specs.Elements.Headers.{range_of, ack_of, ack_in, header_of}
use Rattle.rm_message.specs.Elements.Outcome.{rm}
use Rattle.rm_message.specs.Elements.Texts.{tag_of, identifier_node, sequence_node, range_node, nack_node, final_nodes}
use Rattle.rm_message.specs.Elements.Texts.{kind_nodes, header_node}
use Rattle.rm_message.specs.Elements.Writable.{IsNumber, IsRange, IsSequenceWritable, IsKindWritable, IsHeaderWritable}
use Rattle.rm_message.specs.declared.elements.header.AckKind.{AckKind}
use Rattle.rm_message.specs.declared.elements.header.AckKind.TheVariants.{Ranges, Nothing, Nack}
use Rattle.rm_message.specs.declared.elements.header.Header.{Header}
use Rattle.rm_message.specs.declared.elements.header.Header.TheVariants as headers
use Rattle.rm_message.specs.declared.elements.header.SeqHeader.{SeqHeader}
use Rattle.rm_message.specs.declared.elements.tag.Tag.TheVariants as tags

-- ---- values

pub ident_again : (e : Element) (ident : List ℕ) → IsText 512 ident → parts_of e ≡ text ident none
    → ident_of e ≡ Some ident
ident_again e ident is at =
    let inner : text_among (parts_of e) ≡ Some ident = rw (at, append-nil ident) refl in
    rw inner (text_back 512 ident is)

fits : (n : ℕ) → IsNumber n → n < 2 ^ 64
fits n is = omega (arith, is.high)

not_zero : (n : ℕ) → IsNumber n → nat_eq n 0 ≡ false
not_zero n is = let low = is.low in grind (arith, nat_tests)

not_above : (n : ℕ) → IsNumber n → nat_lt 9223372036854775807 n ≡ false
not_above n is = le-ltb 9223372036854775807 n is.high

pub number_again : (e : Element) (n : ℕ) → IsNumber n → parts_of e ≡ text (decimal n) none → number_of e ≡ Some n
number_again e n is at =
    let inner : text_among (parts_of e) ≡ Some (decimal n) = rw (at, append-nil (decimal n)) refl in
    let whole = number_back n (fits n is) in
    let some = not_zero n is in
    let within = not_above n is in
    rw (inner, whole, some, within) refl

sequence_number : (parts : Parts) (n : ℕ) → IsNumber n
    → children_named (rm (codes "MessageNumber")) parts
    ≡ element (rm (codes "MessageNumber")) [] [] (text (decimal n) none) ∷ []
    → message_number parts ≡ Some n
unfolding message_number
sequence_number parts n is at =
    let plain = append-nil (decimal n) in
    let whole = number_back n (fits n is) in
    let some = not_zero n is in
    rw (at, plain, whole, some) refl

sequence_from : (parts : Parts) (x : SeqHeader) → identifier parts ≡ Some x.ident → message_number parts ≡ Some x.number
    → numbered_in parts ≡ Some x
unfolding numbered_in
sequence_from parts x a b = rw (a, b) refl

sequence_again : (soap : List ℕ) (x : SeqHeader) → IsSequenceWritable x
    → header_of (node_tree soap (sequence_node x)) ≡ Ok (Some (headers.Sequence x))
unfolding identifier
sequence_again soap x is =
    let parts = parts_of (node_tree soap (sequence_node x)) in
    let a = ident_again (element (rm (codes "Identifier")) [] [] (text x.ident none)) x.ident is.ident refl in
    let both : numbered_in parts ≡ Some x = sequence_from parts x a (sequence_number parts x.number is.number refl) in
    let within = not_above x.number is.number in
    rw (both, within) refl

-- ---- acknowledgements

bound_again : (local : List ℕ) (e : Element) (n : ℕ) → IsNumber n
    → value_among (name_in [] local) (attrs_of e) ≡ Some (decimal n) → bound_in local e ≡ Some n
bound_again local e n is at =
    let whole = decimal_number n (fits n is) in
    let some = not_zero n is in
    let within = not_above n is in
    rw (at, whole, some, within) refl

range_from : (e : Element) (l u : ℕ) → l ≤ u → bound_in (codes "Lower") e ≡ Some l → bound_in (codes "Upper") e ≡ Some u
    → range_of e ≡ Some (record { lower = l; upper = u })
unfolding range_of
range_from e l u rises a b = let order : nat_lt u l ≡ false = le-ltb u l rises in rw (a, b, order) refl

range_again : (soap : List ℕ) (x : Range) → IsRange x → range_of (node_tree soap (range_node x)) ≡ Some x
range_again soap x is =
    range_from (node_tree soap (range_node x)) x.lower x.upper is.rises
    (bound_again (codes "Lower") (node_tree soap (range_node x)) x.lower is.lower refl)
    (bound_again (codes "Upper") (node_tree soap (range_node x)) x.upper is.upper refl)

ranges_again : (soap : List ℕ) (xs : List Range) → AllByRecursion IsRange xs
    → AllByRecursion (λ x. range_of (node_tree soap (range_node x)) ≡ Some x) xs
ranges_again soap [] all = tt
ranges_again soap (x ∷ xs) all = (range_again soap x all.0, ranges_again soap xs all.1)

nacks_again : (soap : List ℕ) (xs : List ℕ) → AllByRecursion IsNumber xs
    → AllByRecursion (λ x. number_of (node_tree soap (nack_node x)) ≡ Some x) xs
nacks_again soap [] all = tt
nacks_again soap (x ∷ xs) all = (number_again (node_tree soap (nack_node x)) x all.0 refl, nacks_again soap xs all.1)

-- the children of a name among nodes
abbrev found : List ℕ → NodeTag → Nodes → List Element
found soap t ns = children_named (expanded_name soap t) (nodes_tree soap ns)

kept_first : (b : Bool) (e : Element) (es : List Element) → b ≡ true → (if b then e ∷ es else es) ≡ e ∷ es
kept_first true e es h = refl
kept_first false e es h = cc

passed_first : (b : Bool) (e : Element) (es : List Element) → b ≡ false → (if b then e ∷ es else es) ≡ es
passed_first false e es h = refl
passed_first true e es h = cc

each_kept : {A : Type 0} (soap : List ℕ) (t : NodeTag) (f : A → Node) (xs : List A) (others : Nodes)
    → ((x : A) → has_name (expanded_name soap t) (node_tree soap (f x)) ≡ true)
    → found soap t (each_node f xs others) ≡ map (λ x. node_tree soap (f x)) xs ++ found soap t others
each_kept soap t f [] others is = refl
each_kept soap t f (x ∷ xs) others is =
    kept_first (has_name (expanded_name soap t) (node_tree soap (f x))) (node_tree soap (f x))
    (found soap t (each_node f xs others)) (is x)
    ∙ ap (λ l. node_tree soap (f x) ∷ l) (each_kept soap t f xs others is)

each_passed : {A : Type 0} (soap : List ℕ) (t : NodeTag) (f : A → Node) (xs : List A) (others : Nodes)
    → ((x : A) → has_name (expanded_name soap t) (node_tree soap (f x)) ≡ false)
    → found soap t (each_node f xs others) ≡ found soap t others
each_passed soap t f [] others is = refl
each_passed soap t f (x ∷ xs) others is =
    passed_first (has_name (expanded_name soap t) (node_tree soap (f x))) (node_tree soap (f x))
    (found soap t (each_node f xs others)) (is x)
    ∙ each_passed soap t f xs others is

abbrev final_element : Element
final_element = element (rm (codes "Final")) [] [] none

abbrev nothing_element : Element
nothing_element = element (rm (codes "None")) [] [] none

finals : (soap : List ℕ) (last : Bool)
    → optional (found soap (tag_of tags.Final) (final_nodes last)) ≡ Some (if last then Some final_element else None)
finals soap true = refl
finals soap false = refl

no_other : (soap : List ℕ) (t : NodeTag) (last : Bool) → has_name (expanded_name soap t) final_element ≡ false
    → found soap t (final_nodes last) ≡ []
no_other soap t true is = rw is refl
no_other soap t false is = refl

last_is : (last : Bool) → is_some (if last then Some final_element else None) ≡ last
last_is true = refl
last_is false = refl

ack_from : (parts : Parts) (ident : List ℕ) (rs : List Range) (o : Option Element) (ns : List ℕ) (f : Option Element)
    → identifier parts ≡ Some ident → each range_of (children_named (rm (codes "AcknowledgementRange")) parts) ≡ Some rs
    → optional (children_named (rm (codes "None")) parts) ≡ Some o
    → each number_of (children_named (rm (codes "Nack")) parts) ≡ Some ns
    → optional (children_named (rm (codes "Final")) parts) ≡ Some f
    → ack_in parts ≡ ack_of ident rs (is_some o) ns (is_some f)
unfolding ack_in
ack_from parts ident rs o ns f a b c d e = rw (a, b, c, d, e) refl

pub ident_from : (parts : Parts) (ident : List ℕ) → IsText 512 ident
    → children_named (rm (codes "Identifier")) parts ≡ element (rm (codes "Identifier")) [] [] (text ident none) ∷ []
    → identifier parts ≡ Some ident
unfolding identifier
ident_from parts ident is at =
    let one = ident_again (element (rm (codes "Identifier")) [] [] (text ident none)) ident is refl in
    rw at one

-- with ranges
ranges_back : (soap ident : List ℕ) (xs : List Range) (last : Bool) → IsText 512 ident → xs ≢ []
    → AllByRecursion IsRange xs
    → ack_in (nodes_tree soap (more (identifier_node ident) (each_node range_node xs (final_nodes last))))
    ≡ Some (record { ident = ident; kind = Ranges xs; last = last })
unfolding ack_of
ranges_back soap ident [] last is some all = absurd (some refl)
ranges_back soap ident (x ∷ others) last is some all =
    let xs = x ∷ others in
    let ns = more (identifier_node ident) (each_node range_node xs (final_nodes last)) in
    let parts = nodes_tree soap ns in
    let tree = λ (r : Range). node_tree soap (range_node r) in
    let none_else : found soap (tag_of tags.Identifier) (each_node range_node xs (final_nodes last)) ≡ [] =
    each_passed soap (tag_of tags.Identifier) range_node xs (final_nodes last) (λ r. refl)
    ∙ no_other soap (tag_of tags.Identifier) last refl in
    let a : identifier parts ≡ Some ident = ident_from parts ident is
    (ap (λ l. element (rm (codes "Identifier")) [] [] (text ident none) ∷ l) none_else) in
    let b : each range_of (found soap (tag_of tags.AcknowledgementRange) ns) ≡ Some xs =
    ap (each range_of) (each_kept soap (tag_of tags.AcknowledgementRange) range_node xs (final_nodes last) (λ r. refl)
    ∙ ap (λ l. map tree xs ++ l) (no_other soap (tag_of tags.AcknowledgementRange) last refl)
    ∙ append-nil (map tree xs))
    ∙ each_again range_of tree xs (ranges_again soap xs all) in
    let c : optional (found soap (tag_of tags.NoRange) ns) ≡ Some None =
    ap optional (each_passed soap (tag_of tags.NoRange) range_node xs (final_nodes last) (λ r. refl)
    ∙ no_other soap (tag_of tags.NoRange) last refl) in
    let d : each number_of (found soap (tag_of tags.Nack) ns) ≡ Some [] =
    ap (each number_of) (each_passed soap (tag_of tags.Nack) range_node xs (final_nodes last) (λ r. refl)
    ∙ no_other soap (tag_of tags.Nack) last refl) in
    let e : optional (found soap (tag_of tags.Final) ns) ≡ Some (if last then Some final_element else None) =
    ap optional (each_passed soap (tag_of tags.Final) range_node xs (final_nodes last) (λ r. refl))
    ∙ finals soap last in
    ack_from parts ident xs None [] (if last then Some final_element else None) a b c d e
    ∙ ap (λ f. ack_of ident xs false [] f) (last_is last)

-- with none
nothing_back : (soap ident : List ℕ) (last : Bool) → IsText 512 ident
    → ack_in (nodes_tree soap (more (identifier_node ident) (kind_nodes Nothing (final_nodes last))))
    ≡ Some (record { ident = ident; kind = Nothing; last = last })
unfolding ack_of
nothing_back soap ident true is =
    let parts = nodes_tree soap (more (identifier_node ident) (kind_nodes Nothing (final_nodes true))) in
    ack_from parts ident [] (Some nothing_element) [] (Some final_element)
    (ident_from parts ident is refl) refl refl refl refl
nothing_back soap ident false is =
    let parts = nodes_tree soap (more (identifier_node ident) (kind_nodes Nothing (final_nodes false))) in
    ack_from parts ident [] (Some nothing_element) [] None (ident_from parts ident is refl) refl refl refl refl

-- with numbers that are missing
nacks_back : (soap ident : List ℕ) (xs : List ℕ) → IsText 512 ident → xs ≢ [] → AllByRecursion IsNumber xs
    → ack_in (nodes_tree soap (more (identifier_node ident) (each_node nack_node xs nothing)))
    ≡ Some (record { ident = ident; kind = Nack xs; last = false })
unfolding ack_of
nacks_back soap ident [] is some all = absurd (some refl)
nacks_back soap ident (x ∷ others) is some all =
    let xs = x ∷ others in
    let ns = more (identifier_node ident) (each_node nack_node xs nothing) in
    let parts = nodes_tree soap ns in
    let tree = λ (n : ℕ). node_tree soap (nack_node n) in
    let a : identifier parts ≡ Some ident = ident_from parts ident is
    (ap (λ l. element (rm (codes "Identifier")) [] [] (text ident none) ∷ l)
    (each_passed soap (tag_of tags.Identifier) nack_node xs nothing (λ n. refl))) in
    let b : each range_of (found soap (tag_of tags.AcknowledgementRange) ns) ≡ Some [] =
    ap (each range_of) (each_passed soap (tag_of tags.AcknowledgementRange) nack_node xs nothing (λ n. refl)) in
    let c : optional (found soap (tag_of tags.NoRange) ns) ≡ Some None =
    ap optional (each_passed soap (tag_of tags.NoRange) nack_node xs nothing (λ n. refl)) in
    let d : each number_of (found soap (tag_of tags.Nack) ns) ≡ Some xs =
    ap (each number_of) (each_kept soap (tag_of tags.Nack) nack_node xs nothing (λ n. refl) ∙ append-nil (map tree xs))
    ∙ each_again number_of tree xs (nacks_again soap xs all) in
    let e : optional (found soap (tag_of tags.Final) ns) ≡ Some None =
    ap optional (each_passed soap (tag_of tags.Final) nack_node xs nothing (λ n. refl)) in
    ack_from parts ident [] None xs None a b c d e

ack_again : (soap ident : List ℕ) (kind : AckKind) (last : Bool) → IsText 512 ident → IsKindWritable kind last
    → ack_in (nodes_tree soap (more (identifier_node ident) (kind_nodes kind (final_nodes last))))
    ≡ Some (record { ident = ident; kind = kind; last = last })
ack_again soap ident (Ranges xs) last is kind = ranges_back soap ident xs last is kind.0 kind.1
ack_again soap ident Nothing last is kind = nothing_back soap ident last is
ack_again soap ident (Nack xs) true is kind = cc (kind.2)
ack_again soap ident (Nack xs) false is kind = nacks_back soap ident xs is kind.0 kind.1

pub header_again : (soap : List ℕ) (h : Header) → IsHeaderWritable h
    → header_of (node_tree soap (header_node h)) ≡ Ok (Some h)
header_again soap (headers.Sequence x) is = sequence_again soap x is
header_again soap (headers.Ack x) is =
    let one = ack_again soap x.ident x.kind x.last is.ident is.kind in
    rw one refl
header_again soap (headers.Ask ident) is =
    let parts = nodes_tree soap (more (identifier_node ident) nothing) in
    let one : identifier parts ≡ Some ident = ident_from parts ident is refl in
    rw one refl
header_again soap (headers.Pending true) is = refl
header_again soap (headers.Pending false) is = refl
