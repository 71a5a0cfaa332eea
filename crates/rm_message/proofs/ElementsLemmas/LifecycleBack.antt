-- Body elements are read back as they were written.
use Rattle.std.proofs.Common.{◌≡◌, ℕ, Bool, true, false, ◌&&◌, if◌then◌else◌, List, [], ◌∷◌, ◌++◌, refl, ap, ap₂}
use Rattle.std.proofs.Common.{sym, ◌∙◌, append_assoc, Option, Some, None, Ok, codes, decimal, nat_eq}
use Rattle.std.specs.Prelude.{IfSome}
use Rattle.std.proofs.lemmas.Bool.{eqb-true}
use Rattle.std.proofs.lemmas.List.{append-nil}
use Rattle.rm_base.specs.Text.{IsText}
use Rattle.rm_base.specs.declared.message.Behaviour.{Behaviour}
use Rattle.rm_base.specs.declared.message.Behaviour.TheVariants.{NoDiscard, EntireSequence, FollowingFirstGap}
use Rattle.xml_chars.specs.Classes.{is_space}
use Rattle.soap_document.specs.Profile.Tree.{Element, element, Parts, none, text, parts_of}
use Rattle.soap_document.specs.declared.profile.name.Expanded.{Expanded}
use Rattle.soap_writer.specs.Nodes.Node.{Node, Nodes, nothing, more, leaf, node_tree, nodes_tree}
use Rattle.soap_writer.specs.Values.Children.{is_same, has_name, children_named}
use Rattle.soap_writer.specs.Values.Outcome.{◌>>=◌}
use Rattle.soap_writer.specs.Values.TrimLaws.{trimmed_end-other}
use Rattle.soap_writer.specs.Values.Values.{trimmed, trimmed_end, trimmed_text}
use Rattle.wsa_headers.specs.Endpoint.{epr_in}
use Rattle.wsa_headers.specs.TextLaws.{uri_back}
use Rattle.wsa_headers.specs.Texts.{epr_nodes}
use Rattle.wsa_headers.specs.Writable.{IsEprWritable}
use Rattle.wsa_headers.specs.declared.endpoint.Epr.{Epr}
use Rattle.rm_message.specs.Elements.Deadline.{IsZero}
use Rattle.rm_message.specs.Elements.Duration.{duration_in}
use Rattle.rm_message.specs.Elements.Headers.{identifier}
use Rattle.rm_message.specs.Elements.Lifecycle.{reference_in, lapse_at, expires_in, behaviour_in, offer_of, offer_in}
use Rattle.rm_message.specs.Elements.Lifecycle.{create_in, accept_in, response_in, finish_in, make_in, lifecycle_of}
use Rattle.rm_message.specs.Elements.Outcome.{rm, mc}
use Rattle.rm_message.specs.Elements.Texts.{tag_of, identifier_node, months_text, seconds_text, time_text, lapse_text}
use Rattle.rm_message.specs.Elements.Texts.{expires_before, behaviour_text, behaviour_node, epr_node, offer_node}
use Rattle.rm_message.specs.Elements.Texts.{offer_nodes, create_node, accept_nodes, response_node, last_nodes}
use Rattle.rm_message.specs.Elements.Texts.{other_nodes}
use Rattle.rm_message.specs.Elements.Texts.{address_before, lifecycle_node}
use Rattle.rm_message.specs.Elements.Writable.{IsNumber, IsLapseWritable, IsOfferWritable, IsCreateWritable}
use Rattle.rm_message.specs.Elements.Writable.{IsResponseWritable, IsLifecycleWritable}
use Rattle.rm_base.specs.declared.lapse.Lapse.{Lapse}
use Rattle.rm_message.specs.declared.elements.lifecycle.CreateResponse.{CreateResponse}
use Rattle.rm_message.specs.declared.elements.lifecycle.CreateSequence.{CreateSequence}
use Rattle.rm_message.specs.declared.elements.lifecycle.Lifecycle.{Lifecycle}
use Rattle.rm_message.specs.declared.elements.lifecycle.Lifecycle.TheVariants as bodies
use Rattle.rm_message.specs.declared.elements.lifecycle.Offer.{Offer}
use Rattle.rm_message.specs.declared.elements.tag.Tag.{Tag}
use Rattle.rm_message.specs.declared.elements.tag.Tag.TheVariants as tags
use Rattle.rm_message.proofs.ElementsLemmas.HeaderBack.{ident_from, number_again}
use Rattle.rm_message.proofs.ElementsLemmas.LapseBack.{lapse_again}

-- what is known of endpoint references
abbrev pub Known : Type 0
Known = (soap : List ℕ) (x : Epr) → IsEprWritable x → epr_in (nodes_tree soap (epr_nodes x)) ≡ Some x

-- an element of text, as it is read
abbrev said : Expanded → List ℕ → Element
said name bytes = element name [] [] (text bytes none)

-- the children of a name among nodes
abbrev named_in : List ℕ → Expanded → Nodes → List Element
named_in soap name ns = children_named name (nodes_tree soap ns)

-- ---- durations

ends_so : (bs front : List ℕ) (b : ℕ) → is_space b ≡ false → bs ≡ front ++ b ∷ [] → trimmed_end bs ≡ bs
ends_so bs front b other at = ap trimmed_end at ∙ trimmed_end-other front b other ∙ sym at

lapse_trimmed : (lapse : Lapse) → ¬ (IsZero lapse) → trimmed (lapse_text lapse) ≡ lapse_text lapse
lapse_trimmed lapse some = by_tests (nat_eq lapse.months 0) (nat_eq lapse.ms 0) refl refl
  where
    by_tests : (p q : Bool) → nat_eq lapse.months 0 ≡ p → nat_eq lapse.ms 0 ≡ q
        → trimmed (lapse_text lapse) ≡ lapse_text lapse
    by_tests true true e f = absurd (some (eqb-true lapse.months 0 e, eqb-true lapse.ms 0 f))
    by_tests false true e f =
        let bare : time_text lapse.ms ≡ [] = rw f refl in
        let monthly : months_text lapse.months ≡ decimal lapse.months ++ 77 ∷ [] = rw e refl in
        ends_so (lapse_text lapse) (80 ∷ decimal lapse.months) 77 refl
        (ap₂ (λ (x y : List ℕ). 80 ∷ (x ++ y)) monthly bare
        ∙ ap (λ l. 80 ∷ l) (append-nil (decimal lapse.months ++ 77 ∷ [])))
    by_tests p false e f =
        let timed : time_text lapse.ms ≡ (84 ∷ seconds_text lapse.ms) ++ 83 ∷ [] = rw f refl in
        ends_so (lapse_text lapse) (80 ∷ (months_text lapse.months ++ (84 ∷ seconds_text lapse.ms))) 83 refl
        (ap (λ l. 80 ∷ (months_text lapse.months ++ l)) timed
        ∙ ap (λ l. 80 ∷ l) (sym (append_assoc (months_text lapse.months) (84 ∷ seconds_text lapse.ms) (83 ∷ []))))

passed_unless : (soap : List ℕ) (name : Expanded) (test : Bool) (n : Node) (others : Nodes)
    → has_name name (node_tree soap n) ≡ false
    → named_in soap name (if test then others else more n others) ≡ named_in soap name others
passed_unless soap name true n others differs = refl
passed_unless soap name false n others differs = rw differs refl

-- Expires is passed over where another name is looked for
expires_passed : (soap : List ℕ) (name : Expanded) (lapse : Lapse) (others : Nodes)
    → is_same (rm (codes "Expires")) name ≡ false
    → named_in soap name (expires_before lapse others) ≡ named_in soap name others
expires_passed soap name lapse others differs =
    passed_unless soap name (nat_eq lapse.months 0 && nat_eq lapse.ms 0) (leaf (tag_of tags.Expires) (lapse_text lapse))
    others differs

kept_unless : (soap : List ℕ) (name : Expanded) (test : Bool) (n : Node) (others : Nodes)
    → has_name name (node_tree soap n) ≡ true → named_in soap name others ≡ []
    → named_in soap name (if test then others else more n others) ≡ (if test then [] else node_tree soap n ∷ [])
kept_unless soap name true n others same later = later
kept_unless soap name false n others same later = rw same (ap (λ l. node_tree soap n ∷ l) later)

-- and it is found, where it stands there
abbrev expires_there : Lapse → List Element
expires_there lapse =
    if nat_eq lapse.months 0 && nat_eq lapse.ms 0 then [] else said (rm (codes "Expires")) (lapse_text lapse) ∷ []

expires_kept : (soap : List ℕ) (lapse : Lapse) (others : Nodes) → named_in soap (rm (codes "Expires")) others ≡ []
    → named_in soap (rm (codes "Expires")) (expires_before lapse others) ≡ expires_there lapse
expires_kept soap lapse others later =
    kept_unless soap (rm (codes "Expires")) (nat_eq lapse.months 0 && nat_eq lapse.ms 0)
    (leaf (tag_of tags.Expires) (lapse_text lapse)) others refl later

expires_again : (parts : Parts) (lapse : Lapse) → IsLapseWritable lapse
    → children_named (rm (codes "Expires")) parts ≡ expires_there lapse → expires_in parts ≡ Some lapse
unfolding expires_in
expires_again parts lapse is at = by_tests (nat_eq lapse.months 0) (nat_eq lapse.ms 0) refl refl
  where
    there : ¬ (IsZero lapse)
        → children_named (rm (codes "Expires")) parts ≡ said (rm (codes "Expires")) (lapse_text lapse) ∷ []
        → expires_in parts ≡ Some lapse
    there some one =
        let inner : trimmed_text (said (rm (codes "Expires")) (lapse_text lapse)) ≡ Some (lapse_text lapse) =
        ap (λ l. Some (trimmed l)) (append-nil (lapse_text lapse)) ∙ ap Some (lapse_trimmed lapse some) in
        let found : expires_in parts ≡ lapse_at (Some (said (rm (codes "Expires")) (lapse_text lapse))) = rw one refl in
        found ∙ ap (λ (o : Option (List ℕ)). o >>= duration_in) inner ∙ lapse_again lapse is some

    by_tests : (p q : Bool) → nat_eq lapse.months 0 ≡ p → nat_eq lapse.ms 0 ≡ q → expires_in parts ≡ Some lapse
    by_tests true true e f =
        let none_there : expires_there lapse ≡ [] = rw (e, f) refl in
        let bare = at ∙ none_there in
        let months = eqb-true lapse.months 0 e in
        let ms = eqb-true lapse.ms 0 f in
        rw bare (ap₂ (λ (m n : ℕ). Some (record { months = m; ms = n })) (sym months) (sym ms))
    by_tests true false e f = there (λ zero. cc) (at ∙ rw (e, f) refl)
    by_tests false q e f = there (λ zero. cc) (at ∙ rw e refl)

-- ---- other children

reference_again : Known → (soap local : List ℕ) (t : Tag) (parts : Parts) (x : Epr) → IsEprWritable x
    → children_named (rm local) parts ≡ node_tree soap (epr_node t x) ∷ [] → reference_in local parts ≡ Some x
reference_again known soap local t parts x is at = let one = known soap x is in rw (at, one) refl

behaviour_again : (parts : Parts) (b : Behaviour)
    → children_named (rm (codes "IncompleteSequenceBehavior")) parts
    ≡ said (rm (codes "IncompleteSequenceBehavior")) (behaviour_text b) ∷ [] → behaviour_in parts ≡ Some b
unfolding behaviour_in
behaviour_again parts NoDiscard at = rw at refl
behaviour_again parts EntireSequence at = rw at refl
behaviour_again parts FollowingFirstGap at = rw at refl

-- ---- CreateSequence

offer_from : (e : Element) (o : Offer) → identifier (parts_of e) ≡ Some o.ident
    → reference_in (codes "Endpoint") (parts_of e) ≡ Some o.endpoint → expires_in (parts_of e) ≡ Some o.expires
    → behaviour_in (parts_of e) ≡ Some o.behaviour → offer_of e ≡ Some o
unfolding offer_of
offer_from e o ident endpoint expires behaviour = rw (ident, endpoint, expires, behaviour) refl

offer_again : Known → (soap : List ℕ) (o : Offer) → IsOfferWritable o
    → offer_of (node_tree soap (offer_node o)) ≡ Some o
offer_again known soap o is =
    let e = node_tree soap (offer_node o) in
    let last = more (behaviour_node o.behaviour) nothing in
    offer_from e o
    (ident_from (parts_of e) o.ident is.ident (ap (λ l. said (rm (codes "Identifier")) o.ident ∷ l)
    (expires_passed soap (rm (codes "Identifier")) o.expires last refl)))
    (reference_again known soap (codes "Endpoint") tags.Endpoint (parts_of e) o.endpoint is.endpoint
    (ap (λ l. node_tree soap (epr_node tags.Endpoint o.endpoint) ∷ l)
    (expires_passed soap (rm (codes "Endpoint")) o.expires last refl)))
    (expires_again (parts_of e) o.expires is.expires (expires_kept soap o.expires last refl))
    (behaviour_again (parts_of e) o.behaviour
    (expires_passed soap (rm (codes "IncompleteSequenceBehavior")) o.expires last refl))

offers_passed : (soap : List ℕ) (name : Expanded) (offer : Option Offer) → is_same (rm (codes "Offer")) name ≡ false
    → named_in soap name (offer_nodes offer) ≡ []
offers_passed soap name None differs = refl
offers_passed soap name (Some o) differs = rw differs refl

offers_again : Known → (soap : List ℕ) (parts : Parts) (offer : Option Offer) → IfSome offer IsOfferWritable
    → children_named (rm (codes "Offer")) parts ≡ named_in soap (rm (codes "Offer")) (offer_nodes offer)
    → offer_in parts ≡ Some offer
unfolding offer_in
offers_again known soap parts None is at = rw at refl
offers_again known soap parts (Some o) is at = let one = offer_again known soap o is in rw (at, one) refl

create_from : (parts : Parts) (x : CreateSequence) → reference_in (codes "AcksTo") parts ≡ Some x.acks_to
    → expires_in parts ≡ Some x.expires → offer_in parts ≡ Some x.offer → create_in parts ≡ Some x
unfolding create_in
create_from parts x acks_to expires offer = rw (acks_to, expires, offer) refl

create_again : Known → (soap : List ℕ) (x : CreateSequence) → IsCreateWritable x
    → create_in (parts_of (node_tree soap (create_node x))) ≡ Some x
create_again known soap x is =
    let parts = parts_of (node_tree soap (create_node x)) in
    let offer = offer_nodes x.offer in
    create_from parts x
    (reference_again known soap (codes "AcksTo") tags.AcksTo parts x.acks_to is.acks_to
    (ap (λ l. node_tree soap (epr_node tags.AcksTo x.acks_to) ∷ l)
    (expires_passed soap (rm (codes "AcksTo")) x.expires offer refl
    ∙ offers_passed soap (rm (codes "AcksTo")) x.offer refl)))
    (expires_again parts x.expires is.expires
    (expires_kept soap x.expires offer (offers_passed soap (rm (codes "Expires")) x.offer refl)))
    (offers_again known soap parts x.offer is.offer (expires_passed soap (rm (codes "Offer")) x.expires offer refl))

-- ---- CreateSequenceResponse

accept_passed : (soap : List ℕ) (name : Expanded) (accept : Option Epr) → is_same (rm (codes "Accept")) name ≡ false
    → named_in soap name (accept_nodes accept) ≡ []
accept_passed soap name None differs = refl
accept_passed soap name (Some x) differs = rw differs refl

accept_again : Known → (soap : List ℕ) (parts : Parts) (accept : Option Epr) → IfSome accept IsEprWritable
    → children_named (rm (codes "Accept")) parts ≡ named_in soap (rm (codes "Accept")) (accept_nodes accept)
    → accept_in parts ≡ Some accept
unfolding accept_in
accept_again known soap parts None is at = rw at refl
accept_again known soap parts (Some x) is at = let one = known soap x is in rw (at, one) refl

response_from : (parts : Parts) (x : CreateResponse) → identifier parts ≡ Some x.ident
    → expires_in parts ≡ Some x.expires → behaviour_in parts ≡ Some x.behaviour → accept_in parts ≡ Some x.accept
    → response_in parts ≡ Some x
unfolding response_in
response_from parts x ident expires behaviour accept = rw (ident, expires, behaviour, accept) refl

response_again : Known → (soap : List ℕ) (x : CreateResponse) → IsResponseWritable x
    → response_in (parts_of (node_tree soap (response_node x))) ≡ Some x
response_again known soap x is =
    let parts = parts_of (node_tree soap (response_node x)) in
    let last = more (behaviour_node x.behaviour) (accept_nodes x.accept) in
    let behaviour = said (rm (codes "IncompleteSequenceBehavior")) (behaviour_text x.behaviour) in
    response_from parts x
    (ident_from parts x.ident is.ident (ap (λ l. said (rm (codes "Identifier")) x.ident ∷ l)
    (expires_passed soap (rm (codes "Identifier")) x.expires last refl
    ∙ accept_passed soap (rm (codes "Identifier")) x.accept refl)))
    (expires_again parts x.expires is.expires
    (expires_kept soap x.expires last (accept_passed soap (rm (codes "Expires")) x.accept refl)))
    (behaviour_again parts x.behaviour
    (expires_passed soap (rm (codes "IncompleteSequenceBehavior")) x.expires last refl
    ∙ ap (λ l. behaviour ∷ l) (accept_passed soap (rm (codes "IncompleteSequenceBehavior")) x.accept refl)))
    (accept_again known soap parts x.accept is.accept (expires_passed soap (rm (codes "Accept")) x.expires last refl))

-- ---- the other elements

finish_from : (parts : Parts) (ident : List ℕ) → identifier parts ≡ Some ident
    → children_named (rm (codes "LastMsgNumber")) parts ≡ []
    → finish_in parts ≡ Some (record { ident = ident; last_number = None })
unfolding finish_in
finish_from parts ident a b = rw (a, b) refl

finish_with : (parts : Parts) (ident : List ℕ) (n : ℕ) → IsNumber n → identifier parts ≡ Some ident
    → children_named (rm (codes "LastMsgNumber")) parts ≡ said (rm (codes "LastMsgNumber")) (decimal n) ∷ []
    → finish_in parts ≡ Some (record { ident = ident; last_number = Some n })
unfolding finish_in
finish_with parts ident n is a b =
    let one = number_again (said (rm (codes "LastMsgNumber")) (decimal n)) n is refl in
    rw (a, b, one) refl

finish_again : (soap ident : List ℕ) (last : Option ℕ) → IsText 512 ident → IfSome last IsNumber
    → finish_in (nodes_tree soap (more (identifier_node ident) (last_nodes last)))
    ≡ Some (record { ident = ident; last_number = last })
finish_again soap ident None is absent =
    let parts = nodes_tree soap (more (identifier_node ident) nothing) in
    finish_from parts ident (ident_from parts ident is refl) refl
finish_again soap ident (Some n) is some =
    let parts = nodes_tree soap (more (identifier_node ident) (last_nodes (Some n))) in
    finish_with parts ident n some (ident_from parts ident is refl) refl

make_again : (soap : List ℕ) (address : Option (List ℕ)) (other : Bool) → IfSome address (IsText 2048)
    → make_in (nodes_tree soap (address_before address (other_nodes other)))
    ≡ Some (record { address = address; other = other })
unfolding make_in
make_again soap None true is = refl
make_again soap None false is = refl
make_again soap (Some uri) true is =
    let one = uri_back (said (mc (codes "Address")) uri) uri is refl in
    rw one refl
make_again soap (Some uri) false is =
    let one = uri_back (said (mc (codes "Address")) uri) uri is refl in
    rw one refl

ident_again : (soap ident : List ℕ) → IsText 512 ident
    → identifier (nodes_tree soap (more (identifier_node ident) nothing)) ≡ Some ident
ident_again soap ident is = ident_from (nodes_tree soap (more (identifier_node ident) nothing)) ident is refl

pub lifecycle_again : Known → (soap : List ℕ) (l : Lifecycle) → IsLifecycleWritable l
    → lifecycle_of (node_tree soap (lifecycle_node l)) ≡ Ok (Some l)
lifecycle_again known soap (bodies.Create x) is = let one = create_again known soap x is in rw one refl
lifecycle_again known soap (bodies.CreateResponse x) is = let one = response_again known soap x is in rw one refl
lifecycle_again known soap (bodies.Close x) is =
    let one = finish_again soap x.ident x.last_number is.ident is.last_number in
    rw one refl
lifecycle_again known soap (bodies.CloseResponse ident) is = let one = ident_again soap ident is in rw one refl
lifecycle_again known soap (bodies.Terminate x) is =
    let one = finish_again soap x.ident x.last_number is.ident is.last_number in
    rw one refl
lifecycle_again known soap (bodies.TerminateResponse ident) is = let one = ident_again soap ident is in rw one refl
lifecycle_again known soap (bodies.Make x) is = let one = make_again soap x.address x.other is in rw one refl
