-- Which of the blocks of what is written are of which name.
use Rattle.std.proofs.Common.{◌≡◌, inl, inr, ℕ, Bool, true, false, not, ◌&&◌, if◌then◌else◌, List, [], ◌∷◌}
use Rattle.std.proofs.Common.{◌++◌, Option, Some, None, codes, map, refl, ap, ◌∙◌}
use Rattle.std.specs.Prelude.{option_map}
use Rattle.std.specs.List.{AllByRecursion, filter, flat_map}
use Rattle.std.specs.Option.{option_to_list}
use Rattle.std.specs.Str.{bytes_eq}
use Rattle.std.proofs.lemmas.List.{map-append}
use Rattle.std.proofs.lemmas.List.Elements.{filter-append}
use Rattle.soap_document.specs.Profile.Tree.{Element, element, none, name_of, children_of}
use Rattle.soap_document.specs.declared.profile.name.Expanded.{Expanded}
use Rattle.soap_document.specs.declared.profile.tree.Attr.{Attr}
use Rattle.soap_writer.specs.Frame.{addressing_space}
use Rattle.soap_writer.specs.Nodes.Node.{Node, Nodes, nothing, words, more, declared, note_attrs, node_tree, nodes_tree}
use Rattle.soap_writer.specs.Values.Children.{name_in}
use Rattle.wsa_headers.specs.Texts.{addressing_nodes}
use Rattle.wsa_headers.specs.Writable.{addressing_blocks, IsAddressingBlock}
use Rattle.rm_message.specs.Elements.Texts.{ack_node, ask_node, pending_node}
use Rattle.rm_message.specs.declared.message.Message.{Message}
use Rattle.message_reader.specs.Blocks.{is_block, blocks, is_understood, is_own, is_not_understood}
use Rattle.message_writer.specs.Text.{node_list, not_understood_node, qname}
use Rattle.message_writer.specs.Text11.{sequence_marked, blocks_with}
use Rattle.rm_wire.proofs.Names.{declared_with}

-- ---- the blocks, piece by piece

-- the trees of one kind of blocks
abbrev pub trees : {A : Type 0} → List ℕ → (A → Node) → List A → List Element
trees soap f xs = map (node_tree soap) (map f xs)

-- the tree of a block that may be absent
abbrev pub tree_if : {A : Type 0} → List ℕ → (A → Node) → Option A → List Element
tree_if soap f x = map (node_tree soap) (option_to_list (option_map f x))

-- the blocks behind those of addressing, with this mark on Sequence and with these last
abbrev pub others : List ℕ → List ℕ → Message → List Element → List Element
others soap mark m last =
    tree_if soap (sequence_marked mark) m.sequence ++ (trees soap ack_node m.acks ++ (trees soap ask_node m.asks
    ++ (tree_if soap pending_node m.pending ++ last)))

listed_trees : (soap : List ℕ) (nodes : Nodes) → map (node_tree soap) (node_list nodes)
    ≡ children_of (nodes_tree soap nodes)
listed_trees soap nothing = refl
listed_trees soap (words bytes) = refl
listed_trees soap (more node nodes) = ap (λ l. node_tree soap node ∷ l) (listed_trees soap nodes)

pub header_is : (soap mark : List ℕ) (m : Message) (last : List Node)
    → map (node_tree soap) (blocks_with mark m last)
    ≡ addressing_blocks soap m.addressing ++ others soap mark m (map (node_tree soap) last)
header_is soap mark m last =
    let tree = node_tree soap in
    let addressing = node_list (addressing_nodes m.addressing) in
    let sequence = option_to_list (option_map (sequence_marked mark) m.sequence) in
    let acks = map ack_node m.acks in
    let asks = map ask_node m.asks in
    let pending = option_to_list (option_map pending_node m.pending) in
    map-append tree addressing (sequence ++ (acks ++ (asks ++ (pending ++ last))))
    ∙ ap (λ l. l ++ map tree (sequence ++ (acks ++ (asks ++ (pending ++ last)))))
    (listed_trees soap (addressing_nodes m.addressing))
    ∙ ap (λ l. addressing_blocks soap m.addressing ++ l)
    (map-append tree sequence (acks ++ (asks ++ (pending ++ last)))
    ∙ ap (λ l. map tree sequence ++ l) (map-append tree acks (asks ++ (pending ++ last))
    ∙ ap (λ l. map tree acks ++ l) (map-append tree asks (pending ++ last)
    ∙ ap (λ l. map tree asks ++ l) (map-append tree pending last))))

-- ---- a test of each

pub passed : {A : Type 0} (p : Element → Bool) (soap : List ℕ) (f : A → Node)
    → ((x : A) → p (node_tree soap (f x)) ≡ false) → (xs : List A) → filter p (trees soap f xs) ≡ []
passed p soap f fails [] = refl
passed p soap f fails (x ∷ xs) = rw (fails x) (passed p soap f fails xs)

pub kept : {A : Type 0} (p : Element → Bool) (soap : List ℕ) (f : A → Node)
    → ((x : A) → p (node_tree soap (f x)) ≡ true) → (xs : List A) → filter p (trees soap f xs) ≡ trees soap f xs
kept p soap f holds [] = refl
kept p soap f holds (x ∷ xs) = rw (holds x) (ap (λ l. node_tree soap (f x) ∷ l) (kept p soap f holds xs))

pub passed_if : {A : Type 0} (p : Element → Bool) (soap : List ℕ) (f : A → Node)
    → ((x : A) → p (node_tree soap (f x)) ≡ false) → (x : Option A) → filter p (tree_if soap f x) ≡ []
passed_if p soap f fails None = refl
passed_if p soap f fails (Some x) = rw (fails x) refl

pub kept_if : {A : Type 0} (p : Element → Bool) (soap : List ℕ) (f : A → Node)
    → ((x : A) → p (node_tree soap (f x)) ≡ true) → (x : Option A) → filter p (tree_if soap f x) ≡ tree_if soap f x
kept_if p soap f holds None = refl
kept_if p soap f holds (Some x) = rw (holds x) refl

-- what passes a test, piece by piece
pub pieces : (p : Element → Bool) (a s k q t n : List Element)
    → filter p (a ++ (s ++ (k ++ (q ++ (t ++ n)))))
    ≡ filter p a ++ (filter p s ++ (filter p k ++ (filter p q ++ (filter p t ++ filter p n))))
pieces p a s k q t n =
    filter-append p a (s ++ (k ++ (q ++ (t ++ n))))
    ∙ ap (λ l. filter p a ++ l) (filter-append p s (k ++ (q ++ (t ++ n)))
    ∙ ap (λ l. filter p s ++ l) (filter-append p k (q ++ (t ++ n))
    ∙ ap (λ l. filter p k ++ l) (filter-append p q (t ++ n)
    ∙ ap (λ l. filter p q ++ l) (filter-append p t n))))

-- ---- a block that says what was not understood

no_attrs : (soap : List ℕ) (b : Bool) (prefix space : List ℕ)
    → flat_map (note_attrs soap) (if b then [] else declared prefix space ∷ []) ≡ []
no_attrs soap true prefix space = refl
no_attrs soap false prefix space = refl

-- the attribute that it has
abbrev pub told_attr : Expanded → Attr
told_attr name = record { name = name_in [] (codes "qname"); value = qname name }

-- its tree
abbrev pub told_tree : List ℕ → Expanded → Element
told_tree soap name = element (name_in soap (codes "NotUnderstood")) (declared_with name) (told_attr name ∷ []) none

pub told_is : (soap : List ℕ) (name : Expanded) → node_tree soap (not_understood_node name) ≡ told_tree soap name
told_is soap name =
    let called = name_in soap (codes "NotUnderstood") in
    ap (λ (l : List Attr). element called (declared_with name) (told_attr name ∷ l) none)
    (no_attrs soap _ (codes "q") name.space)

-- ---- blocks of addressing

last_not : (a : Bool) → (a && false) ≡ false
last_not true = refl
last_not false = refl

pub addressing_passed : (name : Expanded) → bytes_eq addressing_space name.space ≡ false → (bs : List Element)
    → AllByRecursion IsAddressingBlock bs → blocks name bs ≡ []
addressing_passed name other [] all = refl
addressing_passed name other (e ∷ bs) all =
    let fails : is_block name e ≡ false = elim (all.0) as (λ _. is_block name e ≡ false) [
      | inl marked ↦ rw marked (last_not _)
      | inr own ↦ rw (own.0, other, last_not (bytes_eq (name_of e).local name.local)) refl
    ] in
    rw fails (addressing_passed name other bs (all.1))

pub third_not : (a b c : Bool) → (a && b && false && c) ≡ false
third_not true true c = refl
third_not true false c = refl
third_not false b c = refl

pub addressing_understood : (soap : List ℕ) (bs : List Element) → AllByRecursion IsAddressingBlock bs
    → filter (is_not_understood soap) bs ≡ []
addressing_understood soap [] all = refl
addressing_understood soap (e ∷ bs) all =
    let fails : is_not_understood soap e ≡ false = elim (all.0) as (λ _. is_not_understood soap e ≡ false) [
      | inl marked ↦ rw marked refl
      | inr own ↦ rw (own.1) (third_not true (not (is_understood soap (name_of e))) (is_own soap None))
    ] in
    rw fails (addressing_understood soap bs (all.1))
