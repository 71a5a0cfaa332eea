-- The header blocks of what is written are read back, piece by piece.
use Rattle.std.proofs.Common.{◌≡◌, ◌≢◌, ℕ, Bool, true, false, not, ◌||◌, if◌then◌else◌, List, [], ◌∷◌, ◌++◌, Option}
use Rattle.std.proofs.Common.{Some}
use Rattle.std.proofs.Common.{None, codes, refl, sym, ap, subst, ◌∙◌, is_some}
use Rattle.std.specs.List.{AllByRecursion, filter, list_any, flat_map}
use Rattle.std.proofs.lemmas.List.{append-nil}
use Rattle.rm_base.specs.Text.{IsText}
use Rattle.rm_base.specs.declared.message.Binding.{Binding}
use Rattle.soap_lex.specs.Facts.{differ, equal}
use Rattle.soap_document.specs.Profile.Tree.{Element}
use Rattle.soap_document.specs.declared.profile.name.Expanded.{Expanded}
use Rattle.soap_writer.specs.Frame.{addressing_space}
use Rattle.soap_writer.specs.Writable.{IsNameWritable}
use Rattle.soap_envelope.specs.Frame.Framed.{sorted_scope}
use Rattle.soap_envelope.specs.Soap.{is_soap11}
use Rattle.soap_writer.specs.Nodes.Node.{Node, node_tree}
use Rattle.soap_writer.specs.Values.Children.{name_in, value_among}
use Rattle.soap_writer.specs.Values.Outcome.{each}
use Rattle.soap_writer.specs.Values.QNames.{qname_in}
use Rattle.wsa_headers.specs.Addressing.{first_of}
use Rattle.wsa_headers.specs.Writable.{IsAddressingBlock, IsForeign}
use Rattle.rm_message.specs.Elements.Outcome.{rm, mc}
use Rattle.rm_message.specs.Elements.Texts.{ack_node, ask_node, pending_node}
use Rattle.rm_message.specs.Elements.Writable.{IsAckWritable}
use Rattle.rm_message.specs.declared.elements.header.AckBlock.{AckBlock}
use Rattle.rm_message.specs.declared.elements.header.Header.TheVariants as headers
use Rattle.rm_message.specs.declared.elements.header.SeqHeader.{SeqHeader}
use Rattle.rm_message.specs.declared.message.Message.{Message}
use Rattle.message_reader.specs.Blocks.{is_block, blocks, has_block, is_understood, role_name, is_own}
use Rattle.message_reader.specs.Blocks.{is_not_understood}
use Rattle.message_reader.specs.Headers.{acks_in, asks_in, pending_in, sequence_name, told_name}
use Rattle.message_reader.specs.Headers.{told_names, ack_of, ask_of, listed}
use Rattle.message_writer.specs.Text.{not_understood_node, qname}
use Rattle.message_writer.specs.Text11.{sequence_marked}
use Rattle.rm_wire.proofs.Blocks.{trees, tree_if, others, passed, kept, passed_if, kept_if, pieces, told_attr}
use Rattle.rm_wire.proofs.Blocks.{told_tree, told_is}
use Rattle.rm_wire.proofs.Blocks.{addressing_passed, addressing_understood, third_not}
use Rattle.rm_wire.proofs.Known.{Known}
use Rattle.rm_wire.proofs.Names.{declared_with, name_again}

-- ---- of six pieces, one is left

second : (a s k q t n : List Element) → a ≡ [] → k ≡ [] → q ≡ [] → t ≡ [] → n ≡ []
    → a ++ (s ++ (k ++ (q ++ (t ++ n)))) ≡ s
second a s k q t n e g h i j = rw (e, g, h, i, j) (append-nil s)

third : (a s k q t n : List Element) → a ≡ [] → s ≡ [] → q ≡ [] → t ≡ [] → n ≡ []
    → a ++ (s ++ (k ++ (q ++ (t ++ n)))) ≡ k
third a s k q t n e g h i j = rw (e, g, h, i, j) (append-nil k)

fourth : (a s k q t n : List Element) → a ≡ [] → s ≡ [] → k ≡ [] → t ≡ [] → n ≡ []
    → a ++ (s ++ (k ++ (q ++ (t ++ n)))) ≡ q
fourth a s k q t n e g h i j = rw (e, g, h, i, j) (append-nil q)

fifth : (a s k q t n : List Element) → a ≡ [] → s ≡ [] → k ≡ [] → q ≡ [] → n ≡ []
    → a ++ (s ++ (k ++ (q ++ (t ++ n)))) ≡ t
fifth a s k q t n e g h i j = rw (e, g, h, i, j) (append-nil t)

sixth : (a s k q t n : List Element) → a ≡ [] → s ≡ [] → k ≡ [] → q ≡ [] → t ≡ []
    → a ++ (s ++ (k ++ (q ++ (t ++ n)))) ≡ n
sixth a s k q t n e g h i j = rw (e, g, h, i, j) refl

-- ---- the blocks of each name, behind blocks of addressing

-- what may stand last: it has no block of the names that are looked for, none of addressing, and none that had to be
-- understood and is not
pub record MayBeLast (soap : List ℕ) (last : List Element) : Type 0 where
  pub sequence : blocks sequence_name last ≡ []
  pub acks : blocks (rm (codes "SequenceAcknowledgement")) last ≡ []
  pub asks : blocks (rm (codes "AckRequested")) last ≡ []
  pub pending : blocks (mc (codes "MessagePending")) last ≡ []
  pub understood : filter (is_not_understood soap) last ≡ []
  pub foreign : AllByRecursion IsForeign last

all_joined : (P : Element → Type 0) (xs ys : List Element) → AllByRecursion P xs → AllByRecursion P ys
    → AllByRecursion P (xs ++ ys)
all_joined P [] ys a b = b
all_joined P (x ∷ xs) ys a b = (a.0, all_joined P xs ys a.1 b)

all_trees : {A : Type 0} (soap : List ℕ) (f : A → Node) → ((x : A) → IsForeign (node_tree soap (f x))) → (xs : List A)
    → AllByRecursion IsForeign (trees soap f xs)
all_trees soap f is [] = tt
all_trees soap f is (x ∷ xs) = (is x, all_trees soap f is xs)

all_if : {A : Type 0} (soap : List ℕ) (f : A → Node) → ((x : A) → IsForeign (node_tree soap (f x))) → (x : Option A)
    → AllByRecursion IsForeign (tree_if soap f x)
all_if soap f is None = tt
all_if soap f is (Some x) = (is x, tt)

each_back : {A : Type 0} (read : Element → Option A) (soap : List ℕ) (f : A → Node) (xs : List A)
    → AllByRecursion (λ x. read (node_tree soap (f x)) ≡ Some x) xs → each read (trees soap f xs) ≡ Some xs
each_back read soap f [] all = refl
each_back read soap f (x ∷ xs) all = rw (all.0, each_back read soap f xs all.1) refl

acks_each : Known → (soap : List ℕ) (xs : List AckBlock) → AllByRecursion IsAckWritable xs
    → AllByRecursion (λ x. ack_of (node_tree soap (ack_node x)) ≡ Some x) xs
acks_each known soap [] all = tt
acks_each known soap (x ∷ xs) all =
    let one = known.header soap (headers.Ack x) all.0 in
    (rw one refl, acks_each known soap xs all.1)

asks_each : Known → (soap : List ℕ) (xs : List (List ℕ)) → AllByRecursion (IsText 512) xs
    → AllByRecursion (λ x. ask_of (node_tree soap (ask_node x)) ≡ Some x) xs
asks_each known soap [] all = tt
asks_each known soap (x ∷ xs) all =
    let one = known.header soap (headers.Ask x) all.0 in
    (rw one refl, asks_each known soap xs all.1)

pending_at : Known → (soap : List ℕ) (pending : Option Bool) (hs : List Element)
    → blocks (mc (codes "MessagePending")) hs ≡ tree_if soap pending_node pending → pending_in hs ≡ Some pending
pending_at known soap None hs at = rw at refl
pending_at known soap (Some pending) hs at =
    let one = known.header soap (headers.Pending pending) tt in
    rw (at, one) refl

first_left : (b r : Bool) (x : Element) (fs : List Element) → r ≡ is_some (first_of fs)
    → (b || r) ≡ is_some (first_of (if b then x ∷ fs else fs))
first_left true r x fs e = refl
first_left false r x fs e = e

any_left : (p : Element → Bool) (xs : List Element) → list_any p xs ≡ is_some (first_of (filter p xs))
any_left p [] = refl
any_left p (x ∷ xs) = first_left (p x) (list_any p xs) x (filter p xs) (any_left p xs)

has_number : (soap mark : List ℕ) (x : Option SeqHeader)
    → is_some (first_of (tree_if soap (sequence_marked mark) x)) ≡ is_some x
has_number soap mark None = refl
has_number soap mark (Some x) = refl

module _ (soap mark : List ℕ) (m : Message) (last : List Element) where
  -- what stands behind the blocks of addressing passes a test piece by piece
  by_piece : (p : Element → Bool) (bs : List Element) → filter p (bs ++ others soap mark m last)
      ≡ filter p bs ++ (filter p (tree_if soap (sequence_marked mark) m.sequence)
      ++ (filter p (trees soap ack_node m.acks) ++ (filter p (trees soap ask_node m.asks)
      ++ (filter p (tree_if soap pending_node m.pending) ++ filter p last))))
  by_piece p bs =
      pieces p bs (tree_if soap (sequence_marked mark) m.sequence) (trees soap ack_node m.acks)
      (trees soap ask_node m.asks) (tree_if soap pending_node m.pending) last

  -- those that stand last, where none of the others does
  pub lasts : (p : Element → Bool) (bs : List Element) → filter p bs ≡ []
      → ((x : SeqHeader) → p (node_tree soap (sequence_marked mark x)) ≡ false)
      → ((x : AckBlock) → p (node_tree soap (ack_node x)) ≡ false)
      → ((x : List ℕ) → p (node_tree soap (ask_node x)) ≡ false)
      → ((x : Bool) → p (node_tree soap (pending_node x)) ≡ false)
      → filter p (bs ++ others soap mark m last) ≡ filter p last
  lasts p bs own s k q t =
      by_piece p bs
      ∙ sixth _ _ _ _ _ _ own (passed_if p soap (sequence_marked mark) s m.sequence) (passed p soap ack_node k m.acks)
      (passed p soap ask_node q m.asks) (passed_if p soap pending_node t m.pending)

  module _ (may : MayBeLast soap last) (bs : List Element) (own : AllByRecursion IsAddressingBlock bs) where
    pub sequences : blocks sequence_name (bs ++ others soap mark m last)
        ≡ tree_if soap (sequence_marked mark) m.sequence
    sequences =
        let p = is_block sequence_name in
        by_piece p bs
        ∙ second _ _ _ _ _ _ (addressing_passed sequence_name refl bs own) (passed p soap ack_node (λ x. refl) m.acks)
        (passed p soap ask_node (λ x. refl) m.asks) (passed_if p soap pending_node (λ x. refl) m.pending) may.sequence
        ∙ kept_if p soap (sequence_marked mark) (λ x. refl) m.sequence

    acknowledgements : blocks (rm (codes "SequenceAcknowledgement")) (bs ++ others soap mark m last)
        ≡ trees soap ack_node m.acks
    acknowledgements =
        let name = rm (codes "SequenceAcknowledgement") in
        let p = is_block name in
        by_piece p bs
        ∙ third _ _ _ _ _ _ (addressing_passed name refl bs own)
        (passed_if p soap (sequence_marked mark) (λ x. refl) m.sequence)
        (passed p soap ask_node (λ x. refl) m.asks) (passed_if p soap pending_node (λ x. refl) m.pending) may.acks
        ∙ kept p soap ack_node (λ x. refl) m.acks

    requests : blocks (rm (codes "AckRequested")) (bs ++ others soap mark m last) ≡ trees soap ask_node m.asks
    requests =
        let name = rm (codes "AckRequested") in
        let p = is_block name in
        by_piece p bs
        ∙ fourth _ _ _ _ _ _ (addressing_passed name refl bs own)
        (passed_if p soap (sequence_marked mark) (λ x. refl) m.sequence)
        (passed p soap ack_node (λ x. refl) m.acks) (passed_if p soap pending_node (λ x. refl) m.pending) may.asks
        ∙ kept p soap ask_node (λ x. refl) m.asks

    marks : blocks (mc (codes "MessagePending")) (bs ++ others soap mark m last) ≡ tree_if soap pending_node m.pending
    marks =
        let name = mc (codes "MessagePending") in
        let p = is_block name in
        by_piece p bs
        ∙ fifth _ _ _ _ _ _ (addressing_passed name refl bs own)
        (passed_if p soap (sequence_marked mark) (λ x. refl) m.sequence)
        (passed p soap ack_node (λ x. refl) m.acks) (passed p soap ask_node (λ x. refl) m.asks) may.pending
        ∙ kept_if p soap pending_node (λ x. refl) m.pending

    -- none of them is one that had to be understood and is not
    pub all_understood : filter (is_not_understood soap) (bs ++ others soap mark m last) ≡ []
    all_understood =
        lasts (is_not_understood soap) bs (addressing_understood soap bs own) (λ x. refl) (λ x. refl) (λ x. refl)
        (λ x. refl) ∙ may.understood

    -- none is of addressing
    pub all_foreign : Known → AllByRecursion IsForeign (others soap mark m last)
    all_foreign known =
        let join = all_joined IsForeign in
        join _ _ (all_if soap (sequence_marked mark) (λ x. record { unmarked = refl; space = refl }) m.sequence)
        (join _ _ (all_trees soap ack_node (λ x. known.foreign soap (headers.Ack x)) m.acks)
        (join _ _ (all_trees soap ask_node (λ x. known.foreign soap (headers.Ask x)) m.asks)
        (join _ _ (all_if soap pending_node (λ x. known.foreign soap (headers.Pending x)) m.pending) may.foreign)))

    -- what they say
    pub acks_back : Known → AllByRecursion IsAckWritable m.acks
        → acks_in (bs ++ others soap mark m last) ≡ Some m.acks
    acks_back known all =
        ap (each ack_of) acknowledgements ∙ each_back ack_of soap ack_node m.acks (acks_each known soap m.acks all)

    pub asks_back : Known → AllByRecursion (IsText 512) m.asks
        → asks_in (bs ++ others soap mark m last) ≡ Some m.asks
    asks_back known all =
        ap (each ask_of) requests ∙ each_back ask_of soap ask_node m.asks (asks_each known soap m.asks all)

    pub pending_back : Known → pending_in (bs ++ others soap mark m last) ≡ Some m.pending
    pending_back known = pending_at known soap m.pending (bs ++ others soap mark m last) marks

    -- whether there is a number
    pub is_numbered_back : has_block sequence_name (bs ++ others soap mark m last) ≡ is_some m.sequence
    is_numbered_back =
        any_left (is_block sequence_name) (bs ++ others soap mark m last) ∙ ap (λ l. is_some (first_of l)) sequences
        ∙ has_number soap mark m.sequence

-- ---- the names that were not understood

-- their blocks
abbrev pub told : List ℕ → Message → List Element
told soap m = trees soap not_understood_node m.not_understood

told_block : (soap : List ℕ) (name : Expanded)
    → is_block (name_in soap (codes "NotUnderstood")) (node_tree soap (not_understood_node name)) ≡ true
told_block soap name =
    ap (is_block (name_in soap (codes "NotUnderstood"))) (told_is soap name)
    ∙ (let same = equal soap soap refl in rw same refl)

told_understood : (soap : List ℕ) (name : Expanded)
    → is_not_understood soap (node_tree soap (not_understood_node name)) ≡ false
told_understood soap name =
    let fails : is_not_understood soap (told_tree soap name) ≡ false =
    third_not true (not (is_understood soap (name_in soap (codes "NotUnderstood"))))
    (is_own soap (value_among (role_name soap) (told_attr name ∷ []))) in
    ap (is_not_understood soap) (told_is soap name) ∙ fails

told_foreign : (soap : List ℕ) → soap ≢ addressing_space → (name : Expanded)
    → IsForeign (node_tree soap (not_understood_node name))
told_foreign soap other name =
    let is : IsForeign (told_tree soap name) = record { unmarked = refl; space = differ soap addressing_space other } in
    subst IsForeign (sym (told_is soap name)) is

pub told_last : (soap : List ℕ) (m : Message) → soap ≢ addressing_space → MayBeLast soap (told soap m)
told_last soap m other =
    record {
      sequence = passed (is_block sequence_name) soap not_understood_node (λ x. refl) m.not_understood;
      acks = passed (is_block (rm (codes "SequenceAcknowledgement"))) soap not_understood_node (λ x. refl)
          m.not_understood;
      asks = passed (is_block (rm (codes "AckRequested"))) soap not_understood_node (λ x. refl) m.not_understood;
      pending = passed (is_block (mc (codes "MessagePending"))) soap not_understood_node (λ x. refl) m.not_understood;
      understood = passed (is_not_understood soap) soap not_understood_node (told_understood soap) m.not_understood;
      foreign = all_trees soap not_understood_node (told_foreign soap other) m.not_understood;
    }

names : (soap mark : List ℕ) (m : Message) (bs : List Element) → soap ≢ addressing_space
    → AllByRecursion IsAddressingBlock bs
    → blocks (name_in soap (codes "NotUnderstood")) (bs ++ others soap mark m (told soap m)) ≡ told soap m
names soap mark m bs other own =
    let name = name_in soap (codes "NotUnderstood") in
    lasts soap mark m (told soap m) (is_block name) bs
    (addressing_passed name (differ addressing_space soap (λ e. other (sym e))) bs own) (λ x. refl) (λ x. refl)
    (λ x. refl) (λ x. refl)
    ∙ kept (is_block name) soap not_understood_node (told_block soap) m.not_understood

told_back : (soap : List ℕ) (name : Expanded) → IsNameWritable name
    → told_name (sorted_scope soap) (node_tree soap (not_understood_node name)) ≡ Some name
told_back soap name is =
    ap (told_name (sorted_scope soap)) (told_is soap name)
    ∙ ap (λ (l : List Binding). qname_in (l ++ sorted_scope soap) (qname name)) (append-nil (declared_with name))
    ∙ name_again soap name is

told_each : (soap : List ℕ) (xs : List Expanded) → AllByRecursion IsNameWritable xs
    → flat_map (λ e. listed (told_name (sorted_scope soap) e)) (trees soap not_understood_node xs) ≡ xs
told_each soap [] all = refl
told_each soap (x ∷ xs) all =
    ap (λ (o : Option Expanded). listed o ++ flat_map (λ e. listed (told_name (sorted_scope soap) e))
    (trees soap not_understood_node xs)) (told_back soap x all.0)
    ∙ ap (λ l. x ∷ l) (told_each soap xs all.1)

pub names_back : (soap mark : List ℕ) (m : Message) (bs : List Element) → is_soap11 soap ≡ false
    → soap ≢ addressing_space → AllByRecursion IsAddressingBlock bs → AllByRecursion IsNameWritable m.not_understood
    → told_names soap (sorted_scope soap) (bs ++ others soap mark m (told soap m)) ≡ m.not_understood
names_back soap mark m bs later other own all =
    rw later (ap (flat_map (λ e. listed (told_name (sorted_scope soap) e))) (names soap mark m bs other own)
    ∙ told_each soap m.not_understood all)
