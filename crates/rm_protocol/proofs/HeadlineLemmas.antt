-- Nodes that agree keep the headline.
use Rattle.std.proofs.Common.{◌≡◌, ◌⊎◌, ℕ, zero, suc, ◌+◌, ◌<◌, ◌≤◌, ◌==◌, ◌&&◌, ◌||◌, nat_lt, cond, Bool, true}
use Rattle.std.proofs.Common.{false, List, [], ◌∷◌, ◌++◌, length, refl, sym, ap, ◌∙◌, arith, subst, map, append-nil}
use Rattle.std.proofs.Common.{length-append, inl, inr}
use Rattle.std.specs.Prelude.{Option, Some, None, slice_get}
use Rattle.std.specs.List.{AllByRecursion}
use Rattle.std.proofs.lemmas.Bool.{eqb-true}
use Rattle.rm_sides.specs.declared.ranges.range.Range.{Range}
use Rattle.rm_sides.specs.Ranges.Ranges.{in_ranges}
use Rattle.rm_base.specs.Message.{max_number}
use Rattle.rm_base.specs.Numbered.{numbered}
use Rattle.rm_base.specs.NumberSet.{has_number}
use Rattle.rm_base.specs.declared.message.Behaviour.{Behaviour}
use Rattle.rm_base.specs.declared.message.Cause.TheVariants.{Peer}
use Rattle.rm_base.specs.declared.message.Payload.{Payload}
use Rattle.record_batch.specs.Fact.{Fact, Created, Granted, Acked, Received, Closed, Ended, Dropped}
use Rattle.rm_sides.specs.Destination.Messages.{is_empty, sorted_onto, with_message, without_gap, numbers_of}
use Rattle.rm_sides.specs.Destination.Messages.{contents_of}
use Rattle.record_batch.specs.Sequences.Words.{Text}
use Rattle.record_batch.specs.Sequences.Idents.{issue}
use Rattle.record_batch.specs.Sequences.Makers.{Maker, Outgoing, Offered, Incoming, Taken, makers, makers_of, maker}
use Rattle.record_batch.specs.Sequences.Makers.{counter}
use Rattle.record_batch.specs.Sequences.Makers.{number, created_from, ident_in}
use Rattle.record_batch.specs.Sequences.Sources.{accepted, acked, marks}
use Rattle.rm_sides.specs.Destination.Incoming.{inbox_of, is_loose}
use Rattle.record_batch.specs.Sequences.Destinations.{received, received_of, told, behaviour}
use Rattle.rm_sides.specs.Destination.Incoming.{is_whole, is_whole_by, last_number as last_told}
use Rattle.record_batch.specs.Sequences.Destinations.{texts}
use Rattle.record_batch.specs.Sequences.Find.{IsOutgoing, IsIncoming, incoming_of}
use Rattle.rm_protocol.specs.Sound.{IsHeld, IsGranted, IsAgreed, IsSourced, AreKept, IsTold, IsWith, IfWith}
use Rattle.rm_protocol.specs.Sound.{Justified, highest, drawn, Owns, Agree, AreWith, NothingIsGone}
use Rattle.std.proofs.Common.{◌^◌, drop}
use Rattle.rm_base.specs.NumberSet.{greatest_of}
use Rattle.rm_base.specs.declared.message.Behaviour.TheVariants.{NoDiscard, EntireSequence, FollowingFirstGap}
use Rattle.record_batch.specs.Sequences.Idents.{IssuesOnce}
use Rattle.rm_protocol.specs.Word.{IsItemOf, IsPrefixOf, KeepsWholeWord, Matches}
use Rattle.rm_protocol.proofs.ListLemmas.{All-append, All-numbered, numbered-next, numbered-map, numbered-within}
use Rattle.rm_protocol.proofs.ListLemmas.{Rises-unique, Rises-below}
use Rattle.rm_protocol.proofs.Kept.{in_ranges-join}

-- sequence s of the node with records a is one with the other node
pub record IsBetween (a b : List Fact) (s : ℕ) : Type 0 where
  pub is : (m : Maker) → maker a s ≡ Some m → IsWith b m

abbrev first_in : ℕ → Option (ℕ × Text) → ℕ
first_in c None = c
first_in c (Some x) = x.0

counter_of : {c d : ℕ} {t u : Text} → ◌≡◌ {A = Option (ℕ × Text)} (Some (c, t)) (Some (d, u)) → c ≡ d
counter_of {c} e = ap (first_in c) e

-- an incoming sequence has one identifier, and an identifier one incoming sequence
same_ident : (r : List Fact) (t : ℕ) (q p u v : Text) → IsIncoming r t q u → IsIncoming r t p v → q ≡ p
same_ident r t q p u v h k =
    let maker : h.maker_ ≡ k.maker_ = cc (h.there, k.there) in
    let made : incoming_of (number r) h.maker_ ≡ incoming_of (number r) k.maker_ = ap (incoming_of (number r)) maker in
    let same : h.counter ≡ k.counter = counter_of (sym h.made ∙ made ∙ k.made) in
    h.is ∙ ap (issue (number r)) same ∙ sym k.is

drawn-made : (n : ℕ) (m : Maker) (c : ℕ) (t : Text) → incoming_of n m ≡ Some (c, t) → drawn m ≡ Some c
drawn-made n (Incoming d u k y l z) c t e = ap Some (counter_of e)
drawn-made n (Offered k d to y) c t e = ap Some (counter_of e)
drawn-made n (Outgoing k to v l) c t e = absurd (cc)
drawn-made n (Taken u q k) c t e = absurd (cc)

-- the numbers that a node drew are few
pub record IsSmall (n : ℕ) (r : List Fact) : Type 0 where
  pub node : n < 2 ^ 60
  pub counter : counter r < 2 ^ 62

pub drawn-at : (r : List Fact) (s : ℕ) (q u : Text) (h : IsIncoming r s q u)
    → numbered (map drawn (makers r)) s ≡ Some (Some h.counter)
drawn-at r s q u h = numbered-map drawn (makers r) s h.maker_ h.there
    ∙ ap Some (drawn-made (number r) h.maker_ h.counter u h.made)

pub drawn-small : (n : ℕ) (r : List Fact) (s : ℕ) (q u : Text) (h : IsIncoming r s q u) → Owns n r → IsSmall n r
    → h.counter < 2 ^ 62
drawn-small n r s q u h o small =
    let below : h.counter ≤ highest 0 (map drawn (makers r)) =
    Rises-below (map drawn (makers r)) s h.counter o.rising (drawn-at r s q u h) in
    let counted : highest 0 (map drawn (makers r)) ≤ counter r = o.below in
    let few : counter r < 2 ^ 62 = small.counter in
    omega arith

same_incoming : IssuesOnce → (n : ℕ) (r : List Fact) (s t : ℕ) (q u v : Text) → IsSmall n r → Owns n r
    → IsIncoming r s q u → IsIncoming r t q v → s ≡ t
same_incoming once n r s t q u v small o h k =
    let node : number r < 2 ^ 60 = subst (λ z. z < 2 ^ 60) (sym o.number) small.node in
    let same : h.counter ≡ k.counter =
    once (number r) h.counter k.counter node (drawn-small n r s q u h o small) (drawn-small n r t q v k o small)
    (sym h.is ∙ k.is) in
    Rises-unique (map drawn (makers r)) s t h.counter o.rising (drawn-at r s q u h)
    (drawn-at r t q v k ∙ ap (λ z. Some (Some z)) (sym same))

-- what was received on a sequence, record by record
pub received-all : (a b : List Fact) (t : ℕ) (P : ℕ × Payload → Type 0) → IsBetween b a t
    → ((i : ℕ) (p : Payload) → IsSourced b a t i p.bytes → P (i, p))
    → (r : List Fact) → AllByRecursion (Justified b a) r → AllByRecursion P (received r t)
received-all a b t P w f [] h = tt
received-all a b t P w f (Received s i p ∷ r) h =
    All-append P (received_of t (Received s i p)) (received r t)
    (elim (s == t) as (λ z. (s == t) ≡ z → AllByRecursion P (cond z ((i, p) ∷ []) [])) [
      | true ↦ λ e. (
        let at = subst (λ y. IfWith b a y (IsSourced b a y i p.bytes)) (eqb-true s t e) h.0 in
            f i p (at.holds (w.is at.maker_ at.there)),
        tt,
      )
      | false ↦ λ e. tt
    ] refl)
    (received-all a b t P w f r h.1)
received-all a b t P w f (rec ∷ r) h = received-all a b t P w f r h.1

in_ranges-either : (xs ys : List Range) (n : ℕ) → in_ranges (xs ++ ys) n ≡ true
    → (in_ranges xs n ≡ true) ⊎ (in_ranges ys n ≡ true)
in_ranges-either xs ys n h = either (in_ranges xs n) (in_ranges ys n) (sym (in_ranges-join xs ys n) ∙ h)
  where
    either : (x y : Bool) → (x || y) ≡ true → (x ≡ true) ⊎ (y ≡ true)
    either true y e = inl refl
    either false y e = inr e

-- an acknowledged number stands in a record
pub acked-one : (a b : List Fact) (s n : ℕ) (P : Type 0) → IsBetween a b s
    → ((ns : List Range) → AreKept a b s ns → in_ranges ns n ≡ true → P)
    → (r : List Fact) → NothingIsGone r → AllByRecursion (Justified a b) r → in_ranges (acked r s) n ≡ true → P
acked-one a b s n P w f [] live h e = absurd (cc)
acked-one a b s n P w f (Dropped t upto ∷ r) live h e = absurd live.0
acked-one a b s n P w f (Acked t ns ∷ r) live h e =
    elim (t == s) as (λ z. (t == s) ≡ z → in_ranges (cond z ns [] ++ acked r s) n ≡ true → P) [
      | true ↦ λ d k. elim (in_ranges-either ns (acked r s) n k) [
        | inl x ↦ let at = subst (λ y. IfWith a b y (AreKept a b y ns)) (eqb-true t s d) h.0 in
            f ns (at.holds (w.is at.maker_ at.there)) x
        | inr x ↦ acked-one a b s n P w f r live.1 h.1 x
      ]
      | false ↦ λ d k. acked-one a b s n P w f r live.1 h.1 k
    ] refl e
acked-one a b s n P w f (rec ∷ r) live h e = acked-one a b s n P w f r live.1 h.1 e

numbered-skip : {A : Type 0} (xs ys : List A) (i : ℕ) (x : A) → numbered ys i ≡ Some x
    → numbered (xs ++ ys) (length xs + i) ≡ Some x
numbered-skip xs ys zero x e = absurd (cc)
numbered-skip [] ys (suc i) x e = let place : 0 + suc i ≡ suc i = omega arith in rw place e
numbered-skip (z ∷ xs) ys (suc i) x e =
    let rest : numbered (xs ++ ys) (length xs + suc i) ≡ Some x = numbered-skip xs ys (suc i) x e in
    let inner : length xs + suc i ≡ suc (length xs + i) = omega arith in
    let outer : suc (length xs) + suc i ≡ suc (suc (length xs + i)) = omega arith in
    subst (λ n. numbered (z ∷ xs ++ ys) n ≡ Some x) (sym outer)
    (numbered-next (z ∷ (xs ++ ys)) (suc (length xs + i))
    ∙ sym (numbered-next (xs ++ ys) (length xs + i)) ∙ subst (λ n. numbered (xs ++ ys) n ≡ Some x) inner rest)

-- a sequence with an identifier matches one of the other node
pub created-one : (a b r : List Fact) (k s : ℕ) (q : Text) → IsBetween a b s
    → ((i : ℕ) (m : Maker) → numbered (makers r) i ≡ Some m → numbered (makers a) (k + i) ≡ Some m)
    → AllByRecursion (Justified a b) r → ident_in (created_from k r) s ≡ Some q → (t : Text) × IsGranted b t q
created-one a b [] k s q w at h e = absurd (cc)
created-one a b (Created t p accept ∷ r) k s q w at h e =
    elim (t == s) as (λ z. (t == s) ≡ z → cond z (Some p) (ident_in (created_from (k + 0) r) s) ≡ Some q → (t : Text)
    × IsGranted b t q) [
      | true ↦ λ c d.
          let same : p ≡ q = cc in
          let here = subst (λ y. IfWith a b y (IsAgreed a b y p)) (eqb-true t s c) h.0 in
          let agreed = here.holds (w.is here.maker_ here.there) in
          (agreed.message_id, subst (IsGranted b agreed.message_id) same agreed.granted)
      | false ↦ λ c d. created-one a b r (k + 0) s q w
          (λ i m x. let z : k + 0 + i ≡ k + i = omega arith in rw z (at i m x)) h.1 d
    ] refl e
created-one a b (Granted c u acks y l j (Some taken) ∷ r) k s q w at h e =
    elim (k + 2 == s) as (λ z. (k + 2 == s) ≡ z
    → cond z (Some taken.ident) (ident_in (created_from (k + 2) r) s) ≡ Some q → (t : Text) × IsGranted b t q) [
      | true ↦ λ c0 d.
          let same : taken.ident ≡ q = cc in
          let place : k + 2 ≡ s = eqb-true (k + 2) s c0 in
          let maker : numbered (makers a) s ≡ Some (Taken u taken.ident taken.endpoint) =
          subst (λ z. numbered (makers a) z ≡ Some (Taken u taken.ident taken.endpoint)) place
          (at 2 (Taken u taken.ident taken.endpoint) refl) in
          let there = w.is (Taken u taken.ident taken.endpoint) maker in
          (u, subst (IsGranted b u) same (h.0 there).1)
      | false ↦ λ c0 d. created-one a b r (k + 2) s q w (λ i m x. let z : k + 2 + i ≡ k + (2 + i) = omega arith in
          rw z (at (2 + i) m (numbered-skip (Incoming c u acks y l j ∷ Taken u taken.ident taken.endpoint ∷ [])
          (makers r) i m x))) h.1 d
    ] refl e
created-one a b (Granted c u acks y l j None ∷ r) k s q w at h e =
    created-one a b r (k + 1) s q w (λ i m x. let z : k + 1 + i ≡ k + (1 + i) = omega arith in
    rw z (at (1 + i) m (numbered-skip (Incoming c u acks y l j ∷ []) (makers r) i m x))) h.1 e
created-one a b (rec ∷ r) k s q w at h e =
    created-one a b r (k + length (makers_of rec)) s q w (λ i m x.
    let z : k + length (makers_of rec) + i ≡ k + (length (makers_of rec) + i) = omega arith in
    rw z (at (length (makers_of rec) + i) m (numbered-skip (makers_of rec) (makers r) i m x))) h.1 e

All-with_message : (P : (ℕ × Payload) → Type 0) (ms : List (ℕ × Payload)) (n : ℕ) (p : Payload)
    → AllByRecursion P ms → P (n, p) → AllByRecursion P (with_message ms n p)
All-with_message P [] n p h q = (q, tt)
All-with_message P (m ∷ ms) n p h q =
    elim (nat_lt n m.0) as (λ b. AllByRecursion P (cond b ((n, p) ∷ m ∷ ms) (cond (n == m.0) (m ∷ ms)
    (m ∷ with_message ms n p)))) [
      | true ↦ (q, h)
      | false ↦ elim (n == m.0) as (λ b. AllByRecursion P (cond b (m ∷ ms) (m ∷ with_message ms n p))) [
        | true ↦ h
        | false ↦ (h.0, All-with_message P ms n p h.1 q)
      ]
    ]

All-sorted : (P : (ℕ × Payload) → Type 0) (acc ms : List (ℕ × Payload)) → AllByRecursion P acc → AllByRecursion P ms
    → AllByRecursion P (sorted_onto acc ms)
All-sorted P acc [] h k = h
All-sorted P acc (m ∷ ms) h k = All-sorted P (with_message acc m.0 m.1) ms (All-with_message P acc m.0 m.1 h k.0) k.1

drop-numbered : {A : Type 0} (xs : List A) (k : ℕ) (x : A) → slice_get xs k ≡ Some x → drop k xs ≡ x ∷ drop (k + 1) xs
drop-numbered [] k x e = absurd (cc)
drop-numbered (y ∷ ys) zero x e = let same : y ≡ x = cc in ap (λ z. z ∷ ys) same
drop-numbered (y ∷ ys) (suc k) x e = let next : suc k + 1 ≡ suc (k + 1) = omega arith in
    rw next (drop-numbered ys k x e)

without_gap-prefix : (n : ℕ) (given : List Text) (ms : List (ℕ × Payload)) → AllByRecursion (IsItemOf given) ms
    → IsPrefixOf (texts (without_gap n ms)) (drop n given)
without_gap-prefix n given [] h = (drop n given, refl)
without_gap-prefix n given (m ∷ ms) h =
    elim (m.0 == n + 1) as (λ b. (m.0 == n + 1) ≡ b
    → IsPrefixOf (texts (cond b (m.1 ∷ without_gap m.0 ms) [])) (drop n given)) [
      | true ↦ λ e.
          let number : m.0 ≡ n + 1 = eqb-true m.0 (n + 1) e in
          let rest = without_gap-prefix m.0 given ms h.1 in
          let there : numbered given (suc n) ≡ Some m.1.bytes =
          subst (λ k. numbered given k ≡ Some m.1.bytes) (omega arith) h.0 in
          let item : drop n given ≡ m.1.bytes ∷ drop (n + 1) given =
          drop-numbered given n m.1.bytes (sym (numbered-next given n) ∙ there) in (
            rest.0,
            item ∙ ap (λ l. m.1.bytes ∷ l)
                (subst (λ k. drop k given ≡ texts (without_gap m.0 ms) ++ rest.0) number rest.1),
          )
      | false ↦ λ _. (drop n given, refl)
    ] refl

-- each message received on a sequence is an item of its match
pub received-items : (n m : ℕ) (a b : List Fact) (s t : ℕ) (q u : Text) → Agree n m a b → IsBetween b a t
    → IsOutgoing a s q → IsIncoming b t q u
    → AllByRecursion (IsItemOf (accepted a s)) (received b t)
received-items n m a b s t q u h w o k =
    received-all a b t (IsItemOf (accepted a s)) w (λ i p e.
    let name : e.ident ≡ q = same_ident b t e.ident q e.message_id u e.incoming k in
    let same : e.sent.seq ≡ s = h.owns.unique e.sent.seq s q (subst (IsOutgoing a e.sent.seq) name e.sent.outgoing) o in
    subst (λ z. numbered (accepted a z) i ≡ Some p.bytes) same e.sent.item) b h.others_justified

nothing : (xs : List (ℕ × Payload)) → AllByRecursion (λ m. ⊥) xs → xs ≡ []
nothing [] h = refl
nothing (x ∷ xs) h = absurd h.0

and-true : (x y : Bool) → (x && y) ≡ true → (x ≡ true) × (y ≡ true)
and-true true true e = (refl, refl)
and-true true false e = absurd (cc)
and-true false y e = absurd (cc)

-- without a gap the part up to the first gap is all
without_gap-all : (n : ℕ) (ms : List (ℕ × Payload)) → length (without_gap n ms) ≡ length ms
    → without_gap n ms ≡ contents_of ms
without_gap-all n [] e = refl
without_gap-all n (m ∷ ms) e =
    elim (m.0 == n + 1) as (λ b. length (cond b (m.1 ∷ without_gap m.0 ms) []) ≡ suc (length ms)
    → cond b (m.1 ∷ without_gap m.0 ms) [] ≡ m.1 ∷ contents_of ms) [
      | true ↦ λ h. ap (λ z. m.1 ∷ z) (without_gap-all m.0 ms (omega arith))
      | false ↦ λ h. absurd (omega arith)
    ] e

whole-all : (n : ℕ) (ms : List (ℕ × Payload)) → is_whole n ms ≡ true → without_gap 0 ms ≡ contents_of ms
whole-all n ms e =
    let both = and-true (length (without_gap 0 ms) == last_told n ms) (length ms == last_told n ms) e in
    without_gap-all 0 ms (eqb-true (length (without_gap 0 ms)) (last_told n ms) both.0
    ∙ sym (eqb-true (length ms) (last_told n ms) both.1))

complete-all : (ns : List ℕ) (ms : List (ℕ × Payload)) → is_whole_by ns ms ≡ true → without_gap 0 ms ≡ contents_of ms
complete-all [] ms e = absurd (cc)
complete-all (n ∷ ns) ms e = whole-all n ms e

entire-prefix : (ns : List ℕ) (ms : List (ℕ × Payload)) (given : List Text) → AllByRecursion (IsItemOf given) ms
    → IsPrefixOf (texts (cond (is_whole_by ns ms) (contents_of ms) [])) given
entire-prefix ns ms given h =
    elim (is_whole_by ns ms) as (λ b. is_whole_by ns ms ≡ b → IsPrefixOf (texts (cond b (contents_of ms) [])) given) [
      | true ↦ λ e. subst (λ z. IsPrefixOf (texts z) given) (complete-all ns ms e) (without_gap-prefix 0 given ms h)
      | false ↦ λ e. (given, refl)
    ] refl

pub inbox_of-prefix : (y : Behaviour) (ns : List ℕ) (came : List (ℕ × Payload)) (given : List Text) → is_loose y ≡ false
    → AllByRecursion (IsItemOf given) (sorted_onto [] came) → IsPrefixOf (texts (inbox_of y ns came)) given
inbox_of-prefix FollowingFirstGap ns came given ordered h = without_gap-prefix 0 given (sorted_onto [] came) h
inbox_of-prefix NoDiscard ns came given ordered h = absurd (cc)
inbox_of-prefix EntireSequence ns came given ordered h = entire-prefix ns (sorted_onto [] came) given h

no_items : (given : List Text) (ms : List (ℕ × Payload)) → length given ≡ 0 → AllByRecursion (IsItemOf given) ms
    → contents_of ms ≡ []
no_items given [] e h = refl
no_items [] (m ∷ ms) e h = absurd (by_number m.0 h.0)
  where
    by_number : (k : ℕ) → numbered [] k ≡ Some m.1.bytes → ⊥
    by_number zero x = absurd (cc)
    by_number (suc k) x = let y : slice_get [] k ≡ Some m.1.bytes = sym (numbered-next [] k) ∙ x in absurd (cc)
no_items (x ∷ xs) (m ∷ ms) e h = absurd (omega arith)

length-contents : (ms : List (ℕ × Payload)) → length (texts (contents_of ms)) ≡ length ms
length-contents [] = refl
length-contents (m ∷ ms) = ap suc (length-contents ms)

-- a prefix of full length is all
prefix-all : (xs ys : List Text) → IsPrefixOf xs ys → length xs ≡ length ys → xs ≡ ys
prefix-all xs ys (rest, e) l =
    let sum : length ys ≡ length xs + length rest = ap length e ∙ length-append xs rest in
    by_rest rest (omega arith) e
  where
    by_rest : (r : List Text) → length r ≡ 0 → ys ≡ xs ++ r → xs ≡ ys
    by_rest [] z k = sym (k ∙ append-nil xs)
    by_rest (x ∷ r) z k = absurd (omega arith)

-- what is released of messages by number under DiscardEntireSequence
abbrev entire : List ℕ → List (ℕ × Payload) → List Payload
entire ns ms = cond (is_whole_by ns ms) (contents_of ms) []

-- of all that was told each number is the length of what was accepted, and then P
inbox_of-whole : (ns : List ℕ) (ms : List (ℕ × Payload)) (given : List Text) (P : Type 0)
    → AllByRecursion (IsItemOf given) ms
    → AllByRecursion (λ n. (length given ≡ n) × P) ns
    → (entire ns ms ≡ []) ⊎ ((texts (entire ns ms) ≡ given) × P)
inbox_of-whole [] ms given P h f = inl refl
inbox_of-whole (n ∷ ns) ms given P h f =
    elim (is_whole n ms) as (λ b. is_whole n ms ≡ b
    → (cond b (contents_of ms) [] ≡ []) ⊎ ((texts (cond b (contents_of ms) []) ≡ given) × P)) [
      | true ↦ λ e. elim (n == 0) as (λ b. (n == 0) ≡ b
          → (contents_of ms ≡ []) ⊎ ((texts (contents_of ms) ≡ given) × P)) [
            | true ↦ λ z. let none : n ≡ 0 = eqb-true n 0 z in inl (no_items given ms (f.0.0 ∙ none) h)
            | false ↦ λ z.
                let last : last_told n ms ≡ n = ap (λ b. cond b (greatest_of (numbers_of ms)) n) z in
                let both = and-true (length (without_gap 0 ms) == last_told n ms) (length ms == last_told n ms) e in
                let size : length ms ≡ n = eqb-true (length ms) (last_told n ms) both.1 ∙ last in
                let all : without_gap 0 ms ≡ contents_of ms = whole-all n ms e in
                inr (
                  prefix-all (texts (contents_of ms)) given
                      (subst (λ x. IsPrefixOf (texts x) given) all (without_gap-prefix 0 given ms h))
                      (length-contents ms ∙ size ∙ sym f.0.0),
                  f.0.1,
                )
          ] refl
      | false ↦ λ e. inl refl
    ] refl

pub nothing_in : (y : Behaviour) (ns : List ℕ) → inbox_of {A = Payload} y ns [] ≡ []
nothing_in FollowingFirstGap ns = refl
nothing_in NoDiscard ns = refl
nothing_in EntireSequence ns = elim (is_whole_by {A = Payload} ns []) as (λ b. cond {A = List Payload} b [] [] ≡ [])
    [ true ↦ refl | false ↦ refl ]

pub items : (n m : ℕ) (a b : List Fact) (s t : ℕ) (q u : Text) → Agree n m a b → IsBetween b a t → IsOutgoing a s q
    → IsIncoming b t q u
    → AllByRecursion (IsItemOf (accepted a s)) (sorted_onto [] (received b t))
items n m a b s t q u h w o k = All-sorted (IsItemOf (accepted a s)) [] (received b t) tt
    (received-items n m a b s t q u h w o k)

told-one : (a b : List Fact) (s t n : ℕ) (P : ℕ → Type 0) → IsBetween b a t → ((n : ℕ) → IsTold b a t n → P n)
    → (ns : List ℕ) → IfWith b a s (IsTold b a s n)
    → AllByRecursion P ns → AllByRecursion P (cond (s == t) (n ∷ ns) ns)
told-one a b s t n P w f ns h k =
    elim (s == t) as (λ z. (s == t) ≡ z → AllByRecursion P (cond z (n ∷ ns) ns)) [
      | true ↦ λ e. (
        let at = subst (λ y. IfWith b a y (IsTold b a y n)) (eqb-true s t e) h in
            f n (at.holds (w.is at.maker_ at.there)),
        k,
      )
      | false ↦ λ e. k
    ] refl

-- what was told of a sequence, record by record
told-all : (a b : List Fact) (t : ℕ) (P : ℕ → Type 0) → IsBetween b a t → ((n : ℕ) → IsTold b a t n → P n)
    → (r : List Fact) → AllByRecursion (Justified b a) r → AllByRecursion P (told r t)
told-all a b t P w f [] h = tt
told-all a b t P w f (Closed s Peer n ∷ r) h = told-one a b s t n P w f (told r t) h.0 (told-all a b t P w f r h.1)
told-all a b t P w f (Ended s Peer n ∷ r) h = told-one a b s t n P w f (told r t) h.0 (told-all a b t P w f r h.1)
told-all a b t P w f (rec ∷ r) h = told-all a b t P w f r h.1

finals : (n m : ℕ) (a b : List Fact) (s t : ℕ) (q u : Text) → Agree n m a b → IsBetween b a t → IsOutgoing a s q
    → IsIncoming b t q u
    → AllByRecursion (λ k. (length (accepted a s) ≡ k) × (is_empty (marks a s) ≡ false)) (told b t)
finals n m a b s t q u h w o k =
    told-all a b t (λ i. (length (accepted a s) ≡ i) × (is_empty (marks a s) ≡ false)) w (λ i e.
    let name : e.ident ≡ q = same_ident b t e.ident q e.message_id u e.incoming k in
    let same : e.final.seq ≡ s = h.owns.unique e.final.seq s q
    (subst (IsOutgoing a e.final.seq) name e.final.outgoing) o in (
      subst (λ z. length (accepted a z) ≡ i) same e.final.count,
      subst (λ z. is_empty (marks a z) ≡ false) same
          e.final.stopped,
    ))
    b h.others_justified

-- the two nodes agree, each has few numbers, all their sequences are between them, and nothing is gone
pub record ArePaired (n m : ℕ) (a b : List Fact) : Type 0 where
  pub agree : Agree n m a b
  pub small : IsSmall m b
  pub mine : (s : ℕ) → IsBetween a b s
  pub theirs : (t : ℕ) → IsBetween b a t
  pub live : NothingIsGone a

matched-by : (a b : List Fact) (s : ℕ) (q u : Text) → IsOutgoing a s q → IsGranted b u q → (t : ℕ) × Matches a b s t
matched-by a b s q u o g = (g.seq, record { ident = q; message_id = u; outgoing = o; incoming = g.incoming })

pub between-all : (a b : List Fact) → AreWith b a → (s : ℕ) → IsBetween a b s
between-all a b h s = record { is = λ m e. All-numbered (IsWith b) (makers a) s m h e }

-- what was received has the numbers of messages that the other accepted, of which each sequence has few
pub record IsNumbered (n : ℕ) : Type 0 where
  pub from : 1 ≤ n
  pub upto : n ≤ max_number

pub positive : {A : Type 0} (xs : List A) (n : ℕ) (x : A) → numbered xs n ≡ Some x → 1 ≤ n
positive xs zero x e = absurd (cc)
positive xs (suc n) x e = omega arith

pub received-numbered : (a b : List Fact) (t : ℕ) → IsBetween b a t → AllByRecursion (Justified b a) b
    → ((s : ℕ) → length (accepted a s) ≤ max_number)
    → AllByRecursion (λ (m : ℕ × Payload). IsNumbered m.0) (received b t)
received-numbered a b t w h few =
    received-all a b t (λ (m : ℕ × Payload). IsNumbered m.0) w (λ i p e. record {
      from = positive (accepted a e.sent.seq) i p.bytes e.sent.item;
      upto = omega (arith, numbered-within (accepted a e.sent.seq) i p.bytes e.sent.item, few e.sent.seq);
    }) b h

pub paired-word : IssuesOnce → (n m : ℕ) (a b : List Fact) → ArePaired n m a b → KeepsWholeWord a b
paired-word once n m a b p = record {
  prefix = λ s t k ordered. inbox_of-prefix (behaviour b t) (told b t) (received b t) (accepted a s) ordered
      (items n m a b s t k.ident k.message_id h (p.theirs t) k.outgoing k.incoming);
  items_ = λ s t k. received-items n m a b s t k.ident k.message_id h (p.theirs t) k.outgoing k.incoming;
  whole = λ s t k y. subst (λ z. (inbox_of z (told b t) (received b t) ≡ [])
      ⊎ ((texts (inbox_of z (told b t) (received b t)) ≡ accepted a s)
      × (is_empty (marks a s) ≡ false))) (sym y)
      (inbox_of-whole (told b t) (sorted_onto [] (received b t)) (accepted a s) (is_empty (marks a s) ≡ false)
      (items n m a b s t k.ident k.message_id h (p.theirs t) k.outgoing k.incoming)
      (finals n m a b s t k.ident k.message_id h (p.theirs t) k.outgoing k.incoming));
  held = λ s t k i e. acked-one a b s i (has_number (numbers_of (received b t)) i ≡ true) (p.mine s) (λ ns kept there.
      let name : kept.ident ≡ k.ident = cc (kept.outgoing.is, k.outgoing.is) in
      let has : IsHeld b kept.ident i = kept.each i there in
      let same : has.seq ≡ t = same_incoming once m b has.seq t k.ident has.message_id k.message_id p.small h.others
      (subst (λ z. IsIncoming b has.seq z has.message_id) name has.incoming) k.incoming in
      subst (λ z. has_number (numbers_of (received b z)) i ≡ true) same has.has) a p.live h.justified e;
  none = λ t k none.
      let empty : received b t ≡ [] = nothing (received b t) (received-all a b t (λ m. ⊥) (p.theirs t) (λ i x e.
      none e.sent.seq (record {
        ident = e.ident;
        message_id = e.message_id;
        outgoing = e.sent.outgoing;
        incoming =
            e.incoming;
      }))
      b h.others_justified) in
      ap (λ z. inbox_of (behaviour b t) (told b t) z) empty ∙ nothing_in (behaviour b t) (told b t);
  matched = λ s q o.
      let agreed = created-one a b a 0 s q (p.mine s) (λ i m x. let z : 0 + i ≡ i = omega arith in rw z x) h.justified
      o.is in
      matched-by a b s q agreed.0 o agreed.1;
}
  where
    h : Agree n m a b
    h = p.agree
