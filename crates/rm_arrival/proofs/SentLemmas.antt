-- What waits is there to be sent.
use Rattle.std.proofs.Common.{◌≡◌, ◌⊎◌, ℕ, zero, suc, ◌+◌, ◌-◌, ◌<◌, ◌≤◌, ◌==◌, ◌||◌, not, nat_le, cond, Bool, true}
use Rattle.std.proofs.Common.{false, List, [], ◌∷◌, ◌++◌, length, refl, sym, ap, ◌∙◌, subst, arith, inl, inr}
use Rattle.std.specs.Prelude.{Option, Some, None, slice_get}
use Rattle.std.specs.List.{flat_map}
use Rattle.std.specs.Option.{option_or, option_to_list}
use Rattle.std.proofs.lemmas.Bool.{and_parts, eqb-true, false≢true, leb-true}
use Rattle.std.proofs.lemmas.Bool.Decides.{nat_tests}
use Rattle.rm_sides.specs.Ranges.Ranges.{in_ranges}
use Rattle.rm_sides.specs.Ranges.Changes.{united}
use Rattle.rm_sides.specs.declared.source.phase.OutPhase.{OutPhase}
use Rattle.rm_sides.specs.declared.source.phase.OutPhase.TheVariants as out
use Rattle.rm_sides.specs.Source.Outgoing.{first_run}
use Rattle.timers.specs.declared.slots.timers.Key.{Key}
use Rattle.timers.specs.Keys.Waits.{has_key, same_key}
use Rattle.timers.specs.Keys.KeyLemmas.{same_key-is}
use Rattle.rm_message.specs.declared.message.Message.{Message}
use Rattle.rm_base.specs.Numbered.{numbered}
use Rattle.record_batch.specs.Fact.{Fact, Closing, ClosedOut, Ending, EndedOut, Failed, Dropped}
use Rattle.record_batch.specs.Sequences.Words.{Text, at_seq, last_or}
use Rattle.record_batch.specs.Sequences.Makers.{Maker, Outgoing, Taken, maker}
use Rattle.record_batch.specs.Sequences.Sources.{accepted, accepted_count, acked, acked_of, dropped, dropped_of}
use Rattle.record_batch.specs.Sequences.Sources.{first_phase}
use Rattle.record_batch.specs.Sequences.Sources.{is_sending, mark_of, marks, out_ident, payload_at, phase}
use Rattle.record_batch.specs.Sequences.Find.{peer, peer_of}
use Rattle.record_batch.specs.Sequences.Fits.{all_fit, fits, follows, follows_at, is_outgoing_side}
use Rattle.record_batch.specs.Sequences.GatherLemmas.{at_seq-more, last_or-append}
use Rattle.record_batch.specs.Sequences.PhaseLemmas.{out_ident-more}
use Rattle.record_batch.specs.Sequences.Told.{sending}
use Rattle.rm_protocol.specs.Calls.{message_at, messages_at}
use Rattle.rm_protocol.specs.FitInduction.{fit-induction}
use Rattle.rm_protocol.specs.Messages.{data_by, data_of}
use Rattle.rm_protocol.specs.Waiting.{is_waiting, key, waits_in, waits_of}
use Rattle.rm_arrival.specs.Round.{HasData, IsSaidFor}
use Rattle.rm_arrival.proofs.RangeLemmas.{in_ranges-second, in_ranges-first, united-adds}

-- ---- a sequence that sends has an identifier

-- the phases of a sequence without one
abbrev IsUnnamed : OutPhase → Type 0
IsUnnamed p = (p ≡ out.Creating) ⊎ (p ≡ out.Failed)

abbrev AreUnnamed : List Fact → Type 0
AreUnnamed r = (s : ℕ) → out_ident r s ≡ None → IsUnnamed (phase r s)

no_option : {A : Type 0} (o p : Option A) → option_or o p ≡ None → o ≡ None
no_option None p e = refl
no_option (Some x) p e = absurd (cc)

-- of the records with a phase none but Failed may follow there
no-follow : (r : List Fact) (f : Fact) (seq s : ℕ) → follows_at r seq f ≡ true → follows out.Creating f ≡ false
    → follows out.Failed f ≡ false → (p : OutPhase) → IsUnnamed (phase r s)
    → IsUnnamed (last_or (phase r s) (at_seq s ((seq, p) ∷ [])))
no-follow r f seq s fit one two p old =
    elim (seq == s) as (λ b. (seq == s) ≡ b → IsUnnamed (last_or (phase r s) (cond b (p ∷ []) []))) [
      | true ↦ λ e.
          let may : follows (phase r seq) f ≡ true = (and_parts (is_outgoing_side (maker r seq)) _ fit).1 in
          let here : follows (phase r s) f ≡ true = subst (λ n. follows (phase r n) f ≡ true) (eqb-true seq s e) may in
          absurd (elim old [
            | inl is ↦ false≢true (sym one ∙ subst (λ z. follows z f ≡ true) is here)
            | inr is ↦ false≢true (sym two ∙ subst (λ z. follows z f ≡ true) is here)
          ])
      | false ↦ λ e. old
    ] refl

fails-so : (seq s : ℕ) (p : OutPhase) → IsUnnamed p → IsUnnamed (last_or p (at_seq s ((seq, out.Failed) ∷ [])))
fails-so seq s p old = elim (seq == s) as (λ b. IsUnnamed (last_or p (cond b (out.Failed ∷ []) []))) [
  | true ↦ inr refl
  | false ↦ old
]

unnamed-mark : (r : List Fact) (f : Fact) (s : ℕ) → fits r f ≡ true → IsUnnamed (phase r s)
    → IsUnnamed (last_or (phase r s) (at_seq s (mark_of f)))
unnamed-mark r (Closing seq ticket) s fit old =
    no-follow r (Closing seq ticket) seq s (and_parts _ (follows_at r seq (Closing seq ticket)) fit).1 refl refl
    out.Closing old
unnamed-mark r (ClosedOut seq) s fit old = no-follow r (ClosedOut seq) seq s fit refl refl out.Closed old
unnamed-mark r (Ending seq ticket) s fit old =
    no-follow r (Ending seq ticket) seq s (and_parts _ (follows_at r seq (Ending seq ticket)) fit).1 refl refl
    out.Ending old
unnamed-mark r (EndedOut seq) s fit old = no-follow r (EndedOut seq) seq s fit refl refl out.Ended old
unnamed-mark r (Failed seq fault) s fit old = fails-so seq s (phase r s) old
unnamed-mark r _ s fit old = old

unnamed-more : (r : List Fact) (f : Fact) → AreUnnamed r → fits r f ≡ true → AreUnnamed (r ++ f ∷ [])
unnamed-more r f h fit s none =
    let before : out_ident r s ≡ None = no_option (out_ident r s) _ (sym (out_ident-more r f s) ∙ none) in
    let same : phase (r ++ f ∷ []) s ≡ last_or (phase r s) (at_seq s (mark_of f)) =
    ap (λ o. last_or (first_phase o) (marks (r ++ f ∷ []) s)) none
    ∙ ap (λ ps. last_or (first_phase None) ps) (at_seq-more s mark_of r f)
    ∙ last_or-append (first_phase None) (marks r s) (at_seq s (mark_of f))
    ∙ ap (λ o. last_or (last_or (first_phase o) (marks r s)) (at_seq s (mark_of f))) (sym before) in
    subst IsUnnamed (sym same) (unnamed-mark r f s fit (h s before))

none-unnamed : AreUnnamed []
none-unnamed s e = inl refl

silent-unnamed : (p : OutPhase) → IsUnnamed p → is_sending p ≡ true → ⊥
silent-unnamed p old e = elim old [
  | inl is ↦ false≢true (subst (λ z. is_sending z ≡ true) is e)
  | inr is ↦ false≢true (subst (λ z. is_sending z ≡ true) is e)
]

-- the option has an item
pub record IsThere {A : Type 0} (o : Option A) : Type 0 where
  pub item : A
  pub is : o ≡ Some item

pub named-in : (r : List Fact) (s : ℕ) → all_fit [] r ≡ true
    → ((phase r s ≡ out.Creating) ⊎ (phase r s ≡ out.Failed) → ⊥) → IsThere (out_ident r s)
named-in r s fit other = by_ident (out_ident r s) refl
  where
    by_ident : (o : Option Text) → out_ident r s ≡ o → IsThere o
    by_ident (Some q) e = record { item = q; is = refl }
    by_ident None e = absurd (other (fit-induction AreUnnamed none-unnamed unnamed-more r fit s e))

named : (r : List Fact) (s : ℕ) → all_fit [] r ≡ true → is_sending (phase r s) ≡ true → IsThere (out_ident r s)
named r s fit sends = named-in r s fit (λ u. silent-unnamed (phase r s) u sends)

-- ---- a number that waits is not gone

in-run : (n upto : ℕ) → 1 ≤ n → n ≤ upto → in_ranges (first_run upto) n ≡ true
in-run n upto from to = grind (arith, nat_tests)

-- what a record says is gone, it says is acknowledged
one-gone : (s n x : ℕ) (f : Fact) (r : List Fact) → 1 ≤ n → n ≤ last_or x (dropped_of s f ++ flat_map (dropped_of s) r)
    → ((y : ℕ) → n ≤ last_or y (flat_map (dropped_of s) r) → (n ≤ y) ⊎ (in_ranges (acked r s) n ≡ true))
    → (n ≤ x) ⊎ (in_ranges (acked_of s f ++ acked r s) n ≡ true)
one-gone s n x (Dropped seq upto) r from to rest =
    elim (seq == s) as (λ b. n ≤ last_or x (cond b (upto ∷ []) [] ++ flat_map (dropped_of s) r)
    → (n ≤ x) ⊎ (in_ranges (cond b (first_run upto) [] ++ acked r s) n ≡ true)) [
      | true ↦ λ t. elim (rest upto t) [
        | inl le ↦ inr (in_ranges-first (first_run upto) (acked r s) n (in-run n upto from le))
        | inr is ↦ inr (in_ranges-second (first_run upto) (acked r s) n is)
      ]
      | false ↦ λ t. rest x t
    ] to
one-gone s n x f r from to rest = elim (rest x (later f to)) [
  | inl le ↦ inl le
  | inr is ↦ inr (in_ranges-second (acked_of s f) (acked r s) n is)
]
  where
    later : (g : Fact) → n ≤ last_or x (dropped_of s f ++ flat_map (dropped_of s) r)
        → n ≤ last_or x (flat_map (dropped_of s) r)
    later g t = t

gone-acked : (s n : ℕ) (r : List Fact) → 1 ≤ n → (x : ℕ) → n ≤ last_or x (flat_map (dropped_of s) r)
    → (n ≤ x) ⊎ (in_ranges (acked r s) n ≡ true)
gone-acked s n [] from x to = inl to
gone-acked s n (f ∷ r) from x to = one-gone s n x f r from to (λ y t. gone-acked s n r from y t)

not-gone : (r : List Fact) (s n : ℕ) → 1 ≤ n → in_ranges (united [] (acked r s)) n ≡ false → dropped r s < n
not-gone r s n from none = elim (nat_le n (dropped r s)) as (λ b. nat_le n (dropped r s) ≡ b → dropped r s < n) [
  | true ↦ λ e. elim (gone-acked s n r from 0 (leb-true n (dropped r s) e)) [
    | inl le ↦ absurd (omega (arith, from, le))
    | inr is ↦ absurd (false≢true (sym none ∙ united-adds [] (acked r s) n is))
  ]
  | false ↦ λ e. grind (arith, nat_tests)
] refl

slice-there : {A : Type 0} (xs : List A) (n : ℕ) → n < length xs → IsThere (slice_get xs n)
slice-there [] n lt = absurd (omega (arith, lt))
slice-there (x ∷ xs) zero lt = record { item = x; is = refl }
slice-there (x ∷ xs) (suc n) lt = slice-there xs n (omega (arith, lt))

numbered-next : {A : Type 0} (xs : List A) (n : ℕ) → numbered xs (suc n) ≡ slice_get xs n
numbered-next xs n =
    let other : (suc n == 0) ≡ false = grind (arith, nat_tests) in
    let place : suc n - 1 ≡ n = omega arith in
    rw (other, place) refl

numbered-there : {A : Type 0} (xs : List A) (n : ℕ) → 0 < n → n ≤ length xs → IsThere (numbered xs n)
numbered-there xs zero pos le = absurd (omega (arith, pos))
numbered-there xs (suc n) pos le =
    let there = slice-there xs n (omega (arith, le)) in
    record { item = there.item; is = numbered-next xs n ∙ there.is }

-- ---- data

record Waits (r : List Fact) (s i : ℕ) : Type 0 where
  sends : is_sending (phase r s) ≡ true
  below : nat_le i (accepted_count r s) ≡ true
  none : in_ranges (united [] (acked r s)) i ≡ false
  peer_ : IsThere (peer r s)

not-true : (b : Bool) → not b ≡ true → b ≡ false
not-true true e = absurd (cc (e))
not-true false e = refl

waits-known : (r : List Fact) (s i : ℕ) → waits_in (sending r s) (suc i) ≡ true → IsThere (peer r s) → Waits r s (suc i)
waits-known r s i h to =
    let one = and_parts (is_sending (phase r s)) _ h in
    let two = and_parts (nat_le (suc i) (accepted_count r s)) _ one.1 in
    record { sends = one.0; below = two.0; none = not-true _ two.1; peer_ = to }

waits-so : (r : List Fact) (s i : ℕ) → is_waiting r (key s (suc i)) ≡ true → Waits r s (suc i)
waits-so r s i h = by_maker (maker r s) refl h
  where
    by_maker : (m : Option Maker) → maker r s ≡ m → waits_of r s (suc i) m ≡ true → Waits r s (suc i)
    by_maker (Some (Outgoing ticket to via lapse)) e k =
        waits-known r s i k (record { item = _; is = ap peer_of e })
    by_maker (Some (Taken message_id ident endpoint)) e k =
        waits-known r s i k (record { item = endpoint; is = ap peer_of e })
    by_maker _ e k = absurd (false≢true k)

pub has-data : (r : List Fact) (s i : ℕ) → all_fit [] r ≡ true → is_waiting r (key s (suc i)) ≡ true
    → HasData r s (suc i)
has-data r s i fit h =
    let w = waits-so r s i h in
    let q = named r s fit w.sends in
    let behind : dropped r s < suc i = not-gone r s (suc i) (omega arith) w.none in
    let below : suc i ≤ dropped r s + length (accepted r s) = leb-true (suc i) (accepted_count r s) w.below in
    let text : IsThere (payload_at r s (suc i)) =
    numbered-there (accepted r s) (suc i - dropped r s) (omega (arith, behind)) (omega (arith, behind, below)) in
    record {
      ident = q.item;
      to = w.peer_.item;
      text = text.item;
      known = q.is;
      data_ =
          ap (λ o. data_by o (out_ident r s) (suc i) (payload_at r s (suc i))) w.peer_.is
          ∙ ap (λ o. data_by (Some w.peer_.item) o (suc i) (payload_at r s (suc i))) q.is
          ∙ ap (λ o. data_by (Some w.peer_.item) (Some q.item) (suc i) o) text.is;
    }

-- ---- a tick

pub said-of : (r : List Fact) (keys : List Key) (s i : ℕ) (m : Message) → message_at r s i ≡ Some m
    → has_key keys (key s i) ≡ true → IsSaidFor r keys m
said-of r [] s i m e h = absurd (cc (h))
said-of r (k ∷ keys) s i m e h = elim (same_key (key s i) k) as (λ b. same_key (key s i) k ≡ b
    → (b || has_key keys (key s i)) ≡ true → IsSaidFor r (k ∷ keys) m) [
      | true ↦ λ is g. let same : key s i ≡ k = same_key-is (key s i) k is in record {
        before = [];
        behind = messages_at r keys;
        are = ap (λ z. option_to_list z ++ messages_at r keys)
            (ap (λ z. message_at r z.seq z.number) (sym same) ∙ e);
      }
      | false ↦ λ is g. let it = said-of r keys s i m e g in record {
        before = option_to_list (message_at r k.seq k.number) ++ it.before;
        behind = it.behind;
        are = ap (λ z. option_to_list (message_at r k.seq k.number) ++ z) it.are
            ∙ front (option_to_list (message_at r k.seq k.number)) it.before (m ∷ it.behind);
      }
    ] refl h
  where
    front : (xs ys zs : List Message) → xs ++ (ys ++ zs) ≡ (xs ++ ys) ++ zs
    front [] ys zs = refl
    front (x ∷ xs) ys zs = ap (λ z. x ∷ z) (front xs ys zs)

pub due-said : (r : List Fact) (s i : ℕ) (keys : List Key) → all_fit [] r ≡ true
    → is_waiting r (key s (suc i)) ≡ true → has_key keys (key s (suc i)) ≡ true
    → (it : HasData r s (suc i)) × IsSaidFor r keys (data_of it.to it.ident (suc i) it.text)
due-said r s i keys fit h due =
    let it = has-data r s i fit h in
    (it, said-of r keys s (suc i) (data_of it.to it.ident (suc i) it.text) it.data_ due)
