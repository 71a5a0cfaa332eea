-- What holds of all records of a list, each of which may come after those before it.
use Rattle.std.proofs.Common.{◌≡◌, ℕ, ◌+◌, ◌≤◌, ◌==◌, true, false, cond, List, [], ◌∷◌, ◌++◌, length, refl, sym, ap}
use Rattle.std.proofs.Common.{subst, ◌∙◌, arith, append-nil, append_assoc, Option, Some, None}
use Rattle.std.specs.List.{flat_map}
use Rattle.std.specs.Option.{option_or}
use Rattle.std.proofs.lemmas.Bool.{and_parts, eqb-true, false≢true}
use Rattle.rm_sides.specs.declared.source.phase.OutPhase.TheVariants as out
use Rattle.rm_base.specs.Message.{max_number}
use Rattle.record_batch.specs.Fact.{Fact, Accepted, Dropped}
use Rattle.record_batch.specs.Snapshot.AckedLemmas.{few-on}
use Rattle.record_batch.specs.Sequences.Words.{at_seq, last_or}
use Rattle.record_batch.specs.Sequences.Makers.{maker}
use Rattle.record_batch.specs.Sequences.Sources.{accepted, accepted_count, accepted_of, dropped_of, mark_of, marks}
use Rattle.record_batch.specs.Sequences.Sources.{out_ident}
use Rattle.record_batch.specs.Sequences.Sources.{phase}
use Rattle.record_batch.specs.Sequences.Fits.{fits, all_fit, follows, follows_at, is_outgoing_side}
use Rattle.record_batch.specs.Sequences.GatherLemmas.{flat_map-more, at_seq-more}
use Rattle.record_batch.specs.Sequences.PhaseLemmas.{out_ident-more, creating-bare}

induct : (P : List Fact → Type 0) → ((r : List Fact) (f : Fact) → P r → fits r f ≡ true → P (r ++ f ∷ []))
    → (r xs : List Fact) → P r → all_fit r xs ≡ true → P (r ++ xs)
induct P step r [] h e = subst P (sym (append-nil r)) h
induct P step r (f ∷ xs) h e =
    let parts = and_parts (fits r f) (all_fit (r ++ f ∷ []) xs) e in
    subst P (append_assoc r (f ∷ []) xs) (induct P step (r ++ f ∷ []) xs (step r f h parts.0) parts.1)

-- what holds of no records, and stays with each that fits, holds of all that fit
pub fit-induction : (P : List Fact → Type 0) → P []
    → ((r : List Fact) (f : Fact) → P r → fits r f ≡ true → P (r ++ f ∷ [])) → (r : List Fact)
    → all_fit [] r ≡ true → P r
fit-induction P none step r e = induct P step [] r none e

-- ---- how many messages were accepted

AreFew : List Fact → Type 0
AreFew r = (s : ℕ) → accepted_count r s ≤ max_number

pub few-accepted : (r : List Fact) (s : ℕ) → all_fit [] r ≡ true → accepted_count r s ≤ max_number
unfolding AreFew
few-accepted r s h = fit-induction AreFew (λ t. omega arith) (λ x f few fit t. few-on x f t fit (few t)) r h s

-- ---- a sequence that is asked for

no_option : {A : Type 0} (o p : Option A) → option_or o p ≡ None → o ≡ None
no_option None p e = refl
no_option (Some x) p e = absurd (cc)

no_front : {A : Type 0} (xs ys : List A) → xs ++ ys ≡ [] → xs ≡ []
no_front [] ys e = refl
no_front (x ∷ xs) ys e = absurd (cc)

-- nothing was accepted for a sequence in phase Creating
record IsBare (r : List Fact) (s : ℕ) : Type 0 where
  accepted_ : accepted r s ≡ []
  dropped_ : flat_map (dropped_of s) r ≡ []

AreBare : List Fact → Type 0
AreBare r = (s : ℕ) → phase r s ≡ out.Creating → IsBare r s

-- neither a message nor the mark that one is gone may follow then
follows-none : (r : List Fact) (f : Fact) (seq s : ℕ) → follows_at r seq f ≡ true → follows out.Creating f ≡ false
    → phase r s ≡ out.Creating → (seq == s) ≡ false
follows-none r f seq s fit never is = elim (seq == s) as (λ b. (seq == s) ≡ b → b ≡ false) [
  | true ↦ λ e.
      let may : follows (phase r seq) f ≡ true = (and_parts (is_outgoing_side (maker r seq)) _ fit).1 in
      let creating : phase r seq ≡ out.Creating =
      subst (λ n. phase r n ≡ out.Creating) (sym (eqb-true seq s e)) is in
      absurd (false≢true (sym never ∙ subst (λ p. follows p f ≡ true) creating may))
  | false ↦ λ e. refl
] refl

accepts-none : (r : List Fact) (f : Fact) (s : ℕ) → fits r f ≡ true → phase r s ≡ out.Creating
    → (accepted_of s f ≡ []) × (dropped_of s f ≡ [])
accepts-none r (Accepted seq payload) s fit is =
    let there = (and_parts (follows_at r seq (Accepted seq payload)) _ fit).0 in
    (ap (λ b. cond b (payload ∷ []) []) (follows-none r (Accepted seq payload) seq s there refl is), refl)
accepts-none r (Dropped seq upto) s fit is =
    let there = (and_parts (follows_at r seq (Dropped seq upto)) _ fit).0 in
    (refl, ap (λ b. cond b (upto ∷ []) []) (follows-none r (Dropped seq upto) seq s there refl is))
accepts-none r _ s fit is = (refl, refl)

bare-more : (r : List Fact) (f : Fact) → AreBare r → fits r f ≡ true → AreBare (r ++ f ∷ [])
unfolding AreBare
bare-more r f h fit s is =
    let bare = creating-bare (r ++ f ∷ []) s is in
    let ident : out_ident r s ≡ None =
    no_option (out_ident r s) _ (sym (out_ident-more r f s) ∙ bare.0) in
    let mark : marks r s ≡ [] =
    no_front (marks r s) (at_seq s (mark_of f)) (sym (at_seq-more s mark_of r f) ∙ bare.1) in
    let before : phase r s ≡ out.Creating = rw (ident, mark) refl in
    let old = h s before in
    let none = accepts-none r f s fit before in
    record {
      accepted_ = flat_map-more (accepted_of s) r f ∙ rw (old.accepted_, none.0) refl;
      dropped_ = flat_map-more (dropped_of s) r f ∙ rw (old.dropped_, none.1) refl;
    }

pub creating-accepts-none : (r : List Fact) (s : ℕ) → all_fit [] r ≡ true → phase r s ≡ out.Creating
    → accepted_count r s ≡ 0
unfolding AreBare
creating-accepts-none r s h is =
    let bare = fit-induction AreBare (λ s e. record { accepted_ = refl; dropped_ = refl }) bare-more r h s is in
    ap (λ xs. last_or 0 xs + length (accepted r s)) bare.dropped_ ∙ ap (λ xs. 0 + length xs) bare.accepted_
