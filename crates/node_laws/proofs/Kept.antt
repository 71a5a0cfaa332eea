-- What one more record must have so that the records stay those of a node.
use Rattle.std.proofs.Common.{◌≡◌, ℕ, ◌+◌, ◌^◌, ◌<◌, ◌≤◌, ◌==◌, ◌⊎◌, true, false, cond, List, [], ◌∷◌}
use Rattle.std.proofs.Common.{◌++◌, length, refl, sym, ap, subst, ◌∙◌, arith, inl, inr, append-nil, append_assoc}
use Rattle.std.proofs.Common.{length-append}
use Rattle.std.specs.Prelude.{nat_lt}
use Rattle.std.proofs.lemmas.Bool.{and_parts, eqb-true, le-leb, lt-ltb}
use Rattle.rm_base.specs.Limits.{most_sequences, most_unacked, window}
use Rattle.rm_sides.specs.Ranges.Laws.{RangeIsAdded}
use Rattle.record_batch.specs.Fact.{Fact, Made, Accepted}
use Rattle.record_batch.specs.Sequences.Makers.{makers, makers_of, maker}
use Rattle.record_batch.specs.Sequences.Sources.{accepted_of, unacked, all_unacked}
use Rattle.record_batch.specs.Sequences.Fits.{fits, all_fit, is_outgoing_side}
use Rattle.record_batch.specs.Sequences.GatherLemmas.{flat_map-more}
use Rattle.node_laws.specs.Records.{KeepsLimits, HasValues, BeginsWithMade, IsKept, MadeIsKept}
use Rattle.node_laws.proofs.Lists.{All-append, all_fit-append}
use Rattle.node_laws.proofs.Near.{TakesNear, near-more, side-before}
use Rattle.node_laws.proofs.Unacked.{unacked-more, none-accepted, none-unacked, all_unacked-more, credit}

-- there is room for what the record makes or accepts
abbrev pub HasRoom : List Fact → Fact → Type 0
HasRoom r (Accepted seq payload) = (unacked r seq < window) × (all_unacked r < most_unacked)
HasRoom r _ = Unit {0}

-- a record that may come next within the limits of a node
pub record IsAllowed (r : List Fact) (f : Fact) : Type 0 where
  pub limits : KeepsLimits f
  pub values : HasValues f
  pub places : length (makers r) + length (makers_of f) ≤ most_sequences ⊎ (makers_of f ≡ [])
  pub room : HasRoom r f
  pub near : TakesNear r f

-- each of some records, after those before it
abbrev pub AreAllowed : List Fact → List Fact → Type 0
AreAllowed r [] = Unit {0}
AreAllowed r (f ∷ fs) = IsAllowed r f × AreAllowed (r ++ f ∷ []) fs

begins-on : (r xs : List Fact) → BeginsWithMade r → BeginsWithMade (r ++ xs)
begins-on [] xs h = absurd h
begins-on (Made node address ∷ r) xs h = tt
begins-on (_ ∷ r) xs h = absurd h

window-more : RangeIsAdded → (r : List Fact) (f : Fact) (s : ℕ) → IsKept r → fits r f ≡ true → HasValues f
    → HasRoom r f → TakesNear r f → is_outgoing_side (maker (r ++ f ∷ []) s) ≡ true
    → unacked (r ++ f ∷ []) s ≤ window
window-more law r f s h fit v room near side = by_kind f fit v room near side
  where
    -- what was not acknowledged before
    before : (f : Fact) → is_outgoing_side (maker (r ++ f ∷ []) s) ≡ true → unacked r s ≤ window
    before f is = elim (side-before is_outgoing_side r f s is) [
      | inl there ↦ h.node.window s there
      | inr past ↦
          let none : unacked r s ≡ 0 = none-unacked r s (none-accepted r s h.node.fit past) in
          omega (arith, none)
    ]

    by_kind : (f : Fact) → fits r f ≡ true → HasValues f → HasRoom r f → TakesNear r f
        → is_outgoing_side (maker (r ++ f ∷ []) s) ≡ true → unacked (r ++ f ∷ []) s ≤ window
    by_kind (Accepted seq payload) fit v room near is =
        let more : unacked (r ++ Accepted seq payload ∷ []) s ≤ unacked r s
        + length (accepted_of s (Accepted seq payload)) =
        unacked-more law r (Accepted seq payload) s h.values v h.node.fit fit near in
        let old : unacked r s ≤ window = before (Accepted seq payload) is in
        elim (seq == s) as (λ b. (seq == s) ≡ b
        → unacked (r ++ Accepted seq payload ∷ []) s ≤ unacked r s + length (cond b (payload ∷ []) [])
        → unacked (r ++ Accepted seq payload ∷ []) s ≤ window) [
          | true ↦ λ e le.
              let few : unacked r s < window = subst (λ n. unacked r n < window) (eqb-true seq s e) room.0 in
              omega (arith, few, le)
          | false ↦ λ e le. omega (arith, old, le)
        ] refl more
    by_kind f fit v room near is = omega (arith, before f is, unacked-more law r f s h.values v h.node.fit fit near)

windows-more : RangeIsAdded → (r : List Fact) (f : Fact) → IsKept r → fits r f ≡ true → HasValues f → HasRoom r f
    → TakesNear r f → all_unacked (r ++ f ∷ []) ≤ most_unacked
windows-more law r (Accepted seq payload) h fit v room near =
    let f = Accepted seq payload in
    let more : all_unacked (r ++ f ∷ []) ≤ all_unacked r + credit 0 f =
    all_unacked-more law r f h.values v h.node.fit fit near in
    let one : credit 0 f ≤ 1 =
    elim (nat_lt 0 seq) as (λ b. cond b 1 0 ≤ 1) [ true ↦ omega arith | false ↦ omega arith ] in
    omega (arith, more, one, room.1)
windows-more law r f h fit v room near =
    omega (arith, all_unacked-more law r f h.values v h.node.fit fit near, h.node.windows)

places-more : (r : List Fact) (f : Fact) → length (makers r) ≤ most_sequences
    → length (makers r) + length (makers_of f) ≤ most_sequences ⊎ (makers_of f ≡ [])
    → length (makers (r ++ f ∷ [])) ≤ most_sequences
places-more r f few h =
    let made : length (makers (r ++ f ∷ [])) ≡ length (makers r) + length (makers_of f) =
    ap length (flat_map-more makers_of r f) ∙ length-append (makers r) (makers_of f) in
    elim h [
      | inl le ↦ omega (arith, made, le)
      | inr none ↦ let no : length (makers_of f) ≡ 0 = ap length none in omega (arith, made, no, few)
    ]

-- one more record
kept-more : RangeIsAdded → (r : List Fact) (f : Fact) → IsKept r → fits r f ≡ true → IsAllowed r f
    → IsKept (r ++ f ∷ [])
kept-more law r f h fit a = record {
  node = record {
    begins = begins-on r (f ∷ []) h.node.begins;
    fit = all_fit-append [] r (f ∷ []) h.node.fit (rw fit refl);
    each = All-append KeepsLimits r (f ∷ []) h.node.each (a.limits, tt);
    sequences = places-more r f h.node.sequences a.places;
    window = λ s side. window-more law r f s h fit a.values a.room a.near side;
    windows = windows-more law r f h fit a.values a.room a.near;
    near = near-more r f h.node.fit fit a.near h.node.near;
  };
  values = All-append HasValues r (f ∷ []) h.values (a.values, tt);
}

-- and more of them
pub kept-all : RangeIsAdded → (r fs : List Fact) → IsKept r → all_fit r fs ≡ true → AreAllowed r fs
    → IsKept (r ++ fs)
kept-all law r [] h fit a = subst IsKept (sym (append-nil r)) h
kept-all law r (f ∷ fs) h fit a =
    let parts = and_parts (fits r f) (all_fit (r ++ f ∷ []) fs) fit in
    subst IsKept (append_assoc r (f ∷ []) fs)
    (kept-all law (r ++ f ∷ []) fs (kept-more law r f h parts.0 a.0) parts.1 a.1)

-- the record of a node that was just made
pub made-kept : MadeIsKept
made-kept number address low high is = record {
  node = record {
    begins = tt;
    fit = rw (le-leb 1 number low, lt-ltb number (2 ^ 60) high) refl;
    each = (tt, tt);
    sequences = omega arith;
    window = λ s side.
        let none : unacked (Made number address ∷ []) s ≡ 0 = none-unacked (Made number address ∷ []) s refl in
        omega (arith, none);
    windows = omega arith;
    near = λ s n side has. absurd (cc);
  };
  values = (is, tt);
}
