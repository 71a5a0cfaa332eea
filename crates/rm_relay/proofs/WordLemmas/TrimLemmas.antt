-- What a node consumed it had forwarded before, as its records go on.
use Rattle.std.proofs.Common.{◌≡◌, ◌⊎◌, ℕ, zero, suc, ◌+◌, ◌≤◌, ◌==◌, max, Bool, true, false, cond, List, [], ◌∷◌, ◌++◌}
use Rattle.std.proofs.Common.{length, refl, sym, ap, ◌∙◌, subst, arith, inl, inr}
use Rattle.std.specs.Prelude.{Some}
use Rattle.std.specs.List.{AllByRecursion, flat_map}
use Rattle.std.proofs.lemmas.Bool.{eqb-true}
use Rattle.std.proofs.lemmas.List.{length-append}
use Rattle.std.proofs.lemmas.List.Concat.{flat_map-append}
use Rattle.rm_sides.specs.Ranges.Changes.{united}
use Rattle.rm_sides.specs.Ranges.Laws.{EndsAreRight}
use Rattle.rm_sides.specs.Ranges.Ranges.{front_of}
use Rattle.rm_base.specs.NumberSet.{greatest_of}
use Rattle.record_batch.specs.Fact.{Fact, Consumed, Purged}
use Rattle.record_batch.specs.Snapshot.Same.{HaveProper, IsLive, SetsUnite}
use Rattle.record_batch.specs.Sequences.Destinations.{cursor, cursor_of}
use Rattle.record_batch.specs.Sequences.Fits.{all_fit, is_incoming_side, is_outgoing_side}
use Rattle.record_batch.specs.Sequences.GatherLemmas.{greatest_of-append}
use Rattle.record_batch.specs.Sequences.Sources.{accepted, accepted_count, accepted_of, acked}
use Rattle.rm_protocol.specs.Exact.{AckedWereAccepted}
use Rattle.rm_relay.specs.Word.Ends.{acknowledged, first_incoming, first_outgoing}
use Rattle.rm_relay.proofs.WordLemmas.ForwardLemmas.{first-add, same-some}

-- nothing is consumed with the record
abbrev pub IsNoConsume : Fact → Type 0
IsNoConsume (Consumed s upto) = ⊥
IsNoConsume _ = Unit {0}

-- what was consumed of this sequence, the first incoming one, was accepted on the first outgoing one before
pub record Trimmed (b : List Fact) (t : ℕ) : Type 0 where
  pub out : ℕ
  pub incoming : first_incoming b ≡ Some t
  pub outgoing : first_outgoing b ≡ Some out
  pub ahead : cursor b t ≤ length (accepted b out)

-- so it is with each sequence of which anything was
abbrev pub HasTrimmed : List Fact → Type 0
HasTrimmed b = (t : ℕ) → (cursor b t ≡ 0) ⊎ Trimmed b t

-- this batch consumes what was accepted
pub record Trimming (b d : List Fact) : Type 0 where
  pub from : ℕ
  pub out : ℕ
  pub upto : ℕ
  pub each : AllByRecursion (λ (rec : Fact). rec ≡ Consumed from upto) d
  pub incoming : first_incoming b ≡ Some from
  pub outgoing : first_outgoing b ≡ Some out
  pub within : upto ≤ length (accepted b out)

-- a batch that consumes nothing, or what was accepted
abbrev pub MayTrim : List Fact → List Fact → Type 0
MayTrim b d = AllByRecursion IsNoConsume d ⊎ Trimming b d

-- ---- how far a batch moves a cursor

none-cursor : (t : ℕ) (rec : Fact) → IsLive rec → IsNoConsume rec → cursor_of t rec ≡ []
none-cursor t (Consumed s upto) live none = absurd none
none-cursor t (Purged s ranges) live none = absurd live
none-cursor t _ live none = refl

none-cursors : (t : ℕ) (d : List Fact) → AllByRecursion IsLive d → AllByRecursion IsNoConsume d → cursor d t ≡ 0
none-cursors t [] live none = refl
none-cursors t (rec ∷ d) live none =
    ap (λ xs. greatest_of (xs ++ flat_map (cursor_of t) d)) (none-cursor t rec live.0 none.0)
    ∙ none-cursors t d live.1 none.1

one-cursor : (t from upto : ℕ) → greatest_of (cursor_of t (Consumed from upto)) ≤ upto
one-cursor t from upto = elim (from == t) as (λ b. greatest_of (cond b (upto ∷ []) []) ≤ upto) [
  | true ↦ omega arith
  | false ↦ omega arith
]

other-cursor : (t from upto : ℕ) → (from == t) ≡ false → greatest_of (cursor_of t (Consumed from upto)) ≡ 0
other-cursor t from upto e = ap (λ b. greatest_of (cond b (upto ∷ []) [])) e

cursor-more : (b d : List Fact) (t : ℕ) → cursor (b ++ d) t ≡ max (cursor b t) (cursor d t)
cursor-more b d t = ap greatest_of (flat_map-append (cursor_of t) b d)
    ∙ greatest_of-append (flat_map (cursor_of t) b) (flat_map (cursor_of t) d)

at-most : (t from upto : ℕ) (d : List Fact) → AllByRecursion (λ (rec : Fact). rec ≡ Consumed from upto) d
    → cursor d t ≤ upto
at-most t from upto [] all = omega arith
at-most t from upto (rec ∷ d) all =
    let rest = at-most t from upto d all.1 in
    let one : greatest_of (cursor_of t rec) ≤ upto =
    subst (λ f. greatest_of (cursor_of t f) ≤ upto) (sym all.0) (one-cursor t from upto) in
    let both : cursor (rec ∷ d) t ≡ max (greatest_of (cursor_of t rec)) (cursor d t) =
    greatest_of-append (cursor_of t rec) (flat_map (cursor_of t) d) in
    omega (arith, rest, one, both)

elsewhere : (t from upto : ℕ) (d : List Fact) → (from == t) ≡ false
    → AllByRecursion (λ (rec : Fact). rec ≡ Consumed from upto) d → cursor d t ≡ 0
elsewhere t from upto [] e all = refl
elsewhere t from upto (rec ∷ d) e all =
    let rest = elsewhere t from upto d e all.1 in
    let one : greatest_of (cursor_of t rec) ≡ 0 =
    ap (λ f. greatest_of (cursor_of t f)) all.0 ∙ other-cursor t from upto e in
    let both : cursor (rec ∷ d) t ≡ max (greatest_of (cursor_of t rec)) (cursor d t) =
    greatest_of-append (cursor_of t rec) (flat_map (cursor_of t) d) in
    omega (arith, rest, one, both)

-- ---- with a batch more

more-accepted : (b d : List Fact) (out : ℕ) → length (accepted b out) ≤ length (accepted (b ++ d) out)
more-accepted b d out =
    let all : length (accepted (b ++ d) out) ≡ length (accepted b out) + length (accepted d out) =
    ap length (flat_map-append (accepted_of out) b d) ∙ length-append (accepted b out) (accepted d out) in
    omega (arith, all)

still : (b d : List Fact) (t : ℕ) → cursor d t ≡ 0 → (cursor b t ≡ 0) ⊎ Trimmed b t
    → (cursor (b ++ d) t ≡ 0) ⊎ Trimmed (b ++ d) t
still b d t none (inl e) = inl (omega (arith, cursor-more b d t, none, e))
still b d t none (inr r) = inr (record {
  out = r.out;
  incoming = first-add is_incoming_side b d t r.incoming;
  outgoing = first-add is_outgoing_side b d r.out r.outgoing;
  ahead = omega (arith, cursor-more b d t, none, r.ahead, more-accepted b d r.out);
})

trimmed : (b d : List Fact) (f : Trimming b d) → (cursor b f.from ≡ 0) ⊎ Trimmed b f.from → Trimmed (b ++ d) f.from
trimmed b d f h = record {
  out = f.out;
  incoming = first-add is_incoming_side b d f.from f.incoming;
  outgoing = first-add is_outgoing_side b d f.out f.outgoing;
  ahead = omega (
    arith,
    cursor-more b d f.from,
    before,
    at-most f.from f.from f.upto d f.each,
    f.within,
    more-accepted b d f.out,
  );
}
  where
    before : cursor b f.from ≤ length (accepted b f.out)
    before = elim h [
      | inl e ↦ omega (arith, e)
      | inr r ↦ subst (λ (o : ℕ). cursor b f.from ≤ length (accepted b o))
          (same-some (first_outgoing b) r.out f.out r.outgoing f.outgoing) r.ahead
    ]

pub trimmed-add : (b d : List Fact) → AllByRecursion IsLive d → HasTrimmed b → MayTrim b d → HasTrimmed (b ++ d)
trimmed-add b d live h (inl none) = λ t. still b d t (none-cursors t d live none) (h t)
trimmed-add b d live h (inr f) = λ t.
    elim (f.from == t) as (λ z. (f.from == t) ≡ z → (cursor (b ++ d) t ≡ 0) ⊎ Trimmed (b ++ d) t) [
      | true ↦ λ e. subst (λ s. (cursor (b ++ d) s ≡ 0) ⊎ Trimmed (b ++ d) s) (eqb-true f.from t e)
          (inr (trimmed b d f (h f.from)))
      | false ↦ λ e. still b d t (elsewhere t f.from f.upto d e f.each) (h t)
    ] refl

-- ---- what is acknowledged was accepted

pub acknowledged-few : EndsAreRight → SetsUnite → AckedWereAccepted → (r : List Fact) (out : ℕ) → all_fit [] r ≡ true
    → HaveProper r → acknowledged r out ≤ accepted_count r out
acknowledged-few ends sets within r out fit proper =
    by_front (front_of (united [] (acked r out))) refl
  where
    by_front : (m : ℕ) → acknowledged r out ≡ m → m ≤ accepted_count r out
    by_front zero e = omega arith
    by_front (suc m) e =
        let front = ends.front (united [] (acked r out)) (sets r fit proper out) in
        let in_ = front.inside (suc m) (omega arith) (omega (arith, e)) in
        within r fit out (suc m) in_
