-- What a snapshot writes are message numbers, as sets.
use Rattle.std.proofs.Common.{◌≡◌, ◌+◌, ℕ, ◌≤◌, true, List, [], ◌∷◌, arith}
use Rattle.std.specs.Prelude.{nat_le}
use Rattle.std.specs.List.{list_all}
use Rattle.std.proofs.lemmas.Bool.{and_parts, leb-true}
use Rattle.rm_sides.specs.Ranges.Changes.{united}
use Rattle.rm_sides.specs.Ranges.Laws.{EndsAreRight, UnionHasBoth}
use Rattle.rm_sides.specs.declared.ranges.range.Range.{Range}
use Rattle.rm_sides.specs.Ranges.Ranges.{IsCanonical, RisesFrom}
use Rattle.rm_base.specs.Message.{max_number}
use Rattle.record_batch.specs.Fact.{Fact}
use Rattle.record_batch.specs.Sequences.Fits.{all_fit, is_up_to}
use Rattle.record_batch.specs.Sequences.Sources.{acked}
use Rattle.record_batch.specs.Snapshot.AckedLemmas.{union_}
use Rattle.record_batch.specs.Snapshot.EachLemmas.{each-acked, each-purged, keeps}
use Rattle.record_batch.specs.Snapshot.PassedLemmas.{Passed, earliest_, first-of, nothing_, passed-is, upto_}
use Rattle.record_batch.specs.Snapshot.Same.{AreProper, HasProper, HaveProper, SnapshotIsProper, SnapshotWritesSets}
use Rattle.record_batch.specs.Snapshot.Snapshot.{left_acked, passed, snapshot}
use Rattle.record_batch.specs.Snapshot.WalkLemmas.{past-rises, may-go}

-- ---- the ranges of a snapshot

weaker : (a b : ℕ) (xs : List Range) → a ≤ b → RisesFrom b xs → RisesFrom a xs
weaker a b [] le rise = tt
weaker a b (x ∷ xs) le rise = (omega (arith, le, rise.0), rise.1, rise.2, rise.3)

-- rising ranges have a number each
pub proper : (a : ℕ) (xs : List Range) → RisesFrom a xs → AreProper xs
proper a [] rise = tt
proper a (x ∷ xs) rise = (rise.1, proper (x.upper + 2) xs rise.3)

-- where the numbers that are left are sets, each range of a snapshot has a number
snapshot-proper : (r : List Fact) → ((s : ℕ) → IsCanonical (left_acked r s)) → HaveProper r → HaveProper (snapshot r)
snapshot-proper r left = keeps HasProper r [] r (record {
  acks_ = λ s ranges has. each-acked HasProper s (left_acked r s) (proper 1 (left_acked r s) (left s));
  accepts = λ s p from has. tt;
  drops = λ s u has. tt;
  receives = λ s n p has. each-purged HasProper s (passed r s) tt;
  purges = λ s ranges has. each-purged HasProper s (passed r s) tt;
})

-- ---- what a snapshot writes

pub left-set : UnionHasBoth → EndsAreRight → (r : List Fact) → all_fit [] r ≡ true → HaveProper r → (s : ℕ)
    → IsCanonical (left_acked r s)
left-set both ends r fit whole s =
    let p = past-rises (united [] (acked r s)) (union_ both ends r s fit whole).set in
    weaker 1 p.0 (left_acked r s) (omega (arith, p.1)) p.2

passed-set : UnionHasBoth → (r : List Fact) (s : ℕ) → all_fit [] r ≡ true → (ps : List Range) → Passed r s ps
    → list_all (is_up_to max_number) ps ≡ true
    → IsCanonical ps
passed-set both r s fit ps nothing_ cap = tt
passed-set both r s fit ps (earliest_ loose pos le) cap = (first-of both r s fit loose le).canonical
passed-set both r s fit ps (upto_ c ordered pos cur le) cap =
    let one = (and_parts (is_up_to max_number (record { lower = 1; upper = c })) true cap).0 in
    (omega arith, pos, leb-true c max_number (and_parts (nat_le 1 1) (nat_le c max_number) one).1, tt)

pub snapshot-writes-sets : UnionHasBoth → EndsAreRight → SnapshotWritesSets
snapshot-writes-sets both ends r fit whole s =
    let may = may-go both ends r fit whole s in
    record {
      settled_ = may.few;
      left = left-set both ends r fit whole s;
      passed_ = passed-set both r s fit (passed r s) (passed-is r s) may.cap;
    }

pub snapshot-is-proper : UnionHasBoth → EndsAreRight → SnapshotIsProper
snapshot-is-proper both ends r fit whole = snapshot-proper r (left-set both ends r fit whole) whole
