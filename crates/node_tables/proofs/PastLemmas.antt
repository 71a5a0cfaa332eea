-- What a snapshot has of a row: how much of an inbox was consumed, and the ranges behind the first run.
use Rattle.std.proofs.Common.{◌≡◌, ℕ, ◌+◌, ◌<◌, ◌≤◌, ◌==◌, true, false, cond, List, [], ◌∷◌}
use Rattle.std.proofs.Common.{Option, Some, None, refl, ap, ◌∙◌, arith}
use Rattle.std.specs.List.{AllByRecursion}
use Rattle.std.specs.Option.{option_map}
use Rattle.rm_sides.specs.declared.ranges.range.Range.{Range}
use Rattle.rm_sides.specs.Ranges.Ranges.{IsCanonical, RisesFrom}
use Rattle.rm_base.specs.Numbered.{numbered}
use Rattle.record_batch.specs.Sequences.Told.{Side, Sends, Receives}
use Rattle.record_batch.specs.Snapshot.Same.{AreProper}
use Rattle.record_batch.specs.Snapshot.Snapshot.{past_front}
use Rattle.node_tables.specs.Row.Row.{Seen, receiving_in}
use Rattle.node_tables.specs.Kept.{tolds}
use Rattle.node_tables.specs.Shorter.{IsRange, passed_by, passed_in}
use Rattle.node_tables.proofs.RowsLemmas.{numbered-map}

-- nothing is consumed of what sends
nothing_by : (x : Side) → None ≡ receiving_in x → [] ≡ passed_by x
nothing_by (Sends t) none = refl
nothing_by (Receives t) none = absurd (let e = none in cc)

pub passed-nothing : (rows : List Seen) (s : ℕ) (row : Seen) → Some row ≡ numbered rows s
    → None ≡ receiving_in row.told.side → [] ≡ passed_in (numbered (tolds rows) s)
passed-nothing rows s row is none =
    nothing_by row.told.side none
    ∙ ap (λ (o : Option Seen). passed_in (option_map (λ (r : Seen). r.told) o)) is
    ∙ ap passed_in (numbered-map (λ (r : Seen). r.told) rows s)

-- canonical ranges have message numbers alone, and those behind the first run do so too
earlier : (a b : ℕ) (xs : List Range) → a ≤ b → RisesFrom b xs → RisesFrom a xs
earlier a b [] le h = tt
earlier a b (x ∷ xs) le h = (omega (arith, le, h.0), h.1, h.2, h.3)

pub ranges-each : (a : ℕ) (xs : List Range) → 0 < a → RisesFrom a xs → AllByRecursion IsRange xs
ranges-each a [] pos h = tt
ranges-each a (x ∷ xs) pos h =
    ((omega (arith, pos, h.0), h.1, h.2), ranges-each (x.upper + 2) xs (omega arith) h.3)

pub ranges-proper : (a : ℕ) (xs : List Range) → RisesFrom a xs → AreProper xs
ranges-proper a [] h = tt
ranges-proper a (x ∷ xs) h = (h.1, ranges-proper (x.upper + 2) xs h.3)

pub canonical-past : (xs : List Range) → IsCanonical xs → IsCanonical (past_front xs)
canonical-past [] h = tt
canonical-past (x ∷ xs) h = elim (x.lower == 1) as (λ b. IsCanonical (cond b xs (x ∷ xs))) [
  | true ↦ earlier 1 (x.upper + 2) xs (omega arith) h.3
  | false ↦ h
]
