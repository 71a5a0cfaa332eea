-- Lemmas on the fresh list of a node, which the crates above use: each record is a batch of its own, and all numbers
-- that were drawn have room there.
use Rattle.std.proofs.Common.{◌≡◌, ℕ, ◌≤◌, List, [], ◌∷◌, refl, ap, arith, length-append}
use Rattle.std.specs.List.{flat_map}
use Rattle.record_batch.specs.Fact.{Fact}
use Rattle.record_batch.specs.Sequences.Makers.{draws_of, counter}
use Rattle.rm_protocol.specs.Node.{records_in, alone, end_of}
use Rattle.rm_protocol.specs.Terms.{Terms}

pub records-alone : (r : List Fact) → records_in (alone r) ≡ r
records-alone [] = refl
records-alone (f ∷ r) = ap (λ l. f ∷ l) (records-alone r)

pub drawn-alone : (terms : Terms) → ((batch : List Fact) → counter batch ≤ terms.size batch) → (start : ℕ)
    (r : List Fact) → counter r ≤ end_of terms start (alone r)
drawn-alone terms each start [] = omega arith
drawn-alone terms each start (f ∷ r) =
    omega (
      arith,
      drawn-alone terms each start r,
      each (f ∷ []),
      length-append (draws_of f) (flat_map draws_of r),
      length-append (draws_of f) [],
    )
