-- A batch takes at least a byte for each number that it draws.
use Rattle.std.proofs.Common.{◌≡◌, ◌≤◌, ℕ, List, [], ◌∷◌, ◌++◌, length, Some, None, refl, arith}
use Rattle.std.specs.Int.{w64, to_be_bytes}
use Rattle.std.specs.List.{flat_map}
use Rattle.std.proofs.lemmas.List.{length-append}
use Rattle.record_batch.specs.Batch.{creating, fact_text, batch_text}
use Rattle.record_batch.specs.Fact.{Fact, Made, Creating, Created, Granted, Accepted, Acked, Received, Closing}
use Rattle.record_batch.specs.Fact.{ClosedOut, Closed, Ending, EndedOut, Ended, Failed, Consumed, Dropped, Purged}
use Rattle.record_batch.specs.Format.{number32, number64, optional, ◌&◌}
use Rattle.record_batch.specs.Parts.{address, via, lapse, own_offer}
use Rattle.record_batch.specs.Sequences.Makers.{draws_of, counter}

eight : (n : ℕ) (rest : List ℕ) → 8 ≤ length (number64.written n ++ rest)
unfolding number64
eight n rest = let long : length (to_be_bytes w64 n) ≡ 8 = refl in omega (arith, length-append (to_be_bytes w64 n) rest)

draws-few : (f : Fact) → length (draws_of f) ≤ length (fact_text f)
unfolding creating
draws-few (Creating ticket to v l None) = omega arith
draws-few (Creating ticket to v l (Some o)) =
    let more = eight ticket ((address & (via & (lapse & optional own_offer))).written (to, (v, (l, Some o)))) in
    omega (arith, more)
draws-few (Granted c m a v d l o) = omega arith
draws-few (Closing seq ticket) = omega arith
draws-few (Ending seq ticket) = omega arith
draws-few (Made node to) = omega arith
draws-few (Created seq ident accept) = omega arith
draws-few (Accepted seq payload) = omega arith
draws-few (Acked seq ranges) = omega arith
draws-few (Received seq number payload) = omega arith
draws-few (ClosedOut seq) = omega arith
draws-few (Closed seq cause last) = omega arith
draws-few (EndedOut seq) = omega arith
draws-few (Ended seq cause last) = omega arith
draws-few (Failed seq fault) = omega arith
draws-few (Consumed seq upto) = omega arith
draws-few (Dropped seq upto) = omega arith
draws-few (Purged seq ranges) = omega arith

all-few : (batch : List Fact) → length (flat_map draws_of batch) ≤ length (flat_map fact_text batch)
all-few [] = omega arith
all-few (f ∷ batch) =
    omega (
      arith,
      length-append (draws_of f) (flat_map draws_of batch),
      length-append (fact_text f) (flat_map fact_text batch),
      draws-few f,
      all-few batch,
    )

pub counter-few : (batch : List Fact) → counter batch ≤ length (batch_text batch)
counter-few batch =
    omega (arith, all-few batch, length-append (number32.written (length batch)) (flat_map fact_text batch))
