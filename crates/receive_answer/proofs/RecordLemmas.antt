-- The number of a node, and how many numbers its records draw.
use Rattle.std.proofs.Common.{◌≡◌, ℕ, ◌+◌, ◌<◌, ◌≤◌, ◌^◌, true, List, [], ◌∷◌, ◌++◌, length, subst, sym, ap, ◌∙◌}
use Rattle.std.proofs.Common.{arith, inl, inr}
use Rattle.std.specs.List.{flat_map}
use Rattle.std.proofs.lemmas.Bool.Decides.{nat_tests}
use Rattle.std.proofs.lemmas.Grind.{flat_map-append}
use Rattle.std.proofs.lemmas.List.{length-append}
use Rattle.rm_base.specs.Limits.{entry_bytes}
use Rattle.node_laws.specs.Sizes.Room.{HasRoom}
use Rattle.record_batch.specs.Batch.{batch_text}
use Rattle.record_batch.specs.Fact.{Fact, Made}
use Rattle.record_batch.specs.Sequences.Fits.{all_fit}
use Rattle.record_batch.specs.Sequences.Makers.{counter, draws_of, number}
use Rattle.node_laws.specs.Records.{BeginsWithMade}
use Rattle.node_laws.specs.Answers.Serving.{Serves}

-- a node that was made has a number
pub number-made : (r d : List Fact) → BeginsWithMade r → all_fit [] r ≡ true → 0 < number (r ++ d)
number-made [] d begins fit = absurd begins
number-made (Made node address ∷ r) d begins fit = grind (arith, nat_tests)
number-made (f ∷ r) d begins fit = absurd begins

counter-both : (r d : List Fact) → counter (r ++ d) ≡ counter r + counter d
counter-both r d =
    ap length (flat_map-append draws_of r d) ∙ length-append (flat_map draws_of r) (flat_map draws_of d)

few-drawn : (d : List Fact) (place : ℕ) → counter d ≤ length (batch_text d) → HasRoom place d → counter d ≤ entry_bytes
few-drawn d place law (inl none) = subst (λ ds. counter ds ≤ entry_bytes) (sym none) (omega arith)
few-drawn d place law (inr within) = omega (arith, law, within.short)

-- a batch that fits leaves few numbers drawn
pub drawn-few : ((batch : List Fact) → counter batch ≤ length (batch_text batch)) → (r d : List Fact) (place : ℕ)
    → Serves r place → HasRoom place d → counter (r ++ d) < 2 ^ 62
drawn-few law r d place serves room =
    let drawn = serves.drawn in
    let short = serves.short in
    let few = few-drawn d place (law d) room in
    omega (arith, counter-both r d, drawn, short, few)

-- few were drawn before
pub few-before : (r : List Fact) (place : ℕ) → Serves r place → counter r < 2 ^ 62
few-before r place serves =
    let drawn = serves.drawn in
    let short = serves.short in
    omega (arith, drawn, short)
