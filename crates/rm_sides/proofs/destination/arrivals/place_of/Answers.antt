use Rattle.std.proofs.Common.{ℕ, ◌≡◌, ◌+◌, ◌-◌, ◌/◌, length, arith}
use Rattle.std.proofs.lemmas.List.{length-map}
use Rattle.rm_base.specs.NumberSetLemmas.{Rises-places}
use Rattle.rm_sides.specs.declared.destination.arrivals.Place.{Place}
use Rattle.rm_sides.specs.Destination.Kept.{numbers_at}
use Rattle.rm_sides.proofs.DestinationLemmas.KeptLemmas.{number_at}
use Rattle.rm_sides.proofs.destination.arrivals.place_of.Goals as goal

pub loop-low-preserved-then-places-mid : goal.loop-low-preserved-then-places-mid
loop-low-preserved-then-places-mid c =
    let places = c.args.places.now in
    let mid : ℕ = c.loop-low.low + (c.loop-low.high - c.loop-low.low) / 2 in
    let inv = c.loop-low.invariant in
    let count : length (numbers_at places) ≡ length places = length-map places (λ (p : Place). p.number) in
    record {
      ordered = omega (arith, inv.ordered);
      within = inv.within;
      below = λ k h. omega (
        arith,
        c.if-places-mid.true,
        number_at places mid,
        Rises-places 0 (numbers_at places) c.requires k mid (omega arith) (omega (arith, inv.within, count)),
      );
      above = inv.above;
    }

pub loop-low-preserved : goal.loop-low-preserved
loop-low-preserved c =
    let places = c.args.places.now in
    let mid : ℕ = c.loop-low.low + (c.loop-low.high - c.loop-low.low) / 2 in
    let inv = c.loop-low.invariant in
    let count : length (numbers_at places) ≡ length places = length-map places (λ (p : Place). p.number) in
    record {
      ordered = omega (arith, inv.ordered);
      within = omega (arith, inv.within);
      below = inv.below;
      above = λ k le h. omega (
        arith,
        c.if-places-mid.false,
        number_at places mid,
        Rises-places 0 (numbers_at places) c.requires mid k le (omega (arith, count)),
      );
    }

pub returns : goal.returns
returns c =
    let places = c.args.places.now in
    let inv = c.loop-low.invariant in
    let count : length (numbers_at places) ≡ length places = length-map places (λ (p : Place). p.number) in
    record {
      within = omega (arith, inv.within, count);
      below = inv.below;
      above = λ k le h. inv.above k (omega arith) (omega (arith, count));
    }
