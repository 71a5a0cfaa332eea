use Rattle.std.proofs.Common.{◌≡◌, ◌<◌, ℕ, length, ap, subst, sym, arith}
use Rattle.std.specs.List.{insert}
use Rattle.rm_base.specs.declared.message.Payload.{Payload}
use Rattle.rm_sides.specs.declared.destination.arrivals.Place.{Place}
use Rattle.rm_sides.specs.Destination.Kept.{GoesAt, numbers_at}
use Rattle.rm_sides.proofs.DestinationLemmas.ForgetLemmas.{placed-more}
use Rattle.rm_sides.proofs.destination.arrivals.place_all.Goals as goal

pub loop-at-preserved : goal.loop-at-preserved
loop-at-preserved c =
    let came = c.args.came.now in
    let at = c.loop-at.at in
    let lt : at < length came = omega (arith, c.loop-at-test.true) in
    let places = c.loop-at.places.items in
    let i = c.place_of-place.result in
    record {
      sorting =
          placed-more came at c.index-came-at.result places c.insert.new.self.items i
          lt c.index-came-at.is c.requires.from_one c.requires.once c.loop-at.invariant.sorting
          (subst (λ (m : ℕ × Payload). GoesAt (numbers_at places) m.0 i) (sym c.index-came-at.is)
          (rw c.deref.ensures.value at c.place_of-place.ensures))
          (subst (λ (m : ℕ × Payload). c.insert.new.self.items ≡ insert places i (record { number = m.0; at = at }))
          (sym c.index-came-at.is) c.in-Ok.ensures.items);
      len = omega (arith, c.in-Ok.ensures.len, c.loop-at.invariant.len);
      capacity = omega (arith, c.insert.ensures.capacity, c.loop-at.invariant.capacity);
    }
