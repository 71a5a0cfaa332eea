use Rattle.std.proofs.Common.{◌≡◌, false, length, ap, arith}
use Rattle.rm_base.specs.NumberSet.{has_number}
use Rattle.rm_sides.specs.Destination.Kept.{Came, GoesAt, numbers_at}
use Rattle.rm_sides.specs.Destination.Messages.{numbers_of}
use Rattle.rm_sides.proofs.DestinationLemmas.KeptLemmas.{IsSorting-add}
use Rattle.rm_sides.proofs.destination.arrivals.Arrivals.add.Goals as goal

pub invariant_of-self-2 : goal.invariant_of-self-2
invariant_of-self-2 c =
    let came = c.self.inside.came.items in
    let places = c.self.inside.places.items in
    let i = c.place_of-place.result in
    let seen : came ≡ c.args.self.now.messages = ap (λ (s : Came). s.messages) c.self.view_is in
    let new : has_number (numbers_of came) c.args.number ≡ false = rw seen c.requires.is_new in
    let goes : GoesAt (numbers_at places) c.args.number i = rw c.deref.ensures.value at c.place_of-place.ensures in
    let count : c.len-at.result ≡ length came = omega (arith, c.len-at.ensures) in
    rw (
      c.push_reserved.ensures.items,
      c.reserve.ensures.items,
      c.in-Ok.ensures.items,
      c.reserve-2.ensures.items,
      count,
    )
    (IsSorting-add came places c.args.number c.args.payload i c.self.invariant c.requires.from_one new goes)
