use Rattle.std.proofs.Common.{arith, sym}
use Rattle.timers.proofs.KeysLemmas.CellLemmas.{gap-none}
use Rattle.timers.proofs.keys.cells.find.Goals as goal

pub returns-then-place-cells : goal.returns-then-place-cells
returns-then-place-cells c = record {
  place_is = c.place_of-place.ensures;
  absent = gap-none c.args.cells.now c.args.key c.place_of-place.result c.requires c.place_of-place.ensures
      (λ lt. absurd (omega arith));
}

pub returns : goal.returns
returns c = record {
  place_is = c.place_of-place.ensures;
  absent = gap-none c.args.cells.now c.args.key c.place_of-place.result c.requires c.place_of-place.ensures
      (λ lt. sym c.if-same_key.ensures);
}
