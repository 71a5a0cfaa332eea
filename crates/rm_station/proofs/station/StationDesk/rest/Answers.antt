use Rattle.std.proofs.Common.{false, refl}
use Rattle.rm_station.specs.Works.{rests}
use Rattle.rm_station.proofs.OutLemmas.{packed-ok}
use Rattle.rm_station.proofs.station.StationDesk.rest.Goals as goal

pub returns-clause-does : goal.returns-clause-does
returns-clause-does g c = record {
  steps = _;
  outs = c.tick-outs.result;
  stop = false;
  makes = c.tick-outs.ensures.makes;
  acts = rests c.now-now.result c.tick-outs.result c.now-now.ensures.told c.tick-outs.ensures.of_call;
  packs = c.pack.ensures;
  stopped = refl;
  clock = c.now-now.ensures.still;
}

pub returns-clause-ready : goal.returns-clause-ready
returns-clause-ready g c = packed-ok _ c.tick-outs.result c.pack.result c.pack.ensures c.tick-outs.ensures.up
