use Rattle.std.proofs.Common.{false, refl}
use Rattle.rm_station.specs.Works.{takes}
use Rattle.rm_station.proofs.OutLemmas.{packed-ok}
use Rattle.rm_station.proofs.station.StationDesk.take.Goals as goal

pub returns-clause-does : goal.returns-clause-does
returns-clause-does g c =
    let t = c.take-outs.ensures.takes in
    record {
      steps = t.0;
      outs = c.take-outs.result;
      stop = false;
      makes = t.1;
      acts = takes c.now-now.result c.args.body t.0 c.take-outs.result c.now-now.ensures.told t.2;
      packs = c.pack.ensures;
      stopped = refl;
      clock = c.now-now.ensures.still;
    }

pub returns-clause-ready : goal.returns-clause-ready
returns-clause-ready g c = packed-ok _ c.take-outs.result c.pack.result c.pack.ensures c.take-outs.ensures.up
