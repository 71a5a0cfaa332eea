use Rattle.rm_station.specs.Works.{tells}
use Rattle.rm_station.proofs.OutLemmas.{packed-ok}
use Rattle.rm_station.proofs.station.StationDesk.tell.Goals as goal

pub returns-clause-does : goal.returns-clause-does
returns-clause-does g c =
    let t = c.talk-outs.ensures.talks in
    record {
      steps = t.0;
      outs = c.talk-outs.result.0;
      stop = c.talk-outs.result.1;
      makes = t.1;
      acts = tells c.now-now.result _ _ t.0 c.talk-outs.result.0 c.talk-outs.result.1 c.now-now.ensures.told t.2;
      packs = c.pack.ensures;
      stopped = c.is_either-self.ensures;
      clock = c.now-now.ensures.still;
    }

pub returns-clause-ready : goal.returns-clause-ready
returns-clause-ready g c = packed-ok _ c.talk-outs.result.0 c.pack.result c.pack.ensures c.talk-outs.ensures.up
