use Rattle.std.proofs.Common.{List, false, refl, subst, sym}
use Rattle.std.specs.Prelude.{Result}
use Rattle.rm_node.specs.declared.packets.Out.{Out}
use Rattle.rm_serve.specs.Steps.{place_of}
use Rattle.rm_host.specs.declared.end.End.{End}
use Rattle.service_turns.specs.Turns.{Served}
use Rattle.rm_station.specs.Works.{Acts, serves}
use Rattle.rm_station.proofs.OutLemmas.{packed-ok, up-served}
use Rattle.rm_station.proofs.station.StationDesk.serve.Goals as goal

pub returns-clause-does : goal.returns-clause-does
returns-clause-does g c =
    let t = c.serve_one-served.ensures.serves in
    let s = c.args.self.now in
    let old = g.K.Source.told c.args.conn.now in
    let new = g.K.Source.told c.serve_one-served.new.conn in
    record {
      steps = t.0;
      outs = c.outs_served.result;
      stop = false;
      makes = t.1;
      acts = subst (λ (o : Result (List Out) End). Acts (g.C.Clock.next s.clock) s.node.stored
          (Served old new) t.0 o false) (sym c.outs_served.ensures)
          (serves c.now-now.result old new t.0 c.serve_one-served.result c.now-now.ensures.told t.2);
      packs = c.pack.ensures;
      stopped = refl;
      clock = c.now-now.ensures.still;
    }

pub returns-clause-ready : goal.returns-clause-ready
returns-clause-ready g c =
    let told = g.D.Disk.told in
    let s = c.args.self.now in
    packed-ok _ c.outs_served.result c.pack.result c.pack.ensures
    (up-served g.D.Disk.tells (place_of (told s.disk) s.node)
    (place_of (told c.serve_one-served.new.disk) c.serve_one-served.new.node) c.serve_one-served.result
    c.outs_served.result c.requires
    c.serve_one-served.ensures.ready c.serve_one-served.ensures.up c.outs_served.ensures)
