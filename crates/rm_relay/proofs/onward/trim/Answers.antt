use Rattle.node_store.specs.Stored.{Stored}
use Rattle.rm_node.specs.Ends.{done_end}
use Rattle.rm_relay.proofs.OnwardLemmas.{trims_here}
use Rattle.rm_relay.proofs.onward.trim.Goals as goal

pub returns : goal.returns
returns g c into out ends =
    trims_here g.D.Disk.tells (g.D.Disk.told c.args.disk.now) (g.D.Disk.told c.consume.new.disk) c.args.node.now
    c.consume.new.self _ _ _ _ into out c.find_acknowledged-upto.result (done_end c.consume.result)
    c.tables.ensures c.tables-2.ensures c.in-Some.ensures.found ends c.find_acknowledged-upto.ensures
    c.consume.ensures
