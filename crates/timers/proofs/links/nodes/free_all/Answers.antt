use Rattle.std.proofs.Common.{◌+◌, refl, sym, subst, arith, List}
use Rattle.timers.specs.declared.links.nodes.Node.{Node}
use Rattle.timers.specs.Links.Nodes.{IsBuilt}
use Rattle.timers.proofs.LinksLemmas.BuildLemmas.{built_none, built_last, built_more}
use Rattle.timers.proofs.links.nodes.free_all.Goals as goal

pub loop-slot-init : goal.loop-slot-init
loop-slot-init g c = built_none c.args.nodes.now.items c.args.slots c.args.lists c.requires.count c.requires.alone

pub put_free-requires-clause-last : goal.put_free-requires-clause-last
put_free-requires-clause-last g c =
    built_last c.loop-slot.nodes.items c.args.slots c.args.lists c.loop-slot.slot c.loop-slot.invariant (omega arith)

pub loop-slot-preserved : goal.loop-slot-preserved
loop-slot-preserved g c =
    subst (λ (m : List Node). IsBuilt m c.args.slots c.args.lists (c.loop-slot.slot + 1)) (sym c.put_free.ensures)
    (built_more c.loop-slot.nodes.items c.args.slots c.args.lists c.loop-slot.slot _ c.loop-slot.invariant (omega arith)
    refl refl)
