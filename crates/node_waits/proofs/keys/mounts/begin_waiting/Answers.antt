use Rattle.std.proofs.Common.{◌+◌, List, sym, subst}
use Rattle.timers.specs.declared.slots.timers.Key.{Key}
use Rattle.timers.specs.Keys.Keyed.{keys_in}
use Rattle.rm_protocol.specs.Waiting.{key}
use Rattle.node_waits.specs.Keys.Filled.{AllBefore}
use Rattle.node_waits.proofs.KeysLemmas.FillLemmas.{before-next, before-with}
use Rattle.node_waits.proofs.keys.mounts.begin_waiting.Goals as goal

pub returns-then-waits-clause-before : goal.returns-then-waits-clause-before
returns-then-waits-clause-before c =
    subst (λ (v : List Key). AllBefore v (key c.args.seq (c.args.number + 1))) (sym c.begin_last.ensures.keys)
    (before-with (keys_in c.args.timers.now.cells) c.args.seq c.args.number c.requires.before)

pub returns-else-waits-clause-before : goal.returns-else-waits-clause-before
returns-else-waits-clause-before c =
    before-next (keys_in c.args.timers.now.cells) c.args.seq c.args.number c.requires.before
