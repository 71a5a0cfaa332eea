use Rattle.std.proofs.Common.{Bool, sym, subst}
use Rattle.rm_disk.specs.Cause.{HasCause}
use Rattle.rm_node.specs.Compacted.{compact_end}
use Rattle.rm_replay.specs.Actor.Actored.{Actored}
use Rattle.rm_replay.specs.Actor.Stands.{Stands}
use Rattle.rm_replay.proofs.ActorLemmas.ActLemmas.{actored}
use Rattle.rm_replay.proofs.ActorLemmas.RewriteLemmas.{rewrites}
use Rattle.rm_replay.proofs.ActorLemmas.StepLemmas.{disk_told_alone}
use Rattle.rm_replay.proofs.actor.actor.Actor.compact.Goals as goal

pub returns : goal.returns
returns g c =
    let first = g.D.Disk.told c.args.disk.now in
    let now = g.D.Disk.told c.compact.new.disk in
    let old = actored c.self.inside.node c.self.inside.clock in
    let always = g.met.D.CrashDisk.always_tells in
    record {
      plays = λ terms own x s. rewrites terms g.D.Disk.tells x first now old c.compact.new.self
          (compact_end c.compact.result) c.told_alone.result
          (c.a_journal_is_rewritten_as_the_protocol_says.ensures terms own) always
          (subst (λ (a : Actored). Stands x first a) (sym c.self.view_is) s) c.compact.ensures.does
          c.told_alone.ensures;
      cause = subst (λ (b : Bool). HasCause first.faults now.faults b)
          (disk_told_alone (compact_end c.compact.result) c.told_alone.result c.told_alone.ensures)
          c.compact.ensures.cause;
      crashes = c.compact.ensures.crashes always;
    }
