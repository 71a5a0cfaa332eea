use Rattle.std.proofs.Common.{Bool, ◌∙◌, ℕ, sym, ap, subst}
use Rattle.std.specs.Prelude.{Ok, Err}
use Rattle.std.proofs.lemmas.Result.{err_from_is_err_and}
use Rattle.rm_disk.specs.Cause.{HasCause}
use Rattle.rm_node.specs.Asked.{is_connected}
use Rattle.rm_node.specs.Ends.{reaction_end}
use Rattle.rm_replay.specs.Actor.Actored.{Actored}
use Rattle.rm_replay.specs.Actor.Stands.{Acts, Stands}
use Rattle.rm_replay.specs.Actor.Steps.{answer_of, clock_after, clocked}
use Rattle.rm_replay.proofs.ActorLemmas.ActLemmas.{actored}
use Rattle.rm_replay.proofs.ActorLemmas.StepLemmas.{ByTheRules, acted, disk_told, still}
use Rattle.rm_replay.proofs.actor.actor.Actor.ask.Goals as goal

pub returns-in_err-came : goal.returns-in_err-came
returns-in_err-came g c =
    let first = g.D.Disk.told c.args.disk.now in
    let now = g.D.Disk.told c.step.new.disk in
    let old = actored c.self.inside.node c.self.inside.clock in
    let clock = c.clock_after-clock.ensures ∙ ap (clock_after c.args.call) (sym c.self.view_is) in
    let by : ByTheRules = record {
      reads = c.what_is_read_may_be_written.ensures;
      refuses = c.a_refusal_may_be_answered.ensures.refusal;
      each = c.each_message_keeps_the_rules.ensures;
      polls = c.what_waits_keeps_the_rules.ensures;
    } in
    let p = err_from_is_err_and c.from_residual.result c.from_residual.ensures.1 in
    rw p.1 (record {
      plays = λ terms own asked is x s.
          let there = subst (λ (a : Actored). Stands x first a) (sym c.self.view_is) s in
          still c.args.call x now c.step.new.self c.self.inside.clock (clock_after c.args.call old)
          (acted terms g.D.Disk.tells c.args.call x asked first now old c.step.new.self (reaction_end c.step.result)
          (Err c.in_err-came.field-0.0) by own
          (c.a_journal_ends_with_its_batches.ensures terms own) g.met.D.CrashDisk.always_tells there
          c.the_reply_comes_first.ensures c.requires.may is c.step.ensures.runs
          (λ kept keeps. c.step.ensures.does terms own kept keeps asked is) c.in_err-came.ensures)
          there.clock;
      cause = subst (λ (b : Bool). HasCause first.faults now.faults b)
          (disk_told _ (Err c.in_err-came.field-0.0) c.in_err-came.ensures) c.step.ensures.cause;
      crashes = c.step.ensures.crashes g.met.D.CrashDisk.always_tells;
    })

pub returns : goal.returns
returns g c =
    let first = g.D.Disk.told c.args.disk.now in
    let now = g.D.Disk.told c.step.new.disk in
    let old = actored c.self.inside.node c.self.inside.clock in
    let clock = c.clock_after-clock.ensures ∙ ap (clock_after c.args.call) (sym c.self.view_is) in
    let by : ByTheRules = record {
      reads = c.what_is_read_may_be_written.ensures;
      refuses = c.a_refusal_may_be_answered.ensures.refusal;
      each = c.each_message_keeps_the_rules.ensures;
      polls = c.what_waits_keeps_the_rules.ensures;
    } in
    record {
      plays = λ terms own asked is x s.
          let there = subst (λ (a : Actored). Stands x first a) (sym c.self.view_is) s in
          subst (λ (n : ℕ). Acts (is_connected c.args.call) (clocked c.args.call x) (answer_of terms x asked) now
          (actored c.step.new.self n) (Ok c.in_ok-came.came)) (sym clock)
          (acted terms g.D.Disk.tells c.args.call x asked first now old c.step.new.self (reaction_end c.step.result)
          (Ok c.in_ok-came.came) by own
          (c.a_journal_ends_with_its_batches.ensures terms own) g.met.D.CrashDisk.always_tells there
          c.the_reply_comes_first.ensures c.requires.may is c.step.ensures.runs
          (λ kept keeps. c.step.ensures.does terms own kept keeps asked is) c.in_ok-came.ensures);
      cause = subst (λ (b : Bool). HasCause first.faults now.faults b)
          (disk_told _ (Ok c.in_ok-came.came) c.in_ok-came.ensures) c.step.ensures.cause;
      crashes = c.step.ensures.crashes g.met.D.CrashDisk.always_tells;
    }
