use Rattle.std.proofs.Common.{◌≡◌, ◌∙◌, ◌+◌, ◌-◌, ◌≤◌, length, Err, ap, subst, sym, arith}
use Rattle.std.proofs.lemmas.List.{take_all}
use Rattle.std.proofs.lemmas.Result.{err_from_is_err_and}
use Rattle.rm_disk.specs.Journal.EntryLemmas.{length-gates_from}
use Rattle.rm_disk.specs.Journal.Journal.{Fits}
use Rattle.node_store.specs.Mounted.{IsAdded, IsStuck, Replays}
use Rattle.node_store.specs.declared.error.MountError.{MountError}
use Rattle.node_store.proofs.ReplayLemmas.{err_is, none_replayed, replayed-more, replays-more}
use Rattle.node_store.proofs.replay.replay.Goals as goal

pub returns-in_err-add_entry-clause-none : goal.returns-in_err-add_entry-clause-none
returns-in_err-add_entry-clause-none g c tells e entries fits batches replayed =
    let inv = c.loop-before.invariant in
    let i = c.loop-before.before in
    let r = c.loop-before.tables.records in
    let here : Fits entries (g.D.Disk.told c.loop-before.disk).past c.loop-before.journal =
    rw (inv.past tells, inv.journal) fits in
    let p = err_from_is_err_and c.from_residual.result c.from_residual.ensures.1 in
    let none = c.in_err-add_entry.was
    ∙ ap (λ (x : MountError). Err x) (sym p.2 ∙ err_is p.0 _ c.from_residual.result p.1 e) in
    let back : i + 1 - 1 ≡ i = omega arith in
    let stuck : IsStuck r entries i =
    subst (IsStuck r entries) back (c.add_entry.ensures.none tells none entries here) in
    none_replayed c.what_is_written_is_read.ensures.read entries i r (inv.replayed tells entries fits) stuck batches
    replayed

pub loop-before-preserved : goal.loop-before-preserved
loop-before-preserved g c =
    let inv = c.loop-before.invariant in
    let i = c.loop-before.before in
    let step = c.in_ok-add_entry.ensures in
    let back : i + 1 - 1 ≡ i = omega arith in
    record {
      replayed = λ tells entries fits.
          let here : Fits entries (g.D.Disk.told c.loop-before.disk).past c.loop-before.journal =
          rw (inv.past tells, inv.journal) fits in
          replays-more entries i c.loop-before.tables.records c.add_entry.new.tables.records
          (inv.replayed tells entries fits)
          (subst (IsAdded c.loop-before.tables.records c.add_entry.new.tables.records entries) back
          (step.added tells entries here));
      sound = replayed-more c.loop-before.tables.records c.add_entry.new.tables.records inv.sound step.more;
      journal = step.journal ∙ inv.journal;
      past = λ tells. step.past tells ∙ inv.past tells;
      faults = step.cause.cause ∙ inv.faults;
      fuse = λ tells none. (step.unarmed tells).keeps (inv.fuse tells none);
    }

pub returns-clause-found : goal.returns-clause-found
returns-clause-found g c tells entries fits =
    let i = c.loop-before.before in
    let whole : length entries ≤ i =
    omega (
      arith,
      c.loop-before-test.false,
      c.count-before-end.ensures,
      ap (λ l. length l) fits.gates,
      length-gates_from c.args.journal.now.bank.start entries,
    ) in
    subst (λ l. Replays l c.loop-before.tables.records) (take_all i entries whole)
    (c.loop-before.invariant.replayed tells entries fits)
