use Rattle.std.proofs.Common.{◌≤◌, ◌∙◌, Err, ap, sym, subst, arith}
use Rattle.std.proofs.lemmas.Bool.{false≢true}
use Rattle.std.proofs.lemmas.Result.{err_from_is_err_and}
use Rattle.rm_disk.specs.Journal.Journal.{Fits}
use Rattle.rm_disk.specs.Journal.JournalState.{JournalState, end_of}
use Rattle.node_store.specs.Stored.{IsServing}
use Rattle.node_store.specs.declared.error.MountError.{MountError}
use Rattle.node_store.proofs.MountLemmas.{kept_of, replayed_of, same_records, served, serving_of, windows_of}
use Rattle.node_store.proofs.ReplayLemmas.{err_is}
use Rattle.node_store.proofs.mount.serve.Goals as goal

pub may_serve-requires-clause-short : goal.may_serve-requires-clause-short
may_serve-requires-clause-short g c = omega (arith, ap end_of c.in_ok-tables.ensures.journal)

pub may_serve-requires-clause-placed : goal.may_serve-requires-clause-placed
may_serve-requires-clause-placed g c =
    subst (λ (j : JournalState). j.bank.start ≤ end_of j) (sym c.in_ok-tables.ensures.journal) c.requires.placed

pub returns-in_err-tables-clause-none : goal.returns-in_err-tables-clause-none
returns-in_err-tables-clause-none g c tells e entries fits batches node are =
    let p = err_from_is_err_and c.from_residual.result c.from_residual.ensures.1 in
    let none = c.in_err-tables.was
    ∙ ap (λ (x : MountError). Err x) (sym p.2 ∙ err_is p.0 _ c.from_residual.result p.1 e) in
    c.replay.ensures.none tells none entries fits batches (replayed_of batches entries node are)

pub returns-then-not-may_serve-clause-none : goal.returns-then-not-may_serve-clause-none
returns-then-not-may_serve-clause-none g c tells e entries fits batches node is =
    let are = replayed_of batches entries node is in
    let replays = c.in_ok-tables.ensures.found tells entries fits in
    let same = same_records c.what_is_written_is_read.ensures.read batches entries c.in_ok-tables.tables.records are
    replays in
    let now : Fits entries (g.D.Disk.told c.args.disk.now).past c.replay.new.journal =
    subst (Fits entries (g.D.Disk.told c.args.disk.now).past) (sym c.in_ok-tables.ensures.journal) fits in
    let serving = serving_of c.a_byte_for_each_number.ensures batches entries (g.D.Disk.told c.args.disk.now).past
    c.replay.new.journal c.in_ok-tables.tables.records node are now same
    (omega (arith, ap end_of c.in_ok-tables.ensures.journal)) in
    absurd (false≢true (sym c.if-not-may_serve.true ∙ c.may_serve.ensures.1 serving))

pub returns-then-not-keep_windows-clause-none : goal.returns-then-not-keep_windows-clause-none
returns-then-not-keep_windows-clause-none g c tells e entries fits batches node is =
    let are = replayed_of batches entries node is in
    let replays = c.in_ok-tables.ensures.found tells entries fits in
    let same = same_records c.what_is_written_is_read.ensures.read batches entries c.in_ok-tables.tables.records are
    replays in
    let windows = windows_of batches c.in_ok-tables.tables.records node same in
    absurd (false≢true (sym c.if-not-keep_windows.true ∙ c.keep_windows.ensures.1 windows))

pub returns-clause-found : goal.returns-clause-found
returns-clause-found g c tells entries fits =
    served c.batches_have_values.ensures entries c.replay.new.journal c.in_ok-tables.tables.records
    (c.in_ok-tables.ensures.found tells entries fits) (c.may_serve.ensures.0 c.if-not-may_serve.false)
    (c.keep_windows.ensures.0 c.if-not-keep_windows.false)

pub returns-clause-serving : goal.returns-clause-serving
returns-clause-serving g c =
    subst (λ (j : JournalState). IsServing j c.in_ok-tables.tables.records) c.in_ok-tables.ensures.journal
    (c.may_serve.ensures.0 c.if-not-may_serve.false)

pub returns-clause-kept : goal.returns-clause-kept
returns-clause-kept g c =
    kept_of c.batches_have_values.ensures c.replay.new.journal c.in_ok-tables.tables.records
    c.in_ok-tables.ensures.sound (c.may_serve.ensures.0 c.if-not-may_serve.false)
    (c.keep_windows.ensures.0 c.if-not-keep_windows.false)
