use Rattle.std.proofs.Common.{◌∙◌, Err, ap, sym, subst}
use Rattle.std.proofs.lemmas.Result.{err_from_is_err_and}
use Rattle.rm_disk.specs.Call.{seen_of}
use Rattle.rm_disk.specs.Journal.Entries.{StandsAt}
use Rattle.rm_disk.specs.Journal.EntryLemmas.{stands_for_one}
use Rattle.rm_disk.specs.Journal.Journal.{Fits}
use Rattle.rm_disk.specs.Journal.JournalState.{JournalState}
use Rattle.node_store.specs.Has.{entries_of}
use Rattle.node_store.specs.Stored.{IsServing}
use Rattle.node_store.specs.declared.error.MountError.{MountError}
use Rattle.node_store.proofs.MountLemmas.{found}
use Rattle.node_store.proofs.ReplayLemmas.{err_is}
use Rattle.node_store.proofs.mount.find.Goals as goal

pub returns-in_err-journal-clause-none : goal.returns-in_err-journal-clause-none
returns-in_err-journal-clause-none g c tells e batches node stands =
    let p = err_from_is_err_and c.from_residual.result c.from_residual.ensures.1 in
    let none = c.in_err-journal.was
    ∙ ap (λ (x : MountError). Err x) (sym p.2 ∙ err_is p.0 _ c.from_residual.result p.1 e) in
    c.open.ensures.none tells none (entries_of batches) stands

pub returns-in_err-tables-clause-none : goal.returns-in_err-tables-clause-none
returns-in_err-tables-clause-none g c tells e batches node stands =
    let on = c.in_ok-journal.ensures.fits tells in
    let are = (stands_for_one c.in_ok-journal.journal.bank stands.bank on.0 (entries_of batches)
    (seen_of (g.D.Disk.told c.args.disk.now).past) on.1 stands.stands).1 in
    let p = err_from_is_err_and c.from_residual-in_err-tables.result c.from_residual-in_err-tables.ensures.1 in
    let none = c.in_err-tables.was
    ∙ ap (λ (x : MountError). Err x) (sym p.2 ∙ err_is p.0 _ c.from_residual-in_err-tables.result p.1 e) in
    c.serve.ensures.none tells none on.0 on.2 batches node are

pub returns-clause-found : goal.returns-clause-found
returns-clause-found g c tells =
    let on = c.in_ok-journal.ensures.fits tells in
    let are = c.in_ok-tables.ensures.found tells on.0 on.2 in
    let fits : Fits on.0 (g.D.Disk.told c.serve.new.disk).past c.serve.new.journal =
    rw (c.in_ok-tables.ensures.past tells, c.in_ok-tables.ensures.journal) on.2 in
    let stands : StandsAt c.serve.new.journal.bank on.0 (seen_of (g.D.Disk.told c.args.disk.now).past) =
    subst (λ (j : JournalState). StandsAt j.bank on.0 (seen_of (g.D.Disk.told c.args.disk.now).past))
    (sym c.in_ok-tables.ensures.journal) on.1 in
    found (g.D.Disk.told c.args.disk.now).past (g.D.Disk.told c.serve.new.disk).past on.0 c.serve.new.journal
    c.in_ok-tables.tables.records stands fits are

pub returns-clause-serving : goal.returns-clause-serving
returns-clause-serving g c =
    subst (λ (j : JournalState). IsServing j c.in_ok-tables.tables.records) (sym c.in_ok-tables.ensures.journal)
    c.in_ok-tables.ensures.serving
