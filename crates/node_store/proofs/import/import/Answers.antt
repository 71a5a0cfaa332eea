use Rattle.std.proofs.Common.{◌∙◌, Err, ap, sym}
use Rattle.std.proofs.lemmas.Result.{err_from_is_err_and}
use Rattle.node_store.specs.Has.{entries_of}
use Rattle.node_store.specs.declared.error.ImportError.{ImportError}
use Rattle.node_store.proofs.MountLemmas.{imported, serves_on}
use Rattle.node_store.proofs.ReplayLemmas.{err_is}
use Rattle.node_store.proofs.import.import.Goals as goal

pub returns-in_err-journal-clause-none : goal.returns-in_err-journal-clause-none
returns-in_err-journal-clause-none g c e batches node stands =
    let r = c.from_residual-in_err-journal in
    let p = err_from_is_err_and r.result r.ensures.1 in
    let none = c.in_err-journal.was
    ∙ ap (λ (x : ImportError). Err x) (sym p.2 ∙ err_is p.0 _ r.result p.1 e) in
    c.open_before.ensures.none none (entries_of batches) stands

pub returns-in_err-journal-clause-none_short : goal.returns-in_err-journal-clause-none_short
returns-in_err-journal-clause-none_short g c e entries stands =
    let r = c.from_residual-in_err-journal in
    let p = err_from_is_err_and r.result r.ensures.1 in
    let none = c.in_err-journal.was
    ∙ ap (λ (x : ImportError). Err x) (sym p.2 ∙ err_is p.0 _ r.result p.1 e) in
    absurd (c.open_before.ensures.none none entries stands)

pub returns-clause-imported : goal.returns-clause-imported
returns-clause-imported g c =
    let made = c.in_ok-journal.ensures.made in
    imported g.D.Disk.tells c.args.bytes.now (g.D.Disk.told c.open_before.new.disk).past made.0 c.in_ok-journal.journal
    c.in_ok-tables.tables.records c.in_ok-tables.ensures.serves made.1 made.2
    (λ tells. c.in_ok-journal.ensures.fits tells made.0 made.1)

pub returns-clause-serving : goal.returns-clause-serving
returns-clause-serving g c =
    let made = c.in_ok-journal.ensures.made in
    serves_on c.args.bytes.now made.0 c.in_ok-journal.journal c.in_ok-tables.tables.records
    c.in_ok-tables.ensures.serves made.1 made.2
