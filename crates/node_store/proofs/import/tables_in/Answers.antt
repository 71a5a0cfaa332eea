use Rattle.std.proofs.Common.{◌∙◌, Err, ap, sym, subst, refl}
use Rattle.std.proofs.lemmas.Result.{err_from_is_err_and}
use Rattle.rm_disk.specs.Journal.JournalState.{JournalState}
use Rattle.node_store.specs.Has.{entries_of}
use Rattle.node_store.specs.Stored.{IsServing}
use Rattle.node_store.specs.declared.error.ImportError.{ImportError}
use Rattle.node_store.specs.declared.error.MountError.{MountError}
use Rattle.node_store.proofs.MountLemmas.{ends_before}
use Rattle.node_store.proofs.ReplayLemmas.{err_is}
use Rattle.node_store.proofs.import.tables_in.Goals as goal

pub returns-in_err-journal-clause-none : goal.returns-in_err-journal-clause-none
returns-in_err-journal-clause-none c e batches node stands =
    let p = err_from_is_err_and c.from_residual.result c.from_residual.ensures.1 in
    let none = c.in_err-journal.was
    ∙ ap (λ (x : ImportError). Err x) (sym p.2 ∙ err_is p.0 _ c.from_residual.result p.1 e) in
    c.open_before.ensures.none none (entries_of batches) stands

pub returns-in_err-journal-clause-none_short : goal.returns-in_err-journal-clause-none_short
returns-in_err-journal-clause-none_short c e entries stands =
    let p = err_from_is_err_and c.from_residual.result c.from_residual.ensures.1 in
    let none = c.in_err-journal.was
    ∙ ap (λ (x : ImportError). Err x) (sym p.2 ∙ err_is p.0 _ c.from_residual.result p.1 e) in
    absurd (c.open_before.ensures.none none entries stands)

pub serve-requires-clause-up : goal.serve-requires-clause-up
serve-requires-clause-up c = ap (λ (j : JournalState). j.is_down) c.in_ok-journal.ensures.made.2

pub serve-requires-clause-short : goal.serve-requires-clause-short
serve-requires-clause-short c =
    let made = c.in_ok-journal.ensures.made in
    (ends_before c.in_ok-journal.journal made.0 made.2 (c.in_ok-journal.ensures.short refl made.0 made.1)).0

pub serve-requires-clause-placed : goal.serve-requires-clause-placed
serve-requires-clause-placed c =
    let made = c.in_ok-journal.ensures.made in
    (ends_before c.in_ok-journal.journal made.0 made.2 (c.in_ok-journal.ensures.short refl made.0 made.1)).1

pub serve-requires-clause-fits : goal.serve-requires-clause-fits
serve-requires-clause-fits c tells =
    let made = c.in_ok-journal.ensures.made in (made.0, c.in_ok-journal.ensures.fits tells made.0 made.1)

pub returns-in-Ok-clause-serves : goal.returns-in-Ok-clause-serves
returns-in-Ok-clause-serves c =
    let made = c.in_ok-journal.ensures.made in
    record {
      entries = made.0;
      stands = made.1;
      served = c.in-Ok.ensures.found refl made.0 (c.in_ok-journal.ensures.fits refl made.0 made.1);
      serving = subst (λ (j : JournalState). IsServing j c.in-Ok.tables.records) made.2 c.in-Ok.ensures.serving;
    }

pub returns-in-Err-NotAJournal-clause-none : goal.returns-in-Err-NotAJournal-clause-none
returns-in-Err-NotAJournal-clause-none c e batches node stands =
    c.serve.ensures.none refl
    (c.in-Err-NotAJournal.is ∙ ap (λ (x : MountError). Err x) c.in-Err-NotAJournal.field-0-is) (entries_of batches)
    (c.in_ok-journal.ensures.fits refl (entries_of batches) stands) batches node refl

pub returns-in-Err-NotAJournal-clause-none_short : goal.returns-in-Err-NotAJournal-clause-none_short
returns-in-Err-NotAJournal-clause-none_short c e entries stands = c.in_ok-journal.ensures.short refl entries stands
