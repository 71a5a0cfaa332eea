use Rattle.std.proofs.Common.{Err, ap, ◌∙◌}
use Rattle.rm_disk.specs.declared.journal.error.JournalError.{JournalError}
use Rattle.node_store.proofs.mount.open.Goals as goal

pub returns-in-Err-NotAJournal-clause-none : goal.returns-in-Err-NotAJournal-clause-none
returns-in-Err-NotAJournal-clause-none g c tells e =
    c.mount.ensures.none tells
    (c.in-Err-NotAJournal.is ∙ ap (λ (x : JournalError). Err x) c.in-Err-NotAJournal.field-0-is)
