use Rattle.std.proofs.Common.{inr}
use Rattle.rm_disk.specs.declared.journal.error.JournalError.TheVariants.{NotAJournal, Full}
use Rattle.node_store.proofs.MountLemmas.{answers_at, has_room, too_long}
use Rattle.node_store.proofs.import.open_before.Goals as goal

pub returns-in-Ok-clause-made : goal.returns-in-Ok-clause-made
returns-in-Ok-clause-made g c = let made = c.in-Ok.ensures.answers in (made.0, made.1.stands, made.2)

pub returns-in-Ok-clause-short : goal.returns-in-Ok-clause-short
returns-in-Ok-clause-short g c ok entries stands =
    let made = c.in-Ok.ensures.answers in has_room made.0 entries c.args.bytes.now made.1 stands

pub returns-in-Err-NotAJournal-clause-none : goal.returns-in-Err-NotAJournal-clause-none
returns-in-Err-NotAJournal-clause-none g c e =
    answers_at c.args.bytes.now _ _ NotAJournal c.in-Err-NotAJournal.is c.in-Err-NotAJournal.field-0-is
    c.import.ensures.answers

pub returns-in-Err-Full-clause-refusals : goal.returns-in-Err-Full-clause-refusals
returns-in-Err-Full-clause-refusals g c =
    let end = c.in-Err-Full.end in
    let needed = c.in-Err-Full.needed in
    inr (inr (inr (too_long c.args.bytes.now end needed
    (answers_at c.args.bytes.now _ _ (Full end needed) c.in-Err-Full.is c.in-Err-Full.field-0-is
    c.import.ensures.answers))))
