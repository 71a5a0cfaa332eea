use Rattle.std.proofs.Common.{arith}
use Rattle.node_tables.proofs.ShorterLemmas.{held_at}
use Rattle.node_tables.proofs.copies.copies_of.Goals as goal

pub copy_at-requires-clause-held : goal.copy_at-requires-clause-held
copy_at-requires-clause-held c =
    held_at _ _ c.args.notes.now c.loop-note.note-index c.note-item.result (omega (arith, c.loop-note-test.true))
    c.note-item.is c.requires.held
