use Rattle.std.proofs.Common.{◌∙◌, length, arith}
use Rattle.rm_disk.proofs.JournalLemmas.Walk.{entry_needed, length_read, has_block}
use Rattle.rm_disk.proofs.journal.scan.look.Goals as goal

pub returns-then-len-gt-ENTRY_BYTES : goal.returns-then-len-gt-ENTRY_BYTES
returns-then-len-gt-ENTRY_BYTES c entries ends =
    let needed = entry_needed entries c.args.rest.now (c.is_open.ensures.0 c.if-not-is_open.false) ends in
    let same = length_read c.number-len.result (length needed.0) c.number-len.type_inv needed.1 (c.number-len.ensures
    ∙ needed.3) in
    omega (arith, needed.1, same)

pub returns-then-len-rest : goal.returns-then-len-rest
returns-then-len-rest c entries ends =
    let needed = entry_needed entries c.args.rest.now (c.is_open.ensures.0 c.if-not-is_open.false) ends in
    let same = length_read c.number-len.result (length needed.0) c.number-len.type_inv needed.1 (c.number-len.ensures
    ∙ needed.3) in
    omega (arith, needed.2, same)

pub returns : goal.returns
returns c =
    has_block c.number-len.result c.args.rest.now (c.is_open.ensures.0 c.if-not-is_open.false) (omega arith)
    (omega arith) c.number-len.ensures
