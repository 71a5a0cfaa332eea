use Rattle.soap_document.specs.Profile.View.{element_view}
use Rattle.record_batch.proofs.PartLaws.{tree-again, no-tree, long-tree, cut-tree}
use Rattle.record_batch.proofs.readers.read_tree.Goals as goal

pub returns-in-Ok : goal.returns-in-Ok
returns-in-Ok c =
    tree-again c.document_is_read.ensures c.args.bytes.now (element_view c.in-Ok.tree) c.in-Ok.ensures.fits.0
    c.in-Ok.ensures.ok

pub returns-in-Err-TooLong : goal.returns-in-Err-TooLong
returns-in-Err-TooLong c =
    let is = rw c.in-Err-TooLong.field-0-is at c.in-Err-TooLong.is in
    let long = (c.read_element.ensures.too_long c.in-Err-TooLong.field-0-0).0 is in
    long-tree c.document_is_read.ensures c.args.bytes.now long.0

pub returns-in-Err-NotUtf8 : goal.returns-in-Err-NotUtf8
returns-in-Err-NotUtf8 c =
    let is = rw c.in-Err-NotUtf8.field-0-is at c.in-Err-NotUtf8.is in
    let cut = (c.read_element.ensures.not_utf8 c.in-Err-NotUtf8.field-0-0).0 is in
    cut-tree c.document_is_read.ensures c.document_is_utf8.ensures c.args.bytes.now c.in-Err-NotUtf8.field-0-0 cut.1
    cut.2

pub returns-in-Err-NotProfile : goal.returns-in-Err-NotProfile
returns-in-Err-NotProfile c =
    let is = rw c.in-Err-NotProfile.field-0-is at c.in-Err-NotProfile.is in
    no-tree c.document_is_read.ensures c.args.bytes.now (c.read_element.ensures.not_profile is).2
