use Rattle.std.proofs.Common.{◌≡◌, None, Some, sym, ◌∙◌}
use Rattle.soap_document.specs.declared.profile.error.EnvelopeError.TheVariants as Error
use Rattle.soap_pieces.proofs.Ends.{answer_whole, no_tree}
use Rattle.soap_pieces.proofs.ended.Ended.finish.Goals as goal

pub returns-in-Some-clause-reads : goal.returns-in-Some-clause-reads
returns-in-Some-clause-reads c = λ bytes h size.
    let found = c.in-Some.ensures h.tail h.sees in
    answer_whole c.pieces_are_joined.ensures c.document_is_read.ensures c.content_stands_between.ensures
    c.document_is_utf8.ensures c.args.self bytes h
    (λ missing. let wrong : None ≡ Some h.alike.root = sym missing ∙ found.0 ∙ h.alike.behind.ended in cc)

pub returns-in-Some-clause-known : goal.returns-in-Some-clause-known
returns-in-Some-clause-known c = λ bytes h. h.known

pub returns-in-None-clause-reads : goal.returns-in-None-clause-reads
returns-in-None-clause-reads c = λ bytes h size.
    c.why_none.ensures.reads bytes h.utf8 size h.fits (no_tree c.document_is_read.ensures c.args.self bytes h
    (c.in-None.ensures h.tail h.sees))

pub returns-in-None-clause-known : goal.returns-in-None-clause-known
returns-in-None-clause-known c = λ bytes h e.
    let same : c.why_none.result ≡ Error.Memory = cc in
    c.why_none.ensures.known same
