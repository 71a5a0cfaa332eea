use Rattle.soap_lex.specs.Facts.{same_test}
use Rattle.soap_lex.specs.Text.{IsComment}
use Rattle.soap_lex.specs.Tests.{is_comment}
use Rattle.soap_document.proofs.tokens.is_comment.Goals as goal

pub returns : goal.returns
returns c =
    let bytes = c.args.bytes.now in
    let (from, passes) = c.comment_is_tested.ensures.test bytes in
    same_test (IsComment bytes) c.is_comment.result (is_comment bytes) c.is_comment.ensures.0 c.is_comment.ensures.1
    from
    passes
