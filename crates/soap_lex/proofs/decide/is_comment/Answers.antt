use Rattle.soap_lex.specs.Text.{IsComment}
use Rattle.soap_lex.specs.Tests.{is_comment}
use Rattle.soap_lex.proofs.TestLemmas.{comment_from}
use Rattle.soap_lex.proofs.TestLemmas.{comment_passes}
use Rattle.soap_lex.proofs.decide.is_comment.Goals as goal
use Rattle.soap_lex.specs.Facts.{same_test}

pub returns : goal.returns
returns c =
    let bytes = c.args.bytes.now in
    same_test (IsComment bytes) c.is_comment.result (is_comment bytes) c.is_comment.ensures.0 c.is_comment.ensures.1
    (comment_from bytes) (comment_passes bytes)
