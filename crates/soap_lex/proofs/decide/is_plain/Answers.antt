use Rattle.soap_lex.specs.Value.{IsPlainValue}
use Rattle.soap_lex.specs.Tests.{is_plain}
use Rattle.soap_lex.proofs.TestLemmas.{plain_from}
use Rattle.soap_lex.proofs.TestLemmas.{plain_passes}
use Rattle.soap_lex.proofs.decide.is_plain.Goals as goal
use Rattle.soap_lex.specs.Facts.{same_test}

pub returns : goal.returns
returns c =
    let bytes = c.args.bytes.now in
    let quote = c.args.quote in
    same_test (IsPlainValue quote bytes) c.is_plain_value.result (is_plain quote bytes) c.is_plain_value.ensures.0
    c.is_plain_value.ensures.1 (plain_from quote bytes) (plain_passes quote bytes)
