use Rattle.soap_lex.specs.Text.{IsCharData}
use Rattle.soap_lex.specs.Tests.{is_char_data}
use Rattle.soap_lex.proofs.TestLemmas.{data_from}
use Rattle.soap_lex.proofs.TestLemmas.{data_passes}
use Rattle.soap_lex.proofs.decide.is_char_data.Goals as goal
use Rattle.soap_lex.specs.Facts.{same_test}

pub returns : goal.returns
returns c =
    let bytes = c.args.bytes.now in
    same_test (IsCharData bytes) c.is_char_data.result (is_char_data bytes) c.is_char_data.ensures.0
    c.is_char_data.ensures.1 (data_from bytes) (data_passes bytes)
