use Rattle.soap_lex.specs.Text.{IsCdata}
use Rattle.soap_lex.specs.Tests.{is_cdata}
use Rattle.soap_lex.proofs.TestLemmas.{cdata_from}
use Rattle.soap_lex.proofs.TestLemmas.{cdata_passes}
use Rattle.soap_lex.proofs.decide.is_cdata.Goals as goal
use Rattle.soap_lex.specs.Facts.{same_test}

pub returns : goal.returns
returns c =
    let bytes = c.args.bytes.now in
    same_test (IsCdata bytes) c.is_cdata.result (is_cdata bytes) c.is_cdata.ensures.0 c.is_cdata.ensures.1
    (cdata_from bytes) (cdata_passes bytes)
