use Rattle.soap_lex.specs.Characters.{IsName}
use Rattle.soap_document.specs.Tokens.{is_name}
use Rattle.soap_document.proofs.Names.{IsName-from, name_passes}
use Rattle.soap_document.proofs.tokens.is_name.Goals as goal
use Rattle.soap_lex.specs.Facts.{same_test}

pub returns : goal.returns
returns c =
    let bytes = c.args.bytes.now in
    same_test (IsName bytes) c.is_name.result (is_name bytes) c.is_name.ensures.0 c.is_name.ensures.1 (IsName-from
    bytes) (name_passes bytes)
