use Rattle.soap_lex.specs.References.{IsReference}
use Rattle.soap_lex.specs.Tests.{reference}
use Rattle.soap_lex.proofs.AnswerLemmas.{same_search}
use Rattle.soap_lex.proofs.ReferenceTests.{reference_from}
use Rattle.soap_lex.proofs.ReferenceTests.{reference_passes}
use Rattle.soap_lex.proofs.decide.reference.Goals as goal

pub returns : goal.returns
returns c =
    let bytes = c.args.bytes.now in
    same_search (IsReference bytes) c.reference.result (reference bytes) c.reference.ensures.found
    c.reference.ensures.none
    (λ k h. (reference_passes bytes k h).passes) (reference_from bytes)
