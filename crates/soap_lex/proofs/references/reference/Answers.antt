use Rattle.soap_lex.proofs.ReferenceLemmas.{hex_found, hex_none, decimal_found, decimal_none}
use Rattle.soap_lex.proofs.references.reference.Goals as goal

pub returns-in-Some-clause-found : goal.returns-in-Some-clause-found
returns-in-Some-clause-found c =
    hex_found c.args.bytes.now c.in-Some.digits.now c.character.result c.in-Some.ensures.found c.character.ensures.found

pub returns-in-Some-clause-none : goal.returns-in-Some-clause-none
returns-in-Some-clause-none c =
    hex_none c.args.bytes.now c.in-Some.digits.now c.character.result c.in-Some.ensures.found c.character.ensures.none

pub returns-in-Some-between-clause-found : goal.returns-in-Some-between-clause-found
returns-in-Some-between-clause-found c =
    decimal_found c.args.bytes.now c.in-Some-between.digits.now c.character-in-Some-between.result
    c.in-Some-between.ensures.found c.character-in-Some-between.ensures.found

pub returns-in-Some-between-clause-none : goal.returns-in-Some-between-clause-none
returns-in-Some-between-clause-none c =
    decimal_none c.args.bytes.now c.in-Some-between.digits.now c.character-in-Some-between.result
    c.in-Some-between.ensures.found c.in_default.ensures.none c.character-in-Some-between.ensures.none
