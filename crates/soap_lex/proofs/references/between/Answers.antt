use Rattle.std.proofs.Common.{◌++◌, None, Some}
use Rattle.std.proofs.lemmas.Bool.Decides.{Decides-eqb}
use Rattle.std.proofs.lemmas.Slice.Eq.{strip_prefix_is, strip_suffix_is}
use Rattle.soap_lex.proofs.AnswerLemmas.{between_found, between_none}
use Rattle.soap_lex.proofs.references.between.Goals as goal

pub returns-in_default-clause-none : goal.returns-in_default-clause-none
returns-in_default-clause-none c = λ inner there.
    strip_prefix_is Decides-eqb c.args.bytes.now c.args.before.now None c.in_default.ensures.cases
    (inner ++ c.args.after.now) there

pub returns-clause-found : goal.returns-clause-found
returns-clause-found c =
    let front = strip_prefix_is Decides-eqb c.args.bytes.now c.args.before.now
    (Some c.in-Some.rest) c.in-Some.ensures.cases in
    let back = strip_suffix_is Decides-eqb c.in-Some.rest.now c.args.after.now c.strip_suffix.result
    c.strip_suffix.ensures.cases in
    between_found c.args.bytes.now c.args.before.now c.in-Some.rest.now c.args.after.now c.strip_suffix.result front
    back

pub returns-clause-none : goal.returns-clause-none
returns-clause-none c =
    let front = strip_prefix_is Decides-eqb c.args.bytes.now c.args.before.now
    (Some c.in-Some.rest) c.in-Some.ensures.cases in
    let back = strip_suffix_is Decides-eqb c.in-Some.rest.now c.args.after.now c.strip_suffix.result
    c.strip_suffix.ensures.cases in
    between_none c.args.bytes.now c.args.before.now c.in-Some.rest.now c.args.after.now c.strip_suffix.result front back
