use Rattle.std.proofs.Common.{ap, ◌∙◌, [], arith}
use Rattle.soap_lex.specs.Readers.{value_state}
use Rattle.soap_document.specs.Machine.{nothing_open}
use Rattle.soap_document.specs.Seen.{seen}
use Rattle.soap_document.proofs.Places.{after_value-at}
use Rattle.soap_document.proofs.Fed.{taken_none, taken_value}
use Rattle.soap_document.proofs.scan.Scan.take_value.Goals as goal

pub overflow_add-self : goal.overflow_add-self
overflow_add-self c = omega (arith, ap (λ s. s.at) (c.refuse.ensures nothing_open []))

pub returns-then-taken-eq0-clause-taken : goal.returns-then-taken-eq0-clause-taken
returns-then-taken-eq0-clause-taken c = λ top below.
    taken_none (seen c.args.self.now top below) (seen c.refuse.new.self top below)
    (value_state c.feed.new.self c.feed.new.out.items) c.args.bytes.now c.requires.inside c.requires.some
    (rw c.if-taken-eq0.true at c.in-Ok.ensures.ok.1) (c.refuse.ensures top below)

pub returns-clause-taken : goal.returns-clause-taken
returns-clause-taken c = λ top below.
    taken_value (seen c.args.self.now top below) (seen c.at_value.new.self top below)
    (value_state c.feed.new.self c.feed.new.out.items) c.args.bytes.now c.in-Ok.taken c.requires.inside
    c.in-Ok.ensures.ok.0 c.if-taken-eq0.false c.in-Ok.ensures.ok.1 (c.in_ok-at_value.ensures top below)

pub returns-then-taken-eq0-clause-place : goal.returns-then-taken-eq0-clause-place
returns-then-taken-eq0-clause-place c =
    let place = ap (λ s. s.at) (c.refuse.ensures nothing_open []) in
    (omega arith, omega (arith, c.requires.some), omega (arith, place))

pub returns-clause-place : goal.returns-clause-place
returns-clause-place c = (
  omega (arith, c.if-taken-eq0.false),
  c.in-Ok.ensures.ok.0,
  ap (λ s. s.at) (c.in_ok-at_value.ensures nothing_open []) ∙ after_value-at _,
)
