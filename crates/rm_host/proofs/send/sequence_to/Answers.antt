use Rattle.std.proofs.Common.{◌∙◌, arith, sym}
use Rattle.rm_host.specs.Sequences.{may_carry}
use Rattle.rm_host.proofs.SequenceLemmas.{none-yet}
use Rattle.rm_host.proofs.send.sequence_to.Goals as goal

pub loop-before-init : goal.loop-before-init
loop-before-init c = λ seq above least. absurd (omega (arith, above, least))

pub loop-before-preserved : goal.loop-before-preserved
loop-before-preserved c =
    none-yet (may_carry c.args.tables.now.records c.args.to.now) c.loop-before.before c.loop-before.invariant
    (sym c.may_carry.ensures ∙ c.if-may_carry.false)

pub returns-then-may_carry : goal.returns-then-may_carry
returns-then-may_carry c = (
  sym c.may_carry.ensures ∙ c.if-may_carry.true,
  λ seq above less. c.loop-before.invariant seq above (omega (arith, less)),
)

pub returns : goal.returns
returns c = λ seq above least.
    c.loop-before.invariant seq above
    (omega (arith, least, c.len-before-end.ensures.count, c.loop-before-test.false))
