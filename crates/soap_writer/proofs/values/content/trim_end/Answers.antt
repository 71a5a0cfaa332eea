use Rattle.std.proofs.Common.{◌≡◌, ◌∙◌, sym, arith}
use Rattle.soap_writer.specs.Values.TrimLaws.{end_goes_on, end_done, end_empty}
use Rattle.soap_writer.proofs.values.content.trim_end.Goals.{then-loop-end-test+else-is_space, else-loop-end-test}
use Rattle.soap_writer.proofs.values.content.trim_end.Goals as goal

pub loop-end-preserved : goal.loop-end-preserved
loop-end-preserved c = record {
  within = omega (arith, c.loop-end.invariant.within);
  same = end_goes_on c.args.bytes.now c.loop-end.end c.loop-end-test.true c.loop-end.invariant.within
      (sym c.is_space.ensures ∙ c.if-is_space.true)
      ∙ c.loop-end.invariant.same;
}

pub returns : goal.returns
returns c = elim c.loop-end-test.branch [
  | then-loop-end-test+else-is_space w ↦ end_done c.args.bytes.now c.loop-end.end w.loop-end-test.true
      c.loop-end.invariant.within
      (sym w.is_space.ensures ∙ w.if-is_space.false) ∙ c.loop-end.invariant.same
  | else-loop-end-test w ↦ end_empty c.args.bytes.now c.loop-end.end (omega (arith, w.loop-end-test.false))
      ∙ c.loop-end.invariant.same
]
