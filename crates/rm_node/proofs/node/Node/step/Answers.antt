use Rattle.std.proofs.Common.{ap, ◌∙◌}
use Rattle.std.proofs.lemmas.Result.{err_from_is_err_and}
use Rattle.rm_node.specs.Ends.{error_end, reaction_end}
use Rattle.rm_node.proofs.StepLemmas.{step_fails, step_unsaid, step_well}
use Rattle.rm_node.proofs.node.Node.step.Goals as goal

pub returns-in_err-answered : goal.returns-in_err-answered
returns-in_err-answered g c =
    let p = err_from_is_err_and c.from_residual.result c.from_residual.ensures.1 in
    step_unsaid _ _ c.args.self.now _ _ c.in_err-answered.field-0.0 _ c.tables_and_end-place.ensures.runs
    c.in_err-answered.ensures.err (ap reaction_end p.1 ∙ ap error_end p.2)

pub returns-in_err-write : goal.returns-in_err-write
returns-in_err-write g c =
    let r = c.from_residual-in_err-write in
    let p = err_from_is_err_and r.result r.ensures.1 in
    let s = c.in_err-write.ensures in
    step_fails _ _ _ c.args.self.now _ _ _ _ c.in_err-write.field-0.0 _ c.tables_and_end-place.ensures.runs
    c.in_ok-answered.ensures.says s.stays s.wrote s.err (ap reaction_end p.1 ∙ ap error_end p.2)

pub returns : goal.returns
returns g c =
    let s = c.in_ok-write.ensures in
    step_well _ _ _ c.args.self.now _ _ _ _ _ c.tables_and_end-place.ensures.runs c.in_ok-answered.ensures.says s.stays
    s.wrote c.verdict.ensures
