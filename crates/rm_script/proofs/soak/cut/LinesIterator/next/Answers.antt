use Rattle.std.proofs.Common.{sym}
use Rattle.rm_script.proofs.SoakLemmas.CutLemmas.{lines_of-cut}
use Rattle.rm_script.proofs.soak.cut.LinesIterator.next.Goals as goal

pub returns-clause-steps : goal.returns-clause-steps
returns-clause-steps c =
    rw (c.cut.ensures.before, c.cut.ensures.after) (lines_of-cut c.args.self.now.rest.now (sym c.if-is_empty.ensures))
