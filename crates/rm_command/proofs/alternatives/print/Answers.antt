use Rattle.rm_policy.specs.Alternatives.Texts.{normal_text}
use Rattle.rm_command.proofs.AlternativesLemmas.{begun_not}
use Rattle.rm_command.proofs.alternatives.print.Goals as goal

pub returns-in-Err-clause-ends : goal.returns-in-Err-clause-ends
returns-in-Err-clause-ends g c = begun_not (g.K.Sink.told c.args.out.now).held (normal_text c.args.found.now)
