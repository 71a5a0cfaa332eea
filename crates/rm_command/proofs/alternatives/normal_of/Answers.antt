use Rattle.std.proofs.Common.{◌≡◌}
use Rattle.rm_command.proofs.AlternativesLemmas.{normal_may_come}
use Rattle.rm_command.specs.declared.filter.NoText.TheVariants.{Faulty}
use Rattle.rm_command.proofs.alternatives.normal_of.Goals as goal

pub reason_of-requires : goal.reason_of-requires
reason_of-requires c = normal_may_come c.args.bytes.now c.in-Err.error c.requires c.in-Err.ensures

pub returns-in-Err-clause-faulty : goal.returns-in-Err-clause-faulty
returns-in-Err-clause-faulty c = λ fault e.
    let same : c.reason_of.result ≡ Faulty fault = cc in
    record { error = c.in-Err.error; found = c.in-Err.ensures; named = c.reason_of.ensures fault same }
