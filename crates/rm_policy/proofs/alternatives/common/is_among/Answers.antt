use Rattle.std.proofs.Common.{sym}
use Rattle.rm_policy.proofs.AlternativesLemmas.LawLemmas.{list_cmp_total, list_cmp_exact}
use Rattle.rm_policy.proofs.AlternativesLemmas.RisingLemmas.{missing-at, present-at}
use Rattle.rm_policy.proofs.alternatives.common.is_among.Goals as goal

pub returns-in-Ok : goal.returns-in-Ok
returns-in-Ok c = λ _. sym (present-at list_cmp_total list_cmp_exact c.args.others.now c.args.terms.now c.in-Ok.field-0
    c.in-Ok.ensures.within c.in-Ok.ensures.found)

pub returns-in-Err : goal.returns-in-Err
returns-in-Err c = λ up.
    sym (missing-at list_cmp_total list_cmp_exact c.args.others.now c.args.terms.now c.in-Err.field-0
    c.in-Err.ensures.within c.in-Err.ensures.found up).1
