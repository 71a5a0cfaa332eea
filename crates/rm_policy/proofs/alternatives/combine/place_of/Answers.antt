use Rattle.std.proofs.Common.{get_or}
use Rattle.rm_policy.proofs.AlternativesLemmas.OrderLemmas.{term_cmp_total, term_cmp_exact}
use Rattle.rm_policy.proofs.AlternativesLemmas.RisingLemmas.{missing-at}
use Rattle.rm_policy.proofs.alternatives.combine.place_of.Goals as goal

pub returns-in-Ok-clause-found : goal.returns-in-Ok-clause-found
returns-in-Ok-clause-found c = λ d.
    term_cmp_exact (get_or c.args.terms.now c.in-Ok.place d) c.args.term.now (c.in-Ok.ensures.found d)

pub returns-in-Err-clause-none : goal.returns-in-Err-clause-none
returns-in-Err-clause-none c = λ _.
    (missing-at term_cmp_total term_cmp_exact c.args.terms.now c.args.term.now c.in-Err.field-0 c.in-Err.ensures.within
    c.in-Err.ensures.found c.requires).1
