use Rattle.rm_policy.proofs.AlternativesLemmas.OrderLemmas.{term_cmp_total, term_cmp_exact}
use Rattle.rm_policy.proofs.AlternativesLemmas.RisingLemmas.{put_more, put_none}
use Rattle.rm_policy.proofs.alternatives.order.insert.Goals as goal

pub returns : goal.returns
returns c =
    put_more term_cmp_total term_cmp_exact c.args.terms.now.items c.as_slice.result.now c.insert.new.self.items
    c.args.term.now c.in_ok-term.term c.in-Err.place c.as_slice.ensures.value c.in-Err.ensures.within
    c.in-Err.ensures.found c.in_ok-term.ensures c.in_ok-insert.ensures.items

pub returns-in_default : goal.returns-in_default
returns-in_default c =
    put_none term_cmp_total term_cmp_exact c.args.terms.now.items c.as_slice.result.now c.args.term.now
    c.in_default.field-0 c.as_slice.ensures.value c.in_default.ensures.within c.in_default.ensures.found
