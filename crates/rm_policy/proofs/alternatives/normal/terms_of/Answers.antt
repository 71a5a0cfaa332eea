use Rattle.std.proofs.Common.{◌<◌, ◌≤◌, length, subst, sym, arith}
use Rattle.rm_policy.proofs.AlternativesLemmas.ListLemmas.{gathered_terms}
use Rattle.rm_policy.specs.Alternatives.Limits.{HasTerms}
use Rattle.rm_policy.specs.Alternatives.Tree.{policy_view}
use Rattle.rm_policy.proofs.alternatives.normal.terms_of.Goals as goal

pub returns-then-listed-gt-TERMS-clause-err : goal.returns-then-listed-gt-TERMS-clause-err
returns-then-listed-gt-TERMS-clause-err c =
    let all = gathered_terms (policy_view c.args.policy.now) c.new-terms.result.items c.gather.new.terms.items
    c.new-terms.ensures.items c.in_ok-gather.ensures in
    let more : 64 < length c.as_slice-listed.result.now = omega (arith, c.if-listed-gt-TERMS.true) in
    (subst (λ l. HasTerms (policy_view c.args.policy.now) (length l)) (sym c.as_slice-listed.ensures.value) all.1, more)

pub returns-clause-ok : goal.returns-clause-ok
returns-clause-ok c =
    let all = gathered_terms (policy_view c.args.policy.now) c.new-terms.result.items c.gather.new.terms.items
    c.new-terms.ensures.items c.in_ok-gather.ensures in
    let few : length c.as_slice-listed.result.now ≤ 64 = omega (arith, c.if-listed-gt-TERMS.false) in
    record {
      rises = all.0;
      few = subst (λ l. length l ≤ 64) c.as_slice-listed.ensures.value few;
      terms = all.1;
      listed = all.2;
    }
