use Rattle.std.proofs.Common.{◌≡◌, sym, subst, map, take}
use Rattle.std.proofs.lemmas.Result.{on_ok_weaker}
use Rattle.rm_policy.proofs.AlternativesLemmas.GatherLemmas.{gathered-insert, gathered-none, gathered-more}
use Rattle.rm_policy.proofs.AlternativesLemmas.GatherLemmas.{view-Assert, view-ExactlyOne, view-All}
use Rattle.rm_policy.proofs.AlternativesLemmas.StepLemmas.{take_more_map}
use Rattle.rm_policy.specs.Alternatives.Limits.{OneMentions}
use Rattle.rm_policy.specs.Alternatives.Masks.{Gathered}
use Rattle.rm_policy.specs.Alternatives.Tree.{policy_view, policies_of}
use Rattle.rm_policy.proofs.alternatives.gather.+gathering.Goals as goal

pub gather-returns-in-Assert : goal.gather-returns-in-Assert
gather-returns-in-Assert t c =
    rw (c.in-Assert.is, view-Assert) (on_ok_weaker c.insert.result (λ e up.
    subst (Gathered (λ u. u ≡ c.in-Assert.term) c.args.terms.now.items) (sym (e up))
    (gathered-insert c.args.terms.now.items c.in-Assert.term up)) c.insert.ensures)

pub gather_each-loop-policy-init : goal.gather_each-loop-policy-init
gather_each-loop-policy-init t c = λ up. gathered-none c.args.terms.now.items up

pub gather_each-loop-policy-preserved : goal.gather_each-loop-policy-preserved
gather_each-loop-policy-preserved t c = λ up.
    let next = take_more_map policy_view c.args.policies.now c.loop-policy.policy-index c.policy-item.result
    c.loop-policy-test.true c.policy-item.is in
    let so_far = c.loop-policy.invariant up in
    subst (λ ps. Gathered (OneMentions (policies_of ps)) c.args.terms.now.items c.gather.new.terms.items) (sym next)
    (gathered-more (take c.loop-policy.policy-index (map policy_view c.args.policies.now))
    (policy_view c.policy-item.result) c.args.terms.now.items c.loop-policy.terms.items c.gather.new.terms.items so_far
    (c.in_ok-gather.ensures so_far.rises))

pub gather-returns-in_ok-gather_each-in-ExactlyOne : goal.gather-returns-in_ok-gather_each-in-ExactlyOne
gather-returns-in_ok-gather_each-in-ExactlyOne t c =
    rw (c.in-ExactlyOne.is, view-ExactlyOne) (λ up.
    subst (λ ps. Gathered (OneMentions (policies_of (map policy_view ps))) c.args.terms.now.items
    c.gather_each.new.terms.items) c.as_slice.ensures.value (c.in_ok-gather_each-in-ExactlyOne.ensures up))

pub gather-returns-in_ok-gather_each-in-All : goal.gather-returns-in_ok-gather_each-in-All
gather-returns-in_ok-gather_each-in-All t c =
    rw (c.in-All.is, view-All) (λ up.
    subst (λ ps. Gathered (OneMentions (policies_of (map policy_view ps))) c.args.terms.now.items
    c.gather_each-in-All.new.terms.items) c.as_slice-in-All.ensures.value (c.in_ok-gather_each-in-All.ensures up))
