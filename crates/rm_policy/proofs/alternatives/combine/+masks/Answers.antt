use Rattle.std.proofs.Common.{inl, inr, sym, subst, map, take, ◌++◌, ◌∷◌, []}
use Rattle.std.proofs.lemmas.Result.{err_from_is_err_and}
use Rattle.rm_policy.specs.Alternatives.Masks.{OfEither, OfBoth, SoFar, MasksOf}
use Rattle.rm_policy.specs.Alternatives.Tree.{policy_view, all, exactly_one, policies_of}
use Rattle.rm_policy.proofs.AlternativesLemmas.ListLemmas.{apart_terms}
use Rattle.rm_policy.proofs.AlternativesLemmas.StepLemmas.{one_listed, each_listed, one_start, each_start, one_whole}
use Rattle.rm_policy.proofs.AlternativesLemmas.StepLemmas.{each_whole}
use Rattle.rm_policy.proofs.AlternativesLemmas.StepLemmas.{handed, gathered, gathered_in, prefix_has_more, at_too_many}
use Rattle.rm_policy.proofs.AlternativesLemmas.StepLemmas.{so_far-more, one_more, each_more, more_from, one_below}
use Rattle.rm_policy.proofs.AlternativesLemmas.StepLemmas.{one_sound}
use Rattle.rm_policy.proofs.AlternativesLemmas.StepLemmas.{each_below, each_sound, take_more_map}
use Rattle.rm_policy.proofs.alternatives.combine.+masks.Goals as goal

pub masks_of_all-loop-policy-init : goal.masks_of_all-loop-policy-init
masks_of_all-loop-policy-init t c = λ l. rw (c.in_ok-none.ensures) (each_start c.args.terms.now (apart_terms
    c.args.terms.now c.requires.rises))

pub masks_of_all-returns-in_err-more : goal.masks_of_all-returns-in_err-more
masks_of_all-returns-in_err-more t c = λ l.
    let p = err_from_is_err_and c.from_residual-in_err-more.result c.from_residual-in_err-more.ensures.1 in
    rw (p.1, p.2)
    (handed c.args.terms.now (policy_view c.policy-item.result)
    (all (policies_of (map policy_view c.args.policies.now)))
    (λ m. inl (at_too_many policy_view 256 c.args.policies.now c.loop-policy.policy-index c.policy-item.result
    c.loop-policy-test.true c.policy-item.is m)) _ (c.in_err-more.ensures (each_listed c.args.terms.now
    c.args.policies.now c.loop-policy.policy-index c.policy-item.result l c.loop-policy-test.true c.policy-item.is)))

pub masks_of_all-returns-in_err-masks : goal.masks_of_all-returns-in_err-masks
masks_of_all-returns-in_err-masks t c = λ l.
    let p = err_from_is_err_and c.from_residual-in_err-masks.result c.from_residual-in_err-masks.ensures.1 in
    let so_far = subst (λ ms. MasksOf c.args.terms.now (all (policies_of (take c.loop-policy.policy-index
    (map policy_view c.args.policies.now)))) ms) (sym c.as_slice.ensures) (c.loop-policy.invariant l).masks in
    let child = subst (λ ms. MasksOf c.args.terms.now (policy_view c.policy-item.result) ms)
    (sym c.as_slice-in-loop-policy.ensures) (c.in_ok-more.ensures (each_listed c.args.terms.now c.args.policies.now
    c.loop-policy.policy-index c.policy-item.result l c.loop-policy-test.true c.policy-item.is)).0 in
    rw (p.1, p.2)
    (gathered c.args.terms.now (all (policies_of (map policy_view c.args.policies.now))) (OfBoth c.as_slice.result.now
    c.as_slice-in-loop-policy.result.now)
    (λ many. inr (prefix_has_more all policy_view c.args.policies.now c.loop-policy.policy-index c.policy-item.result
    c.loop-policy-test.true c.policy-item.is
    (more_from c.args.terms.now (all (policies_of (take c.loop-policy.policy-index (map policy_view c.args.policies.now)
    ++ policy_view c.policy-item.result ∷ []))) _ (apart_terms c.args.terms.now c.requires.rises) many
    (each_below c.args.terms.now (take c.loop-policy.policy-index (map policy_view c.args.policies.now)) (policy_view
    c.policy-item.result) c.as_slice.result.now c.as_slice-in-loop-policy.result.now so_far child)
    (each_sound c.args.terms.now (take c.loop-policy.policy-index (map policy_view c.args.policies.now)) (policy_view
    c.policy-item.result) c.as_slice.result.now c.as_slice-in-loop-policy.result.now so_far child)))) _
    c.in_err-masks.ensures)

pub masks_of_all-loop-policy-preserved : goal.masks_of_all-loop-policy-preserved
masks_of_all-loop-policy-preserved t c = λ l.
    let was = subst (λ ms. SoFar all c.args.terms.now (take c.loop-policy.policy-index (map policy_view
    c.args.policies.now)) ms) (sym c.as_slice.ensures) (c.loop-policy.invariant l) in
    let child = subst (λ ms. MasksOf c.args.terms.now (policy_view c.policy-item.result) ms)
    (sym c.as_slice-in-loop-policy.ensures) (c.in_ok-more.ensures (each_listed c.args.terms.now c.args.policies.now
    c.loop-policy.policy-index c.policy-item.result l c.loop-policy-test.true c.policy-item.is)).0 in
    subst (λ ps. SoFar all c.args.terms.now ps c.in_ok-masks.masks) (sym (take_more_map policy_view c.args.policies.now
    c.loop-policy.policy-index c.policy-item.result c.loop-policy-test.true c.policy-item.is))
    (so_far-more all c.args.terms.now (take c.loop-policy.policy-index (map policy_view c.args.policies.now))
    (policy_view c.policy-item.result) c.as_slice.result.now c.in_ok-masks.masks (apart_terms c.args.terms.now
    c.requires.rises) was (c.in_ok-more.ensures (each_listed c.args.terms.now c.args.policies.now
    c.loop-policy.policy-index c.policy-item.result l c.loop-policy-test.true c.policy-item.is)).1
    (each_more c.args.terms.now (take c.loop-policy.policy-index (map policy_view c.args.policies.now)) (policy_view
    c.policy-item.result) c.as_slice.result.now c.as_slice-in-loop-policy.result.now c.in_ok-masks.masks was.masks child
    c.in_ok-masks.ensures))

pub masks_of_all-returns : goal.masks_of_all-returns
masks_of_all-returns t c = λ l. each_whole policy_view c.args.terms.now c.args.policies.now c.loop-policy.policy-index
    c.loop-policy.masks c.loop-policy-test.false (c.loop-policy.invariant l)

pub masks_of_one-loop-policy-init : goal.masks_of_one-loop-policy-init
masks_of_one-loop-policy-init t c = λ l. rw c.new-masks.ensures (one_start c.args.terms.now (apart_terms
    c.args.terms.now c.requires.rises))

pub masks_of_one-returns-in_err-more : goal.masks_of_one-returns-in_err-more
masks_of_one-returns-in_err-more t c = λ l.
    let p = err_from_is_err_and c.from_residual.result c.from_residual.ensures.1 in
    rw (p.1, p.2)
    (handed c.args.terms.now (policy_view c.policy-item.result) (exactly_one (policies_of (map policy_view
    c.args.policies.now)))
    (λ m. inl (at_too_many policy_view 256 c.args.policies.now c.loop-policy.policy-index c.policy-item.result
    c.loop-policy-test.true c.policy-item.is m)) _ (c.in_err-more.ensures (one_listed c.args.terms.now
    c.args.policies.now c.loop-policy.policy-index c.policy-item.result l c.loop-policy-test.true c.policy-item.is)))

pub masks_of_one-returns-in_err-either : goal.masks_of_one-returns-in_err-either
masks_of_one-returns-in_err-either t c = λ l.
    let p = err_from_is_err_and c.from_residual-in_err-either.result c.from_residual-in_err-either.ensures.1 in
    let so_far = (c.loop-policy.invariant l).masks in
    let child = subst (λ ms. MasksOf c.args.terms.now (policy_view c.policy-item.result) ms) (sym c.as_slice.ensures)
    (c.in_ok-more.ensures (one_listed c.args.terms.now c.args.policies.now c.loop-policy.policy-index
    c.policy-item.result l c.loop-policy-test.true c.policy-item.is)).0 in
    rw (p.1, p.2)
    (gathered_in c.args.terms.now (exactly_one (policies_of (map policy_view c.args.policies.now)))
    (OfEither c.loop-policy.masks c.as_slice.result.now) c.either.new.masks
    (λ many. inr (prefix_has_more exactly_one policy_view c.args.policies.now c.loop-policy.policy-index
    c.policy-item.result c.loop-policy-test.true c.policy-item.is
    (more_from c.args.terms.now (exactly_one (policies_of (take c.loop-policy.policy-index (map policy_view
    c.args.policies.now) ++ policy_view c.policy-item.result ∷ []))) _ (apart_terms c.args.terms.now c.requires.rises)
    many
    (one_below c.args.terms.now (take c.loop-policy.policy-index (map policy_view c.args.policies.now)) (policy_view
    c.policy-item.result) c.loop-policy.masks c.as_slice.result.now so_far child)
    (one_sound c.args.terms.now (take c.loop-policy.policy-index (map policy_view c.args.policies.now)) (policy_view
    c.policy-item.result) c.loop-policy.masks c.as_slice.result.now so_far child)))) _ (c.in_err-either.ensures
    (c.loop-policy.invariant l).masks.small (c.loop-policy.invariant l).masks.rises))

pub masks_of_one-loop-policy-preserved : goal.masks_of_one-loop-policy-preserved
masks_of_one-loop-policy-preserved t c = λ l.
    let was = (c.loop-policy.invariant l) in
    let child = subst (λ ms. MasksOf c.args.terms.now (policy_view c.policy-item.result) ms) (sym c.as_slice.ensures)
    (c.in_ok-more.ensures (one_listed c.args.terms.now c.args.policies.now c.loop-policy.policy-index
    c.policy-item.result l c.loop-policy-test.true c.policy-item.is)).0 in
    subst (λ ps. SoFar exactly_one c.args.terms.now ps c.either.new.masks) (sym (take_more_map policy_view
    c.args.policies.now c.loop-policy.policy-index c.policy-item.result c.loop-policy-test.true c.policy-item.is))
    (so_far-more exactly_one c.args.terms.now (take c.loop-policy.policy-index (map policy_view c.args.policies.now))
    (policy_view c.policy-item.result) c.loop-policy.masks c.either.new.masks (apart_terms c.args.terms.now
    c.requires.rises) was (c.in_ok-more.ensures (one_listed c.args.terms.now c.args.policies.now
    c.loop-policy.policy-index c.policy-item.result l c.loop-policy-test.true c.policy-item.is)).1
    (one_more c.args.terms.now (take c.loop-policy.policy-index (map policy_view c.args.policies.now)) (policy_view
    c.policy-item.result) c.loop-policy.masks c.as_slice.result.now c.either.new.masks was.masks child
    (c.in_ok-either.ensures (c.loop-policy.invariant l).masks.small (c.loop-policy.invariant l).masks.rises)))

pub masks_of_one-returns : goal.masks_of_one-returns
masks_of_one-returns t c = λ l. one_whole policy_view c.args.terms.now c.args.policies.now c.loop-policy.policy-index
    c.loop-policy.masks c.loop-policy-test.false (c.loop-policy.invariant l)
