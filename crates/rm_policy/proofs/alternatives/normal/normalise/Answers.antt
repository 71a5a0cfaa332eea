use Rattle.std.proofs.Common.{◌≡◌, map, subst, sym, ap, ◌∙◌, true}
use Rattle.std.proofs.lemmas.Result.{err_from_is_err_and}
use Rattle.rm_policy.proofs.AlternativesLemmas.ListLemmas.{masks_err, terms_err, few_terms, listed-normal, slice_terms}
use Rattle.rm_policy.specs.Alternatives.Listed.{ListedSoFar}
use Rattle.rm_policy.specs.Alternatives.Masks.{has_mask, picked_list}
use Rattle.rm_policy.specs.Alternatives.Normal.{IsNormal}
use Rattle.rm_policy.specs.Alternatives.Tree.{policy_view}
use Rattle.rm_policy.proofs.alternatives.normal.normalise.Goals as goal

pub returns-in_err-terms : goal.returns-in_err-terms
returns-in_err-terms c =
    let p = err_from_is_err_and c.from_residual.result c.from_residual.ensures.1 in
    rw (p.1, p.2) (terms_err (policy_view c.args.policy.now) _ c.in_err-terms.ensures.err)

pub masks_of-requires-clause-few : goal.masks_of-requires-clause-few
masks_of-requires-clause-few c =
    (slice_terms (policy_view c.args.policy.now) _ _ c.as_slice-listed.ensures.value c.in_ok-terms.ensures.ok).few

pub masks_of-requires-clause-rises : goal.masks_of-requires-clause-rises
masks_of-requires-clause-rises c =
    (slice_terms (policy_view c.args.policy.now) _ _ c.as_slice-listed.ensures.value c.in_ok-terms.ensures.ok).rises

pub returns-in_err-masks : goal.returns-in_err-masks
returns-in_err-masks c =
    let p = err_from_is_err_and c.from_residual-in_err-masks.result c.from_residual-in_err-masks.ensures.1 in
    let l = slice_terms (policy_view c.args.policy.now) _ _ c.as_slice-listed.ensures.value c.in_ok-terms.ensures.ok in
    rw (p.1, p.2) (masks_err c.as_slice-listed.result.now (policy_view c.args.policy.now) (few_terms _ _ l) _
    (c.in_err-masks.ensures l.listed))

pub returns : goal.returns
returns c =
    let ts = c.as_slice-listed.result.now in
    let l = slice_terms (policy_view c.args.policy.now) _ _ c.as_slice-listed.ensures.value c.in_ok-terms.ensures.ok in
    let m = c.in_ok-masks.ensures l.listed in
    let h = subst (λ ms. ListedSoFar ts (λ m. has_mask ms m ≡ true) (map (picked_list 0 ts)
    c.in_ok-ordered.ordered.items))
    c.as_slice.ensures c.in_ok-ordered.ensures in
    let lists : c.in_ok-lists.lists ≡ map (picked_list 0 ts) c.in_ok-ordered.ordered.items =
    c.in_ok-lists.ensures ∙ ap (map (picked_list 0 ts)) c.as_slice-2.ensures.value in (
      subst (IsNormal (policy_view c.args.policy.now)) (sym lists)
          (listed-normal ts (policy_view c.args.policy.now) c.in_ok-masks.masks _ m.0 h),
      few_terms _ _ l,
      m.1,
    )
