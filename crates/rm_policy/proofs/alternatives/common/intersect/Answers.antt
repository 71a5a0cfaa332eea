use Rattle.std.proofs.Common.{◌≡◌, ◌≤◌, ◌<◌, ap, get_or, sym, subst, ◌∙◌, length, true}
use Rattle.std.proofs.lemmas.Result.{err_from_is_err_and}
use Rattle.std.specs.List.{list_any}
use Rattle.std.specs.Ordering.{eq_by_cmp}
use Rattle.rm_policy.proofs.AlternativesLemmas.CommonLemmas.{adds_err, common-done, common-few, common-full, common-is}
use Rattle.rm_policy.proofs.AlternativesLemmas.CommonLemmas.{is_in}
use Rattle.rm_policy.specs.Alternatives.Normal.{IsIntersection}
use Rattle.rm_policy.specs.Alternatives.Sets.{Rises, list_cmp}
use Rattle.rm_policy.proofs.alternatives.common.intersect.Goals as goal

pub returns-in_err-add : goal.returns-in_err-add
returns-in_err-add c = λ f g.
    let p = err_from_is_err_and c.from_residual.result c.from_residual.ensures.1 in
    let there = subst (λ l. c.loop-terms.terms-index < length l) c.as_slice-terms-items.ensures
    c.loop-terms-test.true in
    let is = c.terms-item.is
    ∙ ap (λ l. get_or l c.loop-terms.terms-index c.terms-item.result) c.as_slice-terms-items.ensures in
    let both : is_in c.args.other.now c.terms-item.result ≡ true =
    ap (λ l. list_any (eq_by_cmp list_cmp c.terms-item.result) l) (sym c.as_slice.ensures)
    ∙ sym (c.is_among.ensures (subst (Rises list_cmp) (sym c.as_slice.ensures) g.rises)) ∙ c.if-is_among.true in
    rw (p.1, p.2) (adds_err c.args.one.now c.args.other.now c.loop-terms.common c.add.new.common c.terms-item.result f g
    (λ full. common-full c.args.one.now c.args.other.now c.loop-terms.common c.loop-terms.terms-index
    c.terms-item.result there is (c.loop-terms.invariant g).1 both full) _ c.in_err-add.ensures)

pub returns : goal.returns
returns c = λ f g.
    let so_far = c.loop-terms.invariant g in
    let whole = common-done c.args.one.now c.args.other.now c.loop-terms.common c.loop-terms.terms-index
    (subst (λ l. length l ≤ c.loop-terms.terms-index) c.as_slice-terms-items.ensures c.loop-terms-test.false)
    so_far.1 in (
      subst (IsIntersection c.args.one.now c.args.other.now) (sym whole) (common-is c.args.one.now c.args.other.now f
          g),
      common-few c.args.one.now c.args.other.now f g (subst (λ l. length l ≤ 256) whole so_far.0),
    )
