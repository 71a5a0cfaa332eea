use Rattle.std.proofs.Common.{◌≡◌, ◌+◌, ◌∙◌, map, true, take, get_or, ap, subst, sym}
use Rattle.std.proofs.lemmas.Bool.{false≢true}
use Rattle.rm_policy.proofs.AlternativesLemmas.ListLemmas.{listed-more, map-insert_key, seen_more, seen_all}
use Rattle.rm_policy.specs.Alternatives.Listed.{ListedSoFar}
use Rattle.rm_policy.specs.Alternatives.Masks.{has_mask, picked_list}
use Rattle.rm_policy.proofs.alternatives.normal.ordered.Goals as goal

pub loop-mask-init : goal.loop-mask-init
loop-mask-init c =
    rw c.new-ordered.ensures.items (record {
      rises = tt;
      each = tt;
      exact = λ x. ((λ h. absurd h), (λ h. absurd (false≢true h.1)));
    })

pub loop-mask-preserved : goal.loop-mask-preserved
loop-mask-preserved c =
    let ts = c.args.terms.now in
    let next = get_or c.args.masks.now c.loop-mask.mask-index 0 in
    subst (ListedSoFar ts (λ m. has_mask (take (c.loop-mask.mask-index + 1) c.args.masks.now) m ≡ true))
    (sym (ap (map (picked_list 0 ts)) c.in_ok-insert.ensures ∙ map-insert_key ts c.loop-mask.ordered.items next))
    (listed-more ts (λ m. has_mask (take c.loop-mask.mask-index c.args.masks.now) m ≡ true)
    (λ m. has_mask (take (c.loop-mask.mask-index + 1) c.args.masks.now) m ≡ true) next
    (map (picked_list 0 ts) c.loop-mask.ordered.items) c.requires.rises
    (λ m. seen_more c.args.masks.now c.loop-mask.mask-index m c.loop-mask-test.true) c.loop-mask.invariant)

pub returns : goal.returns
returns c =
    seen_all c.args.terms.now c.args.masks.now c.loop-mask.mask-index
    (map (picked_list 0 c.args.terms.now) c.loop-mask.ordered.items) c.loop-mask-test.false c.loop-mask.invariant
