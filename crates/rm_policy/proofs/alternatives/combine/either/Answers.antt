use Rattle.std.proofs.Common.{get_or}
use Rattle.std.proofs.lemmas.Result.{err_from_is_err_and}
use Rattle.rm_policy.specs.Alternatives.Masks.{has_mask}
use Rattle.rm_policy.proofs.AlternativesLemmas.MaskLemmas.{gathers_err, gathering-add, gathering-done, left_none}
use Rattle.rm_policy.proofs.AlternativesLemmas.MaskLemmas.{either_has}
use Rattle.rm_policy.proofs.AlternativesLemmas.MaskLemmas.{or_left, left_next, has_mask-get, or_right}
use Rattle.rm_policy.proofs.alternatives.combine.either.Goals as goal

pub returns-in_err-add : goal.returns-in_err-add
returns-in_err-add c = λ few up.
    let p = err_from_is_err_and c.from_residual.result c.from_residual.ensures.1 in
    rw (p.1, p.2)
    (gathers_err c.loop-mask.masks (get_or c.args.other.now c.loop-mask.mask-index 0) c.add.new.self
    (c.loop-mask.invariant few up) (or_right (has_mask c.args.masks.now (get_or c.args.other.now c.loop-mask.mask-index
    0)) (has_mask-get c.args.other.now c.loop-mask.mask-index c.loop-mask-test.true)) _ c.in_err-add.ensures)

pub loop-mask-preserved : goal.loop-mask-preserved
loop-mask-preserved c = λ few up.
    gathering-add c.loop-mask.masks (get_or c.args.other.now c.loop-mask.mask-index 0) c.add.new.self
    (c.loop-mask.invariant few up)
    (or_right (has_mask c.args.masks.now (get_or c.args.other.now c.loop-mask.mask-index 0)) (has_mask-get
    c.args.other.now c.loop-mask.mask-index c.loop-mask-test.true))
    (λ m left. left_next c.args.other.now c.loop-mask.mask-index m c.loop-mask-test.true left) c.in_ok-add.ensures

pub loop-mask-init : goal.loop-mask-init
loop-mask-init c = λ few up. record {
  rises = up;
  small = few;
  sound = λ m h. or_left _ _ h;
  whole = λ m p. either_has _ _ p;
}

pub returns : goal.returns
returns c = λ few up.
    gathering-done c.loop-mask.masks (c.loop-mask.invariant few up) (λ m h. left_none c.args.other.now
    c.loop-mask.mask-index m c.loop-mask-test.false h)
