use Rattle.std.proofs.Common.{refl, get_or, inl, inr, ⊎_elim}
use Rattle.std.specs.Int.RustNames.{bit_or}
use Rattle.std.proofs.lemmas.Result.{err_from_is_err_and}
use Rattle.rm_policy.proofs.AlternativesLemmas.MaskLemmas.{gathers_err, gathers_new, gathering-add, has_mask-get}
use Rattle.rm_policy.proofs.AlternativesLemmas.MaskLemmas.{pairs_next}
use Rattle.rm_policy.proofs.AlternativesLemmas.MaskLemmas.{row_next, left_none}
use Rattle.rm_policy.proofs.alternatives.combine.together.Goals as goal

pub loop-second-init : goal.loop-second-init
loop-second-init c =
    let g = c.loop-first.invariant in
    record {
      rises = g.rises;
      small = g.small;
      sound = g.sound;
      whole = λ m p. ⊎_elim (λ l. inl l) (λ r. inr (pairs_next c.args.one.now c.args.other.now c.loop-first.first-index
          m c.loop-first-test.true r)) (g.whole m p);
    }

pub returns-in_err-add : goal.returns-in_err-add
returns-in_err-add c =
    let p = err_from_is_err_and c.from_residual.result c.from_residual.ensures.1 in
    rw (p.1, p.2)
    (gathers_new _ c.add.new.self _ (gathers_err c.loop-second.masks (bit_or (get_or c.args.one.now
    c.loop-first.first-index 0) (get_or c.args.other.now c.loop-second.second-index 0)) c.add.new.self
    c.loop-second.invariant (
      get_or c.args.one.now c.loop-first.first-index 0,
      get_or c.args.other.now c.loop-second.second-index 0,
      has_mask-get c.args.one.now c.loop-first.first-index c.loop-first-test.true,
      has_mask-get c.args.other.now c.loop-second.second-index c.loop-second-test.true,
      refl,
    ) _ c.in_err-add.ensures))

pub loop-second-preserved : goal.loop-second-preserved
loop-second-preserved c =
    gathering-add c.loop-second.masks (bit_or (get_or c.args.one.now c.loop-first.first-index 0)
    (get_or c.args.other.now c.loop-second.second-index 0)) c.add.new.self c.loop-second.invariant (
      get_or c.args.one.now c.loop-first.first-index 0,
      get_or c.args.other.now c.loop-second.second-index 0,
      has_mask-get c.args.one.now c.loop-first.first-index c.loop-first-test.true,
      has_mask-get c.args.other.now c.loop-second.second-index c.loop-second-test.true,
      refl,
    )
    (λ m left. ⊎_elim
    (λ l. ⊎_elim (λ here. inl here) (λ later. inr (inl later)) (row_next c.args.other.now (get_or c.args.one.now
    c.loop-first.first-index 0) c.loop-second.second-index m c.loop-second-test.true l))
    (λ r. inr (inr r)) left)
    c.in_ok-add.ensures

pub loop-first-preserved : goal.loop-first-preserved
loop-first-preserved c =
    let g = c.loop-second.invariant in
    record {
      rises = g.rises;
      small = g.small;
      sound = g.sound;
      whole = λ m p. ⊎_elim (λ l. inl l)
          (λ r. ⊎_elim (λ here. absurd (left_none c.args.other.now c.loop-second.second-index here.0
          c.loop-second-test.false here.1)) (λ later. inr later) r) (g.whole m p);
    }
