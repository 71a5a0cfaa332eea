use Rattle.std.proofs.Common.{◌≡◌, ◌∷◌, length, refl, sym, subst, arith, length-append}
use Rattle.std.proofs.Math.Seq.{get_or-append_seam}
use Rattle.std.specs.Prelude.{Any}
use Rattle.timers.specs.Slots.Waits.{in_class}
use Rattle.timers.proofs.SlotsLemmas.StandLemmas.{placed, placed_waits}
use Rattle.timers.proofs.slots.laws.live_is_waiting.Goals as goal

pub returns : goal.returns
returns c = record {
  live = λ timers before entry after st. record {
    before = in_class entry.class before;
    entry = entry;
    after = in_class entry.class after;
    has = refl;
    waits = placed_waits timers before entry after st;
  };
  waits = λ timers waits slot st live.
      let p = placed timers waits slot st live in
      let long = length-append p.left (p.entry ∷ p.right) in
      subst (Any (λ entry. entry.slot ≡ slot)) (sym p.is)
      (length p.left, p.entry, omega arith, get_or-append_seam p.left p.entry p.right p.entry, p.has);
}
