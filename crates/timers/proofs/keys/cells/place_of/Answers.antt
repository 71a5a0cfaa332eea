use Rattle.std.proofs.Common.{ℕ, ◌≡◌, ◌+◌, ◌-◌, ◌/◌, ◌<◌, length, true, false, arith, sym, inl, inr}
use Rattle.std.proofs.lemmas.Bool.{cases_lt}
use Rattle.timers.specs.Keys.Keyed.{cell_at, is_before}
use Rattle.timers.specs.Keys.KeyLemmas.{before-trans}
use Rattle.timers.proofs.KeysLemmas.CellLemmas.{Rises-at, not_before}
use Rattle.timers.proofs.keys.cells.place_of.Goals as goal

pub loop-low-preserved-then-is_before : goal.loop-low-preserved-then-is_before
loop-low-preserved-then-is_before c =
    let cells = c.args.cells.now in
    let mid : ℕ = c.loop-low.low + (c.loop-low.high - c.loop-low.low) / 2 in
    let inv = c.loop-low.invariant in
    let within : mid < length cells = omega (arith, inv.within) in
    let here : is_before (cell_at cells mid).key c.args.key ≡ true = sym c.if-is_before.ensures in
    record {
      ordered = omega (arith, inv.ordered);
      within = inv.within;
      before = λ k h. elim (cases_lt k mid) [
        | inl less ↦
            before-trans (cell_at cells k).key (cell_at cells mid).key c.args.key
            (Rises-at cells k mid c.requires less within) here
        | inr le ↦ let same : k ≡ mid = omega arith in rw same here
      ];
      after = inv.after;
    }

pub loop-low-preserved : goal.loop-low-preserved
loop-low-preserved c =
    let cells = c.args.cells.now in
    let mid : ℕ = c.loop-low.low + (c.loop-low.high - c.loop-low.low) / 2 in
    let inv = c.loop-low.invariant in
    let here : is_before (cell_at cells mid).key c.args.key ≡ false = sym c.if-is_before.ensures in
    record {
      ordered = omega (arith, inv.ordered);
      within = omega (arith, inv.within);
      before = inv.before;
      after = λ k le h. not_before cells mid k c.args.key c.requires here le h;
    }
