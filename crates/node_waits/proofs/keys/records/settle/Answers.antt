use Rattle.std.proofs.Common.{◌≡◌, ◌∙◌, ◌+◌, List, length, refl, sym, ap, subst, arith}
use Rattle.std.proofs.lemmas.List.Edits.{length-remove}
use Rattle.timers.specs.declared.keys.cells.Cell.{Cell}
use Rattle.timers.specs.Keys.Keyed.{IsPlace, StandsFor, cell_at}
use Rattle.timers.specs.declared.slots.timers.Key.{Key}
use Rattle.node_waits.proofs.KeysLemmas.SettleLemmas.{with_cells, pass-begins, pass-keeps, pass-takes, pass-ends}
use Rattle.node_waits.proofs.KeysLemmas.SettleLemmas.{place-within, begins-with, without-one, ends-with, each-there}
use Rattle.node_waits.proofs.keys.records.settle.Goals as goal

pub loop-key-init : goal.loop-key-init
loop-key-init c = record {
  passed = pass-begins c.args.tables.now.records c.args.touched c.place-place.result c.args.timers.now.cells
      (subst (λ (k : Key). IsPlace c.args.timers.now.cells k c.place-place.result) c.first_key.ensures
      c.place-place.ensures.place) c.place-place.ensures.rising;
  stands = λ waits st. begins-with c.args.timers.now waits st;
  time = refl;
}

pub overflow_add-place : goal.overflow_add-place
overflow_add-place c =
    let within = place-within c.args.tables.now.records c.args.touched c.loop-key.place c.args.timers.now.cells
    c.loop-key.timers.cells c.in-Some.key c.loop-key.invariant.passed (sym c.own_key.ensures.key ∙ c.in-Some.is) in
    omega (arith, within.0, c.own_key.ensures.few)

pub loop-key-smaller-then-waits : goal.loop-key-smaller-then-waits
loop-key-smaller-then-waits c =
    let within = place-within c.args.tables.now.records c.args.touched c.loop-key.place c.args.timers.now.cells
    c.loop-key.timers.cells c.in-Some.key c.loop-key.invariant.passed (sym c.own_key.ensures.key ∙ c.in-Some.is) in
    omega (arith, within.0)

pub loop-key-preserved-then-waits : goal.loop-key-preserved-then-waits
loop-key-preserved-then-waits c =
    let inv = c.loop-key.invariant in
    record {
      passed = pass-keeps c.args.tables.now.records c.args.touched c.loop-key.place c.args.timers.now.cells
          c.loop-key.timers.cells c.in-Some.key inv.passed (sym c.own_key.ensures.key ∙ c.in-Some.is)
          (sym c.if-waits.ensures);
      stands = inv.stands;
      time = inv.time;
    }

pub take_out-requires : goal.take_out-requires
take_out-requires c = record {
  place = (place-within c.args.tables.now.records c.args.touched c.loop-key.place c.args.timers.now.cells
      c.loop-key.timers.cells c.in-Some.key c.loop-key.invariant.passed
      (sym c.own_key.ensures.key ∙ c.in-Some.is)).0;
}

pub loop-key-smaller : goal.loop-key-smaller
loop-key-smaller c =
    let cells = c.loop-key.timers.cells in
    let within = place-within c.args.tables.now.records c.args.touched c.loop-key.place c.args.timers.now.cells
    cells c.in-Some.key c.loop-key.invariant.passed (sym c.own_key.ensures.key ∙ c.in-Some.is) in
    let shorter : length c.take_out.new.self.cells + 1 ≡ length cells =
    ap (λ (v : List Cell). length v + 1) c.take_out.ensures.cells ∙ length-remove cells c.loop-key.place within.0 in
    omega (arith, within.0, shorter)

pub loop-key-preserved : goal.loop-key-preserved
loop-key-preserved c =
    let inv = c.loop-key.invariant in
    let cells = c.loop-key.timers.cells in
    record {
      passed = pass-takes c.args.tables.now.records c.args.touched c.loop-key.place c.args.timers.now.cells cells
          c.take_out.new.self.cells c.in-Some.key inv.passed (sym c.own_key.ensures.key ∙ c.in-Some.is)
          (sym c.if-waits.ensures) c.take_out.ensures.cells;
      stands = λ waits st. subst (StandsFor c.take_out.new.self)
          (without-one cells c.take_out.new.self.cells (cell_at cells c.loop-key.place).key waits
          c.take_out.ensures.found)
          (c.take_out.ensures.waits (with_cells cells waits) (inv.stands waits st));
      time = c.take_out.ensures.time ∙ inv.time;
    }

pub returns-clause-cells : goal.returns-clause-cells
returns-clause-cells c =
    pass-ends c.args.tables.now.records c.args.touched c.loop-key.place c.args.timers.now.cells c.loop-key.timers.cells
    c.loop-key.invariant.passed (sym c.own_key.ensures.key ∙ c.in_default.is)

pub returns-clause-waits : goal.returns-clause-waits
returns-clause-waits c waits st =
    let r = c.args.tables.now.records in
    let old = c.args.timers.now.cells in
    let end = pass-ends r c.args.touched c.loop-key.place old c.loop-key.timers.cells c.loop-key.invariant.passed
    (sym c.own_key.ensures.key ∙ c.in_default.is) in
    subst (StandsFor c.loop-key.timers)
    (ap (λ (v : List Cell). with_cells v waits) end
    ∙ ends-with r c.args.touched old waits (each-there c.args.timers.now waits st))
    (c.loop-key.invariant.stands waits st)
