use Rattle.std.proofs.Common.{◌≡◌, ℕ, ◌+◌, ◌-◌, List, Some, option_map, slice_get, drop, sym, ap, ◌∙◌, arith}
use Rattle.timers.specs.declared.links.links.Item.{Item}
use Rattle.timers.specs.Links.Items.{list_at}
use Rattle.timers.specs.Slots.Table.{cell_at, fronts}
use Rattle.timers.proofs.SlotsLemmas.DueLemmas.{fronts_more, front_has, front_passed}
use Rattle.timers.proofs.slots.table.find_due.Goals as goal

pub returns-in-Ok : goal.returns-in-Ok
returns-in-Ok g c =
    let lists = c.args.links.now.lists in
    let class = c.loop-class.class in
    let left = c.loop-class.left in
    let seven = c.requires.tied.seven in
    let found = c.in-Ok.ensures in
    let item = found.0 in
    let key = λ (i : Item). (cell_at c.args.cells.now.items i.key).key in
    let rest = fronts c.args.time (drop (class + 1) lists) in
    let first : slice_get (fronts c.args.time lists) c.args.k ≡ Some item =
    sym c.loop-class.invariant
    ∙ ap (λ (v : List Item). slice_get v left) (fronts_more c.args.time lists class
    (omega (arith, c.loop-class-test.true)))
    ∙ front_has c.args.time (list_at lists class) rest left item found.1 found.3 in
    ap Some (c.key_of.ensures ∙ ap (λ (s : ℕ). (cell_at c.args.cells.now.items s).key) (sym found.2))
    ∙ ap (option_map key) (sym first)

pub loop-class-preserved : goal.loop-class-preserved
loop-class-preserved g c =
    let lists = c.args.links.now.lists in
    let class = c.loop-class.class in
    let left = c.loop-class.left in
    let seven = c.requires.tied.seven in
    let passed = c.in-Err.ensures in
    let rest = fronts c.args.time (drop (class + 1) lists) in
    ap (λ (d : ℕ). slice_get rest (left - d)) passed.0
    ∙ sym (front_passed c.args.time (list_at lists class) rest left (omega (arith, passed.0, passed.1)))
    ∙ ap (λ (v : List Item). slice_get v left) (sym
    (fronts_more c.args.time lists class (omega (arith, c.loop-class-test.true))))
    ∙ c.loop-class.invariant
