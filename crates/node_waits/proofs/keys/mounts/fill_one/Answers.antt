use Rattle.std.proofs.Common.{◌≡◌, ◌+◌, ◌-◌, ◌<◌, ◌∙◌, ℕ, List, length, ap, sym, subst, arith, length-append}
use Rattle.timers.specs.declared.slots.timers.Key.{Key}
use Rattle.timers.specs.Keys.Keyed.{keys_in}
use Rattle.node_waits.specs.Keys.Filled.{Filled, own_waiting}
use Rattle.node_waits.proofs.KeysLemmas.FillLemmas.{before-later, before-sequence, filled-more, filled-none}
use Rattle.node_waits.proofs.KeysLemmas.GoneLemmas.{own-skips}
use Rattle.node_waits.proofs.keys.mounts.fill_one.Goals as goal

pub returns-then-count-eq0-clause-filled : goal.returns-then-count-eq0-clause-filled
returns-then-count-eq0-clause-filled c =
    let r = c.args.tables.now.records in
    subst (λ (n : ℕ). Filled c.args.timers.now c.args.timers.now (own_waiting r c.args.seq 0 n))
    (sym c.if-count-eq0.true) (filled-none c.args.timers.now)

pub returns-then-count-eq0-clause-before : goal.returns-then-count-eq0-clause-before
returns-then-count-eq0-clause-before c =
    before-sequence (keys_in c.args.timers.now.cells) c.args.seq 0 c.requires.before

pub begin_waiting-requires-clause-few : goal.begin_waiting-requires-clause-few
begin_waiting-requires-clause-few c =
    let r = c.args.tables.now.records in
    let s = c.args.seq in
    let some : 0 < c.args.count = omega (arith, c.if-count-eq0.false) in
    let parts : length (own_waiting r s 0 c.args.count)
    ≡ length (own_waiting r s 0 1) + length (own_waiting r s (c.args.gone + 1) (c.args.count - (c.args.gone + 1))) =
    ap length (own-skips r s c.args.gone c.args.count c.requires.silent some)
    ∙ length-append (own_waiting r s 0 1) (own_waiting r s (c.args.gone + 1) (c.args.count - (c.args.gone + 1))) in
    omega (arith, parts, c.requires.few)

pub fill_from-requires-clause-before : goal.fill_from-requires-clause-before
fill_from-requires-clause-before c =
    before-later (keys_in c.begin_waiting.new.timers.cells) c.args.seq 1 (c.args.gone + 1) (omega arith)
    c.begin_waiting.ensures.before

pub fill_from-requires-clause-few : goal.fill_from-requires-clause-few
fill_from-requires-clause-few c =
    let r = c.args.tables.now.records in
    let s = c.args.seq in
    let rest = own_waiting r s (c.args.gone + 1) (c.args.count - (c.args.gone + 1)) in
    let some : 0 < c.args.count = omega (arith, c.if-count-eq0.false) in
    let parts : length (own_waiting r s 0 c.args.count) ≡ length (own_waiting r s 0 1) + length rest =
    ap length (own-skips r s c.args.gone c.args.count c.requires.silent some)
    ∙ length-append (own_waiting r s 0 1) rest in
    let cells : length (keys_in c.begin_waiting.new.timers.cells)
    ≡ length (keys_in c.args.timers.now.cells) + length (own_waiting r s 0 1) =
    ap length c.begin_waiting.ensures.filled.cells
    ∙ length-append (keys_in c.args.timers.now.cells) (own_waiting r s 0 1) in
    omega (arith, parts, cells, c.requires.few)

pub returns-clause-filled : goal.returns-clause-filled
returns-clause-filled c =
    let r = c.args.tables.now.records in
    let s = c.args.seq in
    let rest = own_waiting r s (c.args.gone + 1) (c.args.count - (c.args.gone + 1)) in
    let some : 0 < c.args.count = omega (arith, c.if-count-eq0.false) in
    subst (λ (keys : List Key). Filled c.args.timers.now c.fill_from.new.timers keys)
    (sym (own-skips r s c.args.gone c.args.count c.requires.silent some))
    (filled-more c.args.timers.now c.begin_waiting.new.timers c.fill_from.new.timers (own_waiting r s 0 1) rest
    c.begin_waiting.ensures.filled c.fill_from.ensures.filled)
