use Rattle.std.proofs.Common.{◌+◌, ◌++◌, ◌<◌, ◌≤◌, drop, append_assoc, append-nil, arith, length, sym, ap}
use Rattle.std.proofs.Common.{◌∙◌}
use Rattle.rm_sides.specs.Destination.Incoming.{inbox}
use Rattle.rm_sides.specs.Destination.Messages.{item_at}
use Rattle.rm_replay.specs.Summary.Summary.{items_text, there_text}
use Rattle.rm_replay.proofs.SummaryLemmas.ItemLemmas.{items_text-gone, items_text-next, items_text-none}
use Rattle.rm_replay.proofs.summary.summary.push_items.Goals as goal

pub loop-before-preserved : goal.loop-before-preserved
loop-before-preserved c =
    let place = c.args.place in
    let items = inbox c.args.incoming.now.facts in
    let k = c.loop-before.before in
    let rest = items_text place (k + 1) (drop (k + 1) items) in
    let within : k < length items = omega (arith, c.inbox_len-before-end.ensures, c.loop-before-test.true) in
    ap (λ t. t ++ rest)
    (c.in_ok-push_there.ensures
    ∙ ap (λ item. c.loop-before.out ++ there_text place (k + 1) item) c.inbox_item.ensures)
    ∙ append_assoc c.loop-before.out (there_text place (k + 1) (item_at items (k + 1))) rest
    ∙ ap (λ t. c.loop-before.out ++ t) (sym (items_text-next place items k within))
    ∙ c.loop-before.invariant

pub loop-before-init : goal.loop-before-init
loop-before-init c =
    let items = inbox c.args.incoming.now.facts in
    ap (λ t. c.args.out.now ++ t)
    (sym (items_text-gone c.args.place items c.gone-before.result c.gone-before.ensures.none))

pub returns : goal.returns
returns c =
    let items = inbox c.args.incoming.now.facts in
    let k = c.loop-before.before in
    let past : length items ≤ k = omega (arith, c.inbox_len-before-end.ensures, c.loop-before-test.false) in
    sym (append-nil c.loop-before.out)
    ∙ ap (λ t. c.loop-before.out ++ t) (sym (items_text-none c.args.place items k past))
    ∙ c.loop-before.invariant
