use Rattle.std.proofs.Common.{◌+◌, ◌++◌, ◌<◌, append_assoc, append-nil, sym, ap, ◌∙◌}
use Rattle.rm_sides.specs.Destination.Incoming.{inbox}
use Rattle.rm_sides.specs.Destination.Messages.{item_at}
use Rattle.rm_host.specs.Sequences.{passed_lines, there_line}
use Rattle.rm_host.proofs.SequenceLemmas.{passed_lines-next, passed_lines-none}
use Rattle.rm_host.proofs.items.push_items.Goals as goal

pub loop-before-preserved : goal.loop-before-preserved
loop-before-preserved c =
    let seq = c.args.seq in
    let upto = c.args.upto in
    let items = inbox c.args.incoming.now.facts in
    let k = c.loop-before.before in
    let rest = passed_lines seq (k + 1) upto items in
    let before : k < upto = c.loop-before-test.true in
    ap (λ t. t ++ rest)
    (c.in_ok-push_there.ensures
    ∙ ap (λ item. c.loop-before.text ++ there_line seq (k + 1) item) c.inbox_item.ensures)
    ∙ append_assoc c.loop-before.text (there_line seq (k + 1) (item_at items (k + 1))) rest
    ∙ ap (λ t. c.loop-before.text ++ t) (sym (passed_lines-next seq k upto items before c.requires))
    ∙ c.loop-before.invariant

pub returns : goal.returns
returns c =
    let seq = c.args.seq in
    let upto = c.args.upto in
    let items = inbox c.args.incoming.now.facts in
    let none = passed_lines-none seq c.loop-before.before upto items c.loop-before-test.false c.requires in
    sym (append-nil c.loop-before.text) ∙ ap (λ t. c.loop-before.text ++ t) (sym none) ∙ c.loop-before.invariant
