use Rattle.std.proofs.Common.{◌≡◌, ◌++◌, [], length, OnOk, append_assoc, ap, subst, ◌∙◌}
use Rattle.rm_sides.specs.Destination.Incoming.{discarded, held, inbox, phase_of}
use Rattle.rm_sides.specs.Destination.Messages.{ranges_onto}
use Rattle.rm_script.specs.Report.Report.{consumed_text, in_text}
use Rattle.rm_replay.specs.Summary.Summary.{items_text}
use Rattle.rm_replay.proofs.summary.summary.push_incoming.Goals as goal

pub returns : goal.returns
returns c =
    let place = c.args.place in
    let f = c.args.incoming.now.facts in
    let out = c.args.out.now in
    let line = in_text place (phase_of f c.args.now) f.behaviour (ranges_onto [] (held f)) (length (inbox f))
    (length (discarded f)) in
    let cursor = consumed_text place f.cursor in
    let items = items_text place 0 (inbox f) in
    let consumed : c.push_consumed.new.out ≡ c.push_known.new.out ++ cursor =
    c.in_ok-push_consumed.ensures ∙ ap (λ n. c.push_known.new.out ++ consumed_text place n) c.consumed.ensures in
    let same : c.push_consumed.new.out ++ items ≡ out ++ (line ++ (cursor ++ items)) =
    ap (λ t. t ++ items) (consumed ∙ ap (λ t. t ++ cursor) c.in_ok-push_known.ensures)
    ∙ append_assoc (out ++ line) cursor items ∙ append_assoc out line (cursor ++ items) in
    subst (λ t. OnOk c.push_items.result (c.push_items.new.out ≡ t)) same c.push_items.ensures
