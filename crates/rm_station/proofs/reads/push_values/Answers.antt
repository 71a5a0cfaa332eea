use Rattle.std.proofs.Common.{◌+◌, ◌++◌, append_assoc, sym, ap, ◌∙◌}
use Rattle.rm_station.specs.Reads.{count_in, count_name, value_line, value_lines}
use Rattle.rm_station.proofs.ReadLemmas.{value_lines-next}
use Rattle.rm_station.proofs.reads.push_values.Goals as goal

pub loop-before-preserved : goal.loop-before-preserved
loop-before-preserved c =
    let r = c.args.tables.now.records in
    let k = c.loop-before.before in
    let count = c.args.count in
    let one = value_line (count_name count) (k + 1) (count_in count r (k + 1)) in
    c.in_ok-push_at.ensures ∙ ap (λ t. t ++ one) c.loop-before.invariant
    ∙ append_assoc c.args.text.now (value_lines count r k) one
    ∙ ap (λ t. c.args.text.now ++ t) (sym (value_lines-next count r k))
