use Rattle.std.proofs.Common.{◌+◌, ◌++◌, append_assoc, sym, ap, ◌∙◌}
use Rattle.rm_host.specs.Shown.{sequence_line, sequence_lines}
use Rattle.rm_host.proofs.ShowLemmas.{sequence_lines-next}
use Rattle.rm_host.proofs.show.push_sequences.Goals as goal

pub loop-before-preserved : goal.loop-before-preserved
loop-before-preserved c =
    let r = c.args.tables.now.records in
    let k = c.loop-before.before in
    let one = sequence_line r c.args.now (k + 1) in
    c.in_ok-push_sequence.ensures ∙ ap (λ t. t ++ one) c.loop-before.invariant
    ∙ append_assoc c.args.text.now (sequence_lines r c.args.now k) one
    ∙ ap (λ t. c.args.text.now ++ t) (sym (sequence_lines-next r c.args.now k))
