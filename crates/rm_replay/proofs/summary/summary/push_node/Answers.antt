use Rattle.std.proofs.Common.{◌+◌, ◌++◌, append_assoc, sym, ap, ◌∙◌}
use Rattle.rm_replay.specs.Summary.Summary.{sequence_text, sequences_text}
use Rattle.rm_replay.proofs.SummaryLemmas.SequenceLemmas.{sequences_text-next}
use Rattle.rm_replay.proofs.summary.summary.push_node.Goals as goal

pub loop-before-preserved : goal.loop-before-preserved
loop-before-preserved c =
    let r = c.args.tables.now.records in
    let k = c.loop-before.before in
    let one = sequence_text c.args.node r c.args.now (k + 1) in
    c.in_ok-push_sequence.ensures ∙ ap (λ t. t ++ one) c.loop-before.invariant
    ∙ append_assoc c.args.out.now (sequences_text c.args.node r c.args.now k) one
    ∙ ap (λ t. c.args.out.now ++ t) (sym (sequences_text-next c.args.node r c.args.now k))
