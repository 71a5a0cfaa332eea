use Rattle.std.proofs.Common.{◌∙◌, ◌≤◌, List, length, map, sym, ap, arith}
use Rattle.std.proofs.lemmas.List.{take_all}
use Rattle.record_batch.specs.Fact.{fact_of}
use Rattle.record_batch.specs.declared.record.Record.{Record}
use Rattle.node_laws.specs.Sizes.Size.{capped, batch_size}
use Rattle.node_laws.proofs.SizesLemmas.SizeLemmas.{batch_text_length}
use Rattle.node_laws.proofs.sizes.size.batch_len.Goals as goal

pub returns-clause-len : goal.returns-clause-len
returns-clause-len c =
    let all : length c.args.batch.now ≤ c.loop-given.given-index = omega (arith, c.loop-given-test.false) in
    c.loop-given.invariant.size
    ∙ ap (λ (l : List Record). capped (batch_size (map fact_of l)))
    (take_all c.loop-given.given-index c.args.batch.now all)
    ∙ ap capped (sym (batch_text_length (map fact_of c.args.batch.now)))
