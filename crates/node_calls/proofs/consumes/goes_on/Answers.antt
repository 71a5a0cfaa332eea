use Rattle.std.proofs.Common.{◌∙◌, ℕ, ap}
use Rattle.std.specs.Prelude.{nat_lt}
use Rattle.record_batch.specs.Sequences.Makers.{maker}
use Rattle.node_calls.proofs.ConsumeLemmas.{cursor-known}
use Rattle.node_calls.proofs.MissingLemmas.{side-there}
use Rattle.node_calls.proofs.consumes.goes_on.Goals as goal

pub returns : goal.returns
returns c =
    let r = c.args.tables.now.records in
    ap (λ (n : ℕ). nat_lt n c.args.upto)
    (c.consumed.ensures ∙ cursor-known r c.args.seq (maker r c.args.seq) c.in-Some.incoming.now.facts c.in-Some.ensures)

pub unreachable-requires : goal.unreachable-requires
unreachable-requires c =
    side-there c.args.tables.now.records c.args.seq c.requires c.in-None.ensures
