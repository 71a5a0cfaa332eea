use Rattle.std.proofs.Common.{List, arith, map}
use Rattle.std.proofs.lemmas.List.{at_drop_all}
use Rattle.record_batch.specs.declared.record.Record.{Record}
use Rattle.record_batch.specs.Fact.{fact_of}
use Rattle.record_batch.specs.Sequences.Makers.{counter}
use Rattle.tables_ahead.proofs.batch.drawn_in.Goals as goal

pub returns : goal.returns
returns c =
    let none = at_drop_all (λ (xs : List Record). counter (map fact_of xs)) c.args.batch.now c.loop-given.given-index
    c.loop-given-test.false in
    omega (arith, none, c.loop-given.invariant.told, c.loop-given.invariant.bits)
