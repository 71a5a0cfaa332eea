use Rattle.std.proofs.Common.{map}
use Rattle.record_batch.specs.Fact.{fact_of}
use Rattle.node_store.proofs.ReplayLemmas.{stopped_misfit}
use Rattle.node_store.proofs.replay.add_batch.Goals as goal

pub returns-in-Err-Misfit-clause-none : goal.returns-in-Err-Misfit-clause-none
returns-in-Err-Misfit-clause-none c e fit kept =
    stopped_misfit c.args.tables.now.records c.apply_all.new.self.records (map fact_of c.args.batch.items)
    c.in-Err-Misfit.field-0 c.in-Err-Misfit.ensures.err c.in-Err-Misfit.field-0-is fit
