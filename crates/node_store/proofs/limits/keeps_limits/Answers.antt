use Rattle.std.proofs.Common.{Bool, subst, sym}
use Rattle.std.specs.Prelude.{◌↔◌, IfOk, IsTrue}
use Rattle.record_batch.specs.Fact.{fact_of}
use Rattle.record_batch.specs.declared.record.Record.{Record}
use Rattle.node_laws.specs.Records.{KeepsLimits}
use Rattle.node_store.proofs.limits.keeps_limits.Goals as goal

pub returns-in-Accepted : goal.returns-in-Accepted
returns-in-Accepted c =
    subst (λ (x : Record). IfOk c.is_content_kept.result (λ (kept : Bool). IsTrue kept ↔ KeepsLimits (fact_of x)))
    (sym c.in-Accepted.is) c.is_content_kept.ensures
