use Rattle.node_store.specs.Rewrites.{disk_failed}
use Rattle.node_store.proofs.RewriteLemmas.{serving_rewritten}
use Rattle.node_store.proofs.store.Store.compact.Goals as goal

pub invariant_of-self : goal.invariant_of-self
invariant_of-self g c =
    serving_rewritten c.a_byte_for_each_number.ensures c.self.inside.journal
    c.rewrite.new.journal c.self.inside.tables.records c.rewrite.new.tables.records c.rewrite.result
    (disk_failed c.rewrite.result) c.self.invariant c.rewrite.ensures.refusals c.rewrite.ensures.stored
