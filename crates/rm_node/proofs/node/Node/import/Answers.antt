use Rattle.std.proofs.Common.{◌∙◌, List, subst}
use Rattle.timers.specs.Keys.Keyed.{StandsFor}
use Rattle.record_batch.specs.Fact.{Fact}
use Rattle.rm_protocol.specs.Waiting.{mounted_waits}
use Rattle.rm_node.proofs.TimedLemmas.{timed-first}
use Rattle.rm_node.proofs.node.Node.import.Goals as goal

pub invariant_of-result : goal.invariant_of-result
invariant_of-result g c = record {
  timed = timed-first c.what_waits_stays_exact.ensures.mounted c.in_ok-store.store.records c.fill.new.timers
      c.in_ok-store.ensures.kept
      (subst (λ (r : List Fact). StandsFor c.fill.new.timers (mounted_waits r)) c.tables.ensures
      (c.fill.ensures.filled.waits _ c.in-Ok.ensures.waits));
}

pub returns-clause-kept : goal.returns-clause-kept
returns-clause-kept g c = record {
  granted = c.in-Ok.ensures.granted;
  waits = subst (λ (r : List Fact). StandsFor c.fill.new.timers (mounted_waits r)) c.tables.ensures
      (c.fill.ensures.filled.waits _ c.in-Ok.ensures.waits);
  time = c.fill.ensures.filled.time ∙ c.in-Ok.ensures.time;
  polled = c.in-Ok.ensures.polled;
}
