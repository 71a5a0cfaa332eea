use Rattle.std.proofs.Common.{refl}
use Rattle.rm_node.proofs.TimedLemmas.{stands-made, timed-first}
use Rattle.rm_node.proofs.node.Node.make.Goals as goal

pub invariant_of-result : goal.invariant_of-result
invariant_of-result g c = record {
  timed = timed-first c.what_waits_stays_exact.ensures.mounted c.in-Ok.store.records c.in_ok-kept.kept.timers
      c.in-Ok.ensures.kept (stands-made c.in-Ok.store c.args.number c.args.address c.in_ok-kept.kept.timers
      c.in-Ok.ensures.made c.in_ok-kept.ensures.waits);
}

pub returns-in-Ok-clause-kept : goal.returns-in-Ok-clause-kept
returns-in-Ok-clause-kept g c = record {
  granted = c.in_ok-kept.ensures.granted;
  waits = stands-made c.in-Ok.store c.args.number c.args.address c.in_ok-kept.kept.timers c.in-Ok.ensures.made
      c.in_ok-kept.ensures.waits;
  time = c.in_ok-kept.ensures.time;
  polled = c.in_ok-kept.ensures.polled;
}

pub returns-in-Err-Memory-clause-wanted : goal.returns-in-Err-Memory-clause-wanted
returns-in-Err-Memory-clause-wanted g c tells e =
    c.in-Err-Memory.ensures.wanted tells (rw c.in-Err-Memory.field-0-is refl)
