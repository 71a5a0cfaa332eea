use Rattle.std.proofs.Common.{◌∙◌}
use Rattle.timers.proofs.PendingLemmas.TableLemmas.{within-is}
use Rattle.timers.proofs.pending.queues.add.Goals as goal

pub returns : goal.returns
returns g c = record {
  free = c.add.ensures.is_free;
  within = within-is c.args.links.now c.add.new.self
      (record { slot = c.add.result; list = c.args.list; key = 0; due = 0 }) c.add.ensures.whole c.add.ensures.put
      c.requires.list (c.add.ensures.slots ∙ c.requires.slots);
  put = c.add.ensures.put;
  whole = c.add.ensures.whole;
  slots_ = c.add.ensures.slots;
}
