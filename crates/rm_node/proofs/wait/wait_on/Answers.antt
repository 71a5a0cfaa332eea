use Rattle.std.proofs.Common.{◌∙◌, subst}
use Rattle.timers.specs.Keys.Keyed.{Rises}
use Rattle.rm_node.proofs.wait.wait_on.Goals as goal

pub after_call-requires : goal.after_call-requires
after_call-requires c = record {
  spare = rw (c.advance.ensures.cells)
      (c.requires.spare (subst Rises c.advance.ensures.cells c.advance.ensures.rising));
}

pub returns : goal.returns
returns c = record {
  waits = λ ws s. rw (← c.as_slice.ensures.value, ← c.as_slice-2.ensures.value, ← c.advance.ensures.time)
      (c.after_call.ensures.waits ws (c.advance.ensures.waits ws s));
  time = c.after_call.ensures.time ∙ c.advance.ensures.time;
}
