use Rattle.timers.proofs.SlotsLemmas.CallLemmas.{kept_new}
use Rattle.timers.proofs.slots.timers.Timers.new.Goals as goal

pub invariant_of-result : goal.invariant_of-result
invariant_of-result c =
    kept_new c.in_ok-with_slots.field-0.lists c.in_ok-blank_cells.field-0.items c.in_ok-free_slots.field-0.items _
    c.in_ok-with_slots.field-0.spare c.in_ok-with_slots.ensures.lists c.in_ok-with_slots.ensures.spare
    c.in_ok-blank_cells.ensures
    (record {
      count = c.in_ok-free_slots.ensures.count;
      low = c.in_ok-free_slots.ensures.low;
      distinct = c.in_ok-free_slots.ensures.distinct;
      has_room = c.in_ok-free_slots.ensures.room;
    })
