use Rattle.std.proofs.Common.{sym, subst}
use Rattle.timers.specs.Slots.Waits.{Waiting, StandFor}
use Rattle.timers.proofs.SlotsLemmas.CallLemmas.{call_begun, kept_begun, next_free, next_not_owned}
use Rattle.timers.proofs.slots.timers.Timers.add.Goals as goal

pub put_new-requires-clause-free : goal.put_new-requires-clause-free
put_new-requires-clause-free c =
    let s = c.self.inside in
    next_not_owned s.links.lists s.cells.items s.free.items c.pop_slot-slot.new.free.items _ s.time s.links.spare
    c.pop_slot-slot.result c.self.invariant c.pop_slot-slot.ensures.items

pub invariant_of-self : goal.invariant_of-self
invariant_of-self c =
    let s = c.self.inside in
    kept_begun s.links.lists c.put_new.new.links.lists s.cells.items c.put_new.new.cells.items s.free.items
    c.pop_slot-slot.new.free.items _ _ c.pop_slot-slot.result c.put_new.result c.args.key s.time s.links.spare
    c.put_new.new.links.spare c.self.invariant c.put_new.ensures.spare
    (record { lists_are = c.put_new.ensures.lists; cells_are = c.put_new.ensures.cells }) c.put_new.ensures.tied
    c.pop_slot-slot.ensures.items c.pop_slot-slot.ensures.room

pub returns-clause-waits : goal.returns-clause-waits
returns-clause-waits c waits st =
    let s = c.self.inside in
    let slot = c.pop_slot-slot.result in
    let next = next_free s.links.lists s.cells.items s.free.items c.pop_slot-slot.new.free.items _ s.time
    s.links.spare slot
    c.self.invariant c.pop_slot-slot.ensures.items in
    call_begun s.links.lists c.put_new.new.links.lists s.cells.items c.put_new.new.cells.items slot c.put_new.result
    c.args.key s.time s.links.spare c.put_new.new.links.spare c.self.invariant.tied c.put_new.ensures.spare
    (record { lists_are = c.put_new.ensures.lists; cells_are = c.put_new.ensures.cells }) next.low
    (next_not_owned s.links.lists s.cells.items s.free.items c.pop_slot-slot.new.free.items _ s.time s.links.spare slot
    c.self.invariant c.pop_slot-slot.ensures.items) waits
    (subst (λ (v : Waiting). StandFor v waits) (sym c.self.view_is) st)
