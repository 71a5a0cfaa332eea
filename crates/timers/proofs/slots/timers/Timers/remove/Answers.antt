use Rattle.std.proofs.Common.{◌∷◌, [], sym, ap, subst, ◌∙◌}
use Rattle.timers.specs.declared.slots.timers.Key.{Key}
use Rattle.timers.specs.Slots.Waits.{Waiting, StandFor, IsLive}
use Rattle.timers.proofs.SlotsLemmas.SeenLemmas.{owned_of}
use Rattle.timers.proofs.SlotsLemmas.CallLemmas.{call_left, kept_left, key_is, live_small, room_left}
use Rattle.timers.proofs.slots.timers.Timers.remove.Goals as goal

pub key_of-key-requires : goal.key_of-key-requires
key_of-key-requires c =
    let s = c.self.inside in
    live_small s.links.lists s.cells.items s.time s.links.spare c.args.slot c.self.invariant.tied
    (subst (λ (v : Waiting). IsLive v c.args.slot) (sym c.self.view_is) c.requires)

pub take_out-requires-clause-owned : goal.take_out-requires-clause-owned
take_out-requires-clause-owned c =
    let s = c.self.inside in
    owned_of s.links.lists s.cells.items s.time s.links.spare c.args.slot
    (subst (λ (v : Waiting). IsLive v c.args.slot) (sym c.self.view_is) c.requires)

pub push_slot-requires : goal.push_slot-requires
push_slot-requires c =
    let s = c.self.inside in
    room_left s.links.lists s.cells.items s.free.items _ s.time s.links.spare c.args.slot c.self.invariant
    (subst (λ (v : Waiting). IsLive v c.args.slot) (sym c.self.view_is) c.requires)

pub invariant_of-self : goal.invariant_of-self
invariant_of-self c =
    let s = c.self.inside in
    kept_left s.links.lists c.take_out.new.links.lists s.cells.items s.free.items c.push_slot.new.free.items _ _
    c.args.slot
    s.time s.links.spare c.take_out.new.links.spare c.self.invariant c.take_out.ensures.spare c.take_out.ensures.lists
    c.take_out.ensures.tied (subst (λ (v : Waiting). IsLive v c.args.slot) (sym c.self.view_is) c.requires)
    c.push_slot.ensures.items c.push_slot.ensures.room

pub returns-clause-key : goal.returns-clause-key
returns-clause-key c waits st =
    let s = c.self.inside in
    key_is s.links.lists s.cells.items s.time s.links.spare c.args.slot
    (subst (λ (v : Waiting). IsLive v c.args.slot) (sym c.self.view_is) c.requires) waits
    (subst (λ (v : Waiting). StandFor v waits) (sym c.self.view_is) st)
    ∙ ap (λ (v : Key). v ∷ []) (sym c.key_of-key.ensures)

pub returns-clause-waits : goal.returns-clause-waits
returns-clause-waits c waits st =
    let s = c.self.inside in
    call_left s.links.lists c.take_out.new.links.lists s.cells.items c.args.slot s.time s.links.spare
    c.take_out.new.links.spare c.take_out.ensures.spare c.take_out.ensures.lists
    (subst (λ (v : Waiting). IsLive v c.args.slot) (sym c.self.view_is) c.requires) waits
    (subst (λ (v : Waiting). StandFor v waits) (sym c.self.view_is) st)
