use Rattle.std.proofs.Common.{false, sym, subst, arith}
use Rattle.timers.specs.Slots.Waits.{Waiting, StandFor, IsLive}
use Rattle.timers.proofs.SlotsLemmas.SeenLemmas.{owned_of}
use Rattle.timers.proofs.SlotsLemmas.CallLemmas.{call_shifted, kept_shifted}
use Rattle.timers.proofs.slots.timers.Timers.sent.Goals as goal

pub shift-requires-clause-owned : goal.shift-requires-clause-owned
shift-requires-clause-owned c =
    let s = c.self.inside in
    owned_of s.links.lists s.cells.items s.time s.links.spare c.args.slot
    (subst (λ (v : Waiting). IsLive v c.args.slot) (sym c.self.view_is) c.requires.slot)

pub invariant_of-self : goal.invariant_of-self
invariant_of-self c =
    let s = c.self.inside in
    let now = c.self.invariant.now in
    kept_shifted s.links.lists c.shift.new.links.lists s.cells.items c.shift.new.cells.items s.free.items _ c.args.slot
    c.shift.result false s.time c.max-self-inside.result s.links.spare c.shift.new.links.spare c.self.invariant
    (omega arith) (omega arith)
    c.shift.ensures.spare (record { lists_are = c.shift.ensures.lists; cells_are = c.shift.ensures.cells })
    c.shift.ensures.tied (subst (λ (v : Waiting). IsLive v c.args.slot) (sym c.self.view_is) c.requires.slot)

pub returns-clause-waits : goal.returns-clause-waits
returns-clause-waits c waits st =
    let s = c.self.inside in
    call_shifted s.links.lists c.shift.new.links.lists s.cells.items c.shift.new.cells.items c.args.slot
    c.shift.result false
    s.time c.max-self-inside.result s.links.spare c.shift.new.links.spare c.self.invariant.tied
    (omega arith) c.shift.ensures.spare
    (record { lists_are = c.shift.ensures.lists; cells_are = c.shift.ensures.cells })
    (subst (λ (v : Waiting). IsLive v c.args.slot) (sym c.self.view_is) c.requires.slot) waits
    (subst (λ (v : Waiting). StandFor v waits) (sym c.self.view_is) st)
