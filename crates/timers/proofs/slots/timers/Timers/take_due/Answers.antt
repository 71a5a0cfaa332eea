use Rattle.std.proofs.Common.{option_map, sym, ap, subst, ◌∙◌, arith}
use Rattle.timers.specs.Links.Items.{first_due}
use Rattle.timers.specs.Slots.Waits.{Entry, Waiting, StandFor}
use Rattle.timers.proofs.SlotsLemmas.DueLemmas.{option_key}
use Rattle.timers.proofs.SlotsLemmas.CallLemmas.{call_emitted, kept_emitted, first_seen}
use Rattle.timers.proofs.slots.timers.Timers.take_due.Goals as goal

pub invariant_of-self : goal.invariant_of-self
invariant_of-self c =
    let s = c.self.inside in
    let now = c.self.invariant.now in
    kept_emitted s.links.lists c.shift_due.new.links.lists s.cells.items c.shift_due.new.cells.items s.free.items _
    s.time
    c.max-self-inside.result s.links.spare c.shift_due.new.links.spare c.self.invariant (omega arith) (omega arith)
    c.shift_due.ensures.spare (record { moves = c.shift_due.ensures.moved; none = c.shift_due.ensures.none })
    c.shift_due.ensures.tied

pub returns-clause-key : goal.returns-clause-key
returns-clause-key c waits st =
    let s = c.self.inside in
    let time = c.max-self-inside.result in
    c.shift_due.ensures.key ∙ option_key s.cells.items (first_due time s.links.lists)
    ∙ ap (option_map (λ (e : Entry). e.key))
    (sym (first_seen s.links.lists s.cells.items s.time s.links.spare time waits c.self.invariant.tied
    (subst (λ (v : Waiting). StandFor v waits) (sym c.self.view_is) st)))

pub returns-clause-waits : goal.returns-clause-waits
returns-clause-waits c waits st =
    let s = c.self.inside in
    call_emitted s.links.lists c.shift_due.new.links.lists s.cells.items c.shift_due.new.cells.items s.time
    c.max-self-inside.result s.links.spare c.shift_due.new.links.spare c.self.invariant.tied (omega arith)
    c.shift_due.ensures.spare (record { moves = c.shift_due.ensures.moved; none = c.shift_due.ensures.none }) waits
    (subst (λ (v : Waiting). StandFor v waits) (sym c.self.view_is) st)
