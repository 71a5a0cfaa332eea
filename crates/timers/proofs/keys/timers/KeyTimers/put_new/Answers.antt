use Rattle.std.proofs.Common.{sym, subst, List}
use Rattle.timers.specs.declared.keys.cells.Cell.{Cell}
use Rattle.timers.specs.Keys.Keyed.{Keyed, IsGap, StandsFor}
use Rattle.timers.specs.Keys.Waits.{begun}
use Rattle.timers.proofs.KeysLemmas.EntryLemmas.{put-step}
use Rattle.timers.proofs.KeysLemmas.KeptLemmas.{kept-put}
use Rattle.timers.proofs.keys.timers.KeyTimers.put_new.Goals as goal

pub invariant_of-self : goal.invariant_of-self
invariant_of-self c =
    let s = c.self.inside in
    kept-put s.timers c.add-slot.new.self s.cells.items c.put.new.cells.items _ _ c.args.place c.add-slot.result s.time
    c.args.key c.self.invariant
    (subst (λ (k : Keyed). IsGap k.cells c.args.key c.args.place) (sym c.self.view_is) c.requires.place)
    c.put.ensures.items c.add-slot.ensures.waits c.add-slot.ensures.time c.add-slot.ensures.spare c.put.ensures.room

pub returns-clause-waits : goal.returns-clause-waits
returns-clause-waits c waits st =
    let s = c.self.inside in
    let gap = subst (λ (k : Keyed). IsGap k.cells c.args.key c.args.place) (sym c.self.view_is) c.requires.place in
    subst (λ (v : List Cell). StandsFor (record { timing = c.add-slot.new.self; cells = v; time = s.time })
    (begun c.args.key waits)) (sym c.put.ensures.items)
    (put-step s.timers c.add-slot.new.self s.cells.items c.args.place c.add-slot.result s.time c.args.key gap.absent
    c.add-slot.ensures.waits waits (subst (λ (k : Keyed). StandsFor k waits) (sym c.self.view_is) st))
