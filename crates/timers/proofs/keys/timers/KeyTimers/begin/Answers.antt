use Rattle.std.proofs.Common.{subst, ap, ◌∙◌, cond, None, List, Bool, ◌≡◌, ◌∷◌, [], ◌++◌}
use Rattle.timers.specs.declared.keys.cells.Cell.{Cell}
use Rattle.timers.specs.Keys.Keyed.{Keyed, IsAt, StandsFor, slot_at}
use Rattle.timers.specs.Keys.Waits.{Wait, without}
use Rattle.timers.specs.Keys.KeyLemmas.{same_key-refl}
use Rattle.timers.proofs.KeysLemmas.EntryLemmas.{without-twice}
use Rattle.timers.proofs.KeysLemmas.KeptLemmas.{slot-there, put-found}
use Rattle.timers.proofs.keys.timers.KeyTimers.begin.Goals as goal

pub unreachable-requires : goal.unreachable-requires
unreachable-requires c =
    let s = c.self.inside in
    let cells = s.cells.items in
    let key = c.args.key in
    let at = subst (λ (v : List Cell). IsAt v key c.in-Ok.field-0) c.as_slice.ensures.value c.in-Ok.ensures in
    let found = slot-there cells key c.in-Ok.field-0 c.self.invariant.rising at in
    let gone : slot_at cells key ≡ None =
    ap (λ (k : Keyed). slot_at k.cells key) c.self.view_is ∙ c.forget.ensures.cells key
    ∙ ap (λ (b : Bool). cond b None (slot_at c.args.self.now.cells key)) (same_key-refl key) in
    absurd (cc)

pub returns-clause-waits : goal.returns-clause-waits
returns-clause-waits c waits st =
    subst (λ (v : List Wait). StandsFor c.put_new.new.self (v ++ record { key = c.args.key; class = 0; due = 0 } ∷ []))
    (without-twice c.args.key waits)
    (c.put_new.ensures.waits (without c.args.key waits) (c.forget.ensures.waits waits st))

pub returns-clause-cells : goal.returns-clause-cells
returns-clause-cells c =
    let put = c.put_new.ensures.cells in (
      put.0,
      λ other. put-found c.args.self.now.cells c.forget.new.self.cells c.put_new.new.self.cells c.args.key other
          c.in-Err.place put.0 c.forget.ensures.cells put.1,
    )
