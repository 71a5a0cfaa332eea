use Rattle.std.proofs.Common.{◌∙◌, ◌++◌, ◌∷◌, [], ℕ, List, ap, sym, subst}
use Rattle.std.specs.List.{insert}
use Rattle.timers.specs.Keys.Keyed.{IsGap, StandsFor}
use Rattle.timers.specs.Keys.Waits.{Wait}
use Rattle.timers.proofs.KeysLemmas.EntryLemmas.{absent-list}
use Rattle.timers.proofs.KeysLemmas.KeptLemmas.{last-gap, last-keys}
use Rattle.timers.proofs.keys.timers.KeyTimers.begin_last.Goals as goal

pub put_new-requires-clause-place : goal.put_new-requires-clause-place
put_new-requires-clause-place c =
    subst (IsGap c.args.self.now.cells c.args.key) (sym c.len-place.ensures)
    (last-gap c.args.self.now.cells c.args.key c.requires.last)

pub returns-clause-keys : goal.returns-clause-keys
returns-clause-keys c =
    let put = c.put_new.ensures.cells in
    let cells = c.args.self.now.cells in
    last-keys cells c.put_new.new.self.cells c.args.key put.0
    (put.1 ∙ ap (λ (i : ℕ). insert cells i (record { key = c.args.key; slot = put.0 })) c.len-place.ensures)

pub returns-clause-waits : goal.returns-clause-waits
returns-clause-waits c waits st =
    let key = c.args.key in
    let gap = last-gap c.args.self.now.cells key c.requires.last in
    subst (λ (v : List Wait). StandsFor c.put_new.new.self (v ++ record { key = key; class = 0; due = 0 } ∷ []))
    (absent-list c.args.self.now waits key st gap.absent) (c.put_new.ensures.waits waits st)
