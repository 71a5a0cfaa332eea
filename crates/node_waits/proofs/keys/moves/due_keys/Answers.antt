use Rattle.std.proofs.Common.{◌≡◌, ◌≤◌, ◌∙◌, ◌++◌, ◌∷◌, [], ℕ, List, max, sym, ap, take, arith}
use Rattle.timers.specs.declared.slots.timers.Key.{Key}
use Rattle.timers.specs.Keys.Waits.{due_at, keys_of, most_emitted}
use Rattle.node_waits.proofs.KeysLemmas.MoveLemmas.{take-got, take-past, taken-keys}
use Rattle.node_waits.proofs.keys.moves.due_keys.Goals as goal

pub returns-in-None : goal.returns-in-None
returns-in-None c waits st =
    let due = due_at (max c.args.timers.now.time c.args.now) waits in
    let few : c.loop-k.k ≤ most_emitted = omega (arith, c.loop-k-test.true) in
    c.loop-k.invariant waits st
    ∙ take-past c.loop-k.k most_emitted (keys_of due) few (sym c.in-None.is ∙ c.due.ensures waits st)
    ∙ sym (taken-keys most_emitted due)

pub loop-k-preserved : goal.loop-k-preserved
loop-k-preserved c waits st =
    let due = due_at (max c.args.timers.now.time c.args.now) waits in
    c.in_ok-push-in-Some.ensures.items
    ∙ ap (λ (v : List Key). v ++ c.in-Some.key ∷ []) (c.loop-k.invariant waits st)
    ∙ sym (take-got c.loop-k.k (keys_of due) c.in-Some.key (sym c.in-Some.is ∙ c.due.ensures waits st))

pub returns : goal.returns
returns c waits st =
    let due = due_at (max c.args.timers.now.time c.args.now) waits in
    let low = c.loop-k-test.false in
    let high = c.loop-k.auto.k-end in
    let all : c.loop-k.k ≡ most_emitted = omega arith in
    c.loop-k.invariant waits st ∙ ap (λ (n : ℕ). take n (keys_of due)) all ∙ sym (taken-keys most_emitted due)
