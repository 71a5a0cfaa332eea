use Rattle.std.proofs.Common.{◌≡◌, ℕ, ◌+◌, ◌-◌, List, [], ◌∷◌, ◌++◌, length, take, drop, sym, subst, arith, length-drop}
use Rattle.std.proofs.lemmas.List.{take_all}
use Rattle.rm_disk.specs.Journal.Scan.{IsWalked}
use Rattle.rm_disk.proofs.JournalLemmas.Walk.{walked_more, walked_nowhere}
use Rattle.rm_disk.proofs.journal.scan.gates_of.Goals as goal

pub returns-in-Bad-clause-none : goal.returns-in-Bad-clause-none
returns-in-Bad-clause-none c e =
    let loop = c.loop-gates in
    walked_nowhere c.args.start c.args.bytes.now loop.gates.items loop.rest.now loop.at loop.invariant
    (rw c.in-Bad.is at c.look.ensures)

pub loop-gates-preserved : goal.loop-gates-preserved
loop-gates-preserved c =
    let loop = c.loop-gates in
    let rest = loop.rest.now in
    let next = 5 + c.in-Entry.len in
    let all : take (length rest - next) (drop next rest) ≡ drop next rest =
    take_all (length rest - next) (drop next rest) (omega (arith, length-drop next rest)) in
    let walked = walked_more c.args.start c.args.bytes.now loop.gates.items rest loop.at c.in-Entry.len loop.invariant
    (rw c.in-Entry.is at c.look.ensures) in
    rw c.in_ok-push-in-Entry.ensures.items (subst (λ (l : List ℕ). IsWalked c.args.start c.args.bytes.now
    (loop.gates.items
    ++ (loop.at + next) ∷ []) (loop.at + next) l) (sym all) walked)
