use Rattle.std.proofs.Common.{◌≡◌, suc, ◌+◌, ◌-◌, ◌∙◌, ap, sym, arith, ◌++◌, flat_map}
use Rattle.std.proofs.lemmas.List.{append-nil}
use Rattle.rm_script.specs.Lines.{ended}
use Rattle.rm_script.specs.Soak.Soak.{turns}
use Rattle.rm_script.proofs.SoakLemmas.SoakLemmas.{turns-more, turns-none}
use Rattle.rm_script.proofs.soak.turns.script.Goals as goal

pub loop-i-preserved : goal.loop-i-preserved
loop-i-preserved c =
    let i = c.loop-i.i in
    let left : suc (3001 - (i + 1)) ≡ 3001 - i = omega arith in
    rw c.in_ok-push_turn.ensures
    (turns-more c.loop-i.out (3001 - (i + 1)) i c.loop-i.words _ _ c.next_word-word.ensures
    ∙ (ap (λ n. c.loop-i.out ++ flat_map ended (turns n i c.loop-i.words)) left ∙ c.loop-i.invariant))

pub returns : goal.returns
returns c =
    let none = turns-none (3001 - c.loop-i.i) c.loop-i.i c.loop-i.words (omega arith) in
    sym (append-nil c.loop-i.out)
    ∙ (ap (λ lines. c.loop-i.out ++ flat_map ended lines) (sym none) ∙ c.loop-i.invariant)
