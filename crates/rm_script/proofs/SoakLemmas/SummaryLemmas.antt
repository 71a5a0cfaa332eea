-- The counts of a summary.
use Rattle.std.proofs.Common.{◌≡◌, ℕ, ◌+◌, Bool, true, false, List, [], ◌∷◌, ◌&&◌, not, cond, refl, arith, count_by}
use Rattle.std.proofs.lemmas.List.Sums.{sum_by-cons}
use Rattle.rm_script.specs.Soak.Summary.{is_answer, is_ok_answer, is_other_answer, says_ok}

-- one line is counted once, where it is an answer
once : (a b : Bool) → cond (a && b) 1 0 + cond (a && not b) 1 0 ≡ cond a 1 0
once true true = refl
once true false = refl
once false b = refl

pub counts-add : (lines : List (List ℕ)) → count_by is_ok_answer lines + count_by is_other_answer lines
    ≡ count_by is_answer lines
counts-add [] = refl
counts-add (line ∷ lines) =
    let here = once (is_answer line) (says_ok line) in
    omega (arith, here, counts-add lines, first is_answer, first is_ok_answer, first is_other_answer)
  where
    first : (p : List ℕ → Bool) → count_by p (line ∷ lines) ≡ cond (p line) 1 0 + count_by p lines
    first p = sum_by-cons (λ l. cond (p l) 1 0) line lines
