-- The lines of sequences, one by one.
use Rattle.std.proofs.Common.{◌≡◌, ℕ, ◌+◌, List, ◌++◌, arith, refl, subst, suc}
use Rattle.record_batch.specs.Fact.{Fact}
use Rattle.rm_host.specs.Shown.{sequence_line, sequence_lines}

-- one more sequence
pub sequence_lines-next : (r : List Fact) (now n : ℕ)
    → sequence_lines r now (n + 1) ≡ sequence_lines r now n ++ sequence_line r now (n + 1)
sequence_lines-next r now n =
    let next : suc n ≡ n + 1 = omega arith in
    subst (λ k. sequence_lines r now k ≡ sequence_lines r now n ++ sequence_line r now k) next refl
