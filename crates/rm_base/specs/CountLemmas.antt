-- Lemmas on counts that only rise, which the crates above use too.
use Rattle.std.proofs.Common.{◌≡◌, ℕ, ◌+◌, ◌-◌, ◌^◌, inl, inr, true, false, nat_le, refl, arith}
use Rattle.std.proofs.lemmas.Bool.{leb-true, leb-false}
use Rattle.rm_base.specs.Count.{RoseBy, raised_by}

-- what rose by m and then by n rose by both
pub RoseBy-more : (old mid new m n : ℕ) → RoseBy old mid m → RoseBy mid new n → RoseBy old new (m + n)
RoseBy-more old mid new m n (inl r) (inl s) = inl (omega arith)
RoseBy-more old mid new m n (inr r) (inl s) = inr (omega arith)
RoseBy-more old mid new m n r (inr s) = inr s

-- what a count is raised by, it rose by
pub RoseBy-raised_by : (count n : ℕ) → RoseBy count (raised_by count n) n
RoseBy-raised_by count n =
    let most : ℕ = 2 ^ 64 - 1 in
    elim (nat_le most (count + n)) as (λ b. nat_le most (count + n) ≡ b → RoseBy count (raised_by count n) n) [
      | true ↦ λ e. let h = leb-true (2 ^ 64 - 1) (count + n) e in inr (grind arith)
      | false ↦ λ e. let h = leb-false (2 ^ 64 - 1) (count + n) e in inl (grind arith)
    ] refl
