use Rattle.std.proofs.Common.{◌≡◌, ℕ, List, [], ◌∷◌, refl, arith, ◌∙◌}
use Rattle.std.specs.Prelude.{nat_eq}
use Rattle.std.specs.List.{list_any}
use Rattle.std.proofs.lemmas.Bool.Decides.{nat_tests}
use Rattle.rm_base.specs.NumberSet.{has_number}
use Rattle.rm_base.proofs.mem_streams.is_among.Goals as goal

-- std's search of a slice finds a number exactly where it is one of them
list_any-has_number : (n : ℕ) (xs : List ℕ) → list_any (λ x. nat_eq x n) xs ≡ has_number xs n
list_any-has_number n [] = refl
list_any-has_number n (x ∷ xs) =
    let rest : list_any (λ x. nat_eq x n) xs ≡ has_number xs n = list_any-has_number n xs in
    grind (arith, nat_tests, rest)

pub returns : goal.returns
returns c = c.contains.ensures.value ∙ list_any-has_number c.args.number c.args.numbers.now
