-- Where a token ends: at the first byte of a kind.
use Rattle.std.proofs.Common.{◌≡◌, ℕ, Bool, List, [], ◌∷◌, ◌++◌, refl}
use Rattle.std.specs.Str.{NonePass}
use Rattle.soap_lex.specs.Cut.{Stops}

-- the bytes before the first that passes
pub same_run : (test : ℕ → Bool) (a b x y : List ℕ) → NonePass test a → NonePass test b → Stops test x → Stops test y
    → a ++ x ≡ b ++ y → (a ≡ b) × (x ≡ y)
same_run test [] [] x y na nb sx sy e = (refl, e)
same_run test [] (d ∷ b) [] y na nb sx sy e = cc
same_run test [] (d ∷ b) (c ∷ x) y na nb sx sy e = cc
same_run test (c ∷ a) [] x [] na nb sx sy e = cc
same_run test (c ∷ a) [] x (d ∷ y) na nb sx sy e = cc
same_run test (c ∷ a) (d ∷ b) x y na nb sx sy e =
    let heads : c ≡ d = cc in
    let tails : a ++ x ≡ b ++ y = cc in
    let (left, right) = same_run test a b x y na.1 nb.1 sx sy tails in
    (cc, right)
