-- What the reader of documents answers.
use Rattle.std.proofs.Common.{◌≡◌, ◌↔◌, ℕ, ◌≤◌, List, Result, Err, length, ap, arith}
use Rattle.soap_document.specs.Profile.Document.{IsLongestText}

-- of the fronts that are UTF-8 one is the longest
pub same_front : (bytes : List ℕ) (v w : ℕ) → v ≤ length bytes → w ≤ length bytes → IsLongestText bytes v
    → IsLongestText bytes w → v ≡ w
same_front bytes v w p q g h = omega (arith, g.longest w q h.valid, h.longest v p g.valid)

-- an error, where something else may be answered
abbrev pub err_of : (A : Type 0) {E : Type 0} → E → Result A E
err_of A e = Err e

-- the same error, whatever is answered otherwise
pub same_error : (A B : Type 0) {E : Type 0} (e x : E) → err_of A e ≡ err_of A x → err_of B e ≡ err_of B x
same_error A B e x h = let same : e ≡ x = cc in ap (err_of B) same

-- and what it means is the same
pub errors_alike : (A B : Type 0) {E P : Type 0} (e x : E) → ((err_of A e ≡ err_of A x) ↔ P)
    → ((err_of B e ≡ err_of B x) ↔ P)
errors_alike A B e x h = (λ k. h.0 (same_error B A e x k), λ p. same_error A B e x (h.1 p))
