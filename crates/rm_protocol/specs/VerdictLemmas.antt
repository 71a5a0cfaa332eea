-- A lemma on verdicts, which the crates above use: where no test is the first that holds, none holds.
use Rattle.std.proofs.Common.{◌≡◌, Bool, true, false, cond, List, [], ◌∷◌, Some, None, refl}
use Rattle.std.specs.List.{AllByRecursion}
use Rattle.rm_message.specs.declared.refusal.FaultKind.{FaultKind}
use Rattle.rm_protocol.specs.Verdict.{first_held}

pub none-held : (xs : List (Bool × FaultKind)) → first_held xs ≡ None
    → AllByRecursion (λ (x : Bool × FaultKind). x.0 ≡ false) xs
none-held [] e = tt
none-held (x ∷ xs) e =
    elim x.0 as (λ b. cond b (Some x.1) (first_held xs) ≡ None
    → (b ≡ false) × AllByRecursion (λ (y : Bool × FaultKind). y.0 ≡ false) xs) [
      | true ↦ λ k. absurd (cc)
      | false ↦ λ k. (refl, none-held xs k)
    ] e
