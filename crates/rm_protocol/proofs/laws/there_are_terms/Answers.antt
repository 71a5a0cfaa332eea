use Rattle.std.proofs.Common.{◌≡◌, ℕ, ◌+◌, ◌<◌, ◌==◌, cond, Bool, true, false, refl, arith, inl}
use Rattle.std.specs.Prelude.{Some, None, IfSome}
use Rattle.std.proofs.lemmas.Bool.Decides.{nat_tests}
use Rattle.rm_protocol.proofs.laws.there_are_terms.Goals as goal

later : (now ms : ℕ) (x : Bool) → (ms == 0) ≡ x
    → IfSome (cond x None (Some (now + ms))) (λ (moment : ℕ). now < moment)
later now ms true e = tt
later now ms false e = grind (arith, nat_tests)

pub returns : goal.returns
returns c = record {
  size = λ batch. omega arith;
  deadline = λ now lapse. later now lapse.ms (lapse.ms == 0) refl;
  fault = λ refusal block. record { content = _; body = refl; acks = refl; sequence = refl };
  read = λ m. inl refl;
}
