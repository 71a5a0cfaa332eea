-- A span that is kept with capped numbers has the same lapse.
use Rattle.std.proofs.Common.{◌≡◌, ℕ, ◌≤◌, Bool, true, false, nat_le, refl, ◌∙◌, arith}
use Rattle.std.proofs.lemmas.Bool.Decides.{nat_tests}
use Rattle.rm_message.specs.Elements.Capped.{capped, capped_span}
use Rattle.rm_message.specs.Elements.Duration.{lapse_of}
use Rattle.rm_message.specs.declared.elements.duration.Span.{Span}

-- a limit below the cap is met by both or by neither
same_test : (n limit : ℕ) → limit ≤ 1000000000000000 → nat_le (capped n) limit ≡ nat_le n limit
same_test n limit low = grind (arith, nat_tests)

same_number : (n limit : ℕ) → limit ≤ 1000000000000000 → nat_le n limit ≡ true → capped n ≡ n
same_number n limit low is = let within : n ≤ limit = grind (arith, nat_tests) in omega (arith, within)

pub same_lapse : (s : Span) → lapse_of (capped_span s) ≡ lapse_of s
same_lapse s = by_tests (nat_le s.months 100000) (nat_le s.ms 1000000000000000) refl refl
  where
    by_tests : (p q : Bool) → nat_le s.months 100000 ≡ p → nat_le s.ms 1000000000000000 ≡ q
        → lapse_of (capped_span s) ≡ lapse_of s
    by_tests true true e f =
        let months : capped s.months ≡ s.months = same_number s.months 100000 (omega arith) e in
        let ms : capped s.ms ≡ s.ms = same_number s.ms 1000000000000000 (omega arith) f in
        rw (months, ms) refl
    by_tests false q e f =
        let test : nat_le (capped s.months) 100000 ≡ false = same_test s.months 100000 (omega arith) ∙ e in
        rw (test, e) refl
    by_tests true false e f =
        let months : capped s.months ≡ s.months = same_number s.months 100000 (omega arith) e in
        let test : nat_le (capped s.ms) 1000000000000000 ≡ false = same_test s.ms 1000000000000000 (omega arith) ∙ f in
        rw (months, e, test, f) refl
