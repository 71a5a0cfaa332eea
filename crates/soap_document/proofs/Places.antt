-- A byte that ends a token leaves the count of bytes as it is, and each byte that is read is counted.
use Rattle.std.proofs.Common.{◌≡◌, ℕ, ◌+◌, List, Bool, true, false, cond, Option, Some, None, [], ◌∷◌, length, refl}
use Rattle.std.proofs.Common.{arith}
use Rattle.soap_document.specs.Machine.{Mode, beginning, declaring, outside, marking, commenting, chars, less}
use Rattle.soap_document.specs.Machine.{tagging, naming, named, valuing, value_inner, slashed, ending, refused, Frame}
use Rattle.soap_document.specs.Machine.{State, after_token, step, run, after_text, after_value, at_commenting, at_chars}
use Rattle.soap_document.specs.Machine.{in_less, closed}

on_cond : (t : Bool) (x y : State) → (cond t x y).at ≡ cond t x.at y.at
on_cond true x y = refl
on_cond false x y = refl

same_cond : (t : Bool) (n : ℕ) → cond t n n ≡ n
same_cond true n = refl
same_cond false n = refl

pub in_less-at : (s : State) (c : ℕ) → (in_less s c).at ≡ s.at
in_less-at s c = simp (on_cond, same_cond)

pub after_text-at : (s : State) → (after_text s).at ≡ s.at
after_text-at s = simp (on_cond, same_cond)

pub chars-at : (s : State) (c : ℕ) → (at_chars s c).at ≡ s.at
chars-at s c = simp (on_cond, same_cond)

pub after_value-at : (s : State) → (after_value s).at ≡ s.at
after_value-at s = simp (on_cond, same_cond)

commenting-at : (s : State) (o : Option (List ℕ)) → (at_commenting s o).at ≡ s.at
commenting-at s None = refl
commenting-at s (Some c) = simp (on_cond, same_cond)

closed-at : (frames : List Frame) (s : State) → (closed frames s).at ≡ s.at
closed-at [] s = refl
closed-at (frame ∷ frames) s = simp (on_cond, same_cond)

pub after_token-at : (m : Mode) (s : State) (c : ℕ) → (after_token m s c).at ≡ s.at
after_token-at beginning s c = simp (on_cond, same_cond)
after_token-at declaring s c = simp (on_cond, same_cond)
after_token-at outside s c = simp (on_cond, same_cond)
after_token-at marking s c = simp (on_cond, same_cond)
after_token-at commenting s c = commenting-at s _
after_token-at chars s c = chars-at s c
after_token-at less s c = simp (on_cond, same_cond)
after_token-at tagging s c = simp (on_cond, same_cond)
after_token-at naming s c = simp (on_cond, same_cond)
after_token-at named s c = simp (on_cond, same_cond)
after_token-at valuing s c = simp (on_cond, same_cond)
after_token-at value_inner s c = simp (on_cond, same_cond)
after_token-at slashed s c = simp (on_cond, same_cond)
after_token-at ending s c = closed-at s.below s
after_token-at refused s c = refl

pub step-at : (s : State) (c : ℕ) → (step s c).at ≡ s.at + 1
step-at s c = simp (on_cond, after_token-at, same_cond)

pub run-at : (s : State) (bytes : List ℕ) → (run s bytes).at ≡ s.at + length bytes
run-at s [] = omega arith
run-at s (c ∷ bytes) = omega (arith, run-at (step s c) bytes, step-at s c)
