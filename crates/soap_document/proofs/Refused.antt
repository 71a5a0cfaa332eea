-- What is refused stays refused.
use Rattle.std.proofs.Common.{◌≡◌, ℕ, List, [], ◌∷◌, true, None, refl}
use Rattle.std.proofs.Common.{ap}
use Rattle.soap_document.specs.Machine.{Mode, beginning, declaring, outside, marking, commenting, chars, less}
use Rattle.soap_document.specs.Machine.{tagging, naming, named, valuing, value_inner, slashed, ending, refused, State}
use Rattle.soap_document.specs.Machine.{step, run, is_refused, root_of}

refused_is : (m : Mode) → is_refused m ≡ true → m ≡ refused
refused_is refused e = refl
refused_is beginning e = cc
refused_is declaring e = cc
refused_is outside e = cc
refused_is marking e = cc
refused_is commenting e = cc
refused_is chars e = cc
refused_is less e = cc
refused_is tagging e = cc
refused_is naming e = cc
refused_is named e = cc
refused_is valuing e = cc
refused_is value_inner e = cc
refused_is slashed e = cc
refused_is ending e = cc

-- a byte changes nothing but the place
step_refused : (s : State) (c : ℕ) → s.mode ≡ refused → (step s c).mode ≡ refused
step_refused s c e = rw e

pub stays_refused : (s : State) (bytes : List ℕ) → is_refused s.mode ≡ true → is_refused (run s bytes).mode ≡ true
stays_refused s [] h = h
stays_refused s (c ∷ bytes) h =
    stays_refused (step s c) bytes (ap is_refused (step_refused s c (refused_is s.mode h)))

pub refused_has_none : (s : State) → is_refused s.mode ≡ true → root_of s ≡ None
refused_has_none s h = let e = refused_is s.mode h in rw e
