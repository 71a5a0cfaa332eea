-- A clock that stands at what it showed.
use Rattle.std.proofs.Common.{◌≡◌, ℕ, Option, None, Some, refl, subst, sym}
use Rattle.rm_host.specs.HostSteps.{IsShown, StandsAt}

-- what it shows then is what it showed
pub shown-then : (shown now : Option ℕ) (moment : ℕ) → StandsAt shown now → IsShown now moment → IsShown shown moment
shown-then None now moment stands is = tt
shown-then (Some m) now moment stands is = subst (λ (s : Option ℕ). IsShown s moment) stands is

pub stands-on : (shown mid now : Option ℕ) → StandsAt shown mid → StandsAt mid now → StandsAt shown now
stands-on None mid now first after = tt
stands-on (Some m) mid now first after = subst (λ (s : Option ℕ). StandsAt s now) first after

pub stands-still : (shown : Option ℕ) → StandsAt shown shown
stands-still None = tt
stands-still (Some m) = refl

-- nothing was done with it
pub stands-alike : (shown mid now : Option ℕ) → StandsAt shown mid → now ≡ mid → StandsAt shown now
stands-alike shown mid now stands same = subst (λ (s : Option ℕ). StandsAt shown s) (sym same) stands

-- there is a moment that it shows
pub some-shown : (shown : Option ℕ) → (moment : ℕ) × IsShown shown moment
some-shown None = (0, tt)
some-shown (Some m) = (m, refl)
