-- The addresses of both nodes are texts.
use Rattle.std.proofs.Common.{◌≡◌, ℕ, true, List, refl, []}
use Rattle.std.specs.Prelude.{◌≢◌, ◌↔◌}
use lib.Utf8.{encode}
use Rattle.std.specs.Str.{chars, is_utf8}
use Rattle.rm_base.specs.Text.{IsText, is_text}
use Rattle.rm_protocol.specs.World.{Side, One, Two}
use Rattle.rm_replay.specs.Shows.{address_of}

-- the test of a text tells what a text is
abbrev pub TextsAreTested : Type 0
TextsAreTested = (limit : ℕ) (bytes : List ℕ) → (is_text limit bytes ≡ true) ↔ IsText limit bytes

pub address_is_text : TextsAreTested → (side : Side) → IsText 2048 (address_of side)
unfolding is_utf8 chars encode
address_is_text tested One = (tested 2048 (address_of One)).0 refl
address_is_text tested Two = (tested 2048 (address_of Two)).0 refl

-- so that memory alone may be wanting
pub not_empty : (side : Side) → address_of side ≢ []
not_empty One = λ e. absurd cc
not_empty Two = λ e. absurd cc
