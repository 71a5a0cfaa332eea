-- The addresses of the three nodes are texts.
use Rattle.std.proofs.Common.{◌≡◌, ℕ, true, List, refl}
use Rattle.std.specs.Prelude.{◌↔◌}
use lib.Utf8.{encode}
use Rattle.std.specs.Str.{chars, is_utf8}
use Rattle.rm_base.specs.Text.{IsText, is_text}
use Rattle.rm_relay.specs.Word.World.{address_of}
use Rattle.rm_relay.specs.declared.word.station.Station.{Station}
use Rattle.rm_relay.specs.declared.word.station.Station.TheVariants.{One, Two, Three}

-- the test of a text tells what a text is
abbrev pub TextsAreTested : Type 0
TextsAreTested = (limit : ℕ) (bytes : List ℕ) → (is_text limit bytes ≡ true) ↔ IsText limit bytes

pub address_is_text : TextsAreTested → (at : Station) → IsText 2048 (address_of at)
unfolding is_utf8 chars encode
address_is_text tested One = (tested 2048 (address_of One)).0 refl
address_is_text tested Two = (tested 2048 (address_of Two)).0 refl
address_is_text tested Three = (tested 2048 (address_of Three)).0 refl
