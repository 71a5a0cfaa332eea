-- Addresses and identifiers: IRIs as WS-Addressing 1.0 and WS-ReliableMessaging 1.2 carry them in elements of text.
use Rattle.std.specs.Prelude.{◌≡◌, ℕ, ◌-◌, ◌<◌, ◌≤◌, Bool, false, not, ◌&&◌, nat_lt, nat_le, List, [], length}
use Rattle.std.specs.Prelude.{slice_index, IsTrue}
use Rattle.std.specs.List.{list_all}
use Rattle.std.specs.Str.{IsUtf8, is_utf8, chars}
use Rattle.xml_chars.specs.Classes.{is_char, is_space}
use Rattle.rm_base.specs.declared.text.TextError.{TextError}
use Rattle.rm_base.specs.declared.text.TextError.TheVariants.{Memory, Empty, TooLong, NotText}

-- UTF-8 of characters of a document: XML 1.0, section 2.2, production 2
pub record IsCharacters (bytes : List ℕ) : Type 0 where
  pub utf8 : IsUtf8 bytes
  pub each : IsTrue (list_all is_char (chars bytes))

-- neither the first byte nor the last is white space: XML 1.0, section 2.3, production 3
pub record IsTrimmed (bytes : List ℕ) : Type 0 where
  pub begins : is_space (slice_index bytes 0) ≡ false
  pub ends : is_space (slice_index bytes (length bytes - 1)) ≡ false

-- one byte to `limit` bytes, of characters, without white space at either end
pub record IsText (limit : ℕ) (bytes : List ℕ) : Type 0 where
  pub some : 0 < length bytes
  pub within : length bytes ≤ limit
  pub characters : IsCharacters bytes
  pub trimmed : IsTrimmed bytes

-- the test of IsText, for definitions that compute; that it decides it is a law
abbrev pub is_text : ℕ → List ℕ → Bool
is_text limit bytes =
    nat_lt 0 (length bytes) && nat_le (length bytes) limit && is_utf8 bytes && list_all is_char (chars bytes)
    && not (is_space (slice_index bytes 0)) && not (is_space (slice_index bytes (length bytes - 1)))

-- why bytes are no such text, the first that holds; memory is wanted for such a text alone
abbrev pub IsTextError : ℕ → List ℕ → TextError → Type 0
IsTextError limit bytes Memory = IsText limit bytes
IsTextError limit bytes Empty = bytes ≡ []
IsTextError limit bytes (TooLong len) = (limit < length bytes) × (len ≡ length bytes)
IsTextError limit bytes NotText = (0 < length bytes) × (length bytes ≤ limit) × ¬ (IsText limit bytes)
