-- What was taken from a source, where it is at its end or had too much.
use Rattle.std.proofs.Common.{◌≡◌, ℕ, ◌+◌, ◌<◌, ◌≤◌, List, Option, Some, None, length, refl, ap, arith}
use Rattle.std.proofs.Common.{◌∙◌, length-append}
use Rattle.std.proofs.KnownBytes.{Consumes-whole}
use Rattle.std.specs.Prelude.{IfSome}
use Rattle.std.specs.Io.KnownBytes.{Consumes, IsAtEnd}
use Rattle.rm_base.specs.Limits.{envelope_bytes}
use Rattle.rm_base.specs.Outside.{Stream}
use Rattle.soap_pieces.specs.Fed.{total}
use Rattle.soap_pieces.specs.Source.{HasTaken, HasTakenAll}
use Rattle.soap_pieces.specs.declared.reader.EnvelopeReader.{EnvelopeReader}

-- what was taken from a source that is at its end is all that it had
pub all_taken : (old new : Stream) (r : EnvelopeReader) → HasTaken old new r → IsAtEnd new.left
    → total r ≤ envelope_bytes → HasTakenAll old new r
all_taken old new r h end fits = record {
  bytes = h.bytes;
  fed = h.fed;
  whole = Consumes-whole old.left new.left h.bytes (λ all. h.bytes ≡ all) h.taken end refl;
  fits = omega (arith, h.fed.len, fits);
  at_end = end;
}

longer : (old new : Option (List ℕ)) (bytes : List ℕ) → Consumes old new bytes → envelope_bytes < length bytes
    → IfSome old (λ left. envelope_bytes < length left)
longer None new bytes taken more = tt
longer (Some left) None bytes taken more = absurd taken
longer (Some left) (Some rest) bytes taken more =
    let size : length left ≡ length bytes + length rest = ap length taken ∙ length-append bytes rest in
    omega (arith, size, more)

-- of which more was taken than an envelope may have, that had more
pub more_taken : (old new : Stream) (r : EnvelopeReader) → HasTaken old new r → envelope_bytes < total r
    → IfSome old.left (λ left. envelope_bytes < length left)
more_taken old new r h more = longer old.left new.left h.bytes h.taken (omega (arith, h.fed.len, more))
