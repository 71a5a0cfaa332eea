-- What a reader was fed from a source.
use Rattle.std.specs.Prelude.{◌≡◌, ◌≤◌, ℕ, List, length, IfSome}
use Rattle.std.specs.Io.KnownBytes.{Consumes, IsAtEnd}
use Rattle.rm_base.specs.Limits.{envelope_bytes}
use Rattle.rm_base.specs.Outside.{Stream}
use Rattle.soap_pieces.specs.Fed.{WasFed}
use Rattle.soap_pieces.specs.declared.reader.EnvelopeReader.{EnvelopeReader}

-- it was fed what the source lost between these two moments, and nothing else
pub record HasTaken (old new : Stream) (r : EnvelopeReader) : Type 0 where
  pub bytes : List ℕ
  pub fed : WasFed r bytes
  pub taken : Consumes old.left new.left bytes

-- it was fed the source to its end: all that was left, where that is known, and no more than an envelope may have
pub record HasTakenAll (old new : Stream) (r : EnvelopeReader) : Type 0 where
  pub bytes : List ℕ
  pub fed : WasFed r bytes
  pub whole : IfSome old.left (λ all. bytes ≡ all)
  pub fits : length bytes ≤ envelope_bytes
  pub at_end : IsAtEnd new.left
