-- What a reader that is fed pieces was fed.
use Rattle.std.specs.Prelude.{◌≡◌, ◌≤◌, ℕ, List, length, Bool, true}
use Rattle.rm_base.specs.Limits.{envelope_bytes}
use Rattle.soap_pieces.specs.Stage.{HasCome, IsSound, is_idle, is_out, kept_count}
use Rattle.soap_pieces.specs.declared.reader.EnvelopeReader.{EnvelopeReader}

-- how many bytes it was fed
abbrev pub total : EnvelopeReader → ℕ
total r = r.fed

-- memory was wanting
abbrev pub is_short : EnvelopeReader → Bool
is_short r = is_out r.stage

-- how many of these it keeps, the payload of an envelope counted; beside what its reader of documents, where it has
-- one, holds of tags and text that go on, and the tree
abbrev pub kept_bytes : EnvelopeReader → ℕ
kept_bytes r = kept_count r.stage

-- it has no reader of documents
abbrev pub IsIdle : EnvelopeReader → Type 0
IsIdle r = is_idle r.stage ≡ true

-- it may be fed
pub record IsReady (r : EnvelopeReader) : Type 0 where
  pub sound : IsSound r.stage r.fed
  pub most : kept_bytes r ≤ envelope_bytes

-- these are the bytes of all pieces
pub record WasFed (r : EnvelopeReader) (bytes : List ℕ) : Type 0 where
  pub len : r.fed ≡ length bytes
  pub stage : HasCome r.stage bytes
