-- What a reader of envelopes answers that was fed an input.
use Rattle.std.proofs.Common.{ℕ, List, Result}
use Rattle.rm_base.specs.Outside.{Stream}
use Rattle.soap_envelope.specs.declared.envelope.Envelope.{Envelope}
use Rattle.soap_document.specs.declared.profile.error.EnvelopeError.{EnvelopeError}
use Rattle.soap_pieces.specs.Answer.{Reads}
use Rattle.soap_pieces.specs.Source.{HasTakenAll}
use Rattle.soap_pieces.specs.declared.reader.EnvelopeReader.{EnvelopeReader}
use Rattle.message_reader.specs.Reading.{IsReading}
use Rattle.rm_command.specs.Edge.{WasRead}

-- it is what a reader may answer of these bytes
pub reading_of : (bytes : List ℕ) (answer : Result Envelope EnvelopeError) → Reads bytes answer
    → IsReading bytes answer
reading_of bytes answer told = record {
  ok = told.ok;
  fits = told.fits;
  too_long = λ len is. (told.too_long len).0 is;
  not_utf8 = λ place is. (told.not_utf8 place).0 is;
  not_profile = told.not_profile;
  wrong_version = told.wrong_version;
  not_envelope = told.not_envelope;
}

-- and these were read
pub read_all : (old new : Stream) (r : EnvelopeReader) (all : HasTakenAll old new r) → WasRead 2097152 old new all.bytes
read_all old new r all = record { whole = all.whole; short = all.fits; at_end = all.at_end }
