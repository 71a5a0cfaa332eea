-- What a reader of a document's tree was fed.
use Rattle.std.specs.Prelude.{ℕ, List}
use Rattle.soap_document.specs.Machine.{run, start}
use Rattle.soap_document.specs.Seen.{Sees, IsTold, fed_len}
use Rattle.soap_document.specs.Profile.Resolving.{Stands, open_count}
use Rattle.soap_document.specs.declared.profile.document.DocumentReader.{DocumentReader}

-- how many bytes it was fed
abbrev pub total : DocumentReader → ℕ
total r = fed_len r.reader

-- it may be fed
abbrev pub IsReady : DocumentReader → Type 0
IsReady r = IsTold open_count r.reader

-- these are the bytes of all pieces
abbrev pub WasFed : DocumentReader → List ℕ → Type 0
WasFed r bytes = Sees Stands r.reader (run start bytes)
