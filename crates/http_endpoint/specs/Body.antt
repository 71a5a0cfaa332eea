-- The body of a message, as it stands behind the head: so many bytes, chunks, or all that is left (RFC 9112, sections
-- 6 and 7.1).
use Rattle.std.specs.Prelude.{◌≡◌, ℕ, ◌≤◌, ◌<◌, ◌+◌, List, [], ◌++◌, length, min, take, drop, Bool, true, false}
use Rattle.std.specs.Prelude.{Option, Some, Result, Ok, Err, ⊤, if◌then◌else◌, nat_lt}
use Rattle.httparse.specs.Grammar.{MayBecomeChunkLine, MayBecomeSection}
use Rattle.rm_base.specs.Limits.{envelope_bytes}
use Rattle.http_endpoint.specs.Limits.{part_bytes, most_fields}
use Rattle.http_endpoint.specs.declared.body.Framing.{Framing}
use Rattle.http_endpoint.specs.declared.body.Framing.TheVariants.{Empty, Counted, Chunked, ToEnd}
use Rattle.http_endpoint.specs.declared.error.HttpError.{HttpError}
use Rattle.http_endpoint.specs.declared.error.HttpError.TheVariants.{Memory, ReadFault, WriteFault, BadHead, TooLong}
use Rattle.http_endpoint.specs.declared.error.HttpError.TheVariants.{Unsupported, CutShort}
use Rattle.http_endpoint.specs.Part.{ReadsUpTo, Stage, IfTold}
use Rattle.http_endpoint.specs.Parts.{ReadsSize, ReadsTrailer, ReadsBreak, IsHalfBreak}

-- so many bytes were moved from what is ahead to a body
pub record Moved (size : ℕ) (all body new : List ℕ) (after : Option (List ℕ)) : Type 0 where
  pub inside : size ≤ length all
  pub new_is : new ≡ body ++ take size all
  pub within : length body + size ≤ envelope_bytes
  pub after_is : after ≡ Some (drop size all)

-- what came of moving so many bytes to a body
abbrev pub IsMove : ℕ → List ℕ → List ℕ → Result Unit HttpError → List ℕ → Option (List ℕ) → Type 0
IsMove size all body (Ok unit) new after = Moved size all body new after
IsMove size all body (Err Memory) new after = ⊤
IsMove size all body (Err ReadFault) new after = ⊤
IsMove size all body (Err WriteFault) new after = ⊥
IsMove size all body (Err BadHead) new after = ⊥
IsMove size all body (Err (TooLong taken)) new after = (taken ≡ envelope_bytes + 1)
    × (envelope_bytes < length body + min size (length all))
IsMove size all body (Err (Unsupported status)) new after = ⊥
IsMove size all body (Err CutShort) new after =
    (length all < size) × (length body + length all ≤ envelope_bytes) × (new ≡ body ++ all)

-- a chunk: its line, its data, which goes to the body, and CR LF
pub record TakesChunk (body bytes new rest : List ℕ) : Type 0 where
  pub size : ℕ
  pub after : List ℕ
  pub line : ReadsUpTo part_bytes ReadsSize bytes size after
  pub some : 0 < size
  pub inside : size ≤ length after
  pub within : length body + size ≤ envelope_bytes
  pub new_is : new ≡ body ++ take size after
  pub end : ReadsUpTo part_bytes ReadsBreak (drop size after) tt rest

-- a trailer of so many fields ends the body, or is too long
abbrev pub ended_by : ℕ → List ℕ → Result (List ℕ) HttpError
ended_by count body = if nat_lt most_fields count then Err BadHead else Ok body

-- the body ends behind a chunk's line: by the trailer, or because its data is too long, cut short, or without CR LF
-- behind it
pub data EndsBehind (result : Result (List ℕ) HttpError) (body : List ℕ) (size : ℕ) (after : List ℕ) : Type 0 where
  last : size ≡ 0
      → Stage part_bytes ReadsTrailer MayBecomeSection after result (λ count rest. result ≡ ended_by count body)
      → EndsBehind result body size after
  too_long : 0 < size → envelope_bytes < length body + min size (length after)
      → result ≡ Err (TooLong (envelope_bytes + 1))
      → EndsBehind result body size after
  cut : length after < size → length body + length after ≤ envelope_bytes → result ≡ Err CutShort
      → EndsBehind result body size after
  unbroken : 0 < size → size ≤ length after → length body + size ≤ envelope_bytes
      → Stage part_bytes ReadsBreak IsHalfBreak (drop size after) result (λ _ _. ⊥) → EndsBehind result body size after

-- no whole chunk follows: the body ends at this line or behind it
abbrev pub EndsChunks : Result (List ℕ) HttpError → List ℕ → List ℕ → Type 0
EndsChunks result body bytes = Stage part_bytes ReadsSize MayBecomeChunkLine bytes result
    (λ size after. EndsBehind result body size after)

-- what came of one chunk: whether more may follow, and the body with it
abbrev pub IsChunk : List ℕ → List ℕ → Result Bool HttpError → List ℕ → Option (List ℕ) → Type 0
IsChunk all body (Ok true) new after = (rest : List ℕ) × (after ≡ Some rest) × TakesChunk body all new rest
IsChunk all body (Ok false) new after = (new ≡ body) × EndsChunks (Ok body) body all
IsChunk all body (Err e) new after = IfTold {A = List ℕ} (Err e) (EndsChunks (Err e) body all)

-- what chunks give, after chunks that gave the body so far
pub data IsChunked (result : Result (List ℕ) HttpError) : List ℕ → List ℕ → Type 0 where
  ends : {body bytes : List ℕ} → EndsChunks result body bytes → IsChunked result body bytes
  chunk : {body bytes : List ℕ} (new rest : List ℕ) → TakesChunk body bytes new rest → IsChunked result new rest
      → IsChunked result body bytes

-- so many bytes, or why they aren't there
abbrev pub IsCounted : ℕ → List ℕ → Result (List ℕ) HttpError → Type 0
IsCounted size all (Ok body) = (size ≤ length all) × (size ≤ envelope_bytes) × (body ≡ take size all)
IsCounted size all (Err Memory) = ⊥
IsCounted size all (Err ReadFault) = ⊥
IsCounted size all (Err WriteFault) = ⊥
IsCounted size all (Err BadHead) = ⊥
IsCounted size all (Err (TooLong taken)) = (taken ≡ envelope_bytes + 1) × (envelope_bytes < min size (length all))
IsCounted size all (Err (Unsupported status)) = ⊥
IsCounted size all (Err CutShort) = (length all < size) × (length all ≤ envelope_bytes)

-- all bytes that are left
abbrev pub all_left : List ℕ → Result (List ℕ) HttpError
all_left all = if nat_lt envelope_bytes (length all) then Err (TooLong (envelope_bytes + 1)) else Ok all

-- more bytes than a body may have were to be moved: where they ended before, those that came are the body
abbrev pub came_before : HttpError → List ℕ → Result (List ℕ) HttpError
came_before CutShort body = Ok body
came_before Memory body = Err Memory
came_before ReadFault body = Err ReadFault
came_before WriteFault body = Err WriteFault
came_before BadHead body = Err BadHead
came_before (TooLong taken) body = Err (TooLong taken)
came_before (Unsupported status) body = Err (Unsupported status)

-- what comes of a body that is told in this way from what follows it
abbrev pub IsBody : Framing → List ℕ → Result (List ℕ) HttpError → Type 0
IsBody Empty all result = result ≡ Ok []
IsBody (Counted size) all result = IsCounted size all result
IsBody Chunked all result = IsChunked result [] all
IsBody ToEnd all result = result ≡ all_left all
