-- How far a reader has come with what it was fed.
use Rattle.std.specs.Prelude.{◌≡◌, ◌≢◌, ◌+◌, ◌++◌, ◌<◌, ◌≤◌, ℕ, List, [], length, Bool, true, false, Option, Some}
use Rattle.std.specs.Prelude.{None, Result, Ok, Err, ⊤}
use Rattle.rm_base.specs.Limits.{envelope_bytes}
use Rattle.soap_document.specs.Grammar.{IsDocument}
use Rattle.soap_document.specs.Machine.{State, start, run, is_refused, root_of}
use Rattle.soap_document.specs.Seen.{Sees, IsTold, fed_len, is_ended}
use Rattle.soap_document.specs.Tree as written
use Rattle.soap_envelope.specs.declared.envelope.Envelope.{Envelope}
use Rattle.soap_document.specs.Profile.Fed.{IsReady, WasFed, total}
use Rattle.soap_document.specs.declared.profile.document.DocumentReader.{DocumentReader}
use Rattle.soap_document.specs.declared.profile.error.EnvelopeError.{EnvelopeError}
use Rattle.soap_document.specs.declared.profile.error.EnvelopeError.TheVariants as Error
use Rattle.soap_pieces.specs.Answer.{Reads}
use Rattle.soap_pieces.specs.Behind.{IsAlike}
use Rattle.soap_pieces.specs.Depth.{IsDepth, open_count}
use Rattle.soap_pieces.specs.Front.{IsFront, front_len, tail_len}
use Rattle.soap_pieces.specs.declared.ended.Ended.{Ended}
use Rattle.soap_pieces.specs.declared.front.Front.{Front}
use Rattle.soap_pieces.specs.declared.stage.Stage.{Stage}
use Rattle.soap_pieces.specs.declared.stage.Stage.TheVariants.{Before, Root, Behind, Refused, TooLong, Short}

-- whether what is answered of bytes says that they are a document; None where it leaves that open
abbrev pub said_root : Result Envelope EnvelopeError → Option Bool
said_root (Ok envelope) = Some true
said_root (Err Error.WrongVersion) = Some true
said_root (Err Error.NotEnvelope) = Some true
said_root (Err Error.NotProfile) = None
said_root (Err (Error.NotUtf8 place)) = Some false
said_root (Err (Error.TooLong len)) = Some false
said_root (Err Error.Memory) = Some false

-- the bytes are a document, by what is answered of them or by the machine
pub data HasRoot (answer : Result Envelope EnvelopeError) (bytes : List ℕ) : Type 0 where
  told : said_root answer ≡ Some true → HasRoot answer bytes
  read : said_root answer ≡ None → root_of (run start bytes) ≢ None → HasRoot answer bytes

-- an answer is known of a document
pub record IsKnown (answer : Result Envelope EnvelopeError) (bytes : List ℕ) : Type 0 where
  pub some : root_of (run start bytes) ≢ None
  pub known : answer ≢ Err Error.Memory

-- no root has ended in the bytes, which may begin a document; they are kept
pub record IsInRoot (kept bytes : List ℕ) : Type 0 where
  pub same : kept ≡ bytes
  pub unended : is_ended (run start bytes).top (run start bytes).below ≡ false
  pub going : is_refused (run start bytes).mode ≡ false
  pub fits : length bytes ≤ envelope_bytes

-- a document begins the bytes, which may go on as one, and what is answered of it is known; what follows is read as it
-- would be behind another root
pub record HasEnded (e : Ended) (bytes : List ℕ) : Type 0 where
  pub front : List ℕ
  pub more : List ℕ
  pub is : bytes ≡ front ++ more
  pub root : written.Element
  pub document : IsDocument front root
  pub answer : Reads front e.answer
  pub known : e.answer ≢ Err Error.Memory
  pub tail : State
  pub sees : Sees IsDepth e.tail tail
  pub alike : IsAlike tail (run start bytes)
  pub going : is_refused (run start bytes).mode ≡ false
  pub utf8 : IsFront e.front bytes
  pub fits : length bytes ≤ envelope_bytes

-- no document begins with the bytes, and how much of them is UTF-8 is known
pub record IsRefused (f : Front) (bytes : List ℕ) : Type 0 where
  pub refuses : is_refused (run start bytes).mode ≡ true
  pub utf8 : IsFront f bytes
  pub fits : length bytes ≤ envelope_bytes

-- how far it has come with these bytes
abbrev pub HasCome : Stage → List ℕ → Type 0
HasCome Before bytes = bytes ≡ []
HasCome (Root reader kept) bytes = IsInRoot kept bytes
HasCome (Behind ended) bytes = HasEnded ended bytes
HasCome (Refused front) bytes = IsRefused front bytes
HasCome TooLong bytes = envelope_bytes < length bytes
HasCome Short bytes = ⊤

-- memory was wanting
abbrev pub is_out : Stage → Bool
is_out Before = false
is_out (Root reader kept) = false
is_out (Behind ended) = false
is_out (Refused front) = false
is_out TooLong = false
is_out Short = true

-- it reads no document
abbrev pub is_idle : Stage → Bool
is_idle Before = false
is_idle (Root reader kept) = false
is_idle (Behind ended) = false
is_idle (Refused front) = true
is_idle TooLong = true
is_idle Short = true

-- how many bytes the payload of an envelope has
abbrev pub payload_len : Result Envelope EnvelopeError → ℕ
payload_len (Ok envelope) = length envelope.payload.bytes
payload_len (Err error) = 0

-- how many bytes are kept
abbrev pub kept_count : Stage → ℕ
kept_count Before = 0
kept_count (Root reader kept) = length kept
kept_count (Behind ended) = payload_len ended.answer + tail_len ended.front.tail
kept_count (Refused front) = tail_len front.tail
kept_count TooLong = 0
kept_count Short = 0

-- what is known of it where it was fed so many bytes, whatever these are
pub record IsSoundRoot (reader : DocumentReader) (kept : List ℕ) (n : ℕ) : Type 0 where
  pub ready : IsReady reader
  pub fed : WasFed reader kept
  pub place : total reader ≤ n
  pub len : length kept ≤ n

-- the same behind a root; what follows is read behind four bytes of another
pub record IsSoundBehind (e : Ended) (n : ℕ) : Type 0 where
  pub told : IsTold open_count e.tail
  pub place : fed_len e.tail ≤ n + 4
  pub len : front_len e.front ≤ n
  pub small : tail_len e.front.tail ≤ 3
  pub payload : payload_len e.answer ≤ e.front.valid

-- of any
abbrev pub IsSound : Stage → ℕ → Type 0
IsSound Before n = ⊤
IsSound (Root reader kept) n = IsSoundRoot reader kept n
IsSound (Behind ended) n = IsSoundBehind ended n
IsSound (Refused front) n = (front_len front ≤ n) × (tail_len front.tail ≤ 3)
IsSound TooLong n = ⊤
IsSound Short n = ⊤
