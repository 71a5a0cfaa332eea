-- With which bytes no document begins, and no envelope: XML 1.0 within the profile, and SOAP 1.2 Part 1, section 5.
use Rattle.std.specs.Prelude.{◌≡◌, ◌++◌, ◌<◌, ℕ, List, length, true}
use Rattle.rm_base.specs.Limits.{envelope_bytes}
use Rattle.soap_document.specs.Grammar.{IsDocument}
use Rattle.soap_document.specs.Machine.{start, run, is_refused}
use Rattle.soap_document.specs.Tree as written
use Rattle.soap_envelope.specs.Envelope.{Envelope, IsEnvelope}
use Rattle.soap_envelope.specs.Soap.{soap_space}

-- no document begins with them: they are too many for one, or the machine that reads documents refuses them
pub data BeginsNone (bytes : List ℕ) : Type 0 where
  too_long : envelope_bytes < length bytes → BeginsNone bytes
  refused : is_refused (run start bytes).mode ≡ true → BeginsNone bytes

-- a document that is no envelope begins them: no other root may follow, but white space and comments alone
pub record BeginsOther (bytes : List ℕ) : Type 0 where
  pub front : List ℕ
  pub more : List ℕ
  pub is : bytes ≡ front ++ more
  pub root : written.Element
  pub document : IsDocument front root
  pub other : (envelope : Envelope) → ¬ (IsEnvelope soap_space front envelope)

-- no envelope begins with them
pub data IsHopeless (bytes : List ℕ) : Type 0 where
  none : BeginsNone bytes → IsHopeless bytes
  other : BeginsOther bytes → IsHopeless bytes
