-- What comes of elements and of bytes.
use Rattle.std.specs.Prelude.{◌≡◌, ℕ, List, Result, Ok, Err}
use Rattle.soap_document.specs.Profile.Document.{Document, IsReadable, IsTooLong, IsTextUpTo, HasNoTree}
use Rattle.soap_document.specs.Profile.Tree.{Element}
use Rattle.soap_document.specs.declared.profile.error.EnvelopeError.{EnvelopeError}
use Rattle.soap_document.specs.declared.profile.error.EnvelopeError.TheVariants as documents
use Rattle.rm_policy.specs.Assertion.{assertion_of}
use Rattle.rm_policy.specs.declared.assertion.Assertion.{Assertion}
use Rattle.rm_policy.specs.declared.error.PolicyError.{PolicyError}
use Rattle.rm_policy.specs.declared.error.PolicyError.TheVariants.{Memory, Envelope, Malformed, SecurityUnsupported}

-- what a function answers is this, unless memory ran out
abbrev pub Answers : Result Assertion PolicyError → Result Assertion PolicyError → Type 0
Answers (Ok a) read = read ≡ Ok a
Answers (Err Memory) read = Unit {0}
Answers (Err (Envelope error)) read = ⊥
Answers (Err Malformed) read = read ≡ Err Malformed
Answers (Err (SecurityUnsupported name)) read = read ≡ Err (SecurityUnsupported name)

-- the bytes are a document, and this is read of its root
pub record ReadsAs (bytes : List ℕ) (answer : Result Assertion PolicyError) : Type 0 where
  pub root : Element
  pub document : Document bytes root
  pub fits : IsReadable bytes
  pub read : assertion_of root ≡ answer

-- the first cause that the bytes are no document
abbrev pub IsNoDocument : List ℕ → EnvelopeError → Type 0
IsNoDocument bytes documents.Memory = ⊥
IsNoDocument bytes (documents.TooLong len) = IsTooLong bytes len
IsNoDocument bytes (documents.NotUtf8 place) = IsTextUpTo bytes place
IsNoDocument bytes documents.NotProfile = HasNoTree bytes
IsNoDocument bytes documents.WrongVersion = ⊥
IsNoDocument bytes documents.NotEnvelope = ⊥

-- when each answer comes
abbrev pub Reads : List ℕ → Result Assertion PolicyError → Type 0
Reads bytes (Ok a) = ReadsAs bytes (Ok a)
Reads bytes (Err Memory) = Unit {0}
Reads bytes (Err (Envelope error)) = IsNoDocument bytes error
Reads bytes (Err Malformed) = ReadsAs bytes (Err Malformed)
Reads bytes (Err (SecurityUnsupported name)) = ReadsAs bytes (Err (SecurityUnsupported name))
