-- Bytes are read in one way.
use Rattle.std.proofs.Common.{◌≡◌, ◌≢◌, ℕ, ◌≤◌, ◌<◌, ◌↔◌, List, Result, Ok, Err, Some, [], length, take, refl, sym}
use Rattle.std.proofs.Common.{ap, ◌∙◌, arith}
use Rattle.std.proofs.lemmas.List.{take_all}
use Rattle.std.specs.Str.{IsUtf8}
use Rattle.soap_document.specs.Grammar.{IsDocument}
use Rattle.soap_document.specs.Tree as written
use Rattle.soap_document.specs.Profile.Answer.{same_front, err_of}
use Rattle.soap_document.specs.Profile.Document.{Document, IsLongestText, IsTooLong, IsTextUpTo, HasNoTree}
use Rattle.soap_document.specs.Profile.Namespaces.{resolve}
use Rattle.soap_document.specs.Profile.Tree.{Element}
use Rattle.soap_document.specs.declared.profile.error.EnvelopeError.{EnvelopeError}
use Rattle.soap_document.specs.declared.profile.error.EnvelopeError.TheVariants as documents
use Rattle.rm_policy.specs.Assertion.{assertion_of}
use Rattle.rm_policy.specs.Reading.{ReadsAs, Reads, IsNoDocument}
use Rattle.rm_policy.specs.Refusal.{refusal_of}
use Rattle.rm_policy.specs.declared.assertion.Assertion.{Assertion}
use Rattle.rm_policy.specs.declared.error.PolicyError.{PolicyError}
use Rattle.rm_policy.specs.declared.error.PolicyError.TheVariants.{Memory, Envelope, Malformed, SecurityUnsupported}

-- what a function answers
abbrev Answer : Type 0
Answer = Result Assertion PolicyError

-- bytes of which a shorter front is the longest text are no text
no_text : (bytes : List ℕ) (place : ℕ) → place < length bytes → IsLongestText bytes place → ¬ (IsUtf8 bytes)
no_text bytes place inside front valid =
    let whole : take (length bytes) bytes ≡ bytes = take_all (length bytes) bytes (omega arith) in
    let over : length bytes ≤ place = front.longest (length bytes) (omega arith) (rw whole valid) in
    omega arith

module _ (one_tree : (bytes : List ℕ) (a b : written.Element) → IsDocument bytes a → IsDocument bytes b → a ≡ b) where
  same_root : (bytes : List ℕ) (a b : Element) → Document bytes a → Document bytes b → a ≡ b
  same_root bytes a b d e =
      let raws : d.raw ≡ e.raw = one_tree bytes d.raw e.raw d.is e.is in
      let roots : Some a ≡ Some b = sym d.resolved ∙ ap (resolve []) raws ∙ e.resolved in
      cc

  pub same_reading : (bytes : List ℕ) (one other : Answer) → ReadsAs bytes one → ReadsAs bytes other → one ≡ other
  same_reading bytes one other r s =
      let roots = same_root bytes r.root s.root r.document s.document in
      sym r.read ∙ ap assertion_of roots ∙ s.read

-- what is read is a document
no_cause : (bytes : List ℕ) (error : EnvelopeError) (answer : Answer) → IsNoDocument bytes error → ReadsAs bytes answer
    → ⊥
no_cause bytes documents.Memory answer why is = why
no_cause bytes (documents.TooLong len) answer why is = omega (arith, why.0, is.fits.0)
no_cause bytes (documents.NotUtf8 place) answer why is = no_text bytes place why.1 why.2 is.fits.1
no_cause bytes documents.NotProfile answer why is = why.2 is.root is.document
no_cause bytes documents.WrongVersion answer why is = why
no_cause bytes documents.NotEnvelope answer why is = why

-- the cause that the reader of documents names
pub refused : (A : Type 0) (bytes : List ℕ) (error : EnvelopeError)
    → ((len : ℕ) → (err_of A error ≡ err_of A (documents.TooLong len)) ↔ IsTooLong bytes len)
    → ((place : ℕ) → (err_of A error ≡ err_of A (documents.NotUtf8 place)) ↔ IsTextUpTo bytes place)
    → (err_of A error ≡ err_of A documents.NotProfile → HasNoTree bytes)
    → (err_of A error ≢ err_of A documents.WrongVersion) → (err_of A error ≢ err_of A documents.NotEnvelope)
    → Reads bytes (Err (refusal_of error))
refused A bytes documents.Memory long utf8 profile version envelope = tt
refused A bytes (documents.TooLong len) long utf8 profile version envelope = (long len).0 refl
refused A bytes (documents.NotUtf8 place) long utf8 profile version envelope = (utf8 place).0 refl
refused A bytes documents.NotProfile long utf8 profile version envelope = profile refl
refused A bytes documents.WrongVersion long utf8 profile version envelope = absurd (version refl)
refused A bytes documents.NotEnvelope long utf8 profile version envelope = absurd (envelope refl)

-- bytes have one cause to be no document
same_cause : (bytes : List ℕ) (one other : EnvelopeError) → IsNoDocument bytes one → IsNoDocument bytes other
    → one ≡ other
same_cause bytes documents.Memory other why is = absurd why
same_cause bytes documents.WrongVersion other why is = absurd why
same_cause bytes documents.NotEnvelope other why is = absurd why
same_cause bytes one documents.Memory why is = absurd is
same_cause bytes one documents.WrongVersion why is = absurd is
same_cause bytes one documents.NotEnvelope why is = absurd is
same_cause bytes (documents.TooLong n) (documents.TooLong m) why is = ap documents.TooLong (why.1 ∙ sym is.1)
same_cause bytes (documents.TooLong n) (documents.NotUtf8 m) why is = absurd (omega (arith, why.0, is.0))
same_cause bytes (documents.TooLong n) documents.NotProfile why is = absurd (omega (arith, why.0, is.0))
same_cause bytes (documents.NotUtf8 n) (documents.TooLong m) why is = absurd (omega (arith, why.0, is.0))
same_cause bytes (documents.NotUtf8 n) (documents.NotUtf8 m) why is =
    ap documents.NotUtf8 (same_front bytes n m (omega (arith, why.1)) (omega (arith, is.1)) why.2 is.2)
same_cause bytes (documents.NotUtf8 n) documents.NotProfile why is = absurd (no_text bytes n why.1 why.2 is.1)
same_cause bytes documents.NotProfile (documents.TooLong m) why is = absurd (omega (arith, why.0, is.0))
same_cause bytes documents.NotProfile (documents.NotUtf8 m) why is = absurd (no_text bytes m is.1 is.2 why.1)
same_cause bytes documents.NotProfile documents.NotProfile why is = refl

-- an answer but for a want of memory: it is read of a document, or is the cause that there is none
data Cause (bytes : List ℕ) : Answer → Type 0 where
  read : (answer : Answer) → ReadsAs bytes answer → Cause bytes answer
  unread : (error : EnvelopeError) → IsNoDocument bytes error → Cause bytes (Err (Envelope error))

cause_of : (bytes : List ℕ) (answer : Answer) → Reads bytes answer → answer ≢ Err Memory → Cause bytes answer
cause_of bytes (Ok a) reads some = read (Ok a) reads
cause_of bytes (Err Memory) reads some = absurd (some refl)
cause_of bytes (Err (Envelope error)) reads some = unread error reads
cause_of bytes (Err Malformed) reads some = read (Err Malformed) reads
cause_of bytes (Err (SecurityUnsupported name)) reads some = read (Err (SecurityUnsupported name)) reads

module _ (one_tree : (bytes : List ℕ) (a b : written.Element) → IsDocument bytes a → IsDocument bytes b → a ≡ b) where
  causes : (bytes : List ℕ) (one other : Answer) → Cause bytes one → Cause bytes other → one ≡ other
  causes bytes one other (read a r) (read b s) = same_reading one_tree bytes a b r s
  causes bytes one other (read a r) (unread error why) = absurd (no_cause bytes error a why r)
  causes bytes one other (unread error why) (read b s) = absurd (no_cause bytes error b why s)
  causes bytes one other (unread error why) (unread cause is) =
      ap (λ (e : EnvelopeError). Err (Envelope e)) (same_cause bytes error cause why is)

  pub same_answer : (bytes : List ℕ) (one other : Answer) → Reads bytes one → Reads bytes other → one ≢ Err Memory
      → other ≢ Err Memory → one ≡ other
  same_answer bytes one other r s some also =
      causes bytes one other (cause_of bytes one r some) (cause_of bytes other s also)
