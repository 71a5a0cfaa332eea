-- What a run of `wsrm normal` and of `wsrm intersect` is, by how it ended, and what they print.
use Rattle.std.specs.Prelude.{◌≡◌, ℕ, List, Option, None, Some, Result, Ok, Err}
use Rattle.rm_base.specs.Limits as limits
use Rattle.rm_script.specs.Report.Exits as exits
use Rattle.soap_document.specs.declared.profile.error.EnvelopeError.TheVariants as documents
use Rattle.rm_policy.specs.Alternatives.Finds.{FindsNormal, FindsCommon}
use Rattle.rm_policy.specs.Alternatives.Texts.{normal_text}
use Rattle.rm_policy.specs.declared.alternatives.error.WspError.{WspError}
use Rattle.rm_policy.specs.declared.alternatives.error.WspError.TheVariants as errors
use Rattle.rm_policy.specs.declared.alternatives.term.Term.{Term}
use Rattle.rm_command.specs.declared.end.End.{End}
use Rattle.rm_command.specs.declared.end.End.TheVariants.{Refused}
use Rattle.rm_command.specs.declared.end.Fault.{Fault}
use Rattle.rm_command.specs.declared.end.Fault.TheVariants.{NotUtf8, NotProfile, Malformed, SecurityUnsupported}
use Rattle.rm_command.specs.declared.end.Fault.TheVariants.{TooLarge, TooManyTerms, TooManyAlternatives}
use Rattle.rm_command.specs.Edge.{Edge}
use Rattle.rm_command.specs.Filter.{EndsFilter, IsFilterStatus}

-- which alternatives are found of bytes, or which cause there is that none are
abbrev pub Finding : Type 1
Finding = List ℕ → Result (List (List Term)) WspError → Type 0

-- the fault that a cause is told as, but for want of memory, for bytes that are too many, and for what is said of
-- envelopes alone
abbrev pub fault_for : WspError → Option Fault
fault_for errors.Memory = None
fault_for (errors.Envelope documents.Memory) = None
fault_for (errors.Envelope (documents.TooLong len)) = None
fault_for (errors.Envelope (documents.NotUtf8 place)) = Some NotUtf8
fault_for (errors.Envelope documents.NotProfile) = Some NotProfile
fault_for (errors.Envelope documents.WrongVersion) = None
fault_for (errors.Envelope documents.NotEnvelope) = None
fault_for errors.Malformed = Some Malformed
fault_for (errors.SecurityUnsupported name) = Some SecurityUnsupported
fault_for (errors.TooLarge elements) = Some TooLarge
fault_for (errors.TooManyTerms count) = Some TooManyTerms
fault_for errors.TooManyAlternatives = Some TooManyAlternatives

-- a cause that there may be of bytes that are not too many, or want of memory
abbrev pub MayCome : WspError → Type 0
MayCome (errors.Envelope documents.Memory) = ⊥
MayCome (errors.Envelope (documents.TooLong len)) = ⊥
MayCome (errors.Envelope documents.WrongVersion) = ⊥
MayCome (errors.Envelope documents.NotEnvelope) = ⊥
MayCome _ = Unit {0}

-- of the bytes these alternatives are found, and this is their text
pub record IsTextFound (Finds : Finding) (bytes text : List ℕ) : Type 0 where
  pub lists : List (List Term)
  pub found : Finds bytes (Ok lists)
  pub printed : text ≡ normal_text lists

-- why none are found
pub record HasFaultFound (Finds : Finding) (bytes : List ℕ) (fault : Fault) : Type 0 where
  pub error : WspError
  pub found : Finds bytes (Err error)
  pub named : fault_for error ≡ Some fault

-- why bytes are refused
abbrev pub RefusesFinding : Finding → List ℕ → End → Type 0
RefusesFinding Finds bytes (Refused fault) = HasFaultFound Finds bytes fault
RefusesFinding Finds bytes _ = ⊥

-- what a command did that prints what is found, by how it ended
abbrev pub EndsFinding : {S K : Type 0} → Finding → End → Edge S K → Type 0
EndsFinding Finds end e =
    EndsFilter limits.envelope_bytes (Unit {0}) (IsTextFound Finds) (λ _. ⊥) (RefusesFinding Finds) end e

-- what normal did: it prints the normal form of a policy
abbrev pub EndsNormal : {S K : Type 0} → End → Edge S K → Type 0
EndsNormal end e = EndsFinding FindsNormal end e

-- what intersect did: it prints what a pair of policies has in common
abbrev pub EndsIntersect : {S K : Type 0} → End → Edge S K → Type 0
EndsIntersect end e = EndsFinding FindsCommon end e

-- alternatives are found of the bytes
abbrev pub HasFound : Finding → List ℕ → Type 0
HasFound Finds bytes = (lists : List (List Term)) × Finds bytes (Ok lists)

-- of a policy that has a normal form comes 0, of other bytes 9, of more bytes 8, unless the input, the output or the
-- machine fails
abbrev pub IsNormalStatus : List ℕ → ℕ → Type 0
IsNormalStatus bytes status =
    IsFilterStatus limits.envelope_bytes exits.refused (HasFound FindsNormal bytes) bytes status

-- so it is with a pair of policies
abbrev pub IsIntersectStatus : List ℕ → ℕ → Type 0
IsIntersectStatus bytes status =
    IsFilterStatus limits.envelope_bytes exits.refused (HasFound FindsCommon bytes) bytes status
