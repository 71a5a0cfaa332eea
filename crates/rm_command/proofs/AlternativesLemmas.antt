-- What is found of policies: which causes come of bytes that were read, and which status comes of bytes.
use Rattle.std.proofs.Common.{◌≡◌, ℕ, ◌≤◌, List, length, Option, None, Some, Ok, Err, refl}
use Rattle.std.proofs.Common.{sym, ap, ◌∙◌, append-nil, arith}
use Rattle.std.specs.Prelude.{IfSome}
use Rattle.rm_base.specs.Outside.{AppendsFront}
use Rattle.soap_document.specs.declared.profile.error.EnvelopeError.TheVariants as documents
use Rattle.rm_policy.specs.Alternatives.Finds.{FindsNormal, FindsCommon}
use Rattle.rm_policy.specs.declared.alternatives.error.WspError.{WspError}
use Rattle.rm_policy.specs.declared.alternatives.error.WspError.TheVariants as errors
use Rattle.rm_policy.specs.declared.alternatives.term.Term.{Term}
use Rattle.rm_command.specs.Alternatives.{Finding, EndsFinding, HasFound, IsTextFound, MayCome}
use Rattle.rm_command.specs.Alternatives.{RefusesFinding, fault_for}
use Rattle.rm_command.specs.Edge.{Edge}
use Rattle.rm_command.specs.Filter.{IsFilterStatus}
use Rattle.rm_command.specs.Status.{status_of}
use Rattle.rm_command.specs.RunLemmas.{filter_status}
use Rattle.rm_command.specs.declared.end.End.{End}
use Rattle.rm_command.specs.declared.end.End.TheVariants.{Done, Usage, BadLine, ReadFault, WriteFault, TooLong}
use Rattle.rm_command.specs.declared.end.End.TheVariants.{Refused, Memory}
use Rattle.rm_command.specs.declared.end.Fault.{Fault}

-- bytes that are not too many are refused for another reason
pub normal_may_come : (bytes : List ℕ) (error : WspError) → length bytes ≤ 2097152 → FindsNormal bytes (Err error)
    → MayCome error
normal_may_come bytes errors.Memory short found = tt
normal_may_come bytes (errors.Envelope documents.Memory) short found = found
normal_may_come bytes (errors.Envelope (documents.TooLong len)) short found = omega (arith, short, found.0)
normal_may_come bytes (errors.Envelope (documents.NotUtf8 place)) short found = tt
normal_may_come bytes (errors.Envelope documents.NotProfile) short found = tt
normal_may_come bytes (errors.Envelope documents.WrongVersion) short found = found
normal_may_come bytes (errors.Envelope documents.NotEnvelope) short found = found
normal_may_come bytes errors.Malformed short found = tt
normal_may_come bytes (errors.SecurityUnsupported name) short found = tt
normal_may_come bytes (errors.TooLarge elements) short found = tt
normal_may_come bytes (errors.TooManyTerms count) short found = tt
normal_may_come bytes errors.TooManyAlternatives short found = tt

pub common_may_come : (bytes : List ℕ) (error : WspError) → length bytes ≤ 2097152 → FindsCommon bytes (Err error)
    → MayCome error
common_may_come bytes errors.Memory short found = tt
common_may_come bytes (errors.Envelope documents.Memory) short found = found
common_may_come bytes (errors.Envelope (documents.TooLong len)) short found = omega (arith, short, found.0)
common_may_come bytes (errors.Envelope (documents.NotUtf8 place)) short found = tt
common_may_come bytes (errors.Envelope documents.NotProfile) short found = tt
common_may_come bytes (errors.Envelope documents.WrongVersion) short found = found
common_may_come bytes (errors.Envelope documents.NotEnvelope) short found = found
common_may_come bytes errors.Malformed short found = tt
common_may_come bytes (errors.SecurityUnsupported name) short found = tt
common_may_come bytes (errors.TooLarge elements) short found = tt
common_may_come bytes (errors.TooManyTerms count) short found = tt
common_may_come bytes errors.TooManyAlternatives short found = tt

-- want of memory is told as no fault
no_memory : (error : WspError) (fault : Fault) → error ≡ errors.Memory → fault_for error ≡ Some fault → ⊥
no_memory error fault e named = let none : fault_for errors.Memory ≡ Some fault = ap fault_for (sym e) ∙ named in cc

module _ (Finds : Finding) (stands : (bytes : List ℕ) (lists : List (List Term)) (error : WspError)
    → Finds bytes (Ok lists) → Finds bytes (Err error) → error ≡ errors.Memory) where
  -- of what is refused nothing is found, and the status is 9
  refused_finding : (bytes : List ℕ) (end : End) → RefusesFinding Finds bytes end
      → (¬ (HasFound Finds bytes)) × (status_of end ≡ 9)
  refused_finding bytes Done refuses = absurd refuses
  refused_finding bytes Usage refuses = absurd refuses
  refused_finding bytes (BadLine line) refuses = absurd refuses
  refused_finding bytes ReadFault refuses = absurd refuses
  refused_finding bytes WriteFault refuses = absurd refuses
  refused_finding bytes TooLong refuses = absurd refuses
  refused_finding bytes (Refused fault) refuses = (
    λ is. no_memory refuses.error fault (stands bytes is.0 refuses.error is.1 refuses.found) refuses.named,
    refl,
  )
  refused_finding bytes Memory refuses = absurd refuses

  -- which status comes of bytes
  pub finding_status : {S K : Type 0} (end : End) (e : Edge S K) → EndsFinding Finds end e
      → IfSome e.input.told.left (λ bytes. IsFilterStatus 2097152 9 (HasFound Finds bytes) bytes (status_of end))
  finding_status end e ends =
      filter_status 2097152 9 (Unit {0}) (IsTextFound Finds) (λ _. ⊥) (RefusesFinding Finds) (HasFound Finds)
      (λ bytes text prints. (prints.lists, prints.found)) refused_finding e end ends

-- nothing of a text was written
pub begun_not : (held : Option (List ℕ)) (text : List ℕ) → AppendsFront held held text
begun_not None text = (0, omega arith, tt)
begun_not (Some bytes) text = (0, omega arith, sym (append-nil bytes))
