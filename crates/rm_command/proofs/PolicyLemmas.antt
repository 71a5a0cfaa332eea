-- What of assertions excludes what, and which status comes of their bytes.
use Rattle.std.proofs.Common.{◌≡◌, ℕ, List, Result, Ok, Err, refl}
use Rattle.std.specs.Prelude.{IfSome}
use Rattle.rm_policy.specs.Reading.{ReadsAs}
use Rattle.rm_policy.specs.declared.assertion.Assertion.{Assertion}
use Rattle.rm_policy.specs.declared.error.PolicyError.{PolicyError}
use Rattle.rm_policy.specs.declared.error.PolicyError.TheVariants as errors
use Rattle.rm_command.specs.Edge.{Edge}
use Rattle.rm_command.specs.Policy.{HasPolicyFault, IsPolicyTextOf, RefusesPolicy, IsAnAssertion, IsPolicyStatus}
use Rattle.rm_command.specs.Run.{RunsPolicy}
use Rattle.rm_command.specs.Status.{status_of}
use Rattle.rm_command.specs.RunLemmas.{filter_status}
use Rattle.rm_command.specs.declared.end.End.{End}
use Rattle.rm_command.specs.declared.end.End.TheVariants.{Done, Usage, BadLine, ReadFault, WriteFault, TooLong}
use Rattle.rm_command.specs.declared.end.End.TheVariants.{Refused, Memory}
use Rattle.rm_command.specs.declared.end.Fault.{Fault}
use Rattle.rm_command.specs.declared.end.Fault.TheVariants.{NotUtf8, NotProfile, WrongVersion, NotEnvelope}
use Rattle.rm_command.specs.declared.end.Fault.TheVariants.{NotUnderstood, Cardinality, HeaderMissing, BadHeader}
use Rattle.rm_command.specs.declared.end.Fault.TheVariants.{Malformed, Rollover, SecurityUnsupported}
use Rattle.rm_command.specs.declared.end.Fault.TheVariants.{TooLarge, TooManyTerms, TooManyAlternatives}

-- a value is no error
differ : (a : Assertion) (error : PolicyError) → Ok a ≡ Err error → ⊥
differ a error e = cc

module _ (reading : (bytes : List ℕ) (one other : Result Assertion PolicyError) → ReadsAs bytes one
    → ReadsAs bytes other → one ≡ other) where
  -- an assertion has no fault
  no_fault : (bytes : List ℕ) (fault : Fault) → HasPolicyFault bytes fault → (a : Assertion) → ReadsAs bytes (Ok a)
      → ⊥
  no_fault bytes NotUtf8 fault a is = fault is.fits.1
  no_fault bytes NotProfile fault a is = fault.1 is.root is.document
  no_fault bytes WrongVersion fault a is = fault
  no_fault bytes NotEnvelope fault a is = fault
  no_fault bytes NotUnderstood fault a is = fault
  no_fault bytes Cardinality fault a is = fault
  no_fault bytes HeaderMissing fault a is = fault
  no_fault bytes BadHeader fault a is = fault
  no_fault bytes Rollover fault a is = fault
  no_fault bytes TooLarge fault a is = fault
  no_fault bytes TooManyTerms fault a is = fault
  no_fault bytes TooManyAlternatives fault a is = fault
  no_fault bytes Malformed fault a is =
      differ a errors.Malformed (reading bytes (Ok a) (Err errors.Malformed) is fault)
  no_fault bytes SecurityUnsupported fault a is = differ a (errors.SecurityUnsupported fault.0)
      (reading bytes (Ok a) (Err (errors.SecurityUnsupported fault.0)) is fault.1)

  -- what policy refuses is no assertion, and has status 9
  refused_policy : (bytes : List ℕ) (end : End) → RefusesPolicy bytes end
      → (¬ (IsAnAssertion bytes)) × (status_of end ≡ 9)
  refused_policy bytes Done refuses = absurd refuses
  refused_policy bytes Usage refuses = absurd refuses
  refused_policy bytes (BadLine line) refuses = absurd refuses
  refused_policy bytes ReadFault refuses = absurd refuses
  refused_policy bytes WriteFault refuses = absurd refuses
  refused_policy bytes TooLong refuses = absurd refuses
  refused_policy bytes (Refused fault) refuses = (λ is. no_fault bytes fault refuses is.0 is.1, refl)
  refused_policy bytes Memory refuses = absurd refuses

  -- which status comes of the bytes of an assertion
  pub policy_status : {S K : Type 0} {e : Edge S K} {end : End} → RunsPolicy end e
      → IfSome e.input.told.left (λ bytes. IsPolicyStatus bytes (status_of end))
  policy_status {S} {K} {e} {end} ran =
      filter_status 2097152 9 (Unit {0}) IsPolicyTextOf (λ _. ⊥) RefusesPolicy IsAnAssertion
      (λ bytes text prints. (prints.assertion, prints.is)) refused_policy e end ran.ends
