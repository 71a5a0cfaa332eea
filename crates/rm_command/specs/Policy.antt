-- What a run of `wsrm policy` is, by how it ended, and what it prints.
use Rattle.std.specs.Prelude.{◌≡◌, ℕ, Bool, true, false, List, ◌++◌, Ok, Err, codes}
use Rattle.std.specs.Str.{IsUtf8}
use Rattle.rm_base.specs.Limits as limits
use Rattle.rm_script.specs.Report.Exits as exits
use Rattle.soap_document.specs.Profile.Document.{Document}
use Rattle.soap_document.specs.Profile.Tree.{Element}
use Rattle.rm_policy.specs.Assertion.{is_granted}
use Rattle.rm_policy.specs.Reading.{ReadsAs}
use Rattle.rm_policy.specs.Texts.{assurance_word}
use Rattle.rm_policy.specs.declared.assertion.Assertion.{Assertion}
use Rattle.rm_policy.specs.declared.error.PolicyError.TheVariants as errors
use Rattle.rm_command.specs.declared.end.End.{End}
use Rattle.rm_command.specs.declared.end.End.TheVariants.{Refused}
use Rattle.rm_command.specs.declared.end.Fault.{Fault}
use Rattle.rm_command.specs.declared.end.Fault.TheVariants.{NotUtf8, NotProfile}
use Rattle.rm_command.specs.declared.end.Fault.TheVariants.{Malformed, SecurityUnsupported}
use Rattle.rm_command.specs.Edge.{Edge}
use Rattle.rm_command.specs.Filter.{EndsFilter, IsFilterStatus}

-- yes or no
abbrev pub answer_word : Bool → List ℕ
answer_word true = codes "yes"
answer_word false = codes "no"

-- assurance WORD, and four lines of yes or no
abbrev pub policy_text : Assertion → List ℕ
policy_text a =
    codes "assurance " ++ assurance_word a.assurance ++ codes "\nin-order " ++ answer_word a.in_order
    ++ codes "\noptional " ++ answer_word a.optional ++ codes "\ngranted " ++ answer_word (is_granted a false)
    ++ codes "\ngranted-loose " ++ answer_word (is_granted a true) ++ codes "\n"

-- the bytes are an assertion, and this is what is printed of it
pub record IsPolicyTextOf (bytes text : List ℕ) : Type 0 where
  pub assertion : Assertion
  pub is : ReadsAs bytes (Ok assertion)
  pub printed : text ≡ policy_text assertion

-- why bytes are no assertion, the first that holds
abbrev pub HasPolicyFault : List ℕ → Fault → Type 0
HasPolicyFault bytes NotUtf8 = ¬ (IsUtf8 bytes)
HasPolicyFault bytes NotProfile = IsUtf8 bytes × ((tree : Element) → ¬ (Document bytes tree))
HasPolicyFault bytes Malformed = ReadsAs bytes (Err errors.Malformed)
HasPolicyFault bytes SecurityUnsupported = (name : List ℕ) × ReadsAs bytes (Err (errors.SecurityUnsupported name))
HasPolicyFault bytes _ = ⊥

-- why policy refuses bytes
abbrev pub RefusesPolicy : List ℕ → End → Type 0
RefusesPolicy bytes (Refused fault) = HasPolicyFault bytes fault
RefusesPolicy bytes _ = ⊥

-- what policy did, by how it ended
abbrev pub EndsPolicy : {S K : Type 0} → End → Edge S K → Type 0
EndsPolicy end e = EndsFilter limits.envelope_bytes (Unit {0}) IsPolicyTextOf (λ _. ⊥) RefusesPolicy end e

-- the bytes are an assertion
abbrev pub IsAnAssertion : List ℕ → Type 0
IsAnAssertion bytes = (a : Assertion) × ReadsAs bytes (Ok a)

-- of an assertion comes 0, of other bytes 9, of more bytes 8, unless the input, the output or the machine fails
abbrev pub IsPolicyStatus : List ℕ → ℕ → Type 0
IsPolicyStatus bytes status = IsFilterStatus limits.envelope_bytes exits.refused (IsAnAssertion bytes) bytes status
