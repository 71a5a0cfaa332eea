-- RM assertions as values: WS-RM Policy 1.2, section 2. Elements of other namespaces, and attributes but for Optional,
-- may stand anywhere and say nothing.
use Rattle.std.specs.Prelude.{◌≡◌, ℕ, List, [], ◌∷◌, Bool, true, false, ◌||◌, ◌&&◌, not, if◌then◌else◌, Option, Some}
use Rattle.std.specs.Prelude.{None, is_some, Result, Ok, Err, codes}
use Rattle.std.specs.Str.{bytes_eq}
use Rattle.soap_document.specs.Profile.Tree.{Element, name_of, attrs_of, parts_of}
use Rattle.soap_document.specs.declared.profile.tree.Attr.{Attr}
use Rattle.soap_writer.specs.Values.Children.{name_in, has_name, value_among}
use Rattle.soap_writer.specs.Values.Outcome.{◌>>=◌, optional, single}
use Rattle.soap_writer.specs.Values.Values.{trimmed, is_true}
use Rattle.rm_policy.specs.Content.{children_as, content_of, first_of}
use Rattle.rm_policy.specs.Words.{rmp, policy_space, older_policy_space, assurance_named}
use Rattle.rm_policy.specs.declared.assertion.Assertion.{Assertion}
use Rattle.rm_policy.specs.declared.assertion.Assurance.{Assurance}
use Rattle.rm_policy.specs.declared.assertion.Assurance.TheVariants.{Unsaid, ExactlyOnce, AtLeastOnce, AtMostOnce}
use Rattle.rm_policy.specs.declared.error.PolicyError.{PolicyError}
use Rattle.rm_policy.specs.declared.error.PolicyError.TheVariants.{Malformed, SecurityUnsupported}
use Rattle.rm_policy.specs.declared.read.Delivery.{Delivery}
use Rattle.rm_policy.specs.declared.word.Word.TheVariants as words

-- nodes that deliver each message exactly once keep the assurance
abbrev pub is_once : Assurance → Bool
is_once Unsaid = true
is_once ExactlyOnce = true
is_once AtLeastOnce = false
is_once AtMostOnce = false

-- nodes that deliver each message exactly once, and in order, keep the assertion; a loose sequence, on which messages
-- are released as they come, keeps it where InOrder isn't asked
abbrev pub is_granted : Assertion → Bool → Bool
is_granted a loose = is_once a.assurance && not (loose && a.in_order)

-- InOrder is said only beside an assurance
abbrev pub IsOrdered : Assurance → Bool → Type 0
IsOrdered assurance in_order = assurance ≡ Unsaid → in_order ≡ false

-- so it is in an assertion that may be written
abbrev pub IsWritable : Assertion → Type 0
IsWritable a = IsOrdered a.assurance a.in_order

-- ---- what is read

-- the Policy of a DeliveryAssurance: exactly one assurance, and InOrder at most once
unfoldable pub delivery_in : Element → Option Delivery
delivery_in policy = do
  parts ← content_of (words.Assurance ∷ words.InOrder ∷ []) policy
  element ← single (children_as words.Assurance parts)
  assurance ← assurance_named (name_of element)
  order ← optional (children_as words.InOrder parts)
  Some (record { assurance = assurance; in_order = is_some order })

-- a DeliveryAssurance: exactly one Policy
unfoldable pub delivery_of : Element → Option Delivery
delivery_of e = do
  parts ← content_of (words.Policy ∷ []) e
  policy ← single (children_as words.Policy parts)
  delivery_in policy

-- what an element says, or that there is none
abbrev pub said_or_unsaid : (Element → Option Delivery) → Option Element → Option Delivery
said_or_unsaid said None = Some (record { assurance = Unsaid; in_order = false })
said_or_unsaid said (Some e) = said e

-- the Policy of an assertion: DeliveryAssurance at most once
unfoldable pub said_by : Element → Option Delivery
said_by policy = do
  parts ← content_of (words.DeliveryAssurance ∷ words.Security ∷ []) policy
  found ← optional (children_as words.DeliveryAssurance parts)
  said_or_unsaid delivery_of found

-- a truth value, without white space at its ends; an absent one is false
abbrev pub truth_of : Option (List ℕ) → Option Bool
truth_of None = Some false
truth_of (Some bytes) =
    if is_true bytes then Some true
    else if bytes_eq (trimmed bytes) (codes "false") || bytes_eq (trimmed bytes) (codes "0") then Some false else None

-- Optional, in either namespace of policies (WS-Policy 1.5, section 4.3.1)
unfoldable pub optional_in : List Attr → Option Bool
optional_in attrs = do
  now ← truth_of (value_among (name_in policy_space (codes "Optional")) attrs)
  before ← truth_of (value_among (name_in older_policy_space (codes "Optional")) attrs)
  Some (now || before)

-- the element, where it is an RMAssertion
abbrev pub named_assertion : Element → Option Element
named_assertion e = if has_name (rmp (codes "RMAssertion")) e then Some e else None

-- an assertion, whether or not it asks for security: Policy at most once
unfoldable pub assertion_in : Element → Option Assertion
assertion_in e = do
  root ← named_assertion e
  optional_flag ← optional_in (attrs_of root)
  parts ← content_of (words.Policy ∷ []) root
  found ← optional (children_as words.Policy parts)
  said ← said_or_unsaid said_by found
  Some (record { assurance = said.assurance; in_order = said.in_order; optional = optional_flag })

-- the first child of such a kind, of an element that there may be
abbrev pub security_of : Option Element → Option Element
security_of None = None
security_of (Some policy) = first_of (children_as words.Security (parts_of policy))

-- the first element of the assertion's Policy that asks for security of sequences
abbrev pub security_in : Element → Option Element
security_in e = security_of (first_of (children_as words.Policy (parts_of e)))

-- an assertion, where it asks for no security; what is malformed is so whether or not it does
abbrev pub judged : Option Assertion → Option Element → Result Assertion PolicyError
judged None security = Err Malformed
judged (Some a) None = Ok a
judged (Some a) (Some e) = Err (SecurityUnsupported (name_of e).local)

-- what an element is read as
abbrev pub assertion_of : Element → Result Assertion PolicyError
assertion_of e = judged (assertion_in e) (security_in e)
