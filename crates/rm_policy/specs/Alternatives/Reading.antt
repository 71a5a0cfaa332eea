-- What documents say as policies: WS-Policy 1.5, sections 3 and 4.3, and WS-RM Policy 1.2, section 2.
use Rattle.std.specs.Prelude.{◌≡◌, ℕ, ◌+◌, min, nat_lt, List, [], ◌∷◌, Bool, true, false, ◌&&◌, ◌||◌}
use Rattle.std.specs.Prelude.{if◌then◌else◌, Option, Some, None, option_map, Result, Ok, Err, codes}
use Rattle.std.specs.Str.{bytes_eq}
use Rattle.soap_document.specs.Tokens.{is_white}
use Rattle.soap_lex.specs.Tests.{is_nil}
use Rattle.soap_document.specs.Profile.Document.{Document, IsReadable}
use Rattle.soap_document.specs.Profile.Payload.{is_white_outside}
use Rattle.soap_document.specs.Profile.Tree as tree
use Rattle.soap_document.specs.declared.profile.name.Expanded.{Expanded}
use Rattle.soap_writer.specs.Values.Children.{name_in, is_same}
use Rattle.soap_writer.specs.Values.Outcome.{◌>>=◌}
use Rattle.rm_policy.specs.Assertion.{assertion_in, optional_in, security_in}
use Rattle.rm_policy.specs.Reading.{IsNoDocument}
use Rattle.rm_policy.specs.Words.{rmp, policy_space, older_policy_space}
use Rattle.rm_policy.specs.declared.assertion.Assertion.{Assertion}
use Rattle.rm_policy.specs.Alternatives.Limits.{most_elements}
use Rattle.rm_policy.specs.Alternatives.Tree.{Policy, Policies, all, exactly_one, assertion, none, and}
use Rattle.rm_policy.specs.declared.alternatives.error.WspError.{WspError}
use Rattle.rm_policy.specs.declared.alternatives.error.WspError.TheVariants.{Memory, Envelope, Malformed}
use Rattle.rm_policy.specs.declared.alternatives.error.WspError.TheVariants.{SecurityUnsupported, TooLarge}
use Rattle.rm_policy.specs.declared.alternatives.error.WspError.TheVariants.{TooManyTerms, TooManyAlternatives}
use Rattle.rm_policy.specs.declared.alternatives.kind.Kind.{Kind}
use Rattle.rm_policy.specs.declared.alternatives.kind.Kind.TheVariants as kinds
use Rattle.rm_policy.specs.declared.alternatives.term.Term.TheVariants.{Rm, Other}

-- ---- names

-- a name is this one in either namespace of policies
abbrev pub is_word : List ℕ → Expanded → Bool
is_word word name = is_same name (name_in policy_space word) || is_same name (name_in older_policy_space word)

-- an element of this name is a Policy, which counts as All, an operator, an assertion of reliable messaging or another
-- one; what else is in a namespace of policies, or in none, is nothing
abbrev pub kind_of : Expanded → Kind
kind_of name =
    if is_word (codes "Policy") name || is_word (codes "All") name then kinds.All
    else if is_word (codes "ExactlyOne") name then kinds.ExactlyOne
    else if is_same name (rmp (codes "RMAssertion")) then kinds.Reliable
    else if bytes_eq name.space policy_space || bytes_eq name.space older_policy_space || is_nil name.space
    then kinds.Nothing else kinds.Other

-- ---- policies

-- no element stands in content
abbrev pub is_childless : tree.Parts → Bool
is_childless tree.none = true
is_childless (tree.text bytes parts) = is_childless parts
is_childless (tree.child e parts) = false

-- an assertion of reliable messaging, without what it says of security
abbrev pub reliable_in : tree.Element → Option Policy
reliable_in e = option_map (λ (a : Assertion). assertion (Rm a.assurance a.in_order) a.optional) (assertion_in e)

-- another assertion: its text and its attributes but for Optional say nothing
abbrev pub other_in : tree.Element → Option Policy
other_in e =
    if is_childless (tree.parts_of e)
    then option_map (λ (optional : Bool). assertion (Other (tree.name_of e)) optional) (optional_in (tree.attrs_of e))
    else None

-- an element of a kind, by the policies that stand in it
abbrev pub said_as : Kind → tree.Element → Option Policies → Option Policy
said_as kinds.All e ps = option_map all ps
said_as kinds.ExactlyOne e ps = option_map exactly_one ps
said_as kinds.Reliable e ps = reliable_in e
said_as kinds.Other e ps = other_in e
said_as kinds.Nothing e ps = None

-- a policy before others
abbrev pub before : Option Policy → Option Policies → Option Policies
before None ps = None
before (Some p) ps = option_map (and p) ps

-- the policy that an element is, and those that stand in content, with no text beside them but white space
abbrev mutual
  pub policy_in : tree.Element → Option Policy
  policy_in (tree.element name decls attrs parts) =
      said_as (kind_of name) (tree.element name decls attrs parts) (policies_in parts)

  pub policies_in : tree.Parts → Option Policies
  policies_in tree.none = Some none
  policies_in (tree.text bytes parts) = if is_white bytes then policies_in parts else None
  policies_in (tree.child e parts) = before (policy_in e) (policies_in parts)

-- the policy that a whole document is: an element Policy
abbrev pub root_in : tree.Element → Option Policy
root_in e = if is_word (codes "Policy") (tree.name_of e) then policy_in e else None

-- two such elements
abbrev pub two_in : List tree.Element → Option (Policy × Policy)
two_in (e ∷ f ∷ []) = do
  p ← root_in e
  q ← root_in f
  Some (p, q)
two_in elements = None

-- a pair of policies: an element `pair` without a namespace, in which just two of them stand
abbrev pub pair_in : tree.Element → Option (Policy × Policy)
pair_in e =
    if is_same (tree.name_of e) (name_in [] (codes "pair")) && is_white_outside (tree.parts_of e)
    then two_in (tree.children_of (tree.parts_of e)) else None

-- ---- what is refused

-- the first of two that there is
abbrev pub first_of : Option tree.Element → Option tree.Element → Option tree.Element
first_of None other = other
first_of (Some e) other = Some e

-- the first element in an element of a kind that asks for security, by the first in its content
abbrev pub asked_as : Kind → tree.Element → Option tree.Element → Option tree.Element
asked_as kinds.All e inner = inner
asked_as kinds.ExactlyOne e inner = inner
asked_as kinds.Reliable e inner = security_in e
asked_as kinds.Other e inner = None
asked_as kinds.Nothing e inner = None

-- the first element of an assertion of reliable messaging that asks for security of sequences
abbrev mutual
  pub asked_in : tree.Element → Option tree.Element
  asked_in (tree.element name decls attrs parts) =
      asked_as (kind_of name) (tree.element name decls attrs parts) (asked_among parts)

  pub asked_among : tree.Parts → Option tree.Element
  asked_among tree.none = None
  asked_among (tree.text bytes parts) = asked_among parts
  asked_among (tree.child e parts) = first_of (asked_in e) (asked_among parts)

-- how many elements there are, the outermost counted
abbrev mutual
  pub count_in : tree.Element → ℕ
  count_in (tree.element name decls attrs parts) = 1 + count_among parts

  pub count_among : tree.Parts → ℕ
  count_among tree.none = 0
  count_among (tree.text bytes parts) = count_among parts
  count_among (tree.child e parts) = count_in e + count_among parts

-- a number, or the greatest that a machine counts to
abbrev pub counted : ℕ → ℕ
counted n = min n 18446744073709551615

-- what is read, the first cause that it is refused for, if there is one
abbrev pub judged : {A : Type 0} → Option A → Option tree.Element → ℕ → Result A WspError
judged None asked elements = Err Malformed
judged (Some x) (Some e) elements = Err (SecurityUnsupported (tree.name_of e).local)
judged (Some x) None elements =
    if nat_lt most_elements elements then Err (TooLarge (counted elements)) else Ok x

-- what a document is read as that is a policy, by its root
abbrev pub policy_of : tree.Element → Result Policy WspError
policy_of e = judged (root_in e) (asked_in e) (count_in e)

-- and one that is a pair of policies
abbrev pub pair_of : tree.Element → Result (Policy × Policy) WspError
pair_of e = judged (pair_in e) (asked_among (tree.parts_of e)) (count_in e)

-- the bytes are a document, and this is read of its root
pub record ReadsAs {A : Type 0} (read : tree.Element → Result A WspError) (bytes : List ℕ) (answer : Result A WspError)
    : Type 0 where
  pub root : tree.Element
  pub document : Document bytes root
  pub fits : IsReadable bytes
  pub is : read root ≡ answer

-- when each answer comes
abbrev pub Reads : {A X : Type 0} → (tree.Element → Result A WspError) → (X → A) → List ℕ → Result X WspError → Type 0
Reads read view bytes (Ok x) = ReadsAs read bytes (Ok (view x))
Reads read view bytes (Err Memory) = Unit {0}
Reads read view bytes (Err (Envelope error)) = IsNoDocument bytes error
Reads read view bytes (Err Malformed) = ReadsAs read bytes (Err Malformed)
Reads read view bytes (Err (SecurityUnsupported name)) = ReadsAs read bytes (Err (SecurityUnsupported name))
Reads read view bytes (Err (TooLarge elements)) = ReadsAs read bytes (Err (TooLarge elements))
Reads read view bytes (Err (TooManyTerms n)) = ⊥
Reads read view bytes (Err TooManyAlternatives) = ⊥

-- what a function answers of a root is this, unless memory ran out
abbrev pub Answers : {A X : Type 0} → (X → A) → Result X WspError → Result A WspError → Type 0
Answers view (Ok x) read = read ≡ Ok (view x)
Answers view (Err Memory) read = Unit {0}
Answers view (Err (Envelope error)) read = ⊥
Answers view (Err Malformed) read = read ≡ Err Malformed
Answers view (Err (SecurityUnsupported name)) read = read ≡ Err (SecurityUnsupported name)
Answers view (Err (TooLarge elements)) read = read ≡ Err (TooLarge elements)
Answers view (Err (TooManyTerms n)) read = ⊥
Answers view (Err TooManyAlternatives) read = ⊥
