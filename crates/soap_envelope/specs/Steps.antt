-- What the functions below the reader answer.
use Rattle.std.specs.Prelude.{◌≡◌, ℕ, List, [], ◌∷◌, ◌++◌, not, ◌&&◌, if◌then◌else◌, Option, Some, None, Result, Ok}
use Rattle.std.specs.Prelude.{Err, option_map, codes, ⊤}
use Rattle.std.specs.Borrow.{Bor}
use Rattle.std.specs.BTreeMap.{BTreeMap, get_by}
use Rattle.std.specs.Cmp.Lexicographic.{slice_cmp}
use Rattle.std.specs.Ordering.{nat_cmp}
use Rattle.std.specs.declared.cmp.Ordering.{Ordering}
use Rattle.std.specs.Str.{bytes_eq}
use Rattle.soap_document.specs.Grammar.{IsWhite}
use Rattle.soap_lex.specs.Tests.{is_nil}
use Rattle.soap_document.specs.Profile.Namespaces.{bound}
use Rattle.soap_document.specs.Profile.Tree.{Element, Parts, none, text, child}
use Rattle.rm_base.specs.declared.message.Binding.{Binding}
use Rattle.soap_document.specs.Profile.View.{element_view}
use Rattle.soap_document.specs.declared.profile.tree.Element.{Element as CodeElement}
use Rattle.soap_document.specs.declared.profile.error.EnvelopeError.{EnvelopeError}
use Rattle.soap_document.specs.declared.profile.error.EnvelopeError.TheVariants as Error
use Rattle.soap_envelope.specs.Envelope.{IsEnvelope, IsSpaced, IsBodyAlone, IsOutline}
use Rattle.soap_envelope.specs.Refusals.{WrongVersion, NotEnvelope}
use Rattle.soap_envelope.specs.View.{envelope_view}
use Rattle.soap_envelope.specs.declared.envelope.Envelope.{Envelope}
use Rattle.soap_envelope.specs.declared.outline.Next.{Next}
use Rattle.soap_envelope.specs.declared.outline.Next.TheVariants.{Child, Text, End}

-- a lent text
abbrev pub Lent : Type 0
Lent = Bor (List ℕ)

-- the order of their bytes
abbrev pub lent_cmp : Lent → Lent → Ordering
lent_cmp x y = slice_cmp nat_cmp x.now y.now

-- the map binds each prefix as the bindings do
abbrev pub Binds : BTreeMap Lent Lent → List Binding → Type 0
Binds map bindings = (prefix : List ℕ)
    → option_map (λ (s : Lent). s.now) (get_by (λ k. slice_cmp nat_cmp prefix k.now) map) ≡ bound prefix bindings

-- a prefix and its namespace, unless the prefix is xml or undeclared
abbrev pub kept_one : List ℕ → List ℕ → List Binding
kept_one prefix space = if not (bytes_eq prefix (codes "xml")) && not (is_nil space)
    then record { prefix = prefix; space = space } ∷ [] else []

-- all that are kept of these
abbrev pub kept : List (Lent × Lent) → List Binding
kept [] = []
kept (e ∷ entries) = kept_one e.0.now e.1.now ++ kept entries

-- what comes next among parts, and the parts behind it
abbrev pub Comes : Parts → Next → Parts → Type 0
Comes parts (Child e) rest = parts ≡ child (element_view e) rest
Comes parts (Text bytes) rest = parts ≡ text bytes rest
Comes parts End rest = parts ≡ none

-- white space comes next
abbrev pub IsSpacing : Next → Type 0
IsSpacing (Child e) = ⊥
IsSpacing (Text bytes) = IsWhite bytes
IsSpacing End = ⊥

-- neither an element nor the end comes next, but white space
pub record IsOther (parts : Parts) : Type 0 where
  pub child : (first : Element) (rest : Parts) → IsSpaced parts (child first rest) → ⊥
  pub end : IsSpaced parts none → ⊥

-- what comes next among parts but white space, and the parts behind it
abbrev pub Follows : Parts → Next → Parts → Type 0
Follows parts (Child e) rest = IsSpaced parts (child (element_view e) rest)
Follows parts (Text bytes) rest = IsOther parts
Follows parts End rest = IsSpaced parts none

-- the Body among these parts, if nothing else is there
abbrev pub BodyFound : List ℕ → Parts → Option CodeElement → Type 0
BodyFound soap parts None = (body : Element) → IsBodyAlone soap parts body → ⊥
BodyFound soap parts (Some body) = IsBodyAlone soap parts (element_view body)

-- the Header and the Body among these parts, if they are an outline
abbrev pub Outlined : List ℕ → Parts → Option (Option CodeElement × CodeElement) → Type 0
Outlined soap parts None = (header : Option Element) (body : Element) → IsOutline soap parts header body → ⊥
Outlined soap parts (Some found) = IsOutline soap parts (option_map element_view found.0) (element_view found.1)

-- the envelope that the bytes are, or why they are none
abbrev pub Answers : List ℕ → List ℕ → Result Envelope EnvelopeError → Type 0
Answers soap bytes (Ok envelope) = IsEnvelope soap bytes (envelope_view envelope)
Answers soap bytes (Err Error.Memory) = ⊤
Answers soap bytes (Err (Error.TooLong len)) = ⊥
Answers soap bytes (Err (Error.NotUtf8 place)) = ⊥
Answers soap bytes (Err Error.NotProfile) = ⊥
Answers soap bytes (Err Error.WrongVersion) = WrongVersion soap bytes
Answers soap bytes (Err Error.NotEnvelope) = NotEnvelope soap bytes
