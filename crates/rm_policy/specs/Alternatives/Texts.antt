-- Alternatives as they are printed: a line for how many there are, and a line for each.
use Rattle.std.specs.Prelude.{◌≢◌, ℕ, ◌<◌, ◌^◌, ◌+◌, ◌/◌, ◌%◌, ◌&&◌, ◌==◌, not, nat_le, Bool, true, false}
use Rattle.std.specs.Prelude.{if◌then◌else◌, List, [], ◌∷◌}
use Rattle.std.specs.Prelude.{◌++◌, codes, decimal, length, slice_index}
use Rattle.std.specs.List.{AllByRecursion, flat_map}
use Rattle.hex.specs.Hex.{upper_digits}
use Rattle.soap_document.specs.declared.profile.name.Expanded.{Expanded}
use Rattle.rm_policy.specs.Texts.{assurance_word}
use Rattle.rm_policy.specs.declared.alternatives.term.Term.{Term}
use Rattle.rm_policy.specs.declared.alternatives.term.Term.TheVariants.{Rm, Other}

-- the byte is a visible character of ASCII, no % and no comma, which parts terms
abbrev pub is_plain : ℕ → Bool
is_plain byte = nat_le 0x21 byte && nat_le byte 0x7e && not (byte == 0x25) && not (byte == 0x2c)

-- a byte as it is, or as % and two digits
abbrev pub escaped_byte : ℕ → List ℕ
escaped_byte byte =
    if is_plain byte then byte ∷ []
    else 0x25 ∷ slice_index upper_digits (byte / 16) ∷ slice_index upper_digits (byte % 16) ∷ []

-- bytes, each so
abbrev pub escaped : List ℕ → List ℕ
escaped bytes = flat_map escaped_byte bytes

-- whether messages are delivered in order
abbrev pub order_text : Bool → List ℕ
order_text true = codes "+in-order"
order_text false = []

-- rm:ASSURANCE, or {NAMESPACE}LOCAL
abbrev pub term_text : Term → List ℕ
term_text (Rm assurance in_order) = codes "rm:" ++ assurance_word assurance ++ order_text in_order
term_text (Other name) = 0x7b ∷ escaped name.space ++ 0x7d ∷ escaped name.local

-- the other terms, each behind a comma
abbrev pub more_terms : List Term → List ℕ
more_terms ts = flat_map (λ t. codes "," ++ term_text t) ts

-- the terms of an alternative, or - where it has none
abbrev pub terms_text : List Term → List ℕ
terms_text [] = codes "-"
terms_text (t ∷ ts) = term_text t ++ more_terms ts

-- alt NUMBER TERMS
abbrev pub alternative_line : ℕ → List Term → List ℕ
alternative_line number ts = codes "alt " ++ decimal number ++ codes " " ++ terms_text ts ++ codes "\n"

-- the lines of alternatives, the first of which has this number
abbrev pub lines_from : ℕ → List (List Term) → List ℕ
lines_from number [] = []
lines_from number (ts ∷ lists) = alternative_line number ts ++ lines_from (number + 1) lists

-- alternatives NUMBER, and a line for each
abbrev pub normal_text : List (List Term) → List ℕ
normal_text lists = codes "alternatives " ++ decimal (length lists) ++ codes "\n" ++ lines_from 1 lists

-- a name as documents have them: bytes, and a local name without }, which no NCName has
pub record IsNamed (name : Expanded) : Type 0 where
  pub space : AllByRecursion (λ b. b < 256) name.space
  pub local : AllByRecursion (λ b. b < 256) name.local
  pub no_brace : AllByRecursion (λ b. b ≢ 0x7d) name.local

-- so is that of a term
abbrev pub IsTermNamed : Term → Type 0
IsTermNamed (Rm assurance in_order) = Unit {0}
IsTermNamed (Other name) = IsNamed name

-- alternatives of such terms, as many as a machine can count
pub record AreNamed (lists : List (List Term)) : Type 0 where
  pub counted : length lists < 2 ^ 64
  pub each : AllByRecursion (AllByRecursion IsTermNamed) lists
