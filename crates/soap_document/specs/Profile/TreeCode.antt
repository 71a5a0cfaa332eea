-- A code of trees, by which lists of them may be what contracts see of a type: a tree as the row of its tags and texts.
use Rattle.std.specs.Prelude.{◌≡◌, ◌⊎◌, ℕ, List, [], ◌∷◌, Option, Some, None, refl}
use Rattle.std.proofs.Common.{ap, ◌∙◌, inl, inr}
use Rattle.std.specs.Coded.{Coded, code_by, coded×, coded⊎, coded_list, coded_option, coded_ℕ}
use Rattle.rm_base.specs.declared.message.Binding.{Binding}
use Rattle.soap_document.specs.declared.profile.name.Expanded.{Expanded}
use Rattle.soap_document.specs.declared.profile.tree.Attr.{Attr}
use Rattle.soap_document.specs.Profile.Tree.{Element, element, Parts, none, text, child, parts_of}

-- a start tag, a text, an end tag
pub data Token : Type 0 where
  opens : Expanded → List Binding → List Attr → Token
  words : List ℕ → Token
  closes : Token

-- the tokens of an element, before others
abbrev mutual
  pub tokens : Element → List Token → List Token
  tokens (element name decls attrs parts) rest = opens name decls attrs ∷ parts_tokens parts (closes ∷ rest)

  pub parts_tokens : Parts → List Token → List Token
  parts_tokens none rest = rest
  parts_tokens (text bytes parts) rest = words bytes ∷ parts_tokens parts rest
  parts_tokens (child first parts) rest = tokens first (parts_tokens parts rest)

-- a text before the parts that are open innermost
abbrev pub with_text : List ℕ → List Parts → List Parts
with_text bytes [] = []
with_text bytes (top ∷ below) = text bytes top ∷ below

-- the parts that are open innermost become an element before those around it
abbrev pub with_element : Expanded → List Binding → List Attr → List Parts → List Parts
with_element name decls attrs [] = []
with_element name decls attrs (top ∷ []) = []
with_element name decls attrs (top ∷ next ∷ below) = child (element name decls attrs top) next ∷ below

-- the parts that are open before the tokens, the innermost first
abbrev pub built : List Token → List Parts
built [] = none ∷ []
built (closes ∷ ts) = none ∷ built ts
built (words bytes ∷ ts) = with_text bytes (built ts)
built (opens name decls attrs ∷ ts) = with_element name decls attrs (built ts)

-- the first element of the parts that are open innermost
abbrev pub first_in : List Parts → Element
first_in [] = element (record { space = []; local = [] }) [] [] none
first_in (none ∷ below) = element (record { space = []; local = [] }) [] [] none
first_in (text bytes parts ∷ below) = element (record { space = []; local = [] }) [] [] none
first_in (child first parts ∷ below) = first

-- parts before other parts
abbrev pub before : Parts → Parts → Parts
before none later = later
before (text bytes parts) later = text bytes (before parts later)
before (child first parts) later = child first (before parts later)

pub before-none : (parts : Parts) → before parts none ≡ parts
before-none none = refl
before-none (text bytes parts) = ap (text bytes) (before-none parts)
before-none (child first parts) = ap (child first) (before-none parts)

-- the tokens of a tree build it
mutual
  pub element_built : (e : Element) (rest : List Token) (top : Parts) (below : List Parts) → built rest ≡ top ∷ below
      → built (tokens e rest) ≡ child e top ∷ below
  element_built (element name decls attrs parts) rest top below e =
      ap (with_element name decls attrs) (parts_built parts (closes ∷ rest) none (top ∷ below) (ap (λ l. none ∷ l) e))
      ∙ ap (λ p. child (element name decls attrs p) top ∷ below) (before-none parts)

  pub parts_built : (ps : Parts) (rest : List Token) (top : Parts) (below : List Parts) → built rest ≡ top ∷ below
      → built (parts_tokens ps rest) ≡ before ps top ∷ below
  parts_built none rest top below e = e
  parts_built (text bytes parts) rest top below e = ap (with_text bytes) (parts_built parts rest top below e)
  parts_built (child first parts) rest top below e =
      element_built first (parts_tokens parts rest) (before parts top) below (parts_built parts rest top below e)

pub read_back : (e : Element) → first_in (built (tokens e [])) ≡ e
read_back e = ap first_in (element_built e [] none [] refl)

-- texts are kept as they are, and so are names, bindings and attributes made of them
abbrev pub text_code : Coded (List ℕ)
text_code = coded_list coded_ℕ

-- a name is kept as its two texts
abbrev pub name_code : Coded Expanded
name_code = code_by (List ℕ × List ℕ) (coded× text_code text_code) (λ n. (n.space, n.local))
    (λ p. record { space = p.0; local = p.1 }) (λ _. refl)

-- a binding is kept as its two texts
abbrev pub binding_code : Coded Binding
binding_code = code_by (List ℕ × List ℕ) (coded× text_code text_code) (λ b. (b.prefix, b.space))
    (λ p. record { prefix = p.0; space = p.1 }) (λ _. refl)

-- an attribute is kept as its name and its value
abbrev pub attr_code : Coded Attr
attr_code = code_by (Expanded × List ℕ) (coded× name_code text_code) (λ a. (a.name, a.value))
    (λ p. record { name = p.0; value = p.1 }) (λ _. refl)

-- what a start tag or a text has; an end tag has nothing
abbrev pub Held : Type 0
Held = (Expanded × (List Binding × List Attr)) ⊎ List ℕ

-- what a token has
abbrev pub held_of : Token → Option Held
held_of (opens name decls attrs) = Some (inl (name, (decls, attrs)))
held_of (words bytes) = Some (inr bytes)
held_of closes = None

-- the token that has this
abbrev pub token_of : Option Held → Token
token_of (Some (inl tag)) = opens tag.0 tag.1.0 tag.1.1
token_of (Some (inr bytes)) = words bytes
token_of None = closes

pub token_of-held_of : (t : Token) → token_of (held_of t) ≡ t
token_of-held_of (opens name decls attrs) = refl
token_of-held_of (words bytes) = refl
token_of-held_of closes = refl

-- a token is kept as what it has
abbrev pub token_code : Coded Token
token_code = code_by (Option Held)
    (coded_option (coded⊎ (coded× name_code (coded× (coded_list binding_code) (coded_list attr_code))) text_code))
    held_of token_of token_of-held_of

-- a tree is kept as its tokens
abbrev pub tree_code : Coded Element
tree_code = code_by (List Token) (coded_list token_code) (λ e. tokens e []) (λ ts. first_in (built ts)) read_back

-- parts are kept as an element that has them
abbrev pub parts_code : Coded Parts
parts_code =
    code_by Element tree_code (λ parts. element (record { space = []; local = [] }) [] [] parts) parts_of (λ _. refl)
