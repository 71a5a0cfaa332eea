-- Attributes without prefixes: where their written names are distinct, the expanded ones are.
use Rattle.std.proofs.Common.{◌≡◌, ℕ, List, [], ◌∷◌, Bool, true, false, not, ◌&&◌, Option, Some, None, refl, ap}
use Rattle.std.proofs.Common.{◌∙◌}
use Rattle.std.proofs.lemmas.Bool.{and_parts, and_from}
use Rattle.std.specs.Str.{bytes_eq}
use Rattle.soap_document.specs.Tokens.{cut}
use Rattle.soap_document.specs.declared.attribute.WrittenAttribute.{WrittenAttribute}
use Rattle.soap_document.specs.Profile.Bare.{is_bare, are_bare}
use Rattle.soap_document.specs.Profile.Namespaces.{declared_prefix, attribute_space, named, attribute_name}
use Rattle.soap_document.specs.Profile.Namespaces.{unless_declared}
use Rattle.soap_document.specs.Profile.Namespaces.{expanded, is_new, are_distinct, is_new_name, are_distinct_names}
use Rattle.soap_document.specs.Profile.Tree.{Attr, Expanded}
use Rattle.rm_base.specs.declared.message.Binding.{Binding}

-- the name in no namespace
abbrev bare : List ℕ → Expanded
bare name = record { space = []; local = name }

bare_cut : (scope : List Binding) (name : List ℕ) (parts : Option (List ℕ × List ℕ))
    → elim parts [ None ↦ true | Some p ↦ false ] ≡ true
    → (let s : List ℕ × List ℕ = elim parts [ None ↦ ([], name) | Some p ↦ p ] in
    named s.1 (attribute_space s.0 scope)) ≡ Some (bare name)
bare_cut scope name None h = refl
bare_cut scope name (Some p) h = cc

bare_name : (scope : List Binding) (name : List ℕ) → is_bare name ≡ true → attribute_name scope name
    ≡ Some (bare name)
bare_name scope name h = bare_cut scope name (cut 58 name) h

not_true : (b : Bool) → not b ≡ true → b ≡ false
not_true true e = cc
not_true false e = refl

new_step : (name local value : List ℕ) (declared : Option (List ℕ)) (wanted : Option Expanded)
    (later : Option (List Attr)) (attrs : List Attr) → wanted ≡ Some (bare local) → bytes_eq local name ≡ false
    → ((others : List Attr) → later ≡ Some others → is_new_name (bare name) others ≡ true)
    → unless_declared declared wanted value later ≡ Some attrs → is_new_name (bare name) attrs ≡ true
new_step name local value (Some prefix) wanted later attrs w n h e = h attrs e
new_step name local value None None later attrs w n h e = cc
new_step name local value None (Some found) None attrs w n h e = cc
new_step name local value None (Some found) (Some others) attrs w n h e =
    let is : found ≡ bare local = cc in
    let all : attrs ≡ record { name = found; value = value } ∷ others = cc in
    ap (is_new_name (bare name)) all
    ∙ and_from _ _ (ap (λ (x : Expanded). not (bytes_eq x.local name && bytes_eq x.space [])) is
    ∙ ap (λ b. not (b && true)) n) (h others refl)

new_bare : (scope : List Binding) (name : List ℕ) (attributes : List WrittenAttribute) (attrs : List Attr)
    → are_bare attributes ≡ true → is_new name attributes ≡ true → expanded scope attributes ≡ Some attrs
    → is_new_name (bare name) attrs ≡ true
new_bare scope name [] [] b n e = refl
new_bare scope name [] (x ∷ attrs) b n e = cc
new_bare scope name (a ∷ attributes) attrs b n e =
    let (here, later) = and_parts (is_bare a.name) (are_bare attributes) b in
    let (other, others) = and_parts (not (bytes_eq a.name name)) (is_new name attributes) n in
    new_step name a.name a.value (declared_prefix a.name) (attribute_name scope a.name) (expanded scope attributes)
    attrs (bare_name scope a.name here) (not_true _ other)
    (λ xs is. new_bare scope name attributes xs later others is) e

distinct_step : (local value : List ℕ) (declared : Option (List ℕ)) (wanted : Option Expanded)
    (later : Option (List Attr)) (attrs : List Attr) → wanted ≡ Some (bare local)
    → ((others : List Attr) → later ≡ Some others → is_new_name (bare local) others ≡ true)
    → ((others : List Attr) → later ≡ Some others → are_distinct_names others ≡ true)
    → unless_declared declared wanted value later ≡ Some attrs → are_distinct_names attrs ≡ true
distinct_step local value (Some prefix) wanted later attrs w n h e = h attrs e
distinct_step local value None None later attrs w n h e = cc
distinct_step local value None (Some found) None attrs w n h e = cc
distinct_step local value None (Some found) (Some others) attrs w n h e =
    let is : found ≡ bare local = cc in
    let all : attrs ≡ record { name = found; value = value } ∷ others = cc in
    ap are_distinct_names all
    ∙ and_from _ _ (ap (λ (x : Expanded). is_new_name x others) is ∙ n others refl) (h others refl)

pub distinct_bare : (scope : List Binding) (attributes : List WrittenAttribute) (attrs : List Attr)
    → are_bare attributes ≡ true → are_distinct attributes ≡ true → expanded scope attributes ≡ Some attrs
    → are_distinct_names attrs ≡ true
distinct_bare scope [] [] b d e = refl
distinct_bare scope [] (x ∷ attrs) b d e = cc
distinct_bare scope (a ∷ attributes) attrs b d e =
    let (here, later) = and_parts (is_bare a.name) (are_bare attributes) b in
    let (new, others) = and_parts (is_new a.name attributes) (are_distinct attributes) d in
    distinct_step a.name a.value (declared_prefix a.name) (attribute_name scope a.name) (expanded scope attributes)
    attrs (bare_name scope a.name here) (λ xs is. new_bare scope a.name attributes xs later new is)
    (λ xs is. distinct_bare scope attributes xs later others is) e
