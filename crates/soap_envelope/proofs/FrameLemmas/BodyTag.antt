-- The start tag of a Body that declares bindings.
use Rattle.std.proofs.Common.{◌≡◌, ℕ, Bool, true, false, List, [], ◌∷◌, ◌++◌, Option, Some, None}
use Rattle.std.proofs.Common.{option_map, if◌then◌else◌, codes, map, refl, ap, ◌∙◌, nat_eq, arith}
use Rattle.std.specs.List.{AllByRecursion}
use Rattle.std.specs.Str.{bytes_eq}
use Rattle.rm_base.specs.declared.message.Binding.{Binding}
use Rattle.soap_lex.specs.Characters.{IsName}
use Rattle.soap_lex.specs.Facts.{all_weaker, equal}
use Rattle.soap_lex.specs.NameBytes.{IsNameByte, name_bytes}
use Rattle.soap_document.specs.Cuts.{cut-append}
use Rattle.soap_lex.specs.Tests.{is_nil}
use Rattle.soap_document.specs.Profile.Namespaces.{split, declared_prefix, with_declaration, declarations}
use Rattle.soap_document.specs.Profile.Namespaces.{unless_declared, attribute_name, expanded, is_new, are_distinct}
use Rattle.soap_document.specs.Profile.Namespaces.{element_name, declaring, resolved_with, tag_of}
use Rattle.soap_document.specs.declared.profile.tree.Attr.{Attr}
use Rattle.soap_envelope.specs.Envelope.{name_in}
use Rattle.soap_envelope.specs.Frame.BodyTag.{declaring_name, declaration, AreApart, MayBeDeclared, body_name}
use Rattle.soap_envelope.specs.Frame.BodyTag.{body_bindings}

-- the prefix that an attribute declares
prefix_again : (prefix : List ℕ) → declared_prefix (declaring_name prefix) ≡ Some prefix
prefix_again [] = refl
prefix_again (c ∷ prefix) = refl

-- names of declarations are as different as their prefixes
names_apart : (p q : List ℕ) → bytes_eq p q ≡ false → bytes_eq (declaring_name p) (declaring_name q) ≡ false
names_apart [] [] e = cc
names_apart [] (d ∷ q) e = refl
names_apart (c ∷ p) [] e = refl
names_apart (c ∷ p) (d ∷ q) e = e

is_new_by : (name : List ℕ) (bs : List Binding)
    → AllByRecursion (λ (c : Binding). bytes_eq c.prefix name ≡ false) bs
    → is_new (declaring_name name) (map declaration bs) ≡ true
is_new_by name [] all = refl
is_new_by name (b ∷ bs) all =
    let apart = names_apart b.prefix name all.0 in
    let later = is_new_by name bs all.1 in
    rw (apart, later) refl

distinct_by : (bs : List Binding) → AreApart bs → are_distinct (map declaration bs) ≡ true
distinct_by [] all = refl
distinct_by (b ∷ bs) all =
    let first = is_new_by b.prefix bs all.0 in
    let later = distinct_by bs all.1 in
    rw (first, later) refl

declarations_by : (bs : List Binding) → MayBeDeclared bs → declarations (map declaration bs) ≡ Some bs
declarations_by [] all = refl
declarations_by (b ∷ bs) all =
    ap (λ o. with_declaration o b.space (declarations (map declaration bs))) (prefix_again b.prefix)
    ∙ ap (λ (t : Bool). if t then option_map (λ bindings. b ∷ bindings) (declarations (map declaration bs)) else None)
    (all.0)
    ∙ ap (option_map (λ bindings. b ∷ bindings)) (declarations_by bs all.1)

expanded_none : (scope : List Binding) (bs : List Binding) → expanded scope (map declaration bs) ≡ Some []
expanded_none scope [] = refl
expanded_none scope (b ∷ bs) =
    ap (λ o. unless_declared o (attribute_name scope (declaring_name b.prefix)) b.space
    (expanded scope (map declaration bs))) (prefix_again b.prefix)
    ∙ expanded_none scope bs

no_colon : (name : List ℕ) → IsName name → AllByRecursion (λ c. nat_eq c 58 ≡ false) name
no_colon name is =
    all_weaker IsNameByte (λ c. nat_eq c 58 ≡ false) (λ c b. b 58 (omega arith) refl) name (name_bytes name is)

split_prefixed : (prefix local : List ℕ) → IsName prefix → split (prefix ++ 58 ∷ local) ≡ (prefix, local)
split_prefixed prefix local is = rw (split, cut-append 58 prefix local (no_colon prefix is)) refl

-- the name of Body
named_by : (w soap : List ℕ) (scope : List Binding) → IsName w → is_nil w ≡ false → bytes_eq w (codes "xml") ≡ false
    → element_name (record { prefix = w; space = soap } ∷ scope) (body_name w) ≡ Some (name_in soap (codes "Body"))
named_by w soap scope is some other =
    let parts = split_prefixed w (codes "Body") is in
    let same = equal w w refl in
    rw (parts, some, other, same) refl

pub tag_by : (soap w : List ℕ) (outer scope : List Binding) → IsName w → is_nil w ≡ false
    → bytes_eq w (codes "xml") ≡ false → AreApart (body_bindings soap w scope)
    → MayBeDeclared (body_bindings soap w scope)
    → tag_of outer (body_name w) (map declaration (body_bindings soap w scope))
    ≡ Some (record { name = name_in soap (codes "Body"); decls = body_bindings soap w scope; attrs = [] })
tag_by soap w outer scope is some other apart may =
    let bs = body_bindings soap w scope in
    let as_ = map declaration bs in
    ap (λ (t : Bool). if t then declaring (declarations as_) outer (body_name w) as_ else None) (distinct_by bs apart)
    ∙ ap (λ o. declaring o outer (body_name w) as_) (declarations_by bs may)
    ∙ ap (λ o. resolved_with bs o (expanded (bs ++ outer) as_))
    (named_by w soap (scope ++ outer) is some other)
    ∙ ap (λ (o : Option (List Attr)). resolved_with bs (Some (name_in soap (codes "Body"))) o)
    (expanded_none (bs ++ outer) bs)
