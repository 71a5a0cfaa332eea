-- What a prefix is bound to, by the bindings of elements before those around them.
use Rattle.std.proofs.Common.{◌≡◌, ℕ, ◌+◌, ◌<◌, List, [], ◌∷◌, ◌++◌, length, drop, get_or, Bool, true, false}
use Rattle.std.proofs.Common.{if◌then◌else◌, Option, Some, None, refl, ap, sym, ◌∙◌, append_assoc}
use Rattle.std.proofs.lemmas.List.{drop_more}
use Rattle.std.specs.Borrow.{Bor}
use Rattle.std.specs.Str.{bytes_eq}
use Rattle.soap_document.specs.Profile.Namespaces.{bound}
use Rattle.soap_document.specs.Profile.Tree.{Element, decls_of}
use Rattle.rm_base.specs.declared.message.Binding.{Binding}
use Rattle.soap_document.specs.Profile.View.{element_view, decls_view}
use Rattle.soap_document.specs.declared.profile.tree.Element.{Element as CodeElement}
use Rattle.soap_writer.specs.Values.ChildLaws.{element_is}
use Rattle.soap_writer.specs.Values.QNames.{within}
use Rattle.soap_writer.specs.Values.Steps.{lent_trees}

bound_first : (prefix space : List ℕ) (inner outer : List Binding) → bound prefix inner ≡ Some space
    → bound prefix (inner ++ outer) ≡ Some space
bound_first prefix space [] outer e = absurd (cc)
bound_first prefix space (b ∷ inner) outer e = elim (bytes_eq b.prefix prefix)
    as (λ t. (if t then Some b.space else bound prefix inner) ≡ Some space
    → (if t then Some b.space else bound prefix (inner ++ outer)) ≡ Some space) [
      | true ↦ λ h. h
      | false ↦ λ h. bound_first prefix space inner outer h
    ] e

bound_second : (prefix : List ℕ) (inner outer : List Binding) → bound prefix inner ≡ None
    → bound prefix (inner ++ outer) ≡ bound prefix outer
bound_second prefix [] outer e = refl
bound_second prefix (b ∷ inner) outer e = elim (bytes_eq b.prefix prefix)
    as (λ t. (if t then Some b.space else bound prefix inner) ≡ None
    → (if t then Some b.space else bound prefix (inner ++ outer)) ≡ bound prefix outer) [
      | true ↦ λ h. absurd (cc)
      | false ↦ λ h. bound_second prefix inner outer h
    ] e

-- the first element binds the prefix
bound_inside : (prefix space : List ℕ) (e : Element) (elements : List Element) (outer : List Binding)
    → bound prefix (decls_of e) ≡ Some space → bound prefix (within (e ∷ elements) outer) ≡ Some space
bound_inside prefix space e elements outer is =
    ap (bound prefix) (append_assoc (decls_of e) _ outer)
    ∙ bound_first prefix space (decls_of e) (within elements outer) is

-- it does not, and those around it count
bound_outside : (prefix : List ℕ) (e : Element) (elements : List Element) (outer : List Binding)
    → bound prefix (decls_of e) ≡ None → bound prefix (within (e ∷ elements) outer) ≡ bound prefix
    (within elements outer)
bound_outside prefix e elements outer is =
    ap (bound prefix) (append_assoc (decls_of e) _ outer)
    ∙ bound_second prefix (decls_of e) (within elements outer) is

own_decls : (e : CodeElement) → decls_of (element_view e) ≡ decls_view e.items.items
own_decls e = ap decls_of (element_is e)

cut_at : (xs : List (Bor CodeElement)) (i : ℕ) (x : Bor CodeElement) → i < length xs → x ≡ get_or xs i x
    → drop i xs ≡ x ∷ drop (i + 1) xs
cut_at xs i x within is = drop_more xs i x within ∙ ap (λ z. z ∷ drop (i + 1) xs) (sym is)

-- the element at a place binds the prefix, where none before it does
pub bound_at : (prefix space : List ℕ) (outer : List Binding) (xs : List (Bor CodeElement)) (i : ℕ)
    (x : Bor CodeElement) (total : Option (List ℕ)) → i < length xs → x ≡ get_or xs i x
    → bound prefix (decls_view x.now.items.items) ≡ Some space
    → bound prefix (within (lent_trees (drop i xs)) outer) ≡ total → Some space ≡ total
bound_at prefix space outer xs i x total inside is own so_far =
    let first : bound prefix (within (element_view x.now ∷ lent_trees (drop (i + 1) xs)) outer) ≡ Some space =
    bound_inside prefix space (element_view x.now) (lent_trees (drop (i + 1) xs)) outer
    (ap (bound prefix) (own_decls x.now) ∙ own) in
    sym first ∙ ap (λ es. bound prefix (within (lent_trees es) outer)) (sym (cut_at xs i x inside is)) ∙ so_far

-- it does not
pub bound_past : (prefix : List ℕ) (outer : List Binding) (xs : List (Bor CodeElement)) (i : ℕ)
    (x : Bor CodeElement) (total : Option (List ℕ)) → i < length xs → x ≡ get_or xs i x
    → bound prefix (decls_view x.now.items.items) ≡ None
    → bound prefix (within (lent_trees (drop i xs)) outer) ≡ total
    → bound prefix (within (lent_trees (drop (i + 1) xs)) outer) ≡ total
bound_past prefix outer xs i x total inside is own so_far =
    let first : bound prefix (within (element_view x.now ∷ lent_trees (drop (i + 1) xs)) outer)
    ≡ bound prefix (within (lent_trees (drop (i + 1) xs)) outer) =
    bound_outside prefix (element_view x.now) (lent_trees (drop (i + 1) xs)) outer
    (ap (bound prefix) (own_decls x.now) ∙ own) in
    sym first ∙ ap (λ es. bound prefix (within (lent_trees es) outer)) (sym (cut_at xs i x inside is)) ∙ so_far
