-- A start tag, and the names in it.
use Rattle.std.proofs.Common.{◌≡◌, ℕ, List, [], ◌++◌, Bool, true, false, if◌then◌else◌, Option, Some, None, Result}
use Rattle.std.proofs.Common.{Ok, Err, IfOk, OnOk, IfSome, map, refl, ◌∷◌, sym, ap, subst, option_map, ◌∙◌}
use Rattle.std.proofs.lemmas.List.{append-nil}
use Rattle.soap_document.specs.declared.attribute.WrittenAttribute.{WrittenAttribute}
use Rattle.soap_document.proofs.ProfileLemmas.Bare.{distinct_bare}
use Rattle.soap_document.proofs.ProfileLemmas.Items.{item_attribute, items_push, decls-append, attrs-append}
use Rattle.soap_document.proofs.ProfileLemmas.Items.{parts-append}
use Rattle.soap_document.proofs.ProfileLemmas.Items.{decls-declarations, attrs-declarations, parts-declarations}
use Rattle.soap_document.proofs.ProfileLemmas.Items.{decls-attributes}
use Rattle.soap_document.proofs.ProfileLemmas.Items.{attrs-attributes, parts-attributes}
use Rattle.soap_document.specs.Profile.Bare.{are_bare}
use Rattle.soap_document.specs.Profile.Items.{Item, a_declaration, an_attribute, decls_among, attrs_among, parts_among}
use Rattle.soap_document.specs.Profile.Namespaces.{Resolved, split, named, declarations, element_name, resolved_with}
use Rattle.soap_document.specs.Profile.Namespaces.{tag_of}
use Rattle.soap_document.specs.Profile.Namespaces.{expanded, are_distinct, are_distinct_names}
use Rattle.soap_document.specs.Profile.Opened.{start_tag}
use Rattle.soap_document.specs.Profile.Scope.{InForce}
use Rattle.soap_document.specs.Profile.Tree.{Attr, element, Expanded, none}
use Rattle.rm_base.specs.declared.message.Binding.{Binding}
use Rattle.soap_document.specs.Profile.View.{item_view, element_view, items_view, decls_view, attrs_view, parts_view}
use Rattle.soap_document.specs.declared.profile.scope.Scope.{Scope}
use Rattle.soap_document.specs.declared.profile.tree.Element.{Element as CodeElement}
use Rattle.soap_document.specs.declared.profile.tree.Item.{Item as CodeItem}
use Rattle.soap_document.specs.declared.profile.tree.Item.TheVariants.{Attribute}

-- ---- a name

pub name_is : (space_of : List ℕ → Option (List ℕ)) (written prefix local space : List ℕ) (name : Expanded)
    → (prefix, local) ≡ split written → space_of prefix ≡ Some space → name ≡ record { space = space; local = local }
    → named (split written).1 (space_of (split written).0) ≡ Some name
name_is space_of written prefix local space name s f n =
    ap (λ (parts : List ℕ × List ℕ). named parts.1 (space_of parts.0)) (sym s) ∙ ap (named local) f
    ∙ ap (λ (x : Expanded). Some x) (sym n)

-- ---- what stands in a tag

pub decls_attribute : (items : List CodeItem) (a : Attr) → decls_view (items ++ Attribute a ∷ []) ≡ decls_view items
decls_attribute items a =
    ap decls_among (items_push items (Attribute a)) ∙ decls-append (items_view items) (item_view (Attribute a) ∷ [])
    ∙ ap (λ (x : Item). decls_view items ++ decls_among (x ∷ [])) (item_attribute a) ∙ append-nil (decls_view items)

attributes_of : (taken : Bool) (old new : List Item) (found : Option (List Attr))
    → option_map (λ (attrs : List Attr). old ++ map an_attribute attrs) found ≡ (if taken then Some new else None)
    → taken ≡ true → (attrs : List Attr) × ((found ≡ Some attrs) × (new ≡ old ++ map an_attribute attrs))
attributes_of true old new None h e = cc
attributes_of true old new (Some attrs) h e = (attrs, (cc, cc))
attributes_of false old new found h e = cc

seen : (decls : List Binding) (attrs : List Attr) (items : List Item)
    → items ≡ map a_declaration decls ++ map an_attribute attrs
    → (decls_among items ≡ decls) × ((attrs_among items ≡ attrs) × (parts_among items ≡ none))
seen decls attrs items e =
    let ds = map a_declaration decls in
    let ats = map an_attribute attrs in (
      ap decls_among e ∙ decls-append ds ats
          ∙ cc (decls-declarations decls, decls-attributes attrs, append-nil decls),
      (
        ap attrs_among e ∙ attrs-append ds ats ∙ cc (attrs-declarations decls, attrs-attributes attrs),
        ap parts_among e ∙ parts-append ds ats ∙ cc (parts-declarations decls, parts-attributes attrs),
      ),
    )

resolved_as : (decls : List Binding) (wanted : Option Expanded) (found : Option (List Attr)) (name : Expanded)
    (attrs : List Attr) (distinct : Bool) → wanted ≡ Some name → found ≡ Some attrs
    → are_distinct_names attrs ≡ distinct → option_map start_tag (resolved_with decls wanted found)
    ≡ (if distinct then Some (element name decls attrs none) else None)
resolved_as decls wanted found name attrs true w f d = rw (w, f, d)
resolved_as decls wanted found name attrs false w f d = rw (w, f, d)

-- the tag of what the items are, where the names of the attributes among them are distinct, and none where they are not
pub tag_resolved : (decls : List Binding) (wanted : Option Expanded) (found : Option (List Attr))
    (old new : List CodeItem)
    (name : Expanded) (taken distinct : Bool) → items_view old ≡ map a_declaration decls → wanted ≡ Some name
    → option_map (λ (attrs : List Attr). items_view old ++ map an_attribute attrs) found
    ≡ (if taken then Some (items_view new) else None) → taken ≡ true → are_distinct_names (attrs_view new) ≡ distinct
    → (if distinct then Some (element name (decls_view new) (attrs_view new) (parts_view new)) else None)
    ≡ option_map start_tag (resolved_with decls wanted found)
tag_resolved decls wanted found old new name taken distinct o w f t d =
    let (attrs, (is, view)) = attributes_of taken (items_view old) (items_view new) found f t in
    let all = view ∙ ap (λ (xs : List Item). xs ++ map an_attribute attrs) o in
    let (ds, (ats, ps)) = seen decls attrs (items_view new) all in
    cc (resolved_as decls wanted found name attrs distinct w is (ap are_distinct_names (sym ats) ∙ d))

-- the same of attributes without prefixes whose written names are distinct
pub tag_bare : (scope decls : List Binding) (attributes : List WrittenAttribute) (wanted : Option Expanded)
    (old new : List CodeItem) (name : Expanded) (taken : Bool) → items_view old ≡ map a_declaration decls
    → wanted ≡ Some name → option_map (λ (attrs : List Attr). items_view old ++ map an_attribute attrs)
    (expanded scope attributes) ≡ (if taken then Some (items_view new) else None) → taken ≡ true
    → are_bare attributes ≡ true → are_distinct attributes ≡ true
    → Some (element name (decls_view new) (attrs_view new) (parts_view new))
    ≡ option_map start_tag (resolved_with decls wanted (expanded scope attributes))
tag_bare scope decls attributes wanted old new name taken o w f t b d =
    let (attrs, (is, view)) = attributes_of taken (items_view old) (items_view new) (expanded scope attributes) f t in
    let all = view ∙ ap (λ (xs : List Item). xs ++ map an_attribute attrs) o in
    let (ds, (ats, ps)) = seen decls attrs (items_view new) all in
    tag_resolved decls wanted (expanded scope attributes) old new name taken true o w f t
    (ap are_distinct_names ats ∙ distinct_bare scope attributes attrs b d is)

-- ---- a tag with declarations

pub declared_of : (taken : Bool) (old : List CodeItem) (new : List Item) (found : Option (List Binding)) → old ≡ []
    → option_map (λ (decls : List Binding). items_view old ++ map a_declaration decls) found
    ≡ (if taken then Some new else None) → taken ≡ true
    → (decls : List Binding) × ((found ≡ Some decls) × (new ≡ map a_declaration decls))
declared_of true [] new None o h e = cc
declared_of true [] new (Some decls) o h e = (decls, (refl, cc))
declared_of true (x ∷ old) new found o h e = cc
declared_of false old new found o h e = cc

-- within the declarations that stand among items
pub within_declared : (scope : Scope) (items : List CodeItem) (decls bindings : List Binding)
    → items_view items ≡ map a_declaration decls → InForce scope (decls_view items ++ bindings)
    → InForce scope (decls ++ bindings)
within_declared scope items decls bindings v h =
    subst (λ (xs : List Binding). InForce scope (xs ++ bindings)) (ap decls_among v ∙ decls-declarations decls) h

pub tag_is : (bindings : List Binding) (name : List ℕ) (attributes : List WrittenAttribute) (decls : List Binding)
    → are_distinct attributes ≡ true → declarations attributes ≡ Some decls
    → resolved_with decls (element_name (decls ++ bindings) name) (expanded (decls ++ bindings) attributes)
    ≡ tag_of bindings name attributes
tag_is bindings name attributes decls e d = rw (e, d)

pub same_tag : {E : Type 0} (r : Result (Option CodeElement) E) (x y : Option Resolved)
    → IfOk r (λ found. option_map element_view found ≡ option_map start_tag x) → x ≡ y
    → IfOk r (λ found. option_map element_view found ≡ option_map start_tag y)
same_tag (Ok o) x y h e = h ∙ ap (option_map start_tag) e
same_tag (Err k) x y h e = tt

pub within_tag : {E : Type 0} (r : Result (Option CodeElement) E) (scope : Scope) (decls bindings : List Binding)
    → OnOk r (InForce scope (decls ++ bindings))
    → IfOk r (λ found. IfSome found (λ e. decls_view e.items.items ≡ decls))
    → IfOk r (λ found. IfSome found (λ e. InForce scope (decls_view e.items.items ++ bindings)))
within_tag (Ok None) scope decls bindings h d = tt
within_tag (Ok (Some e)) scope decls bindings h d =
    subst (λ (xs : List Binding). InForce scope (xs ++ bindings)) (sym d) h
within_tag (Err k) scope decls bindings h d = tt
