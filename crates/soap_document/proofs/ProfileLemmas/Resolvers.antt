-- What a resolver stands for, by its open elements.
use Rattle.std.proofs.Common.{◌≡◌, ◌≢◌, ℕ, List, [], ◌∷◌, ◌++◌, true, false, Option, Some, None, IfSome, option_map}
use Rattle.std.proofs.Common.{map, reverse, nat_eq, length, refl, sym, ap, subst, ◌∙◌}
use Rattle.std.proofs.lemmas.List.{append-nil, map-append, reverse-append}
use Rattle.std.specs.Option.{option_to_list}
use Rattle.soap_document.specs.Machine.{Frame, with_parts}
use Rattle.soap_document.specs.Tree as written
use Rattle.soap_document.specs.Profile.Document.{place_of}
use Rattle.soap_document.specs.Profile.Items.{Item, a_declaration, an_attribute, a_text, a_child, decls_among}
use Rattle.soap_document.specs.Profile.Items.{attrs_among}
use Rattle.soap_document.specs.Profile.Items.{parts_among}
use Rattle.soap_document.specs.Profile.Namespaces.{Resolved}
use Rattle.soap_document.specs.Profile.Opened as abstract
use Rattle.soap_document.specs.Profile.Opened.{lone}
use Rattle.soap_document.specs.Profile.Resolving.{Stands, sound, broken, opened_view, nest_view}
use Rattle.soap_document.specs.Profile.Scope.{InForce}
use Rattle.soap_document.specs.Profile.Steps.{join}
use Rattle.soap_document.specs.Profile.Tree.{Attr, Element, element, Parts, text, child, none}
use Rattle.rm_base.specs.declared.message.Binding.{Binding}
use Rattle.soap_document.specs.Profile.View.{element_view, item_view, items_view, decls_view, attrs_view, parts_view}
use Rattle.soap_document.specs.Profile.View.{tag_view}
use Rattle.soap_document.specs.declared.profile.resolver.Opened.{Opened}
use Rattle.soap_document.specs.declared.profile.resolver.Resolver.{Resolver}
use Rattle.soap_document.specs.declared.profile.scope.Scope.{Scope}
use Rattle.soap_document.specs.declared.profile.tree.Element.{Element as CodeElement}
use Rattle.soap_document.specs.declared.profile.tree.Item.{Item as CodeItem, Item-F, roll-Item, out-Item, roll-out-Item}
use Rattle.soap_document.specs.declared.profile.tree.Item.TheOpen
use Rattle.soap_document.specs.declared.profile.tree.Item.TheVariants.{Text, Child, rolls-Declaration, rolls-Attribute}
use Rattle.soap_document.specs.declared.profile.tree.Item.TheVariants.{rolls-Text, rolls-Child}
use Rattle.soap_document.proofs.ProfileLemmas.Items.{item_declaration, item_attribute, item_text, item_child}
use Rattle.soap_document.proofs.ProfileLemmas.Items.{element_is, items_push}
use Rattle.soap_document.proofs.ProfileLemmas.Items.{decls-append, attrs-append, parts-append}
use Rattle.soap_document.proofs.ProfileLemmas.Nests.{nest_broken, with_child, with_closed, tree_of, lone-text}
use Rattle.soap_document.proofs.ProfileLemmas.Nests.{lone-child}

-- it has the open elements
pub record IsSound (r : Resolver) (top : Frame) (below : List Frame) : Type 0 where
  pub bindings : List Binding
  pub within : InForce r.scope bindings
  pub is : abstract.nest top below ≡ Some (nest_view r bindings)

pub sound_is : (r : Resolver) (top : Frame) (below : List Frame) → Stands r top below → r.broken ≡ false
    → IsSound r top below
sound_is r top below (sound bindings o w e) b = record { bindings = bindings; within = w; is = e }
sound_is r top below (broken c e) b = absurd (cc)

pub broken_is : (r : Resolver) (top : Frame) (below : List Frame) → Stands r top below → r.broken ≡ true
    → abstract.nest top below ≡ None
broken_is r top below (sound bindings o w e) b = absurd (cc)
broken_is r top below (broken c e) b = e

pub still_broken : (r : Resolver) (top : Frame) (below : List Frame) (more : written.Parts) → r.broken ≡ true
    → Stands r top below → Stands r (with_parts top more) below
still_broken r top below more b h = broken b (nest_broken top below more (broken_is r top below h b))

-- ---- one item more

pushed : (old new : List CodeItem) (item : CodeItem) (seen : Item) → new ≡ old ++ item ∷ [] → item_view item
    ≡ seen → items_view new ≡ items_view old ++ seen ∷ []
pushed old new item seen e s =
    ap items_view e ∙ items_push old item ∙ ap (λ (i : Item). items_view old ++ i ∷ []) s

-- these parts more, and nothing else
pub record Grows (old new : List CodeItem) (more : Parts) : Type 0 where
  pub decls : decls_view new ≡ decls_view old
  pub attrs : attrs_view new ≡ attrs_view old
  pub parts : parts_view new ≡ join (parts_view old) more

pub grows_text : (old new : List CodeItem) (bytes : List ℕ) → new ≡ old ++ Text bytes ∷ []
    → Grows old new (text bytes none)
grows_text old new bytes e =
    let seen = a_text bytes in
    let p = pushed old new (Text bytes) seen e (item_text bytes) in
    record {
      decls = ap decls_among p ∙ decls-append (items_view old) (seen ∷ []) ∙ append-nil (decls_view old);
      attrs = ap attrs_among p ∙ attrs-append (items_view old) (seen ∷ []) ∙ append-nil (attrs_view old);
      parts = ap parts_among p ∙ parts-append (items_view old) (seen ∷ []);
    }

pub grows_child : (old new : List CodeItem) (e : CodeElement) → new ≡ old ++ Child e ∷ []
    → Grows old new (child (element_view e) none)
grows_child old new e h =
    let seen = a_child (element_view e) in
    let p = pushed old new (Child e) seen h (item_child e) in
    record {
      decls = ap decls_among p ∙ decls-append (items_view old) (seen ∷ []) ∙ append-nil (decls_view old);
      attrs = ap attrs_among p ∙ attrs-append (items_view old) (seen ∷ []) ∙ append-nil (attrs_view old);
      parts = ap parts_among p ∙ parts-append (items_view old) (seen ∷ []);
    }

-- ---- the elements around the innermost

pub below_pushed : (xs : List Opened) (x : Opened) → reverse (map opened_view (xs ++ x ∷ []))
    ≡ opened_view x ∷ reverse (map opened_view xs)
below_pushed xs x =
    ap reverse (map-append opened_view xs (x ∷ [])) ∙ reverse-append (map opened_view xs) (opened_view x ∷ [])

pub below_popped : (old new : List Opened) (r : Option Opened) (x : Opened) → old ≡ new ++ option_to_list r
    → r ≡ Some x → reverse (map opened_view old) ≡ opened_view x ∷ reverse (map opened_view new)
below_popped old new r x e s =
    ap (λ (xs : List Opened). reverse (map opened_view xs)) (e ∙ ap (λ (o : Option Opened). new ++ option_to_list o) s)
    ∙ below_pushed new x

-- ---- text

pub text_some : (bytes : List ℕ) → bytes ≢ [] → written.onto bytes written.none ≡ written.text bytes written.none
text_some [] e = absurd (e refl)
text_some (b ∷ bytes) e = refl

-- ---- tags

abbrev tag_in : Element → Resolved
tag_in (element name decls attrs parts) = record { name = name; decls = decls; attrs = attrs }

abbrev parts_in : Element → Parts
parts_in (element name decls attrs parts) = parts

-- the element has this tag, and no parts
pub record IsTagged (found : Option Resolved) (e : CodeElement) : Type 0 where
  pub tag : found ≡ Some (tag_view e)
  pub parts : parts_view e.items.items ≡ none
  pub tree : element_view e ≡ abstract.start_tag (tag_view e)

tagged_so : (tag : Resolved) (e : CodeElement) → element_view e ≡ abstract.start_tag tag → IsTagged (Some tag) e
tagged_so tag e h =
    let is : element e.name (decls_view e.items.items) (attrs_view e.items.items) (parts_view e.items.items)
    ≡ abstract.start_tag tag = sym (element_is e) ∙ h in
    let same : tag ≡ tag_view e = sym (ap tag_in is) in
    record { tag = ap Some same; parts = ap parts_in is; tree = h ∙ ap abstract.start_tag same }

pub tagged : (tag : Option Resolved) (found : Option CodeElement) (e : CodeElement)
    → option_map element_view found ≡ option_map abstract.start_tag tag → found ≡ Some e → IsTagged tag e
tagged None found e h f = absurd (let wrong = sym h ∙ ap (option_map element_view) f in cc)
tagged (Some tag) found e h f =
    let is : Some (element_view e) ≡ Some (abstract.start_tag tag) = sym (ap (option_map element_view) f) ∙ h in
    tagged_so tag e (cc)

pub untagged : (tag : Option Resolved) (found : Option CodeElement)
    → option_map element_view found ≡ option_map abstract.start_tag tag → found ≡ None → tag ≡ None
untagged None found h f = refl
untagged (Some tag) found h f = absurd (let wrong = sym (ap (option_map element_view) f) ∙ h in cc)

pub entered : (found : Option CodeElement) (e : CodeElement) (scope : Scope) (bindings : List Binding) → found ≡ Some e
    → IfSome found (λ e. InForce scope (decls_view e.items.items ++ bindings))
    → InForce scope (decls_view e.items.items ++ bindings)
entered found e scope bindings f h =
    subst (λ (o : Option CodeElement). IfSome o (λ e. InForce scope (decls_view e.items.items ++ bindings))) f h

pub child_added : (n : abstract.Nest) (raw : written.Element) (tree made : Element) (new : abstract.Opened)
    → made ≡ tree → new ≡ (record n.top {
      parts = join n.top.parts (child made none);
      last = Some (place_of raw);
      inner = option_map place_of (written.last_within raw);
    }) → with_child raw n tree ≡ record n { top = new }
child_added n raw tree made new m e = rw (e, m)

pub child_closed : (n : abstract.Nest) (end : ℕ) (top inner outer replaced : Opened) (new : abstract.Opened)
    (made : Element) (below : List abstract.Opened) → inner ≡ top → replaced ≡ outer
    → n.top ∷ n.below ≡ opened_view outer ∷ below
    → made ≡ tree_of (opened_view inner)
    → new ≡ (record (opened_view replaced) {
      parts = join (opened_view replaced).parts (child made none);
      last = Some (record { start = inner.start; end = end });
      inner = inner.last;
    }) → with_closed (opened_view top) end n ≡ record { scope = n.scope; top = new; below = below }
child_closed n end top inner outer replaced new made below i r b m e =
    let innermost : n.top ≡ opened_view outer = cc in
    let others : n.below ≡ below = cc in
    rw (e, m, i, r, innermost, others)

-- ---- the root

-- the document itself has neither declarations nor attributes
pub record IsUntagged (items : List CodeItem) : Type 0 where
  pub decls : decls_view items ≡ []
  pub attrs : attrs_view items ≡ []

last_is : (old new : List CodeItem) (r : Option CodeItem) (x : CodeItem) → old ≡ new ++ option_to_list r → r ≡ Some x
    → old ≡ new ++ x ∷ []
last_is old new r x e s = e ∙ ap (λ (o : Option CodeItem). new ++ option_to_list o) s

-- an item that is no element
data IsOther (x : CodeItem) : Type 0 where
  is_declaration : (b : Binding) → item_view x ≡ a_declaration b → IsOther x
  is_attribute : (a : Attr) → item_view x ≡ an_attribute a → IsOther x
  is_text : (bytes : List ℕ) → item_view x ≡ a_text bytes → IsOther x

layer_other : (l : Item-F CodeItem CodeElement) (x : CodeItem) → roll-Item l ≡ x → ((e : CodeElement) → x ≡ Child e → ⊥)
    → IsOther x
layer_other (TheOpen.Declaration b) x e h =
    is_declaration b (ap item_view (sym e ∙ rolls-Declaration b) ∙ item_declaration b)
layer_other (TheOpen.Attribute a) x e h =
    is_attribute a (ap item_view (sym e ∙ rolls-Attribute a) ∙ item_attribute a)
layer_other (TheOpen.Text bytes) x e h = is_text bytes (ap item_view (sym e ∙ rolls-Text bytes) ∙ item_text bytes)
layer_other (TheOpen.Child tree) x e h = absurd (h tree (sym e ∙ rolls-Child tree))

some_more : {A : Type 0} (xs : List A) (x : A) → xs ++ x ∷ [] ≡ [] → ⊥
some_more [] x e = cc
some_more (y ∷ xs) x e = cc

other_last : (old new : List CodeItem) (x : CodeItem) → old ≡ new ++ x ∷ [] → IsOther x → IsUntagged old
    → lone (parts_view old) ≡ None
other_last old new x e (is_declaration b s) u =
    absurd (some_more (decls_view new) b (sym (decls-append (items_view new) (a_declaration b ∷ []))
    ∙ ap decls_among (sym (pushed new old x (a_declaration b) e s)) ∙ u.decls))
other_last old new x e (is_attribute a s) u =
    absurd (some_more (attrs_view new) a (sym (attrs-append (items_view new) (an_attribute a ∷ []))
    ∙ ap attrs_among (sym (pushed new old x (an_attribute a) e s)) ∙ u.attrs))
other_last old new x e (is_text bytes s) u =
    ap lone (ap parts_among (pushed new old x (a_text bytes) e s) ∙ parts-append (items_view new) (a_text bytes ∷ []))
    ∙ lone-text (parts_view new) bytes

pub not_child : (old new : List CodeItem) (r : Option CodeItem) (x : CodeItem) → old ≡ new ++ option_to_list r
    → r ≡ Some x → ((e : CodeElement) → x ≡ Child e → ⊥) → IsUntagged old → lone (parts_view old) ≡ None
not_child old new r x e s h u =
    other_last old new x (last_is old new r x e s) (layer_other (out-Item x) x (roll-out-Item x) h) u

nothing_among : (items : List Item) → decls_among items ≡ [] → attrs_among items ≡ [] → parts_among items ≡ none → items
    ≡ []
nothing_among [] d a p = refl
nothing_among (a_declaration b ∷ items) d a p = absurd (cc)
nothing_among (an_attribute x ∷ items) d a p = absurd (cc)
nothing_among (a_text bytes ∷ items) d a p = absurd (cc)
nothing_among (a_child e ∷ items) d a p = absurd (cc)

some_parts : (items : List CodeItem) → nat_eq (length items) 0 ≡ false → IsUntagged items → parts_view items ≡ none → ⊥
some_parts [] n u p = cc
some_parts (x ∷ xs) n u p = let wrong = nothing_among (items_view (x ∷ xs)) u.decls u.attrs p in cc

pub child_more : (old new : List CodeItem) (r : Option CodeItem) (tree : CodeElement) → old ≡ new ++ option_to_list r
    → r ≡ Some (Child tree) → nat_eq (length new) 0 ≡ false → IsUntagged old → lone (parts_view old) ≡ None
child_more old new r tree e s n u =
    let grows = grows_child new old tree (last_is old new r (Child tree) e s) in
    let inner : IsUntagged new = record { decls = sym grows.decls ∙ u.decls; attrs = sym grows.attrs ∙ u.attrs } in
    ap lone grows.parts ∙ lone-child (parts_view new) (element_view tree) (some_parts new n inner)

pub child_only : (old new : List CodeItem) (r : Option CodeItem) (tree : CodeElement) → old ≡ new ++ option_to_list r
    → r ≡ Some (Child tree) → new ≡ [] → lone (parts_view old) ≡ Some (element_view tree)
child_only old new r tree e s n =
    ap lone (grows_child new old tree (last_is old new r (Child tree) e s)).parts
    ∙ ap (λ (xs : List CodeItem). lone (join (parts_view xs) (child (element_view tree) none))) n
