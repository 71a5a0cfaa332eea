-- Where the Body stands: it is the last element within the root, and its bytes are the payload.
use Rattle.std.proofs.Common.{◌≡◌, ℕ, ◌≤◌, inl, inr, List, [], ◌∷◌, ◌++◌, Option, Some, None, option_map, codes}
use Rattle.std.proofs.Common.{length, append-nil, refl, sym, ap, subst, ◌∙◌}
use Rattle.soap_document.specs.Grammar.{IsContent, IsDocument}
use Rattle.soap_document.specs.Tree as written
use Rattle.soap_document.specs.Within.{IsWithin, IsAmong, root, deeper, here, behind_child, behind_text, StandsBetween}
use Rattle.soap_document.specs.Profile.Document.{IsPlaced, place_of}
use Rattle.soap_document.specs.Profile.Namespaces.{resolve, resolve_parts, joined, tag_of, Resolved}
use Rattle.soap_document.specs.Profile.Tree.{Element, element, Parts, none, text, child, decls_of, parts_of}
use Rattle.rm_base.specs.declared.message.Binding.{Binding}
use Rattle.soap_document.specs.Profile.Tree.{children_of}
use Rattle.soap_document.specs.declared.profile.place.Place.{Place}
use Rattle.soap_envelope.specs.Envelope.{name_in, bytes_within, IsSpaced, bare, spaced, IsBodyAlone, IsOutline}
use Rattle.soap_envelope.specs.Envelope.{Envelope, IsEnvelope, StandsFor}
use Rattle.soap_envelope.proofs.Outlines.{outline_cases}

-- ---- the last element stands within the root

abbrev or_first : written.Element → Option written.Element → Option written.Element
or_first first None = Some first
or_first first (Some last) = Some last

last_behind : (first : written.Element) (ps : written.Parts) (e : written.Element) (o : Option written.Element)
    → written.last_child ps ≡ o → or_first first (written.last_child ps) ≡ Some e
    → (written.last_child ps ≡ Some e → IsAmong ps e) → IsAmong (written.child first ps) e
last_behind first ps e None is h f =
    let x : Some first ≡ Some e = sym (ap (or_first first) is) ∙ h in
    let same : first ≡ e = cc in
    subst (IsAmong (written.child first ps)) same (here first ps first (root first))
last_behind first ps e (Some last) is h f =
    behind_child first ps e (f (is ∙ sym (ap (or_first first) is) ∙ h))

last_among : (ps : written.Parts) (e : written.Element) → written.last_child ps ≡ Some e → IsAmong ps e
last_among written.none e h = cc
last_among (written.text bytes ps) e h = behind_text bytes ps e (last_among ps e h)
last_among (written.child first ps) e h = last_behind first ps e (written.last_child ps) refl h (last_among ps e)

pub last_is_within : (raw e : written.Element) → written.last_within raw ≡ Some e → IsWithin raw e
last_is_within (written.element name attributes start end parts) e h = deeper name attributes start end parts e
    (last_among parts e h)

-- ---- and its places are within the bytes

-- what stands between an element's places is its content
abbrev pub Stands : Type 0
Stands = (bytes : List ℕ) (root e : written.Element) → IsDocument bytes root → IsWithin root e → StandsBetween bytes e

pub record IsInside (bytes : List ℕ) (place : Place) : Type 0 where
  pub low : place.start ≤ place.end
  pub high : place.end ≤ length bytes

stands_inside : (bytes : List ℕ) (e : written.Element) → StandsBetween bytes e → IsInside bytes (place_of e)
stands_inside bytes (written.element name attributes start end parts) s = record { low = s.low; high = s.high }

placed_at : Stands → (bytes : List ℕ) (raw : written.Element) (place : Place) (o : Option written.Element)
    → IsDocument bytes raw → written.last_within raw ≡ o → Some place ≡ option_map place_of o
    → IsInside bytes place
placed_at stands bytes raw place None d w h = cc
placed_at stands bytes raw place (Some e) d w h =
    let same : place_of e ≡ place = cc in
    subst (IsInside bytes) same (stands_inside bytes e (stands bytes raw e d (last_is_within raw e w)))

pub place_inside : Stands → {bytes : List ℕ} {tree : Element} (last : Option Place) (place : Place) → last ≡ Some place
    → IsPlaced bytes tree last → IsInside bytes place
place_inside stands {bytes} last place e p =
    placed_at stands bytes p.raw place (written.last_within p.raw) p.is refl (sym e ∙ p.place)

-- ---- where there is a Body, there is a last element

pub mapped : {A B : Type 0} (f : A → B) (o : Option A) (b : B) → option_map f o ≡ Some b
    → (a : A) × (o ≡ Some a) × (f a ≡ b)
mapped f None b h = cc
mapped f (Some a) b h = (a, refl, cc)

some_first : (first : written.Element) (o : Option written.Element) → or_first first o ≡ None → ⊥
some_first first None h = cc
some_first first (Some last) h = cc

no_child_left : (scope : List Binding) (ps : written.Parts) (parts : Parts) → written.last_child ps ≡ None
    → resolve_parts scope ps ≡ Some parts → children_of parts ≡ []
no_child_left scope written.none parts n r = let same : none ≡ parts = cc in ap children_of (sym same)
no_child_left scope (written.text bytes ps) parts n r =
    let m = mapped (text bytes) (resolve_parts scope ps) parts r in
    ap children_of (sym m.2) ∙ no_child_left scope ps m.0 n m.1
no_child_left scope (written.child first ps) parts n r = absurd (some_first first (written.last_child ps) n)

abbrev parts_within : written.Element → written.Parts
parts_within (written.element name attributes start end parts) = parts

abbrev tagged : List Binding → Option Resolved → written.Parts → Option Element
tagged scope t ps =
    elim t [
      | None ↦ None
      | Some tag ↦ option_map (element tag.name tag.decls tag.attrs) (resolve_parts (tag.decls
          ++ scope) ps)
    ]

tagged_parts : (scope : List Binding) (t : Option Resolved) (ps : written.Parts) (tree : Element)
    → tagged scope t ps ≡ Some tree → resolve_parts (decls_of tree ++ scope) ps ≡ Some (parts_of tree)
tagged_parts scope None ps tree r = cc
tagged_parts scope (Some tag) ps tree r =
    let m = mapped (element tag.name tag.decls tag.attrs) (resolve_parts (tag.decls ++ scope) ps) tree r in
    subst (λ (t : Element). resolve_parts (decls_of t ++ scope) ps ≡ Some (parts_of t)) m.2 m.1

-- an element's parts are resolved within its own declarations
pub parts_resolved : (scope : List Binding) (raw : written.Element) (tree : Element) → resolve scope raw ≡ Some tree
    → resolve_parts (decls_of tree ++ scope) (parts_within raw) ≡ Some (parts_of tree)
parts_resolved scope (written.element name attributes start end ps) tree r =
    tagged_parts scope (tag_of scope name attributes) ps tree r

pub last_is : (raw : written.Element) → written.last_within raw ≡ written.last_child (parts_within raw)
last_is (written.element name attributes start end ps) = refl

no_last : (raw : written.Element) (tree : Element) → written.last_within raw ≡ None → resolve [] raw ≡ Some tree
    → children_of (parts_of tree) ≡ []
no_last raw tree n r =
    no_child_left (decls_of tree ++ []) (parts_within raw) (parts_of tree) (sym (last_is raw) ∙ n) (parts_resolved []
    raw tree r)

spaced_children : (p q : Parts) → IsSpaced p q → children_of p ≡ children_of q
spaced_children p q (bare _) = refl
spaced_children p q (spaced s _ w) = refl

outline_children : (soap : List ℕ) (p : Parts) (h : Option Element) (b : Element) → IsOutline soap p h b
    → children_of p ≡ [] → ⊥
outline_children soap p h b o e = elim (outline_cases soap p h b o) as (λ _. ⊥) [
  | inl l ↦ let x : b ∷ children_of l.1.after ≡ [] = sym (spaced_children p (child b l.1.after) l.1.before) ∙ e in cc
  | inr r ↦ let x : r.0 ∷ children_of r.1 ≡ [] = sym (spaced_children p (child r.0 r.1) r.3) ∙ e in cc
]

unplaced : (w : Option written.Element) → None ≡ option_map place_of w → w ≡ None
unplaced None h = refl
unplaced (Some e) h = cc

pub has_last : (soap : List ℕ) {bytes : List ℕ} {tree : Element} (last : Option Place) (h : Option Element) (b :
    Element)
    → IsPlaced bytes tree last → IsOutline soap (parts_of tree) h b → last ≡ None → ⊥
has_last soap {bytes} {tree} last h b p o e =
    outline_children soap (parts_of tree) h b o (no_last p.raw tree (unplaced (written.last_within p.raw) (sym e
    ∙ p.place))
    p.resolved)

-- ---- and that element is the Body

abbrev first_or : Element → Option Element → Option Element
first_or first None = Some first
first_or first (Some last) = Some last

abbrev last_of : List Element → Option Element
last_of [] = None
last_of (e ∷ elements) = first_or e (last_of elements)

joined_is : (o : Option Element) (q : Option Parts) (parts : Parts) → joined o q ≡ Some parts
    → (first : Element) × (later : Parts) × (o ≡ Some first) × (q ≡ Some later) × (child first later ≡ parts)
joined_is None q parts h = cc
joined_is (Some first) q parts h =
    let m = mapped (child first) q parts h in (first, m.0, refl, m.1, m.2)

abbrev LastResolved : List Binding → Parts → written.Element → Type 0
LastResolved scope parts w = (e : Element) × (resolve scope w ≡ Some e) × (last_of (children_of parts) ≡ Some e)

last_more : (scope : List Binding) (first : written.Element) (ps : written.Parts) (one : Element) (later : Parts)
    (w : written.Element) (o : Option written.Element) → written.last_child ps ≡ o
    → resolve scope first ≡ Some one → resolve_parts scope ps ≡ Some later
    → or_first first (written.last_child ps) ≡ Some w
    → (written.last_child ps ≡ Some w → LastResolved scope later w) → LastResolved scope (child one later) w
last_more scope first ps one later w None is r q h f =
    let x : Some first ≡ Some w = sym (ap (or_first first) is) ∙ h in
    let same : first ≡ w = cc in (
      one,
      ap (resolve scope) (sym same) ∙ r,
      ap (λ (es : List Element). first_or one (last_of es)) (no_child_left scope
          ps later is q),
    )
last_more scope first ps one later w (Some last) is r q h f =
    let found = f (is ∙ sym (ap (or_first first) is) ∙ h) in
    (found.0, found.1, ap (first_or one) found.2)

last_resolved : (scope : List Binding) (ps : written.Parts) (parts : Parts) (w : written.Element)
    → resolve_parts scope ps ≡ Some parts → written.last_child ps ≡ Some w → LastResolved scope parts w
last_resolved scope written.none parts w r h = cc
last_resolved scope (written.text bytes ps) parts w r h =
    let m = mapped (text bytes) (resolve_parts scope ps) parts r in
    subst (λ (p : Parts). LastResolved scope p w) m.2 (last_resolved scope ps m.0 w m.1 h)
last_resolved scope (written.child first ps) parts w r h =
    let m = joined_is (resolve scope first) (resolve_parts scope ps) parts r in
    subst (λ (p : Parts). LastResolved scope p w) m.4 (last_more scope first ps m.0 m.1 w (written.last_child ps) refl
    m.2 m.3 h (last_resolved scope ps m.1 w m.3))

body_children : (soap : List ℕ) (p : Parts) (b : Element) → IsBodyAlone soap p b → children_of p ≡ b ∷ []
body_children soap p b a =
    spaced_children p (child b a.after) a.before ∙ ap (λ (es : List Element). b ∷ es) (spaced_children a.after none
    a.behind)

outline_last : (soap : List ℕ) (p : Parts) (h : Option Element) (b : Element) → IsOutline soap p h b
    → last_of (children_of p) ≡ Some b
outline_last soap p h b o = elim (outline_cases soap p h b o) as (λ _. last_of (children_of p) ≡ Some b) [
  | inl l ↦ ap last_of (body_children soap p b l.1)
  | inr r ↦ ap last_of (spaced_children p (child r.0 r.1) r.3
      ∙ ap (λ (es : List Element). r.0 ∷ es) (body_children soap r.1
      b r.5))
]

content_of : (bytes : List ℕ) (w : written.Element) → StandsBetween bytes w
    → (depth : ℕ) × (start : ℕ) × IsContent depth start (bytes_within bytes w) (parts_within w)
content_of bytes (written.element name attributes start end parts) s = (s.depth, start, s.is)

-- the payload is content, and what it is
pub payload_stands : Stands → (soap bytes : List ℕ) (envelope : Envelope) (p : IsEnvelope soap bytes envelope)
    → StandsFor (decls_of p.body ++ p.decls) envelope
payload_stands stands soap bytes envelope p =
    let root = element (name_in soap (codes "Envelope")) p.decls p.attrs p.parts in
    let within = parts_within p.raw in
    let found = last_resolved (p.decls ++ []) within p.parts p.written_body (parts_resolved [] p.raw root p.resolved)
    (sym (last_is p.raw) ∙ p.last) in
    let both : Some found.0 ≡ Some p.body = sym found.2 ∙ outline_last soap p.parts p.header p.body p.outline in
    let same : found.0 ≡ p.body = cc in
    let inner = parts_resolved (p.decls ++ []) p.written_body found.0 found.1 in
    let c = content_of bytes p.written_body (stands bytes p.raw p.written_body p.document
    (last_is_within
    p.raw p.written_body p.last)) in record {
      depth = c.0;
      start = c.1;
      parts = parts_within p.written_body;
      content = subst (λ (b : List ℕ). IsContent c.0 c.1 b (parts_within p.written_body)) (sym p.payload) c.2;
      scope = p.scope;
      resolved = ap (λ (ds : List Binding). resolve_parts (decls_of p.body ++ ds) (parts_within p.written_body)) (sym
          (append-nil p.decls)) ∙ ap (λ (b : Element). resolve_parts (decls_of b ++ (p.decls ++ [])) (parts_within
          p.written_body)) (sym same) ∙ inner ∙ ap (λ (b : Element). Some (parts_of b)) same ∙ ap (λ (x : Parts). Some
          x) (sym p.content);
    }
