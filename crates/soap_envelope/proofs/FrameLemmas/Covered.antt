-- What is read where some prefixes are bound is read alike where they are bound so too, and others besides.
use Rattle.std.proofs.Common.{◌≡◌, ℕ, List, [], ◌∷◌, ◌++◌, Bool, true, false, if◌then◌else◌, Option, Some, None}
use Rattle.std.proofs.Common.{option_map, codes, refl, sym, ap, ap₂, ◌∙◌}
use Rattle.std.specs.Str.{bytes_eq}
use Rattle.rm_base.specs.declared.message.Binding.{Binding}
use Rattle.soap_document.specs.declared.attribute.WrittenAttribute.{WrittenAttribute}
use Rattle.soap_lex.specs.Tests.{is_nil}
use Rattle.soap_document.specs.Tree as written
use Rattle.soap_document.specs.Profile.Namespaces.{bound, or_none, prefix_space, element_space, attribute_space, named}
use Rattle.soap_document.specs.Profile.Namespaces.{element_name, attribute_name, split, xml_space, declared_prefix}
use Rattle.soap_document.specs.Profile.Namespaces.{declarations, with_attribute, unless_declared, expanded}
use Rattle.soap_document.specs.Profile.Namespaces.{are_distinct}
use Rattle.soap_document.specs.Profile.Namespaces.{Resolved, resolved_with, tag_within, declaring, tag_of, joined}
use Rattle.soap_document.specs.Profile.Namespaces.{resolve}
use Rattle.soap_document.specs.Profile.Namespaces.{resolve_parts}
use Rattle.soap_document.specs.Profile.Tree.{Element, element, Parts, text}
use Rattle.soap_document.specs.declared.profile.name.Expanded.{Expanded}
use Rattle.soap_document.specs.declared.profile.tree.Attr.{Attr}
use Rattle.soap_envelope.specs.Frame.Covers.{Covers}

-- ---- bindings

covered_at : (d : Binding) (t : Bool) (l m : Option (List ℕ)) (s : List ℕ) → (l ≡ Some s → m ≡ Some s)
    → (if t then Some d.space else l) ≡ Some s → (if t then Some d.space else m) ≡ Some s
covered_at d true l m s later e = e
covered_at d false l m s later e = later e

default_at : (d : Binding) (t : Bool) (l m : Option (List ℕ)) → or_none l ≡ or_none m
    → or_none (if t then Some d.space else l) ≡ or_none (if t then Some d.space else m)
default_at d true l m e = refl
default_at d false l m e = e

covers_behind : (t ds es : List Binding) → Covers ds es → Covers (t ++ ds) (t ++ es)
covers_behind [] ds es c = c
covers_behind (d ∷ t) ds es c =
    let later = covers_behind t ds es c in
    record {
      named = λ p s some other. covered_at d (bytes_eq d.prefix p) (bound p (t ++ ds)) (bound p (t ++ es)) s
          (later.named p s some other);
      default = default_at d (bytes_eq d.prefix []) (bound [] (t ++ ds)) (bound [] (t ++ es)) later.default;
    }

-- ---- names

prefix_at : (x : Bool) (l m : Option (List ℕ)) (s : List ℕ) → (x ≡ false → l ≡ Some s → m ≡ Some s)
    → (if x then Some xml_space else l) ≡ Some s → (if x then Some xml_space else m) ≡ Some s
prefix_at true l m s f e = e
prefix_at false l m s f e = f refl e

prefix_more : (p : List ℕ) (ds es : List Binding) (s : List ℕ) → Covers ds es → is_nil p ≡ false
    → prefix_space p ds ≡ Some s → prefix_space p es ≡ Some s
prefix_more p ds es s c some e =
    prefix_at (bytes_eq p (codes "xml")) (bound p ds) (bound p es) s (λ other. c.named p s some other) e

if_more : (t : Bool) (a b l m : Option (List ℕ)) (s : List ℕ) → a ≡ b → (t ≡ false → l ≡ Some s → m ≡ Some s)
    → (if t then a else l) ≡ Some s → (if t then b else m) ≡ Some s
if_more true a b l m s same f e = sym same ∙ e
if_more false a b l m s same f e = f refl e

element_space_more : (p : List ℕ) (ds es : List Binding) (s : List ℕ) → Covers ds es
    → element_space p ds ≡ Some s → element_space p es ≡ Some s
element_space_more p ds es s c e =
    if_more (is_nil p) (or_none (bound [] ds)) (or_none (bound [] es)) (prefix_space p ds) (prefix_space p es) s
    c.default (λ some. prefix_more p ds es s c some) e

attribute_space_more : (p : List ℕ) (ds es : List Binding) (s : List ℕ) → Covers ds es → attribute_space p ds ≡ Some s
    → attribute_space p es ≡ Some s
attribute_space_more p ds es s c e =
    if_more (is_nil p) (Some []) (Some []) (prefix_space p ds) (prefix_space p es) s refl
    (λ some. prefix_more p ds es s c some) e

named_more : (local : List ℕ) (o q : Option (List ℕ)) (n : Expanded) → ((s : List ℕ) → o ≡ Some s → q ≡ Some s)
    → named local o ≡ Some n → named local q ≡ Some n
named_more local None q n f e = cc
named_more local (Some s) q n f e = ap (named local) (f s refl) ∙ e

element_name_more : (w : List ℕ) (ds es : List Binding) (n : Expanded) → Covers ds es
    → element_name ds w ≡ Some n → element_name es w ≡ Some n
element_name_more w ds es n c e =
    named_more (split w).1 (element_space (split w).0 ds) (element_space (split w).0 es) n
    (λ s. element_space_more (split w).0 ds es s c) e

attribute_name_more : (w : List ℕ) (ds es : List Binding) (n : Expanded) → Covers ds es → attribute_name ds w ≡ Some n
    → attribute_name es w ≡ Some n
attribute_name_more w ds es n c e =
    named_more (split w).1 (attribute_space (split w).0 ds) (attribute_space (split w).0 es) n
    (λ s. attribute_space_more (split w).0 ds es s c) e

with_more : (o q : Option Expanded) (value : List ℕ) (l m : Option (List Attr)) (attrs : List Attr)
    → ((n : Expanded) → o ≡ Some n → q ≡ Some n) → ((as_ : List Attr) → l ≡ Some as_ → m ≡ Some as_)
    → with_attribute o value l ≡ Some attrs → with_attribute q value m ≡ Some attrs
with_more None q value l m attrs f g e = cc
with_more (Some n) q value None m attrs f g e = cc
with_more (Some n) q value (Some l) m attrs f g e =
    ap₂ (λ (o : Option Expanded) (k : Option (List Attr)). with_attribute o value k) (f n refl) (g l refl) ∙ e

unless_more : (d : Option (List ℕ)) (o q : Option Expanded) (value : List ℕ) (l m : Option (List Attr))
    (attrs : List Attr)
    → ((n : Expanded) → o ≡ Some n → q ≡ Some n) → ((as_ : List Attr) → l ≡ Some as_ → m ≡ Some as_)
    → unless_declared d o value l ≡ Some attrs → unless_declared d q value m ≡ Some attrs
unless_more None o q value l m attrs f g e = with_more o q value l m attrs f g e
unless_more (Some p) o q value l m attrs f g e = g attrs e

expanded_more : (raws : List WrittenAttribute) (ds es : List Binding) (attrs : List Attr) → Covers ds es
    → expanded ds raws ≡ Some attrs → expanded es raws ≡ Some attrs
expanded_more [] ds es attrs c e = e
expanded_more (a ∷ raws) ds es attrs c e =
    unless_more (declared_prefix a.name) (attribute_name ds a.name) (attribute_name es a.name) a.value
    (expanded ds raws) (expanded es raws) attrs (λ n. attribute_name_more a.name ds es n c)
    (λ l. expanded_more raws ds es l c) e

resolved_more : (decls : List Binding) (o q : Option Expanded) (l m : Option (List Attr)) (t : Resolved)
    → ((n : Expanded) → o ≡ Some n → q ≡ Some n) → ((as_ : List Attr) → l ≡ Some as_ → m ≡ Some as_)
    → resolved_with decls o l ≡ Some t → resolved_with decls q m ≡ Some t
resolved_more decls None q l m t f g e = cc
resolved_more decls (Some n) q None m t f g e = cc
resolved_more decls (Some n) q (Some l) m t f g e =
    ap₂ (λ (o : Option Expanded) (k : Option (List Attr)). resolved_with decls o k) (f n refl) (g l refl) ∙ e

within_more : (decls ds es : List Binding) (w : List ℕ) (raws : List WrittenAttribute) (t : Resolved) → Covers ds es
    → tag_within decls ds w raws ≡ Some t → tag_within decls es w raws ≡ Some t
within_more decls ds es w raws t c e =
    let both = covers_behind decls ds es c in
    resolved_more decls (element_name (decls ++ ds) w) (element_name (decls ++ es) w) (expanded (decls ++ ds) raws)
    (expanded (decls ++ es) raws) t (λ n. element_name_more w (decls ++ ds) (decls ++ es) n both)
    (λ l. expanded_more raws (decls ++ ds) (decls ++ es) l both) e

declaring_more : (o : Option (List Binding)) (ds es : List Binding) (w : List ℕ) (raws : List WrittenAttribute)
    (t : Resolved) → Covers ds es → declaring o ds w raws ≡ Some t → declaring o es w raws ≡ Some t
declaring_more None ds es w raws t c e = cc
declaring_more (Some decls) ds es w raws t c e = within_more decls ds es w raws t c e

tag_at : (b : Bool) (l m : Option Resolved) (t : Resolved) → (l ≡ Some t → m ≡ Some t)
    → (if b then l else None) ≡ Some t → (if b then m else None) ≡ Some t
tag_at true l m t f e = f e
tag_at false l m t f e = e

tag_more : (ds es : List Binding) (w : List ℕ) (raws : List WrittenAttribute) (t : Resolved) → Covers ds es
    → tag_of ds w raws ≡ Some t → tag_of es w raws ≡ Some t
tag_more ds es w raws t c e =
    tag_at (are_distinct raws) (declaring (declarations raws) ds w raws) (declaring (declarations raws) es w raws) t
    (declaring_more (declarations raws) ds es w raws t c) e

-- ---- elements

mapped : (t : Resolved) (l m : Option Parts) (e : Element) → ((ps : Parts) → l ≡ Some ps → m ≡ Some ps)
    → option_map (element t.name t.decls t.attrs) l ≡ Some e → option_map (element t.name t.decls t.attrs) m ≡ Some e
mapped t None m e f g = cc
mapped t (Some ps) m e f g = ap (option_map (element t.name t.decls t.attrs)) (f ps refl) ∙ g

abbrev with_tag : Option Resolved → (Resolved → Option Parts) → Option Element
with_tag o inner = elim o [ None ↦ None | Some t ↦ option_map (element t.name t.decls t.attrs) (inner t) ]

tagged : (o q : Option Resolved) (l m : Resolved → Option Parts) (e : Element)
    → ((t : Resolved) → o ≡ Some t → q ≡ Some t) → ((t : Resolved) (ps : Parts) → l t ≡ Some ps → m t ≡ Some ps)
    → with_tag o l ≡ Some e → with_tag q m ≡ Some e
tagged None q l m e f g h = cc
tagged (Some t) q l m e f g h = ap (λ o. with_tag o m) (f t refl) ∙ mapped t (l t) (m t) e (g t) h

text_at : (bytes : List ℕ) (l m : Option Parts) (ps : Parts) → ((qs : Parts) → l ≡ Some qs → m ≡ Some qs)
    → option_map (text bytes) l ≡ Some ps → option_map (text bytes) m ≡ Some ps
text_at bytes None m ps f e = cc
text_at bytes (Some qs) m ps f e = ap (option_map (text bytes)) (f qs refl) ∙ e

joined_at : (o q : Option Element) (l m : Option Parts) (ps : Parts) → ((e : Element) → o ≡ Some e → q ≡ Some e)
    → ((qs : Parts) → l ≡ Some qs → m ≡ Some qs) → joined o l ≡ Some ps → joined q m ≡ Some ps
joined_at None q l m ps f g e = cc
joined_at (Some x) q None m ps f g e = cc
joined_at (Some x) q (Some l) m ps f g e = ap₂ joined (f x refl) (g l refl) ∙ e

mutual
  pub resolve_more : (raw : written.Element) (ds es : List Binding) (e : Element) → Covers ds es
      → resolve ds raw ≡ Some e → resolve es raw ≡ Some e
  resolve_more (written.element w raws start end parts) ds es e c h =
      tagged (tag_of ds w raws) (tag_of es w raws) (λ t. resolve_parts (t.decls ++ ds) parts)
      (λ t. resolve_parts (t.decls ++ es) parts) e (λ t. tag_more ds es w raws t c)
      (λ t ps f. parts_more parts (t.decls ++ ds) (t.decls ++ es) ps (covers_behind t.decls ds es c) f) h

  pub parts_more : (raw : written.Parts) (ds es : List Binding) (ps : Parts) → Covers ds es
      → resolve_parts ds raw ≡ Some ps → resolve_parts es raw ≡ Some ps
  parts_more written.none ds es ps c h = h
  parts_more (written.text bytes parts) ds es ps c h =
      text_at bytes (resolve_parts ds parts) (resolve_parts es parts) ps (λ qs. parts_more parts ds es qs c) h
  parts_more (written.child first parts) ds es ps c h =
      joined_at (resolve ds first) (resolve es first) (resolve_parts ds parts) (resolve_parts es parts) ps
      (λ e. resolve_more first ds es e c) (λ qs. parts_more parts ds es qs c) h
