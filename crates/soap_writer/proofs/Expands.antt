-- What the attributes of a written tag declare, and their names expanded.
use Rattle.std.proofs.Common.{◌≡◌, ◌≢◌, ℕ, ◌+◌, ◌<◌, ◌≤◌, ◌^◌, List, [], ◌∷◌, ◌++◌, Bool, true, false, Some, None}
use Rattle.std.proofs.Common.{codes, length, refl, sym, ap, subst, ◌∙◌, arith, append_assoc}
use Rattle.std.specs.List.{AllByRecursion}
use Rattle.std.specs.Str.{bytes_eq}
use Rattle.std.proofs.lemmas.Bool.{true≢false}
use Rattle.std.proofs.lemmas.List.{append-nil}
use Rattle.soap_lex.specs.Characters.{IsName}
use Rattle.soap_document.specs.declared.attribute.WrittenAttribute.{WrittenAttribute}
use Rattle.soap_lex.specs.Tests.{is_nil}
use Rattle.soap_lex.specs.Facts.{differ, equal}
use Rattle.soap_document.specs.Profile.Namespaces.{xmlns_space, split, declared_prefix, may_bind, declarations, bound}
use Rattle.soap_document.specs.Profile.Namespaces.{named}
use Rattle.soap_document.specs.Profile.Namespaces.{or_none, attribute_space, element_space, attribute_name}
use Rattle.soap_document.specs.Profile.Namespaces.{element_name}
use Rattle.soap_document.specs.Profile.Namespaces.{expanded}
use Rattle.soap_document.specs.declared.profile.name.Expanded.{Expanded}
use Rattle.soap_document.specs.declared.profile.tree.Attr.{Attr}
use Rattle.rm_base.specs.declared.message.Binding.{Binding}
use Rattle.soap_writer.specs.Frame.{addressing_space}
use Rattle.soap_writer.specs.ElementText.{attribute_prefix, written_name}
use Rattle.soap_writer.specs.ReadBack.{marks}
use Rattle.soap_writer.specs.Writable.{IsAttrWritable, IsTagWritable}
use Rattle.soap_writer.proofs.Prefixes.{attribute_prefix-IsName, attribute_prefix-injective, n-IsName, split_name}
use Rattle.soap_writer.proofs.Prefixes.{split_prefixed}
use Rattle.soap_writer.proofs.Raws.{Kind, bare, of_xml, own, kind, HasKind, kind_is, spelled, prefix_in, declared}
use Rattle.soap_writer.proofs.Raws.{binding, raws, bindings, raw_mark, raw_tag, tag_bindings, written_name-spelled}

-- a prefix that may be declared
pub record IsOwnPrefix (prefix : List ℕ) : Type 0 where
  pub name : IsName prefix
  pub some : is_nil prefix ≡ false
  pub no_xml : bytes_eq prefix (codes "xml") ≡ false
  pub no_xmlns : bytes_eq prefix (codes "xmlns") ≡ false

pub attribute_prefix-IsOwnPrefix : (i : ℕ) → i < 2 ^ 64 → IsOwnPrefix (attribute_prefix i)
attribute_prefix-IsOwnPrefix i h =
    record { name = attribute_prefix-IsName i h; some = refl; no_xml = refl; no_xmlns = refl }

pub n-IsOwnPrefix : IsOwnPrefix (codes "n")
n-IsOwnPrefix = record { name = n-IsName; some = refl; no_xml = refl; no_xmlns = refl }

-- names that are cut into different parts differ
pub apart : (x w : List ℕ) (s t : List ℕ × List ℕ) → split x ≡ s → split w ≡ t → s ≢ t → bytes_eq x w ≡ false
apart x w s t e f ne = differ x w (λ same. ne (sym e ∙ ap split same ∙ f))

-- what binds no prefix lets those behind it bind
bound_past_first : (p : List ℕ) (b : Binding) (xs ys : List Binding) (t : Bool) → bytes_eq b.prefix p ≡ t
    → bound p (b ∷ xs) ≡ None → (bound p xs ≡ None → bound p (xs ++ ys) ≡ bound p ys)
    → bound p ((b ∷ xs) ++ ys) ≡ bound p ys
bound_past_first p b xs ys true e h f = let x : Some b.space ≡ None = rw e at h in cc
bound_past_first p b xs ys false e h f = rw e (f (rw e at h))

bound_behind : (p : List ℕ) (xs ys : List Binding) → bound p xs ≡ None → bound p (xs ++ ys) ≡ bound p ys
bound_behind p [] ys h = refl
bound_behind p (b ∷ xs) ys h =
    bound_past_first p b xs ys (bytes_eq b.prefix p) refl h (bound_behind p xs ys)

-- ---- declarations

own_may_bind : (prefix space : List ℕ) → IsOwnPrefix prefix → HasKind space own → space ≢ xmlns_space
    → may_bind prefix space ≡ true
own_may_bind prefix space p k no_xmlns =
    rw (p.no_xml, k.1, differ space xmlns_space no_xmlns, p.some, k.0, p.no_xmlns) refl

pub declared_declarations : (k : Kind) (prefix space : List ℕ) (rest : List WrittenAttribute) (later : List Binding)
    → HasKind space k → IsOwnPrefix prefix → space ≢ xmlns_space → declarations rest ≡ Some later
    → declarations (declared k prefix space ++ rest) ≡ Some (binding k prefix space ++ later)
declared_declarations bare prefix space rest later is p no_xmlns e = e
declared_declarations of_xml prefix space rest later is p no_xmlns e = e
declared_declarations own prefix space rest later is p no_xmlns e =
    rw (own_may_bind prefix space p is no_xmlns, e) refl

-- an attribute that is none
undeclared : (k : Kind) (prefix local : List ℕ) → IsOwnPrefix prefix → IsName local
    → (k ≡ bare → local ≢ codes "xmlns") → declared_prefix (spelled k prefix local) ≡ None
undeclared bare prefix local p l other = rw (differ local (codes "xmlns") (other refl), split_name local l) refl
undeclared of_xml prefix local p l other = refl
undeclared own prefix local p l other =
    let parts = split_prefixed prefix local p.name in
    let one : bytes_eq (prefix ++ (codes ":" ++ local)) (codes "xmlns") ≡ false =
    apart (prefix ++ (codes ":" ++ local)) (codes "xmlns") (prefix, local) ([], codes "xmlns") parts refl
    (λ e. true≢false (sym (ap (λ (s : List ℕ × List ℕ). is_nil s.0) e) ∙ p.some)) in
    rw (one, parts, p.no_xmlns) refl

no_declaration : (k : Kind) (a : Attr) → IsAttrWritable a → HasKind a.name.space k → k ≡ bare
    → a.name.local ≢ codes "xmlns"
no_declaration bare a is h e = is.no_declaration h
no_declaration of_xml a is h e = cc
no_declaration own a is h e = cc

raw_undeclared : (i : ℕ) (a : Attr) → i < 2 ^ 64 → IsAttrWritable a
    → declared_prefix (spelled (kind a.name.space) (attribute_prefix i) a.name.local) ≡ None
raw_undeclared i a h is =
    undeclared (kind a.name.space) (attribute_prefix i) a.name.local (attribute_prefix-IsOwnPrefix i h) is.name.local
    (no_declaration (kind a.name.space) a is (kind_is a.name.space))

raws_declarations : (i : ℕ) (attrs : List Attr) → i + length attrs ≤ 2 ^ 64 → AllByRecursion IsAttrWritable attrs
    → declarations (raws i attrs) ≡ Some (bindings i attrs)
raws_declarations i [] few all = refl
raws_declarations i (a ∷ attrs) few all =
    let k = kind a.name.space in
    let small : i < 2 ^ 64 = omega arith in
    declared_declarations k (attribute_prefix i) a.name.space
    (record { name = spelled k (attribute_prefix i) a.name.local; value = a.value } ∷ raws (i + 1) attrs)
    (bindings (i + 1) attrs) (kind_is a.name.space) (attribute_prefix-IsOwnPrefix i small) all.0.name.no_xmlns
    (rw (raw_undeclared i a small all.0) (raws_declarations (i + 1) attrs (omega arith) all.1))

mark_declarations : (marked : Bool) (rest : List WrittenAttribute)
    → declarations (raw_mark marked ++ rest) ≡ declarations rest
mark_declarations true rest = refl
mark_declarations false rest = refl

pub tag_declarations : (marked : Bool) (name : Expanded) (decls : List Binding) (attrs : List Attr)
    → IsTagWritable name decls attrs → declarations (raw_tag marked name attrs) ≡ Some (tag_bindings name attrs)
tag_declarations marked name decls attrs is =
    declared_declarations (kind name.space) (codes "n") name.space (raw_mark marked ++ raws 0 attrs) (bindings 0 attrs)
    (kind_is name.space) n-IsOwnPrefix is.named.no_xmlns
    (mark_declarations marked (raws 0 attrs) ∙ raws_declarations 0 attrs (omega arith) is.each)

-- ---- names

pub spelled_split : (k : Kind) (prefix local : List ℕ) → IsName prefix → IsName local
    → split (spelled k prefix local) ≡ (prefix_in k prefix, local)
spelled_split bare prefix local p l = split_name local l
spelled_split of_xml prefix local p l = refl
spelled_split own prefix local p l = split_prefixed prefix local p

abbrev pub IsBound : Kind → List ℕ → List ℕ → List Binding → Type 0
IsBound bare prefix space scope = Unit {0}
IsBound of_xml prefix space scope = Unit {0}
IsBound own prefix space scope = bound prefix scope ≡ Some space

attribute_space_at : (scope : List Binding) (k : Kind) (prefix : List ℕ) (name : Expanded) → HasKind name.space k
    → IsOwnPrefix prefix → IsBound k prefix name.space scope
    → named name.local (attribute_space (prefix_in k prefix) scope) ≡ Some name
attribute_space_at scope bare prefix name is p b = ap (λ s. named name.local (Some s)) (sym is)
attribute_space_at scope of_xml prefix name is p b = ap (λ s. named name.local (Some s)) (sym is)
attribute_space_at scope own prefix name is p b = rw (p.some, p.no_xml, b) refl

attribute_at : (scope : List Binding) (k : Kind) (prefix : List ℕ) (name : Expanded) → HasKind name.space k
    → IsOwnPrefix prefix → IsName name.local → IsBound k prefix name.space scope
    → attribute_name scope (spelled k prefix name.local) ≡ Some name
attribute_at scope k prefix name is p l b =
    ap (λ (s : List ℕ × List ℕ). named s.1 (attribute_space s.0 scope)) (spelled_split k prefix name.local p.name l)
    ∙ attribute_space_at scope k prefix name is p b

element_space_at : (scope : List Binding) (k : Kind) (prefix : List ℕ) (name : Expanded) → HasKind name.space k
    → IsOwnPrefix prefix → bound [] scope ≡ None → IsBound k prefix name.space scope
    → named name.local (element_space (prefix_in k prefix) scope) ≡ Some name
element_space_at scope bare prefix name is p default b =
    ap (λ o. named name.local (or_none o)) default ∙ ap (λ s. named name.local (Some s)) (sym is)
element_space_at scope of_xml prefix name is p default b = ap (λ s. named name.local (Some s)) (sym is)
element_space_at scope own prefix name is p default b = rw (p.some, p.no_xml, b) refl

element_at : (scope : List Binding) (k : Kind) (prefix : List ℕ) (name : Expanded) → HasKind name.space k
    → IsOwnPrefix prefix → IsName name.local → bound [] scope ≡ None → IsBound k prefix name.space scope
    → element_name scope (spelled k prefix name.local) ≡ Some name
element_at scope k prefix name is p l default b =
    ap (λ (s : List ℕ × List ℕ). named s.1 (element_space s.0 scope)) (spelled_split k prefix name.local p.name l)
    ∙ element_space_at scope k prefix name is p default b

-- ---- attributes

abbrev pub AreBound : List Binding → ℕ → List Attr → Type 0
AreBound scope i [] = Unit {0}
AreBound scope i (a ∷ attrs) =
    IsBound (kind a.name.space) (attribute_prefix i) a.name.space scope × AreBound scope (i + 1) attrs

declared_expanded : (scope : List Binding) (k : Kind) (prefix space : List ℕ) (rest : List WrittenAttribute)
    → expanded scope (declared k prefix space ++ rest) ≡ expanded scope rest
declared_expanded scope bare prefix space rest = refl
declared_expanded scope of_xml prefix space rest = refl
declared_expanded scope own prefix space rest = refl

raws_expanded : (scope : List Binding) (i : ℕ) (attrs : List Attr) → i + length attrs ≤ 2 ^ 64
    → AllByRecursion IsAttrWritable attrs → AreBound scope i attrs → expanded scope (raws i attrs) ≡ Some attrs
raws_expanded scope i [] few all b = refl
raws_expanded scope i (a ∷ attrs) few all b =
    let k = kind a.name.space in
    let small : i < 2 ^ 64 = omega arith in
    declared_expanded scope k (attribute_prefix i) a.name.space
    (record { name = spelled k (attribute_prefix i) a.name.local; value = a.value } ∷ raws (i + 1) attrs)
    ∙ rw (
      raw_undeclared i a small all.0,
      attribute_at scope k (attribute_prefix i) a.name (kind_is a.name.space) (attribute_prefix-IsOwnPrefix i small)
          all.0.name.local b.0,
      raws_expanded scope (i + 1) attrs (omega arith) all.1 b.1,
    ) refl

-- the prefix of the mark is bound, where there is one
abbrev pub MarkBound : Bool → List Binding → Type 0
MarkBound true scope = bound (codes "a") scope ≡ Some addressing_space
MarkBound false scope = Unit {0}

mark_expanded : (scope : List Binding) (marked : Bool) (rest : List WrittenAttribute) (attrs : List Attr)
    → MarkBound marked scope → expanded scope rest ≡ Some attrs
    → expanded scope (raw_mark marked ++ rest) ≡ Some (marks marked ++ attrs)
mark_expanded scope false rest attrs b e = e
mark_expanded scope true rest attrs b e = rw (b, e) refl

-- ---- what is bound

own_unbound : (k : Kind) (prefix space p : List ℕ) (rest : List Binding) → bytes_eq prefix p ≡ false
    → bound p rest ≡ None → bound p (binding k prefix space ++ rest) ≡ None
own_unbound bare prefix space p rest other e = e
own_unbound of_xml prefix space p rest other e = e
own_unbound own prefix space p rest other e = rw other e

bindings_unbound : (p : List ℕ) → ((j : ℕ) → bytes_eq (attribute_prefix j) p ≡ false) → (i : ℕ) (attrs : List Attr)
    → bound p (bindings i attrs) ≡ None
bindings_unbound p other i [] = refl
bindings_unbound p other i (a ∷ attrs) =
    own_unbound (kind a.name.space) (attribute_prefix i) a.name.space p (bindings (i + 1) attrs) (other i)
    (bindings_unbound p other (i + 1) attrs)

own_bound : (k : Kind) (prefix space : List ℕ) (rest : List Binding)
    → IsBound k prefix space (binding k prefix space ++ rest)
own_bound bare prefix space rest = tt
own_bound of_xml prefix space rest = tt
own_bound own prefix space rest = rw (equal prefix prefix refl) refl

bound_past : (k : Kind) (prefix space : List ℕ) (front rest : List Binding) → bound prefix front ≡ None
    → IsBound k prefix space rest → IsBound k prefix space (front ++ rest)
bound_past bare prefix space front rest none b = tt
bound_past of_xml prefix space front rest none b = tt
bound_past own prefix space front rest none b = bound_behind prefix front rest none ∙ b

other_prefix : (i j : ℕ) → i < j → j < 2 ^ 64 → bytes_eq (attribute_prefix i) (attribute_prefix j) ≡ false
other_prefix i j h small =
    differ (attribute_prefix i) (attribute_prefix j)
    (λ e. absurd (omega (arith, attribute_prefix-injective i j (omega arith) small e)))

raws_bound : (front outer : List Binding) (i : ℕ) (attrs : List Attr) → i + length attrs ≤ 2 ^ 64
    → ((j : ℕ) → i ≤ j → j < 2 ^ 64 → bound (attribute_prefix j) front ≡ None)
    → AreBound (front ++ (bindings i attrs ++ outer)) i attrs
raws_bound front outer i [] few free = tt
raws_bound front outer i (a ∷ attrs) few free =
    let k = kind a.name.space in
    let here : List Binding = binding k (attribute_prefix i) a.name.space in
    let more = bindings (i + 1) attrs in
    let P : List Binding → Type 0 = λ s. AreBound s (i + 1) attrs in
    let Q : List Binding → Type 0 = λ s. IsBound k (attribute_prefix i) a.name.space (front ++ s) in (
      subst Q (sym (append_assoc here more outer))
          (bound_past k (attribute_prefix i) a.name.space front (here ++ (more ++ outer)) (free i (omega arith) (omega
          arith)) (own_bound k (attribute_prefix i) a.name.space (more ++ outer))),
      subst P (append_assoc front here (more ++ outer)
          ∙ ap (λ s. front ++ s) (sym (append_assoc here more outer)))
          (raws_bound (front ++ here) outer (i + 1) attrs (omega arith)
          (λ j h small. bound_behind (attribute_prefix j) front here (free j (omega arith) small)
          ∙ ap (bound (attribute_prefix j)) (sym (append-nil here))
          ∙ own_unbound k (attribute_prefix i) a.name.space (attribute_prefix j) []
          (other_prefix i j (omega arith) small)
          refl)),
    )

-- ---- the tag

abbrev tag_scope : Expanded → List Attr → List Binding → List Binding
tag_scope name attrs outer = tag_bindings name attrs ++ outer

own_only : (k : Kind) (prefix space p : List ℕ) → bytes_eq prefix p ≡ false → bound p (binding k prefix space) ≡ None
own_only k prefix space p other =
    ap (bound p) (sym (append-nil (binding k prefix space))) ∙ own_unbound k prefix space p [] other refl

tag_unbound : (p : List ℕ) (name : Expanded) (attrs : List Attr) (outer : List Binding) → bytes_eq (codes "n") p ≡ false
    → ((j : ℕ) → bytes_eq (attribute_prefix j) p ≡ false) → bound p (tag_scope name attrs outer) ≡ bound p outer
tag_unbound p name attrs outer first other =
    bound_behind p (tag_bindings name attrs) outer
    (own_unbound (kind name.space) (codes "n") name.space p (bindings 0 attrs) first (bindings_unbound p other 0 attrs))

-- within the element the default namespace is bound no more than around it
pub tag_default : (name : Expanded) (attrs : List Attr) (outer : List Binding) → bound [] outer ≡ None
    → bound [] (tag_bindings name attrs ++ outer) ≡ None
tag_default name attrs outer default = tag_unbound [] name attrs outer refl (λ j. refl) ∙ default

pub tag_named : (name : Expanded) (decls : List Binding) (attrs : List Attr) (outer : List Binding)
    → IsTagWritable name decls attrs → bound [] outer ≡ None
    → element_name (tag_bindings name attrs ++ outer) (written_name (codes "n") name) ≡ Some name
tag_named name decls attrs outer is default =
    let k = kind name.space in
    let P : List Binding → Type 0 = λ s. IsBound k (codes "n") name.space s in
    ap (element_name (tag_bindings name attrs ++ outer)) (written_name-spelled (codes "n") name)
    ∙ element_at (tag_bindings name attrs ++ outer) k (codes "n") name (kind_is name.space) n-IsOwnPrefix is.named.local
    (tag_default name attrs outer default)
    (subst P (sym (append_assoc (binding k (codes "n") name.space) (bindings 0 attrs) outer))
    (own_bound k (codes "n") name.space (bindings 0 attrs ++ outer)))

mark_within : (marked : Bool) (name : Expanded) (attrs : List Attr) (outer : List Binding) → MarkBound marked outer
    → MarkBound marked (tag_bindings name attrs ++ outer)
mark_within true name attrs outer b = tag_unbound (codes "a") name attrs outer refl (λ j. refl) ∙ b
mark_within false name attrs outer b = tt

pub tag_expanded : (marked : Bool) (name : Expanded) (decls : List Binding) (attrs : List Attr) (outer : List Binding)
    → IsTagWritable name decls attrs → MarkBound marked outer
    → expanded (tag_bindings name attrs ++ outer) (raw_tag marked name attrs) ≡ Some (marks marked ++ attrs)
tag_expanded marked name decls attrs outer is b =
    let k = kind name.space in
    let scope = tag_bindings name attrs ++ outer in
    let here : List Binding = binding k (codes "n") name.space in
    let P : List Binding → Type 0 = λ s. AreBound s 0 attrs in
    declared_expanded scope k (codes "n") name.space (raw_mark marked ++ raws 0 attrs)
    ∙ mark_expanded scope marked (raws 0 attrs) attrs (mark_within marked name attrs outer b)
    (raws_expanded scope 0 attrs (omega arith) is.each
    (subst P (sym (append_assoc here (bindings 0 attrs) outer))
    (raws_bound here outer 0 attrs (omega arith) (λ j h small. own_only k (codes "n") name.space (attribute_prefix j)
    refl))))
