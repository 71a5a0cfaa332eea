-- The attributes of a written tag, one after the other, and that they are attributes by the grammar.
use Rattle.std.proofs.Common.{◌≡◌, ℕ, ◌+◌, ◌≤◌, ◌^◌, List, [], ◌∷◌, ◌++◌, Bool, true, false, ◌||◌, if◌then◌else◌}
use Rattle.std.proofs.Common.{codes, length, refl, sym, ap, ap₂, subst, ◌∙◌, arith, append_assoc}
use Rattle.std.specs.List.{AllByRecursion}
use Rattle.std.specs.Str.{bytes_eq}
use Rattle.soap_lex.specs.Characters.{IsChars, IsName}
use Rattle.soap_lex.specs.Escapes.{escaped_text, escaped_value}
use Rattle.soap_lex.specs.Text.{IsText}
use Rattle.soap_lex.specs.Value.{IsValue}
use Rattle.soap_document.specs.declared.attribute.WrittenAttribute.{WrittenAttribute}
use Rattle.soap_document.specs.Grammar.{IsAttributes, end, more, IsQName, unprefixed, prefixed}
use Rattle.soap_lex.specs.Tests.{is_nil}
use Rattle.soap_document.specs.Profile.Namespaces.{xml_space}
use Rattle.soap_document.specs.declared.profile.name.Expanded.{Expanded}
use Rattle.soap_document.specs.declared.profile.tree.Attr.{Attr}
use Rattle.rm_base.specs.declared.message.Binding.{Binding}
use Rattle.soap_writer.specs.ElementText.{quoted, written_name, declaration, attribute_text, attribute_prefix}
use Rattle.soap_writer.specs.ElementText.{attributes_text, mark, tag_text}
use Rattle.soap_writer.specs.ReadBack.{declared_by, declared_from, declared_in, IsAttributeWritten, written_attributes}
use Rattle.soap_writer.specs.Writable.{IsAttrWritable, IsTagWritable}
use Rattle.soap_writer.proofs.Prefixes.{attribute_prefix-IsName, xml-IsName, xmlns-IsName, n-IsName, a-IsName}
use Rattle.soap_writer.proofs.Prefixes.{mark-IsName, true-IsChars}
use Rattle.soap_lex.specs.Facts.{same}

-- ---- the namespace of a name: none, that of xml, or one that is declared

pub data Kind : Type 0 where
  bare : Kind
  of_xml : Kind
  own : Kind

abbrev pub kind : List ℕ → Kind
kind space = if is_nil space then bare else if bytes_eq space xml_space then of_xml else own

abbrev pub HasKind : List ℕ → Kind → Type 0
HasKind space bare = space ≡ []
HasKind space of_xml = space ≡ xml_space
HasKind space own = (is_nil space ≡ false) × (bytes_eq space xml_space ≡ false)

nil_from : (space : List ℕ) → is_nil space ≡ true → space ≡ []
nil_from [] e = refl
nil_from (b ∷ space) e = cc

kind_at : (space : List ℕ) (a b : Bool) → is_nil space ≡ a → bytes_eq space xml_space ≡ b
    → HasKind space (if a then bare else if b then of_xml else own)
kind_at space true b e f = nil_from space e
kind_at space false true e f = same space xml_space f
kind_at space false false e f = (e, f)

pub kind_is : (space : List ℕ) → HasKind space (kind space)
kind_is space = kind_at space (is_nil space) (bytes_eq space xml_space) refl refl

-- ---- as they are written

abbrev pub spelled : Kind → List ℕ → List ℕ → List ℕ
spelled bare prefix local = local
spelled of_xml prefix local = codes "xml" ++ (codes ":" ++ local)
spelled own prefix local = prefix ++ (codes ":" ++ local)

abbrev pub prefix_in : Kind → List ℕ → List ℕ
prefix_in bare prefix = []
prefix_in of_xml prefix = codes "xml"
prefix_in own prefix = prefix

abbrev pub declared : Kind → List ℕ → List ℕ → List WrittenAttribute
declared bare prefix space = []
declared of_xml prefix space = []
declared own prefix space = record { name = codes "xmlns" ++ (codes ":" ++ prefix); value = space } ∷ []

abbrev pub binding : Kind → List ℕ → List ℕ → List Binding
binding bare prefix space = []
binding of_xml prefix space = []
binding own prefix space = record { prefix = prefix; space = space } ∷ []

-- one attribute before others
abbrev pub raw_at : Kind → List ℕ → Attr → List WrittenAttribute → List WrittenAttribute
raw_at k prefix a later =
    declared k prefix a.name.space ++ (record { name = spelled k prefix a.name.local; value = a.value } ∷ later)

abbrev pub raws : ℕ → List Attr → List WrittenAttribute
raws i [] = []
raws i (a ∷ attrs) = raw_at (kind a.name.space) (attribute_prefix i) a (raws (i + 1) attrs)

abbrev pub bindings : ℕ → List Attr → List Binding
bindings i [] = []
bindings i (a ∷ attrs) = binding (kind a.name.space) (attribute_prefix i) a.name.space ++ bindings (i + 1) attrs

abbrev pub raw_mark : Bool → List WrittenAttribute
raw_mark true = record { name = codes "a" ++ (codes ":" ++ codes "IsReferenceParameter"); value = codes "true" } ∷ []
raw_mark false = []

abbrev pub raw_tag : Bool → Expanded → List Attr → List WrittenAttribute
raw_tag marked name attrs = declared (kind name.space) (codes "n") name.space ++ (raw_mark marked ++ raws 0 attrs)

abbrev pub tag_bindings : Expanded → List Attr → List Binding
tag_bindings name attrs = binding (kind name.space) (codes "n") name.space ++ bindings 0 attrs

-- ---- what they declare

declared_at : (a b : Bool) (prefix space : List ℕ)
    → binding (if a then bare else if b then of_xml else own) prefix space
    ≡ (if a || b then [] else record { prefix = prefix; space = space } ∷ [])
declared_at true b prefix space = refl
declared_at false true prefix space = refl
declared_at false false prefix space = refl

declared_by_is : (prefix : List ℕ) (name : Expanded) → binding
    (kind name.space) prefix name.space ≡ declared_by prefix name
declared_by_is prefix name = declared_at (is_nil name.space) (bytes_eq name.space xml_space) prefix name.space

declared_from_is : (i : ℕ) (attrs : List Attr) → bindings i attrs ≡ declared_from i attrs
declared_from_is i [] = refl
declared_from_is i (a ∷ attrs) =
    ap₂ (λ (l m : List Binding). l ++ m) (declared_by_is (attribute_prefix i) a.name) (declared_from_is (i + 1) attrs)

pub tag_bindings_is : (name : Expanded) (attrs : List Attr) → tag_bindings name attrs ≡ declared_in name attrs
tag_bindings_is name attrs =
    ap₂ (λ (l m : List Binding). l ++ m) (declared_by_is (codes "n") name) (declared_from_is 0 attrs)

-- ---- their text

spelled_at : (a b : Bool) (prefix local : List ℕ)
    → (if a then local else if b then codes "xml:" ++ local else prefix ++ (codes ":" ++ local))
    ≡ spelled (if a then bare else if b then of_xml else own) prefix local
spelled_at true b prefix local = refl
spelled_at false true prefix local = refl
spelled_at false false prefix local = refl

pub written_name-spelled : (prefix : List ℕ) (name : Expanded) → written_name prefix name
    ≡ spelled (kind name.space) prefix name.local
written_name-spelled prefix name =
    spelled_at (is_nil name.space) (bytes_eq name.space xml_space) prefix name.local

declaration_at : (a b : Bool) (prefix space : List ℕ) (rest : List WrittenAttribute)
    → (if a || b then [] else codes " xmlns:" ++ (prefix ++ (codes "=" ++ quoted space))) ++ written_attributes rest
    ≡ written_attributes (declared (if a then bare else if b then of_xml else own) prefix space ++ rest)
declaration_at true b prefix space rest = refl
declaration_at false true prefix space rest = refl
declaration_at false false prefix space rest =
    ap (λ l. codes " xmlns:" ++ l) (append_assoc prefix (codes "=" ++ quoted space) (written_attributes rest))

declaration_text : (prefix : List ℕ) (name : Expanded) (rest : List WrittenAttribute)
    → declaration prefix name ++ written_attributes rest ≡ written_attributes (declared (kind name.space) prefix
    name.space ++ rest)
declaration_text prefix name rest =
    declaration_at (is_nil name.space) (bytes_eq name.space xml_space) prefix name.space rest

attribute_raw : (prefix : List ℕ) (a : Attr) (rest : List WrittenAttribute)
    → attribute_text prefix a ++ written_attributes rest ≡ written_attributes (raw_at (kind a.name.space) prefix a rest)
attribute_raw prefix a rest =
    let k = kind a.name.space in
    append_assoc (declaration prefix a.name)
    (codes " " ++ (written_name prefix a.name ++ (codes "=" ++ quoted a.value))) (written_attributes rest)
    ∙ ap (λ l. declaration prefix a.name ++ (codes " " ++ l))
    (append_assoc (written_name prefix a.name) (codes "=" ++ quoted a.value) (written_attributes rest)
    ∙ ap (λ l. l ++ (codes "=" ++ (quoted a.value ++ written_attributes rest))) (written_name-spelled prefix a.name))
    ∙ declaration_text prefix a.name (record { name = spelled k prefix a.name.local; value = a.value } ∷ rest)

attributes_raw : (i : ℕ) (attrs : List Attr) → attributes_text i attrs ≡ written_attributes (raws i attrs)
attributes_raw i [] = refl
attributes_raw i (a ∷ attrs) =
    ap (λ l. attribute_text (attribute_prefix i) a ++ l) (attributes_raw (i + 1) attrs)
    ∙ attribute_raw (attribute_prefix i) a (raws (i + 1) attrs)

mark_raw : (marked : Bool) (rest : List WrittenAttribute) → mark marked ++ written_attributes rest ≡ written_attributes
    (raw_mark marked ++ rest)
mark_raw true rest = refl
mark_raw false rest = refl

pub tag_raw : (marked : Bool) (name : Expanded) (attrs : List Attr) → tag_text marked name attrs
    ≡ written_attributes (raw_tag marked name attrs)
tag_raw marked name attrs =
    ap (λ l. declaration (codes "n") name ++ (mark marked ++ l)) (attributes_raw 0 attrs)
    ∙ ap (λ l. declaration (codes "n") name ++ l) (mark_raw marked (raws 0 attrs))
    ∙ declaration_text (codes "n") name (raw_mark marked ++ raws 0 attrs)

-- ---- by the grammar

-- what is known of the escapes: the laws of soap_lex
pub record Known : Type 0 where
  pub text : (bytes : List ℕ) → IsChars bytes → IsText (escaped_text bytes) bytes
  pub value : (bytes : List ℕ) → IsChars bytes → IsValue (34 ∷ (escaped_value bytes ++ 34 ∷ [])) bytes

pub attributes_from : Known → (attributes : List WrittenAttribute) → AllByRecursion IsAttributeWritten attributes
    → IsAttributes (written_attributes attributes) attributes
attributes_from known [] all = end [] tt
attributes_from known (a ∷ attributes) all =
    more (codes " ") a.name [] [] (quoted a.value) a.value (written_attributes attributes) attributes
    (record { white = (refl, tt); some = λ e. cc }) all.0.qname tt tt (known.value a.value all.0.chars)
    (attributes_from known attributes all.1)

pub spelled-IsQName : (k : Kind) (prefix local : List ℕ) → IsName prefix → IsName local
    → IsQName (spelled k prefix local)
spelled-IsQName bare prefix local p l = unprefixed local l
spelled-IsQName of_xml prefix local p l = prefixed (codes "xml") local xml-IsName l
spelled-IsQName own prefix local p l = prefixed prefix local p l

declared_each : (k : Kind) (prefix space : List ℕ) (rest : List WrittenAttribute) → IsName prefix → IsChars space
    → AllByRecursion IsAttributeWritten rest → AllByRecursion IsAttributeWritten (declared k prefix space ++ rest)
declared_each bare prefix space rest p s all = all
declared_each of_xml prefix space rest p s all = all
declared_each own prefix space rest p s all =
    (record { qname = prefixed (codes "xmlns") prefix xmlns-IsName p; chars = s }, all)

raws_each : (i : ℕ) (attrs : List Attr) → i + length attrs ≤ 2 ^ 64 → AllByRecursion IsAttrWritable attrs
    → AllByRecursion IsAttributeWritten (raws i attrs)
raws_each i [] few all = tt
raws_each i (a ∷ attrs) few all =
    let k = kind a.name.space in
    let p = attribute_prefix-IsName i (omega arith) in
    let here = all.0 in
    declared_each k (attribute_prefix i) a.name.space
    (record { name = spelled k (attribute_prefix i) a.name.local; value = a.value } ∷ raws (i + 1) attrs)
    p here.name.space (
      record { qname = spelled-IsQName k (attribute_prefix i) a.name.local p here.name.local; chars = here.value },
      raws_each (i + 1) attrs (omega arith) all.1,
    )

mark_each : (marked : Bool) (rest : List WrittenAttribute) → AllByRecursion IsAttributeWritten rest
    → AllByRecursion IsAttributeWritten (raw_mark marked ++ rest)
mark_each false rest all = all
mark_each true rest all = (
  record { qname = prefixed (codes "a") (codes "IsReferenceParameter") a-IsName mark-IsName; chars = true-IsChars },
  all,
)

-- the attributes of a written tag are attributes
pub tag_attributes : Known → (marked : Bool) (name : Expanded) (decls : List Binding) (attrs : List Attr)
    → IsTagWritable name decls attrs → IsAttributes (tag_text marked name attrs) (raw_tag marked name attrs)
tag_attributes known marked name decls attrs is =
    let P : List ℕ → Type 0 = λ l. IsAttributes l (raw_tag marked name attrs) in
    subst P (sym (tag_raw marked name attrs)) (attributes_from known (raw_tag marked name attrs)
    (declared_each (kind name.space) (codes "n") name.space (raw_mark marked ++ raws 0 attrs) n-IsName is.named.space
    (mark_each marked (raws 0 attrs) (raws_each 0 attrs (omega arith) is.each))))
