-- No two attributes of a written tag have the same written name.
use Rattle.std.proofs.Common.{◌≡◌, ◌≢◌, ℕ, ◌+◌, ◌<◌, ◌≤◌, ◌^◌, List, [], ◌∷◌, ◌++◌, Bool, true, false, not, codes}
use Rattle.std.proofs.Common.{length, refl, sym, ap, ◌∙◌, arith}
use Rattle.std.specs.List.{AllByRecursion}
use Rattle.std.specs.Str.{bytes_eq}
use Rattle.std.proofs.lemmas.Bool.{and_parts, and_from, true≢false}
use Rattle.soap_document.specs.declared.attribute.WrittenAttribute.{WrittenAttribute}
use Rattle.soap_lex.specs.Tests.{is_nil}
use Rattle.soap_document.specs.Profile.Namespaces.{split, is_new, are_distinct, is_other, is_new_name}
use Rattle.soap_document.specs.Profile.Namespaces.{are_distinct_names}
use Rattle.soap_document.specs.declared.profile.name.Expanded.{Expanded}
use Rattle.soap_document.specs.declared.profile.tree.Attr.{Attr}
use Rattle.rm_base.specs.declared.message.Binding.{Binding}
use Rattle.soap_writer.specs.ElementText.{attribute_prefix}
use Rattle.soap_writer.specs.Writable.{IsAttrWritable, IsTagWritable}
use Rattle.soap_writer.proofs.Prefixes.{attribute_prefix-injective}
use Rattle.soap_writer.proofs.Raws.{Kind, bare, of_xml, own, kind, HasKind, kind_is, spelled, prefix_in, declared}
use Rattle.soap_writer.proofs.Raws.{raws, raw_mark, raw_tag}
use Rattle.soap_writer.proofs.Expands.{IsOwnPrefix, attribute_prefix-IsOwnPrefix, apart, spelled_split}
use Rattle.soap_lex.specs.Facts.{equal}

-- a name, cut at its colon
abbrev Pair : Type 0
Pair = List ℕ × List ℕ

-- no written name of these attributes is cut into these parts
abbrev Fresh : Pair → ℕ → List Attr → Type 0
Fresh t i [] = Unit {0}
Fresh t i (a ∷ attrs) =
    ((codes "xmlns", attribute_prefix i) ≢ t)
    × ((prefix_in (kind a.name.space) (attribute_prefix i), a.name.local) ≢ t) × Fresh t (i + 1) attrs

not_false : (b : Bool) → b ≡ false → not b ≡ true
not_false b e = rw e refl

declared_new : (w : List ℕ) (t : Pair) (k : Kind) (prefix space : List ℕ) (rest : List WrittenAttribute) → split w ≡ t
    → (codes "xmlns", prefix) ≢ t → is_new w rest ≡ true → is_new w (declared k prefix space ++ rest) ≡ true
declared_new w t bare prefix space rest s other e = e
declared_new w t of_xml prefix space rest s other e = e
declared_new w t own prefix space rest s other e =
    and_from _ _ (not_false _ (apart (codes "xmlns" ++ (codes ":" ++ prefix)) w (codes "xmlns", prefix) t refl s
    other)) e

raws_new : (w : List ℕ) (t : Pair) (i : ℕ) (attrs : List Attr) → split w ≡ t → i + length attrs ≤ 2 ^ 64
    → AllByRecursion IsAttrWritable attrs → Fresh t i attrs → is_new w (raws i attrs) ≡ true
raws_new w t i [] s few all fresh = refl
raws_new w t i (a ∷ attrs) s few all fresh =
    let k = kind a.name.space in
    let prefix = attribute_prefix i in
    let p = attribute_prefix-IsOwnPrefix i (omega arith) in
    declared_new w t k prefix a.name.space
    (record { name = spelled k prefix a.name.local; value = a.value } ∷ raws (i + 1) attrs) s fresh.0
    (and_from _ _ (not_false _ (apart (spelled k prefix a.name.local) w (prefix_in k prefix, a.name.local) t
    (spelled_split k prefix a.name.local p.name all.0.name.local) s fresh.1))
    (raws_new w t (i + 1) attrs s (omega arith) all.1 fresh.2))

-- ---- what is fresh

fresh_from : (p l : List ℕ) (i : ℕ) (attrs : List Attr) → i + length attrs ≤ 2 ^ 64
    → ((j : ℕ) → i ≤ j → j < 2 ^ 64 → let t : Pair = (codes "xmlns", attribute_prefix j) in t ≢ (p, l))
    → ((k : Kind) (j : ℕ) → prefix_in k (attribute_prefix j) ≢ p) → Fresh (p, l) i attrs
fresh_from p l i [] few declares has = tt
fresh_from p l i (a ∷ attrs) few declares has = (
  declares i (omega arith) (omega arith),
  (λ e. has (kind a.name.space) i (ap (λ (t : Pair). t.0) e)),
  fresh_from p l (i + 1) attrs (omega arith) (λ j h small. declares j (omega arith) small) has,
)

-- by a test of lists that tells them apart
told : (test : List ℕ → Bool) (a b : List ℕ) → test a ≡ false → test b ≡ true → a ≢ b
told test a b f t e = true≢false (sym t ∙ ap test (sym e) ∙ f)

no_xmlns : (k : Kind) (prefix : List ℕ) → IsOwnPrefix prefix → prefix_in k prefix ≢ codes "xmlns"
no_xmlns bare prefix p = told (λ l. bytes_eq l (codes "xmlns")) [] (codes "xmlns") refl refl
no_xmlns of_xml prefix p = told (λ l. bytes_eq l (codes "xmlns")) (codes "xml") (codes "xmlns") refl refl
no_xmlns own prefix p = told (λ l. bytes_eq l (codes "xmlns")) prefix (codes "xmlns") p.no_xmlns refl

-- a prefix that no attribute from here on has
abbrev NotFrom : ℕ → List ℕ → Type 0
NotFrom i prefix = (j : ℕ) → i ≤ j → j < 2 ^ 64 → attribute_prefix j ≢ prefix

-- a declaration is told from declarations of other prefixes, and from attributes
declaration_fresh : (prefix : List ℕ) (i : ℕ) (attrs : List Attr) → i + length attrs ≤ 2 ^ 64 → NotFrom i prefix
    → Fresh (codes "xmlns", prefix) i attrs
declaration_fresh prefix i attrs few other =
    fresh_from (codes "xmlns") prefix i attrs few (λ j h small e. other j h small (ap (λ (t : Pair). t.1) e)) numbered
  where
    numbered : (k : Kind) (j : ℕ) → prefix_in k (attribute_prefix j) ≢ codes "xmlns"
    numbered bare j = told (λ l. bytes_eq l (codes "xmlns")) [] (codes "xmlns") refl refl
    numbered of_xml j = told (λ l. bytes_eq l (codes "xmlns")) (codes "xml") (codes "xmlns") refl refl
    numbered own j = told (λ l. bytes_eq l (codes "xmlns")) (attribute_prefix j) (codes "xmlns") refl refl

mark_fresh : (l : List ℕ) (i : ℕ) (attrs : List Attr) → i + length attrs ≤ 2 ^ 64 → Fresh (codes "a", l) i attrs
mark_fresh l i attrs few =
    fresh_from (codes "a") l i attrs few
    (λ j h small e. told (λ x. bytes_eq x (codes "a")) (codes "xmlns") (codes "a") refl refl (ap (λ (t : Pair). t.0) e))
    numbered
  where
    numbered : (k : Kind) (j : ℕ) → prefix_in k (attribute_prefix j) ≢ codes "a"
    numbered bare j = told (λ x. bytes_eq x (codes "a")) [] (codes "a") refl refl
    numbered of_xml j = told (λ x. bytes_eq x (codes "a")) (codes "xml") (codes "a") refl refl
    numbered own j = told (λ x. bytes_eq x (codes "a")) (attribute_prefix j) (codes "a") refl refl

-- names of the same parts are the same, unless their prefixes have numbers
same_space : (k m : Kind) (prefix other : List ℕ) (one two : List ℕ) → HasKind one k → HasKind two m
    → IsOwnPrefix prefix → IsOwnPrefix other → prefix ≢ other → prefix_in k prefix ≡ prefix_in m other → one ≡ two
same_space bare bare prefix other one two h g p q ne e = h ∙ sym g
same_space bare of_xml prefix other one two h g p q ne e = absurd (told is_nil (codes "xml") [] refl refl (sym e))
same_space bare own prefix other one two h g p q ne e = absurd (told is_nil other [] q.some refl (sym e))
same_space of_xml bare prefix other one two h g p q ne e = absurd (told is_nil (codes "xml") [] refl refl e)
same_space of_xml of_xml prefix other one two h g p q ne e = h ∙ sym g
same_space of_xml own prefix other one two h g p q ne e =
    absurd (told (λ l. bytes_eq l (codes "xml")) other (codes "xml") q.no_xml refl (sym e))
same_space own bare prefix other one two h g p q ne e = absurd (told is_nil prefix [] p.some refl e)
same_space own of_xml prefix other one two h g p q ne e =
    absurd (told (λ l. bytes_eq l (codes "xml")) prefix (codes "xml") p.no_xml refl e)
same_space own own prefix other one two h g p q ne e = absurd (ne e)

not_other : (name : Expanded) (a : Attr) → is_other name a ≡ true → a.name.local ≡ name.local
    → a.name.space ≡ name.space → ⊥
not_other name a h e f =
    true≢false (sym h ∙ rw (equal a.name.local name.local e, equal a.name.space name.space f) refl)

attribute_fresh : (k : Kind) (prefix : List ℕ) (name : Expanded) (i : ℕ) (attrs : List Attr) → i + length attrs ≤ 2 ^ 64
    → HasKind name.space k → IsOwnPrefix prefix → NotFrom i prefix → is_new_name name attrs ≡ true
    → Fresh (prefix_in k prefix, name.local) i attrs
attribute_fresh k prefix name i [] few is p other new = tt
attribute_fresh k prefix name i (a ∷ attrs) few is p other new =
    let (here, later) = and_parts (is_other name a) (is_new_name name attrs) new in
    let small : i < 2 ^ 64 = omega arith in
    let q = attribute_prefix-IsOwnPrefix i small in (
      (λ e. no_xmlns k prefix p (sym (ap (λ (t : Pair). t.0) e))),
      (λ e. not_other name a here (ap (λ (t : Pair). t.1) e)
          (same_space (kind a.name.space) k (attribute_prefix i) prefix a.name.space name.space
          (kind_is a.name.space) is q p
          (other i (omega arith) small) (ap (λ (t : Pair). t.0) e))),
      attribute_fresh k prefix name (i + 1) attrs (omega arith) is p (λ j h below. other j (omega arith) below) later,
    )

-- ---- none twice

not_later : (i : ℕ) → i < 2 ^ 64 → NotFrom (i + 1) (attribute_prefix i)
not_later i small j h below e = absurd (omega (arith, attribute_prefix-injective j i below small e))

-- a declaration and what stands behind it
declared_distinct : (k : Kind) (prefix space : List ℕ) (rest : List WrittenAttribute) → are_distinct rest ≡ true
    → is_new (codes "xmlns" ++ (codes ":" ++ prefix)) rest ≡ true
    → are_distinct (declared k prefix space ++ rest) ≡ true
declared_distinct bare prefix space rest e new = e
declared_distinct of_xml prefix space rest e new = e
declared_distinct own prefix space rest e new = and_from _ _ new e

raws_distinct : (i : ℕ) (attrs : List Attr) → i + length attrs ≤ 2 ^ 64 → AllByRecursion IsAttrWritable attrs
    → are_distinct_names attrs ≡ true → are_distinct (raws i attrs) ≡ true
raws_distinct i [] few all new = refl
raws_distinct i (a ∷ attrs) few all new =
    let (here, later) = and_parts (is_new_name a.name attrs) (are_distinct_names attrs) new in
    let k = kind a.name.space in
    let prefix = attribute_prefix i in
    let small : i < 2 ^ 64 = omega arith in
    let p = attribute_prefix-IsOwnPrefix i small in
    let parts = spelled_split k prefix a.name.local p.name all.0.name.local in
    let last = not_later i small in
    declared_distinct k prefix a.name.space
    (record { name = spelled k prefix a.name.local; value = a.value } ∷ raws (i + 1) attrs)
    (and_from _ _ (raws_new (spelled k prefix a.name.local) (prefix_in k prefix, a.name.local) (i + 1) attrs parts
    (omega arith) all.1
    (attribute_fresh k prefix a.name (i + 1) attrs (omega arith) (kind_is a.name.space) p last here))
    (raws_distinct (i + 1) attrs (omega arith) all.1 later))
    (and_from _ _ (not_false _ (apart (spelled k prefix a.name.local) (codes "xmlns" ++ (codes ":" ++ prefix))
    (prefix_in k prefix, a.name.local) (codes "xmlns", prefix) parts refl
    (λ e. no_xmlns k prefix p (ap (λ (t : Pair). t.0) e))))
    (raws_new (codes "xmlns" ++ (codes ":" ++ prefix)) (codes "xmlns", prefix) (i + 1) attrs refl (omega arith) all.1
    (declaration_fresh prefix (i + 1) attrs (omega arith) last)))

mark_distinct : (marked : Bool) (attrs : List Attr) → length attrs ≤ 2 ^ 64 → AllByRecursion IsAttrWritable attrs
    → are_distinct (raws 0 attrs) ≡ true → are_distinct (raw_mark marked ++ raws 0 attrs) ≡ true
mark_distinct false attrs few all e = e
mark_distinct true attrs few all e =
    and_from _ _ (raws_new (codes "a" ++ (codes ":" ++ codes "IsReferenceParameter")) (
      codes "a",
      codes
          "IsReferenceParameter",
    ) 0 attrs refl (omega arith) all
    (mark_fresh (codes "IsReferenceParameter") 0 attrs (omega arith))) e

mark_new : (marked : Bool) (rest : List WrittenAttribute) → is_new (codes "xmlns:n") rest ≡ true
    → is_new (codes "xmlns:n") (raw_mark marked ++ rest) ≡ true
mark_new false rest e = e
mark_new true rest e = e

-- n is no numbered prefix
n_apart : NotFrom 0 (codes "n")
n_apart j h small = told (λ x. bytes_eq x (codes "n")) (attribute_prefix j) (codes "n") refl refl

pub tag_distinct : (marked : Bool) (name : Expanded) (decls : List Binding) (attrs : List Attr)
    → IsTagWritable name decls attrs → are_distinct (raw_tag marked name attrs) ≡ true
tag_distinct marked name decls attrs is =
    declared_distinct (kind name.space) (codes "n") name.space (raw_mark marked ++ raws 0 attrs)
    (mark_distinct marked attrs (omega arith) is.each (raws_distinct 0 attrs (omega arith) is.each is.distinct))
    (mark_new marked (raws 0 attrs) (raws_new (codes "xmlns:n") (codes "xmlns", codes "n") 0 attrs refl (omega arith)
    is.each (declaration_fresh (codes "n") 0 attrs (omega arith) n_apart)))
