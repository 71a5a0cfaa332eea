-- Reference parameters and endpoint references, as they are read.
use Rattle.std.proofs.Common.{◌≡◌, ◌≤◌, ℕ, suc, ◌+◌, max, Bool, true, false, if◌then◌else◌, List, []}
use Rattle.std.proofs.Common.{◌∷◌, length, Option, Some, None, map, refl, ap, ap₂, subst, ◌∙◌, arith, nat_le, codes}
use Rattle.std.specs.List.{AllByRecursion, filter, list_all}
use Rattle.std.proofs.lemmas.Bool.{and_parts, and_from, cond_both, leb-true}
use Rattle.rm_base.specs.Text.{IsText}
use Rattle.soap_document.specs.Profile.Namespaces.{is_new_name, is_other, are_distinct_names}
use Rattle.soap_document.specs.Profile.Payload.{height, depth}
use Rattle.soap_document.specs.Profile.Tree.{Element, element, Parts, none, text, child, without_declarations}
use Rattle.soap_document.specs.Profile.Tree.{parts_without}
use Rattle.soap_document.specs.Profile.Tree.{attrs_of, parts_of, children_of}
use Rattle.soap_document.specs.declared.profile.tree.Attr.{Attr}
use Rattle.soap_writer.specs.Writable.{IsAttrWritable, IsWritable}
use Rattle.soap_writer.specs.Stripped.Resolved.{IsResolved}
use Rattle.soap_writer.specs.Stripped.ResolvedLaws.{children_resolved}
use Rattle.soap_writer.specs.Values.Children.{has_name, children_named}
use Rattle.soap_writer.specs.Values.Outcome.{◌>>=◌, single}
use Rattle.wsa_headers.specs.Endpoint.{wsa, uri_of, address_in, mark_name, is_no_mark, unmarked, param}
use Rattle.wsa_headers.specs.Endpoint.{params_in, params_length, may_keep, kept_params, epr_in, epr_of}
use Rattle.wsa_headers.specs.Writable.{IsParamWritable, IsEprWritable}
use Rattle.wsa_headers.specs.declared.endpoint.Epr.{Epr}
use Rattle.rm_wire.proofs.ReadLawsLemmas.Lists.{all_filter, all_map, all_flat_map}
use Rattle.rm_wire.proofs.ReadLawsLemmas.Texts.{uri_is}

-- ---- attributes without the mark

all_kept : (p q : Attr → Bool) (attrs : List Attr) → list_all p attrs ≡ true → list_all p (filter q attrs) ≡ true
all_kept p q [] all = refl
all_kept p q (a ∷ attrs) all =
    let each = and_parts (p a) (list_all p attrs) all in
    let rest = all_kept p q attrs each.1 in
    cond_both (q a) (a ∷ filter q attrs) (filter q attrs) (λ l. list_all p l ≡ true) (λ e. and_from _ _ each.0 rest)
    (λ e. rest)

passed : (p : Attr → Bool) (attrs : List Attr) → list_all p (filter p attrs) ≡ true
passed p [] = refl
passed p (a ∷ attrs) =
    cond_both (p a) (a ∷ filter p attrs) (filter p attrs) (λ l. list_all p l ≡ true)
    (λ e. and_from _ _ e (passed p attrs)) (λ e. passed p attrs)

distinct_kept : (q : Attr → Bool) (attrs : List Attr) → are_distinct_names attrs ≡ true
    → are_distinct_names (filter q attrs) ≡ true
distinct_kept q [] all = refl
distinct_kept q (a ∷ attrs) all =
    let each = and_parts (is_new_name a.name attrs) (are_distinct_names attrs) all in
    let rest = distinct_kept q attrs each.1 in
    cond_both (q a) (a ∷ filter q attrs) (filter q attrs) (λ l. are_distinct_names l ≡ true)
    (λ e. and_from _ _ (all_kept (is_other a.name) q attrs each.0) rest) (λ e. rest)

fewer : (q : Attr → Bool) (attrs : List Attr) → length (filter q attrs) ≤ length attrs
fewer q [] = omega arith
fewer q (a ∷ attrs) =
    let rest = fewer q attrs in
    cond_both (q a) (a ∷ filter q attrs) (filter q attrs) (λ l. length l ≤ length (a ∷ attrs))
    (λ e. omega (arith, rest)) (λ e. omega (arith, rest))

unmarked_writable : (e : Element) → IsWritable e → IsWritable (unmarked e)
unmarked_writable (element name decls attrs parts) is = (
  record {
    named = is.0.named;
    no_decls = is.0.no_decls;
    each = all_filter IsAttrWritable is_no_mark attrs is.0.each;
    distinct = distinct_kept is_no_mark attrs is.0.distinct;
    counted = omega (arith, fewer is_no_mark attrs, is.0.counted);
  },
  is.1,
)

unmarked_has_none : (e : Element) → is_new_name mark_name (attrs_of (unmarked e)) ≡ true
unmarked_has_none (element name decls attrs parts) = passed is_no_mark attrs

-- ---- heights

mutual
  pub height_kept : (e : Element) → height (without_declarations e) ≡ height e
  height_kept (element name decls attrs parts) = ap suc (depth_kept parts)

  depth_kept : (parts : Parts) → depth (parts_without parts) ≡ depth parts
  depth_kept none = refl
  depth_kept (text bytes parts) = depth_kept parts
  depth_kept (child first parts) = ap₂ (λ a b. max a b) (height_kept first) (depth_kept parts)

height_unmarked : (e : Element) → height (unmarked e) ≡ height e
height_unmarked (element name decls attrs parts) = refl

pub param_height : (e : Element) → height (param e) ≡ height e
param_height e = height_unmarked (without_declarations e) ∙ height_kept e

-- a parameter of an element that stands in so many others
pub param_is : (depth levels : ℕ) → 100 ≤ depth + levels → (e : Element) → IsResolved depth e
    → IsParamWritable levels (param e)
param_is depth levels room e is = record {
  writable = unmarked_writable (without_declarations e) is.writable;
  unmarked = unmarked_has_none (without_declarations e);
  shallow = omega (arith, is.shallow, param_height e);
}

-- ---- endpoint references

-- some parameters of an endpoint reference
record AreKept (params : List Element) : Type 0 where
  each : AllByRecursion (IsParamWritable 90) params
  short : params_length params ≤ 65536

low_enough : (levels : ℕ) (params : List Element) → list_all (λ p. nat_le (height p) 90) params ≡ true
    → AllByRecursion (IsParamWritable levels) params → AllByRecursion (IsParamWritable 90) params
low_enough levels [] low all = tt
low_enough levels (p ∷ params) low all =
    let each = and_parts (nat_le (height p) 90) _ low in (
      record {
        writable = all.0.writable;
        unmarked = all.0.unmarked;
        shallow = leb-true (height p) 90 each.0;
      },
      low_enough levels params each.1 all.1,
    )

kept_at : (params kept : List Element) (t : Bool) → may_keep params ≡ t
    → (if t then Some params else None) ≡ Some kept → AllByRecursion (IsParamWritable 100) params → AreKept kept
kept_at params kept false d e all = cc
kept_at params kept true d e all =
    let is : params ≡ kept = cc in
    let each = and_parts (list_all (λ p. nat_le (height p) 90) params) (nat_le (params_length params) 65536) d in
    subst AreKept is (record {
      each = low_enough 100 params each.0 all;
      short = leb-true (params_length params) 65536 each.1;
    })

params_are : (levels : ℕ) (parts : Parts) → AllByRecursion (IsResolved levels) (children_of parts)
    → AllByRecursion (IsParamWritable 100) (params_in parts)
params_are levels parts all =
    all_flat_map (IsResolved levels) (IsParamWritable 100) (λ e. map param (children_of (parts_of e)))
    (λ e is. all_map (IsResolved (suc levels)) (IsParamWritable 100) param (param_is (suc levels) 100 (omega arith))
    (children_of (parts_of e)) (children_resolved levels e is))
    (children_named (wsa (codes "ReferenceParameters")) parts)
    (all_filter (IsResolved levels) (has_name (wsa (codes "ReferenceParameters"))) (children_of parts) all)

address_at : (o : Option Element) (uri : List ℕ) → (o >>= λ e. uri_of e) ≡ Some uri → IsText 2048 uri
address_at None uri h = cc
address_at (Some e) uri h = uri_is e uri h

address_is : (parts : Parts) (uri : List ℕ) → address_in parts ≡ Some uri → IsText 2048 uri
unfolding address_in
address_is parts uri h = address_at (single (children_named (wsa (codes "Address")) parts)) uri h

epr_at : (a : Option (List ℕ)) (p : Option (List Element)) (x : Epr)
    → (a >>= λ address. (p >>= λ params. Some (record { address = address; params = params }))) ≡ Some x
    → ((address : List ℕ) → a ≡ Some address → IsText 2048 address)
    → ((params : List Element) → p ≡ Some params → AreKept params) → IsEprWritable x
epr_at None p x e address params = cc
epr_at (Some a) None x e address params = cc
epr_at (Some a) (Some p) x e address params =
    let is : record { address = a; params = p } ≡ x = cc in
    let kept = params p refl in
    subst IsEprWritable is (record { address = address a refl; each = kept.each; short = kept.short })

pub epr_in_is : (levels : ℕ) (parts : Parts) (x : Epr) → AllByRecursion (IsResolved levels) (children_of parts)
    → epr_in parts ≡ Some x → IsEprWritable x
unfolding epr_in
epr_in_is levels parts x all e =
    epr_at (address_in parts) (kept_params (params_in parts)) x e (address_is parts)
    (λ params d. kept_at (params_in parts) params (may_keep (params_in parts)) refl d (params_are levels parts all))

pub epr_is : (levels : ℕ) (e : Element) → IsResolved levels e → (x : Epr) → epr_of e ≡ Some x → IsEprWritable x
epr_is levels e is x h = epr_in_is (suc levels) (parts_of e) x (children_resolved levels e is) h
