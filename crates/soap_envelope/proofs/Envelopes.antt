-- What is read is the envelope.
use Rattle.std.proofs.Common.{◌≡◌, ℕ, List, [], ◌++◌, Option, Some, None, option_map, Bool, true, false, not, nat_eq}
use Rattle.std.proofs.Common.{Result, Ok, codes, refl, sym, ap, subst, ◌∙◌}
use Rattle.std.proofs.lemmas.Slice.Eq.{bytes_eq-Decides}
use Rattle.std.specs.Cmp.Lexicographic.{pointwise}
use Rattle.std.specs.List.{slice_range}
use Rattle.soap_document.specs.Tree as written
use Rattle.soap_document.specs.Profile.Document.{IsPlaced, place_of}
use Rattle.soap_document.specs.Profile.Tree.{Element, element, Parts, name_of, decls_of, parts_of, children_of}
use Rattle.rm_base.specs.declared.message.Binding.{Binding}
use Rattle.soap_document.specs.declared.profile.name.Expanded.{Expanded}
use Rattle.soap_document.specs.declared.profile.tree.Attr.{Attr}
use Rattle.soap_document.specs.Profile.View.{element_view}
use Rattle.soap_document.specs.declared.profile.place.Place.{Place}
use Rattle.soap_document.specs.declared.profile.tree.Element.{Element as CodeElement}
use Rattle.soap_envelope.specs.Envelope.{name_in, bytes_within, IsOutline, IsHeader, without, blocks, Envelope}
use Rattle.soap_envelope.specs.Envelope.{IsEnvelope}
use Rattle.soap_envelope.specs.Scope.{IsScope}
use Rattle.soap_document.specs.Profile.Answer.{err_of}
use Rattle.soap_envelope.proofs.Placed.{mapped}

-- ---- the header blocks

pub no_blocks : (outer : List Binding) (h : Option CodeElement) (items : List Element) (scope : List Binding)
    → h ≡ None → items ≡ [] → scope ≡ [] → IsHeader outer (option_map element_view h) items scope
no_blocks outer h items scope e f g =
    subst (λ (o : Option CodeElement). IsHeader outer (option_map element_view o) items scope) (sym e)
    (subst (λ (xs : List Element). IsHeader outer None xs scope) (sym f)
    (subst (λ (s : List Binding). IsHeader outer None [] s) (sym g) without))

pub some_blocks : (outer : List Binding) (h : Option CodeElement) (e : CodeElement) (items : List Element)
    (parts : Parts) (decls scope : List Binding) → h ≡ Some e → items ≡ children_of parts
    → parts ≡ parts_of (element_view e) → decls ≡ decls_of (element_view e) → IsScope (decls ++ outer) scope
    → IsHeader outer (option_map element_view h) items scope
some_blocks outer h e items parts decls scope is children p d s =
    subst (λ (o : Option CodeElement). IsHeader outer (option_map element_view o) items scope) (sym is)
    (subst (λ (xs : List Element). IsHeader outer (Some (element_view e)) xs scope) (sym (children ∙ ap children_of p))
    (blocks (element_view e) scope (subst (λ (ds : List Binding). IsScope (ds ++ outer) scope) d s)))

-- ---- the whole

abbrev attrs_of : Element → List Attr
attrs_of (element name decls attrs parts) = attrs

element_is : (t : Element) (n : Expanded) → name_of t ≡ n → t ≡ element n (decls_of t) (attrs_of t) (parts_of t)
element_is (element name decls attrs parts) n e = ap (λ (m : Expanded). element m decls attrs parts) e

bytes_at : (bytes : List ℕ) (w : written.Element) (place : Place) → place_of w ≡ place
    → slice_range bytes place.start place.end ≡ bytes_within bytes w
bytes_at bytes (written.element name attributes start end parts) place e =
    ap (λ (p : Place). slice_range bytes p.start p.end) (sym e)

pub is_envelope : (soap bytes : List ℕ) (tree : Element) (last : Option Place) (place : Place) (header : Option Element)
    (body : Element) (decls : List Binding) (envelope : Envelope) → IsPlaced bytes tree last → last ≡ Some place
    → name_of tree ≡ name_in soap (codes "Envelope") → IsOutline soap (parts_of tree) header body
    → decls ≡ decls_of tree
    → IsHeader decls header envelope.headers envelope.header_scope
    → envelope.payload ≡ slice_range bytes place.start place.end → IsScope (decls_of body ++ decls) envelope.scope
    → envelope.body ≡ parts_of body → IsEnvelope soap bytes envelope
is_envelope soap bytes tree last place header body decls envelope p at named o d h b s c =
    let m = mapped place_of (written.last_within p.raw) place (sym p.place ∙ at) in record {
      raw = p.raw;
      document = p.is;
      decls = decls;
      attrs = attrs_of tree;
      parts = parts_of tree;
      resolved = p.resolved ∙ ap (λ (t : Element). Some t) (element_is tree (name_in soap (codes "Envelope")) named)
          ∙ ap (λ (ds : List Binding). Some (element (name_in soap (codes "Envelope")) ds (attrs_of tree) (parts_of
          tree))) (sym d);
      header = header;
      body = body;
      outline = o;
      blocks = h;
      written_body = m.0;
      last = m.1;
      payload = b ∙ bytes_at bytes m.0 place m.2;
      scope = s;
      content = c;
    }

pub name_is : (n : Expanded) (space local : List ℕ) → n.space ≡ space → n.local ≡ local
    → n ≡ record { space = space; local = local }
name_is n space local e f = ap (λ (s : List ℕ). record { space = s; local = n.local }) e
    ∙ ap (λ (l : List ℕ). record { space = space; local = l }) f

-- what a test that two slices differ says where it is false
pub same_slices : (xs ys : List ℕ) (r : Bool) → r ≡ not (pointwise nat_eq xs ys) → r ≡ false → xs ≡ ys
same_slices xs ys r e f = (bytes_eq-Decides xs ys).0 (is_true (pointwise nat_eq xs ys) (sym e ∙ f))
  where
    is_true : (b : Bool) → not b ≡ false → b ≡ true
    is_true true h = refl
    is_true false h = cc

-- ---- the answers

abbrev ok_of : (A E : Type 0) → A → Result A E
ok_of A E a = Ok a

pub ok_apart : (A : Type 0) {E : Type 0} (a : A) (e : E) → ok_of A E a ≡ err_of A e → ⊥
ok_apart A a e h = cc
