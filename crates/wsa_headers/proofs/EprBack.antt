-- Endpoint references are read back as they were written.
use Rattle.std.proofs.Common.{◌≡◌, ℕ, ◌≤◌, Bool, true, false, List, [], ◌∷◌, refl, ap, ap₂, ◌∙◌, Some, codes, map}
use Rattle.std.proofs.Common.{nat_le}
use Rattle.std.specs.List.{AllByRecursion, filter, list_all}
use Rattle.std.proofs.lemmas.Bool.{and_parts, le-leb}
use Rattle.std.proofs.lemmas.List.{append-nil}
use Rattle.rm_base.specs.Text.{IsText}
use Rattle.soap_document.specs.Profile.Namespaces.{is_new_name}
use Rattle.soap_document.specs.Profile.Payload.{height}
use Rattle.soap_document.specs.Profile.Tree.{Element, element, Parts, none, text, without_declarations, attrs_of}
use Rattle.soap_document.specs.Profile.Tree.{children_of}
use Rattle.soap_document.specs.declared.profile.tree.Attr.{Attr}
use Rattle.soap_writer.specs.ReadBack.{with_mark, written_tree}
use Rattle.soap_writer.specs.Writable.{IsWritable}
use Rattle.soap_writer.specs.Nodes.Node.{more, leaf, nodes_tree}
use Rattle.soap_writer.specs.Values.Children.{children_named}
use Rattle.wsa_headers.specs.Endpoint.{wsa, address_in, mark_name, is_no_mark, unmarked, param, params_length}
use Rattle.wsa_headers.specs.Endpoint.{params_in, may_keep, epr_in}
use Rattle.wsa_headers.specs.TextLaws.{uri_back}
use Rattle.wsa_headers.specs.Texts.{tag_of, params_nodes, holder_nodes, epr_nodes}
use Rattle.wsa_headers.specs.Writable.{IsParamWritable, IsEprWritable}
use Rattle.wsa_headers.specs.declared.endpoint.Epr.{Epr}
use Rattle.wsa_headers.specs.declared.tag.Tag.TheVariants as tags

-- what is known of elements as they are written
pub record Known : Type 0 where
  pub plain : (tree : Element) → IsWritable tree → without_declarations (written_tree false tree) ≡ tree
  pub marked : (tree : Element) → IsWritable tree → without_declarations (written_tree true tree) ≡ with_mark tree

-- ---- parameters

kept_all : (attrs : List Attr) → is_new_name mark_name attrs ≡ true → filter is_no_mark attrs ≡ attrs
kept_all [] new = refl
kept_all (a ∷ attrs) new =
    let (here, others) = and_parts (is_no_mark a) (is_new_name mark_name attrs) new in
    rw here (ap (λ l. a ∷ l) (kept_all attrs others))

unmarked_same : (e : Element) → is_new_name mark_name (attrs_of e) ≡ true → unmarked e ≡ e
unmarked_same (element name decls attrs parts) new = ap (λ l. element name decls l parts) (kept_all attrs new)

mark_taken : (e : Element) → is_new_name mark_name (attrs_of e) ≡ true → unmarked (with_mark e) ≡ e
mark_taken (element name decls attrs parts) new = ap (λ l. element name decls l parts) (kept_all attrs new)

param_again : Known → (marked : Bool) (levels : ℕ) (e : Element) → IsParamWritable levels e
    → param (written_tree marked e) ≡ e
param_again known true levels e is = ap unmarked (known.marked e is.writable) ∙ mark_taken e is.unmarked
param_again known false levels e is = ap unmarked (known.plain e is.writable) ∙ unmarked_same e is.unmarked

pub params_again : Known → (marked : Bool) (levels : ℕ) (ps : List Element) → AllByRecursion (IsParamWritable levels) ps
    → map param (map (written_tree marked) ps) ≡ ps
params_again known marked levels [] all = refl
params_again known marked levels (p ∷ ps) all =
    ap₂ (λ (x : Element) (l : List Element). x ∷ l) (param_again known marked levels p all.0)
    (params_again known marked levels ps all.1)

pub params_are : (soap : List ℕ) (marked : Bool) (ps : List Element)
    → children_of (nodes_tree soap (params_nodes marked ps)) ≡ map (written_tree marked) ps
params_are soap marked [] = refl
params_are soap marked (p ∷ ps) = ap (λ l. written_tree marked p ∷ l) (params_are soap marked ps)

shallow_all : (ps : List Element) → AllByRecursion (IsParamWritable 90) ps
    → list_all (λ p. nat_le (height p) 90) ps ≡ true
shallow_all [] all = refl
shallow_all (p ∷ ps) all = let here = le-leb (height p) 90 all.0.shallow in rw here (shallow_all ps all.1)

may_keep_again : (ps : List Element) → AllByRecursion (IsParamWritable 90) ps → params_length ps ≤ 65536
    → may_keep ps ≡ true
may_keep_again ps all short =
    let shallow = shallow_all ps all in
    let fits = le-leb (params_length ps) 65536 short in
    rw (shallow, fits) refl

-- ---- endpoint references

address_again : (parts : Parts) (uri : List ℕ) → IsText 2048 uri
    → children_named (wsa (codes "Address")) parts ≡ element (wsa (codes "Address")) [] [] (text uri none) ∷ []
    → address_in parts ≡ Some uri
unfolding address_in
address_again parts uri is at =
    let one = uri_back (element (wsa (codes "Address")) [] [] (text uri none)) uri is refl in
    rw at one

epr_from : (parts : Parts) (address : List ℕ) (params : List Element) → address_in parts ≡ Some address
    → params_in parts ≡ params → may_keep params ≡ true
    → epr_in parts ≡ Some (record { address = address; params = params })
unfolding epr_in
epr_from parts address params a b c = rw (a, b, c) refl

-- what stands in an endpoint reference with these parameters, as it is read
abbrev read_parts : List ℕ → List ℕ → List Element → Parts
read_parts soap address ps = nodes_tree soap (more (leaf (tag_of tags.Address) address) (holder_nodes ps))

pub epr_again : Known → (soap : List ℕ) (x : Epr) → IsEprWritable x → epr_in (nodes_tree soap (epr_nodes x)) ≡ Some x
epr_again known soap x is =
    epr_from (nodes_tree soap (epr_nodes x)) x.address x.params
    (address_again (nodes_tree soap (epr_nodes x)) x.address is.address (one x.params)) (held x.params is.each)
    (may_keep_again x.params is.each is.short)
  where
    one : (ps : List Element)
        → children_named (wsa (codes "Address")) (read_parts soap x.address ps)
        ≡ element (wsa (codes "Address")) [] [] (text x.address none) ∷ []
    one [] = refl
    one (p ∷ ps) = refl

    held : (ps : List Element) → AllByRecursion (IsParamWritable 90) ps
        → params_in (read_parts soap x.address ps) ≡ ps
    held [] all = refl
    held (p ∷ ps) all =
        append-nil (map param (children_of (nodes_tree soap (params_nodes false (p ∷ ps)))))
        ∙ ap (map param) (params_are soap false (p ∷ ps)) ∙ params_again known false 90 (p ∷ ps) all
