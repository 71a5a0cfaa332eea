-- One header block before others.
use Rattle.std.proofs.Common.{◌≡◌, ◌++◌, List, [], ◌∷◌, ℕ, Bool, true, false, if◌then◌else◌, refl, map}
use Rattle.std.specs.List.{filter}
use Rattle.soap_document.specs.Profile.Tree.{Element}
use Rattle.soap_document.specs.Profile.View.{element_view}
use Rattle.soap_document.specs.declared.profile.tree.Element.{Element as CodeElement}
use Rattle.wsa_headers.specs.Addressing.{is_header, is_marked, blocks_named, params_of}
use Rattle.wsa_headers.specs.Endpoint.{param}

kept : (b : Bool) (e : Element) (es : List Element) → (if b then e ∷ es else es) ≡ (if b then e ∷ [] else []) ++ es
kept true e es = refl
kept false e es = refl

pub blocks_more : (local : List ℕ) (x : CodeElement) (xs : List CodeElement)
    → blocks_named local (map element_view (x ∷ xs))
    ≡ (if is_header local (element_view x) then element_view x ∷ [] else []) ++ blocks_named local (map element_view xs)
blocks_more local x xs =
    kept (is_header local (element_view x)) (element_view x) (blocks_named local (map element_view xs))

mapped : (b : Bool) (e : Element) (es : List Element)
    → map param (if b then e ∷ es else es) ≡ (if b then param e ∷ [] else []) ++ map param es
mapped true e es = refl
mapped false e es = refl

pub params_more : (x : CodeElement) (xs : List CodeElement) → params_of (map element_view (x ∷ xs))
    ≡ (if is_marked (element_view x) then param (element_view x) ∷ [] else []) ++ params_of (map element_view xs)
params_more x xs = mapped (is_marked (element_view x)) (element_view x) (filter is_marked (map element_view xs))
