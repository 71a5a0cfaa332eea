-- One header block before others.
use Rattle.std.proofs.Common.{◌≡◌, ◌++◌, List, [], ◌∷◌, ℕ, Bool, true, false, if◌then◌else◌, refl, map}
use Rattle.std.specs.List.{filter}
use Rattle.soap_document.specs.Profile.Tree.{Element, name_of}
use Rattle.soap_document.specs.declared.profile.name.Expanded.{Expanded}
use Rattle.soap_document.specs.Profile.View.{element_view}
use Rattle.soap_document.specs.declared.profile.tree.Element.{Element as CodeElement}
use Rattle.message_reader.specs.Blocks.{is_block, blocks, is_not_understood, not_understood}

kept : (b : Bool) (e : Element) (es : List Element) → (if b then e ∷ es else es) ≡ (if b then e ∷ [] else []) ++ es
kept true e es = refl
kept false e es = refl

pub blocks_more : (name : Expanded) (x : CodeElement) (xs : List CodeElement)
    → blocks name (map element_view (x ∷ xs))
    ≡ (if is_block name (element_view x) then element_view x ∷ [] else []) ++ blocks name (map element_view xs)
blocks_more name x xs =
    kept (is_block name (element_view x)) (element_view x) (blocks name (map element_view xs))

named : (b : Bool) (e : Element) (es : List Element)
    → map name_of (if b then e ∷ es else es) ≡ (if b then name_of e ∷ [] else []) ++ map name_of es
named true e es = refl
named false e es = refl

pub refused_more : (soap : List ℕ) (x : CodeElement) (xs : List CodeElement)
    → not_understood soap (map element_view (x ∷ xs))
    ≡ (if is_not_understood soap (element_view x) then name_of (element_view x) ∷ [] else [])
    ++ not_understood soap (map element_view xs)
refused_more soap x xs =
    named (is_not_understood soap (element_view x)) (element_view x)
    (filter (is_not_understood soap) (map element_view xs))
