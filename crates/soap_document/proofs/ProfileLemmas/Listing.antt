-- The items that parts are.
use Rattle.std.proofs.Common.{◌≡◌, List, [], ◌∷◌, ◌++◌, true, length, refl, ap, ◌∙◌}
use Rattle.std.specs.List.{list_all}
use Rattle.std.proofs.lemmas.List.{length-map}
use Rattle.soap_document.specs.Profile.Items.{Item, a_declaration, an_attribute, a_text, a_child, is_part, listed}
use Rattle.soap_document.specs.Profile.Items.{parts_among}
use Rattle.soap_document.specs.Profile.Steps.{join}
use Rattle.soap_document.specs.Profile.View.{AreParts, item_view, items_view, parts_view}
use Rattle.soap_document.specs.declared.profile.tree.Item.{Item as CodeItem}
use Rattle.soap_document.proofs.ProfileLemmas.Items.{items_push, parts-append}

listed_among : (items : List Item) → list_all is_part items ≡ true → listed (parts_among items) ≡ items
listed_among [] e = refl
listed_among (a_declaration b ∷ items) e = cc
listed_among (an_attribute a ∷ items) e = cc
listed_among (a_text bytes ∷ items) e = ap (λ (xs : List Item). a_text bytes ∷ xs) (listed_among items e)
listed_among (a_child c ∷ items) e = ap (λ (xs : List Item). a_child c ∷ xs) (listed_among items e)

-- where all are parts, they are the items that their parts are
pub listed_parts : (items : List CodeItem) → AreParts items → listed (parts_view items) ≡ items_view items
listed_parts items h = listed_among (items_view items) h

pub length-listed : (items : List CodeItem) → AreParts items → length (listed (parts_view items)) ≡ length items
length-listed items h = ap (λ (xs : List Item). length xs) (listed_parts items h) ∙ length-map items item_view

pub parts_view-push : (xs : List CodeItem) (x : CodeItem) → parts_view (xs ++ x ∷ [])
    ≡ join (parts_view xs) (parts_view (x ∷ []))
parts_view-push xs x = ap parts_among (items_push xs x) ∙ parts-append (items_view xs) (item_view x ∷ [])
