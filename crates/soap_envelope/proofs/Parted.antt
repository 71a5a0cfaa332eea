-- Parts that are taken one by one.
use Rattle.std.proofs.Common.{◌≡◌, List, [], ◌∷◌, Bool, true, false, refl, sym, ap, ◌∙◌}
use Rattle.soap_document.specs.Profile.Items.{Item, a_declaration, an_attribute, a_text, a_child, parts_among, is_part}
use Rattle.soap_document.specs.Profile.Steps.{join}
use Rattle.soap_document.specs.Profile.Tree.{Parts, none, text, child}
use Rattle.soap_document.specs.Profile.View.{item_view, items_view, parts_view}
use Rattle.soap_document.specs.declared.profile.tree.Item.{Item as CodeItem}

pub join_none : (p : Parts) → join p none ≡ p
join_none none = refl
join_none (text bytes more) = ap (text bytes) (join_none more)
join_none (child first more) = ap (child first) (join_none more)

join_assoc : (p q r : Parts) → join (join p q) r ≡ join p (join q r)
join_assoc none q r = refl
join_assoc (text bytes more) q r = ap (text bytes) (join_assoc more q r)
join_assoc (child first more) q r = ap (child first) (join_assoc more q r)

first_of : (v : Item) (rest : List Item) → join (parts_among (v ∷ [])) (parts_among rest) ≡ parts_among (v ∷ rest)
first_of (a_declaration b) rest = refl
first_of (an_attribute a) rest = refl
first_of (a_text bytes) rest = refl
first_of (a_child e) rest = refl

-- a part goes to the end
pub taken : (p : Parts) (v : CodeItem) (rest : List CodeItem)
    → join (join p (parts_view (v ∷ []))) (parts_view rest) ≡ join p (parts_view (v ∷ rest))
taken p v rest =
    join_assoc p (parts_view (v ∷ [])) (parts_view rest) ∙ ap (join p) (first_of (item_view v) (items_view rest))

no_part : (v : Item) (rest : List Item) → is_part v ≡ false → parts_among (v ∷ rest) ≡ parts_among rest
no_part (a_declaration b) rest e = refl
no_part (an_attribute a) rest e = refl
no_part (a_text bytes) rest e = cc
no_part (a_child e) rest h = cc

-- and what is none is passed over
pub passed : (p : Parts) (v : CodeItem) (rest : List CodeItem) → is_part (item_view v) ≡ false
    → join p (parts_view rest) ≡ join p (parts_view (v ∷ rest))
passed p v rest e = ap (join p) (sym (no_part (item_view v) (items_view rest) e))
