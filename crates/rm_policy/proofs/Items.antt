-- One item of content before others.
use Rattle.std.proofs.Common.{◌≡◌, ◌++◌, List, [], ◌∷◌, Bool, true, false, ◌&&◌, if◌then◌else◌, refl}
use Rattle.soap_document.specs.Tokens.{is_white}
use Rattle.soap_document.specs.Profile.Items.{Item, a_declaration, an_attribute, a_text, a_child, parts_among}
use Rattle.soap_document.specs.Profile.Tree.{Element, name_of}
use Rattle.soap_document.specs.Profile.View.{item_view, items_view, parts_view}
use Rattle.soap_document.specs.declared.profile.tree.Item.{Item as CodeItem}
use Rattle.rm_policy.specs.Content.{children_as, holds_only}
use Rattle.rm_policy.specs.Words.{is_called}
use Rattle.rm_policy.specs.declared.word.Word.{Word}

kept : (b : Bool) (e : Element) (es : List Element) → (if b then e ∷ es else es) ≡ (if b then e ∷ [] else []) ++ es
kept true e es = refl
kept false e es = refl

child_more : (word : Word) (i : Item) (is : List Item) → children_as word (parts_among (i ∷ is))
    ≡ children_as word (parts_among (i ∷ [])) ++ children_as word (parts_among is)
child_more word (a_declaration b) is = refl
child_more word (an_attribute a) is = refl
child_more word (a_text bytes) is = refl
child_more word (a_child e) is = kept (is_called word (name_of e)) e (children_as word (parts_among is))

-- the children of one item stand before those of the others
pub children_more : (word : Word) (x : CodeItem) (xs : List CodeItem) → children_as word (parts_view (x ∷ xs))
    ≡ children_as word (parts_view (x ∷ [])) ++ children_as word (parts_view xs)
children_more word x xs = child_more word (item_view x) (items_view xs)

both : (a b : Bool) → (a && b) ≡ ((a && true) && b)
both true b = refl
both false b = refl

only_more : (words : List Word) (i : Item) (is : List Item) → holds_only words (parts_among (i ∷ is))
    ≡ (holds_only words (parts_among (i ∷ [])) && holds_only words (parts_among is))
only_more words (a_declaration b) is = refl
only_more words (an_attribute a) is = refl
only_more words (a_text bytes) is = both (is_white bytes) (holds_only words (parts_among is))
only_more words (a_child e) is = both _ (holds_only words (parts_among is))

-- content holds nothing else where its first item does not, nor do the others
pub holds_only_more : (words : List Word) (x : CodeItem) (xs : List CodeItem) → holds_only words (parts_view (x ∷ xs))
    ≡ (holds_only words (parts_view (x ∷ [])) && holds_only words (parts_view xs))
holds_only_more words x xs = only_more words (item_view x) (items_view xs)
