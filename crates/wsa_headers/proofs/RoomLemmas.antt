-- What is left behind texts is what is left behind their lengths.
use Rattle.std.proofs.Common.{◌≡◌, ℕ, ◌+◌, ◌-◌, List, [], ◌∷◌, ◌++◌, Bool, true, false, ◌||◌, nat_le, if◌then◌else◌}
use Rattle.std.proofs.Common.{Option, Some, None, is_some, length, length-append, refl, sym, ap, ◌∙◌, arith, codes}
use Rattle.std.proofs.Common.{decimal}
use Rattle.std.proofs.lemmas.Bool.Decides.{nat_tests}
use Rattle.std.specs.Str.{bytes_eq}
use Rattle.soap_lex.specs.Escapes.{text_escape, value_escape, escaped_text, escaped_value}
use Rattle.soap_lex.specs.Tests.{is_nil}
use Rattle.soap_document.specs.Profile.Items.{Item, a_declaration, an_attribute, a_text, a_child, parts_among}
use Rattle.soap_document.specs.Profile.Namespaces.{xml_space}
use Rattle.soap_document.specs.Profile.Tree.{Element, element, Parts, none, text, child}
use Rattle.soap_document.specs.Profile.View.{item_view, items_view, parts_view}
use Rattle.soap_document.specs.declared.profile.name.Expanded.{Expanded}
use Rattle.soap_document.specs.declared.profile.tree.Attr.{Attr}
use Rattle.soap_document.specs.declared.profile.tree.Item.{Item as CodeItem}
use Rattle.soap_writer.specs.ElementText.{quoted, written_name, declaration, attribute_prefix, attribute_text}
use Rattle.soap_writer.specs.ElementText.{attributes_text, element_text, parts_text}
use Rattle.soap_writer.specs.Values.Outcome.{◌>>=◌}
use Rattle.wsa_headers.specs.Endpoint.{params_length}
use Rattle.wsa_headers.specs.Room.{left_of, text_room, value_room, name_length, declaration_room, attribute_room}
use Rattle.wsa_headers.specs.Room.{attributes_room, tags_room, element_room, parts_room, elements_room}

same_bind : {A : Type 0} (o : Option A) → (o >>= λ x. Some x) ≡ o
same_bind None = refl
same_bind (Some x) = refl

one_more : (i : Item) (is : List Item) (room : ℕ) → parts_room (parts_among (i ∷ is)) room
    ≡ (parts_room (parts_among (i ∷ [])) room >>= λ left. parts_room (parts_among is) left)
one_more (a_declaration b) is room = refl
one_more (an_attribute a) is room = refl
one_more (a_text bytes) is room =
    ap (λ o. o >>= λ left. parts_room (parts_among is) left) (sym (same_bind (text_room bytes room)))
one_more (a_child e) is room =
    ap (λ o. o >>= λ left. parts_room (parts_among is) left) (sym (same_bind (element_room e room)))

-- one item before others
pub parts_more : (x : CodeItem) (xs : List CodeItem) (room : ℕ) → parts_room (parts_view (x ∷ xs)) room
    ≡ (parts_room (parts_view (x ∷ [])) room >>= λ left. parts_room (parts_view xs) left)
parts_more x xs room = one_more (item_view x) (items_view xs) room

-- ---- lengths

fits : (a b room : ℕ) (p q r : Bool) → nat_le a room ≡ p → nat_le b (room - a) ≡ q → nat_le (a + b) room ≡ r
    → ((if p then Some (room - a) else None) >>= λ left. if nat_le b left then Some (left - b) else None)
    ≡ (if r then Some (room - (a + b)) else None)
fits a b room true true true e f g = rw f (ap Some (omega arith))
fits a b room true true false e f g = absurd (grind (arith, nat_tests))
fits a b room true false true e f g = absurd (grind (arith, nat_tests))
fits a b room true false false e f g = rw f refl
fits a b room false q true e f g = absurd (grind (arith, nat_tests))
fits a b room false q false e f g = refl

two : (a b room : ℕ) → (left_of a room >>= λ left. left_of b left) ≡ left_of (a + b) room
two a b room = fits a b room (nat_le a room) (nat_le b (room - a)) (nat_le (a + b) room) refl refl refl

none_left : (room : ℕ) → left_of 0 room ≡ Some room
none_left room = let test : nat_le 0 room ≡ true = grind (arith, nat_tests) in rw test (ap Some (omega arith))

-- one behind another, of whatever is left
joined : (a b room : ℕ) (f : ℕ → Option ℕ) → ((left : ℕ) → f left ≡ left_of b left)
    → (left_of a room >>= λ left. f left) ≡ left_of (a + b) room
joined a b room f is = step (left_of a room) ∙ two a b room
  where
    step : (o : Option ℕ) → (o >>= λ left. f left) ≡ (o >>= λ left. left_of b left)
    step None = refl
    step (Some left) = is left

text_is : (bytes : List ℕ) (room : ℕ) → text_room bytes room ≡ left_of (length (escaped_text bytes)) room
text_is [] room = sym (none_left room)
text_is (byte ∷ bytes) room =
    joined (length (text_escape byte)) (length (escaped_text bytes)) room (λ left. text_room bytes left) (text_is bytes)
    ∙ ap (λ n. left_of n room) (sym (length-append (text_escape byte) (escaped_text bytes)))

value_is : (bytes : List ℕ) (room : ℕ) → value_room bytes room ≡ left_of (length (escaped_value bytes)) room
value_is [] room = sym (none_left room)
value_is (byte ∷ bytes) room =
    joined (length (value_escape byte)) (length (escaped_value bytes)) room (λ left. value_room bytes left)
    (value_is bytes)
    ∙ ap (λ n. left_of n room) (sym (length-append (value_escape byte) (escaped_value bytes)))

name_is : (prefix : List ℕ) (name : Expanded) → name_length (length prefix) name ≡ length (written_name prefix name)
name_is prefix name = by_kind (is_nil name.space) (bytes_eq name.space xml_space)
  where
    by_kind : (bare xml : Bool) → (if bare then length name.local else if xml then 4 + length name.local
        else length prefix + (1 + length name.local))
        ≡ length (if bare then name.local else if xml then codes "xml:" ++ name.local
        else prefix ++ (codes ":" ++ name.local))
    by_kind true xml = refl
    by_kind false true = sym (length-append (codes "xml:") name.local)
    by_kind false false = sym (length-append prefix (codes ":" ++ name.local)
        ∙ ap (λ n. length prefix + n) (length-append (codes ":") name.local))

quoted_length : (value : List ℕ) → length (quoted value) ≡ 2 + length (escaped_value value)
quoted_length value =
    let a = length-append (codes "\"") (escaped_value value ++ codes "\"") in
    let b = length-append (escaped_value value) (codes "\"") in
    let c : length (codes "\"") ≡ 1 = refl in
    omega (arith, a, b, c)

declaration_is : (prefix : List ℕ) (name : Expanded) (room : ℕ)
    → declaration_room (length prefix) name room ≡ left_of (length (declaration prefix name)) room
unfolding declaration_room
declaration_is prefix name room = by_kind (is_nil name.space || bytes_eq name.space xml_space)
  where
    by_kind : (bare : Bool) → (if bare then Some room
        else (left_of (10 + length prefix) room >>= λ left. value_room name.space left))
        ≡ left_of (length (if bare then [] else codes " xmlns:" ++ (prefix ++ (codes "=" ++ quoted name.space)))) room
    by_kind true = sym (none_left room)
    by_kind false =
        joined (10 + length prefix) (length (escaped_value name.space)) room (λ left. value_room name.space left)
        (value_is name.space)
        ∙ ap (λ n. left_of n room) (sym sizes)
      where
        sizes : length (codes " xmlns:" ++ (prefix ++ (codes "=" ++ quoted name.space))) ≡ 10 + length prefix + length
            (escaped_value name.space)
        sizes =
            let a = length-append (codes " xmlns:") (prefix ++ (codes "=" ++ quoted name.space)) in
            let b = length-append prefix (codes "=" ++ quoted name.space) in
            let c = length-append (codes "=") (quoted name.space) in
            let d = quoted_length name.space in
            let e : length (codes " xmlns:") ≡ 7 = refl in
            let f : length (codes "=") ≡ 1 = refl in
            omega (arith, a, b, c, d, e, f)

attribute_length : (prefix : List ℕ) (a : Attr) → length (attribute_text prefix a)
    ≡ length (declaration prefix a.name) + (4 + length (written_name prefix a.name) + length (escaped_value a.value))
attribute_length prefix a =
    let p = length-append (declaration prefix a.name)
    (codes " " ++ (written_name prefix a.name ++ (codes "=" ++ quoted a.value))) in
    let q = length-append (codes " ") (written_name prefix a.name ++ (codes "=" ++ quoted a.value)) in
    let r = length-append (written_name prefix a.name) (codes "=" ++ quoted a.value) in
    let s = length-append (codes "=") (quoted a.value) in
    let t = quoted_length a.value in
    let u : length (codes " ") ≡ 1 = refl in
    let v : length (codes "=") ≡ 1 = refl in
    omega (arith, p, q, r, s, t, u, v)

attribute_is : (prefix : List ℕ) (a : Attr) (room : ℕ)
    → attribute_room (length prefix) a room ≡ left_of (length (attribute_text prefix a)) room
unfolding attribute_room
attribute_is prefix a room =
    let name = length (written_name prefix a.name) in
    let value = length (escaped_value a.value) in
    let rest : (first : ℕ) → (left_of (4 + name_length (length prefix) a.name) first >>=
    λ second. value_room a.value second)
    ≡ left_of (4 + name + value) first =
    λ first. joined (4 + name_length (length prefix) a.name) value first (λ second. value_room a.value second)
    (value_is a.value)
    ∙ ap (λ n. left_of (4 + n + value) first) (name_is prefix a.name) in
    ap (λ o. o >>= λ first. left_of (4 + name_length (length prefix) a.name) first >>=
    λ second. value_room a.value second)
    (declaration_is prefix a.name room)
    ∙ joined (length (declaration prefix a.name)) (4 + name + value) room
    (λ first. left_of (4 + name_length (length prefix) a.name) first >>= λ second. value_room a.value second) rest
    ∙ ap (λ n. left_of n room) (sym (attribute_length prefix a))

attributes_are : (i : ℕ) (attrs : List Attr) (room : ℕ)
    → attributes_room i attrs room ≡ left_of (length (attributes_text i attrs)) room
attributes_are i [] room = sym (none_left room)
attributes_are i (a ∷ attrs) room =
    let prefix = attribute_prefix i in
    let size : 1 + length (decimal i) ≡ length prefix = sym (length-append (codes "q") (decimal i)) in
    ap (λ n. attribute_room n a room >>= λ left. attributes_room (i + 1) attrs left) size
    ∙ ap (λ o. o >>= λ left. attributes_room (i + 1) attrs left) (attribute_is prefix a room)
    ∙ joined (length (attribute_text prefix a)) (length (attributes_text (i + 1) attrs)) room
    (λ left. attributes_room (i + 1) attrs left) (attributes_are (i + 1) attrs)
    ∙ ap (λ n. left_of n room) (sym (length-append (attribute_text prefix a) (attributes_text (i + 1) attrs)))

tags_are : (name : Expanded) (attrs : List Attr) (room : ℕ) → tags_room name attrs room
    ≡ left_of (5 + length (written_name (codes "n") name) + (length (written_name (codes "n") name)
    + (length (declaration (codes "n") name) + length (attributes_text 0 attrs)))) room
unfolding tags_room
tags_are name attrs room =
    let w = length (written_name (codes "n") name) in
    let d = length (declaration (codes "n") name) in
    let a = length (attributes_text 0 attrs) in
    let named : name_length 1 name ≡ w = name_is (codes "n") name in
    let last : (second : ℕ) → (declaration_room 1 name second >>= λ third. attributes_room 0 attrs third) ≡ left_of
    (d + a) second =
    λ second. ap (λ o. o >>= λ third. attributes_room 0 attrs third) (declaration_is (codes "n") name second)
    ∙ joined d a second (λ third. attributes_room 0 attrs third) (attributes_are 0 attrs) in
    let middle : (first : ℕ) → (left_of (name_length 1 name) first >>= λ second. declaration_room 1 name second >>=
    λ third. attributes_room 0 attrs third)
    ≡ left_of (w + (d + a)) first =
    λ first. joined (name_length 1 name) (d + a) first
    (λ second. declaration_room 1 name second >>= λ third. attributes_room 0 attrs third) last
    ∙ ap (λ n. left_of (n + (d + a)) first) named in
    joined (5 + name_length 1 name) (w + (d + a)) room
    (λ first. left_of (name_length 1 name) first >>= λ second. declaration_room 1 name second >>=
    λ third. attributes_room 0 attrs third) middle
    ∙ ap (λ n. left_of (5 + n + (w + (d + a))) room) named

element_length : (w d a p : List ℕ) → length
    ((codes "<" ++ (w ++ ((d ++ ([] ++ a)) ++ codes ">"))) ++ (p ++ (codes "</" ++ (w ++ ([] ++ codes ">")))))
    ≡ 5 + length w + (length w + (length d + length a)) + length p
element_length w d a p =
    let one = length-append (codes "<" ++ (w ++ ((d ++ ([] ++ a)) ++ codes ">")))
    (p ++ (codes "</" ++ (w ++ ([] ++ codes ">")))) in
    let two = length-append (codes "<") (w ++ ((d ++ ([] ++ a)) ++ codes ">")) in
    let three = length-append w ((d ++ ([] ++ a)) ++ codes ">") in
    let four = length-append (d ++ ([] ++ a)) (codes ">") in
    let five = length-append d ([] ++ a) in
    let six = length-append p (codes "</" ++ (w ++ ([] ++ codes ">"))) in
    let seven = length-append (codes "</") (w ++ ([] ++ codes ">")) in
    let eight = length-append w ([] ++ codes ">") in
    let nine : length (codes "<") ≡ 1 = refl in
    let ten : length (codes ">") ≡ 1 = refl in
    let eleven : length (codes "</") ≡ 2 = refl in
    omega (arith, one, two, three, four, five, six, seven, eight, nine, ten, eleven)

mutual
  element_is : (e : Element) (room : ℕ) → element_room e room ≡ left_of (length (element_text false e)) room
  element_is (element name decls attrs parts) room =
      let w = written_name (codes "n") name in
      let d = declaration (codes "n") name in
      let a = attributes_text 0 attrs in
      let tags = 5 + length w + (length w + (length d + length a)) in
      ap (λ o. o >>= λ left. parts_room parts left) (tags_are name attrs room)
      ∙ joined tags (length (parts_text parts)) room (λ left. parts_room parts left) (parts_are parts)
      ∙ ap (λ n. left_of n room) (sym (element_length w d a (parts_text parts)))

  parts_are : (ps : Parts) (room : ℕ) → parts_room ps room ≡ left_of (length (parts_text ps)) room
  parts_are none room = sym (none_left room)
  parts_are (text bytes parts) room =
      ap (λ o. o >>= λ left. parts_room parts left) (text_is bytes room)
      ∙ joined (length (escaped_text bytes)) (length (parts_text parts)) room (λ left. parts_room parts left)
      (parts_are parts)
      ∙ ap (λ n. left_of n room) (sym (length-append (escaped_text bytes) (parts_text parts)))
  parts_are (child first parts) room =
      ap (λ o. o >>= λ left. parts_room parts left) (element_is first room)
      ∙ joined (length (element_text false first)) (length (parts_text parts)) room (λ left. parts_room parts left)
      (parts_are parts)
      ∙ ap (λ n. left_of n room) (sym (length-append (element_text false first) (parts_text parts)))

elements_are : (es : List Element) (room : ℕ) → elements_room es room ≡ left_of (params_length es) room
elements_are [] room = sym (none_left room)
elements_are (e ∷ es) room =
    ap (λ o. o >>= λ left. elements_room es left) (element_is e room)
    ∙ joined (length (element_text false e)) (params_length es) room (λ left. elements_room es left) (elements_are es)

some_left : (test : Bool) (left : ℕ) → is_some (if test then Some left else None) ≡ test
some_left true left = refl
some_left false left = refl

-- room is left exactly where the texts fit
pub room_decides : (es : List Element) (room : ℕ) → is_some (elements_room es room) ≡ nat_le (params_length es) room
room_decides es room =
    ap is_some (elements_are es room) ∙ some_left (nat_le (params_length es) room) (room - params_length es)
