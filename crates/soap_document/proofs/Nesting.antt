-- What the stack of open elements stands for where the innermost element ends.
use Rattle.std.proofs.Common.{◌≡◌, List, [], ◌∷◌, ◌++◌, reverse, map, true, false, not, refl, sym, ap, ◌∙◌}
use Rattle.std.proofs.lemmas.List.{reverse-append}
use Rattle.soap_document.specs.Tree.{Element, Parts, none, text, child}
use Rattle.soap_document.specs.Machine.{Frame, with_parts, join, is_none}
use Rattle.soap_document.specs.Seen.{Holds, is_begun}
use Rattle.soap_document.specs.declared.open_elements.OpenElements.{OpenElements}

last_of : {A : Type 0} (names rest : List A) (last outer : A) (below : List A) → reverse names ≡ outer ∷ below
    → names ≡ rest ++ last ∷ [] → (last ≡ outer) × (reverse rest ≡ below)
last_of names rest last outer below h e =
    let same : last ∷ reverse rest ≡ outer ∷ below =
    sym (ap reverse e ∙ reverse-append rest (last ∷ [])) ∙ h in
    (cc, cc)

some_child : (parts : Parts) (e : Element) → is_none (join parts (child e none)) ≡ false
some_child none e = refl
some_child (text x parts) e = refl
some_child (child u parts) e = refl

pub begun_child : (outer : Frame) (below : List Frame) (e : Element)
    → is_begun (with_parts outer (child e none)) below ≡ true
begun_child outer [] e = ap not (some_child outer.parts e)
begun_child outer (frame ∷ frames) e = refl

-- the innermost element is gone from the stack, and its handler still stands for it
pub record Popped {H : Type 0} (stands : H → Frame → List Frame → Type 0) (stack : OpenElements H) (top outer : Frame)
    (below : List Frame) : Type 0 where
  pub name : stack.name ≡ outer.name
  pub names : reverse stack.names.items ≡ map (λ (frame : Frame). frame.name) below
  pub begun : stack.begun ≡ true
  pub stands_for : stands stack.handler top (outer ∷ below)

pub popped : {H : Type 0} (stands : H → Frame → List Frame → Type 0) (old new : OpenElements H) (top outer : Frame)
    (below : List Frame) → Holds stands old top (outer ∷ below) → old.names.items ≡ new.names.items ++ new.name ∷ []
    → new.begun ≡ old.begun → stands new.handler top (outer ∷ below) → Popped stands new top outer below
popped stands old new top outer below h e b stood =
    let l = last_of old.names.items new.names.items new.name outer.name (map (λ (frame : Frame). frame.name) below)
    h.names e in
    record { name = l.0; names = l.1; begun = b ∙ h.begun; stands_for = stood }
