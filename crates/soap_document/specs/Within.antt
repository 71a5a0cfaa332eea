-- The elements of a document, and the bytes between the places of each.
use Rattle.std.specs.Prelude.{ℕ, ◌-◌, ◌≤◌, List, take, drop, length}
use Rattle.soap_document.specs.Tree.{Attribute, Element, element, Parts, text, child}
use Rattle.soap_document.specs.Grammar.{IsContent}

-- the elements of a tree
mutual
  -- an element is the root, or stands somewhere in it
  pub data IsWithin : Element → Element → Type 0 where
    root : (e : Element) → IsWithin e e
    deeper : (name : List ℕ) (attributes : List Attribute) (start end : ℕ) (parts : Parts) (e : Element)
        → IsAmong parts e → IsWithin (element name attributes start end parts) e

  -- it is one of the parts, or stands somewhere in one
  pub data IsAmong : Parts → Element → Type 0 where
    here : (first : Element) (parts : Parts) (e : Element) → IsWithin first e → IsAmong (child first parts) e
    behind_child : (first : Element) (parts : Parts) (e : Element) → IsAmong parts e → IsAmong (child first parts) e
    behind_text : (bytes : List ℕ) (parts : Parts) (e : Element) → IsAmong parts e → IsAmong (text bytes parts) e

-- the bytes from one place to another
abbrev pub between : ℕ → ℕ → List ℕ → List ℕ
between start end bytes = take (end - start) (drop start bytes)

-- what stands between two places of the bytes is content with these parts
pub record HasContent (bytes : List ℕ) (start end : ℕ) (parts : Parts) : Type 0 where
  pub low : start ≤ end
  pub high : end ≤ length bytes
  pub depth : ℕ
  pub is : IsContent depth start (between start end bytes) parts

-- what stands between the places of an element is its content
abbrev pub StandsBetween : List ℕ → Element → Type 0
StandsBetween bytes (element name attributes start end parts) = HasContent bytes start end parts
