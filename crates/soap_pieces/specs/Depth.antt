-- What counts of open elements stand for.
use Rattle.std.specs.Prelude.{◌≡◌, ◌≢◌, ℕ, List, [], ◌∷◌, length, true, false, None}
use Rattle.soap_document.specs.Machine.{Frame, only_child}
use Rattle.soap_document.specs.Tree.{none}
use Rattle.soap_pieces.specs.declared.depth.Depth.{Depth}

-- how many it counts
abbrev pub open_count : Depth → ℕ
open_count d = d.open

-- the document, the last of these, has no part: no root has ended
abbrev pub HasNoRoot : Frame → List Frame → Type 0
HasNoRoot top [] = top.parts ≡ none
HasNoRoot top (frame ∷ frames) = HasNoRoot frame frames

-- the document has one root and nothing else
abbrev pub HasOneRoot : Frame → List Frame → Type 0
HasOneRoot top [] = only_child top.parts ≢ None
HasOneRoot top (frame ∷ frames) = HasOneRoot frame frames

-- as many elements are open as it counts, and it says whether a root has ended
pub record IsDepth (d : Depth) (top : Frame) (below : List Frame) : Type 0 where
  pub count : d.open ≡ length below
  pub before : d.ended ≡ false → HasNoRoot top below
  pub after : d.ended ≡ true → HasOneRoot top below
