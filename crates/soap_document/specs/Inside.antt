-- Content on its own, and the document around it.
use Rattle.std.specs.Prelude.{ℕ, ◌+◌, List, [], ◌++◌, length, codes}
use Rattle.soap_document.specs.Grammar.{IsContent}
use Rattle.soap_document.specs.Tree.{Element, element, Parts}

-- the bytes are the content of a root <a>, with these parts
abbrev pub IsInside : List ℕ → Parts → Type 0
IsInside bytes parts = IsContent 1 (length (codes "<a>")) bytes parts

-- the document with a root <a> around content
abbrev pub around : List ℕ → List ℕ
around bytes = codes "<a>" ++ (bytes ++ codes "</a>")

-- its root, where the content has these parts
abbrev pub root_around : List ℕ → Parts → Element
root_around bytes parts = element (codes "a") [] 3 (3 + length bytes) parts
