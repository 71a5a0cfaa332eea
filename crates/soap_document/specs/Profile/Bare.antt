-- Names without a prefix.
use Rattle.std.specs.Prelude.{ℕ, List, Bool, true, false, Some, None}
use Rattle.std.specs.List.{list_all}
use Rattle.soap_document.specs.Tokens.{cut}
use Rattle.soap_document.specs.declared.attribute.WrittenAttribute.{WrittenAttribute}

-- a written name has no prefix
abbrev pub is_bare : List ℕ → Bool
is_bare name = elim (cut 58 name) [ None ↦ true | Some parts ↦ false ]

-- no attribute has one: names that are distinct as they are written are distinct as they are expanded
abbrev pub are_bare : List WrittenAttribute → Bool
are_bare attributes = list_all (λ a. is_bare a.name) attributes
