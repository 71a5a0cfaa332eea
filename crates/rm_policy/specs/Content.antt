-- What stands in the elements of an assertion: WS-RM Policy 1.2, section 2.
use Rattle.std.specs.Prelude.{List, [], ◌∷◌, Bool, true, not, ◌&&◌, ◌||◌, if◌then◌else◌, Option, Some, None}
use Rattle.std.specs.List.{filter}
use Rattle.soap_document.specs.Tokens.{is_white}
use Rattle.soap_document.specs.Profile.Tree.{Element, Parts, none, text, child, name_of, parts_of, children_of}
use Rattle.rm_policy.specs.Words.{is_called, is_one_of, is_ours}
use Rattle.rm_policy.specs.declared.word.Word.{Word}

-- the children that are such elements, in order
abbrev pub children_as : Word → Parts → List Element
children_as word parts = filter (λ e. is_called word (name_of e)) (children_of parts)

-- nothing but such elements, elements of other namespaces, which are passed over, and white space
abbrev pub holds_only : List Word → Parts → Bool
holds_only words none = true
holds_only words (text bytes parts) = is_white bytes && holds_only words parts
holds_only words (child e parts) = (is_one_of words (name_of e) || not (is_ours (name_of e))) && holds_only words parts

-- the content of an element that holds nothing else
abbrev pub content_of : List Word → Element → Option Parts
content_of words e = if holds_only words (parts_of e) then Some (parts_of e) else None

-- the first of several, where there are any
abbrev pub first_of : List Element → Option Element
first_of [] = None
first_of (e ∷ others) = Some e
