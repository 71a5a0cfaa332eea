-- What a message may carry: content that is closed under its own declarations.
use Rattle.std.specs.Prelude.{◌≡◌, ◌≤◌, ℕ, suc, max, List, [], Bool, true, ◌&&◌, IsTrue, Some}
use Rattle.rm_base.specs.Limits.{content_depth}
use Rattle.soap_document.specs.Inside.{IsInside}
use Rattle.soap_document.specs.Tokens.{is_white}
use Rattle.soap_document.specs.Tree as written
use Rattle.soap_document.specs.Profile.Namespaces.{resolve_parts}
use Rattle.soap_document.specs.Profile.Tree.{Element, element, Parts, none, text, child}

-- how deep elements are nested in one another
abbrev mutual
  pub height : Element → ℕ
  height (element name decls attrs parts) = suc (depth parts)

  pub depth : Parts → ℕ
  depth none = 0
  depth (text bytes parts) = depth parts
  depth (child first parts) = max (height first) (depth parts)

-- no text but white space stands beside the elements, however it is written
abbrev pub is_white_outside : Parts → Bool
is_white_outside none = true
is_white_outside (text bytes parts) = is_white bytes && is_white_outside parts
is_white_outside (child first parts) = is_white_outside parts

-- the bytes are content within tags where only xml is bound, with at most so many elements in one another and no text
-- outside of them
pub record IsClosedContent (bytes : List ℕ) : Type 0 where
  pub raw : written.Parts
  pub is : IsInside bytes raw
  pub parts : Parts
  pub resolved : resolve_parts [] raw ≡ Some parts
  pub shallow : depth parts ≤ content_depth
  pub white : IsTrue (is_white_outside parts)
