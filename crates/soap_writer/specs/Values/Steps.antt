-- What loops hold.
use Rattle.std.specs.Prelude.{◌≡◌, List, [], ◌∷◌, ◌++◌, Option, Some, None, option_map, map}
use Rattle.std.specs.Borrow.{Bor}
use Rattle.rm_base.specs.declared.text.TextError.{TextError}
use Rattle.rm_base.specs.declared.text.TextError.TheVariants as texts
use Rattle.soap_document.specs.Profile.Tree.{Element}
use Rattle.soap_document.specs.Profile.View.{element_view}
use Rattle.soap_document.specs.declared.profile.tree.Element.{Element as CodeElement}
use Rattle.soap_writer.specs.declared.values.flaw.Flaw.{Flaw}
use Rattle.soap_writer.specs.declared.values.flaw.Flaw.TheVariants.{Memory, Malformed}

-- what was found, as a list
abbrev pub listed : Option (Bor CodeElement) → List Element
listed None = []
listed (Some found) = element_view found.now ∷ []

-- the trees of elements that are lent
abbrev pub lent_trees : List (Bor CodeElement) → List Element
lent_trees elements = map (λ e. element_view e.now) elements

-- what was read of later ones, behind the first
abbrev pub onto : {A : Type 0} → List A → Option (List A) → Option (List A)
onto front later = option_map (λ more. front ++ more) later

-- why there is no text, without the reason
abbrev pub flaw_from : TextError → Flaw
flaw_from texts.Memory = Memory
flaw_from texts.Empty = Malformed
flaw_from (texts.TooLong len) = Malformed
flaw_from texts.NotText = Malformed
