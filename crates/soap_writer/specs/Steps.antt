-- What writers of pieces leave.
use Rattle.std.specs.Prelude.{◌≡◌, ℕ, List, [], ◌++◌, false, codes}
use Rattle.soap_lex.specs.Escapes.{escaped_text}
use Rattle.soap_document.specs.Profile.Items.{Item, a_declaration, an_attribute, a_text, a_child}
use Rattle.soap_writer.specs.ElementText.{attribute_prefix, element_text}
use Rattle.soap_writer.specs.declared.tags.Prefix.{Prefix}
use Rattle.soap_writer.specs.declared.tags.Prefix.TheVariants.{OfElement, OfAttribute}

-- a prefix, as it is written
abbrev pub prefix_text : Prefix → List ℕ
prefix_text OfElement = codes "n"
prefix_text (OfAttribute i) = attribute_prefix i

-- nothing of what there was is lost
pub record Grows (old new : List ℕ) : Type 0 where
  pub more : List ℕ
  pub there : new ≡ old ++ more

-- what an item is written as among the parts
abbrev pub part_text : Item → List ℕ
part_text (a_declaration b) = []
part_text (an_attribute a) = []
part_text (a_text bytes) = escaped_text bytes
part_text (a_child e) = element_text false e
