-- The text of an Identifier, as the readers of elements have it.
use Rattle.std.proofs.Common.{◌≡◌, cond, refl}
use Rattle.std.specs.Prelude.{None}
use Rattle.soap_document.specs.Profile.Tree.{Element, element}
use Rattle.soap_writer.specs.Values.Values.{trimmed_text}
use Rattle.rm_protocol.specs.Detail.{ident_of}
use Rattle.node_messages.specs.Details.{is_identifier}

-- an Identifier has its text, and no other element has one
pub ident-is : (e : Element) → ident_of e ≡ cond (is_identifier e) (trimmed_text e) None
ident-is (element name decls attrs parts) = refl
