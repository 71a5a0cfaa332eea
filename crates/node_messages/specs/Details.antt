-- The elements of a Detail that name a sequence: WS-ReliableMessaging 1.2, section 4.
use Rattle.std.specs.Prelude.{Bool, ◌&&◌, codes}
use Rattle.std.specs.Str.{bytes_eq}
use Rattle.soap_document.specs.Profile.Tree.{Element, name_of}
use Rattle.soap_writer.specs.Frame.{messaging_space}

-- the element is an Identifier
abbrev pub is_identifier : Element → Bool
is_identifier e = bytes_eq (name_of e).space messaging_space && bytes_eq (name_of e).local (codes "Identifier")
