-- The sequence that a fault's Detail names: WS-ReliableMessaging 1.2, section 4.
use Rattle.std.specs.Prelude.{ℕ, ◌&&◌, if◌then◌else◌, List, [], ◌∷◌, codes, Option, Some, None}
use Rattle.std.specs.Str.{bytes_eq}
use Rattle.soap_document.specs.Profile.Tree.{Element, element}
use Rattle.soap_writer.specs.Frame.{messaging_space}
use Rattle.soap_writer.specs.Values.Values.{trimmed_text}
use Rattle.record_batch.specs.Fact.{Fact}
use Rattle.record_batch.specs.Sequences.Words.{Text}
use Rattle.record_batch.specs.Sequences.Find.{find_outgoing}

-- the text of an Identifier, without white space at its ends
abbrev pub ident_of : Element → Option Text
ident_of (element name decls attrs parts) =
    if bytes_eq name.space messaging_space && bytes_eq name.local (codes "Identifier")
    then trimmed_text (element name decls attrs parts) else None

-- the outgoing sequence with an identifier, where there is one
abbrev pub found_by : List Fact → Option Text → Option ℕ
found_by r None = None
found_by r (Some q) = find_outgoing r q

-- the first of two, where there is one
abbrev pub first_found : Option ℕ → Option ℕ → Option ℕ
first_found (Some s) more = Some s
first_found None more = more

-- the first of the elements that names an outgoing sequence
abbrev pub named_in : List Fact → List Element → Option ℕ
named_in r [] = None
named_in r (e ∷ es) = first_found (found_by r (ident_of e)) (named_in r es)
