-- What the header of a fault of SOAP 1.1 tells: WS-ReliableMessaging 1.2, section 4.
use Rattle.std.specs.Prelude.{List, Option, Some, None, if◌then◌else◌}
use Rattle.soap_document.specs.Profile.Tree.{Element}
use Rattle.soap_document.specs.declared.profile.name.Expanded.{Expanded}
use Rattle.message_reader.specs.Faults11.{Told}
use Rattle.message_writer.specs.Faults11.{goes_ahead}

-- what a SequenceFault tells of a fault with this subcode and detail
abbrev pub told_by : Option Expanded → List Element → Option Told
told_by None detail = None
told_by (Some name) detail =
    if goes_ahead name then Some (record { subcode = Some name; detail = detail }) else None
