-- Header blocks and which of them are understood: SOAP 1.2 Part 1, sections 2.4, 5.2.2 and 5.2.3, where SOAP has a
-- namespace; and SOAP 1.1, sections 4.2.2 and 4.2.3, where it is that of SOAP 1.1.
use Rattle.std.specs.Prelude.{ℕ, List, ◌++◌, Bool, true, false, not, ◌&&◌, ◌||◌, if◌then◌else◌, Option, Some, None}
use Rattle.std.specs.Prelude.{is_some, codes, map}
use Rattle.std.specs.List.{filter, list_any}
use Rattle.std.specs.Str.{bytes_eq}
use Rattle.soap_document.specs.Profile.Tree.{Element, name_of, attrs_of}
use Rattle.soap_document.specs.declared.profile.name.Expanded.{Expanded}
use Rattle.soap_writer.specs.Values.Children.{name_in, is_same, has_name, value_among}
use Rattle.soap_writer.specs.Values.Values.{is_true, trimmed}
use Rattle.soap_envelope.specs.Soap.{is_soap11}
use Rattle.wsa_headers.specs.Addressing.{is_marked}
use Rattle.wsa_headers.specs.Endpoint.{wsa}
use Rattle.rm_message.specs.Elements.Headers.{header_name}
use Rattle.rm_message.specs.Elements.Outcome.{rm}

-- whether a block is the header of this name: a reference parameter is none, whatever it is called
abbrev pub is_block : Expanded → Element → Bool
is_block name e = has_name name e && not (is_marked e)

-- the header blocks of this name, in order
abbrev pub blocks : Expanded → List Element → List Element
blocks name headers = filter (is_block name) headers

-- whether there is one
abbrev pub has_block : Expanded → List Element → Bool
has_block name headers = list_any (is_block name) headers

-- the headers of WS-Addressing (Core, 3.2)
abbrev pub is_addressing : Expanded → Bool
is_addressing name =
    is_same name (wsa (codes "To")) || is_same name (wsa (codes "From")) || is_same name (wsa (codes "ReplyTo"))
    || is_same name (wsa (codes "FaultTo")) || is_same name (wsa (codes "Action"))
    || is_same name (wsa (codes "MessageID")) || is_same name (wsa (codes "RelatesTo"))

-- the header of WS-ReliableMessaging that goes with a fault of SOAP 1.1 (4)
abbrev pub sequence_fault_name : Expanded
sequence_fault_name = rm (codes "SequenceFault")

-- the header that only one version has: NotUnderstood of SOAP 1.2, and in SOAP 1.1 SequenceFault
abbrev pub version_header : List ℕ → Expanded
version_header soap = if is_soap11 soap then sequence_fault_name else name_in soap (codes "NotUnderstood")

-- the blocks that are understood: those of WS-Addressing, WS-ReliableMessaging and WS-MakeConnection, and that one
abbrev pub is_understood : List ℕ → Expanded → Bool
is_understood soap name =
    is_addressing name || is_some (header_name name) || is_same name (version_header soap)

-- whether a mark says that a block has to be understood: in SOAP 1.1 `1` alone does
abbrev pub demands : Bool → Option (List ℕ) → Bool
demands first None = false
demands first (Some value) = if first then bytes_eq (trimmed value) (codes "1") else is_true value

-- whether a block has to be understood by whom it is for (5.2.3; SOAP 1.1, 4.2.3)
abbrev pub must_be_understood : List ℕ → Element → Bool
must_be_understood soap e =
    demands (is_soap11 soap) (value_among (name_in soap (codes "mustUnderstand")) (attrs_of e))

-- the attribute that says whom a block is for (5.2.2; SOAP 1.1, 4.2.2)
abbrev pub role_name : List ℕ → Expanded
role_name soap = name_in soap (if is_soap11 soap then codes "actor" else codes "role")

-- the roles of the node that a message is sent to (2.2)
abbrev pub is_role12 : List ℕ → List ℕ → Bool
is_role12 soap role =
    bytes_eq role (soap ++ codes "/role/next") || bytes_eq role (soap ++ codes "/role/ultimateReceiver")

-- or in SOAP 1.1 the one that has a name (4.2.2)
abbrev pub is_own_role : List ℕ → List ℕ → Bool
is_own_role soap role =
    if is_soap11 soap then bytes_eq role (codes "http://schemas.xmlsoap.org/soap/actor/next")
    else is_role12 soap role

-- a block without a role is for the last node on the way (5.2.2; SOAP 1.1, 4.2.2)
abbrev pub is_own : List ℕ → Option (List ℕ) → Bool
is_own soap None = true
is_own soap (Some role) = is_own_role soap role

-- whether a block is for us, has to be understood, and is not
abbrev pub is_not_understood : List ℕ → Element → Bool
is_not_understood soap e =
    not (is_marked e) && not (is_understood soap (name_of e)) && must_be_understood soap e
    && is_own soap (value_among (role_name soap) (attrs_of e))

-- the names of all such blocks, in order
abbrev pub not_understood : List ℕ → List Element → List Expanded
not_understood soap headers = map name_of (filter (is_not_understood soap) headers)
