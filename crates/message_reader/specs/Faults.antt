-- What a Fault says: SOAP 1.2 Part 1, section 5.4, where SOAP has a namespace. No Fault is refused: what can't be read
-- is absent, and of children that stand twice the first counts.
use Rattle.std.specs.Prelude.{ℕ, List, [], ◌∷◌, if◌then◌else◌, Option, Some, None, codes, map}
use Rattle.std.specs.Str.{bytes_eq}
use Rattle.soap_lex.specs.Tests.{is_nil}
use Rattle.soap_document.specs.Profile.Tree.{Element, parts_of, children_of, without_declarations}
use Rattle.rm_base.specs.declared.message.Binding.{Binding}
use Rattle.soap_document.specs.declared.profile.name.Expanded.{Expanded}
use Rattle.soap_writer.specs.Values.Children.{name_in, children_named}
use Rattle.soap_writer.specs.Values.Outcome.{◌>>=◌}
use Rattle.soap_writer.specs.Values.QNames.{within, qname_in}
use Rattle.soap_writer.specs.Values.Values.{trimmed_text}
use Rattle.wsa_headers.specs.Addressing.{first_of}
use Rattle.rm_message.specs.declared.message.FaultBody.{FaultBody}
use Rattle.rm_message.specs.declared.message.FaultCode.{FaultCode}
use Rattle.rm_message.specs.declared.message.FaultCode.TheVariants.{VersionMismatch, MustUnderstand}
use Rattle.rm_message.specs.declared.message.FaultCode.TheVariants.{DataEncodingUnknown, Sender, Receiver}
use Rattle.message_reader.specs.declared.fault.Codes.{Codes}

-- the first child of a name of SOAP
abbrev pub first_named : List ℕ → List ℕ → Element → Option Element
first_named soap local e = first_of (children_named (name_in soap local) (parts_of e))

-- the name in the Value of a Code or a Subcode that stands in these elements, the innermost of which comes first
-- (5.4.1)
unfoldable pub value_name : List ℕ → List Binding → Element → List Element → Option Expanded
value_name soap scope holder outer = do
  value ← first_named soap (codes "Value") holder
  bytes ← trimmed_text value
  qname_in (within (value ∷ holder ∷ outer) scope) bytes

-- the codes of SOAP (5.4.6)
abbrev pub code_called : List ℕ → Option FaultCode
code_called local =
    if bytes_eq local (codes "VersionMismatch") then Some VersionMismatch
    else if bytes_eq local (codes "MustUnderstand") then Some MustUnderstand
    else if bytes_eq local (codes "DataEncodingUnknown") then Some DataEncodingUnknown
    else if bytes_eq local (codes "Sender") then Some Sender
    else if bytes_eq local (codes "Receiver") then Some Receiver else None

-- the code that a name is
abbrev pub code_named : List ℕ → Expanded → Option FaultCode
code_named soap name = if bytes_eq name.space soap then code_called name.local else None

-- a name that is in a namespace
abbrev pub spaced : Expanded → Option Expanded
spaced name = if is_nil name.space then None else Some name

-- the name of a Subcode
unfoldable pub subcode_name : List ℕ → List Binding → Element → List Element → Option Expanded
subcode_name soap scope subcode outer = do
  name ← value_name soap scope subcode outer
  spaced name

-- the name of the Subcode within a Subcode
unfoldable pub inner_name : List ℕ → List Binding → Element → List Element → Option Expanded
inner_name soap scope subcode outer = do
  inner ← first_named soap (codes "Subcode") subcode
  subcode_name soap scope inner (subcode ∷ outer)

-- with a code, the name of a Subcode, and the name of the one within it; without the first there is no second
abbrev pub codes_with : FaultCode → Option Expanded → Option Expanded → Codes
codes_with code None inner = record { code = code; subcode = None; inner = None }
codes_with code (Some name) inner = record { code = code; subcode = Some name; inner = inner }

-- with a code, the Subcode that there is
abbrev pub codes_below : List ℕ → List Binding → FaultCode → Option Element → List Element → Codes
codes_below soap scope code None outer = record { code = code; subcode = None; inner = None }
codes_below soap scope code (Some subcode) outer =
    codes_with code (subcode_name soap scope subcode outer) (inner_name soap scope subcode outer)

-- the code of a Fault with what is below it, where there is one of SOAP
unfoldable pub codes_in : List ℕ → List Binding → Element → Option Codes
codes_in soap scope fault = do
  holder ← first_named soap (codes "Code") fault
  name ← value_name soap scope holder (fault ∷ [])
  code ← code_named soap name
  Some (codes_below soap scope code (first_named soap (codes "Subcode") holder) (holder ∷ fault ∷ []))

-- otherwise it is Receiver, and there is nothing below it
abbrev pub codes_or_receiver : Option Codes → Codes
codes_or_receiver None = record { code = Receiver; subcode = None; inner = None }
codes_or_receiver (Some found) = found

-- the text of the first Text of a Reason (5.4.2)
unfoldable pub reason_in : List ℕ → Element → Option (List ℕ)
reason_in soap fault = do
  reason ← first_named soap (codes "Reason") fault
  words ← first_named soap (codes "Text") reason
  trimmed_text words

-- a text, empty where there is none
abbrev pub or_empty : Option (List ℕ) → List ℕ
or_empty None = []
or_empty (Some bytes) = bytes

-- what stands in an element, without declarations; nothing where there is no element
abbrev pub stripped_in : Option Element → List Element
stripped_in None = []
stripped_in (Some e) = map without_declarations (children_of (parts_of e))

-- the elements of Detail (5.4.5)
abbrev pub detail_in : List ℕ → Element → List Element
detail_in soap fault = stripped_in (first_named soap (codes "Detail") fault)

-- these codes, with a reason and a detail
abbrev pub fault_with : Codes → List ℕ → List Element → FaultBody
fault_with found reason detail = record {
  code = found.code;
  subcode = found.subcode;
  inner = found.inner;
  reason = reason;
  detail = detail;
}

-- what a Fault says, where these bindings are in force around it
abbrev pub fault_in : List ℕ → List Binding → Element → FaultBody
fault_in soap scope fault =
    fault_with (codes_or_receiver (codes_in soap scope fault)) (or_empty (reason_in soap fault)) (detail_in soap fault)
