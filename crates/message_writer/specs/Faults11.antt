-- A fault as SOAP 1.1 writes it (4.4), with the header SequenceFault of WS-ReliableMessaging 1.2 (4).
use Rattle.std.specs.Prelude.{◌≡◌, ℕ, List, [], ◌∷◌, ◌++◌, Bool, true, false, not, ◌&&◌, if◌then◌else◌, Option, Some}
use Rattle.std.specs.Prelude.{None, IsSome, codes}
use Rattle.std.specs.Str.{bytes_eq}
use Rattle.soap_document.specs.Profile.Tree.{Element}
use Rattle.soap_document.specs.declared.profile.name.Expanded.{Expanded}
use Rattle.soap_writer.specs.Frame.{addressing_space, messaging_space, connection_space}
use Rattle.soap_writer.specs.Nodes.Node.{Tag as NodeTag, bare, Node, Nodes, full, nothing, words, more}
use Rattle.wsa_headers.specs.Texts.{params_nodes}
use Rattle.rm_message.specs.Elements.Texts.{r}
use Rattle.soap_writer.specs.Values.Children.{name_in}
use Rattle.message_writer.specs.declared.tag.Tag.TheVariants as tags
use Rattle.message_writer.specs.Text.{tag_of, qname, qname_notes, words_of}
use Rattle.rm_message.specs.declared.message.FaultBody.{FaultBody}
use Rattle.rm_message.specs.declared.message.FaultCode.{FaultCode}
use Rattle.rm_message.specs.declared.message.FaultCode.TheVariants.{VersionMismatch, MustUnderstand}
use Rattle.rm_message.specs.declared.message.FaultCode.TheVariants.{DataEncodingUnknown, Sender, Receiver}

-- the local name of a code in SOAP 1.1 (4.4.1); it has no DataEncodingUnknown
abbrev pub code11 : FaultCode → Option (List ℕ)
code11 VersionMismatch = Some (codes "VersionMismatch")
code11 MustUnderstand = Some (codes "MustUnderstand")
code11 DataEncodingUnknown = None
code11 Sender = Some (codes "Client")
code11 Receiver = Some (codes "Server")

-- as a value
abbrev pub code11_text : Option (List ℕ) → List ℕ
code11_text None = []
code11_text (Some local) = codes "s:" ++ local

-- whether a subcode goes into the header: those of WS-ReliableMessaging, but for the one that answers CreateSequence
-- (WS-ReliableMessaging 1.2, 4.6)
abbrev pub goes_ahead : Expanded → Bool
goes_ahead name =
    bytes_eq name.space messaging_space && not (bytes_eq name.local (codes "CreateSequenceRefused"))

-- an element of text in no namespace
abbrev pub plain_leaf : List ℕ → List ℕ → Node
plain_leaf local bytes = full (bare local) [] (words_of bytes)

-- faultcode: the code, or the subcode itself
abbrev pub faultcode_of : FaultCode → Expanded → Bool → Node
faultcode_of code name true = plain_leaf (codes "faultcode") (code11_text (code11 code))
faultcode_of code name false = full (bare (codes "faultcode")) (qname_notes name) (words (qname name))

-- with a subcode or without
abbrev pub faultcode_node : FaultCode → Option Expanded → Node
faultcode_node code None = plain_leaf (codes "faultcode") (code11_text (code11 code))
faultcode_node code (Some name) = faultcode_of code name (goes_ahead name)

-- whether a fault has a SequenceFault
abbrev pub is_told_ahead : Option Expanded → Bool
is_told_ahead None = false
is_told_ahead (Some name) = goes_ahead name

-- elements in one, where there are any
abbrev pub held_in : NodeTag → List Element → Nodes
held_in tag [] = nothing
held_in tag (e ∷ es) = more (full tag [] (params_nodes false (e ∷ es))) nothing

-- detail, which goes with the subcode
abbrev pub detail11_nodes : Bool → List Element → Nodes
detail11_nodes true es = nothing
detail11_nodes false es = held_in (bare (codes "detail")) es

-- Fault
abbrev pub fault11_node : FaultBody → Node
fault11_node f = full (tag_of tags.Fault) []
    (more (faultcode_node f.code f.subcode) (more (plain_leaf (codes "faultstring") f.reason)
    (detail11_nodes (is_told_ahead f.subcode) f.detail)))

-- SequenceFault, with this local name of WS-ReliableMessaging
abbrev pub sequence_fault_node : List ℕ → List Element → Node
sequence_fault_node local detail = full (r (codes "SequenceFault")) []
    (more (full (r (codes "FaultCode")) [] (words (codes "r:" ++ local))) (held_in (r (codes "Detail")) detail))

-- the header of a fault, if it has one
abbrev pub ahead_nodes : Option Expanded → List Element → List Node
ahead_nodes None detail = []
ahead_nodes (Some name) detail = if goes_ahead name then sequence_fault_node name.local detail ∷ [] else []

-- the codes and subcodes that SOAP 1.1 tells apart: without a subcode, with one that goes ahead, or with one that says
-- the code
pub data Tells : FaultCode → Option Expanded → Type 0 where
  plainly : (code : FaultCode) → Tells code None
  ahead : (code : FaultCode) (local : List ℕ) → goes_ahead (name_in messaging_space local) ≡ true
      → Tells code (Some (name_in messaging_space local))
  of_addressing : (local : List ℕ) → Tells Sender (Some (name_in addressing_space local))
  of_connection : (local : List ℕ) → Tells Receiver (Some (name_in connection_space local))
  of_create : Tells Receiver (Some (name_in messaging_space (codes "CreateSequenceRefused")))

-- a fault that is read in SOAP 1.1 as it is
pub record IsFault11 (f : FaultBody) : Type 0 where
  pub code : IsSome (code11 f.code)
  pub tells : Tells f.code f.subcode
  pub inner : f.inner ≡ None
