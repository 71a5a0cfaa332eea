-- Header blocks and endpoint references as they are written within a frame: WS-Addressing 1.0 Core, sections 2.2 and
-- 3.2,
-- and SOAP Binding, section 3.
use Rattle.std.specs.Prelude.{ℕ, List, [], ◌∷◌, Bool, true, false, Option, Some, None, codes}
use Rattle.soap_document.specs.Profile.Tree.{Element}
use Rattle.soap_writer.specs.Frame.{of_addressing}
use Rattle.soap_writer.specs.Nodes.Node.{Tag as NodeTag, framed, Nodes, full, whole, nothing, more, leaf, each_node}
use Rattle.wsa_headers.specs.declared.addressing.Addressing.{Addressing}
use Rattle.wsa_headers.specs.declared.endpoint.Epr.{Epr}
use Rattle.wsa_headers.specs.declared.tag.Tag.{Tag}
use Rattle.wsa_headers.specs.declared.tag.Tag.TheVariants as tags

-- the local name of a tag
abbrev pub local_of : Tag → List ℕ
local_of tags.To = codes "To"
local_of tags.Action = codes "Action"
local_of tags.MessageID = codes "MessageID"
local_of tags.RelatesTo = codes "RelatesTo"
local_of tags.ReplyTo = codes "ReplyTo"
local_of tags.FaultTo = codes "FaultTo"
local_of tags.Address = codes "Address"
local_of tags.ReferenceParameters = codes "ReferenceParameters"

-- it has the prefix of WS-Addressing
abbrev pub tag_of : Tag → NodeTag
tag_of tag = framed of_addressing (local_of tag)

-- parameters, marked or not, one behind the other
abbrev pub params_nodes : Bool → List Element → Nodes
params_nodes marked params = each_node (whole marked) params nothing

-- the parameters of an endpoint reference, where there are some
abbrev pub holder_nodes : List Element → Nodes
holder_nodes [] = nothing
holder_nodes (p ∷ params) = more (full (tag_of tags.ReferenceParameters) [] (params_nodes false (p ∷ params))) nothing

-- what stands in an endpoint reference
abbrev pub epr_nodes : Epr → Nodes
epr_nodes x = more (leaf (tag_of tags.Address) x.address) (holder_nodes x.params)

-- a header of an address, and one of an endpoint reference, where there is one, before others
abbrev pub uri_before : Tag → Option (List ℕ) → Nodes → Nodes
uri_before tag None others = others
uri_before tag (Some uri) others = more (leaf (tag_of tag) uri) others

-- a header of an endpoint reference, where there is one, before others
abbrev pub epr_before : Tag → Option Epr → Nodes → Nodes
epr_before tag None others = others
epr_before tag (Some x) others = more (full (tag_of tag) [] (epr_nodes x)) others

-- the header blocks of the properties of a message
abbrev pub addressing_nodes : Addressing → Nodes
addressing_nodes a =
    more (leaf (tag_of tags.To) a.to) (more (leaf (tag_of tags.Action) a.action) (uri_before tags.MessageID a.message_id
    (uri_before tags.RelatesTo a.relates (epr_before tags.ReplyTo a.reply_to (epr_before tags.FaultTo a.fault_to
    (params_nodes true a.params))))))
