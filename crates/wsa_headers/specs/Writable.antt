-- Endpoint references and addressing properties that are read back as they were written.
use Rattle.std.specs.Prelude.{◌≡◌, ◌≤◌, ◌⊎◌, ℕ, List, [], true, false, IfSome}
use Rattle.std.specs.List.{AllByRecursion}
use Rattle.std.specs.Str.{bytes_eq}
use Rattle.rm_base.specs.Limits as limits
use Rattle.rm_base.specs.Text.{IsText}
use Rattle.soap_document.specs.Profile.Namespaces.{is_new_name}
use Rattle.soap_document.specs.Profile.Payload.{height}
use Rattle.soap_document.specs.Profile.Tree.{Element, name_of, attrs_of, children_of}
use Rattle.soap_writer.specs.Frame.{addressing_space}
use Rattle.soap_writer.specs.Writable.{IsWritable}
use Rattle.soap_writer.specs.Nodes.Node.{nodes_tree}
use Rattle.wsa_headers.specs.Addressing.{is_marked}
use Rattle.wsa_headers.specs.Endpoint.{mark_name, params_length}
use Rattle.wsa_headers.specs.Texts.{addressing_nodes}
use Rattle.wsa_headers.specs.declared.addressing.Addressing.{Addressing}
use Rattle.wsa_headers.specs.declared.endpoint.Epr.{Epr}

-- a reference parameter as it is kept: an element that may be written, without a mark, and with at most so many
-- elements in one another
pub record IsParamWritable (levels : ℕ) (e : Element) : Type 0 where
  pub writable : IsWritable e
  pub unmarked : is_new_name mark_name (attrs_of e) ≡ true
  pub shallow : height e ≤ levels

-- an address, and parameters that keep the limits of an endpoint reference
pub record IsEprWritable (x : Epr) : Type 0 where
  pub address : IsText 2048 x.address
  pub each : AllByRecursion (IsParamWritable limits.content_depth) x.params
  pub short : params_length x.params ≤ limits.parameter_bytes

-- addresses, endpoint references, and parameters that fit into a header, where two elements stand around them
pub record IsAddressingWritable (a : Addressing) : Type 0 where
  pub to : IsText 2048 a.to
  pub action : IsText 2048 a.action
  pub message_id : IfSome a.message_id (IsText 2048)
  pub relates : IfSome a.relates (IsText 2048)
  pub reply_to : IfSome a.reply_to IsEprWritable
  pub fault_to : IfSome a.fault_to IsEprWritable
  pub each : AllByRecursion (IsParamWritable 98) a.params

-- ---- among the blocks of a header

-- the header blocks of the properties of a message, as they are read
abbrev pub addressing_blocks : List ℕ → Addressing → List Element
addressing_blocks soap a = children_of (nodes_tree soap (addressing_nodes a))

-- such a block: a reference parameter, or else one of WS-Addressing, without attributes
abbrev pub IsAddressingBlock : Element → Type 0
IsAddressingBlock e = (is_marked e ≡ true) ⊎ (((name_of e).space ≡ addressing_space) × (attrs_of e ≡ []))

-- another block: no reference parameter, and none of WS-Addressing
pub record IsForeign (e : Element) : Type 0 where
  pub unmarked : is_marked e ≡ false
  pub space : bytes_eq (name_of e).space addressing_space ≡ false
