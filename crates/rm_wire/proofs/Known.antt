-- What the layers below know of what they write.
use Rattle.std.proofs.Common.{◌≡◌, List, ◌++◌, ℕ, Some, Ok, false}
use Rattle.std.specs.List.{AllByRecursion}
use Rattle.soap_document.specs.Profile.Tree.{Element, without_declarations}
use Rattle.soap_writer.specs.ReadBack.{written_tree}
use Rattle.soap_writer.specs.Writable.{IsWritable}
use Rattle.soap_writer.specs.Nodes.Node.{node_tree}
use Rattle.wsa_headers.specs.Addressing.{addressing_in}
use Rattle.wsa_headers.specs.Writable.{IsAddressingWritable, addressing_blocks, IsAddressingBlock, IsForeign}
use Rattle.wsa_headers.specs.declared.addressing.Addressing.{Addressing}
use Rattle.rm_message.specs.Elements.Headers.{header_of}
use Rattle.rm_message.specs.Elements.Lifecycle.{lifecycle_of}
use Rattle.rm_message.specs.Elements.Texts.{header_node, lifecycle_node}
use Rattle.rm_message.specs.Elements.Writable.{IsHeaderWritable, IsLifecycleWritable}
use Rattle.rm_message.specs.declared.elements.header.Header.{Header}
use Rattle.rm_message.specs.declared.elements.lifecycle.Lifecycle.{Lifecycle}

-- an element is kept but for its declarations
abbrev pub KnowsTrees : Type 0
KnowsTrees = (tree : Element) → IsWritable tree → without_declarations (written_tree false tree) ≡ tree

-- blocks and elements are read back
pub record Known : Type 0 where
  pub addressing : (soap : List ℕ) (a : Addressing) (others : List Element) → IsAddressingWritable a
      → AllByRecursion IsForeign others → addressing_in (addressing_blocks soap a ++ others) ≡ Ok a
  pub own : (soap : List ℕ) (a : Addressing) → AllByRecursion IsAddressingBlock (addressing_blocks soap a)
  pub header : (soap : List ℕ) (h : Header) → IsHeaderWritable h
      → header_of (node_tree soap (header_node h)) ≡ Ok (Some h)
  pub foreign : (soap : List ℕ) (h : Header) → IsForeign (node_tree soap (header_node h))
  pub lifecycle : (soap : List ℕ) (x : Lifecycle) → IsLifecycleWritable x
      → lifecycle_of (node_tree soap (lifecycle_node x)) ≡ Ok (Some x)
  pub trees : KnowsTrees
