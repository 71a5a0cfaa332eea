-- Refusals whose fault may be written.
use Rattle.std.specs.Prelude.{Option, IfSome}
use Rattle.std.specs.List.{AllByRecursion}
use Rattle.rm_base.specs.Text.{IsText}
use Rattle.soap_writer.specs.Writable.{IsNameWritable}
use Rattle.wsa_headers.specs.Writable.{IsEprWritable}
use Rattle.rm_message.specs.Elements.Writable.{IsAckWritable}
use Rattle.rm_message.specs.declared.elements.header.AckBlock.{AckBlock}
use Rattle.rm_message.specs.declared.refusal.Refusal.{Refusal}

-- an endpoint, an address, names and an identifier, and the acknowledgement that goes with it, if there is one
pub record IsRefusalWritable (refusal : Refusal) (ack : Option AckBlock) : Type 0 where
  pub endpoint : IsEprWritable refusal.endpoint
  pub relates : IfSome refusal.relates (IsText 2048)
  pub names : AllByRecursion IsNameWritable refusal.names
  pub ident : IfSome refusal.ident (IsText 512)
  pub block : IfSome ack IsAckWritable
