-- What comes to a node: a message as it is read, as far as a node keeps it or repeats it, and a wish.
use Rattle.std.specs.Prelude.{None, IfSome, Result, Ok, Err}
use Rattle.std.specs.List.{AllByRecursion}
use Rattle.rm_base.specs.Text.{IsText}
use Rattle.rm_message.specs.Elements.Writable.{IsSequenceWritable, IsAckWritable, IsLapseWritable, IsLifecycleWritable}
use Rattle.rm_message.specs.declared.message.Body.{Body}
use Rattle.rm_message.specs.declared.message.Body.TheVariants as body
use Rattle.rm_message.specs.declared.message.Message.{Message}
use Rattle.rm_message.specs.declared.refusal.Refusal.{Refusal}
use Rattle.wsa_headers.specs.Writable.{IsAddressingWritable}
use Rattle.rm_wire.specs.Writable.{IsRefusalWritable}
use Rattle.rm_protocol.specs.Calls.{Wish}

-- a body element of the protocol may be written
abbrev pub IsBodyRead : Body → Type 0
IsBodyRead (body.Lifecycle x) = IsLifecycleWritable x
IsBodyRead _ = Unit {0}

-- a message as it is read: its headers may be written, and its body element, if it has one of the protocol
pub record WasRead (m : Message) : Type 0 where
  pub addressing : IsAddressingWritable m.addressing
  pub sequence : IfSome m.sequence IsSequenceWritable
  pub acks : AllByRecursion IsAckWritable m.acks
  pub asks : AllByRecursion (IsText 512) m.asks
  pub body : IsBodyRead m.body

-- what came is such a message, or was refused, and the fault that answers it may be written
abbrev pub IsContentRead : Result Message Refusal → Type 0
IsContentRead (Ok m) = WasRead m
IsContentRead (Err refusal) = IsRefusalWritable refusal None

-- what a node may be asked for: an address, and a duration that keeps its limits
pub record MayBeWished (wish : Wish) : Type 0 where
  pub to : IsText 2048 wish.to
  pub expires : IsLapseWritable wish.expires
