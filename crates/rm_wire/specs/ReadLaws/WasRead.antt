-- Messages as they are read: all rules of a message that is written but for those of a payload, which is whatever bytes
-- stood there. SOAP 1.2 Part 1, section 5, and WS-ReliableMessaging 1.2, section 3.
use Rattle.std.specs.Prelude.{◌≡◌, ℕ, List, Option, None, IfSome, Contains}
use Rattle.std.specs.List.{AllByRecursion}
use Rattle.rm_base.specs.Text.{IsText}
use Rattle.soap_writer.specs.Writable.{IsNameWritable}
use Rattle.wsa_headers.specs.Writable.{IsAddressingWritable}
use Rattle.wsa_headers.specs.declared.addressing.Addressing.{Addressing}
use Rattle.rm_message.specs.Elements.Writable.{IsSequenceWritable, IsAckWritable, IsLifecycleWritable}
use Rattle.rm_message.specs.declared.elements.header.SeqHeader.{SeqHeader}
use Rattle.rm_message.specs.declared.message.Body.{Body}
use Rattle.rm_message.specs.declared.message.Body.TheVariants as body
use Rattle.rm_message.specs.declared.message.Message.{Message}
use Rattle.message_writer.specs.Rules.{IsFaultWritable, IsPayloadWritable, action_for, bare_actions, protocol_actions}
use Rattle.message_writer.specs.Rules.{HasItsId, NoFaultFirst}

-- what stands in Body may be written, but for a payload, of which nothing is said
abbrev pub IsBodyRead : Body → Type 0
IsBodyRead body.Empty = Unit {0}
IsBodyRead (body.Payload p) = Unit {0}
IsBodyRead (body.Lifecycle x) = IsLifecycleWritable x
IsBodyRead (body.Fault f) = IsFaultWritable f

-- the action and the headers are those of the body: only a payload has a number, and its action is none of the protocol
abbrev pub AreReadTogether : Addressing → Option SeqHeader → Body → Type 0
AreReadTogether a sequence body.Empty = (sequence ≡ None) × Contains bare_actions a.action
AreReadTogether a sequence (body.Payload p) = ¬ (Contains protocol_actions a.action)
AreReadTogether a sequence (body.Lifecycle x) =
    (sequence ≡ None) × (a.action ≡ action_for x) × HasItsId x a.message_id
AreReadTogether a sequence (body.Fault f) = sequence ≡ None

-- a message as it is read
pub record WasRead (m : Message) : Type 0 where
  pub addressing : IsAddressingWritable m.addressing
  pub sequence : IfSome m.sequence IsSequenceWritable
  pub acks : AllByRecursion IsAckWritable m.acks
  pub asks : AllByRecursion (IsText 512) m.asks
  pub not_understood : AllByRecursion IsNameWritable m.not_understood
  pub body : IsBodyRead m.body
  pub together : AreReadTogether m.addressing m.sequence m.body

-- the rules of a payload, where there is one: its own, and that it begins with no Fault unless it has a number
abbrev pub PayloadFits : List ℕ → Option SeqHeader → Body → Type 0
PayloadFits soap sequence body.Empty = Unit {0}
PayloadFits soap sequence (body.Payload p) =
    (rules : IsPayloadWritable soap p) × (sequence ≡ None → NoFaultFirst soap rules.closed.parts)
PayloadFits soap sequence (body.Lifecycle x) = Unit {0}
PayloadFits soap sequence (body.Fault f) = Unit {0}
