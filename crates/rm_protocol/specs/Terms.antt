-- What the definitions of this crate take from the layers that write, read and date.
use Rattle.std.specs.Prelude.{◌≡◌, ◌⊎◌, ℕ, ◌<◌, ◌≤◌, Bool, List, [], Option, None, IfSome, Result, Ok, Err}
use Rattle.std.specs.Option.{option_to_list}
use Rattle.rm_message.specs.declared.elements.header.AckBlock.{AckBlock}
use Rattle.rm_base.specs.declared.lapse.Lapse.{Lapse}
use Rattle.rm_message.specs.declared.message.Body.TheVariants as body
use Rattle.rm_message.specs.declared.message.FaultBody.{FaultBody}
use Rattle.rm_message.specs.declared.message.Message.{Message}
use Rattle.rm_message.specs.declared.refusal.FaultKind.{FaultKind}
use Rattle.rm_message.specs.declared.refusal.FaultKind.TheVariants.{SequenceClosed}
use Rattle.rm_message.specs.declared.refusal.Refusal.{Refusal}
use Rattle.record_batch.specs.Fact.{Fact}
use Rattle.record_batch.specs.Sequences.Words.{Text}
use Rattle.record_batch.specs.Sequences.Makers.{counter}

-- how many bytes a batch of records takes; the moment at which a duration ends that begins at a moment; whether bytes
-- may stand in a Body; the fault that a refusal is answered with, with the block that it carries or repeats; what the
-- text of a message is read as; and whether the network, which keeps every packet, has room for one more behind these
pub record Terms : Type 0 where
  pub size : List Fact → ℕ
  pub deadline : ℕ → Lapse → Option ℕ
  pub is_content : Text → Bool
  pub fault : Refusal → Option AckBlock → Message
  pub read : Message → Result Message Refusal
  pub takes : List Message → Message → Bool

-- the fault SequenceClosed carries the block as a header; every other one has no acknowledgement among its headers
abbrev pub header_blocks : FaultKind → Option AckBlock → List AckBlock
header_blocks SequenceClosed block = option_to_list block
header_blocks _ block = []

-- a fault says nothing but that it is one, and what its blocks acknowledge
pub record IsFault (blocks : List AckBlock) (m : Message) : Type 0 where
  pub content : FaultBody
  pub body : m.body ≡ body.Fault content
  pub acks : m.acks ≡ blocks
  pub sequence : m.sequence ≡ None

-- a duration ends after the moment at which it begins, or never
abbrev pub EndsLater : Terms → Type 0
EndsLater terms = (now : ℕ) (lapse : Lapse) → IfSome (terms.deadline now lapse) (λ (moment : ℕ). now < moment)

-- a message arrives as it was said, or is refused
abbrev pub ReadsBack : Terms → Type 0
ReadsBack terms =
    (m : Message) → (terms.read m ≡ Ok m) ⊎ ((refusal : Refusal) × (terms.read m ≡ Err refusal))

-- what is asked of these terms: a batch takes at least as many bytes as it draws numbers, a duration ends after it
-- begins, a fault is one, and nothing else arrives than what was said
pub record AreTerms (terms : Terms) : Type 0 where
  pub size : (batch : List Fact) → counter batch ≤ terms.size batch
  pub deadline : EndsLater terms
  pub fault : (refusal : Refusal) (block : Option AckBlock)
      → IsFault (header_blocks refusal.kind block) (terms.fault refusal block)
  pub read : ReadsBack terms
