-- Terms of a node's own: what the definitions take from the layers that write, read and date is what these layers do.
use Rattle.std.specs.Prelude.{◌≡◌, ℕ, ◌<◌, ◌≤◌, Bool, List, length, Option, None, Result, IsTrue, ◌↔◌}
use Rattle.rm_base.specs.Limits as limits
use Rattle.soap_document.specs.Profile.Payload.{IsClosedContent}
use Rattle.rm_message.specs.Elements.Deadline.{IsDeadline}
use Rattle.rm_message.specs.declared.elements.header.AckBlock.{AckBlock}
use Rattle.rm_base.specs.declared.lapse.Lapse.{Lapse}
use Rattle.rm_message.specs.declared.message.Message.{Message}
use Rattle.rm_message.specs.declared.refusal.Refusal.{Refusal}
use Rattle.message_writer.specs.Faults.{fault_of}
use Rattle.record_batch.specs.Batch.{batch_text}
use Rattle.record_batch.specs.Fact.{Fact}
use Rattle.rm_protocol.specs.Terms.{Terms, AreTerms, ReadsBack}

-- a clock tells moments up to this one, and then a duration ends as the calendar says; what begins later never ends
pub record EndsAsTold (now : ℕ) (lapse : Lapse) (end : Option ℕ) : Type 0 where
  pub told : now ≤ limits.now_max → IsDeadline now lapse end
  pub later : limits.now_max < now → end ≡ None

-- a batch takes the bytes of its text, a duration ends as the calendar says, what may stand in a Body is closed
-- content, and a refusal is answered with its fault
pub record AreOwn (terms : Terms) : Type 0 where
  pub size : (batch : List Fact) → terms.size batch ≡ length (batch_text batch)
  pub deadline : (now : ℕ) (lapse : Lapse) → EndsAsTold now lapse (terms.deadline now lapse)
  pub content : (bytes : List ℕ) → IsTrue (terms.is_content bytes) ↔ IsClosedContent bytes
  pub fault : (refusal : Refusal) (block : Option AckBlock) → terms.fault refusal block ≡ fault_of refusal block

-- what the protocol asks of terms holds of a node's own, where texts are read as what was said
abbrev pub OwnAreTerms : Type 0
OwnAreTerms = (terms : Terms) → AreOwn terms → ReadsBack terms → AreTerms terms

-- there are such terms, over any network, whatever texts are read as
abbrev pub ThereAreOwnTerms : Type 0
ThereAreOwnTerms =
    (takes : List Message → Message → Bool) (read : Message → Result Message Refusal)
    → (terms : Terms) × (terms.takes ≡ takes) × (terms.read ≡ read) × AreOwn terms

-- the calendar tells one moment, or none
abbrev pub EndsOnce : Type 0
EndsOnce = (now : ℕ) (lapse : Lapse) (a b : Option ℕ) → IsDeadline now lapse a → IsDeadline now lapse b → a ≡ b
