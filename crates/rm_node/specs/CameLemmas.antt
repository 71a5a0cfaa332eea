-- Lemmas on what comes to a node, which the crates above use: it is as it is read.
use Rattle.std.proofs.Common.{ℕ, List, None}
use Rattle.std.specs.Prelude.{Result, Ok, Err}
use Rattle.soap_envelope.specs.Soap.{soap_space}
use Rattle.rm_message.specs.declared.message.Body.{Body}
use Rattle.rm_message.specs.declared.message.Body.TheVariants as body
use Rattle.rm_message.specs.declared.message.Message.{Message}
use Rattle.rm_message.specs.declared.refusal.Refusal.{Refusal}
use Rattle.message_reader.specs.Refusals.{Refuses, Spells}
use Rattle.rm_wire.specs.ReadLaws.WasRead.{WasRead, IsBodyRead}
use Rattle.rm_wire.specs.Writable.{IsRefusalWritable}
use Rattle.node_laws.specs.Read.{IsContentRead, IsBodyRead as IsBodyKept}
use Rattle.rm_node.specs.Came.{IsReadAs}

-- a message that bytes spell is as it is read
abbrev pub ReadsRight : Type 0
ReadsRight = (soap bytes : List ℕ) (m : Message) → Spells soap bytes m → WasRead m

-- a refusal of bytes may be answered
abbrev pub RefusesRight : Type 0
RefusesRight = (soap bytes : List ℕ) (refusal : Refusal) → Refuses soap bytes refusal → IsRefusalWritable refusal None

body_kept : (b : Body) → IsBodyRead b → IsBodyKept b
body_kept body.Empty h = tt
body_kept (body.Payload p) h = tt
body_kept (body.Lifecycle x) h = h
body_kept (body.Fault f) h = tt

-- what a node keeps or repeats of what came may be written
pub content_read : ReadsRight → RefusesRight → (bytes : List ℕ) (content : Result Message Refusal)
    → IsReadAs bytes content → IsContentRead content
content_read reads refuses bytes (Ok m) is =
    let h : WasRead m = reads soap_space bytes m is in
    record {
      addressing = h.addressing;
      sequence = h.sequence;
      acks = h.acks;
      asks = h.asks;
      body = body_kept m.body h.body;
    }
content_read reads refuses bytes (Err refusal) is = refuses soap_space bytes refusal is
