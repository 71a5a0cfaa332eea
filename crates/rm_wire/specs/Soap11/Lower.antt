-- A message of SOAP 1.2 as SOAP 1.1 says it.
use Rattle.std.specs.Prelude.{◌≡◌, ℕ, List, [], Option, None}
use Rattle.soap_envelope.specs.Soap.{soap_space, soap11_space}
use Rattle.soap_envelope.specs.Frame.Framed.{sorted_scope}
use Rattle.rm_message.specs.declared.message.Body.{Body}
use Rattle.rm_message.specs.declared.message.Body.TheVariants as body
use Rattle.rm_message.specs.declared.message.Message.{Message}
use Rattle.message_writer.specs.Rules.{IsBodyWritable, KeepsRules, NoFaultFirst}
use Rattle.message_writer.specs.Text11.{IsBody11, has_code11, text11_if}

-- what a message is lowered to; nothing where SOAP 1.1 has no code for its fault
abbrev pub lowered_text : Message → Option (List ℕ)
lowered_text m = text11_if (has_code11 m.body) m

-- the body, but that a payload's scope binds `s` to the namespace of SOAP 1.1
abbrev pub lowered_body : Body → Body
lowered_body (body.Payload p) = body.Payload (record { bytes = p.bytes; scope = sorted_scope soap11_space })
lowered_body b = b

-- the message, likewise
abbrev pub lowered : Message → Message
lowered m = record {
  addressing = m.addressing;
  sequence = m.sequence;
  acks = m.acks;
  asks = m.asks;
  pending = m.pending;
  not_understood = m.not_understood;
  body = lowered_body m.body;
}

-- a payload without a number doesn't begin with what is a Fault in SOAP 1.1
abbrev pub BeginsWell : (b : Body) → IsBodyWritable soap_space b → Type 0
BeginsWell (body.Payload p) rules = NoFaultFirst soap11_space rules.closed.parts
BeginsWell _ rules = Unit {0}

-- a message that may be written in SOAP 1.2, and that SOAP 1.1 can say
pub record MayBeLowered (m : Message) : Type 0 where
  pub rules : KeepsRules soap_space m
  pub names : m.not_understood ≡ []
  pub body : IsBody11 m.body
  pub first : m.sequence ≡ None → BeginsWell m.body rules.body
