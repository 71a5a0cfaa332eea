-- A message with another body.
use Rattle.std.specs.Prelude.{ℕ, List}
use Rattle.rm_base.specs.declared.message.Binding.{Binding}
use Rattle.rm_message.specs.declared.message.Body.{Body}
use Rattle.rm_message.specs.declared.message.Body.TheVariants as body
use Rattle.rm_message.specs.declared.message.Message.{Message}

-- the message with this body
abbrev pub with_body : Message → Body → Message
with_body m b = record {
  addressing = m.addressing;
  sequence = m.sequence;
  acks = m.acks;
  asks = m.asks;
  pending = m.pending;
  not_understood = m.not_understood;
  body = b;
}

-- with a payload of these bytes, in these bindings
abbrev pub with_payload : Message → List ℕ → List Binding → Message
with_payload m bytes scope = with_body m (body.Payload (record { bytes = bytes; scope = scope }))
