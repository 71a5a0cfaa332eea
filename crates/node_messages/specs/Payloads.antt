-- What a message carries.
use Rattle.std.specs.Prelude.{Option, Some, None}
use Rattle.rm_message.specs.declared.message.Body.{Body}
use Rattle.rm_message.specs.declared.message.Body.TheVariants as body
use Rattle.record_batch.specs.Sequences.Words.{Text}

-- the bytes of a payload
abbrev pub payload_of : Body → Option Text
payload_of (body.Payload p) = Some p.bytes
payload_of _ = None
