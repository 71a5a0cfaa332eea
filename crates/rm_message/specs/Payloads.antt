-- What a body carries.
use Rattle.std.specs.Prelude.{Option, Some, None}
use Rattle.rm_base.specs.declared.message.Payload.{Payload}
use Rattle.rm_message.specs.declared.message.Body.{Body}
use Rattle.rm_message.specs.declared.message.Body.TheVariants as bodies

-- the payload that a body is
abbrev pub payload_in : Body → Option Payload
payload_in (bodies.Payload p) = Some p
payload_in _ = None
