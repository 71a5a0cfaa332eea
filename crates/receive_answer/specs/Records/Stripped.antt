-- A message whose payload was moved out.
use Rattle.std.specs.Prelude.{[]}
use Rattle.rm_message.specs.declared.message.Body.{Body}
use Rattle.rm_message.specs.declared.message.Body.TheVariants as body
use Rattle.rm_message.specs.declared.message.Message.{Message}

-- a body without its payload
abbrev pub emptied : Body → Body
emptied (body.Payload p) = body.Payload (record { bytes = []; scope = [] })
emptied content = content

-- a message without its payload
abbrev pub stripped : Message → Message
stripped m = record m { body = emptied m.body }
