-- A message of SOAP 1.1 as SOAP 1.2 says it. A payload keeps its bytes, and so a Body is written that declares what was
-- bound around them (Namespaces in XML 1.0, section 3).
use Rattle.std.specs.Prelude.{◌≡◌, ◌≢◌, ◌<◌, ◌^◌, ℕ, List, ◌++◌, None, Contains, codes, decimal, map}
use Rattle.rm_base.specs.declared.message.Binding.{Binding}
use Rattle.rm_base.specs.declared.message.Payload.{Payload}
use Rattle.soap_envelope.specs.Soap.{soap_space}
use Rattle.soap_document.specs.Profile.Namespaces.{bound}
use Rattle.soap_envelope.specs.Frame.BodyTag.{declaration, body_name, body_bindings}
use Rattle.soap_envelope.specs.Frame.Tagged.{tagged_text}
use Rattle.rm_message.specs.declared.message.Body.{Body}
use Rattle.rm_message.specs.declared.message.Body.TheVariants as body
use Rattle.rm_message.specs.declared.message.Message.{Message}
use Rattle.message_writer.specs.Text.{header_blocks, blocks_text, message_text}

-- w with a number
abbrev pub numbered_prefix : ℕ → List ℕ
numbered_prefix k = codes "w" ++ decimal k

-- the first of them that is not bound
pub record IsFirstFree (k : ℕ) (scope : List Binding) : Type 0 where
  pub counted : k < 2 ^ 64
  pub free : bound (numbered_prefix k) scope ≡ None
  pub least : (j : ℕ) → j < k → bound (numbered_prefix j) scope ≢ None

-- the numbers of all such prefixes that are bound, in any order
pub record AreNumbers (scope : List Binding) (numbers : List ℕ) : Type 0 where
  pub each : (k : ℕ) → Contains numbers k → bound (numbered_prefix k) scope ≢ None
  pub all : (k : ℕ) → k < 2 ^ 64 → bound (numbered_prefix k) scope ≢ None → Contains numbers k

-- the text of a message with this payload, around which these bindings are in force, where Body has this prefix
abbrev pub lifted_text : List ℕ → Message → List ℕ → List Binding → List ℕ
lifted_text w m payload scope =
    tagged_text soap_space (blocks_text (header_blocks m)) (body_name w)
    (map declaration (body_bindings soap_space w scope)) payload

-- the text of a message with a payload, where Body has the first prefix that is free
pub record IsLiftedPayload (m : Message) (p : Payload) (text : List ℕ) : Type 0 where
  pub number : ℕ
  pub first : IsFirstFree number p.scope
  pub is : text ≡ lifted_text (numbered_prefix number) m p.bytes p.scope

-- what a message with this body is lifted to
abbrev pub IsLiftedBody : Message → Body → List ℕ → Type 0
IsLiftedBody m (body.Payload p) text = IsLiftedPayload m p text
IsLiftedBody m _ text = text ≡ message_text soap_space m

-- what a message is lifted to
abbrev pub IsLifted : Message → List ℕ → Type 0
IsLifted m text = IsLiftedBody m m.body text

-- a body that is no payload
abbrev pub HasNoPayload : Body → Type 0
HasNoPayload (body.Payload p) = ⊥
HasNoPayload _ = Unit {0}
