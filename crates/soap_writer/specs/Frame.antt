-- The namespaces of what is written, and the prefixes that a frame binds to them.
use Rattle.std.specs.Prelude.{ℕ, List, [], ◌∷◌, codes}
use Rattle.rm_base.specs.declared.message.Binding.{Binding}

-- WS-Addressing 1.0 Core, section 1.2
abbrev pub addressing_space : List ℕ
addressing_space = codes "http://www.w3.org/2005/08/addressing"

-- the namespace of WS-ReliableMessaging 1.2 (section 1.4)
abbrev pub messaging_space : List ℕ
messaging_space = codes "http://docs.oasis-open.org/ws-rx/wsrm/200702"

-- the namespace of WS-MakeConnection 1.1 (section 1.4)
abbrev pub connection_space : List ℕ
connection_space = codes "http://docs.oasis-open.org/ws-rx/wsmc/200702"

-- a prefix of a frame, named by what it is bound to
pub data Prefix : Type 0 where
  of_soap : Prefix
  of_addressing : Prefix
  of_messaging : Prefix
  of_connection : Prefix

-- how it is written
abbrev pub letter : Prefix → List ℕ
letter of_soap = codes "s"
letter of_addressing = codes "a"
letter of_messaging = codes "r"
letter of_connection = codes "c"

-- what it is bound to, where SOAP has this namespace
abbrev pub space_of : List ℕ → Prefix → List ℕ
space_of soap of_soap = soap
space_of soap of_addressing = addressing_space
space_of soap of_messaging = messaging_space
space_of soap of_connection = connection_space

-- its binding
abbrev pub binding_of : List ℕ → Prefix → Binding
binding_of soap prefix = record { prefix = letter prefix; space = space_of soap prefix }

-- what a frame binds, in the order in which it is written
abbrev pub frame_scope : List ℕ → List Binding
frame_scope soap =
    binding_of soap of_soap ∷ binding_of soap of_addressing ∷ binding_of soap of_messaging
    ∷ binding_of soap of_connection ∷ []
