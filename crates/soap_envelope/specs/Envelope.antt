-- Envelopes: SOAP 1.2 Part 1, section 5, where SOAP may have any namespace. The section of each part stands beside it.
use Rattle.std.specs.Prelude.{◌≡◌, ℕ, ◌-◌, List, [], ◌++◌, Option, Some, None, codes, take, drop}
use Rattle.soap_document.specs.Grammar.{IsContent, IsDocument, IsWhite}
use Rattle.soap_document.specs.Tree as written
use Rattle.soap_document.specs.Profile.Namespaces.{resolve, resolve_parts}
use Rattle.soap_document.specs.Profile.Tree.{Element, element, Parts, none, text, child, name_of, decls_of, parts_of}
use Rattle.rm_base.specs.declared.message.Binding.{Binding}
use Rattle.soap_document.specs.Profile.Tree.{children_of}
use Rattle.soap_document.specs.declared.profile.name.Expanded.{Expanded}
use Rattle.soap_document.specs.declared.profile.tree.Attr.{Attr}
use Rattle.soap_envelope.specs.Scope.{IsScope}

-- a name of SOAP, where SOAP has this namespace
abbrev pub name_in : List ℕ → List ℕ → Expanded
name_in soap local = record { space = soap; local = local }

-- parts, and the same with white space before them
pub data IsSpaced : Parts → Parts → Type 0 where
  bare : (parts : Parts) → IsSpaced parts parts
  spaced : (space : List ℕ) (parts : Parts) → IsWhite space → IsSpaced (text space parts) parts

-- a Body, with nothing but white space around it
pub record IsBodyAlone (soap : List ℕ) (parts : Parts) (body : Element) : Type 0 where
  pub after : Parts
  pub before : IsSpaced parts (child body after)
  pub behind : IsSpaced after none
  pub named : name_of body ≡ name_in soap (codes "Body")

-- what stands in an Envelope: a Header, if there is one, and a Body, with nothing but white space between (5.1)
pub data IsOutline (soap : List ℕ) : Parts → Option Element → Element → Type 0 where
  headless : (parts : Parts) (body : Element) → IsBodyAlone soap parts body → IsOutline soap parts None body
  headed : (parts rest : Parts) (header body : Element) → IsSpaced parts (child header rest)
      → name_of header ≡ name_in soap (codes "Header") → IsBodyAlone soap rest body
      → IsOutline soap parts (Some header) body

-- the header blocks, and the bindings in force between Header's tags (5.2); none without a Header
pub data IsHeader (outer : List Binding) : Option Element → List Element → List Binding → Type 0 where
  without : IsHeader outer None [] []
  blocks : (header : Element) (scope : List Binding) → IsScope (decls_of header ++ outer) scope
      → IsHeader outer (Some header) (children_of (parts_of header)) scope

-- the bytes between an element's tags
abbrev pub bytes_within : List ℕ → written.Element → List ℕ
bytes_within bytes (written.element name attributes start end parts) = take (end - start) (drop start bytes)

-- an envelope
pub record Envelope : Type 0 where
  -- the header blocks in order, and the bindings in force between Header's tags
  pub headers : List Element
  pub header_scope : List Binding
  -- the bytes between Body's tags, and the bindings in force there
  pub payload : List ℕ
  pub scope : List Binding
  -- what they are
  pub body : Parts

-- the bytes are a document whose root is this envelope; its Body is the last element that stands in the root
pub record IsEnvelope (soap bytes : List ℕ) (envelope : Envelope) : Type 0 where
  pub raw : written.Element
  pub document : IsDocument bytes raw
  pub decls : List Binding
  pub attrs : List Attr
  pub parts : Parts
  pub resolved : resolve [] raw ≡ Some (element (name_in soap (codes "Envelope")) decls attrs parts)
  pub header : Option Element
  pub body : Element
  pub outline : IsOutline soap parts header body
  pub blocks : IsHeader decls header envelope.headers envelope.header_scope
  pub written_body : written.Element
  pub last : written.last_within raw ≡ Some written_body
  pub payload : envelope.payload ≡ bytes_within bytes written_body
  pub scope : IsScope (decls_of body ++ decls) envelope.scope
  pub content : envelope.body ≡ parts_of body

-- the payload is content, whose parts, with their names resolved in these bindings, which are in force there, are the
-- body
pub record StandsFor (bindings : List Binding) (envelope : Envelope) : Type 0 where
  pub depth : ℕ
  pub start : ℕ
  pub parts : written.Parts
  pub content : IsContent depth start envelope.payload parts
  pub scope : IsScope bindings envelope.scope
  pub resolved : resolve_parts bindings parts ≡ Some envelope.body
