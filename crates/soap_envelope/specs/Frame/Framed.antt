-- The frame of an envelope that is written, and the envelope that it is: SOAP 1.2 Part 1, section 5.
use Rattle.std.specs.Prelude.{◌≡◌, ℕ, List, [], ◌∷◌, ◌++◌, true, codes, map}
use Rattle.std.specs.List.{flat_map}
use Rattle.rm_base.specs.declared.message.Binding.{Binding}
use Rattle.soap_lex.specs.Characters.{IsChars}
use Rattle.soap_document.specs.Profile.Namespaces.{may_bind}
use Rattle.soap_document.specs.Profile.Tree.{Element, Parts}
use Rattle.soap_envelope.specs.Envelope.{Envelope}
use Rattle.soap_writer.specs.ElementText.{quoted}
use Rattle.soap_writer.specs.Frame.{of_soap, of_addressing, of_messaging, of_connection, binding_of, frame_scope}
use Rattle.soap_writer.specs.Frame.{addressing_space, messaging_space, connection_space}
use Rattle.soap_writer.specs.ReadBack.{ReadsAs}

-- up to and with the start tag of the header, where SOAP has this namespace
abbrev pub envelope_start : List ℕ → List ℕ
envelope_start soap =
    codes "<s:Envelope xmlns:s=" ++ (quoted soap ++ (codes " xmlns:a=" ++ (quoted addressing_space
    ++ (codes " xmlns:r=" ++ (quoted messaging_space ++ (codes " xmlns:c=" ++ (quoted connection_space
    ++ codes "><s:Header>")))))))

-- the end tag of the header and the start tag of the body
abbrev pub body_start : List ℕ
body_start = codes "</s:Header><s:Body>"

-- the end tags of the body and of the envelope
abbrev pub envelope_end : List ℕ
envelope_end = codes "</s:Body></s:Envelope>"

-- a frame around what the header and the body hold
abbrev pub framed_text : List ℕ → List ℕ → List ℕ → List ℕ
framed_text soap header body = envelope_start soap ++ (header ++ (body_start ++ (body ++ envelope_end)))

-- a namespace that a frame may give to SOAP: characters that a prefix may be bound to (Namespaces 3)
pub record MayBeSoap (soap : List ℕ) : Type 0 where
  pub chars : IsChars soap
  pub bindable : may_bind (codes "s") soap ≡ true

-- bytes, and the element that they are to be read as
pub record Block : Type 0 where
  pub bytes : List ℕ
  pub tree : Element

-- they are, in the header or the body of a frame
abbrev pub IsBlock : List ℕ → Block → Type 0
IsBlock soap block = (at : ℕ) → ReadsAs 2 at (frame_scope soap) block.bytes block.tree

-- blocks, one behind the other
abbrev pub bytes_of : List Block → List ℕ
bytes_of blocks = flat_map (λ block. block.bytes) blocks

-- what they are
abbrev pub trees_of : List Block → List Element
trees_of blocks = map (λ block. block.tree) blocks

-- what a frame binds, sorted by prefix
abbrev pub sorted_scope : List ℕ → List Binding
sorted_scope soap =
    binding_of soap of_addressing ∷ binding_of soap of_connection ∷ binding_of soap of_messaging
    ∷ binding_of soap of_soap ∷ []

-- the envelope with these header blocks and this payload, which is these parts, in the bindings of a frame
abbrev pub framed_envelope : List ℕ → List Element → List ℕ → Parts → Envelope
framed_envelope soap headers payload body = record {
  headers = headers;
  header_scope = sorted_scope soap;
  payload = payload;
  scope = sorted_scope soap;
  body = body;
}
