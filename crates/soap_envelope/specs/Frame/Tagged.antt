-- A frame whose Body has a start tag of its own, by which it may bind more than a frame does: Namespaces in XML 1.0,
-- section 3.
use Rattle.std.specs.Prelude.{ℕ, List, [], ◌++◌, codes}
use Rattle.soap_document.specs.Grammar.{start_tag, end_tag}
use Rattle.soap_document.specs.declared.attribute.WrittenAttribute.{WrittenAttribute}
use Rattle.rm_base.specs.declared.message.Binding.{Binding}
use Rattle.soap_document.specs.Profile.Tree.{Element, Parts}
use Rattle.soap_envelope.specs.Envelope.{Envelope}
use Rattle.soap_writer.specs.ReadBack.{written_attributes}
use Rattle.soap_envelope.specs.Frame.Framed.{envelope_start, sorted_scope}

-- up to and with the start tag of Body
abbrev pub tagged_start : List ℕ → List ℕ → List ℕ → List WrittenAttribute → List ℕ
tagged_start soap header name attributes =
    envelope_start soap ++ (header ++ (codes "</s:Header>" ++ start_tag name (written_attributes attributes)))

-- the whole
abbrev pub tagged_text : List ℕ → List ℕ → List ℕ → List WrittenAttribute → List ℕ → List ℕ
tagged_text soap header name attributes payload =
    tagged_start soap header name attributes ++ (payload ++ (end_tag name [] ++ codes "</s:Envelope>"))

-- the envelope with these header blocks and this payload, which is these parts in this scope
abbrev pub tagged_envelope : List ℕ → List Element → List ℕ → Parts → List Binding → Envelope
tagged_envelope soap headers payload body scope = record {
  headers = headers;
  header_scope = sorted_scope soap;
  payload = payload;
  scope = scope;
  body = body;
}
