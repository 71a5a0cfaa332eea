-- A frame whose Body has a start tag of its own is an envelope.
use Rattle.std.proofs.Common.{◌≡◌, ℕ, ◌+◌, ◌-◌, List, [], ◌++◌, if◌then◌else◌, Option}
use Rattle.std.proofs.Common.{Some, option_map, codes, length, refl, sym, ap, ap₂, subst, ◌∙◌, arith}
use Rattle.std.proofs.Common.{append_assoc, take, drop}
use Rattle.std.specs.List.{AllByRecursion}
use Rattle.std.proofs.lemmas.List.{append-nil, length-append}
use Rattle.rm_base.specs.declared.message.Binding.{Binding}
use Rattle.soap_lex.specs.Characters.{IsName}
use Rattle.soap_document.specs.declared.attribute.WrittenAttribute.{WrittenAttribute}
use Rattle.soap_document.specs.Grammar.{IsElement, IsContent, IsDocument, document, unmarked, without}
use Rattle.soap_document.specs.Grammar.{white, prefixed, end, full, last, more, start_tag, end_tag}
use Rattle.soap_document.specs.Tree as written
use Rattle.soap_document.specs.Profile.Namespaces.{resolve_parts, joined, Resolved, tag_of}
use Rattle.soap_document.specs.Profile.Tree.{Element, element, Parts, none, child}
use Rattle.soap_envelope.specs.Envelope.{name_in, IsEnvelope, headed, bare, IsHeader, blocks}
use Rattle.soap_envelope.specs.Scope.{IsScope}
use Rattle.soap_writer.specs.Frame.{frame_scope}
use Rattle.soap_writer.specs.Plain.{name_from}
use Rattle.soap_writer.specs.ReadBack.{ContentReadsAs, content_of, IsAttributeWritten, written_attributes}
use Rattle.soap_envelope.specs.Frame.Framed.{Block, IsBlock, MayBeSoap, bytes_of, trees_of, sorted_scope}
use Rattle.soap_envelope.specs.Frame.Framed.{envelope_start}
use Rattle.soap_document.specs.Grammar.{IsQName}
use Rattle.soap_envelope.specs.Frame.Tagged.{tagged_start, tagged_text, tagged_envelope}
use Rattle.soap_envelope.proofs.FrameLemmas.Framing.{Known, frame_tag, frame_resolved, regroup, start_is, between_is}
use Rattle.soap_envelope.proofs.FrameLemmas.Framing.{frame_IsScope}
use Rattle.soap_envelope.proofs.FrameLemmas.Framing.{nothing_IsText, children_content, of_tag, envelope_tag, header_tag}
use Rattle.soap_envelope.proofs.FrameLemmas.Framing.{section}
use Rattle.soap_envelope.proofs.FrameLemmas.Framing.{content_from, frame_attributes, blocks_back}
use Rattle.soap_envelope.proofs.FrameLemmas.Moved.{with_tag}

-- the start tag of Body
abbrev tag_text : List ℕ → List WrittenAttribute → List ℕ
tag_text name attributes = start_tag name (written_attributes attributes)

-- Body
abbrev body_section : List ℕ → List WrittenAttribute → List ℕ → List ℕ
body_section name attributes inner = tag_text name attributes ++ (inner ++ end_tag name [])

assembled : (start front header after before body closing finish : List ℕ)
    → (start ++ front) ++ (header ++ ((after ++ before) ++ (body ++ (closing ++ finish))))
    ≡ ((start ++ front) ++ (header ++ (after ++ before))) ++ (body ++ (closing ++ finish))
assembled start front header after before body closing finish = simp (append_assoc)

text_is : (soap header name : List ℕ) (attributes : List WrittenAttribute) (body : List ℕ) → envelope_tag soap
    ++ ((section (codes "s:Header") header ++ (body_section name attributes body ++ []))
    ++ end_tag (codes "s:Envelope") []) ≡ tagged_text soap header name attributes body
text_is soap header name attributes body =
    let after = end_tag (codes "s:Header") [] in
    let finish = end_tag (codes "s:Envelope") [] in
    let before = tag_text name attributes in
    let closing = end_tag name [] in
    regroup (envelope_tag soap) header_tag header after before body closing finish
    ∙ assembled (envelope_tag soap) header_tag header after before body closing finish
    ∙ ap (λ l. (l ++ (header ++ (after ++ before))) ++ (body ++ (closing ++ finish))) (start_is soap)

-- where the payload begins
abbrev payload_from : List ℕ → List ℕ → List ℕ → List WrittenAttribute → ℕ
payload_from soap header name attributes =
    content_from soap + 0 + length (section (codes "s:Header") header) + 0 + length (tag_text name attributes)

payload_there : (soap header name : List ℕ) (attributes : List WrittenAttribute) (payload : List ℕ)
    → let place : ℕ = payload_from soap header name attributes in
    payload ≡ take ((place + length payload) - place) (drop place (tagged_text soap header name attributes payload))
payload_there soap header name attributes payload =
    let place : ℕ = payload_from soap header name attributes in
    let tag = tag_text name attributes in
    let before = tagged_start soap header name attributes in
    let one : length (section (codes "s:Header") header)
    ≡ length header_tag + (length header + length (end_tag (codes "s:Header") [])) =
    length-append header_tag (header ++ end_tag (codes "s:Header") [])
    ∙ ap (λ n. length header_tag + n) (length-append header (end_tag (codes "s:Header") [])) in
    let two : length before
    ≡ length (envelope_start soap) + (length header + (length (end_tag (codes "s:Header") []) + length tag)) =
    length-append (envelope_start soap) (header ++ (end_tag (codes "s:Header") [] ++ tag))
    ∙ ap (λ n. length (envelope_start soap) + n) (length-append header (end_tag (codes "s:Header") [] ++ tag)
    ∙ ap (λ n. length header + n) (length-append (end_tag (codes "s:Header") []) tag)) in
    let sizes : length (envelope_start soap) ≡ length (envelope_tag soap) + length header_tag =
    ap length (sym (start_is soap)) ∙ length-append (envelope_tag soap) header_tag in
    let n : place ≡ length before = omega (arith, one, two, sizes) in
    between_is before payload (end_tag name [] ++ end_tag (codes "s:Envelope") []) place n

pub tagged : Known → (soap : List ℕ) (header : List Block) (name : List ℕ) (attributes : List WrittenAttribute)
    (decls : List Binding) (payload : List ℕ) (body : Parts) (scope : List Binding) → MayBeSoap soap
    → AllByRecursion (IsBlock soap) header → IsQName name → AllByRecursion IsAttributeWritten attributes
    → tag_of (frame_scope soap) name attributes
    ≡ Some (record { name = name_in soap (codes "Body"); decls = decls; attrs = [] })
    → ((at : ℕ) → ContentReadsAs 2 at (decls ++ frame_scope soap) payload body)
    → IsScope (decls ++ frame_scope soap) scope
    → IsEnvelope soap (tagged_text soap (bytes_of header) name attributes payload)
    (tagged_envelope soap (trees_of header) payload body scope)
tagged known soap header body_name attributes decls payload body scope may all qname each is content scoped =
    let hb = bytes_of header in
    let name = codes "s:Envelope" in
    let s : IsName (codes "s") = name_from (codes "s") refl in
    let from : ℕ = content_from soap in
    let header_from : ℕ = from + 0 + length header_tag in
    let h = blocks_back known.nothing known.more soap header header_from all in
    let header_text = section (codes "s:Header") hb in
    let body_from : ℕ = payload_from soap hb body_name attributes in
    let b = content body_from in
    let body_text = body_section body_name attributes payload in
    let raw_header = written.element (codes "s:Header") [] header_from (header_from + length hb) h.raw in
    let raw_body = written.element body_name attributes body_from (body_from + length payload) b.raw in
    let inside = header_text ++ (body_text ++ []) in
    let raw_inside = written.child raw_header (written.child raw_body written.none) in
    let raw = written.element name (frame_attributes soap) from (from + length inside) raw_inside in
    let header_is : IsElement 1 (from + 0) header_text raw_header = full 1 (from + 0) (codes "s:Header") [] [] hb h.raw
    [] (omega arith) (prefixed (codes "s") (codes "Header") s (name_from (codes "Header") refl)) (end [] tt) h.is tt in
    let body_is : IsElement 1 (from + 0 + length header_text + 0) body_text raw_body = full 1 (from + 0
    + length header_text + 0) body_name (written_attributes attributes) attributes payload b.raw [] (omega arith) qname
    (known.attributes attributes each) b.is tt in
    let inside_is : IsContent 1 from inside raw_inside = more 1 from [] [] header_text raw_header (body_text ++ [])
    (written.child raw_body written.none) nothing_IsText header_is (more 1 (from + 0 + length header_text) [] []
    body_text raw_body [] written.none nothing_IsText body_is (last 1 (from + 0 + length header_text + 0
    + length body_text) [] [] nothing_IsText)) in
    let root_is : IsElement 0 0 (envelope_tag soap ++ (inside ++ end_tag name [])) raw = full 0 0 name
    (written_attributes (frame_attributes soap)) (frame_attributes soap) inside raw_inside [] (omega arith) (prefixed
    (codes "s") (codes "Envelope") s (name_from (codes "Envelope") refl)) (frame_tag known soap may) inside_is tt in
    let P : List ℕ → Type 0 = λ l. IsDocument l raw in
    let header_element = element (name_in soap (codes "Header")) [] [] (content_of (trees_of header)) in
    let body_element = element (name_in soap (codes "Body")) decls [] body in
    let whole = λ (parts : Parts). element (name_in soap (codes "Envelope")) (frame_scope soap) [] parts in
    let front = λ (x : Option Parts). option_map (element (name_in soap (codes "Header")) [] []) x in
    let inner = λ (t : Resolved). resolve_parts (t.decls ++ frame_scope soap) b.raw in
    record {
      raw = raw;
      document = subst P (append-nil _ ∙ text_is soap hb body_name attributes payload) (document [] [] []
          (envelope_tag soap ++ (inside ++ end_tag name [])) raw [] unmarked without (white [] tt) root_is (white []
          tt));
      decls = frame_scope soap;
      attrs = [];
      parts = child header_element (child body_element none);
      resolved = ap (λ (o : Option Resolved). of_tag o raw_inside) (frame_resolved soap may)
          ∙ ap (λ (o : Option Resolved). option_map whole (joined (front (resolve_parts (frame_scope soap) h.raw))
          (joined (with_tag o inner) (Some none)))) is
          ∙ ap₂ (λ (x y : Option Parts). option_map whole (joined (front x)
          (joined (option_map (element (name_in soap (codes "Body")) decls []) y) (Some none))))
          h.resolved b.resolved;
      header = Some header_element;
      body = body_element;
      outline = headed _ (child body_element none) header_element body_element (bare _) refl
          (record { after = none; before = bare _; behind = bare none; named = refl });
      blocks = subst (λ (l : List Element). IsHeader (frame_scope soap) (Some header_element) l (sorted_scope soap))
          (children_content (trees_of header)) (blocks header_element (sorted_scope soap) (frame_IsScope soap may));
      written_body = raw_body;
      last = refl;
      payload = payload_there soap hb body_name attributes payload;
      scope = scoped;
      content = refl;
    }
