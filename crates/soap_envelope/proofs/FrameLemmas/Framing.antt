-- A frame is an envelope.
use Rattle.std.proofs.Common.{◌≡◌, ℕ, ◌+◌, ◌-◌, List, [], ◌∷◌, ◌++◌, Bool, true, false, not, if◌then◌else◌, Option}
use Rattle.std.proofs.Common.{Some, None, option_map, codes, length, refl, sym, ap, ap₂, subst, ◌∙◌, arith}
use Rattle.std.proofs.Common.{append_assoc, take, drop}
use Rattle.std.specs.List.{AllByRecursion}
use Rattle.std.specs.Str.{bytes_eq}
use Rattle.std.proofs.lemmas.Bool.{and_parts}
use Rattle.std.proofs.lemmas.List.{append-nil, length-append}
use Rattle.std.proofs.lemmas.Slice.Eq.{bytes_eq-Decides}
use Rattle.std.proofs.Math.Seq.{take-append_seam, drop-append_seam}
use Rattle.rm_base.specs.declared.message.Binding.{Binding}
use Rattle.soap_lex.specs.Characters.{IsName}
use Rattle.soap_lex.specs.Text.{IsText, run}
use Rattle.soap_document.specs.declared.attribute.WrittenAttribute.{WrittenAttribute}
use Rattle.soap_document.specs.Grammar.{IsAttributes, IsElement, IsContent, IsDocument, document, unmarked, without}
use Rattle.soap_document.specs.Grammar.{white, prefixed, end, full, last, more, start_tag, end_tag}
use Rattle.soap_lex.specs.Tests.{is_nil}
use Rattle.soap_document.specs.Tree as written
use Rattle.soap_document.specs.Profile.Namespaces.{bound, declaring, resolve_parts, joined, Resolved, tag_of}
use Rattle.soap_envelope.specs.Soap.{soap_space}
use Rattle.soap_document.specs.Profile.Tree.{Element, element, Parts, none, child, children_of}
use Rattle.soap_envelope.specs.Envelope.{name_in, IsEnvelope, headed, bare, IsHeader, blocks}
use Rattle.soap_envelope.specs.Scope.{IsScope, in_force, declared as declared_in}
use Rattle.soap_writer.specs.ElementText.{quoted}
use Rattle.soap_writer.specs.Frame.{frame_scope, addressing_space, messaging_space, connection_space}
use Rattle.soap_writer.specs.Plain.{name_from, chars_from}
use Rattle.soap_writer.specs.ReadBack.{ReadsAs, ContentReadsAs, content_of, IsAttributeWritten, written_attributes}
use Rattle.soap_envelope.specs.Frame.Framed.{Block, IsBlock, MayBeSoap, bytes_of, trees_of, sorted_scope}
use Rattle.soap_envelope.specs.Frame.Framed.{framed_envelope}
use Rattle.soap_envelope.specs.Frame.Framed.{framed_text, envelope_start, body_start, envelope_end}

-- what is known of attributes and content
pub record Known : Type 0 where
  pub attributes : (attributes : List WrittenAttribute) → AllByRecursion IsAttributeWritten attributes
      → IsAttributes (written_attributes attributes) attributes
  pub nothing : (depth at : ℕ) (scope : List Binding) → ContentReadsAs depth at scope [] none
  pub more : (depth at : ℕ) (scope : List Binding) (inner rest : List ℕ) (first : Element) (parts : Parts)
      → ((at : ℕ) → ReadsAs depth at scope inner first) → ((at : ℕ) → ContentReadsAs depth at scope rest parts)
      → ContentReadsAs depth at scope (inner ++ rest) (child first parts)

pub soap_space-MayBeSoap : MayBeSoap soap_space
soap_space-MayBeSoap = record { chars = chars_from soap_space refl; bindable = refl }

-- ---- the scope

not_true : (b : Bool) → not b ≡ true → b ≡ false
not_true false e = refl
not_true true e = cc

some_from : (soap : List ℕ) → is_nil soap ≡ false → declared_in (Some soap) ≡ Some soap
some_from [] e = cc
some_from (b ∷ soap) e = refl

some_space : (soap : List ℕ) → MayBeSoap soap → declared_in (Some soap) ≡ Some soap
some_space soap may =
    some_from soap (not_true _ (and_parts (not (is_nil soap)) _ (and_parts _ _ (and_parts _ _ may.bindable).1).1).0)

-- whichever of the four it is
forced : (soap prefix : List ℕ) (a b c d : Bool) → MayBeSoap soap → bytes_eq (codes "s") prefix ≡ a
    → bytes_eq (codes "a") prefix ≡ b → bytes_eq (codes "r") prefix ≡ c → bytes_eq (codes "c") prefix ≡ d
    → bound prefix (sorted_scope soap) ≡ declared_in (bound prefix (frame_scope soap))
forced soap prefix true b c d may e f g h =
    rw (sym ((bytes_eq-Decides (codes "s") prefix).0 e)) (sym (some_space soap may))
forced soap prefix false true c d may e f g h = rw (sym ((bytes_eq-Decides (codes "a") prefix).0 f)) refl
forced soap prefix false false true d may e f g h = rw (sym ((bytes_eq-Decides (codes "r") prefix).0 g)) refl
forced soap prefix false false false true may e f g h = rw (sym ((bytes_eq-Decides (codes "c") prefix).0 h)) refl
forced soap prefix false false false false may e f g h = rw (e, f, g, h) refl

at_xml : (soap prefix : List ℕ) (x : Bool) → MayBeSoap soap → bytes_eq prefix (codes "xml") ≡ x
    → bound prefix (sorted_scope soap) ≡ in_force prefix (frame_scope soap)
at_xml soap prefix true may e = rw ((bytes_eq-Decides prefix (codes "xml")).0 e) refl
at_xml soap prefix false may e =
    forced soap prefix (bytes_eq (codes "s") prefix) (bytes_eq (codes "a") prefix) (bytes_eq (codes "r") prefix)
    (bytes_eq (codes "c") prefix) may refl refl refl refl
    ∙ sym (ap (λ b. if b then None else declared_in (bound prefix (frame_scope soap))) e)

pub frame_IsScope : (soap : List ℕ) → MayBeSoap soap → IsScope (frame_scope soap) (sorted_scope soap)
frame_IsScope soap may = record {
  rises = ((refl, (refl, (refl, tt))), ((refl, (refl, tt)), ((refl, tt), (tt, tt))));
  same = λ prefix. at_xml soap prefix (bytes_eq prefix (codes "xml")) may refl;
}

-- ---- the start tag of the envelope

abbrev pub declares : List ℕ → List ℕ → WrittenAttribute
declares prefix space = record { name = codes "xmlns" ++ (codes ":" ++ prefix); value = space }

abbrev pub others : List WrittenAttribute
others =
    declares (codes "a") addressing_space ∷ declares (codes "r") messaging_space
    ∷ declares (codes "c") connection_space ∷ []

abbrev pub frame_attributes : List ℕ → List WrittenAttribute
frame_attributes soap = declares (codes "s") soap ∷ others

pub frame_tag : Known → (soap : List ℕ) → MayBeSoap soap
    → IsAttributes (written_attributes (frame_attributes soap)) (frame_attributes soap)
frame_tag known soap may =
    let xmlns = name_from (codes "xmlns") refl in
    known.attributes (frame_attributes soap) (
      record { qname = prefixed (codes "xmlns") (codes "s") xmlns (name_from (codes "s") refl); chars = may.chars },
      (
        record {
          qname = prefixed (codes "xmlns") (codes "a") xmlns (name_from (codes "a") refl);
          chars = chars_from addressing_space refl;
        },
        (
          record {
            qname = prefixed (codes "xmlns") (codes "r") xmlns (name_from (codes "r") refl);
            chars = chars_from messaging_space refl;
          },
          (
            record {
              qname = prefixed (codes "xmlns") (codes "c") xmlns (name_from (codes "c") refl);
              chars = chars_from connection_space refl;
            },
            tt,
          ),
        ),
      ),
    )

abbrev resolved_tag : List ℕ → Resolved
resolved_tag soap = record { name = name_in soap (codes "Envelope"); decls = frame_scope soap; attrs = [] }

-- an element where nothing is bound around it
abbrev pub of_tag : Option Resolved → written.Parts → Option Element
of_tag tag parts =
    elim tag [
      | None ↦ None
      | Some t ↦ option_map (element t.name t.decls t.attrs) (resolve_parts (t.decls ++ []) parts)
    ]

pub frame_resolved : (soap : List ℕ) → MayBeSoap soap
    → tag_of [] (codes "s:Envelope") (frame_attributes soap) ≡ Some (resolved_tag soap)
frame_resolved soap may =
    ap (λ b. declaring (if b then Some (frame_scope soap) else None) [] (codes "s:Envelope") (frame_attributes soap))
    may.bindable

-- ---- its text

abbrev pub envelope_tag : List ℕ → List ℕ
envelope_tag soap = start_tag (codes "s:Envelope") (written_attributes (frame_attributes soap))

abbrev pub header_tag : List ℕ
header_tag = start_tag (codes "s:Header") []

abbrev body_tag : List ℕ
body_tag = start_tag (codes "s:Body") []

abbrev pub section : List ℕ → List ℕ → List ℕ
section name inner = start_tag name [] ++ (inner ++ end_tag name [])

grouped : (a b c d : List ℕ) → ((a ++ b) ++ c) ++ d ≡ a ++ (b ++ (c ++ d))
grouped a b c d = simp append_assoc

pub start_is : (soap : List ℕ) → envelope_tag soap ++ header_tag ≡ envelope_start soap
start_is soap =
    ap (λ l. codes "<s:Envelope xmlns:s=" ++ l) (grouped (quoted soap) (written_attributes others) (codes ">")
    header_tag)

pub regroup : (start front header after before body closing finish : List ℕ)
    → start ++ (((front ++ (header ++ after)) ++ ((before ++ (body ++ closing)) ++ [])) ++ finish)
    ≡ (start ++ front) ++ (header ++ ((after ++ before) ++ (body ++ (closing ++ finish))))
regroup start front header after before body closing finish = simp (append_assoc, append-nil)

text_is : (soap header body : List ℕ) → envelope_tag soap
    ++ ((section (codes "s:Header") header ++ (section (codes "s:Body") body ++ [])) ++ end_tag (codes "s:Envelope") [])
    ≡ framed_text soap header body
text_is soap header body =
    regroup (envelope_tag soap) header_tag header (end_tag (codes "s:Header") []) body_tag body
    (end_tag (codes "s:Body") []) (end_tag (codes "s:Envelope") [])
    ∙ ap (λ l. l ++ (header ++ (body_start ++ (body ++ envelope_end)))) (start_is soap)

-- ---- where the payload stands

-- what stands between two places
pub between_is : (before inner after : List ℕ) (n : ℕ) → n ≡ length before
    → inner ≡ take ((n + length inner) - n) (drop n (before ++ (inner ++ after)))
between_is before inner after n e =
    let less : (n + length inner) - n ≡ length inner = omega arith in
    let front : take (length inner) (inner ++ after) ≡ inner = take-append_seam inner after in
    let behind : drop (length before) (before ++ (inner ++ after)) ≡ inner ++ after =
    drop-append_seam before (inner ++ after) in
    sym (ap₂ (λ (k : ℕ) (l : List ℕ). take k l) less (ap (λ k. drop k (before ++ (inner ++ after))) e ∙ behind) ∙ front)

-- where the content of the envelope begins
abbrev pub content_from : List ℕ → ℕ
content_from soap = 0 + length (envelope_tag soap)

-- and where the payload does
abbrev payload_from : List ℕ → List ℕ → ℕ
payload_from soap header =
    content_from soap + 0 + length (section (codes "s:Header") header) + 0 + length body_tag

payload_there : (soap header payload : List ℕ) → let place : ℕ = payload_from soap header in
    payload ≡ take ((place + length payload) - place) (drop place (framed_text soap header payload))
payload_there soap header payload =
    let place : ℕ = payload_from soap header in
    let before = envelope_start soap ++ (header ++ body_start) in
    let text : before ++ (payload ++ envelope_end) ≡ framed_text soap header payload =
    append_assoc (envelope_start soap) (header ++ body_start) (payload ++ envelope_end)
    ∙ ap (λ l. envelope_start soap ++ l) (append_assoc header body_start (payload ++ envelope_end)) in
    let one : length (section (codes "s:Header") header)
    ≡ length header_tag + (length header + length (end_tag (codes "s:Header") [])) =
    length-append header_tag (header ++ end_tag (codes "s:Header") [])
    ∙ ap (λ n. length header_tag + n) (length-append header (end_tag (codes "s:Header") [])) in
    let two : length before ≡ length (envelope_start soap) + (length header + length body_start) =
    length-append (envelope_start soap) (header ++ body_start)
    ∙ ap (λ n. length (envelope_start soap) + n) (length-append header body_start) in
    let sizes : length (envelope_start soap) ≡ length (envelope_tag soap) + length header_tag =
    ap length (sym (start_is soap)) ∙ length-append (envelope_tag soap) header_tag in
    let n : place ≡ length before = omega (arith, one, two, sizes) in
    let P : List ℕ → Type 0 = λ l. payload ≡ take ((place + length payload) - place) (drop place l) in
    subst P text (between_is before payload envelope_end place n)

-- ---- the blocks

pub blocks_back : (nothing : (depth at : ℕ) (scope : List Binding) → ContentReadsAs depth at scope [] none)
    → ((depth at : ℕ) (scope : List Binding) (inner rest : List ℕ) (first : Element) (parts : Parts)
    → ((at : ℕ) → ReadsAs depth at scope inner first) → ((at : ℕ) → ContentReadsAs depth at scope rest parts)
    → ContentReadsAs depth at scope (inner ++ rest) (child first parts))
    → (soap : List ℕ) (bs : List Block) (at : ℕ) → AllByRecursion (IsBlock soap) bs
    → ContentReadsAs 2 at (frame_scope soap) (bytes_of bs) (content_of (trees_of bs))
blocks_back nothing onto soap [] at all = nothing 2 at (frame_scope soap)
blocks_back nothing onto soap (b ∷ bs) at all =
    onto 2 at (frame_scope soap) b.bytes (bytes_of bs) b.tree (content_of (trees_of bs)) all.0
    (λ from. blocks_back nothing onto soap bs from all.1)

pub children_content : (es : List Element) → children_of (content_of es) ≡ es
children_content [] = refl
children_content (e ∷ es) = ap (λ l. e ∷ l) (children_content es)

-- ---- the frame

not_held : (w : ℕ) (ws before after : List ℕ) → [] ≡ before ++ ((w ∷ ws) ++ after) → ⊥
not_held w ws [] after e = cc
not_held w ws (b ∷ before) after e = cc

pub nothing_IsText : IsText [] []
nothing_IsText = run [] (record {
  chars = record { characters = []; each = tt; coded = refl };
  no_less = λ h. not_held 60 [] h.before h.after h.there;
  no_ampersand = λ h. not_held 38 [] h.before h.after h.there;
  no_close = λ h. not_held 93 (codes "]>") h.before h.after h.there;
})

pub framed : Known → (soap : List ℕ) (header : List Block) (payload : List ℕ) (body : Parts) → MayBeSoap soap
    → AllByRecursion (IsBlock soap) header → ((at : ℕ) → ContentReadsAs 2 at (frame_scope soap) payload body)
    → IsEnvelope soap (framed_text soap (bytes_of header) payload)
    (framed_envelope soap (trees_of header) payload body)
framed known soap header payload body may all content =
    let hb = bytes_of header in
    let name = codes "s:Envelope" in
    let s : IsName (codes "s") = name_from (codes "s") refl in
    let from : ℕ = content_from soap in
    let header_from : ℕ = from + 0 + length header_tag in
    let h = blocks_back known.nothing known.more soap header header_from all in
    let header_text = section (codes "s:Header") hb in
    let body_from : ℕ = payload_from soap hb in
    let b = content body_from in
    let body_text = section (codes "s:Body") payload in
    let raw_header = written.element (codes "s:Header") [] header_from (header_from + length hb) h.raw in
    let raw_body = written.element (codes "s:Body") [] body_from (body_from + length payload) b.raw in
    let inside = header_text ++ (body_text ++ []) in
    let raw_inside = written.child raw_header (written.child raw_body written.none) in
    let raw = written.element name (frame_attributes soap) from (from + length inside) raw_inside in
    let header_is : IsElement 1 (from + 0) header_text raw_header = full 1 (from + 0) (codes "s:Header") [] [] hb h.raw
    [] (omega arith) (prefixed (codes "s") (codes "Header") s (name_from (codes "Header") refl)) (end [] tt) h.is tt in
    let body_is : IsElement 1 (from + 0 + length header_text + 0) body_text raw_body = full 1 (from + 0
    + length header_text + 0) (codes "s:Body") [] [] payload b.raw [] (omega arith) (prefixed (codes "s") (codes
    "Body") s (name_from (codes "Body") refl)) (end [] tt) b.is tt in
    let inside_is : IsContent 1 from inside raw_inside = more 1 from [] [] header_text raw_header (body_text ++ [])
    (written.child raw_body written.none) nothing_IsText header_is (more 1 (from + 0 + length header_text) [] []
    body_text raw_body [] written.none nothing_IsText body_is (last 1 (from + 0 + length header_text + 0
    + length body_text) [] [] nothing_IsText)) in
    let root_is : IsElement 0 0 (envelope_tag soap ++ (inside ++ end_tag name [])) raw = full 0 0 name
    (written_attributes (frame_attributes soap)) (frame_attributes soap) inside raw_inside [] (omega arith) (prefixed
    (codes "s") (codes "Envelope") s (name_from (codes "Envelope") refl)) (frame_tag known soap may) inside_is tt in
    let P : List ℕ → Type 0 = λ l. IsDocument l raw in
    let header_element = element (name_in soap (codes "Header")) [] [] (content_of (trees_of header)) in
    let body_element = element (name_in soap (codes "Body")) [] [] body in
    let whole = λ (parts : Parts). element (name_in soap (codes "Envelope")) (frame_scope soap) [] parts in
    record {
      raw = raw;
      document = subst P (append-nil _ ∙ text_is soap hb payload) (document [] [] []
          (envelope_tag soap ++ (inside ++ end_tag name [])) raw [] unmarked without (white [] tt) root_is (white []
          tt));
      decls = frame_scope soap;
      attrs = [];
      parts = child header_element (child body_element none);
      resolved = ap (λ (o : Option Resolved). of_tag o raw_inside) (frame_resolved soap may)
          ∙ ap₂ (λ (x y : Option Parts). option_map whole (joined (option_map (element (name_in soap (codes
          "Header")) [] []) x) (joined (option_map (element (name_in soap (codes "Body")) [] []) y) (Some none))))
          h.resolved b.resolved;
      header = Some header_element;
      body = body_element;
      outline = headed _ (child body_element none) header_element body_element (bare _) refl
          (record { after = none; before = bare _; behind = bare none; named = refl });
      blocks = subst (λ (l : List Element). IsHeader (frame_scope soap) (Some header_element) l (sorted_scope soap))
          (children_content (trees_of header)) (blocks header_element (sorted_scope soap) (frame_IsScope soap may));
      written_body = raw_body;
      last = refl;
      payload = payload_there soap hb payload;
      scope = frame_IsScope soap may;
      content = refl;
    }
