-- What the parser's answers say of heads.
use Rattle.std.proofs.Common.{◌≡◌, ℕ, ◌≤◌, ◌+◌, ◌*◌, Bool, List, length, take, drop, arith, All, ap, ◌∙◌, Ok, map}
use Rattle.std.specs.Prelude.{codes, bytes_eq}
use Rattle.std.proofs.lemmas.Grind.{common_steps}
use Rattle.httparse.specs.Grammar.{print_section, print_request, RequestHead, NeverHasRequest, ResponseHead}
use Rattle.httparse.specs.Grammar.{print_response, NeverHasResponse}
use Rattle.httparse.specs.Outcome.{IfComplete}
use Rattle.httparse.specs.Spans.{span_bytes, header_bytes, name_and_value, IsHeaderWithin, IsRequestWithin}
use Rattle.httparse.specs.Spans.{IsRequestOf, RequestExceeds, IsResponseWithin, IsResponseOf, ResponseExceeds}
use Rattle.httparse.specs.declared.Error.{Error}
use Rattle.httparse.specs.declared.Status.{Status}
use Rattle.httparse.specs.declared.Status.TheVariants.{Complete}
use Rattle.httparse.specs.declared.spans.HeaderSpan.{HeaderSpan}
use Rattle.httparse.specs.declared.spans.RequestSpans.{RequestSpans}
use Rattle.httparse.specs.declared.spans.ResponseSpans.{ResponseSpans}
use Rattle.http1.specs.Fields.{known_fields}
use Rattle.http1.specs.declared.fields.KnownFields.{KnownFields}
use Rattle.http_endpoint.specs.Part.{Never}
use Rattle.http_endpoint.specs.Heads.{ReadsRequestFacts, ReadsResponseFacts}
use Rattle.http_endpoint.specs.declared.media.Media.TheVariants.{Soap12, Soap11}
use Rattle.http_endpoint.specs.Fields.{is_soap, is_plain}
use Rattle.http_endpoint.proofs.RoomLemmas.{length-section, count-fields}

-- a head is no shorter than its fields
pub length-request : (h : RequestHead) → length (print_section h.fields h.last) ≤ length (print_request h)
unfolding print_request
length-request h = grind (arith, common_steps)

-- a head of so many bytes doesn't pass the room
pub request-fits : (bytes : List ℕ) (room : ℕ) → length bytes ≤ 3 * room → ¬ (RequestExceeds room bytes)
request-fits bytes room wide (front, rest, same, h, reads, more) =
    let long : 3 * length h.fields + 1 ≤ length (print_section h.fields h.last) =
    length-section h.fields h.last reads.0.fields in
    grind (arith, common_steps, long, length-request h, reads.1, same, more, wide)

-- what the parser refuses is never a head
pub request-never : (bytes : List ℕ) → NeverHasRequest bytes → Never ReadsRequestFacts bytes
request-never bytes never more asked rest h = never more h.0 rest h.1

-- the headers that were found lie in the bytes
pub headers-inside : (bytes : List ℕ) (headers found : List HeaderSpan) (status : Status RequestSpans)
    (r : RequestSpans)
    → status ≡ Complete r → IfComplete {E = Error} (Ok status) (IsRequestWithin bytes headers)
    → found ≡ take r.headers headers → All (IsHeaderWithin (length bytes)) found
headers-inside bytes headers found status r is all_within same =
    let within : IsRequestWithin bytes headers r = rw is at all_within in
    let all : All (IsHeaderWithin r.len) found = rw same within.section.headers_fit in
    λ k d less. let h = all k d less in
    ((h.0.0, omega (arith, h.0.1, within.section.len_fits)), (h.1.0, omega (arith, h.1.1, within.section.len_fits)))

-- what the parser finds is a head that says this
pub request-found : (bytes : List ℕ) (headers found : List HeaderSpan) (status : Status RequestSpans) (r : RequestSpans)
    (post soap12 soap11 plain : Bool) (method : List ℕ) (known : KnownFields) → status ≡ Complete r
    → IfComplete {E = Error} (Ok status) (IsRequestWithin bytes headers)
    → IfComplete {E = Error} (Ok status) (IsRequestOf bytes headers)
    → found ≡ take r.headers headers → method ≡ span_bytes bytes r.method → post ≡ bytes_eq method (codes "POST")
    → known ≡ known_fields (map (header_bytes bytes) found) → soap12 ≡ is_soap Soap12 (map (header_bytes bytes) found)
    → soap11 ≡ is_soap Soap11 (map (header_bytes bytes) found)
    → plain ≡ is_plain (map (header_bytes bytes) found)
    → (r.len ≤ length bytes) × ReadsRequestFacts bytes
    (record {
      is_post = post;
      field_count = r.headers;
      known = known;
      is_soap12 = soap12;
      is_soap11 = soap11;
      is_plain = plain;
    })
    (drop r.len bytes)
request-found bytes headers found status r post soap12 soap11 plain method known is all_within all_of same method_is
    post_is
    known_is soap12_is soap11_is plain_is =
    let within : IsRequestWithin bytes headers r = rw is at all_within in
    let of : IsRequestOf bytes headers r = rw is at all_of in
    let at = of.1 in
    let fields : map (header_bytes bytes) found ≡ map name_and_value of.0.fields =
    ap (λ f. map (header_bytes bytes) f) same ∙ at.fields in
    let a = post_is ∙ ap (λ m. bytes_eq m (codes "POST")) (method_is ∙ at.method) in
    let b = count-fields bytes headers r.headers of.0.fields within.section.count_fits at.fields in
    let k = known_is ∙ ap known_fields fields in
    let s = soap12_is ∙ ap (is_soap Soap12) fields in
    let t = soap11_is ∙ ap (is_soap Soap11) fields in
    let p = plain_is ∙ ap is_plain fields in (
      within.section.len_fits,
      (
        of.0,
        at.reads,
        (λ i. record {
          is_post = a i;
          field_count = b i;
          known = k i;
          is_soap12 = s i;
          is_soap11 = t i;
          is_plain = p i;
        }),
      ),
    )

-- ---- responses

-- a head is no shorter than its fields
pub length-response : (h : ResponseHead) → length (print_section h.fields h.last) ≤ length (print_response h)
unfolding print_response
length-response h = grind (arith, common_steps)

-- a head of so many bytes doesn't pass the room
pub response-fits : (bytes : List ℕ) (room : ℕ) → length bytes ≤ 3 * room → ¬ (ResponseExceeds room bytes)
response-fits bytes room wide (front, rest, same, h, reads, more) =
    let long : 3 * length h.fields + 1 ≤ length (print_section h.fields h.last) =
    length-section h.fields h.last reads.0.fields in
    grind (arith, common_steps, long, length-response h, reads.1, same, more, wide)

-- what the parser refuses is never a head
pub response-never : (bytes : List ℕ) → NeverHasResponse bytes → Never ReadsResponseFacts bytes
response-never bytes never more facts rest h = never more h.0 rest h.1

-- the headers that were found lie in the bytes
pub response-inside : (bytes : List ℕ) (headers found : List HeaderSpan) (status : Status ResponseSpans)
    (r : ResponseSpans)
    → status ≡ Complete r → IfComplete {E = Error} (Ok status) (IsResponseWithin bytes headers)
    → found ≡ take r.headers headers → All (IsHeaderWithin (length bytes)) found
response-inside bytes headers found status r is all_within same =
    let within : IsResponseWithin bytes headers r = rw is at all_within in
    let all : All (IsHeaderWithin r.len) found = rw same within.section.headers_fit in
    λ k d less. let h = all k d less in
    ((h.0.0, omega (arith, h.0.1, within.section.len_fits)), (h.1.0, omega (arith, h.1.1, within.section.len_fits)))

-- what the parser finds is a head that says this
pub response-found : (bytes : List ℕ) (headers found : List HeaderSpan) (status : Status ResponseSpans)
    (r : ResponseSpans)
    (known : KnownFields) → status ≡ Complete r
    → IfComplete {E = Error} (Ok status) (IsResponseWithin bytes headers)
    → IfComplete {E = Error} (Ok status) (IsResponseOf bytes headers)
    → found ≡ take r.headers headers → known ≡ known_fields (map (header_bytes bytes) found)
    → (r.len ≤ length bytes)
    × ReadsResponseFacts bytes (record { status = r.code; field_count = r.headers; known = known }) (drop r.len bytes)
response-found bytes headers found status r known is all_within all_of same known_is =
    let within : IsResponseWithin bytes headers r = rw is at all_within in
    let of : IsResponseOf bytes headers r = rw is at all_of in
    let at = of.1 in
    let fields : map (header_bytes bytes) found ≡ map name_and_value of.0.fields =
    ap (λ f. map (header_bytes bytes) f) same ∙ at.fields in
    let b = count-fields bytes headers r.headers of.0.fields within.section.count_fits at.fields in
    let k = known_is ∙ ap known_fields fields in
    (within.section.len_fits, (of.0, at.reads, (λ i. record { status = at.code i; field_count = b i; known = k i })))
