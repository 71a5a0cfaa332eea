-- Whole messages, as the bytes of a connection.
use Rattle.std.specs.Prelude.{◌≡◌, ◌≢◌, ℕ, List, [], codes, Result, Ok, Err, if◌then◌else◌}
use Rattle.httparse.specs.Grammar.{MayBecomeRequest, MayBecomeResponse}
use Rattle.http_endpoint.specs.Limits.{part_bytes}
use Rattle.http_endpoint.specs.declared.body.Framing.{Framing}
use Rattle.http_endpoint.specs.declared.error.HttpError.{HttpError}
use Rattle.http_endpoint.specs.declared.error.HttpError.TheVariants.{BadHead, CutShort}
use Rattle.http_endpoint.specs.declared.heads.RequestFacts.{RequestFacts}
use Rattle.http_endpoint.specs.declared.heads.ResponseFacts.{ResponseFacts}
use Rattle.http_endpoint.specs.declared.media.Media.{Media}
use Rattle.http_endpoint.specs.declared.media.Media.TheVariants.{Soap12}
use Rattle.http_endpoint.specs.declared.response.Response.{Response}
use Rattle.http_endpoint.specs.Part.{ReadsUpTo, IsBad, IsShort, Stage}
use Rattle.http_endpoint.specs.Heads.{ReadsRequestFacts, ReadsResponseFacts, verdict, response_framing}
use Rattle.http_endpoint.specs.Body.{IsBody}

-- what tells a peer to send the body (RFC 9110, sections 10.1.1 and 15.2.1)
abbrev pub continue_text : List ℕ
continue_text = codes "HTTP/1.1 100 Continue\r\n\r\n"

-- what is written for a request that isn't refused, before its body is read
abbrev pub invitation : RequestFacts → List ℕ
invitation facts = if facts.known.expect_continue then continue_text else []

-- what comes of all the bytes that a connection has left, where requests have this media type, and what is written
-- meanwhile
pub data IsRequestAs (media : Media) (result : Result (List ℕ) HttpError) (said all : List ℕ) : Type 0 where
  bad : IsBad part_bytes ReadsRequestFacts all → result ≡ Err BadHead → said ≡ [] → IsRequestAs media result said all
  short : IsShort part_bytes ReadsRequestFacts MayBecomeRequest all → result ≡ Err CutShort → said ≡ []
      → IsRequestAs media result said all
  refused : (facts : RequestFacts) (rest : List ℕ) (e : HttpError)
      → ReadsUpTo part_bytes ReadsRequestFacts all facts rest
      → verdict media facts ≡ Err e → result ≡ Err e → said ≡ [] → IsRequestAs media result said all
  accepted : (facts : RequestFacts) (rest : List ℕ) (framing : Framing)
      → ReadsUpTo part_bytes ReadsRequestFacts all facts rest
      → verdict media facts ≡ Ok framing → said ≡ invitation facts → IsBody framing rest result
      → IsRequestAs media result said all

-- where they are of SOAP 1.2
abbrev pub IsRequest : Result (List ℕ) HttpError → (said all : List ℕ) → Type 0
IsRequest result said all = IsRequestAs Soap12 result said all

-- a response of this status, with the body that was read
abbrev pub with_status : ℕ → Result (List ℕ) HttpError → Result Response HttpError
with_status status (Ok body) = Ok (record { status = status; body = body })
with_status status (Err e) = Err e

-- what comes of what stands behind the head of a response
pub data IsFinal (result : Result Response HttpError) (facts : ResponseFacts) (rest : List ℕ) : Type 0 where
  unframed : (e : HttpError) → response_framing facts ≡ Err e → result ≡ Err e → IsFinal result facts rest
  framed : (framing : Framing) (body : Result (List ℕ) HttpError) → response_framing facts ≡ Ok framing
      → IsBody framing rest body
      → result ≡ with_status facts.status body → IsFinal result facts rest

-- what comes of a head: of status 100 it is passed over, where it is sound, and the next head counts (RFC 9110,
-- section 15.2)
pub data IsAnswered (result : Result Response HttpError) (facts : ResponseFacts) (rest : List ℕ) : Type 0 where
  passed : (framing : Framing) → facts.status ≡ 100 → response_framing facts ≡ Ok framing
      → Stage part_bytes ReadsResponseFacts MayBecomeResponse rest result (λ facts rest. IsFinal result facts rest)
      → IsAnswered result facts rest
  unsound : (e : HttpError) → facts.status ≡ 100 → response_framing facts ≡ Err e → result ≡ Err e
      → IsAnswered result facts rest
  final : facts.status ≢ 100 → IsFinal result facts rest → IsAnswered result facts rest

-- what comes of all the bytes that a source has left
abbrev pub IsResponse : Result Response HttpError → List ℕ → Type 0
IsResponse result all =
    Stage part_bytes ReadsResponseFacts MayBecomeResponse all result (λ facts rest. IsAnswered result facts rest)
