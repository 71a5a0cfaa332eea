-- What the heads of requests and responses say, and what is done with them.
use Rattle.std.specs.Prelude.{◌≡◌, ℕ, ◌⊎◌, ⊤, ◌-◌, ◌^◌, Bool, true, false, not, ◌||◌, map, length, codes, bytes_eq}
use Rattle.std.specs.Prelude.{Result, Ok, Err, if◌then◌else◌, nat_lt}
use Rattle.httparse.specs.Grammar.{RequestHead, ReadsRequest, ResponseHead, ReadsResponse, status_code}
use Rattle.httparse.specs.Spans.{name_and_value}
use Rattle.http1.specs.Fields.{known_fields}
use Rattle.http1.specs.declared.fields.ContentLength.{ContentLength}
use Rattle.http1.specs.declared.fields.ContentLength.TheVariants as Length
use Rattle.http1.specs.declared.fields.TransferEncoding.{TransferEncoding}
use Rattle.http1.specs.declared.fields.TransferEncoding.TheVariants as Coding
use Rattle.http1.specs.declared.fields.KnownFields.{KnownFields}
use Rattle.http_endpoint.specs.Limits.{most_fields}
use Rattle.http_endpoint.specs.declared.body.Framing.{Framing}
use Rattle.http_endpoint.specs.declared.body.Framing.TheVariants.{Empty, Counted, Chunked, ToEnd}
use Rattle.http_endpoint.specs.declared.error.HttpError.{HttpError}
use Rattle.http_endpoint.specs.declared.error.HttpError.TheVariants.{BadHead, Unsupported}
use Rattle.http_endpoint.specs.declared.media.Media.{Media}
use Rattle.http_endpoint.specs.declared.media.Media.TheVariants.{Soap12, Soap11}
use Rattle.http_endpoint.specs.declared.heads.RequestFacts.{RequestFacts}
use Rattle.http_endpoint.specs.declared.heads.ResponseFacts.{ResponseFacts}
use Rattle.http_endpoint.specs.Part.{Grammar}
use Rattle.http_endpoint.specs.Fields.{is_soap, is_plain}

-- what a request's head says
abbrev pub facts_of_request : RequestHead → RequestFacts
facts_of_request h = record {
  is_post = bytes_eq h.method (codes "POST");
  field_count = length h.fields;
  known = known_fields (map name_and_value h.fields);
  is_soap12 = is_soap Soap12 (map name_and_value h.fields);
  is_soap11 = is_soap Soap11 (map name_and_value h.fields);
  is_plain = is_plain (map name_and_value h.fields);
}

-- what a response's head says
abbrev pub facts_of_response : ResponseHead → ResponseFacts
facts_of_response h = record {
  status = status_code h;
  field_count = length h.fields;
  known = known_fields (map name_and_value h.fields);
}

-- a request's head that says this
abbrev pub ReadsRequestFacts : Grammar RequestFacts
ReadsRequestFacts bytes facts rest = (h : RequestHead) × ReadsRequest bytes h rest × (facts ≡ facts_of_request h)

-- a response's head that says this
abbrev pub ReadsResponseFacts : Grammar ResponseFacts
ReadsResponseFacts bytes facts rest = (h : ResponseHead) × ReadsResponse bytes h rest × (facts ≡ facts_of_response h)

-- there is no Transfer-Encoding
abbrev pub is_absent : TransferEncoding → Bool
is_absent Coding.Absent = true
is_absent _ = false

-- a Content-Length is no number, or too great, or stands beside a Transfer-Encoding (RFC 9112, section 6.3)
abbrev pub is_misframed : ContentLength → TransferEncoding → Bool
is_misframed Length.Absent coding = false
is_misframed (Length.Value n) coding = nat_lt (2 ^ 63 - 1) n || not (is_absent coding)
is_misframed Length.Invalid coding = true

-- a head that no body can follow: too many fields, or a body that is told wrongly
abbrev pub is_bad : ℕ → KnownFields → Bool
is_bad field_count known = nat_lt most_fields field_count || is_misframed known.content_length known.transfer_encoding

-- a Transfer-Encoding other than chunked alone
abbrev pub is_otherwise_coded : TransferEncoding → Bool → Bool
is_otherwise_coded Coding.Absent other = false
is_otherwise_coded Coding.Chunked other = other
is_otherwise_coded Coding.Other other = true
is_otherwise_coded Coding.Blank other = true
is_otherwise_coded Coding.Invalid other = true

-- how a body is told from what follows it: by chunks, by its length, or else in the way that is given
abbrev pub framing_or : Framing → ContentLength → TransferEncoding → Framing
framing_or otherwise Length.Absent Coding.Absent = otherwise
framing_or otherwise Length.Absent Coding.Chunked = Chunked
framing_or otherwise Length.Absent Coding.Other = otherwise
framing_or otherwise Length.Absent Coding.Blank = otherwise
framing_or otherwise Length.Absent Coding.Invalid = otherwise
framing_or otherwise (Length.Value n) coding = Counted n
framing_or otherwise Length.Invalid coding = otherwise

-- the media type is this one
abbrev pub is_of : Media → RequestFacts → Bool
is_of Soap12 facts = facts.is_soap12
is_of Soap11 facts = facts.is_soap11

-- what is done with a request of this media type: how its body is read, or the first reason to refuse it
abbrev pub verdict : Media → RequestFacts → Result Framing HttpError
verdict media facts =
    if is_bad facts.field_count facts.known then Err BadHead
    else (if not facts.is_post then Err (Unsupported 405)
    else (if is_otherwise_coded facts.known.transfer_encoding facts.known.other_coding then Err (Unsupported 501)
    else (if not facts.is_plain then Err (Unsupported 415)
    else (if not (is_of media facts) then Err (Unsupported 415)
    else Ok (framing_or Empty facts.known.content_length facts.known.transfer_encoding)))))

-- a request that is refused for what it asks gets one of three statuses: no POST, a coding of the transfer, the content
abbrev pub IsRefusal : HttpError → Type 0
IsRefusal (Unsupported status) = (status ≡ 405) ⊎ ((status ≡ 415) ⊎ (status ≡ 501))
IsRefusal _ = ⊤

-- how a response's body is read
abbrev pub response_framing : ResponseFacts → Result Framing HttpError
response_framing facts =
    if is_bad facts.field_count facts.known then Err BadHead
    else Ok (framing_or ToEnd facts.known.content_length facts.known.transfer_encoding)
