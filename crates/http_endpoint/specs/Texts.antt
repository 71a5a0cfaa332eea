-- The messages that are written (RFC 9112, sections 3 to 6).
use Rattle.std.specs.Prelude.{◌≡◌, ℕ, ◌⊎◌, ◌==◌, List, [], ◌++◌, length, codes, decimal, if◌then◌else◌}
use Rattle.http_endpoint.specs.declared.media.Media.{Media}
use Rattle.http_endpoint.specs.declared.media.Media.TheVariants.{Soap12, Soap11}
use Rattle.http_endpoint.specs.declared.target.Target.{Target}

-- the phrase of a status (RFC 9110, section 15)
abbrev pub phrase_of : ℕ → List ℕ
phrase_of status =
    if status == 200 then codes "OK"
    else (if status == 202 then codes "Accepted"
    else (if status == 400 then codes "Bad Request"
    else (if status == 405 then codes "Method Not Allowed"
    else (if status == 415 then codes "Unsupported Media Type"
    else (if status == 500 then codes "Internal Server Error"
    else codes "Not Implemented")))))

-- the statuses that are written
abbrev pub IsWritten : ℕ → Type 0
IsWritten status = (status ≡ 200) ⊎ ((status ≡ 202)
    ⊎ ((status ≡ 400) ⊎ ((status ≡ 405) ⊎ ((status ≡ 415) ⊎ ((status ≡ 500) ⊎ (status ≡ 501))))))

-- the line that names the media type
abbrev pub type_line : Media → List ℕ
type_line Soap12 = codes "Content-Type: application/soap+xml; charset=utf-8\r\n"
type_line Soap11 = codes "Content-Type: text/xml; charset=utf-8\r\n"

-- the line that a request of SOAP 1.1 has besides (SOAP 1.1, section 6.1.1)
abbrev pub action_line : Media → List ℕ
action_line Soap12 = []
action_line Soap11 = codes "SOAPAction: \"\"\r\n"

-- the lines that end a head: the body's length, the end of the connection, and an empty line
abbrev pub last_lines : ℕ → List ℕ
last_lines len = codes "Content-Length: " ++ decimal len ++ codes "\r\nConnection: close\r\n\r\n"

-- the methods that are allowed, where one was not (RFC 9110, section 15.5.6)
abbrev pub allow_line : ℕ → List ℕ
allow_line status = if status == 405 then codes "Allow: POST\r\n" else []

-- the media type, where there is a body
abbrev pub type_line_of : Media → ℕ → List ℕ
type_line_of media len = if len == 0 then [] else type_line media

-- the head of a response
abbrev pub response_head : Media → ℕ → ℕ → List ℕ
response_head media status len =
    codes "HTTP/1.1 " ++ decimal status ++ codes " " ++ phrase_of status ++ codes "\r\n" ++ allow_line status
    ++ type_line_of media len
    ++ last_lines len

-- a response of this media type
abbrev pub response_text_as : Media → ℕ → List ℕ → List ℕ
response_text_as media status body = response_head media status (length body) ++ body

-- a response of SOAP 1.2
abbrev pub response_text : ℕ → List ℕ → List ℕ
response_text status body = response_text_as Soap12 status body

-- a port, where it isn't that of http (RFC 9110, sections 4.2.1 and 7.2)
abbrev pub port_text : ℕ → List ℕ
port_text port = if port == 80 then [] else codes ":" ++ decimal port

-- the head of a request
abbrev pub request_head : Media → Target → ℕ → List ℕ
request_head media target len =
    codes "POST " ++ target.path ++ codes " HTTP/1.1\r\nHost: " ++ target.host ++ port_text target.port ++ codes
    "\r\n" ++ type_line media ++ action_line media
    ++ last_lines len

-- a request of this media type
abbrev pub request_text_as : Media → Target → List ℕ → List ℕ
request_text_as media target body = request_head media target (length body) ++ body

-- a request of SOAP 1.2
abbrev pub request_text : Target → List ℕ → List ℕ
request_text target body = request_text_as Soap12 target body
