-- Where a request to an address goes (URL Standard; RFC 9110, section 4.2.1).
use Rattle.std.specs.Prelude.{ℕ, Bool, true, false, List, [], ◌∷◌, ◌++◌, codes, bytes_eq, Option, None, Some, unwrap_or}
use Rattle.std.specs.Prelude.{option_map, Ok, Err, if◌then◌else◌}
use Rattle.url.specs.Host.{host_text}
use Rattle.url.specs.declared.error.ParseError.{ParseError}
use Rattle.url.specs.declared.error.ParseError.TheVariants.{Overflow, OutOfMemory}
use Rattle.url.specs.Parts.{Parts, nonempty_host}
use Rattle.url.specs.Parser.{Parsed, parse_url}
use Rattle.http_endpoint.specs.Bytes.{question_mark}
use Rattle.http_endpoint.specs.declared.target.Target.{Target}

-- a query behind its question mark, where there is one
abbrev pub query_text : Option (List ℕ) → List ℕ
query_text None = []
query_text (Some query) = question_mark ∷ query

-- the host as it is written, the port or else that of http, and the path with the query
abbrev pub target_at : Parts → List ℕ → Target
target_at url host = record { host = host; port = unwrap_or url.port 80; path = url.path ++ query_text url.query }

-- an http URL with a host has a target
abbrev pub target_of_url : Parts → Option Target
target_of_url url = if bytes_eq url.scheme (codes "http") then option_map (target_at url)
    (option_map host_text (nonempty_host url)) else None

-- memory was wanting for a parse, or 4 GB are too few for its URL
abbrev pub has_no_room : ParseError → Bool
has_no_room OutOfMemory = true
has_no_room Overflow = true
has_no_room e = false

-- a text that is no URL has none
abbrev pub target_of_parse : Parsed Parts → Option Target
target_of_parse (Ok url) = target_of_url url
target_of_parse (Err e) = None

-- the target of an address
abbrev pub target_of : List ℕ → Option Target
target_of address = target_of_parse (parse_url None address)
