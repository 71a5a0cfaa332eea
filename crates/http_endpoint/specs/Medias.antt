-- The versions of SOAP, by the media type that a message of each has.
use Rattle.std.specs.Prelude.{ℕ, List, codes}
use Rattle.http_endpoint.specs.declared.media.Media.{Media}
use Rattle.http_endpoint.specs.declared.media.Media.TheVariants.{Soap12, Soap11}

-- the name of the media type (RFC 3902; SOAP 1.1, section 6)
abbrev pub type_name : Media → List ℕ
type_name Soap12 = codes "application/soap+xml"
type_name Soap11 = codes "text/xml"
