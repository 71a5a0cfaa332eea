-- Names of SOAP 1.2 Part 1, and of SOAP 1.1.
use Rattle.std.specs.Prelude.{ℕ, List, Bool, codes}
use Rattle.std.specs.Str.{bytes_eq}

-- the namespace of envelopes (1.1)
abbrev pub soap_space : List ℕ
soap_space = codes "http://www.w3.org/2003/05/soap-envelope"

-- that of SOAP 1.1 (4.1.2)
abbrev pub soap11_space : List ℕ
soap11_space = codes "http://schemas.xmlsoap.org/soap/envelope/"

-- the namespace of an envelope says its version (SOAP 1.1, 4.1.2; SOAP 1.2 Part 1, 2.8): whether it is SOAP 1.1
unfoldable pub is_soap11 : List ℕ → Bool
is_soap11 soap = bytes_eq soap soap11_space
