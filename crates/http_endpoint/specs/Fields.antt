-- What the fields of a head say of the body (RFC 9110, section 8).
use Rattle.std.specs.Prelude.{ℕ, Bool, true, not, ◌&&◌, ◌||◌, ◌==◌, List, [], ◌∷◌, take, drop, codes, length}
use Rattle.std.specs.List.{list_all, list_any}
use Rattle.httparse.specs.Grammar.{is_ows}
use Rattle.http1.specs.Text.{eq_ignore_case}
use Rattle.http1.specs.Fields.{Header, is_named, is_blank}
use Rattle.http_endpoint.specs.Bytes.{semicolon}
use Rattle.http_endpoint.specs.Medias.{type_name}
use Rattle.http_endpoint.specs.declared.media.Media.{Media}

-- there is a field with this name, in any case
abbrev pub has_named : List ℕ → List Header → Bool
has_named name headers = list_any (is_named name) headers

-- each field with this name, in any case, has a value that passes the test
abbrev pub each_named : List ℕ → (List ℕ → Bool) → List Header → Bool
each_named name test headers = list_all (λ h. not (is_named name h) || test h.1) headers

-- white space, and then nothing or parameters (RFC 9110, section 5.6.6)
abbrev pub ends_type : List ℕ → Bool
ends_type [] = true
ends_type (b ∷ bytes) = (b == semicolon) || (is_ows b && ends_type bytes)

-- the media type is this one, in any case, whatever its parameters (RFC 9110, section 8.3.1)
abbrev pub is_type_of : Media → List ℕ → Bool
is_type_of media value = eq_ignore_case (take (length (type_name media)) value) (type_name media)
    && ends_type (drop (length (type_name media)) value)

-- the content is not coded (RFC 9110, sections 8.4 and 12.5.3)
abbrev pub is_identity : List ℕ → Bool
is_identity value = is_blank value || eq_ignore_case value (codes "identity")

-- there is a media type, and no other than this one
abbrev pub is_soap : Media → List Header → Bool
is_soap media headers = has_named (codes "content-type") headers
    && each_named (codes "content-type") (is_type_of media) headers

-- no content coding but identity
abbrev pub is_plain : List Header → Bool
is_plain headers = each_named (codes "content-encoding") is_identity headers
