-- Which endpoint references of a record may be written into a message.
use Rattle.std.specs.Prelude.{Bool, ◌&&◌, nat_le, List}
use Rattle.std.specs.List.{list_all}
use Rattle.rm_base.specs.Limits as limits
use Rattle.soap_document.specs.Profile.Namespaces.{is_new_name}
use Rattle.soap_document.specs.Profile.Payload.{height}
use Rattle.soap_document.specs.Profile.Tree.{Element, attrs_of}
use Rattle.wsa_headers.specs.Endpoint.{mark_name, params_length}

-- a parameter has no mark, and at most 90 elements in one another
abbrev pub is_plain : Element → Bool
is_plain p = is_new_name mark_name (attrs_of p) && nat_le (height p) limits.content_depth

-- all parameters are such, and together they are at most 65536 bytes
abbrev pub may_go : List Element → Bool
may_go params = list_all is_plain params && nat_le (params_length params) limits.parameter_bytes
