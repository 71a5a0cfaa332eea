-- Endpoint references: WS-Addressing 1.0 Core, section 2, and SOAP Binding, section 3.
use Rattle.std.specs.Prelude.{ℕ, ◌+◌, List, [], ◌∷◌, Bool, false, not, ◌&&◌, nat_le, if◌then◌else◌, Option, Some}
use Rattle.std.specs.Prelude.{None, codes, length, map}
use Rattle.std.specs.List.{filter, flat_map, list_all}
use Rattle.rm_base.specs.Limits as limits
use Rattle.soap_document.specs.Profile.Payload.{height}
use Rattle.soap_document.specs.Profile.Tree.{Element, element, Parts, without_declarations, parts_of, children_of}
use Rattle.soap_document.specs.declared.profile.name.Expanded.{Expanded}
use Rattle.soap_document.specs.declared.profile.tree.Attr.{Attr}
use Rattle.soap_writer.specs.ElementText.{element_text}
use Rattle.soap_writer.specs.Frame.{addressing_space}
use Rattle.soap_writer.specs.Values.Children.{name_in, is_same, children_named}
use Rattle.soap_writer.specs.Values.Outcome.{◌>>=◌, single}
use Rattle.soap_writer.specs.Values.Values.{trimmed_text, text_within}
use Rattle.wsa_headers.specs.declared.endpoint.Epr.{Epr}

-- a name of WS-Addressing
abbrev pub wsa : List ℕ → Expanded
wsa local = name_in addressing_space local

-- an element of text that is an address: at most 2048 bytes, trimmed
abbrev pub uri_of : Element → Option (List ℕ)
uri_of e = do
  bytes ← trimmed_text e
  text_within 2048 bytes

-- the one Address among children (Core, 2.1)
unfoldable pub address_in : Parts → Option (List ℕ)
address_in parts = do
  e ← single (children_named (wsa (codes "Address")) parts)
  uri_of e

-- the name of the mark of a reference parameter (SOAP Binding, 3.3)
abbrev pub mark_name : Expanded
mark_name = wsa (codes "IsReferenceParameter")

-- an attribute that isn't the mark
abbrev pub is_no_mark : Attr → Bool
is_no_mark a = not (is_same a.name mark_name)

-- an element without the mark
abbrev pub unmarked : Element → Element
unmarked (element name decls attrs parts) = element name decls (filter is_no_mark attrs) parts

-- a reference parameter as it is kept: stripped and without the mark
abbrev pub param : Element → Element
param e = unmarked (without_declarations e)

-- the parameters in elements ReferenceParameters, of all of them together (Core, 2.1)
abbrev pub params_among : List Element → List Element
params_among holders = flat_map (λ e. map param (children_of (parts_of e))) holders

-- the parameters of an endpoint reference
abbrev pub params_in : Parts → List Element
params_in parts = params_among (children_named (wsa (codes "ReferenceParameters")) parts)

-- how many bytes parameters are as texts of elements, together
abbrev pub params_length : List Element → ℕ
params_length [] = 0
params_length (p ∷ params) = length (element_text false p) + params_length params

-- whether none of them has more than 90 elements in one another, and together they are at most 65536 bytes
abbrev pub may_keep : List Element → Bool
may_keep params =
    list_all (λ p. nat_le (height p) limits.content_depth) params
    && nat_le (params_length params) limits.parameter_bytes

-- parameters that may be kept
abbrev pub kept_params : List Element → Option (List Element)
kept_params params = if may_keep params then Some params else None

-- an endpoint reference, as the content of an element: its Address and its parameters; all else is passed over
unfoldable pub epr_in : Parts → Option Epr
epr_in parts = do
  address ← address_in parts
  params ← kept_params (params_in parts)
  Some (record { address = address; params = params })

-- an element that is an endpoint reference
abbrev pub epr_of : Element → Option Epr
epr_of e = epr_in (parts_of e)
