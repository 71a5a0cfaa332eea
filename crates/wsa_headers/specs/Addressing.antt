-- Message addressing properties in header blocks: WS-Addressing 1.0 Core, section 3, and SOAP Binding, section 3.
use Rattle.std.specs.Prelude.{◌≡◌, ℕ, List, [], ◌∷◌, Bool, true, false, not, ◌&&◌, ◌||◌, if◌then◌else◌, Option, Some}
use Rattle.std.specs.Prelude.{None, Result, Ok, Err, codes, map, is_none}
use Rattle.std.specs.List.{filter, list_any}
use Rattle.std.specs.Str.{bytes_eq}
use Rattle.soap_document.specs.Profile.Tree.{Element, name_of, attrs_of}
use Rattle.soap_writer.specs.Values.Children.{name_in, has_name, value_among}
use Rattle.soap_writer.specs.Values.Outcome.{◌>>=◌, optional, each, if_present}
use Rattle.soap_writer.specs.Values.Values.{is_true}
use Rattle.wsa_headers.specs.Endpoint.{wsa, uri_of, epr_of, mark_name, param}
use Rattle.wsa_headers.specs.declared.addressing.Addressing.{Addressing}
use Rattle.wsa_headers.specs.declared.endpoint.Epr.{Epr}
use Rattle.wsa_headers.specs.declared.error.AddressingError.{AddressingError}
use Rattle.wsa_headers.specs.declared.error.AddressingError.TheVariants as errors

-- whether an attribute that may be absent says that something holds
abbrev pub says_so : Option (List ℕ) → Bool
says_so None = false
says_so (Some value) = is_true value

-- whether a block is a reference parameter; then it is no header, whatever its name (SOAP Binding, 3.3)
abbrev pub is_marked : Element → Bool
is_marked e = says_so (value_among mark_name (attrs_of e))

-- whether a block is the header of this name
abbrev pub is_header : List ℕ → Element → Bool
is_header local e = has_name (wsa local) e && not (is_marked e)

-- the blocks that are headers of this name, in order
abbrev pub blocks_named : List ℕ → List Element → List Element
blocks_named local headers = filter (is_header local) headers

-- ---- cardinality (Core, 3.2; SOAP Binding, 6.4.1)

-- whether a header stands there more than once
abbrev pub is_repeated : List ℕ → List Element → Bool
is_repeated local headers = is_none (optional (blocks_named local headers))

-- the first of the headers that may stand once and stand there more often
abbrev pub repeated : List Element → Option (List ℕ)
repeated headers =
    if is_repeated (codes "To") headers then Some (codes "To")
    else if is_repeated (codes "Action") headers then Some (codes "Action")
    else if is_repeated (codes "MessageID") headers then Some (codes "MessageID")
    else if is_repeated (codes "ReplyTo") headers then Some (codes "ReplyTo")
    else if is_repeated (codes "FaultTo") headers then Some (codes "FaultTo") else None

-- ---- values

-- the one header of an address, and that of an endpoint reference, where they stand there
abbrev pub uri_header : List ℕ → List Element → Option (Option (List ℕ))
uri_header local headers = do
  found ← optional (blocks_named local headers)
  if_present uri_of found

-- the one header of an endpoint reference, where it stands there
abbrev pub epr_header : List ℕ → List Element → Option (Option Epr)
epr_header local headers = do
  found ← optional (blocks_named local headers)
  if_present epr_of found

-- the relationship of a RelatesTo: an absent one is that of a reply (Core, 3.1)
abbrev pub is_reply_value : Option (List ℕ) → Bool
is_reply_value None = true
is_reply_value (Some value) = bytes_eq value (codes "http://www.w3.org/2005/08/addressing/reply")

-- a RelatesTo with the relationship of a reply
abbrev pub is_reply : Element → Bool
is_reply e = is_reply_value (value_among (name_in [] (codes "RelationshipType")) (attrs_of e))

-- the first, where there is one
abbrev pub first_of : {A : Type 0} → List A → Option A
first_of [] = None
first_of (x ∷ xs) = Some x

-- the message that this one replies to: the first RelatesTo of a reply, where all of them are addresses
abbrev pub relates_in : List Element → Option (Option (List ℕ))
relates_in headers = do
  uris ← each uri_of (blocks_named (codes "RelatesTo") headers)
  if_present uri_of (first_of (filter is_reply (blocks_named (codes "RelatesTo") headers)))

-- the address of whoever is at the other end of the connection (Core, 2.1)
abbrev pub anonymous : List ℕ
anonymous = codes "http://www.w3.org/2005/08/addressing/anonymous"

-- it stands for an address that is absent (Core, 3.2)
abbrev pub or_anonymous : Option (List ℕ) → List ℕ
or_anonymous None = anonymous
or_anonymous (Some uri) = uri

-- the parameters that came with the message
abbrev pub params_of : List Element → List Element
params_of headers = map param (filter is_marked headers)

-- whom a reply and a fault go to
abbrev pub Replies : Type 0
Replies = Option Epr × Option Epr

-- both, from the header blocks
unfoldable pub replies_in : List Element → Option Replies
replies_in headers = do
  reply_to ← epr_header (codes "ReplyTo") headers
  fault_to ← epr_header (codes "FaultTo") headers
  Some (reply_to, fault_to)

-- the properties of a message with these header blocks
unfoldable pub properties_in : List Element → Option Addressing
properties_in headers = do
  to ← uri_header (codes "To") headers
  found ← uri_header (codes "Action") headers
  action ← found
  message_id ← uri_header (codes "MessageID") headers
  relates ← relates_in headers
  replies ← replies_in headers
  Some (record {
    to = or_anonymous to;
    action = action;
    message_id = message_id;
    relates = relates;
    reply_to = replies.0;
    fault_to = replies.1;
    params = params_of headers;
  })

-- ---- what is wrong

-- whether a block is a header that has no value of its kind
abbrev pub is_unreadable : Element → Bool
is_unreadable e =
    if is_header (codes "To") e || is_header (codes "Action") e || is_header (codes "MessageID") e || is_header
    (codes "RelatesTo") e
    then is_none (uri_of e)
    else if is_header (codes "ReplyTo") e || is_header (codes "FaultTo") e then is_none (epr_of e) else false

-- the local name of the first such block
abbrev pub unreadable : List Element → List ℕ
unreadable [] = []
unreadable (e ∷ headers) = if is_unreadable e then (name_of e).local else unreadable headers

-- whether there is no header of this name
abbrev pub is_missing : List ℕ → List Element → Bool
is_missing local headers = not (list_any (is_header local) headers)

-- the properties, or that a header is bad
abbrev pub read_or_bad : List Element → Option Addressing → Result Addressing AddressingError
read_or_bad headers None = Err (errors.BadHeader (unreadable headers))
read_or_bad headers (Some properties) = Ok properties

-- the properties, or the first cause that there are none: first the headers that stand there twice, then the one that
-- is missing, then those that are bad
abbrev pub read_unless : List Element → Option (List ℕ) → Result Addressing AddressingError
read_unless headers (Some name) = Err (errors.Cardinality name)
read_unless headers None =
    if is_missing (codes "Action") headers then Err (errors.HeaderMissing (codes "Action"))
    else read_or_bad headers (properties_in headers)

-- the properties that header blocks have, or the first cause that there are none
abbrev pub addressing_in : List Element → Result Addressing AddressingError
addressing_in headers = read_unless headers (repeated headers)

-- what a function answers is this, unless memory ran out
abbrev pub Answers : {A : Type 0} → Result A AddressingError → Result A AddressingError → Type 0
Answers (Err errors.Memory) read = Unit {0}
Answers (Ok x) read = read ≡ Ok x
Answers (Err (errors.Cardinality name)) read = read ≡ Err (errors.Cardinality name)
Answers (Err (errors.HeaderMissing name)) read = read ≡ Err (errors.HeaderMissing name)
Answers (Err (errors.BadHeader name)) read = read ≡ Err (errors.BadHeader name)

-- the value of an element, or that it is a bad header of its name
abbrev pub blamed : {A : Type 0} → List ℕ → Option A → Result A AddressingError
blamed local None = Err (errors.BadHeader local)
blamed local (Some x) = Ok x
