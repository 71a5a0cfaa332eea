-- What becomes of a packet that is posted.
use Rattle.std.specs.Prelude.{◌≡◌, ℕ, ◌⊎◌, true, List, [], ◌∷◌, Option, Some, None, Result, Ok, Err}
use Rattle.std.specs.Io.KnownBytes.{Appends}
use Rattle.http_endpoint.specs.Messages.{IsResponse}
use Rattle.http_endpoint.specs.declared.error.HttpError.{HttpError}
use Rattle.http_endpoint.specs.declared.error.HttpError.TheVariants as http
use Rattle.http_endpoint.specs.declared.media.Media.{Media}
use Rattle.http_endpoint.specs.declared.media.Media.TheVariants.{Soap12}
use Rattle.http_endpoint.specs.declared.response.Response.{Response}
use Rattle.http_endpoint.specs.declared.target.Target.{Target}
use Rattle.http_endpoint.specs.Texts.{request_text_as}
use Rattle.rm_base.specs.Outside.{AppendsFront}
use Rattle.rm_base.specs.declared.failures.Memory.{Memory}
use Rattle.http_endpoint.specs.Link.Lines.{Line, Net, Connects, Asks, Dialled, HungUp}
use Rattle.http_endpoint.specs.declared.link.packet.Fate.{Fate}
use Rattle.http_endpoint.specs.declared.link.packet.Fate.TheVariants.{Answered, Missed, Undialled}

-- what came of a request on a connection: the body of its response, or nothing. That comes only where the connection
-- isn't sound, or where its bytes are no response
abbrev pub Exchanges : Line → Option (List ℕ) → Type 0
Exchanges line (Some body) = (all : List ℕ) → line.left ≡ Some all
    → (status : ℕ) × IsResponse (Ok (record { status = status; body = body })) all
Exchanges line None = (all : List ℕ) → line.sound ≡ true → line.left ≡ Some all
    → (e : HttpError) × IsResponse (Err e) all

-- the same, as what became of a packet
abbrev pub Ends : Line → Fate → Type 0
Ends line (Answered body) = Exchanges line (Some body)
Ends line Missed = Exchanges line None
Ends line Undialled = ⊥

-- what a response that was read makes of a packet
abbrev pub ended_by : Result Response HttpError → Result Fate Memory
ended_by (Ok response) = Ok (Answered response.body)
ended_by (Err http.Memory) = Err (record {})
ended_by (Err _) = Ok Missed

-- what was written of a request on a connection that holds this in the end: all of it where there is a response; else
-- some first bytes, and all where the connection is sound
abbrev pub Writes : Line → List ℕ → Option (List ℕ) → Fate → Type 0
Writes line request held (Answered body) = Appends line.held held request
Writes line request held Missed =
    AppendsFront line.held held request × (line.sound ≡ true → Appends line.held held request)
Writes line request held Undialled = ⊥

-- a connection was made, to the target, and ended, with what was written on it
pub record Calls (old new : Net) (target : Target) (line : Line) (held : Option (List ℕ)) : Type 0 where
  pub connects : Connects old new (Some line)
  pub asks : Asks old.past new.past (Dialled target.host target.port ∷ HungUp held ∷ [])

-- the target was called, and no connection was made
pub record CallsInVain (old new : Net) (target : Target) : Type 0 where
  pub connects : Connects old new None
  pub asks : Asks old.past new.past (Dialled target.host target.port ∷ [])

-- a packet was posted to a target: the target was called, the request of this media type with these bytes written
-- there, and this came of it
pub record Exchanged (media : Media) (old new : Net) (target : Target) (bytes : List ℕ) (fate : Fate) : Type 0 where
  pub line : Line
  pub held : Option (List ℕ)
  pub calls : Calls old new target line held
  pub writes : Writes line (request_text_as media target bytes) held fate
  pub ends : Ends line fate

-- memory was wanting while it was posted: the target was called, and some first bytes of the request written there
pub record Began (media : Media) (old new : Net) (target : Target) (bytes : List ℕ) : Type 0 where
  pub line : Line
  pub held : Option (List ℕ)
  pub calls : Calls old new target line held
  pub writes : AppendsFront line.held held (request_text_as media target bytes)

-- a packet for a target: no connection was made, or there was an exchange on the one that was
abbrev pub IsPostTo : Media → Net → Net → Target → List ℕ → Fate → Type 0
IsPostTo media old new target bytes Undialled = CallsInVain old new target
IsPostTo media old new target bytes fate = Exchanged media old new target bytes fate

-- a packet, by the target of its address
abbrev pub IsPostAs : Media → Net → Net → Option Target → List ℕ → Fate → Type 0
IsPostAs media old new None bytes fate = (fate ≡ Missed) × (new ≡ old)
IsPostAs media old new (Some target) bytes fate = IsPostTo media old new target bytes fate

-- a packet of SOAP 1.2
abbrev pub IsPost : Net → Net → Option Target → List ℕ → Fate → Type 0
IsPost old new target bytes fate = IsPostAs Soap12 old new target bytes fate

-- what was done for a packet when memory was wanting: nothing, or its target was called, where it has one
abbrev pub IsBegunTo : Media → Net → Net → Target → List ℕ → Type 0
IsBegunTo media old new target bytes = (new ≡ old) ⊎ Began media old new target bytes

-- the same, by the target of its address
abbrev pub IsBegunAs : Media → Net → Net → Option Target → List ℕ → Type 0
IsBegunAs media old new None bytes = new ≡ old
IsBegunAs media old new (Some target) bytes = IsBegunTo media old new target bytes

-- for a packet of SOAP 1.2
abbrev pub IsBegun : Net → Net → Option Target → List ℕ → Type 0
IsBegun old new target bytes = IsBegunAs Soap12 old new target bytes
