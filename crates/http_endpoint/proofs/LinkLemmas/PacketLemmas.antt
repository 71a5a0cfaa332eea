-- Lemmas on packets that are posted.
use Rattle.std.proofs.Common.{◌≡◌, ◌≢◌, ℕ, List, [], ◌∷◌, ◌++◌, length, Option, Some, Result, Ok, Err, ◌∙◌, ap}
use Rattle.std.proofs.Common.{true, nat_lt, IfOk, OnErr, refl, arith, rules, inl, inr, append_assoc}
use Rattle.std.specs.Io.KnownBytes.{Appends}
use Rattle.std.proofs.lemmas.Bool.{ltb-true}
use Rattle.std.proofs.lemmas.List.{take_all}
use Rattle.rm_base.specs.Count.{Rose}
use Rattle.rm_base.specs.Outside.{AppendsFront}
use Rattle.rm_base.specs.declared.failures.Memory.{Memory}
use Rattle.http_endpoint.specs.Messages.{IsResponse}
use Rattle.http_endpoint.specs.Part.{IfTold}
use Rattle.http_endpoint.specs.declared.error.HttpError.{HttpError}
use Rattle.http_endpoint.specs.declared.error.HttpError.TheVariants as http
use Rattle.http_endpoint.specs.Texts.{request_text_as}
use Rattle.http_endpoint.specs.declared.media.Media.{Media}
use Rattle.http_endpoint.specs.declared.response.Response.{Response}
use Rattle.http_endpoint.specs.declared.target.Target.{Target}
use Rattle.http_endpoint.specs.Link.Lines.{Asks, Call, Connects, Dialled, Ended, HungUp, Line, Net}
use Rattle.http_endpoint.specs.Link.Posts.{Calls, Ends, IsBegunTo, IsPostTo, Writes, ended_by}
use Rattle.http_endpoint.specs.declared.link.packet.Fate.{Fate}
use Rattle.http_endpoint.specs.declared.link.packet.Fate.TheVariants.{Answered, Missed, Undialled}

-- a count below its greatest value that stands still has not risen
pub no-rise : (n m : ℕ) → nat_lt n 18446744073709551615 ≡ true → m ≡ n → Rose n m → ⊥
no-rise n m below same (inl risen) = omega (arith, risen, same)
no-rise n m below same (inr full) =
    let less = ltb-true n 18446744073709551615 below in
    omega (arith, less, same, full)

-- ---- what was written

-- what holds holds after an error too
pub any-err : {T E : Type 0} {P : Type 0} (result : Result T E) → P → OnErr result P
any-err (Ok x) p = search rules
any-err (Err e) p = p

-- all bytes are some first ones
pub all-front : (old new : Option (List ℕ)) (bytes : List ℕ) → Appends old new bytes → AppendsFront old new bytes
all-front old new bytes appends =
    (length bytes, omega arith, rw (take_all (length bytes) bytes (omega arith)) appends)

-- a request was written whole, and this is what a response that was read makes of it
pub written : (line : Line) (request : List ℕ) (held : Option (List ℕ)) (read : Result Response HttpError)
    → Appends line.held held request → IfOk (ended_by read) (Writes line request held)
written line request held (Ok r) whole = whole
written line request held (Err http.Memory) whole = search rules
written line request held (Err http.ReadFault) whole = (all-front line.held held request whole, λ s. whole)
written line request held (Err http.WriteFault) whole = (all-front line.held held request whole, λ s. whole)
written line request held (Err http.BadHead) whole = (all-front line.held held request whole, λ s. whole)
written line request held (Err (http.TooLong taken)) whole = (all-front line.held held request whole, λ s. whole)
written line request held (Err (http.Unsupported status)) whole = (all-front line.held held request whole, λ s. whole)
written line request held (Err http.CutShort) whole = (all-front line.held held request whole, λ s. whole)

-- ---- what came

-- what a response that was read makes of a packet, where the connection had these bytes left
pub ended : (line : Line) (left : Option (List ℕ)) (faults later : ℕ) (read : Result Response HttpError)
    → left ≡ line.left
    → ((all : List ℕ) → left ≡ Some all → IfTold read (IsResponse read all))
    → (read ≡ Err http.ReadFault → Rose faults later)
    → read ≢ Err http.WriteFault
    → (line.sound ≡ true → (nat_lt faults 18446744073709551615 ≡ true) × (later ≡ faults))
    → IfOk (ended_by read) (Ends line)
ended line left faults later (Ok r) same told failed reads sound = λ all is. (r.status, told all (same ∙ is))
ended line left faults later (Err http.Memory) same told failed reads sound = search rules
ended line left faults later (Err http.ReadFault) same told failed reads sound =
    λ all s is. absurd (no-rise faults later (sound s).0 (sound s).1 (failed refl))
ended line left faults later (Err http.WriteFault) same told failed reads sound = absurd (reads refl)
ended line left faults later (Err http.BadHead) same told failed reads sound =
    λ all s is. (http.BadHead, told all (same ∙ is))
ended line left faults later (Err (http.TooLong taken)) same told failed reads sound =
    λ all s is. (http.TooLong taken, told all (same ∙ is))
ended line left faults later (Err (http.Unsupported status)) same told failed reads sound =
    λ all s is. (http.Unsupported status, told all (same ∙ is))
ended line left faults later (Err http.CutShort) same told failed reads sound =
    λ all s is. (http.CutShort, told all (same ∙ is))

-- ---- what a link was asked for

-- one after the other
pub Asks-then : (old mid new : Option (List Call)) (first more : List Call) → Asks old mid first → Asks mid new more
    → Asks old new (first ++ more)
Asks-then old mid new first more before after = λ all is.
    let second = after all is in
    let one = before second.0 second.1 in
    (one.0, one.1, second.2 ∙ (ap (λ (l : List Call). l ++ more) one.2 ∙ append_assoc one.0 first more))

-- a connection that was brought has ended
pub Connects-ended : (old mid new : Net) (line : Option Line) (held : Option (List ℕ)) → Connects old mid line
    → Ended mid new held → Connects old new line
Connects-ended old mid new line held connects ended = record {
  brings = rw ended.coming connects.brings;
  never_falls = rw ended.faults connects.never_falls;
  failed = λ none. rw ended.faults (connects.failed none);
  sound = λ is. let both = connects.sound is in (ended.sound ∙ both.0, both.1);
}

-- so its target was called
pub called : (old mid new : Net) (target : Target) (line : Line) (held : Option (List ℕ))
    → Connects old mid (Some line) → Asks old.past mid.past (Dialled target.host target.port ∷ []) → Ended mid new held
    → Calls old new target line held
called old mid new target line held connects asks ended = record {
  connects = Connects-ended old mid new (Some line) held connects ended;
  asks = Asks-then old.past mid.past new.past (Dialled target.host target.port ∷ []) (HungUp held ∷ []) asks ended.asks;
}

-- a packet was posted on a connection that was brought
pub posted-on : (media : Media) (old new : Net) (target : Target) (bytes : List ℕ) (line : Line)
    (held : Option (List ℕ))
    (result : Result Fate Memory) → Calls old new target line held
    → IfOk result (Writes line (request_text_as media target bytes) held) → IfOk result (Ends line)
    → IfOk result (IsPostTo media old new target bytes)
posted-on media old new target bytes line held (Ok (Answered body)) calls writes ends =
    record { line = line; held = held; calls = calls; writes = writes; ends = ends }
posted-on media old new target bytes line held (Ok Missed) calls writes ends =
    record { line = line; held = held; calls = calls; writes = writes; ends = ends }
posted-on media old new target bytes line held (Ok Undialled) calls writes ends = absurd ends
posted-on media old new target bytes line held (Err m) calls writes ends = search rules

-- or memory was wanting then
pub begun-on : (media : Media) (old new : Net) (target : Target) (bytes : List ℕ) (line : Line) (held : Option (List ℕ))
    (result : Result Fate Memory) → Calls old new target line held
    → OnErr result (AppendsFront line.held held (request_text_as media target bytes))
    → OnErr result (IsBegunTo media old new target bytes)
begun-on media old new target bytes line held (Ok fate) calls writes = search rules
begun-on media old new target bytes line held (Err m) calls writes =
    inr (record { line = line; held = held; calls = calls; writes = writes })
