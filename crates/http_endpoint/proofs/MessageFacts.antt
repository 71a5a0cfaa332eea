-- What the parts of a message come to.
use Rattle.std.proofs.Common.{◌≡◌, ℕ, List, [], Option, None, Some, Result, Ok, Err, sym, refl, append-nil}
use Rattle.std.specs.Io.KnownBytes.{Appends}
use Rattle.httparse.specs.Grammar.{MayBecomeRequest}
use Rattle.http_endpoint.specs.Limits.{part_bytes}
use Rattle.http_endpoint.specs.declared.body.Framing.{Framing}
use Rattle.http_endpoint.specs.declared.error.HttpError.{HttpError}
use Rattle.http_endpoint.specs.declared.error.HttpError.TheVariants.{Memory, ReadFault, WriteFault, BadHead, TooLong}
use Rattle.http_endpoint.specs.declared.error.HttpError.TheVariants.{Unsupported, CutShort}
use Rattle.http_endpoint.specs.declared.media.Media.{Media}
use Rattle.http_endpoint.specs.declared.heads.RequestFacts.{RequestFacts}
use Rattle.http_endpoint.specs.Ahead.{ahead}
use Rattle.http_endpoint.specs.Part.{ReadsUpTo, IsAnswer, IfTold}
use Rattle.http_endpoint.specs.Heads.{ReadsRequestFacts, verdict}
use Rattle.http_endpoint.specs.Body.{IsBody}
use Rattle.http_endpoint.specs.Messages.{IsRequestAs, bad, short, refused, accepted, invitation}
use Rattle.http_endpoint.proofs.ChunkFacts.{IfTold-map}

-- with nothing held, what is ahead is what is left
pub ahead-start : (left : Option (List ℕ)) (held all : List ℕ) → left ≡ Some all → held ≡ []
    → ahead left held ≡ Some all
ahead-start left held all is none = rw (is, none) refl

-- what a source keeps is ahead still
pub ahead-kept : (left later : Option (List ℕ)) (held all : List ℕ) → later ≡ left → ahead left held ≡ Some all
    → ahead later held ≡ Some all
ahead-kept left later held all kept is = rw kept is

-- what is so is told
pub told : {A : Type 0} (r : Result A HttpError) (P : Type 0) → P → IfTold r P
told (Ok a) P p = p
told (Err Memory) P p = tt
told (Err ReadFault) P p = tt
told (Err WriteFault) P p = tt
told (Err BadHead) P p = p
told (Err (TooLong taken)) P p = p
told (Err (Unsupported status)) P p = p
told (Err CutShort) P p = p

-- what is told of an error doesn't depend on what would have been answered
pub told-on : (A B : Type 0) (e : HttpError) (P Q : Type 0) → (P → Q) → IfTold {A = A} (Err e) P
    → IfTold {A = B} (Err e) Q
told-on A B Memory P Q f p = tt
told-on A B ReadFault P Q f p = tt
told-on A B WriteFault P Q f p = tt
told-on A B BadHead P Q f p = f p
told-on A B (TooLong taken) P Q f p = f p
told-on A B (Unsupported status) P Q f p = f p
told-on A B CutShort P Q f p = f p

-- what is held as before grew by nothing
pub appends-nothing : (old new : Option (List ℕ)) → new ≡ old → Appends old new []
appends-nothing None new is = tt
appends-nothing (Some xs) new is = rw is (sym (append-nil xs))

-- what grew between two calls that keep it grew by that
pub appends-between : (old mid later new : Option (List ℕ)) (bytes : List ℕ) → mid ≡ old → new ≡ later
    → Appends mid later bytes
    → Appends old new bytes
appends-between old mid later new bytes before after grew = rw (sym before, after) grew

-- a stop at the head of a request
pub stops-request : (media : Media) (all : List ℕ) (e : HttpError) (after old new : Option (List ℕ)) → new ≡ old
    → IsAnswer part_bytes ReadsRequestFacts MayBecomeRequest all (Err e) after
    → IfTold {A = List ℕ} (Err e) ((said : List ℕ) × Appends old new said × IsRequestAs media (Err e) said all)
stops-request media all Memory after old new same h = tt
stops-request media all ReadFault after old new same h = tt
stops-request media all WriteFault after old new same h = tt
stops-request media all BadHead after old new same h = ([], appends-nothing old new same, bad h refl refl)
stops-request media all (TooLong taken) after old new same h = absurd h
stops-request media all (Unsupported status) after old new same h = absurd h
stops-request media all CutShort after old new same h = ([], appends-nothing old new same, short h refl refl)

-- a request that is refused by its head
pub refused-request : (media : Media) (all : List ℕ) (e : HttpError) (facts : RequestFacts) (rest : List ℕ)
    (old new : Option (List ℕ)) → new ≡ old
    → ReadsUpTo part_bytes ReadsRequestFacts all facts rest → verdict media facts ≡ Err e
    → IfTold {A = List ℕ} (Err e) ((said : List ℕ) × Appends old new said × IsRequestAs media (Err e) said all)
refused-request media all e facts rest old new same reads is =
    told {A = List ℕ} (Err e) ((said : List ℕ) × Appends old new said × IsRequestAs media (Err e) said all)
    ([], appends-nothing old new same, refused facts rest e reads is refl refl)

-- a request whose body is read
pub taken-request : (media : Media) (result : Result (List ℕ) HttpError) (all : List ℕ) (facts : RequestFacts)
    (rest : List ℕ)
    (framing : Framing)
    (old new : Option (List ℕ)) → Appends old new (invitation facts)
    → ReadsUpTo part_bytes ReadsRequestFacts all facts rest
    → verdict media facts ≡ Ok framing → IfTold result (IsBody framing rest result)
    → IfTold result ((said : List ℕ) × Appends old new said × IsRequestAs media result said all)
taken-request media result all facts rest framing old new grew reads is body =
    IfTold-map result (IsBody framing rest result) ((said : List ℕ) × Appends old new said
    × IsRequestAs media result said all)
    (λ b. (invitation facts, grew, accepted facts rest framing reads is refl b)) body
