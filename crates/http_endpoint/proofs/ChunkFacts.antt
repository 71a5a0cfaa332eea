-- Chunks, one after another.
use Rattle.std.proofs.Common.{◌≡◌, ℕ, ◌+◌, ◌≤◌, ◌<◌, List, [], ◌++◌, length, take, arith, ap, ◌∙◌, refl, Option, Result}
use Rattle.std.proofs.Common.{Ok, Err}
use Rattle.std.proofs.lemmas.Bool.Decides.{nat_tests}
use Rattle.std.specs.Result.{IsErrAnd}
use Rattle.rm_base.specs.Limits.{envelope_bytes}
use Rattle.http_endpoint.specs.Limits.{part_bytes, most_fields}
use Rattle.http_endpoint.specs.declared.error.HttpError.{HttpError}
use Rattle.http_endpoint.specs.declared.error.HttpError.TheVariants.{Memory, ReadFault, WriteFault, BadHead, TooLong}
use Rattle.http_endpoint.specs.declared.error.HttpError.TheVariants.{Unsupported, CutShort}
use Rattle.http_endpoint.specs.Part.{Grammar, ReadsUpTo, IsAnswer, Stage, bad, short, part, IfTold}
use Rattle.http_endpoint.specs.Parts.{ReadsSize}
use Rattle.http_endpoint.specs.Body.{Moved, IsMove, EndsBehind, too_long, cut, EndsChunks, IsChunk, IsChunked, ends}
use Rattle.http_endpoint.specs.Body.{ended_by, IsCounted, all_left, came_before}

-- what is told of an answer in other words
pub IfTold-map : {A : Type 0} (r : Result A HttpError) (P Q : Type 0) → (P → Q) → IfTold r P → IfTold r Q
IfTold-map (Ok a) P Q f p = f p
IfTold-map (Err Memory) P Q f p = tt
IfTold-map (Err ReadFault) P Q f p = tt
IfTold-map (Err WriteFault) P Q f p = tt
IfTold-map (Err BadHead) P Q f p = f p
IfTold-map (Err (TooLong taken)) P Q f p = f p
IfTold-map (Err (Unsupported status)) P Q f p = f p
IfTold-map (Err CutShort) P Q f p = f p

-- a fact of the error that was handed on is one of the answer
pub handed-on : {A : Type 0} (r : Result A HttpError) (e : HttpError) (P : Result A HttpError → Type 0)
    → IsErrAnd r (λ x. x ≡ e)
    → P (Err e) → P r
handed-on (Ok a) e P h p = absurd h
handed-on (Err x) e P h p = rw h p

-- a part that stops stops its stage
pub stage-stops : {A : Type 0} (B : Type 0) (limit : ℕ) (reads : Grammar A) (begun : List ℕ → Type 0) (bytes : List ℕ)
    (e : HttpError)
    (after : Option (List ℕ)) (F : A → List ℕ → Type 0) → IsAnswer limit reads begun bytes (Err e) after
    → IfTold {A = B} (Err e) (Stage {B = B} limit reads begun bytes (Err e) F)
stage-stops B limit reads begun bytes Memory after F h = tt
stage-stops B limit reads begun bytes ReadFault after F h = tt
stage-stops B limit reads begun bytes WriteFault after F h = tt
stage-stops B limit reads begun bytes BadHead after F h = bad h refl
stage-stops B limit reads begun bytes (TooLong taken) after F h = absurd h
stage-stops B limit reads begun bytes (Unsupported status) after F h = absurd h
stage-stops B limit reads begun bytes CutShort after F h = short h refl

-- the body ends behind a line that was read
pub behind-line : (body bytes : List ℕ) (size : ℕ) (after : List ℕ) (result : Result (List ℕ) HttpError)
    → ReadsUpTo part_bytes ReadsSize bytes size after → EndsBehind result body size after → EndsChunks result body bytes
behind-line body bytes size after result line end = part size after line end

-- data that can't be moved ends it
pub data-stops : (body new bytes : List ℕ) (size : ℕ) (after : List ℕ) (e : HttpError) (later : Option (List ℕ))
    → 0 < size → ReadsUpTo part_bytes ReadsSize bytes size after → IsMove size after body (Err e) new later
    → IfTold {A = List ℕ} (Err e) (EndsChunks (Err e) body bytes)
data-stops body new bytes size after Memory later some line h = tt
data-stops body new bytes size after ReadFault later some line h = tt
data-stops body new bytes size after WriteFault later some line h = absurd h
data-stops body new bytes size after BadHead later some line h = absurd h
data-stops body new bytes size after (TooLong taken) later some line h =
    part size after line (too_long some h.1 (ap (λ t. Err (TooLong t)) h.0))
data-stops body new bytes size after (Unsupported status) later some line h = absurd h
data-stops body new bytes size after CutShort later some line h = part size after line (cut h.0 h.1 refl)

-- an error of one chunk is one of the chunks
pub chunk-stops : (all body bytes new : List ℕ) (e : HttpError) (after : Option (List ℕ))
    → IsChunk bytes body (Err e) new after
    → (IsChunked (Err e) body bytes → IsChunked (Err e) [] all) → IfTold {A = List ℕ} (Err e) (IsChunked (Err e) [] all)
chunk-stops all body bytes new e after h on =
    IfTold-map {A = List ℕ} (Err e) (EndsChunks (Err e) body bytes) (IsChunked (Err e) [] all) (λ x. on (ends x)) h

-- a trailer of too many fields
pub ended-long : (count : ℕ) (body : List ℕ) → most_fields < count → Err BadHead ≡ ended_by count body
ended-long count body long = grind (arith, nat_tests, long)

-- a trailer that isn't too long
pub ended-well : (count : ℕ) (body : List ℕ) → count ≤ most_fields → Ok body ≡ ended_by count body
ended-well count body few = grind (arith, nat_tests, few)

-- bytes that were moved to an empty body are it
pub counted : (size : ℕ) (all old new : List ℕ) (after : Option (List ℕ)) → old ≡ [] → Moved size all old new after
    → IsCounted size all (Ok new)
counted size all old new after none m =
    (m.inside, omega (arith, m.within), m.new_is ∙ ap (λ b. b ++ take size all) none)

-- and so it is with errors
pub counted-stops : (size : ℕ) (all old new : List ℕ) (e : HttpError) (after : Option (List ℕ)) → old ≡ []
    → IsMove size all old (Err e) new after → IfTold {A = List ℕ} (Err e) (IsCounted size all (Err e))
counted-stops size all old new Memory after none h = tt
counted-stops size all old new ReadFault after none h = tt
counted-stops size all old new WriteFault after none h = tt
counted-stops size all old new BadHead after none h = absurd h
counted-stops size all old new (TooLong taken) after none h = (h.0, omega (arith, h.1, ap length none))
counted-stops size all old new (Unsupported status) after none h = absurd h
counted-stops size all old new CutShort after none h = (h.0, omega (arith, h.1))

-- where more than a body may have were to be moved, what came is all that is left
pub came : (all old new : List ℕ) (e : HttpError) (after : Option (List ℕ)) (result : Result (List ℕ) HttpError)
    → old ≡ []
    → IsMove (envelope_bytes + 1) all old (Err e) new after → result ≡ came_before e new
    → IfTold result (result ≡ all_left all)
came all old new Memory after result none h is = rw is tt
came all old new ReadFault after result none h is = rw is tt
came all old new WriteFault after result none h is = rw is tt
came all old new BadHead after result none h is = absurd h
came all old new (TooLong taken) after result none h is =
    let long : envelope_bytes < length all = omega (arith, h.1, ap length none) in
    let same : Err (TooLong taken) ≡ all_left all = grind (arith, nat_tests, long, h.0) in
    rw is same
came all old new (Unsupported status) after result none h is = absurd h
came all old new CutShort after result none h is =
    let few : length all ≤ envelope_bytes = omega (arith, h.1) in
    let new_is : new ≡ all = h.2 ∙ ap (λ b. b ++ all) none in
    let same : Ok new ≡ all_left all = grind (arith, nat_tests, few, new_is) in
    rw is same
