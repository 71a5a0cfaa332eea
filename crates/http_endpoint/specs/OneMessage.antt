-- A whole message has one answer.
use Rattle.std.proofs.Common.{◌≡◌, ℕ, List, [], ◌++◌, arith, inl, inr, ap, sym, ◌∙◌, refl, Result, Ok, Err, ◌⊎◌}
use Rattle.httparse.specs.Grammar.{MayBecomeRequest, MayBecomeResponse, EndsInTarget}
use Rattle.http_endpoint.specs.Limits.{part_bytes}
use Rattle.http_endpoint.specs.declared.body.Framing.{Framing}
use Rattle.http_endpoint.specs.declared.error.HttpError.{HttpError}
use Rattle.http_endpoint.specs.declared.media.Media.{Media}
use Rattle.http_endpoint.specs.declared.heads.RequestFacts.{RequestFacts}
use Rattle.http_endpoint.specs.declared.heads.ResponseFacts.{ResponseFacts}
use Rattle.http_endpoint.specs.declared.response.Response.{Response}
use Rattle.http_endpoint.specs.Part.{IsBad, IsShort, ReadsUpTo}
use Rattle.http_endpoint.specs.Heads.{ReadsRequestFacts, ReadsResponseFacts, facts_of_request, verdict}
use Rattle.http_endpoint.specs.Heads.{response_framing}
use Rattle.http_endpoint.specs.Body.{IsBody}
use Rattle.http_endpoint.specs.Messages.{IsRequestAs, bad, short, refused, accepted, IsFinal, unframed, framed}
use Rattle.http_endpoint.specs.Messages.{IsAnswered, passed, unsound, final, with_status, IsResponse, invitation}
use Rattle.http_endpoint.specs.OneAnswer.{read-not-bad, one-stage, one-request-head, request-shrinks}
use Rattle.http_endpoint.specs.OneAnswer.{one-response-head, response-shrinks, response-ends, one-body}

-- the same answer, and the same is written meanwhile
abbrev pub IsSame : Result (List ℕ) HttpError → Result (List ℕ) HttpError → List ℕ → List ℕ → Type 0
IsSame r q s t = (r ≡ q) × (s ≡ t)

-- what has begun and never becomes a head ends in its target
in-target : (all : List ℕ) → MayBecomeRequest all
    → ((more : List ℕ) (a : RequestFacts) (rest : List ℕ) → ¬ (ReadsRequestFacts (all ++ more) a rest))
    → EndsInTarget all
in-target all (inl may) never = absurd (never may.0 (facts_of_request may.1) [] (may.1, may.2, refl))
in-target all (inr ends) never = ends

-- a head is bad and cut short only where the bytes end in its target
bad-or-short : (all : List ℕ) → IsBad part_bytes ReadsRequestFacts all
    → IsShort part_bytes ReadsRequestFacts MayBecomeRequest all
    → EndsInTarget all
bad-or-short all (inl never) s = in-target all s.unfinished never
bad-or-short all (inr long) s = absurd (omega (arith, long.0, s.within))

-- one error, one framing, and not both
err-one : (e k : HttpError) (x : Result Framing HttpError) → x ≡ Err e → x ≡ Err k → e ≡ k
err-one e k x p q = cc

ok-one : (f g : Framing) (x : Result Framing HttpError) → x ≡ Ok f → x ≡ Ok g → f ≡ g
ok-one f g x p q = cc

not-both : (e : HttpError) (f : Framing) (x : Result Framing HttpError) → x ≡ Err e → x ≡ Ok f → ⊥
not-both e f x p q = cc

-- what has a head isn't bad, nor cut short
head-not-bad : (all : List ℕ) (facts : RequestFacts) (rest : List ℕ)
    → ReadsUpTo part_bytes ReadsRequestFacts all facts rest
    → ¬ (IsBad part_bytes ReadsRequestFacts all)
head-not-bad all facts rest reads = read-not-bad ReadsRequestFacts request-shrinks part_bytes all facts rest reads

-- two accepted requests at one place
both-accepted : (media : Media) (r q : Result (List ℕ) HttpError) (all : List ℕ) (a b : RequestFacts) (m n : List ℕ)
    (f g : Framing)
    → (a ≡ b) × (m ≡ n) → verdict media a ≡ Ok f → verdict media b ≡ Ok g → IsBody f m r → IsBody g n q → r ≡ q
both-accepted media r q all a b m n f g same x y c d =
    let framings = ok-one f g (verdict media a) x (ap (verdict media) same.0 ∙ y) in
    let moved : IsBody g n r = rw (sym framings, sym same.1) c in
    one-body g n r q moved d

-- a request has one answer, but where its bytes end in the target
pub one-request : (media : Media) (r q : Result (List ℕ) HttpError) (s t all : List ℕ) → IsRequestAs media r s all
    → IsRequestAs media q t all
    → IsSame r q s t ⊎ EndsInTarget all
one-request media r q s t all (bad x is none) (bad y also empty) = inl (is ∙ sym also, none ∙ sym empty)
one-request media r q s t all (bad x is none) (short y also empty) = inr (bad-or-short all x y)
one-request media r q s t all (bad x is none) (refused b n e y v also empty) = absurd (head-not-bad all b n y x)
one-request media r q s t all (bad x is none) (accepted b n g y v said d) = absurd (head-not-bad all b n y x)
one-request media r q s t all (short x is none) (bad y also empty) = inr (bad-or-short all y x)
one-request media r q s t all (short x is none) (short y also empty) = inl (is ∙ sym also, none ∙ sym empty)
one-request media r q s t all (short x is none) (refused b n e y v also empty) = absurd (x.none b n y.is_text)
one-request media r q s t all (short x is none) (accepted b n g y v said d) = absurd (x.none b n y.is_text)
one-request media r q s t all (refused a m e x u is none) (bad y also empty) = absurd (head-not-bad all a m x y)
one-request media r q s t all (refused a m e x u is none) (short y also empty) = absurd (y.none a m x.is_text)
one-request media r q s t all (refused a m e x u is none) (refused b n k y v also empty) =
    let same = one-request-head all m n a b x.is_text y.is_text in
    let one = err-one e k (verdict media a) u (ap (verdict media) same.0 ∙ v) in
    inl (is ∙ (ap Err one ∙ sym also), none ∙ sym empty)
one-request media r q s t all (refused a m e x u is none) (accepted b n g y v said d) =
    absurd (not-both e g (verdict media a) u (ap (verdict media)
    (one-request-head all m n a b x.is_text y.is_text).0 ∙ v))
one-request media r q s t all (accepted a m f x u says c) (bad y also empty) = absurd (head-not-bad all a m x y)
one-request media r q s t all (accepted a m f x u says c) (short y also empty) = absurd (y.none a m x.is_text)
one-request media r q s t all (accepted a m f x u says c) (refused b n e y v also empty) =
    absurd (not-both e f (verdict media b) v (ap (verdict media)
    (one-request-head all n m b a y.is_text x.is_text).0 ∙ u))
one-request media r q s t all (accepted a m f x u says c) (accepted b n g y v said d) =
    let same = one-request-head all m n a b x.is_text y.is_text in
    inl (both-accepted media r q all a b m n f g same u v c d, says ∙ (ap invitation same.0 ∙ sym said))

-- ---- responses

-- behind the head of a response stands one body
one-final : (r q : Result Response HttpError) (facts : ResponseFacts) (rest : List ℕ) → IsFinal r facts rest
    → IsFinal q facts rest → r ≡ q
one-final r q facts rest (unframed e u is) (unframed k v also) =
    let one = err-one e k (response_framing facts) u v in
    is ∙ (ap Err one ∙ sym also)
one-final r q facts rest (unframed e u is) (framed g d v y also) = absurd (not-both e g (response_framing facts) u v)
one-final r q facts rest (framed f c u x is) (unframed k v also) = absurd (not-both k f (response_framing facts) v u)
one-final r q facts rest (framed f c u x is) (framed g d v y also) =
    let framings = ok-one f g (response_framing facts) u v in
    let moved : IsBody g rest c = rw (sym framings) x in
    is ∙ (ap (with_status facts.status) (one-body g rest c d moved y) ∙ sym also)

-- behind a head of status 100 too
one-answered : (r q : Result Response HttpError) (facts : ResponseFacts) (rest : List ℕ) → IsAnswered r facts rest
    → IsAnswered q facts rest → r ≡ q
one-answered r q facts rest (passed f is u x) (passed g also v y) =
    one-stage Response ReadsResponseFacts MayBecomeResponse part_bytes rest response-shrinks one-response-head
    response-ends r q
    (λ later behind. IsFinal r later behind) (λ later behind. IsFinal q later behind)
    (λ later behind m n. one-final r q later behind m n) x y
one-answered r q facts rest (passed f is u x) (unsound k also v stops) =
    absurd (not-both k f (response_framing facts) v u)
one-answered r q facts rest (passed f is u x) (final not y) = absurd (not is)
one-answered r q facts rest (unsound e is u ends) (passed g also v y) =
    absurd (not-both e g (response_framing facts) u v)
one-answered r q facts rest (unsound e is u ends) (unsound k also v stops) =
    let one = err-one e k (response_framing facts) u v in
    ends ∙ (ap Err one ∙ sym stops)
one-answered r q facts rest (unsound e is u ends) (final not y) = absurd (not is)
one-answered r q facts rest (final not x) (passed g also v y) = absurd (not also)
one-answered r q facts rest (final not x) (unsound k also v stops) = absurd (not also)
one-answered r q facts rest (final not x) (final nor y) = one-final r q facts rest x y

-- a response has one answer
pub one-response : (r q : Result Response HttpError) (all : List ℕ) → IsResponse r all → IsResponse q all → r ≡ q
one-response r q all x y =
    one-stage Response ReadsResponseFacts MayBecomeResponse part_bytes all response-shrinks one-response-head
    response-ends r q
    (λ facts rest. IsAnswered r facts rest) (λ facts rest. IsAnswered q facts rest)
    (λ facts rest m n. one-answered r q facts rest m n) x y
