-- What is known of a reader, by how far it has come.
use Rattle.std.proofs.Common.{◌≡◌, ◌↔◌, ℕ, ◌+◌, ◌<◌, ◌≤◌, List, [], ◌++◌, true, Result, Ok, Err, length, refl, sym, ap}
use Rattle.std.proofs.Common.{subst, ◌∙◌, arith}
use Rattle.std.specs.Prelude.{IfOk}
use Rattle.rm_base.specs.Limits.{envelope_bytes}
use Rattle.soap_document.specs.Machine.{State, start, run, is_refused, root_of}
use Rattle.soap_envelope.specs.declared.envelope.Envelope.{Envelope}
use Rattle.soap_document.specs.Profile.Document.{Document}
use Rattle.soap_document.specs.Profile.Tree.{Element}
use Rattle.soap_document.specs.declared.profile.error.EnvelopeError.{EnvelopeError}
use Rattle.soap_pieces.specs.Front.{IsFront}
use Rattle.soap_pieces.specs.Hopeless.{BeginsNone, BeginsOther, IsHopeless, too_long, refused, none, other}
use Rattle.soap_pieces.specs.Stage.{HasCome, HasEnded, IsInRoot, IsRefused, IsSound, IsSoundBehind, is_idle, kept_count}
use Rattle.soap_pieces.specs.Stage.{payload_len}
use Rattle.soap_pieces.specs.declared.ended.Ended.{Ended}
use Rattle.soap_pieces.specs.declared.front.Front.{Front}
use Rattle.soap_pieces.specs.declared.stage.Stage.{Stage}
use Rattle.soap_pieces.specs.declared.stage.Stage.TheVariants.{Before, Root, Behind, Refused, TooLong, Short}
use Rattle.soap_pieces.proofs.Behind.{Joins, IsRead, no_front, no_whole}
use Rattle.soap_pieces.proofs.Ends.{ended_alive, not_none}
use Rattle.soap_pieces.proofs.Envelopes.{Stands}

-- ---- within a root

no_other : Joins → IsRead → (kept bytes : List ℕ) → IsInRoot kept bytes → ¬ (BeginsOther bytes)
no_other joins read kept bytes h o =
    let k = subst (IsInRoot kept) o.is h in
    no_front joins o.front o.more o.root ((read o.front o.root).0 o.document) k.unended

pub root_alive : Joins → IsRead → (kept bytes : List ℕ) → IsInRoot kept bytes → ¬ (IsHopeless bytes)
root_alive joins read kept bytes h (none n) = not_none bytes h.fits h.going n
root_alive joins read kept bytes h (other o) = no_other joins read kept bytes h o

pub root_no_tree : IsRead → (kept bytes : List ℕ) → IsInRoot kept bytes → (tree : Element) → ¬ (Document bytes tree)
root_no_tree read kept bytes h tree d = no_whole bytes d.raw ((read bytes d.raw).0 d.is) h.unended

-- nothing has come
pub nothing_in_root : IsInRoot [] []
nothing_in_root = record { same = refl; unended = refl; going = refl; fits = omega arith }

-- ---- a piece more

-- what was answered of the same bytes
pub come_same : {E : Type 0} (r : Result Stage E) (all bytes : List ℕ) → all ≡ bytes → IfOk r (λ s. HasCome s all)
    → IfOk r (λ s. HasCome s bytes)
come_same r all bytes e h = subst (λ b. IfOk r (λ s. HasCome s b)) e h

pub sound_more : (s : Stage) (n m : ℕ) → n ≤ m → IsSound s n → IsSound s m
sound_more Before n m l h = tt
sound_more (Root reader kept) n m l h =
    record { ready = h.ready; fed = h.fed; place = omega (arith, l, h.place); len = omega (arith, l, h.len) }
sound_more (Behind ended) n m l h = record {
  told = h.told;
  place = omega (arith, l, h.place);
  len = omega (arith, l, h.len);
  small = h.small;
  payload = h.payload;
}
sound_more (Refused front) n m l h = (omega (arith, l, h.0), h.1)
sound_more TooLong n m l h = tt
sound_more Short n m l h = tt

pub sound_by : {E : Type 0} (r : Result Stage E) (n m : ℕ) → n ≤ m → IfOk r (λ s. IsSound s n)
    → IfOk r (λ s. IsSound s m)
sound_by (Ok s) n m l h = sound_more s n m l h
sound_by (Err e) n m l h = tt

-- ---- what is kept

pub kept_most : (s : Stage) (n : ℕ) → IsSound s n → kept_count s ≤ n
kept_most Before n h = omega arith
kept_most (Root reader kept) n h = h.len
kept_most (Behind ended) n h = omega (arith, h.payload, h.len)
kept_most (Refused front) n h = omega (arith, h.0)
kept_most TooLong n h = omega arith
kept_most Short n h = omega arith

pub most_of : {E : Type 0} (r : Result Stage E) (n : ℕ) → IfOk r (λ s. IsSound s n) → n ≤ envelope_bytes
    → IfOk r (λ s. kept_count s ≤ envelope_bytes)
most_of (Ok s) n h l = let k : kept_count s ≤ n = kept_most s n h in omega (arith, k, l)
most_of (Err e) n h l = tt

behind_little : Joins → IsRead → Stands → (e : Ended) (bytes : List ℕ) (n : ℕ) → HasEnded e bytes → IsSoundBehind e n
    → IsHopeless bytes → (answer : Result Envelope EnvelopeError) → e.answer ≡ answer → payload_len answer ≡ 0
behind_little joins read stands e bytes n h sound dead (Ok envelope) is =
    absurd (ended_alive joins read stands e bytes h envelope is dead)
behind_little joins read stands e bytes n h sound dead (Err error) is = refl

-- of what begins no envelope three bytes at most
pub kept_little : Joins → IsRead → Stands → (s : Stage) (bytes : List ℕ) (n : ℕ) → HasCome s bytes
    → IsSound s n → IsHopeless bytes → kept_count s ≤ 3
kept_little joins read stands Before bytes n h sound dead = omega arith
kept_little joins read stands (Root reader kept) bytes n h sound dead =
    absurd (root_alive joins read kept bytes h dead)
kept_little joins read stands (Behind ended) bytes n h sound dead =
    let zero : payload_len ended.answer ≡ 0 =
    behind_little joins read stands ended bytes n h sound dead ended.answer refl in
    omega (arith, zero, sound.small)
kept_little joins read stands (Refused front) bytes n h sound dead = sound.1
kept_little joins read stands TooLong bytes n h sound dead = omega arith
kept_little joins read stands Short bytes n h sound dead = omega arith

-- and of what begins no document there is no reader
pub rests : (s : Stage) (bytes : List ℕ) → HasCome s bytes → BeginsNone bytes → is_idle s ≡ true
rests Before bytes h n = absurd (not_none [] (omega arith) refl (subst BeginsNone h n))
rests (Root reader kept) bytes h n = absurd (not_none bytes h.fits h.going n)
rests (Behind ended) bytes h n = absurd (not_none bytes h.fits h.going n)
rests (Refused front) bytes h n = refl
rests TooLong bytes h n = refl
rests Short bytes h n = refl
