-- From each world that a script reaches, all that was accepted arrives after enough fair rounds.
use Rattle.std.proofs.Common.{◌≡◌, ℕ, zero, suc, ◌+◌, ◌-◌, ◌*◌, ◌/◌, ◌≤◌, cond, not, Bool, true, false, List}
use Rattle.std.proofs.Common.{[], ◌∷◌, ◌++◌, length, map, filter, refl, sym, ap, ◌∙◌, subst, arith, length-append}
use Rattle.rm_base.specs.Limits.{window}
use Rattle.rm_sides.specs.Ranges.Changes.{united}
use Rattle.rm_sides.specs.Ranges.Ranges.{count_of}
use Rattle.timers.specs.declared.slots.timers.Key.{Key}
use Rattle.timers.specs.Keys.Waits.{Wait, at_key, emitted, first_due, same_key, send_all, sent, without}
use Rattle.record_batch.specs.Fact.{Fact}
use Rattle.record_batch.specs.Snapshot.AckedLemmas.{unions}
use Rattle.record_batch.specs.Sequences.Sources.{accepted_count, acked}
use Rattle.record_batch.specs.Sequences.Destinations.{front}
use Rattle.rm_protocol.specs.Node.{records}
use Rattle.rm_protocol.specs.Recorded.{OnlyHeardIsRecorded}
use Rattle.rm_protocol.specs.Sound.{IsSound}
use Rattle.rm_protocol.specs.Terms.{AreTerms, Terms}
use Rattle.rm_protocol.specs.Waiting.{is_waiting, still}
use Rattle.rm_protocol.specs.Word.{Matches}
use Rattle.rm_protocol.specs.World.{Event, Side, World, node, other, run, start}
use Rattle.rm_arrival.specs.Fair.{BothStand, moment}
use Rattle.rm_arrival.specs.Few.{time_at}
use Rattle.rm_arrival.specs.Near.{AcceptedIsNear, AllArrives, EachRunIsNear}
use Rattle.rm_arrival.specs.Rounds.{AreEnough, run_rounds}
use Rattle.rm_arrival.specs.Runs.{HasArrived, WaitsRight}
use Rattle.rm_arrival.proofs.ArriveLemmas.{EachRunKeeps, each-right, found-incoming, word-at}
use Rattle.rm_arrival.proofs.BringLemmas.{round-onward}
use Rattle.rm_arrival.proofs.CalmLemmas.{QuietTurns, calm-at-first, quiet-turns}
use Rattle.rm_arrival.proofs.EachLemmas.{two-passes}
use Rattle.rm_arrival.proofs.NearLemmas.{NearLaws}
use Rattle.rm_arrival.proofs.NearRunLemmas.{run-near, start-near}
use Rattle.rm_arrival.proofs.OnwardLemmas.{StaysSound, run-sound}
use Rattle.rm_arrival.proofs.RoundsLemmas.{RoundLaws, round-moves, stills}
use Rattle.rm_arrival.proofs.SendLemmas.{turns-from}
use Rattle.rm_arrival.proofs.StartLemmas.{each-sound}
use Rattle.rm_arrival.proofs.TallyLemmas.{count-most}
use Rattle.rm_arrival.proofs.ValidLemmas.{sees}
use Rattle.rm_arrival.proofs.WaitsLemmas.{run-right}

pub each-near : NearLaws → OnlyHeardIsRecorded → StaysSound → EachRunIsNear
each-near laws heard sound_ terms one two t made events side =
    (run-near laws heard sound_ terms events (start one two) t (each-sound sound_ terms one two t made [])
    (start-near one two) side).here

pub accepted-near : NearLaws → OnlyHeardIsRecorded → StaysSound → EachRunKeeps → AcceptedIsNear
accepted-near laws heard sound_ word terms one two t made events stand side s u at =
    let w = run terms events (start one two) in
    let a = records (node w side) in
    let b = records (node w (other side)) in
    let mine = each-near laws heard sound_ terms one two t made events side in
    let theirs = each-near laws heard sound_ terms one two t made events (other side) in
    let stands = (sees terms w side (each-sound sound_ terms one two t made events)).stands in
    let incoming = found-incoming b at.ident u at.theirs in
    let match : Matches a b s u = record {
      ident = at.ident;
      message_id = incoming.message_id;
      outgoing = record { is = at.known };
      incoming = incoming.incoming;
    } in
    let union = unions laws.both [] a s [] tt stands.fit (omega arith) stands.proper in
    let keeps = word-at w side (word terms one two t made events) stand in
    let most : count_of (united [] (acked a s)) ≤ front b u + window =
    count-most (front b u + window) (united [] (acked a s)) union.set
    (λ n h. theirs.near u n (keeps.held s u match n (sym (union.same n) ∙ h))) in
    let few = mine.few s in
    omega (arith, most, few)

-- ---- no more keys wait after rounds than before

length-map : (f : Wait → Wait) (xs : List Wait) → length (map f xs) ≡ length xs
length-map f [] = refl
length-map f (x ∷ xs) = ap suc_of (length-map f xs)
  where
    suc_of : ℕ → ℕ
    suc_of n = suc n

parted : (f : Wait → Bool) (xs : List Wait)
    → length (filter (λ (w : Wait). not (f w)) xs) + length (filter f xs) ≡ length xs
parted f [] = refl
parted f (x ∷ xs) =
    let rest = parted f xs in
    elim (f x) as (λ b. length (cond (not b) (x ∷ filter (λ (w : Wait). not (f w)) xs)
    (filter (λ (w : Wait). not (f w)) xs)) + length (cond b (x ∷ filter f xs) (filter f xs)) ≡ suc (length xs)) [
      | true ↦ omega (arith, rest)
      | false ↦ omega (arith, rest)
    ]

sent-same : (time : ℕ) (k : Key) (xs : List Wait) → length (sent time k xs) ≡ length xs
sent-same time k xs =
    length-append (without k xs) (map (emitted time) (at_key k xs))
    ∙ ap (λ n. length (without k xs) + n) (length-map (emitted time) (at_key k xs))
    ∙ parted (λ (w : Wait). same_key k w.key) xs

all-sent-same : (time : ℕ) (ks : List Key) (xs : List Wait) → length (send_all time ks xs) ≡ length xs
all-sent-same time [] xs = refl
all-sent-same time (k ∷ ks) xs = all-sent-same time ks (sent time k xs) ∙ sent-same time k xs

filter-fewer : (f : Wait → Bool) (xs : List Wait) → length (filter f xs) ≤ length xs
filter-fewer f xs = let all = parted f xs in omega (arith, all)

stills-fewer : (rs : List (List Fact)) (xs : List Wait) → length (stills rs xs) ≤ length xs
stills-fewer [] xs = omega arith
stills-fewer (r ∷ rs) xs =
    let rest = stills-fewer rs (still r xs) in
    let here = filter-fewer (λ (w : Wait). is_waiting r w.key) xs in
    omega (arith, rest, here)

fewer : RoundLaws → (terms : Terms) (rounds : List (List Event)) (w : World) (side : Side) (s u : ℕ) → AreTerms terms
    → IsSound terms w → BothStand w → ((x : Side) → WaitsRight (node w x)) → QuietTurns terms w side s u rounds
    → length (node (run_rounds terms rounds w) side).waits ≤ length (node w side).waits
fewer laws terms [] w side s u t sound stand right turns = omega arith
fewer laws terms (round ∷ rounds) w side s u t sound stand right turns =
    let v = run terms round w in
    let x = node w side in
    let turn = turns.0 in
    let moves = round-moves laws.waits.heard laws.wait_on laws.next terms w round t sound stand turn.fair turn.quiet
    side ((right side).exact (stand side).up) in
    let keys = first_due (time_at x (moment turn.fair side)) x.waits in
    let gone = stills-fewer moves.evolved.by_ (send_all moves.time keys x.waits) in
    let same = all-sent-same moves.time keys x.waits in
    let are : length (node v side).waits ≡ length (stills moves.evolved.by_ (send_all moves.time keys x.waits)) =
    ap (λ z. length z) moves.evolved.are in
    let rest = fewer laws terms rounds v side s u t (run-sound laws.sound terms round w t sound)
    (round-onward terms w round stand turn.fair).stand
    (run-right laws.waits laws.sound terms round w t sound right) turns.1 in
    omega (arith, rest, are, gone, same)

-- ---- two passes

turns-join : (terms : Terms) (xs ys : List (List Event)) (w : World) (side : Side) (s u : ℕ)
    → QuietTurns terms w side s u (xs ++ ys)
    → QuietTurns terms w side s u xs × QuietTurns terms (run_rounds terms xs w) side s u ys
turns-join terms [] ys w side s u h = (tt, h)
turns-join terms (x ∷ xs) ys w side s u h =
    let rest = turns-join terms xs ys (run terms x w) side s u h.1 in ((h.0, rest.0), rest.1)

rounds-join : (terms : Terms) (xs ys : List (List Event)) (w : World)
    → run_rounds terms (xs ++ ys) w ≡ run_rounds terms ys (run_rounds terms xs w)
rounds-join terms [] ys w = refl
rounds-join terms (x ∷ xs) ys w = rounds-join terms xs ys (run terms x w)

-- the first n of them, and the others
record Parted (n : ℕ) (rounds : List (List Event)) : Type 0 where
  first : List (List Event)
  second : List (List Event)
  are : rounds ≡ first ++ second
  count : length first ≡ n

part : (n : ℕ) (rounds : List (List Event)) → n ≤ length rounds → Parted n rounds
part zero rounds le = record { first = []; second = rounds; are = refl; count = refl }
part (suc n) [] le = absurd (omega (arith, le))
part (suc n) (x ∷ rounds) le =
    let rest = part n rounds (omega (arith, le)) in
    let count = rest.count in
    record {
      first = x ∷ rest.first;
      second = rest.second;
      are = ap (λ z. x ∷ z) rest.are;
      count = omega (arith, count);
    }

half : (keys n : ℕ) → n ≡ 6 * (keys - 1) / 64 + 1 → AreEnough keys n
half keys n e = grind (arith, e)

still-enough : (more keys n : ℕ) → keys ≤ more → AreEnough more n → AreEnough keys n
still-enough more keys n le enough = omega (arith, le, enough)

later-enough : (keys n m : ℕ) → n ≤ m → AreEnough keys n → AreEnough keys m
later-enough keys n m le enough = omega (arith, le, enough)

pub all-arrive : RoundLaws → NearLaws → EachRunKeeps → AllArrives
all-arrive laws near word terms one two t made events rounds stand waits side s u at rs enough sends open_ =
    let w = run terms events (start one two) in
    let sound = each-sound laws.sound terms one two t made events in
    let turns = turns-from laws.sound terms w.packets rounds w side s u t sound stand at rs sends open_ in
    let quiet = quiet-turns terms w.packets rounds w side s u t (calm-at-first w waits) turns in
    let keys = length (node w side).waits in
    let n = 6 * (keys - 1) / 64 + 1 in
    let two_ : 2 * n ≤ length rounds = enough in
    let it = part n rounds (omega (arith, two_)) in
    let v = run_rounds terms it.first w in
    let both = turns-join terms it.first it.second w side s u
    (subst (λ z. QuietTurns terms w side s u z) it.are quiet) in
    let all : length rounds ≡ length it.first + length it.second =
    ap (λ z. length z) it.are ∙ length-append it.first it.second in
    let count = it.count in
    let rest : n ≤ length it.second = omega (arith, two_, all, count) in
    let one_pass : AreEnough keys (length it.first) = subst (λ z. AreEnough keys z) (sym count) (half keys n refl) in
    let right = each-right laws.waits laws.sound terms one two t made events in
    let less = fewer laws terms it.first w side s u t sound stand right both.0 in
    let other_pass : AreEnough (length (node v side).waits) (length it.second) =
    still-enough keys (length (node v side).waits) (length it.second) less
    (later-enough keys n (length it.second) rest (half keys n refl)) in
    let count_ = accepted_count (records (node w side)) s in
    subst (λ z. HasArrived z side s u count_)
    (sym (ap (λ z. run_rounds terms z w) it.are ∙ rounds-join terms it.first it.second w))
    (two-passes laws word terms one two t made events it.first it.second stand side s u at both.0 one_pass both.1
    other_pass count_ (omega arith)
    (accepted-near near laws.waits.heard laws.sound word terms one two t made events stand side s u at))
