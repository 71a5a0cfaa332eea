-- From each world that a script reaches, each message arrives after enough fair rounds.
use Rattle.std.proofs.Common.{List, ◌≡◌, ℕ, ◌+◌, ◌*◌, ◌≤◌, min, ◌++◌, length, sym, ◌∙◌, subst, arith}
use Rattle.rm_base.specs.Limits.{window}
use Rattle.record_batch.specs.Sequences.Sources.{accepted_count}
use Rattle.record_batch.specs.Sequences.Destinations.{front}
use Rattle.rm_protocol.specs.Node.{records}
use Rattle.rm_protocol.specs.Sound.{IsSound}
use Rattle.record_batch.specs.Sequences.Words.{Text}
use Rattle.rm_protocol.specs.Terms.{AreTerms, Terms}
use Rattle.rm_protocol.specs.World.{AreMade, Event, Side, World, node, other, run, start}
use Rattle.rm_arrival.specs.Fair.{BothStand, IsReached}
use Rattle.rm_arrival.specs.Few.{AllAcked}
use Rattle.rm_arrival.specs.Rounds.{AreEnough, EachHasItsTurn, EachMessageArrives, TwoPassesArrive, run_rounds}
use Rattle.rm_arrival.specs.Runs.{HasArrived}
use Rattle.rm_arrival.proofs.ArriveLemmas.{EachRunKeeps, arrived, at-front, each-right}
use Rattle.rm_arrival.proofs.CalmLemmas.{QuietTurns, calm-at-first, quiet-turns, rounds-since}
use Rattle.rm_arrival.proofs.OnwardLemmas.{Onward, run-join}
use Rattle.rm_arrival.proofs.RoundsLemmas.{RoundLaws, all_lines, count-later, each-in-turn, reached-stays, rounds-are}
use Rattle.rm_arrival.proofs.RoundsLemmas.{rounds-onward}
use Rattle.rm_arrival.proofs.StartLemmas.{each-sound}
use Rattle.rm_arrival.proofs.ValidLemmas.{sees}

-- so it is where no Nack comes in the rounds
abbrev pub QuietArrives : Type 0
QuietArrives =
    (terms : Terms) (one two : Text) → AreTerms terms → AreMade terms one two → (events : List Event)
    (rounds : List (List Event)) → BothStand (run terms events (start one two)) → (side : Side) (s t : ℕ)
    → IsReached (run terms events (start one two)) side s t
    → QuietTurns terms (run terms events (start one two)) side s t rounds
    → AreEnough (length (node (run terms events (start one two)) side).waits) (length rounds)
    → (n : ℕ) → n ≤ accepted_count (records (node (run terms events (start one two)) side)) s
    → n ≤ front (records (node (run terms events (start one two)) (other side))) t + window
    → HasArrived (run_rounds terms rounds (run terms events (start one two))) side s t n

-- and of two passes
abbrev pub QuietPasses : Type 0
QuietPasses =
    (terms : Terms) (one two : Text) → AreTerms terms → AreMade terms one two → (events : List Event)
    (first second : List (List Event)) → BothStand (run terms events (start one two)) → (side : Side) (s t : ℕ)
    → IsReached (run terms events (start one two)) side s t
    → QuietTurns terms (run terms events (start one two)) side s t first
    → AreEnough (length (node (run terms events (start one two)) side).waits) (length first)
    → QuietTurns terms (run_rounds terms first (run terms events (start one two))) side s t second
    → AreEnough (length (node (run_rounds terms first (run terms events (start one two))) side).waits) (length second)
    → (n : ℕ) → n ≤ accepted_count (records (node (run terms events (start one two)) side)) s
    → n ≤ front (records (node (run terms events (start one two)) (other side))) t + 2 * window
    → HasArrived (run_rounds terms second (run_rounds terms first (run terms events (start one two)))) side s t n

each-arrives : RoundLaws → EachRunKeeps → QuietArrives
each-arrives laws word terms one two t made events rounds stand side s u at turns enough n less near =
    let w = run terms events (start one two) in
    let sound = each-sound laws.sound terms one two t made events in
    let right = each-right laws.waits laws.sound terms one two t made events in
    let same = rounds-are terms rounds w in
    let acked_ = each-in-turn laws terms w rounds t sound stand right side s u at turns enough n less near in
    let on = rounds-onward laws terms rounds w side s u stand turns in
    subst (λ z. HasArrived z side s u n) (sym same)
    (arrived word laws.sound laws.from laws.reached terms one two t made events (all_lines rounds) side s u at
    (subst (λ z. Onward w z) same on) n (subst (λ z. AllAcked z side s n) same acked_))

-- what is up to two windows past the front is up to one past that behind the first pass
two-windows : (n old new : ℕ) → n ≤ old + 2 * window → min n (old + window) ≤ new → n ≤ new + window
two-windows n old new le up = omega (arith, le, up)

pub two-passes : RoundLaws → EachRunKeeps → QuietPasses
two-passes laws word terms one two t made events first second stand side s u at turns enough more much n less near =
    let w = run terms events (start one two) in
    let v = run_rounds terms first w in
    let old = front (records (node w (other side))) u in
    let m = min n (old + window) in
    let one_pass = each-arrives laws word terms one two t made events first stand side s u at turns enough m
    (omega (arith, less)) (omega arith) in
    let events_ = events ++ all_lines first in
    let same : run terms events_ (start one two) ≡ v =
    run-join terms events (all_lines first) (start one two) ∙ sym (rounds-are terms first w) in
    let sound = each-sound laws.sound terms one two t made events in
    let later = subst (λ z. IsSound terms z) same
    (each-sound laws.sound terms one two t made events_) in
    let on = rounds-onward laws terms first w side s u stand turns in
    let up : m ≤ front (records (node v (other side))) u =
    at-front laws.from laws.reached (records (node v (other side))) u m (sees terms v (other side) later).stands.fit
    one_pass.held_ in
    let near_ : n ≤ front (records (node v (other side))) u + window =
    two-windows n old (front (records (node v (other side))) u) near up in
    let grown = count-later terms w v side s later on in
    let less_ : n ≤ accepted_count (records (node v side)) s = omega (arith, less, grown) in
    let at_ = reached-stays terms w v side s u sound on at in
    subst (λ z. HasArrived (run_rounds terms second z) side s u n) same
    (each-arrives laws word terms one two t made events_ second
    (subst (λ z. BothStand z) (sym same) on.stand) side s u
    (subst (λ z. IsReached z side s u) (sym same) at_)
    (subst (λ z. QuietTurns terms z side s u second) (sym same) more)
    (subst (λ (z : World). AreEnough (length (node z side).waits) (length second)) (sym same) much) n
    (subst (λ z. n ≤ accepted_count (records (node z side)) s) (sym same) less_)
    (subst (λ z. n ≤ front (records (node z (other side))) u + window) (sym same) near_))

-- ---- where none was on its way before them

pub each-turn : RoundLaws → EachHasItsTurn
each-turn laws terms w rounds t sound stand waits right side s u at turns enough n less near =
    each-in-turn laws terms w rounds t sound stand right side s u at
    (quiet-turns terms w.packets rounds w side s u t (calm-at-first w waits) turns) enough n less near

pub message-arrives : RoundLaws → EachRunKeeps → EachMessageArrives
message-arrives laws word terms one two t made events rounds stand waits side s u at turns enough n less near =
    let w = run terms events (start one two) in
    each-arrives laws word terms one two t made events rounds stand side s u at
    (quiet-turns terms w.packets rounds w side s u t (calm-at-first w waits) turns) enough n less near

pub passes-arrive : RoundLaws → EachRunKeeps → TwoPassesArrive
passes-arrive laws word terms one two t made events first second stand waits side s u at turns enough more much n less
    near =
    let w = run terms events (start one two) in
    let calm = calm-at-first w waits in
    let then = rounds-since terms w.packets first w side s u t calm turns in
    two-passes laws word terms one two t made events first second stand side s u at
    (quiet-turns terms w.packets first w side s u t calm turns) enough
    (quiet-turns terms w.packets second (run_rounds terms first w) side s u t then more) much n less near
