-- Runs line by line, scripts that arm no disk, and images as crashes.
use Rattle.std.proofs.Common.{◌≡◌, ℕ, zero, suc, ◌+◌, Bool, true, false, List, [], ◌∷◌, ◌++◌, take, refl, sym, ap}
use Rattle.std.proofs.Common.{◌∙◌, subst, inl, inr, cond}
use Rattle.std.specs.Prelude.{Option, Some, None, Err, slice_get}
use native.Mathlib.Numerals.{unary_clauses}
use Rattle.rm_base.specs.Numbered.{numbered}
use Rattle.rm_message.specs.declared.refusal.Refusal.{Refusal}
use Rattle.record_batch.specs.Fact.{Fact}
use Rattle.record_batch.specs.Snapshot.Snapshot.{snapshot}
use Rattle.rm_protocol.specs.Calls as Calls
use Rattle.record_batch.specs.Sequences.Words.{Text}
use Rattle.rm_protocol.specs.Calls.{Answer, Done, Refused}
use Rattle.rm_protocol.specs.Compact.{compact_cause, compact_outcome, compact_outcome_by, compacted, compacted_by}
use Rattle.rm_protocol.specs.Compact.{may_compact, rewritten}
use Rattle.rm_protocol.specs.Node.{Node, State, Up, Writing, Compacting, records, records_in, node_end, is_short}
use Rattle.rm_protocol.specs.Node.{burned, entries_left, whole_left, mounted, written, after, after_by, call_outcome}
use Rattle.rm_protocol.specs.Node.{outcome_by, outcome_with, Answered, DiskFault}
use Rattle.rm_protocol.specs.Sent.{Called, arrival_outcome, outcome_of, line_of, lines}
use Rattle.rm_protocol.specs.Terms.{Terms}
use Rattle.rm_protocol.specs.Unarmed.{IsUnarmed, AreUnarmed, IsFaultless, AreFaultless}
use Rattle.rm_protocol.specs.Crashes.{HasRecords, IsLeftWith, IsLeft, IsAfterCrashes}
use Rattle.rm_protocol.specs.World as world
use Rattle.rm_protocol.specs.World.{World, Packet, Side, One, Two, other, node, with_node, Event, Crash, calls}
use Rattle.rm_protocol.specs.Polls.{poll}
use Rattle.rm_protocol.specs.World.{place, received_by, arrives, wish_of, with_clock, happens, run, start}
use Rattle.rm_protocol.specs.AloneLemmas.{records-alone}
use Rattle.rm_protocol.specs.Consumed.{ConsumedStays, StaysConsumed}
use Rattle.rm_protocol.proofs.FreshLemmas.{SnapshotLaws}
use Rattle.rm_protocol.proofs.RunLemmas.{records-with, run-IsSound, run-steps, start-IsSound}

pub run-append : (terms : Terms) (first second : List Event) (w : World)
    → run terms (first ++ second) w ≡ run terms second (run terms first w)
run-append terms [] second w = refl
run-append terms (event ∷ first) second w = run-append terms first second (happens terms w event)

-- what was released and consumed at one moment of a run begins what is at a later one
pub stays-consumed : SnapshotLaws → ConsumedStays
stays-consumed laws terms one two t made first second =
    let w = run terms first (start one two) in
    subst (StaysConsumed w) (sym (run-append terms first second (start one two)))
    (run-steps laws terms second w t
    (run-IsSound laws terms first (start one two) t (start-IsSound terms one two made))).stays

pub lines-append : (terms : Terms) (first second : List Event) (w : World)
    → lines terms (first ++ second) w ≡ lines terms first w ++ lines terms second (run terms first w)
lines-append terms [] second w = refl
lines-append terms (event ∷ first) second w =
    ap (λ z. line_of terms w event ∷ z) (lines-append terms first second (happens terms w event))

-- the first items, and one more
take-next : {A : Type 0} (xs : List A) (k : ℕ) (x : A) → slice_get xs k ≡ Some x
    → take (k + 1) xs ≡ take k xs ++ x ∷ []
take-next [] k x e = absurd (cc (e))
take-next (y ∷ ys) zero x e = let same : y ≡ x = cc (e) in ap (λ z. z ∷ []) same
take-next (y ∷ ys) (suc k) x e = simp unary_clauses (ap (λ z. y ∷ z) (simp unary_clauses at (take-next ys k x e)))

pub run-next : (terms : Terms) (events : List Event) (w : World) (k : ℕ) (event : Event)
    → slice_get events k ≡ Some event
    → run terms (take (k + 1) events) w ≡ happens terms (run terms (take k events) w) event
run-next terms events w k event e =
    ap (λ z. run terms z w) (take-next events k event e) ∙ run-append terms (take k events) (event ∷ []) w

pub lines-next : (terms : Terms) (events : List Event) (w : World) (k : ℕ) (event : Event)
    → slice_get events k ≡ Some event
    → lines terms (take (k + 1) events) w
    ≡ lines terms (take k events) w ++ line_of terms (run terms (take k events) w) event ∷ []
lines-next terms events w k event e =
    ap (λ z. lines terms z w) (take-next events k event e) ∙ lines-append terms (take k events) (event ∷ []) w

-- a text that is refused is noise
pub noise-world : (terms : Terms) (w : World) (k : ℕ) (packet : Packet) (refusal : Refusal)
    → numbered w.packets k ≡ Some packet → terms.read packet.message ≡ Err refusal
    → happens terms w (world.Deliver k) ≡ happens terms w (world.Noise (other packet.from) refusal)
noise-world terms w k packet refusal e f =
    let side = other packet.from in
    ap (arrives terms w) e ∙ ap (λ z. calls terms w side true (received_by terms (node w side) z)) f

pub noise-outcome : (terms : Terms) (w : World) (k : ℕ) (packet : Packet) (refusal : Refusal)
    → numbered w.packets k ≡ Some packet → terms.read packet.message ≡ Err refusal
    → outcome_of terms w (world.Deliver k) ≡ outcome_of terms w (world.Noise (other packet.from) refusal)
noise-outcome terms w k packet refusal e f =
    let x = node w (other packet.from) in
    ap (arrival_outcome terms w) e ∙ ap (λ z. Called (call_outcome x (received_by terms x z))) f

-- a node that is up, and whose disk isn't armed
record IsFree (x : Node) : Type 0 where
  fuse : x.fuse ≡ None
  state : x.state ≡ Up

record AreFree (w : World) : Type 0 where
  one : IsFree w.one
  two : IsFree w.two

free_at : (w : World) (side : Side) → AreFree w → IsFree (node w side)
free_at w One h = h.one
free_at w Two h = h.two

free_with : (w : World) (side : Side) (y : Node) → AreFree w → IsFree y → AreFree (with_node w side y)
free_with w One y h k = record { one = k; two = h.two }
free_with w Two y h k = record { one = h.one; two = k }

written-free : (x : Node) (d : List Fact) → IsFree x → IsFree (written x d)
written-free x [] h = h
written-free x (rec ∷ d) h =
    let long : is_short 4 x.fuse ≡ false = ap (is_short 4) h.fuse in
    rw long (record { fuse = ap (burned 4) h.fuse; state = h.state })

after-free : (x : Node) (answer : Answer) → IsFree x → IsFree (after x answer)
after-free x answer h =
    let free = written-free x answer.delta h in
    subst (λ z. IsFree (after_by x z answer)) (sym h.state) (record { fuse = free.fuse; state = free.state })

outcome-free : (x : Node) (answer : Answer) → IsFree x → IsFaultless (Called (call_outcome x answer))
outcome-free x answer h =
    subst (λ z. IsFaultless (Called (outcome_by x z answer))) (sym h.state) (by_delta answer.delta)
  where
    by_delta : (d : List Fact) → IsFaultless (Called (outcome_with x.fuse d answer.outcome))
    by_delta [] = tt
    by_delta (rec ∷ d) =
        let long : is_short 4 x.fuse ≡ false = ap (is_short 4) h.fuse in
        rw long tt

compacted-free : (terms : Terms) (x : Node) → IsFree x → IsFree (compacted terms x)
compacted-free terms x h = subst (λ z. IsFree (compacted_by terms x z)) (sym h.state)
    (elim (may_compact terms x) as (λ b. IsFree (cond b (rewritten terms x) x)) [
      | true ↦
          let long : is_short 5 x.fuse ≡ false = ap (is_short 5) h.fuse in
          rw long (record { fuse = ap (burned 5) h.fuse; state = h.state })
      | false ↦ h
    ])

compact-well : (terms : Terms) (x : Node) → IsFree x → IsFaultless (Called (compact_outcome terms x))
compact-well terms x h = subst (λ z. IsFaultless (Called (compact_outcome_by terms x z))) (sym h.state)
    (elim (may_compact terms x) as (λ b. IsFaultless (Called
    (cond b (cond (is_short 5 x.fuse) DiskFault (Answered Done)) (Answered (Refused (compact_cause terms x)))))) [
      | true ↦
          let long : is_short 5 x.fuse ≡ false = ap (is_short 5) h.fuse in
          rw long tt
      | false ↦ tt
    ])

calls-free : (terms : Terms) (w : World) (side : Side) (connected : Bool) (answer : Answer) → AreFree w
    → AreFree (calls terms w side connected answer)
calls-free terms w One connected answer h = record { one = after-free w.one answer h.one; two = h.two }
calls-free terms w Two connected answer h = record { one = h.one; two = after-free w.two answer h.two }

-- each event comes out without a fault
outcome-well : (terms : Terms) (w : World) (event : Event) → AreFree w → IsFaultless (outcome_of terms w event)
outcome-well terms w (world.Create side via expires offer) h =
    let x = node w side in
    outcome-free x (Calls.create terms (records x) (node_end terms x) (wish_of w side via expires offer))
    (free_at w side h)
outcome-well terms w (world.Grant side y) h = tt
outcome-well terms w (world.Send side s text) h =
    let x = node w side in
    outcome-free x (Calls.send terms (records x) (node_end terms x) s text) (free_at w side h)
outcome-well terms w (world.Tick side now) h =
    let x = node w side in
    outcome-free x (Calls.tick terms (records x) (node_end terms x) now x.time x.waits) (free_at w side h)
outcome-well terms w (world.Deliver i) h = by_packet (numbered w.packets i)
  where
    by_packet : (p : Option Packet) → IsFaultless (arrival_outcome terms w p)
    by_packet None = tt
    by_packet (Some p) =
        let x = node w (other p.from) in
        outcome-free x (received_by terms x (terms.read p.message)) (free_at w (other p.from) h)
outcome-well terms w (world.Close side s) h =
    let x = node w side in
    outcome-free x (Calls.close terms (records x) (node_end terms x) s x.clock) (free_at w side h)
outcome-well terms w (world.End side s) h =
    let x = node w side in
    outcome-free x (Calls.end terms (records x) (node_end terms x) s) (free_at w side h)
outcome-well terms w (world.Ask side s) h =
    let x = node w side in
    outcome-free x (Calls.ask_ack (records x) s) (free_at w side h)
outcome-well terms w (world.Nack side s) h =
    let x = node w side in
    outcome-free x (Calls.nack_missing (records x) s x.clock) (free_at w side h)
outcome-well terms w (world.Arm side c) h = tt
outcome-well terms w (world.Crash side kept) h = tt
outcome-well terms w (world.Noise side refusal) h =
    outcome-free (node w side) (received_by terms (node w side) (Err refusal)) (free_at w side h)
outcome-well terms w (world.Poll side) h =
    outcome-free (node w side) (poll (records (node w side)) (place w (other side))) (free_at w side h)
outcome-well terms w (world.Consume side s upto) h =
    let x = node w side in
    outcome-free x (Calls.consume terms (records x) (node_end terms x) s upto) (free_at w side h)
outcome-well terms w (world.Compact side) h = compact-well terms (node w side) (free_at w side h)

-- and leaves both nodes so, unless it arms a disk
happens-free : (terms : Terms) (w : World) (event : Event) → IsUnarmed event → AreFree w
    → AreFree (happens terms w event)
happens-free terms w (world.Create side via expires offer) u h = calls-free terms w side false _ h
happens-free terms w (world.Grant side y) u h =
    let x = free_at w side h in
    free_with w side (record (node w side) { granted = y }) h (record { fuse = x.fuse; state = x.state })
happens-free terms w (world.Send side s text) u h = calls-free terms w side false _ h
happens-free terms w (world.Tick side now) u h =
    let x = free_at w side h in
    calls-free terms (with_node w side (with_clock (node w side) now)) side false _
    (free_with w side (with_clock (node w side) now) h (record { fuse = x.fuse; state = x.state }))
happens-free terms w (world.Deliver i) u h = by_packet (numbered w.packets i)
  where
    by_packet : (p : Option Packet) → AreFree (arrives terms w p)
    by_packet None = h
    by_packet (Some p) = calls-free terms w (other p.from) true _ h
happens-free terms w (world.Close side s) u h = calls-free terms w side false _ h
happens-free terms w (world.End side s) u h = calls-free terms w side false _ h
happens-free terms w (world.Ask side s) u h = calls-free terms w side false _ h
happens-free terms w (world.Nack side s) u h = calls-free terms w side false _ h
happens-free terms w (world.Arm side c) u h = absurd u
happens-free terms w (world.Crash side kept) u h =
    free_with w side (mounted (node w side) kept) h (record { fuse = refl; state = refl })
happens-free terms w (world.Noise side refusal) u h = calls-free terms w side true _ h
happens-free terms w (world.Poll side) u h = calls-free terms w side false _ h
happens-free terms w (world.Consume side s upto) u h = calls-free terms w side false _ h
happens-free terms w (world.Compact side) u h =
    free_with w side (compacted terms (node w side)) h (compacted-free terms (node w side) (free_at w side h))

run-free : (terms : Terms) (events : List Event) (w : World) → AreFree w → AreUnarmed events
    → AreFree (run terms events w)
run-free terms [] w h u = h
run-free terms (event ∷ events) w h u =
    run-free terms events (happens terms w event) (happens-free terms w event u.0 h) u.1

free-faultless : (terms : Terms) (events : List Event) (w : World) → AreFree w → AreUnarmed events
    → AreFaultless (lines terms events w)
free-faultless terms [] w h u = tt
free-faultless terms (event ∷ events) w h u = (
  outcome-well terms w event h,
  free-faultless terms events (happens terms w event) (happens-free terms w event u.0 h) u.1,
)

start-free : (one two : Text) → AreFree (start one two)
start-free one two =
    record { one = record { fuse = refl; state = refl }; two = record { fuse = refl; state = refl } }

pub unarmed-next : (terms : Terms) (one two : Text) (events : List Event) (event : Event) → AreUnarmed events
    → IsFaultless (outcome_of terms (run terms events (start one two)) event)
unarmed-next terms one two events event u =
    outcome-well terms (run terms events (start one two)) event
    (run-free terms events (start one two) (start-free one two) u)

pub unarmed-faultless : (terms : Terms) (one two : Text) (events : List Event) → AreUnarmed events
    → AreFaultless (lines terms events (start one two))
unarmed-faultless terms one two events u =
    free-faultless terms events (start one two) (start-free one two) u

-- an image is what a crash leaves that keeps the failed batch or doesn't
crashed : (x : Node) (image all : List Fact) → IsLeft x image all
    → (kept : Bool) × HasRecords (mounted x kept) image all
crashed x image all h = let parts = by_parts x.state h in
    (parts.0, record { records_ = parts.1; whole_ = parts.2 })
  where
    by_parts : (z : State) → IsLeftWith (records x) x.whole z image all
        → (kept : Bool) × (records_in (entries_left z kept x.entries) ≡ image) × (whole_left z kept x.whole ≡ all)
    by_parts Up e = (false, sym e.0, sym e.1)
    by_parts (Writing delta) (inl e) = (false, sym e.0, sym e.1)
    by_parts (Writing delta) (inr e) = (true, records-with x.entries delta ∙ sym e.0, sym e.1)
    by_parts (Compacting start) (inl e, f) = (false, sym e, sym f)
    by_parts (Compacting start) (inr e, f) = (true, records-alone (snapshot (records x)) ∙ sym e, sym f)

pub image-crash : (terms : Terms) (w : World) (side : Side) (image all : List Fact) → IsLeft (node w side) image all
    → (kept : Bool) × HasRecords (node (happens terms w (Crash side kept)) side) image all
image-crash terms w One image all h = crashed w.one image all h
image-crash terms w Two image all h = crashed w.two image all h

pub images-crashes : (terms : Terms) (w : World) (a aw b bw : List Fact) → IsLeft w.one a aw → IsLeft w.two b bw
    → IsAfterCrashes terms w a aw b bw
images-crashes terms w a aw b bw h k =
    let one = crashed w.one a aw h in
    let two = crashed w.two b bw k in
    record { kept_one = one.0; kept_two = two.0; one = one.1; two = two.1 }
