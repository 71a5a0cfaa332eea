-- Lemmas on what waits for polls, which the crates above use: what holds of each message that waits, and of each that
-- is said, holds of what waits after a call and of what a MakeConnection takes out, where it is kept by MessagePending
-- and by the blocks of what is said.
use Rattle.std.specs.Prelude.{not, Bool, true, false, if◌then◌else◌, List, [], ◌∷◌, ◌++◌, Option, Some, None, Result}
use Rattle.std.specs.Prelude.{option_map, drop}
use Rattle.rm_base.specs.Count.{raised_by}
use Rattle.std.specs.List.{AllByRecursion, filter, flat_map}
use Rattle.std.specs.Str.{bytes_eq}
use Rattle.timers.specs.Pending.Waiting.{Queue, Waiting, packets_for, may_wait, with_packet, put, rest_of}
use Rattle.timers.specs.Pending.Waiting.{without_first, first_in}
use Rattle.rm_message.specs.declared.elements.header.AckBlock.{AckBlock}
use Rattle.rm_message.specs.declared.message.Message.{Message}
use Rattle.rm_message.specs.declared.refusal.Refusal.{Refusal}
use Rattle.record_batch.specs.Sequences.Words.{Text}
use Rattle.rm_protocol.specs.Addresses.{place_of}
use Rattle.rm_protocol.specs.Calls.{Answer, Fetched}
use Rattle.rm_protocol.specs.Node.{fetched_message}
use Rattle.rm_protocol.specs.Said.{with_blocks}
use Rattle.rm_protocol.specs.Polls.{selected, awaited, goes_back, blocks_back, fetched_with, said_beside, polls}
use Rattle.rm_protocol.specs.Polls.{puts_all, waits_there, waiting_of, with_pending, without_fetched, polled_after}

-- P holds of each message of each queue
abbrev pub AllQueued : (Message → Type 0) → List (Queue Message) → Type 0
AllQueued P qs = AllByRecursion (λ (q : Queue Message). AllByRecursion P q.packets) qs

-- P holds of each message that waits
abbrev pub AllWaiting : (Message → Type 0) → Waiting Message → Type 0
AllWaiting P waits = AllQueued P waits.queues

-- P is kept by MessagePending, and by more blocks of what is said
pub record IsOfReplies (P : Message → Type 0) : Type 0 where
  pub pending : (m : Message) (more : Bool) → P m → P (with_pending m more)
  pub blocks : (m : Message) (outs : List Message) → P m → AllByRecursion P outs → P (with_blocks m (blocks_back outs))

joined : {A : Type 0} (P : A → Type 0) (xs ys : List A) → AllByRecursion P xs → AllByRecursion P ys
    → AllByRecursion P (xs ++ ys)
joined P [] ys h k = k
joined P (x ∷ xs) ys h k = (h.0, joined P xs ys h.1 k)

kept : (P : Message → Type 0) (test : Message → Bool) (ms : List Message) → AllByRecursion P ms
    → AllByRecursion P (filter test ms)
kept P test [] h = tt
kept P test (m ∷ ms) h = chosen (test m) (kept P test ms h.1)
  where
    chosen : (b : Bool) → AllByRecursion P (filter test ms)
        → AllByRecursion P (if b then m ∷ filter test ms else filter test ms)
    chosen true k = (h.0, k)
    chosen false k = k

with-queued : (P : Message → Type 0) (qs : List (Queue Message)) (u : Text) (m : Message) → AllQueued P qs → P m
    → AllQueued P (with_packet qs u m)
with-queued P [] u m h s = ((s, tt), tt)
with-queued P (q ∷ qs) u m h s = chosen (bytes_eq q.address u) (with-queued P qs u m h.1 s)
  where
    chosen : (b : Bool) → AllQueued P (with_packet qs u m)
        → AllQueued P (if b then record { address = q.address; packets = q.packets ++ m ∷ [] } ∷ qs
        else q ∷ with_packet qs u m)
    chosen true k = (joined P q.packets (m ∷ []) h.0 (s, tt), h.1)
    chosen false k = (h.0, k)

put-all : (P : Message → Type 0) (w : Waiting Message) (u : Text) (m : Message) → AllWaiting P w → P m
    → AllWaiting P (put w u m)
put-all P w u m h s = chosen (may_wait w.queues u)
  where
    chosen : (b : Bool) → AllWaiting P (if b then record { queues = with_packet w.queues u m; dropped = w.dropped }
        else record { queues = w.queues; dropped = raised_by w.dropped 1 })
    chosen true = with-queued P w.queues u m h s
    chosen false = h

pub puts-all : (P : Message → Type 0) (w : Waiting Message) (ms : List Message) → AllWaiting P w → AllByRecursion P ms
    → AllWaiting P (puts_all w ms)
puts-all P w [] h k = h
puts-all P w (m ∷ ms) h k = puts-all P (put w m.addressing.to m) ms (put-all P w m.addressing.to m h k.0) k.1

behind-all : (P : Message → Type 0) (ps : List Message) → AllByRecursion P ps → AllByRecursion P (drop 1 ps)
behind-all P [] h = tt
behind-all P (p ∷ ps) h = h.1

rest-queued : (P : Message → Type 0) (u : Text) (ps : List Message) (qs : List (Queue Message)) → AllByRecursion P ps
    → AllQueued P qs → AllQueued P (rest_of u ps qs)
rest-queued P u [] qs h k = k
rest-queued P u (p ∷ ps) qs h k = (h, k)

without-queued : (P : Message → Type 0) (qs : List (Queue Message)) (u : Text) → AllQueued P qs
    → AllQueued P (without_first qs u)
without-queued P [] u h = tt
without-queued P (q ∷ qs) u h = chosen (bytes_eq q.address u) (without-queued P qs u h.1)
  where
    chosen : (b : Bool) → AllQueued P (without_first qs u)
        → AllQueued P (if b then rest_of q.address (drop 1 q.packets) qs else q ∷ without_first qs u)
    chosen true k = rest-queued P q.address (drop 1 q.packets) qs (behind-all P q.packets h.0) h.1
    chosen false k = (h.0, k)

pub without-all : (P : Message → Type 0) (w : Waiting Message) (t : Option Fetched) → AllWaiting P w
    → AllWaiting P (without_fetched w t)
without-all P w None h = h
without-all P w (Some t) h = without-queued P w.queues t.address h

-- what waits after a call
pub polled_after-all : (P : Message → Type 0) (w : Waiting Message) (answer : Answer) → AllWaiting P w
    → AllByRecursion P answer.outs → AllWaiting P (polled_after w answer)
polled_after-all P w answer h k =
    puts-all P (without_fetched w answer.fetched) (waiting_of answer.outs) (without-all P w answer.fetched h)
    (kept P (λ (m : Message). waits_there (place_of m.addressing.to)) answer.outs k)

pub for-all : (P : Message → Type 0) (qs : List (Queue Message)) (u : Text) → AllQueued P qs
    → AllByRecursion P (packets_for qs u)
for-all P [] u h = tt
for-all P (q ∷ qs) u h = chosen (bytes_eq q.address u) (for-all P qs u h.1)
  where
    chosen : (b : Bool) → AllByRecursion P (packets_for qs u)
        → AllByRecursion P (if b then q.packets else packets_for qs u)
    chosen true k = h.0
    chosen false k = k

first-all : (P : Message → Type 0) → IsOfReplies P → (u : Text) (ps : List Message) → AllByRecursion P ps
    → AllByRecursion P (fetched_message (option_map (λ (x : Message × Bool). record {
      address = u;
      message = with_pending x.0 x.1;
    }) (first_in ps)))
first-all P r u [] h = tt
first-all P r u (p ∷ ps) h = (r.pending p _ h.0, tt)

pub awaited-all : (P : Message → Type 0) → IsOfReplies P → (w : Waiting Message) (u : Option Text) → AllWaiting P w
    → AllByRecursion P (fetched_message (awaited w u))
awaited-all P r w None h = tt
awaited-all P r w (Some u) h = first-all P r u (packets_for w.queues u) (for-all P w.queues u h)

with-all : (P : Message → Type 0) → IsOfReplies P → (t : Option Fetched) (outs : List Message)
    → AllByRecursion P (fetched_message t) → AllByRecursion P outs
    → AllByRecursion P (fetched_message (fetched_with t outs))
with-all P r None outs h k = tt
with-all P r (Some t) outs h k = (r.blocks t.message outs h.0 k, tt)

-- what a MakeConnection takes out
pub fetched-all : (P : Message → Type 0) → IsOfReplies P → (w : Waiting Message) (content : Result Message Refusal)
    (answer : Answer) → AllWaiting P w → AllByRecursion P answer.outs
    → AllByRecursion P (fetched_message (polls w content answer).fetched)
fetched-all P r w content answer h k =
    with-all P r (awaited w (selected answer.outcome content)) answer.outs
    (awaited-all P r w (selected answer.outcome content) h) k

beside-all : (P : Message → Type 0) (t : Option Fetched) (outs : List Message) → AllByRecursion P outs
    → AllByRecursion P (said_beside t outs)
beside-all P None outs h = h
beside-all P (Some t) outs h = kept P (λ (m : Message). not (goes_back m)) outs h

-- what holds of the blocks of each message holds of those that go back
pub blocks-all : (P : Message → Type 0) (Q : AckBlock → Type 0)
    → ((m : Message) → P m → AllByRecursion Q m.acks) → (outs : List Message) → AllByRecursion P outs
    → AllByRecursion Q (blocks_back outs)
blocks-all P Q f [] h = tt
blocks-all P Q f (m ∷ outs) h = chosen (goes_back m) (blocks-all P Q f outs h.1)
  where
    chosen : (b : Bool) → AllByRecursion Q (blocks_back outs)
        → AllByRecursion Q (flat_map (λ (x : Message). x.acks)
        (if b then m ∷ filter goes_back outs else filter goes_back outs))
    chosen true k = joined Q m.acks (blocks_back outs) (f m h.0) k
    chosen false k = k

-- what is said besides
pub outs-all : (P : Message → Type 0) (w : Waiting Message) (content : Result Message Refusal) (answer : Answer)
    → AllByRecursion P answer.outs → AllByRecursion P (polls w content answer).outs
outs-all P w content answer k = beside-all P (awaited w (selected answer.outcome content)) answer.outs k
