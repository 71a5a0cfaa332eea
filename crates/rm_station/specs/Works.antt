-- What a node does of each thing that comes: the calls that it makes, in order, and what it hands out.
use Rattle.std.specs.Prelude.{◌≡◌, ◌⊎◌, ℕ, ◌+◌, ◌==◌, Bool, true, false, ◌||◌, ◌&&◌, List, [], ◌∷◌, length, map}
use Rattle.std.specs.Prelude.{Option, None, Some}
use Rattle.std.specs.Prelude.{Result, Ok, Err, IfErr, IfSome}
use Rattle.node_store.specs.Stored.{Stored}
use Rattle.node_tables.specs.Reads.{outgoing_in}
use Rattle.record_batch.specs.Fact.{Fact}
use Rattle.record_batch.specs.Sequences.Makers.{makers}
use Rattle.record_batch.specs.Sequences.Sources.{accepted_count}
use Rattle.rm_base.specs.Outside.{Stream}
use Rattle.rm_base.specs.declared.outside.SinkError.{SinkError}
use Rattle.rm_base.specs.declared.outside.SinkError.TheVariants as sink
use Rattle.rm_disk.specs.Told.{Told as Disked}
use Rattle.rm_node.specs.Asked.{Asked, Close, Consume, Create, End as Finish, Poll, Send, Tick}
use Rattle.rm_node.specs.declared.error.NodeError.{NodeError}
use Rattle.rm_node.specs.declared.packets.Out.{Out}
use Rattle.rm_node.specs.declared.step.Reaction.{Reaction}
use Rattle.rm_serve.specs.Reacts.{Reacts}
use Rattle.rm_serve.specs.Serves.{Serving}
use Rattle.rm_serve.specs.Steps.{MakesAll, Place, Step, place_of}
use Rattle.rm_serve.specs.declared.serving.Served.{Served}
use Rattle.rm_host.specs.Doings.{Writes}
use Rattle.rm_host.specs.Ends.{is_of_call, is_refusal, node_end}
use Rattle.rm_host.specs.HostSteps.{IsShown, StandsAt, back_wish, own_step}
use Rattle.rm_host.specs.Sequences.{IsFirstTo, is_open}
use Rattle.rm_host.specs.Texts.{consumed_line, line_of}
use Rattle.rm_host.specs.declared.end.End.{End}
use Rattle.rm_host.specs.declared.end.End.TheVariants.{Memory, Refused, TooLong}
use Rattle.service_turns.specs.Turns.{Did, Rested, Served as ServedPeer, Told, Took}
use Rattle.service_turns.specs.declared.traffic.Packet.{Packet}
use Rattle.rm_station.specs.Asks.{AsksFor}
use Rattle.rm_station.specs.Reads.{read_answer}
use Rattle.rm_station.specs.Texts.{accepted_line, closed_line, ended_line, next_line, opening_line, polled_line}
use Rattle.rm_station.specs.Texts.{stopping_line}
use Rattle.rm_station.specs.declared.ask.Ask.{Ask}
use Rattle.rm_station.specs.declared.ask.Ask.TheVariants.{Closes, Consumes, Ends, Offers, Polls, Stops}
use Rattle.rm_station.specs.declared.ask.Next.{Next}
use Rattle.rm_station.specs.declared.said.Said.{Said}
use Rattle.rm_station.specs.declared.station.Station.{Station}

-- ---- peers

-- what is handed out of a request that was served
abbrev pub served_outs : Result Served NodeError → Result (List Out) End
served_outs (Ok served) = Ok served.outs
served_outs (Err e) = Err (node_end e)

-- and of bytes that the node took
abbrev pub reaction_outs : Result Reaction NodeError → Result (List Out) End
reaction_outs (Ok reaction) = Ok reaction.outs
reaction_outs (Err e) = Err (node_end e)

-- a body, unless it is empty
abbrev pub heard_in : List ℕ → Option (List ℕ)
heard_in [] = None
heard_in (byte ∷ bytes) = Some (byte ∷ bytes)

-- the node takes it in one call; where there is none nothing is done
abbrev pub TakesOf : (moment : ℕ) → Option (List ℕ) → List Step → Result (List Out) End → Type 0
TakesOf moment None steps result = (steps ≡ []) × (result ≡ Ok [])
TakesOf moment (Some bytes) steps result =
    (came : Result Reaction NodeError) × Reacts moment bytes steps came × (result ≡ reaction_outs came)

-- the body of a response is taken
abbrev pub Takes : (moment : ℕ) → List ℕ → List Step → Result (List Out) End → Type 0
Takes moment body steps result = TakesOf moment (heard_in body) steps result

-- ---- the application

-- a text is told, and no more
abbrev pub only : List ℕ → Said
only text = record { text = text; outs = []; is_stop = false }

-- the number that the next payload on a sequence gets
abbrev pub next_number : List Fact → ℕ → ℕ
next_number r seq = accepted_count r seq + 1

-- a payload may go on a sequence under a number: no number is said for it, or that one
abbrev pub is_under : (seq number : ℕ) → Option Next → Bool
is_under seq number None = true
is_under seq number (Some next) = (next.seq == seq) && (next.number == number)

-- The call for what is asked, at a node with these records, and the line of it where it is done. A payload goes on the
-- first sequence to its address that is open or asked for, if that is open and the payload may go on it; where there is
-- none one is asked for.
pub data Calls (r : List Fact) : Ask → Asked → List ℕ → Type 0 where
  sends : (to payload : List ℕ) (next : Option Next) (seq : ℕ) → IsFirstTo r to (Some seq)
      → is_open (outgoing_in r seq) ≡ true → is_under seq (next_number r seq) next ≡ true
      → Calls r (Offers to next payload) (Send seq payload) (accepted_line seq (next_number r seq))
  begins : (to payload : List ℕ) (next : Option Next) → IsFirstTo r to None
      → Calls r (Offers to next payload) (Create (back_wish to)) (opening_line (length (makers r) + 1))
  consumes : (seq upto : ℕ) → Calls r (Consumes seq upto) (Consume seq upto) (consumed_line seq upto)
  closes : (seq : ℕ) → Calls r (Closes seq) (Close seq) (closed_line seq)
  ends : (seq : ℕ) → Calls r (Ends seq) (Finish seq) (ended_line seq)
  polls : (to : List ℕ) → Calls r (Polls to) (Poll to) polled_line

-- what is said of a call that failed: why the node refuses it; another end is that of the service
abbrev pub said_failed : End → Result Said End
said_failed (Refused cause) = Ok (only (line_of (Refused cause)))
said_failed e = Err e

-- what is said of a call: its line where it is done
abbrev pub said_of : List ℕ → Result (List Out) End → Result Said End
said_of line (Ok outs) = Ok (record { text = line; outs = outs; is_stop = false })
said_of line (Err e) = said_failed e

-- memory was wanting
abbrev pub is_memory : End → Bool
is_memory Memory = true
is_memory e = false

-- what is said of what is read: its text, or why there is none
abbrev pub said_read : Result (List ℕ) End → Result Said End
said_read (Ok text) = Ok (only text)
said_read (Err e) = said_failed e

-- What an application is told of what it asks, at a moment, at a node that has stored this, and the calls that are made
-- for it. What isn't understood is answered so. Where another number comes next than the one that a payload should
-- have, nothing is done. Where memory is wanting for a text, the calls are made all the same, or none is.
pub data Tells (moment : ℕ) (s : Stored) : Result Ask End → List Step → Result Said End → Type 0 where
  stops : Tells moment s (Ok Stops) [] (Ok (record { text = stopping_line; outs = []; is_stop = true }))
  unread : (e : End) → is_memory e ≡ false → Tells moment s (Err e) [] (Ok (only (line_of e)))
  views : (ask : Ask) (answer : Result (List ℕ) End) → read_answer moment s ask ≡ Some answer
      → Tells moment s (Ok ask) [] (said_read answer)
  called : (ask : Ask) (asked : Asked) (line : List ℕ) (result : Result (List Out) End)
      → Calls s.records ask asked line → IfErr result (λ e. is_of_call e ≡ true)
      → Tells moment s (Ok ask) (own_step moment asked result ∷ []) (said_of line result)
  waits : (to payload : List ℕ) (next : Option Next) (seq : ℕ) → IsFirstTo s.records to (Some seq)
      → is_open (outgoing_in s.records seq) ≡ false
      → Tells moment s (Ok (Offers to next payload)) [] (Ok (only (opening_line seq)))
  passes : (to payload : List ℕ) (next : Option Next) (seq : ℕ) → IsFirstTo s.records to (Some seq)
      → is_open (outgoing_in s.records seq) ≡ true → is_under seq (next_number s.records seq) next ≡ false
      → Tells moment s (Ok (Offers to next payload)) [] (Ok (only (next_line seq (next_number s.records seq))))
  starves : (ask : Result Ask End) → Tells moment s ask [] (Err Memory)
  lacks : (ask : Result Ask End) (steps : List Step) (said : Result Said End) → Tells moment s ask steps said
      → Tells moment s ask steps (Err Memory)

-- what is handed out once the text was written, or wasn't: a connection of the application that failed is no end
abbrev pub outs_after : List Out → Result (Unit {0}) SinkError → Result (List Out) End
outs_after outs (Err sink.Memory) = Err Memory
outs_after outs written = Ok outs

-- the text is written
abbrev pub Answers : Stream → Stream → Result Said End → Result (List Out) End → Type 0
Answers old new (Ok said) result =
    (written : Result (Unit {0}) SinkError) × Writes true old new said.text written
    × (result ≡ outs_after said.outs written)
Answers old new (Err e) result = (new ≡ old) × (result ≡ Err e)

-- the node was asked to stop
abbrev pub is_stop_in : Result Said End → Bool
is_stop_in (Ok said) = said.is_stop
is_stop_in (Err e) = false

-- A request of the application is read, what it asks done, and the text of it written: it asks that the node stops, or
-- it doesn't. Where it could not be read nothing is done.
pub data Talks (moment : ℕ) (s : Stored) (old new : Stream) : List Step → Result (List Out) End → Bool → Type 0
  where
    lost : new.held ≡ old.held → Talks moment s old new [] (Ok []) false
    starved : new.held ≡ old.held → Talks moment s old new [] (Err Memory) false
    long : (mid : Stream) (steps : List Step) (said : Result Said End) (result : Result (List Out) End)
        → mid.held ≡ old.held → Tells moment s (Err TooLong) steps said → Answers mid new said result
        → Talks moment s old new steps result (is_stop_in said)
    talks : (mid : Stream) (bytes : List ℕ) (ask : Result Ask End) (steps : List Step) (said : Result Said End)
        (result : Result (List Out) End)
        → mid.held ≡ old.held → IfSome old.left (λ (all : List ℕ). bytes ≡ all) → AsksFor bytes ask
        → Tells moment s ask steps said → Answers mid new said result
        → Talks moment s old new steps result (is_stop_in said)

-- ---- a turn

-- What a node does of what came, at a moment that its clock shows: these calls, and this is handed out. It goes on, or
-- was asked to stop.
pub data Acts (shown : Option ℕ) (s : Stored) : Did → List Step → Result (List Out) End → Bool
    → Type 0 where
  rests : (moment : ℕ) (result : Result (List Out) End) → IsShown shown moment
      → IfErr result (λ e. is_of_call e ≡ true)
      → Acts shown s Rested (own_step moment (Tick moment) result ∷ []) result false
  serves : (moment : ℕ) (old new : Stream) (steps : List Step) (came : Result Served NodeError) → IsShown shown moment
      → Serving moment old new steps came
      → Acts shown s (ServedPeer old new) steps (served_outs came) false
  takes : (moment : ℕ) (body : List ℕ) (steps : List Step) (result : Result (List Out) End) → IsShown shown moment
      → Takes moment body steps result
      → Acts shown s (Took body) steps result false
  tells : (moment : ℕ) (old new : Stream) (steps : List Step) (result : Result (List Out) End) (stop : Bool)
      → IsShown shown moment → Talks moment s old new steps result stop
      → Acts shown s (Told old new) steps result stop

-- a packet as the traffic takes it
abbrev pub packet_of : Out → Packet
packet_of out = record { address = out.address; bytes = out.bytes }

-- all of them
abbrev pub packed : List Out → List Packet
packed outs = map packet_of outs

-- what is given back of what is handed out: all of it; or memory was wanting for that
abbrev pub IsPacked : Result (List Out) End → Result (List Packet) End → Type 0
IsPacked (Ok outs) result = (result ≡ Ok (packed outs)) ⊎ (result ≡ Err Memory)
IsPacked (Err e) result = result ≡ Err e

-- a node between two turns: its disk and what it knows, the moment that its clock shows, and whether it was asked to
-- stop
pub record State : Type 0 where
  pub place : Place
  pub shown : Option ℕ
  pub stopped : Bool

-- by what its disk and its clock tell
abbrev pub state_of : {D C : Type 0} → (D → Disked) → (C → Option ℕ) → Station D C → State
state_of told next s = record {
  place = place_of (told s.disk) s.node;
  shown = next s.clock;
  stopped = s.is_stopped;
}

-- One turn of a node: it makes these calls, one after the other, each by the protocol, and gives back what they hand
-- out.
pub record Works (tells : Bool) (x z : State) (did : Did) (result : Result (List Packet) End) : Type 0 where
  pub steps : List Step
  pub outs : Result (List Out) End
  pub stop : Bool
  pub makes : MakesAll tells x.place z.place steps
  pub acts : Acts x.shown x.place.node.stored did steps outs stop
  pub packs : IsPacked outs result
  pub stopped : z.stopped ≡ (stop || x.stopped)
  pub clock : StandsAt x.shown z.shown

-- ---- inside

-- a call was done, or refused by a node that goes on
abbrev pub is_outlived : {T : Type 0} → Result T End → Bool
is_outlived (Ok value) = true
is_outlived (Err e) = is_refusal e
