-- A call of a node, whatever is asked.
use Rattle.std.proofs.Common.{◌≡◌, ◌∙◌, ℕ, Bool, false, List, Result, Ok, Err, refl, sym, ap, subst}
use Rattle.std.specs.Prelude.{IsTrue}
use Rattle.rm_base.specs.declared.failures.Memory.{Memory}
use Rattle.rm_disk.specs.Call.{Call as DeviceCall}
use Rattle.rm_disk.specs.Told.{Told}
use Rattle.rm_disk.specs.Journal.JournalState.{end_of as journal_end}
use Rattle.record_batch.specs.Fact.{Fact}
use Rattle.rm_protocol.specs.Calls.{Cause, NoSequence, WrongSide, PayloadTooLong, BadPayload, NotOpen, WindowFull}
use Rattle.rm_protocol.specs.Calls.{NodeFull, Rollover, TooManySequences, StoreFull, PastInbox, Outcome, Done, Judged}
use Rattle.rm_protocol.specs.Calls.{Refused as RefusedWith, receive}
use Rattle.rm_protocol.specs.Delivered.{IsWriting}
use Rattle.rm_protocol.specs.Node.{Node, State, Up, Writing, Compacting, node_end, records, records_in}
use Rattle.rm_protocol.specs.Polls.{polled_after}
use Rattle.rm_protocol.specs.Terms.{Terms}
use Rattle.node_laws.specs.Keeps.{EachIsByTheRules, PollsByTheRules, SaysByTheRules, WaitByTheRules}
use Rattle.node_laws.specs.OwnTerms.{AreOwn}
use Rattle.node_laws.specs.Records.{IsKept}
use Rattle.rm_node.specs.Asked.{Asked, Asks, Create, Send, Close, End, AskAck, NackMissing, Consume, Poll, Tick}
use Rattle.rm_node.specs.Asked.{Receive}
use Rattle.rm_node.specs.Asked.{MayBeAsked, answer_to, is_connected}
use Rattle.rm_node.specs.Called.{Does, answer_of as node_answer}
use Rattle.rm_node.specs.CameLemmas.{ReadsRight, RefusesRight}
use Rattle.rm_node.specs.Ends.{Ended, Handed, Refused, Wanted, Broke, WasDown, is_broken}
use Rattle.rm_node.specs.Keeping.{Keeping, Keeps}
use Rattle.rm_node.specs.Noded.{Noded, Runs}
use Rattle.rm_node.specs.Packets.{IsReplyFirst}
use Rattle.rm_node.specs.declared.call.Call.{Call}
use Rattle.rm_node.specs.declared.call.Call.TheVariants as call
use Rattle.node_store.specs.Stored.{Stored}
use Rattle.rm_replay.specs.Actor.Actored.{Actored}
use Rattle.rm_replay.specs.Actor.AnswerLemmas.{of_each}
use Rattle.rm_replay.specs.Actor.Comes.{ComesOut, ComesOutAs}
use Rattle.rm_replay.specs.declared.actor.actor.Came.{Came}
use Rattle.rm_replay.specs.Actor.Outcomes.{answer_told, ends_by_disk, is_disk, is_disk_outcome, refusal_told}
use Rattle.rm_script.specs.declared.report.line.Outcome.{Outcome as Outcomes}
use Rattle.rm_replay.specs.Actor.Stands.{Acts, Stands, StandsBy, kept_of}
use Rattle.rm_replay.specs.Actor.Steps.{answer_of, clock_after, clock_of, clocked}
use Rattle.rm_replay.proofs.ActorLemmas.ActLemmas.{EndsThere, actored, acts, clock_is, sleeps_down}
use Rattle.rm_replay.proofs.ActorLemmas.QuietLemmas.{IsQuiet, quiet_ask, quiet_close, quiet_consume, quiet_create}
use Rattle.rm_replay.proofs.ActorLemmas.QuietLemmas.{quiet_end}
use Rattle.rm_replay.proofs.ActorLemmas.QuietLemmas.{quiet_nack, quiet_poll, quiet_polls, quiet_receive, quiet_send}
use Rattle.rm_replay.proofs.ActorLemmas.QuietLemmas.{quiet_tick}

-- ---- what is told as a failure of the disk

no_cause : (cause : Cause) → is_disk_outcome (refusal_told cause) ≡ false
no_cause NoSequence = refl
no_cause WrongSide = refl
no_cause (PayloadTooLong length) = refl
no_cause BadPayload = refl
no_cause NotOpen = refl
no_cause (WindowFull unacked) = refl
no_cause (NodeFull unacked) = refl
no_cause Rollover = refl
no_cause (TooManySequences count) = refl
no_cause (StoreFull end needed) = refl
no_cause (PastInbox have) = refl

no_answer : (outcome : Outcome) → is_disk_outcome (answer_told outcome) ≡ false
no_answer Done = refl
no_answer (RefusedWith cause) = no_cause cause
no_answer (Judged fault) = refl

-- only a failure of the disk
pub disk_told : (ended : Ended) (r : Result Came Memory) → ComesOut ended r → is_broken ended ≡ is_disk r
disk_told (Handed outcome reply outs) (Ok came) is = sym (ap is_disk_outcome is.came_out ∙ no_answer outcome)
disk_told (Handed outcome reply outs) (Err memory) is = absurd is
disk_told (Refused cause) (Ok came) is = sym (ap is_disk_outcome is.came_out ∙ no_cause cause)
disk_told (Refused cause) (Err memory) is = absurd is
disk_told Wanted (Ok came) is = absurd is
disk_told Wanted (Err memory) is = refl
disk_told Broke (Ok came) is = sym (ap is_disk_outcome is.came_out)
disk_told Broke (Err memory) is = absurd is
disk_told WasDown (Ok came) is = sym (ap is_disk_outcome is.came_out)
disk_told WasDown (Err memory) is = absurd is

-- so of a call of which nothing leaves the node
pub disk_told_alone : (ended : Ended) (r : Result Outcomes Memory) → ComesOutAs ended r
    → is_broken ended ≡ ends_by_disk r
disk_told_alone (Handed outcome reply outs) (Ok came) is = sym (ap is_disk_outcome is ∙ no_answer outcome)
disk_told_alone (Handed outcome reply outs) (Err memory) is = absurd is
disk_told_alone (Refused cause) (Ok came) is = sym (ap is_disk_outcome is ∙ no_cause cause)
disk_told_alone (Refused cause) (Err memory) is = absurd is
disk_told_alone Wanted (Ok came) is = absurd is
disk_told_alone Wanted (Err memory) is = refl
disk_told_alone Broke (Ok came) is = sym (ap is_disk_outcome is)
disk_told_alone Broke (Err memory) is = absurd is
disk_told_alone WasDown (Ok came) is = sym (ap is_disk_outcome is)
disk_told_alone WasDown (Err memory) is = absurd is

-- ---- what is asked

quiet_asked : (terms : Terms) (now : ℕ) (kept : Keeping) (asked : Asked) (r : List Fact) (place : ℕ)
    → IsQuiet (answer_to terms r place now kept asked)
quiet_asked terms now kept (Create wish) r place = quiet_create terms wish r place
quiet_asked terms now kept (Send seq payload) r place = quiet_send terms seq payload r place
quiet_asked terms now kept (Close seq) r place = quiet_close terms seq now r place
quiet_asked terms now kept (End seq) r place = quiet_end terms seq r place
quiet_asked terms now kept (AskAck seq) r place = quiet_ask seq r
quiet_asked terms now kept (NackMissing seq) r place = quiet_nack seq now r
quiet_asked terms now kept (Consume seq upto) r place = quiet_consume terms seq upto r place
quiet_asked terms now kept (Tick moment) r place = quiet_tick terms moment kept.time kept.waits r place
quiet_asked terms now kept (Poll to) r place = quiet_poll to r
quiet_asked terms now kept (Receive content) r place =
    quiet_polls kept.polled content (receive terms r place now kept.granted content)
    (quiet_receive terms now kept.granted content r place)

-- the clock of the code's node is that of the protocol's
clock_stands : (this : Call) (x : Node) (now : Told) (a : Actored) → Stands x now a
    → clock_after this a ≡ clock_of this x
clock_stands (call.Create wish) x now a s = s.clock
clock_stands (call.Send seq payload) x now a s = s.clock
clock_stands (call.Close seq) x now a s = s.clock
clock_stands (call.End seq) x now a s = s.clock
clock_stands (call.AskAck seq) x now a s = s.clock
clock_stands (call.NackMissing seq) x now a s = s.clock
clock_stands (call.Consume seq upto) x now a s = s.clock
clock_stands (call.Tick moment) x now a s =
    clock_is x.state x.entries now.past a.node.stored a.clock x.clock moment s.disk s.clock
clock_stands (call.Poll to) x now a s = s.clock
clock_stands (call.Receive bytes) x now a s = s.clock

pub clocked_stands : (this : Call) (x : Node) (now : Told) (a : Actored) → Stands x now a
    → Stands (clocked this x) now (actored a.node (clock_after this a))
clocked_stands this x now a s = record {
  disk = s.disk;
  start = s.start;
  fuse = s.fuse;
  granted = s.granted;
  kept = s.kept;
  rules = s.rules;
  clock = clock_stands this x now a s;
}

-- ---- what waits

kept_by : (st : State) (entries : List (List Fact)) (past : List DeviceCall) (stored : Stored)
    → StandsBy st entries past stored → IsKept (records_in entries)
kept_by Up entries past stored awake = awake.has.are.kept
kept_by (Writing delta) entries past stored asleep = asleep.are.kept
kept_by (Compacting start) entries past stored asleep = asleep.are.kept

-- what is said keeps the rules of what is written, and so does what waits then
pub record ByTheRules : Type 0 where
  pub reads : ReadsRight
  pub refuses : RefusesRight
  pub each : EachIsByTheRules
  pub polls : PollsByTheRules

wait_asked : ByTheRules → (terms : Terms) → AreOwn terms → (this : Call) (x : Node) (asked : Asked) (now : Told)
    (a : Actored) → Stands x now a → MayBeAsked this → Asks this asked
    → WaitByTheRules (polled_after x.polled (answer_of terms x asked))
wait_asked by terms own this x asked now a s may is =
    let of = kept_by x.state x.entries now.past a.node.stored s.disk in
    by.polls.waits x.polled (answer_of terms x asked) s.rules
    (of_each by.reads by.refuses SaysByTheRules terms (records x) (node_end terms x) x.clock (kept_of x) this
    asked (by.each terms (records x) (node_end terms x) own of) (by.polls.beside x.polled) may is)

-- ---- a call

-- of all that a call says, the reply comes first
abbrev pub ReplyFirst : Type 0
ReplyFirst =
    (terms : Terms) (r : List Fact) (place now : ℕ) (kept : Keeping) (call : Call) (asked : Asked)
    → Asks call asked → IsReplyFirst (is_connected call) (answer_to terms r place now kept asked)

pub acted : (terms : Terms) (tells : Bool) (this : Call) (x : Node) (asked : Asked) (first now : Told) (old : Actored)
    (new : Noded) (ended : Ended) (r : Result Came Memory) → ByTheRules → AreOwn terms → EndsThere terms
    → IsTrue tells → Stands x first old → ReplyFirst → MayBeAsked this → Asks this asked → Runs old.node
    → ((kept : Keeping) → Keeps old.node.kept kept → Does tells (is_connected this) first now old.node new
    (node_answer terms old.node old.clock kept asked) ended)
    → ComesOut ended r
    → Acts (is_connected this) (clocked this x) (answer_of terms x asked) now
    (actored new (clock_after this old)) r
acted terms tells this x asked first now old new ended r by own ends t s order may asks runs does is =
    acts terms tells (is_connected this) (clocked this x)
    (λ r place. answer_to terms r place x.clock (kept_of x) asked) first now
    (actored old.node (clock_after this old)) new ended r ends t (clocked_stands this x first old s) runs
    (λ (up : x.state ≡ Up). subst (λ (m : ℕ). Does tells (is_connected this) first now old.node new
    (answer_to terms old.node.stored.records (journal_end old.node.stored.journal) m (kept_of x) asked) ended) s.clock
    (does (kept_of x) (s.kept up)))
    (λ (down : IsWriting x.state). sleeps_down tells (is_connected this) x
    (node_answer terms old.node old.clock runs.keeping.0 asked) first now old new ended s down
    (does runs.keeping.0 runs.keeping.1))
    (quiet_asked terms x.clock (kept_of x) asked (records x) (node_end terms x))
    (wait_asked by terms own this x asked first old s may asks)
    (order terms (records x) (node_end terms x) x.clock (kept_of x) this asked asks) is

-- the clock is as it was
pub still : (this : Call) (x : Node) (now : Told) (new : Noded) (old clock : ℕ)
    → Stands (clocked this x) now (actored new clock) → old ≡ x.clock → Stands x now (actored new old)
still this x now new old clock s e =
    record {
      disk = s.disk;
      start = s.start;
      fuse = s.fuse;
      granted = s.granted;
      kept = s.kept;
      rules = s.rules;
      clock = e;
    }
