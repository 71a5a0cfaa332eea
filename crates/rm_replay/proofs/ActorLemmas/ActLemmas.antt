-- A call of a node, and the protocol's.
use Rattle.std.proofs.Common.{◌≡◌, ◌∙◌, ◌≤◌, ◌-◌, ◌++◌, ℕ, Bool, true, false, cond, List, [], map}
use Rattle.std.proofs.Common.{◌∷◌, length, Option, Some, None, Result, Ok, Err, refl, sym, ap, ap₂, subst, inl, inr}
use Rattle.std.proofs.Common.{arith}
use Rattle.std.specs.Prelude.{IsTrue, MatchBool}
use Rattle.std.proofs.lemmas.Bool.{ltb-true, ltb-false, le-leb, lt-leb}
use Rattle.std.proofs.lemmas.List.{length-map}
use Rattle.record_batch.specs.Batch.{batch_text}
use Rattle.record_batch.specs.Fact.{Fact}
use Rattle.rm_base.specs.declared.failures.Memory.{Memory}
use Rattle.rm_disk.specs.Call.{Call}
use Rattle.rm_disk.specs.Fuse.{Burns}
use Rattle.rm_disk.specs.ImageLemmas.{left_now}
use Rattle.rm_disk.specs.Journal.Entries.{Bank}
use Rattle.rm_disk.specs.Journal.EntryLemmas.{length-gates_from}
use Rattle.rm_disk.specs.Journal.JournalState.{end_of as journal_end}
use Rattle.rm_message.specs.declared.message.Message.{Message}
use Rattle.record_batch.specs.Sequences.Words.{Text}
use Rattle.rm_protocol.specs.Calls.{Answer, Cause, Fetched, Outcome}
use Rattle.rm_protocol.specs.Exact.{AreExactly}
use Rattle.rm_protocol.specs.Delivered.{IsWriting}
use Rattle.rm_protocol.specs.Node.{Node, State, Up, Writing, Compacting, Answered, DiskFault, IsDown, after_by, burned}
use Rattle.rm_protocol.specs.Node.{end_of, goes_down, node_end}
use Rattle.rm_protocol.specs.Node.{fetched_by, fetched_message, is_short, outcome_by, outcome_with, polled_with}
use Rattle.rm_protocol.specs.Node.{records, said_by, said_with}
use Rattle.rm_protocol.specs.Node.{with_batch as grows, with_moves, written}
use Rattle.rm_protocol.specs.Polls.{polled_after}
use Rattle.rm_protocol.specs.Terms.{Terms}
use Rattle.rm_protocol.specs.World.{clock_by}
use Rattle.rm_disk.specs.Told.{Told}
use Rattle.node_laws.specs.Keeps.{WaitByTheRules}
use Rattle.node_store.specs.Changes.{BurnsFor, Changes}
use Rattle.node_store.specs.Has.{AreOfNode, Holds, IsLeftBy, entries_of}
use Rattle.node_store.specs.Stored.{Stored, broken, grown, with_batch}
use Rattle.rm_node.specs.Called.{Called, Does, Sleeps}
use Rattle.rm_node.specs.declared.packets.Out.{Out}
use Rattle.rm_node.specs.Ends.{Ended, Handed, Refused, Wanted, Broke, WasDown}
use Rattle.rm_node.specs.Keeping.{Keeping, Keeps, kept_after}
use Rattle.rm_node.specs.Noded.{Noded, Runs}
use Rattle.rm_node.specs.declared.kept.Kept.{Kept}
use Rattle.rm_node.specs.Packets.{IsReplyFirst, fetched_packet, left_packets, packets_of, reply_of, reply_packet}
use Rattle.rm_script.specs.declared.report.line.Outcome.TheVariants as told
use Rattle.rm_replay.specs.Actor.Actored.{Actored}
use Rattle.rm_replay.specs.Actor.Comes.{ComesOut, IsTold}
use Rattle.rm_replay.specs.declared.actor.actor.Came.{Came}
use Rattle.rm_replay.specs.Actor.Outcomes.{answer_told, back_packet, call_told, left_of, packets_in, refusal_told}
use Rattle.rm_replay.specs.Actor.Stands.{Acted, Acts, Awake, Stands, StandsBy, kept_of}
use Rattle.rm_replay.proofs.ActorLemmas.KeptLemmas.{quiet-kept}
use Rattle.rm_replay.proofs.ActorLemmas.QuietLemmas.{IsQuiet, quiet_is, silent}

-- a node and a clock
abbrev pub actored : Noded → ℕ → Actored
actored node clock = record { node = node; clock = clock }

-- ---- fuses

pub burns_well : (count : ℕ) (fuse now : Option ℕ) → Burns count fuse now true
    → (is_short count fuse ≡ false) × (now ≡ burned count fuse)
burns_well count None now burns = (refl, burns.left)
burns_well count (Some n) now burns = (lt-leb n count (ltb-true count n (sym burns.well)), burns.left)

pub burns_short : (count : ℕ) (fuse now : Option ℕ) → Burns count fuse now false
    → (is_short count fuse ≡ true) × (now ≡ Some 0)
burns_short count None now burns = let e : false ≡ true = burns.well in absurd cc
burns_short count (Some n) now burns =
    let most : n ≤ count = ltb-false count n (sym burns.well) in
    let none : n - count ≡ 0 = omega (arith, most) in
    (le-leb n count most, burns.left ∙ ap (λ (k : ℕ). Some k) none)

-- ---- a node that is up

pub awake_of : (x : Node) (now : Told) (a : Actored) → Stands x now a → x.state ≡ Up
    → Awake x.entries now.past a.node.stored
awake_of x now a s up = subst (λ (st : State). StandsBy st x.entries now.past a.node.stored) up s.disk

pub down_of : (st : State) (entries : List (List Fact)) (past : List Call) (stored : Stored) → IsWriting st
    → StandsBy st entries past stored → stored.journal.is_down ≡ true
down_of Up entries past stored writing awake = absurd writing
down_of (Writing delta) entries past stored writing asleep = asleep.down
down_of (Compacting start) entries past stored writing asleep = asleep.down

-- nothing changed
pub unchanged : (x : Node) (first now : Told) (old : Actored) (new : Noded) → Stands x first old
    → new.kept ≡ old.node.kept → new.stored ≡ old.node.stored → now ≡ first
    → Stands x now (actored new old.clock)
unchanged x first now old new s kept stored same = record {
  disk = subst (λ (t : Told). StandsBy x.state x.entries t.past new.stored) (sym same)
      (subst (λ (st : Stored). StandsBy x.state x.entries first.past st) (sym stored) s.disk);
  start = ap (λ (st : Stored). st.journal.bank.start) stored ∙ s.start;
  fuse = ap (λ (t : Told). t.fuse) same ∙ s.fuse;
  granted = ap (λ (k : Kept). k.granted) kept ∙ s.granted;
  kept = λ up. subst (λ (k : Kept). Keeps k (kept_of x)) (sym kept) (s.kept up);
  rules = s.rules;
  clock = s.clock;
}

-- all went well with a batch
abbrev pub WentWell : Option ℕ → List Fact → Type 0
WentWell fuse [] = Unit {0}
WentWell fuse (f ∷ delta) = is_short 4 fuse ≡ false

went_well : (x : Node) (delta : List Fact) (first now : Told) → first.fuse ≡ x.fuse
    → BurnsFor delta first.fuse now.fuse true → WentWell x.fuse delta
went_well x [] first now e burns = tt
went_well x (f ∷ delta) first now e burns =
    ap (λ (fuse : Option ℕ). is_short 4 fuse) (sym e) ∙ (burns_well 4 first.fuse now.fuse burns).0

outcome_well : (fuse : Option ℕ) (delta : List Fact) (outcome : Outcome) → WentWell fuse delta
    → answer_told outcome ≡ call_told (outcome_with fuse delta outcome)
outcome_well fuse [] outcome well = refl
outcome_well fuse (f ∷ delta) outcome well =
    ap (λ (b : Bool). call_told (cond b DiskFault (Answered outcome))) (sym well)

said_well : (fuse : Option ℕ) (delta : List Fact) (outs : List Message) → WentWell fuse delta
    → outs ≡ said_with fuse delta outs
said_well fuse [] outs well = refl
said_well fuse (f ∷ delta) outs well = ap (λ (b : Bool). cond b [] outs) (sym well)

fetched_as : (t : Option Fetched) → fetched_packet t ≡ map back_packet (fetched_message t)
fetched_as None = refl
fetched_as (Some t) = refl

left_well : (connected : Bool) (x : Node) (answer : Answer) → WentWell x.fuse answer.delta
    → left_packets connected answer ≡ left_of connected (fetched_by x Up answer) (said_by x Up answer)
left_well connected x answer well =
    ap (λ (os : List Out). os ++ packets_of connected answer.outs) (fetched_as answer.fetched)
    ∙ ap₂ (λ (fetched said : List Message). left_of connected fetched said)
    (said_well x.fuse answer.delta (fetched_message answer.fetched) well)
    (said_well x.fuse answer.delta answer.outs well)

-- a node after these records of an answer
abbrev after_with : Node → Answer → List Fact → Node
after_with x answer delta =
    with_moves x answer
    (record (written x delta) { polled = polled_with x.fuse delta x.polled (polled_after x.polled answer) })

-- what it keeps after a call that went well
abbrev moved_of : Node → Answer → Keeping
moved_of x answer = kept_after (records x) answer (kept_of x)

-- a node after records, where a device call failed or didn't
abbrev after_short : Node → Answer → List Fact → Bool → Node
after_short x answer delta short =
    with_moves x answer
    (record (cond short (goes_down x delta) (grows x delta)) {
      polled = cond short x.polled (polled_after x.polled answer);
    })

-- a batch was written, unless it is empty
written_well : (x : Node) (answer : Answer) (delta : List Fact) (first now : Told) (old : Actored) (new : Noded)
    → Stands x first old → x.state ≡ Up → Keeps new.kept (moved_of x answer)
    → Changes first now old.node.stored new.stored delta true false
    → new.stored.journal.bank ≡ old.node.stored.journal.bank
    → new.stored.journal.is_down ≡ old.node.stored.journal.is_down → AreOfNode (with_batch x.entries delta)
    → WaitByTheRules (polled_after x.polled answer) → Stands (after_with x answer delta) now (actored new old.clock)
written_well x answer [] first now old new s up kept changes at same next rules =
    let awake = awake_of x first old s up in record {
      disk = subst (λ (st : State). StandsBy st x.entries now.past new.stored) (sym up) (record {
        up = same ∙ awake.up;
        has = record { holds = changes.holds x.entries awake.has.holds refl; are = next };
      });
      start = ap (λ (b : Bank). b.start) at ∙ s.start;
      fuse = (changes.fuse (inl refl)).0 ∙ s.fuse;
      granted = kept.granted;
      kept = λ still. kept;
      rules = rules;
      clock = s.clock;
    }
written_well x answer (f ∷ delta) first now old new s up kept changes at same next rules =
    let awake = awake_of x first old s up in
    let burns = burns_well 4 first.fuse now.fuse (changes.fuse (inl refl)) in
    let well : is_short 4 x.fuse ≡ false = ap (λ (fuse : Option ℕ). is_short 4 fuse) (sym s.fuse) ∙ burns.0 in
    subst (λ (b : Bool). Stands (after_short x answer (f ∷ delta) b) now (actored new old.clock)) (sym well) (record {
      disk = subst (λ (st : State). StandsBy st (x.entries ++ (f ∷ delta) ∷ []) now.past new.stored) (sym up)
          (record {
            up = same ∙ awake.up;
            has = record { holds = changes.holds x.entries awake.has.holds refl; are = next };
          });
      start = ap (λ (b : Bank). b.start) at ∙ s.start;
      fuse = burns.1 ∙ ap (λ (fuse : Option ℕ). burned 4 fuse) s.fuse;
      granted = kept.granted;
      kept = λ still. kept;
      rules = rules;
      clock = s.clock;
    })

pub count_of : (x : Node) (past : List Call) (stored : Stored) → Awake x.entries past stored
    → length stored.journal.gates ≡ length x.entries
count_of x past stored awake =
    ap (λ (l : List ℕ). length l) awake.has.holds.journal.gates
    ∙ length-gates_from stored.journal.bank.start (entries_of x.entries)
    ∙ length-map x.entries batch_text

-- the disk failed
fell : (x : Node) (answer : Answer) (delta : List Fact) (first now : Told) (old : Actored) (new : Noded)
    → Stands x first old → x.state ≡ Up → new.kept.granted ≡ x.granted
    → Changes first now old.node.stored new.stored delta false true
    → new.stored ≡ broken old.node.stored → AreOfNode (with_batch x.entries delta) → now.fuse ≡ Some 0
    → Stands (with_moves x answer (goes_down x delta)) now (actored new old.clock)
fell x answer delta first now old new s up granted changes is next spent =
    let awake = awake_of x first old s up in record {
      disk = record {
        down = ap (λ (st : Stored). st.journal.is_down) is;
        images = λ bytes may. subst (λ (st : Stored). IsLeftBy st.journal.bank x.entries delta bytes) (sym is)
            ((changes.moments x.entries awake.has.holds).each bytes
            (left_now now.past (length first.past) bytes may));
        are = awake.has.are;
        next = next;
        count = ap (λ (st : Stored). length st.journal.gates) is ∙ count_of x first.past old.node.stored awake;
      };
      start = ap (λ (st : Stored). st.journal.bank.start) is ∙ s.start;
      fuse = spent;
      granted = granted;
      kept = λ (still : Writing delta ≡ Up). absurd cc;
      rules = s.rules;
      clock = s.clock;
    }

-- ---- how a call of a node that is up ended

-- nothing left the node
nothing_left : (came : Came) → came.reply ≡ None → came.outs ≡ [] → packets_in came ≡ []
nothing_left came back out =
    ap (λ (r : Option Text). reply_packet r ++ came.outs) back ∙ out

-- by what comes of its records
by_state : (connected : Bool) (x : Node) (answer : Answer) (now : Told) (a : Actored) (came : Came) → x.state ≡ Up
    → Stands (after_by x Up answer) now a → came.outcome ≡ call_told (outcome_by x Up answer)
    → packets_in came ≡ left_of connected (fetched_by x Up answer) (said_by x Up answer)
    → Acted connected x answer now a came
by_state connected x answer now a came up stands outcome outs = record {
  stands = subst (λ (st : State). Stands (after_by x st answer) now a) (sym up) stands;
  outcome = outcome ∙ ap (λ (st : State). call_told (outcome_by x st answer)) (sym up);
  outs = outs ∙ ap (λ (st : State). left_of connected (fetched_by x st answer) (said_by x st answer)) (sym up);
}

bank_grown : (old : Stored) (delta : List Fact) → (grown old delta).journal.bank ≡ old.journal.bank
bank_grown old [] = refl
bank_grown old (f ∷ delta) = refl

down_grown : (old : Stored) (delta : List Fact) → (grown old delta).journal.is_down ≡ old.journal.is_down
down_grown old [] = refl
down_grown old (f ∷ delta) = refl

handed : (tells connected : Bool) (x : Node) (answer : Answer) (first now : Told) (old : Actored) (new : Noded)
    (outcome : Outcome) (reply : Option Text) (outs : List Out) (came : Came) → IsTrue tells → Stands x first old
    → x.state ≡ Up → Called tells connected first now old.node new answer (Handed outcome reply outs)
    → WaitByTheRules (polled_after x.polled answer) → IsReplyFirst connected answer
    → IsTold (answer_told outcome) reply outs came → Acted connected x answer now (actored new old.clock) came
handed tells connected x answer first now old new outcome reply outs came t s up called rules order is =
    let awake = awake_of x first old s up in
    let changes = called.wrote.changes t in
    let well = went_well x answer.delta first now s.fuse (changes.fuse (inl refl)) in
    let kept = subst (λ (r : List Fact). Keeps new.kept (kept_after r answer (kept_of x)))
    awake.has.holds.records (called.wrote.kept (kept_of x) (s.kept up)) in
    by_state connected x answer now (actored new old.clock) came up
    (written_well x answer answer.delta first now old new s up kept changes
    (ap (λ (st : Stored). st.journal.bank) called.wrote.stored ∙ bank_grown old.node.stored answer.delta)
    (ap (λ (st : Stored). st.journal.is_down) called.wrote.stored ∙ down_grown old.node.stored answer.delta)
    (called.next t (inl refl) x.entries awake.has) rules)
    (is.came_out ∙ ap answer_told called.ends.0 ∙ outcome_well x.fuse answer.delta answer.outcome well)
    (ap (λ (r : Option Text). reply_packet r ++ came.outs) (is.back ∙ called.ends.1)
    ∙ ap (λ (os : List Out). reply_packet (reply_of connected answer) ++ os) (is.out ∙ called.ends.2) ∙ order
    ∙ left_well connected x answer well)

-- a refusal moves no key, as all keys that wait do so by the records
refused_stands : (x : Node) (outcome : Outcome) (first now : Told) (old : Actored) (new : Noded) → Stands x first old
    → x.state ≡ Up → AreExactly (records x) x.waits → new.kept ≡ old.node.kept → new.stored ≡ old.node.stored
    → now ≡ first → Stands (after_by x Up (silent outcome)) now (actored new old.clock)
refused_stands x outcome first now old new s up exact kept stored same =
    let as_before = unchanged x first now old new s kept stored same in
    let moved : Keeps new.kept (moved_of x (silent outcome)) =
    subst (Keeps new.kept) (sym (quiet-kept (records x) outcome (kept_of x) exact)) (as_before.kept up) in
    record {
      disk = as_before.disk;
      start = as_before.start;
      fuse = as_before.fuse;
      granted = as_before.granted;
      kept = λ still. moved;
      rules = s.rules;
      clock = as_before.clock;
    }

refused : (tells connected : Bool) (x : Node) (answer : Answer) (first now : Told) (old : Actored) (new : Noded)
    (cause : Cause) (came : Came) → IsTrue tells → Stands x first old → x.state ≡ Up → Runs old.node
    → Called tells connected first now old.node new answer (Refused cause) → IsQuiet answer
    → IsTold (refusal_told cause) None [] came → Acted connected x answer now (actored new old.clock) came
refused tells connected x answer first now old new cause came t s up runs called quiet is =
    let exact : AreExactly (records x) x.waits =
    subst (λ (r : List Fact). AreExactly r x.waits) (awake_of x first old s up).has.holds.records
    (runs.exact (kept_of x) (s.kept up)) in
    subst (λ (a : Answer). Acted connected x a now (actored new old.clock) came)
    (sym (quiet_is answer cause quiet called.ends))
    (by_state connected x (silent answer.outcome) now (actored new old.clock) came up
    (refused_stands x answer.outcome first now old new s up exact called.wrote.kept called.wrote.stored
    ((called.wrote.changes t).untouched refl refl))
    (is.came_out ∙ ap answer_told (sym called.ends)) (nothing_left came is.back is.out))

broke : (tells connected : Bool) (x : Node) (answer : Answer) (delta : List Fact) (first now : Told) (old : Actored)
    (new : Noded) (came : Came) → IsTrue tells → Stands x first old → x.state ≡ Up
    → Called tells connected first now old.node new (record answer { delta = delta }) Broke
    → IsTold told.Disk None [] came
    → Acted connected x (record answer { delta = delta }) now (actored new old.clock) came
broke tells connected x answer [] first now old new came t s up called is = absurd (called.ends refl)
broke tells connected x answer (f ∷ delta) first now old new came t s up called is =
    let whole : Answer = record answer { delta = f ∷ delta } in
    let awake = awake_of x first old s up in
    let changes = called.wrote.changes t in
    let burns = burns_short 4 first.fuse now.fuse (changes.fuse (inr refl)) in
    let short : is_short 4 x.fuse ≡ true = ap (λ (fuse : Option ℕ). is_short 4 fuse) (sym s.fuse) ∙ burns.0 in
    by_state connected x whole now (actored new old.clock) came up
    (subst (λ (b : Bool). Stands (after_short x whole (f ∷ delta) b) now (actored new old.clock)) (sym short)
    (fell x whole (f ∷ delta) first now old new s up
    (ap (λ (k : Kept). k.granted) called.wrote.kept ∙ s.granted) changes called.wrote.stored
    (called.next t (inr refl) x.entries awake.has) burns.1))
    (is.came_out ∙ ap (λ (b : Bool). call_told (cond b DiskFault (Answered answer.outcome))) (sym short))
    (nothing_left came is.back is.out
    ∙ ap (λ (b : Bool). left_of connected (cond b [] (fetched_message answer.fetched)) (cond b [] answer.outs))
    (sym short))

acts_up : (tells connected : Bool) (x : Node) (answer : Answer) (first now : Told) (old : Actored) (new : Noded)
    (ended : Ended) (r : Result Came Memory) → IsTrue tells → Stands x first old → x.state ≡ Up → Runs old.node
    → Called tells connected first now old.node new answer ended → IsQuiet answer
    → WaitByTheRules (polled_after x.polled answer) → IsReplyFirst connected answer → ComesOut ended r
    → Acts connected x answer now (actored new old.clock) r
acts_up tells connected x answer first now old new (Handed outcome reply outs) (Ok came) t s up runs called quiet rules
    order is =
    handed tells connected x answer first now old new outcome reply outs came t s up called rules order is
acts_up tells connected x answer first now old new (Handed outcome reply outs) (Err memory) t s up runs called quiet
    rules order is = absurd is
acts_up tells connected x answer first now old new (Refused cause) (Ok came) t s up runs called quiet rules order is =
    refused tells connected x answer first now old new cause came t s up runs called quiet is
acts_up tells connected x answer first now old new (Refused cause) (Err memory) t s up runs called quiet rules order
    is = absurd is
acts_up tells connected x answer first now old new Wanted (Ok came) t s up runs called quiet rules order is = absurd is
acts_up tells connected x answer first now old new Wanted (Err memory) t s up runs called quiet rules order is =
    unchanged x first now old new s called.wrote.kept called.wrote.stored
    ((called.wrote.changes t).untouched refl refl)
acts_up tells connected x answer first now old new Broke (Ok came) t s up runs called quiet rules order is =
    broke tells connected x answer answer.delta first now old new came t s up called is
acts_up tells connected x answer first now old new Broke (Err memory) t s up runs called quiet rules order is =
    absurd is
acts_up tells connected x answer first now old new WasDown r t s up runs called quiet rules order is =
    absurd called.ends

-- ---- a node that is down

after_down : (x : Node) (st : State) (answer : Answer) → IsWriting st → after_by x st answer ≡ x
after_down x Up answer writing = absurd writing
after_down x (Writing delta) answer writing = refl
after_down x (Compacting start) answer writing = refl

outcome_down : (x : Node) (st : State) (answer : Answer) → IsWriting st → outcome_by x st answer ≡ IsDown
outcome_down x Up answer writing = absurd writing
outcome_down x (Writing delta) answer writing = refl
outcome_down x (Compacting start) answer writing = refl

left_down : (connected : Bool) (x : Node) (st : State) (answer : Answer) → IsWriting st
    → left_of connected (fetched_by x st answer) (said_by x st answer) ≡ []
left_down connected x Up answer writing = absurd writing
left_down connected x (Writing delta) answer writing = refl
left_down connected x (Compacting start) answer writing = refl

acts_down : (connected : Bool) (x : Node) (answer : Answer) (first now : Told) (old : Actored)
    (new : Noded) (r : Result Came Memory) → Stands x first old → IsWriting x.state → new ≡ old.node
    → now ≡ first → ComesOut WasDown r → Acts connected x answer now (actored new old.clock) r
acts_down connected x answer first now old new (Ok came) s down node disk is = record {
  stands = subst (λ (y : Node). Stands y now (actored new old.clock)) (sym (after_down x x.state answer down))
      (unchanged x first now old new s (ap (λ (n : Noded). n.kept) node) (ap (λ (n : Noded). n.stored) node)
      disk);
  outcome = is.came_out ∙ ap call_told (sym (outcome_down x x.state answer down));
  outs = nothing_left came is.back is.out ∙ sym (left_down connected x x.state answer down);
}
acts_down connected x answer first now old new (Err memory) s down node disk is = absurd is

-- ---- a call

-- batches that begin where the journal's list does end where it does
abbrev pub EndsThere : Terms → Type 0
EndsThere terms =
    (batches : List (List Fact)) (past : List Call) (stored : Stored) → Holds batches past stored
    → end_of terms stored.journal.bank.start batches ≡ journal_end stored.journal

-- the answer that a call gets of the code's node is the one of the protocol's
same_answer : (terms : Terms) (x : Node) (f : List Fact → ℕ → Answer) (now : Told) (a : Actored) → EndsThere terms
    → Stands x now a → x.state ≡ Up
    → f a.node.stored.records (journal_end a.node.stored.journal) ≡ f (records x) (node_end terms x)
same_answer terms x f now a ends s up =
    let holds = (awake_of x now a s up).has.holds in
    ap (λ (r : List Fact). f r (journal_end a.node.stored.journal)) holds.records
    ∙ ap (λ (n : ℕ). f (records x) n) (sym (ends x.entries now.past a.node.stored holds))
    ∙ ap (λ (n : ℕ). f (records x) (end_of terms n x.entries)) s.start

-- a call whose answer is worked out of the records and their end
pub acts : (terms : Terms) (tells connected : Bool) (x : Node) (f : List Fact → ℕ → Answer) (first now : Told)
    (old : Actored) (new : Noded) (ended : Ended) (r : Result Came Memory) → EndsThere terms → IsTrue tells
    → Stands x first old → Runs old.node
    → (x.state ≡ Up → Does tells connected first now old.node new
    (f old.node.stored.records (journal_end old.node.stored.journal)) ended)
    → (IsWriting x.state → Sleeps first now old.node new ended)
    → IsQuiet (f (records x) (node_end terms x))
    → WaitByTheRules (polled_after x.polled (f (records x) (node_end terms x)))
    → IsReplyFirst connected (f (records x) (node_end terms x)) → ComesOut ended r
    → Acts connected x (f (records x) (node_end terms x)) now (actored new old.clock) r
acts terms tells connected x f first now old new ended r ends t s runs does sleeps quiet rules order is =
    let answer = f (records x) (node_end terms x) in
    let rests = λ (down : IsWriting x.state).
    let slept = sleeps down in
    acts_down connected x answer first now old new r s down slept.node slept.disk
    (subst (λ (e : Ended). ComesOut e r) slept.ends is) in
    elim (x.state) as (λ (st : State). x.state ≡ st → Acts connected x answer now (actored new old.clock) r) [
      | Up ↦ λ up. acts_up tells connected x answer first now old new ended r t s up runs
          (subst (λ (z : Answer). Called tells connected first now old.node new z ended)
          (same_answer terms x f first old ends s up)
          (subst (λ (b : Bool). MatchBool b (Sleeps first now old.node new ended)
          (Called tells connected first now old.node new
          (f old.node.stored.records (journal_end old.node.stored.journal)) ended))
          (awake_of x first old s up).up (does up))) quiet rules order is
      | Writing delta ↦ λ down. rests (subst IsWriting (sym down) tt)
      | Compacting start ↦ λ down. rests (subst IsWriting (sym down) tt)
    ] refl

-- a node that is down sleeps, whatever the answer would be
pub sleeps_down : (tells connected : Bool) (x : Node) (answer : Answer) (first now : Told)
    (old : Actored) (new : Noded) (ended : Ended) → Stands x first old → IsWriting x.state
    → Does tells connected first now old.node new answer ended → Sleeps first now old.node new ended
sleeps_down tells connected x answer first now old new ended s down does =
    subst (λ (b : Bool). MatchBool b (Sleeps first now old.node new ended)
    (Called tells connected first now old.node new answer ended))
    (down_of x.state x.entries first.past old.node.stored down s.disk) does

-- ---- the clock

pub clock_is : (st : State) (entries : List (List Fact)) (past : List Call) (stored : Stored) (old clock now : ℕ)
    → StandsBy st entries past stored → old ≡ clock
    → cond stored.journal.is_down old now ≡ clock_by st clock now
clock_is Up entries past stored old clock now awake e = ap (λ (b : Bool). cond b old now) awake.up
clock_is (Writing delta) entries past stored old clock now asleep e =
    ap (λ (b : Bool). cond b old now) asleep.down ∙ e
clock_is (Compacting start) entries past stored old clock now asleep e =
    ap (λ (b : Bool). cond b old now) asleep.down ∙ e
