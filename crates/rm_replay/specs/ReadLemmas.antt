-- What a node says is read as it was said, or is too long to be read.
use Rattle.std.proofs.Common.{◌≡◌, ℕ, nat_le, cond, Bool, true, false, List, ◌∷◌, length, Option, []}
use Rattle.std.proofs.Common.{refl, subst, sym}
use Rattle.std.specs.Prelude.{Ok, Err}
use Rattle.std.specs.List.{AllByRecursion, filter}
use Rattle.std.proofs.lemmas.Bool.{leb-true, leb-false}
use Rattle.message_reader.specs.Refusals.{blind, too_long}
use Rattle.rm_message.specs.declared.message.Message.{Message}
use Rattle.rm_message.specs.declared.refusal.FaultKind.TheVariants.{TooLong}
use Rattle.record_batch.specs.Fact.{Fact}
use Rattle.rm_disk.specs.Call.{Call as DeviceCall}
use Rattle.rm_protocol.specs.Calls.{Answer, Fetched}
use Rattle.rm_protocol.specs.Node.{Node, State, Up, Writing, Compacting, node_end, fetched_after, fetched_by}
use Rattle.rm_protocol.specs.Node.{fetched_message}
use Rattle.rm_protocol.specs.Node.{is_short, records, records_in, said_after, said_by, said_with}
use Rattle.rm_protocol.specs.Said.{leaves, sent_of}
use Rattle.rm_protocol.specs.Addresses.{place_of}
use Rattle.rm_protocol.specs.Terms.{Terms}
use Rattle.message_writer.specs.Rules.{KeepsRules}
use Rattle.node_laws.specs.Keeps.{EachIsByTheRules, IsReadBack, OfEachCall, PollsByTheRules, SaysByTheRules}
use Rattle.node_laws.specs.Keeps.{WaitByTheRules}
use Rattle.node_laws.specs.OwnTerms.{AreOwn}
use Rattle.node_laws.specs.Records.{IsKept}
use Rattle.node_store.specs.Stored.{Stored}
use Rattle.rm_node.specs.Came.{IsReadAs}
use Rattle.rm_node.specs.CameLemmas.{ReadsRight, RefusesRight}
use Rattle.rm_replay.specs.Actor.Stands.{StandsBy, kept_of}
use Rattle.rm_protocol.specs.World.{Side, One, Two, World, node}
use Rattle.rm_replay.specs.AllLemmas.{all_append}
use Rattle.rm_replay.specs.Shows.{Drives, StandFor}
use Rattle.rm_replay.specs.declared.stage.Nodes.{Nodes}
use Rattle.rm_node.specs.Asked.{Asked, Asks, MayBeAsked, is_connected}
use Rattle.rm_replay.specs.Actor.Steps.{answer_of, clocked}
use Rattle.rm_replay.specs.Asked.{step_of}
use Rattle.rm_replay.specs.Net.{read_as, text_of}
use Rattle.rm_node.specs.declared.call.Call.{Call}
use Rattle.rm_replay.specs.Actor.AnswerLemmas.{of_each}
use Rattle.soap_envelope.specs.Soap.{soap_space}
use Rattle.rm_replay.specs.FetchedLemmas.{IsAlone, ask-alone, close-alone, consume-alone, create-alone, end-alone}
use Rattle.rm_replay.specs.FetchedLemmas.{nack-alone, receive-alone, send-alone, tick-alone}

-- ---- what is said

-- a message's text is read as it should be
abbrev pub IsReadMessage : Message → Type 0
IsReadMessage m = IsReadAs (text_of m) (read_as m)

read_by : (m : Message) (b : Bool) → nat_le (length (text_of m)) 2097152 ≡ b → IsReadBack m
    → IsReadAs (text_of m) (cond b (Ok m) (Err (blind TooLong)))
read_by m true e back = back (leb-true (length (text_of m)) 2097152 e)
read_by m false e back = too_long (leb-false (length (text_of m)) 2097152 e)

read_message : (m : Message) → IsReadBack m → IsReadMessage m
read_message m back = read_by m (nat_le (length (text_of m)) 2097152) refl back

-- so is one that keeps the rules of what is written
abbrev pub WrittenIsRead : Type 0
WrittenIsRead = (m : Message) → KeepsRules soap_space m → IsReadBack m

read_messages : WrittenIsRead → (ms : List Message) → AllByRecursion (KeepsRules soap_space) ms
    → AllByRecursion IsReadMessage ms
read_messages written [] all = tt
read_messages written (m ∷ ms) all = (read_message m (written m all.0), read_messages written ms all.1)

all_cond : {A : Type 0} (P : A → Type 0) (b : Bool) (xs ys : List A) → AllByRecursion P xs → AllByRecursion P ys
    → AllByRecursion P (cond b xs ys)
all_cond P true xs ys one two = one
all_cond P false xs ys one two = two

all_filter : {A : Type 0} (P : A → Type 0) (f : A → Bool) (xs : List A) → AllByRecursion P xs
    → AllByRecursion P (filter f xs)
all_filter P f [] all = tt
all_filter P f (x ∷ xs) all =
    all_cond P (f x) (x ∷ filter f xs) (filter f xs) (all.0, all_filter P f xs all.1) (all_filter P f xs all.1)

all_said_with : (P : Message → Type 0) (fuse : Option ℕ) (delta : List Fact) (outs : List Message)
    → AllByRecursion P outs → AllByRecursion P (said_with fuse delta outs)
all_said_with P fuse [] outs all = all
all_said_with P fuse (f ∷ delta) outs all = all_cond P (is_short 4 fuse) [] outs tt all

all_said : (P : Message → Type 0) (x : Node) (st : State) (answer : Answer) → AllByRecursion P answer.outs
    → AllByRecursion P (said_by x st answer)
all_said P x Up answer all = all_said_with P x.fuse answer.delta answer.outs all
all_said P x (Writing delta) answer all = tt
all_said P x (Compacting start) answer all = tt

all_fetched : (P : Message → Type 0) (x : Node) (st : State) (answer : Answer)
    → AllByRecursion P (fetched_message answer.fetched) → AllByRecursion P (fetched_by x st answer)
all_fetched P x Up answer all = all_said_with P x.fuse answer.delta (fetched_message answer.fetched) all
all_fetched P x (Writing delta) answer all = tt
all_fetched P x (Compacting start) answer all = tt

-- ---- at a node

pub kept_by : (st : State) (entries : List (List Fact)) (past : List DeviceCall) (stored : Stored)
    → StandsBy st entries past stored → IsKept (records_in entries)
kept_by Up entries past stored awake = awake.has.are.kept
kept_by (Writing delta) entries past stored asleep = asleep.are.kept
kept_by (Compacting start) entries past stored asleep = asleep.are.kept

-- at either side
pub kept_at : (w : World) (d : Drives) (nodes : Nodes) (side : Side) → StandFor w d nodes
    → IsKept (records (node w side))
kept_at w d nodes One stand = kept_by w.one.state w.one.entries d.one.disk.past nodes.one.node.stored stand.one.disk
kept_at w d nodes Two stand = kept_by w.two.state w.two.entries d.two.disk.past nodes.two.node.stored stand.two.disk

-- and what waits keeps the rules
pub rules_at : (w : World) (d : Drives) (nodes : Nodes) (side : Side) → StandFor w d nodes
    → WaitByTheRules (node w side).polled
rules_at w d nodes One stand = stand.one.rules
rules_at w d nodes Two stand = stand.two.rules

-- ---- a call

-- what comes to a node is as it is read, what it says then keeps the rules, and so does what it fetches; and what keeps
-- them is read back
pub record AreRead : Type 0 where
  pub reads : ReadsRight
  pub refuses : RefusesRight
  pub says : EachIsByTheRules
  pub polls : PollsByTheRules
  pub written : WrittenIsRead

-- all that leaves a node with this answer keeps the rules
record LeavesByTheRules (answer : Answer) : Type 0 where
  pub said : SaysByTheRules answer
  pub fetched : AllByRecursion (KeepsRules soap_space) (fetched_message answer.fetched)

-- where nothing is fetched
alone : (answer : Answer) → SaysByTheRules answer → IsAlone answer → LeavesByTheRules answer
alone answer says is = record {
  said = says;
  fetched = subst (λ (t : Option Fetched). AllByRecursion (KeepsRules soap_space) (fetched_message t)) (sym is.none)
      tt;
}

-- so it is of each call but for what the receiving of a message is given of what waits
each_leaves : EachIsByTheRules → (terms : Terms) (r : List Fact) (place : ℕ) → AreOwn terms → IsKept r
    → OfEachCall terms r place LeavesByTheRules
each_leaves says terms r place own kept =
    let each = says terms r place own kept in
    record {
      create_ = λ wish may. alone _ (each.create_ wish may) (create-alone terms r place wish);
      send_ = λ s payload. alone _ (each.send_ s payload) (send-alone terms r place s payload);
      close_ = λ s now. alone _ (each.close_ s now) (close-alone terms r place s now);
      end_ = λ s. alone _ (each.end_ s) (end-alone terms r place s);
      tick_ = λ now time waits. alone _ (each.tick_ now time waits) (tick-alone terms r place now time waits);
      ask_ack_ = λ s. alone _ (each.ask_ack_ s) (ask-alone r s);
      nack_missing_ = λ s now. alone _ (each.nack_missing_ s now) (nack-alone r s now);
      consume_ = λ s upto. alone _ (each.consume_ s upto) (consume-alone terms r place s upto);
      poll_ = λ to text. alone _ (each.poll_ to text) (record { none = refl });
      receive_ = λ now behaviour content read.
          alone _ (each.receive_ now behaviour content read)
          (receive-alone terms r place now behaviour content);
    }

answer_leaves : AreRead → (terms : Terms) → AreOwn terms → (x : Node) → IsKept (records x)
    → WaitByTheRules x.polled → (asked : Asked) (this : Call) → MayBeAsked this
    → Asks this asked → LeavesByTheRules (answer_of terms x asked)
answer_leaves laws terms own x kept rules asked this may by =
    of_each laws.reads laws.refuses LeavesByTheRules terms (records x) (node_end terms x) x.clock (kept_of x) this
    asked (each_leaves laws.says terms (records x) (node_end terms x) own kept)
    (λ content answer leaves. record {
      said = laws.polls.beside x.polled content answer leaves.said;
      fetched = laws.polls.fetched x.polled content answer rules leaves.said;
    }) may by

-- all that leaves a node in a call
pub said_is_read : AreRead → (terms : Terms) → AreOwn terms → (x : Node) → IsKept (records x)
    → WaitByTheRules x.polled → (asked : Asked) (this : Call) → MayBeAsked this
    → Asks this asked → AllByRecursion IsReadMessage (step_of terms x asked this).said
said_is_read laws terms own x kept rules asked this within by =
    let answer = answer_of terms x asked in
    let y = clocked this x in
    let by_rules = answer_leaves laws terms own x kept rules asked this within by in
    let fetched = read_messages laws.written (fetched_message answer.fetched) by_rules.fetched in
    let said = read_messages laws.written answer.outs by_rules.said in
    all_append IsReadMessage (fetched_after y answer) (sent_of (is_connected this) (said_after y answer))
    (all_fetched IsReadMessage y y.state answer fetched)
    (all_filter IsReadMessage (λ (m : Message). leaves (is_connected this) (place_of m.addressing.to))
    (said_after y answer) (all_said IsReadMessage y y.state answer said))
