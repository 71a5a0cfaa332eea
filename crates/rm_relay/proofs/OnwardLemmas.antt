-- Node 2 forwards, or trims: by the two sequences that it has, and its next item.
use Rattle.std.proofs.Common.{◌≡◌, ◌∙◌, ℕ, Bool, true, false, List, [], Option, Some, None, refl, sym, ap, subst, inl}
use Rattle.std.proofs.Common.{inr}
use Rattle.std.specs.Prelude.{Result, Ok, Err}
use Rattle.std.proofs.lemmas.Option.{same_Some}
use Rattle.rm_base.specs.declared.message.Payload.{Payload}
use Rattle.record_batch.specs.Fact.{Fact}
use Rattle.rm_disk.specs.Call.{Call as DeviceCall}
use Rattle.rm_disk.specs.Told.{Told}
use Rattle.rm_script.specs.declared.report.line.Outcome.TheVariants as told
use Rattle.record_batch.specs.Sequences.Words.{Text}
use Rattle.node_store.specs.Stored.{Stored}
use Rattle.rm_protocol.specs.Calls.{Answer, Done, consume, send}
use Rattle.rm_protocol.specs.Node.{Node, State, Up, Writing, Compacting, after_by, fetched_by, node_end, records}
use Rattle.rm_protocol.specs.Node.{records_in, said_by}
use Rattle.rm_protocol.specs.Pair.{Act, Acted, Consumes, Sends, acted, becomes}
use Rattle.rm_protocol.specs.Said.{sent_of}
use Rattle.rm_protocol.specs.Terms.{Terms}
use Rattle.rm_node.specs.Asked as asks
use Rattle.rm_node.specs.Called.{Steps}
use Rattle.rm_node.specs.Ends.{Ended, Handed, error_end}
use Rattle.rm_node.specs.Noded.{Noded}
use Rattle.rm_node.specs.Saying.{IsUnsaid}
use Rattle.rm_node.specs.declared.call.Call.TheVariants as call
use Rattle.rm_node.specs.declared.error.NodeError.{NodeError}
use Rattle.rm_node.specs.declared.packets.Out.{Out}
use Rattle.rm_replay.specs.Actor.Actored.{Actored}
use Rattle.rm_replay.specs.Actor.Stands.{Stands, StandsBy}
use Rattle.rm_relay.specs.Word.Ends.{AreEnds, acknowledged, first_incoming, first_outgoing, next_item}
use Rattle.rm_relay.specs.Word.World.{World, Forward, Trim, forwards, happens, moves_two, packets_of, puts, sends_on}
use Rattle.rm_relay.specs.Word.World.{trims}
use Rattle.rm_relay.specs.Word.World.{with_node}
use Rattle.rm_relay.specs.declared.word.station.Station.TheVariants.{Two}
use Rattle.rm_relay.specs.Forwards.{Forwards}
use Rattle.rm_relay.specs.Happening.{step_of}
use Rattle.rm_relay.specs.Meaning.{act_ending, act_or, ending_of, unless_down, unmoved}
use Rattle.rm_relay.specs.declared.event.Event.TheVariants as said
use Rattle.rm_relay.specs.declared.report.Ending.{Ending}
use Rattle.rm_relay.specs.declared.report.Ending.TheVariants.{Idle, Came as came_out}
use Rattle.rm_relay.proofs.EventLemmas.{IsCall, IsStill}

-- ---- a node by its records

-- a node has one pair of ends
pub ends_same : (r : List Fact) (a b into out : ℕ) → AreEnds r a b → AreEnds r into out → (a ≡ into) × (b ≡ out)
ends_same r a b into out one other =
    (same_Some a into (sym one.incoming ∙ other.incoming), same_Some b out (sym one.outgoing ∙ other.outgoing))

-- the next item by the ends that were found, and by any
pub next_here : (r t u : List Fact) (a b into out : ℕ) (item : Option Payload) → u ≡ r → t ≡ r → AreEnds u a b
    → AreEnds r into out → item ≡ next_item t a b → (next_item r into out ≡ item) × (b ≡ out)
next_here r t u a b into out item here there found ends is =
    let same = ends_same r a b into out (subst (λ (l : List Fact). AreEnds l a b) here found) ends in (
      sym (is ∙ ap (λ (l : List Fact). next_item l a b) there ∙ ap (λ (s : ℕ). next_item r s b) same.0
          ∙ ap (λ (s : ℕ). next_item r into s) same.1),
      same.1,
    )

-- there is no item
pub forwards_none : (tells : Bool) (first : Told) (old : Noded) (out : ℕ) (item : Option Payload) → item ≡ None
    → Forwards tells first first old old out item (Ok None)
forwards_none tells first old out item none =
    subst (λ (p : Option Payload). Forwards tells first first old old out p (Ok None)) (sym none) (refl, refl)

-- nothing was sent
pub forwards_unsent : (tells : Bool) (first : Told) (old : Noded) (out : ℕ) (item : Option Payload) (p : Payload)
    (error : NodeError) (result : Result (Option (List Out)) NodeError) → item ≡ Some p → IsUnsaid old error
    → result ≡ Err error → Forwards tells first first old old out item result
forwards_unsent tells first old out item p error result there why is =
    subst (λ (r : Result (Option (List Out)) NodeError). Forwards tells first first old old out item r) (sym is)
    (subst (λ (i : Option Payload). Forwards tells first first old old out i (Err error)) (sym there)
    (inr (record { why = why; node = refl; disk = refl })))

-- it is sent as it is
sends_this : (tells : Bool) (first now : Told) (old new : Noded) (b out : ℕ) (p : Payload) (bytes : Text)
    (ended : Ended) → b ≡ out → bytes ≡ p.bytes → Steps tells first now old new 0 (call.Send b bytes) ended
    → Steps tells first now old new 0 (call.Send out p.bytes) ended
sends_this tells first now old new b out p bytes ended same is steps =
    subst (λ (s : ℕ). Steps tells first now old new 0 (call.Send s p.bytes) ended) same
    (subst (λ (t : Text). Steps tells first now old new 0 (call.Send b t) ended) is steps)

-- it failed
pub forwards_failed : (tells : Bool) (first now : Told) (old new : Noded) (b out : ℕ) (item : Option Payload)
    (p : Payload) (bytes : Text) (error : NodeError) (result : Result (Option (List Out)) NodeError) → item ≡ Some p
    → b ≡ out → bytes ≡ p.bytes → Steps tells first now old new 0 (call.Send b bytes) (error_end error)
    → result ≡ Err error → Forwards tells first now old new out item result
forwards_failed tells first now old new b out item p bytes error result there same is steps failed =
    subst (λ (r : Result (Option (List Out)) NodeError). Forwards tells first now old new out item r) (sym failed)
    (subst (λ (i : Option Payload). Forwards tells first now old new out i (Err error)) (sym there)
    (inl (sends_this tells first now old new b out p bytes (error_end error) same is steps)))

-- all went well
pub forwards_sent : (tells : Bool) (first now : Told) (old new : Noded) (b out : ℕ) (item : Option Payload)
    (p : Payload) (bytes : Text) (outs : List Out) → item ≡ Some p → b ≡ out → bytes ≡ p.bytes
    → Steps tells first now old new 0 (call.Send b bytes) (Handed Done None outs)
    → Forwards tells first now old new out item (Ok (Some outs))
forwards_sent tells first now old new b out item p bytes outs there same is steps =
    subst (λ (i : Option Payload). Forwards tells first now old new out i (Ok (Some outs))) (sym there)
    (sends_this tells first now old new b out p bytes (Handed Done None outs) same is steps)

-- what is acknowledged is consumed
pub trims_here : (tells : Bool) (first now : Told) (old new : Noded) (t u : List Fact) (a b into out upto : ℕ)
    (ended : Ended) → u ≡ old.stored.records → t ≡ old.stored.records → AreEnds u a b
    → AreEnds old.stored.records into out → upto ≡ acknowledged t b
    → Steps tells first now old new 0 (call.Consume a upto) ended
    → Steps tells first now old new 0 (call.Consume into (acknowledged old.stored.records out)) ended
trims_here tells first now old new t u a b into out upto ended here there found ends is steps =
    let r = old.stored.records in
    let same = ends_same r a b into out (subst (λ (l : List Fact). AreEnds l a b) here found) ends in
    let front : upto ≡ acknowledged r out =
    is ∙ ap (λ (l : List Fact). acknowledged l b) there ∙ ap (λ (s : ℕ). acknowledged r s) same.1 in
    subst (λ (s : ℕ). Steps tells first now old new 0 (call.Consume s (acknowledged r out)) ended) same.0
    (subst (λ (n : ℕ). Steps tells first now old new 0 (call.Consume a n) ended) front steps)

-- ---- a node of the world by its code

up_by : (st : State) (entries : List (List Fact)) (past : List DeviceCall) (stored : Stored)
    → StandsBy st entries past stored → stored.journal.is_down ≡ false → st ≡ Up
up_by Up entries past stored awake up = refl
up_by (Writing delta) entries past stored asleep up = let down = asleep.down in absurd cc
up_by (Compacting start) entries past stored asleep up = let down = asleep.down in absurd cc

pub is_up : (x : Node) (now : Told) (a : Actored) → Stands x now a → a.node.stored.journal.is_down ≡ false
    → x.state ≡ Up
is_up x now a stands up = up_by x.state x.entries now.past a.node.stored stands.disk up

down_by : (st : State) (entries : List (List Fact)) (past : List DeviceCall) (stored : Stored)
    → StandsBy st entries past stored → stored.journal.is_down ≡ true → st ≡ Up → ⊥
down_by Up entries past stored awake down same = let up = awake.up in absurd cc
down_by (Writing delta) entries past stored asleep down same = absurd cc
down_by (Compacting start) entries past stored asleep down same = absurd cc

pub is_not_up : (x : Node) (now : Told) (a : Actored) → Stands x now a → a.node.stored.journal.is_down ≡ true
    → x.state ≡ Up → ⊥
is_not_up x now a stands down = down_by x.state x.entries now.past a.node.stored stands.disk down

records_by : (st : State) (entries : List (List Fact)) (past : List DeviceCall) (stored : Stored)
    → StandsBy st entries past stored → stored.journal.is_down ≡ false → stored.records ≡ records_in entries
records_by Up entries past stored awake up = awake.has.holds.records
records_by (Writing delta) entries past stored asleep up = let down = asleep.down in absurd cc
records_by (Compacting start) entries past stored asleep up = let down = asleep.down in absurd cc

pub records_are : (x : Node) (now : Told) (a : Actored) → Stands x now a → a.node.stored.journal.is_down ≡ false
    → a.node.stored.records ≡ records x
records_are x now a stands up = records_by x.state x.entries now.past a.node.stored stands.disk up

-- ---- a node that is down

-- what comes of a call with an answer, in a state
abbrev acted_by : Node → Bool → Answer → State → Acted
acted_by x connected answer st = record {
  node = after_by x st answer;
  fetched = fetched_by x st answer;
  said = sent_of connected (said_by x st answer);
}

-- a call with any answer does nothing
acts_down : (x : Node) (answer : Answer) (connected : Bool) (st : State) → (st ≡ Up → ⊥)
    → acted_by x connected answer st ≡ becomes x
acts_down x answer connected Up not = absurd (not refl)
acts_down x answer connected (Writing delta) not = refl
acts_down x answer connected (Compacting start) not = refl

stays_two : (terms : Terms) (w : World) (made : Acted) → made ≡ becomes w.two
    → record (with_node w Two made.node) { packets = puts terms w.packets (packets_of Two None made) } ≡ w
stays_two terms w made same =
    ap (λ (m : Acted). record (with_node w Two m.node) { packets = puts terms w.packets (packets_of Two None m) }) same

send_down : (terms : Terms) (w : World) (out : ℕ) (item : Option Payload) → (w.two.state ≡ Up → ⊥)
    → moves_two terms w (sends_on out item) ≡ w
send_down terms w out None not = refl
send_down terms w out (Some p) not =
    stays_two terms w (acted terms w.two (Sends out p.bytes))
    (acts_down w.two (send terms (records w.two) (node_end terms w.two) out p.bytes) false w.two.state not)

forward_down : (terms : Terms) (w : World) (into out : Option ℕ) → (w.two.state ≡ Up → ⊥)
    → moves_two terms w (forwards (records w.two) into out) ≡ w
forward_down terms w None None not = refl
forward_down terms w None (Some out) not = refl
forward_down terms w (Some into) None not = refl
forward_down terms w (Some into) (Some out) not = send_down terms w out (next_item (records w.two) into out) not

trim_down : (terms : Terms) (w : World) (into out : Option ℕ) → (w.two.state ≡ Up → ⊥)
    → moves_two terms w (trims (records w.two) into out) ≡ w
trim_down terms w None None not = refl
trim_down terms w None (Some out) not = refl
trim_down terms w (Some into) None not = refl
trim_down terms w (Some into) (Some out) not =
    let upto = acknowledged (records w.two) out in
    stays_two terms w (acted terms w.two (Consumes into upto))
    (acts_down w.two (consume terms (records w.two) (node_end terms w.two) into upto) false w.two.state not)

-- how a line of these acts comes out at a node that is up
abbrev came_of : Terms → World → (List Fact → Option ℕ → Option ℕ → Option Act) → Ending
came_of terms w acts =
    act_or terms w.two (unmoved (first_incoming (records w.two)) (first_outgoing (records w.two)))
    (acts (records w.two) (first_incoming (records w.two)) (first_outgoing (records w.two)))

comes_down : (st : State) (ending : Ending) → (st ≡ Up → ⊥) → unless_down st ending ≡ came_out told.Down
comes_down Up ending not = absurd (not refl)
comes_down (Writing delta) ending not = refl
comes_down (Compacting start) ending not = refl

pub forward_is_down : (terms : Terms) (w : World) → (w.two.state ≡ Up → ⊥)
    → IsStill terms w said.Forward Forward (came_out told.Down)
forward_is_down terms w not = record {
  means = refl;
  quiet = λ of entries. refl;
  stays = forward_down terms w (first_incoming (records w.two)) (first_outgoing (records w.two)) not;
  comes = comes_down w.two.state (came_of terms w forwards) not;
  well = refl;
}

pub trim_is_down : (terms : Terms) (w : World) → (w.two.state ≡ Up → ⊥)
    → IsStill terms w said.Trim Trim (came_out told.Down)
trim_is_down terms w not = record {
  means = refl;
  quiet = λ of entries. refl;
  stays = trim_down terms w (first_incoming (records w.two)) (first_outgoing (records w.two)) not;
  comes = comes_down w.two.state (came_of terms w trims) not;
  well = refl;
}

-- ---- a node that is up

comes_up : (st : State) (ending : Ending) → st ≡ Up → unless_down st ending ≡ ending
comes_up st ending up = ap (λ (s : State). unless_down s ending) up

-- one of the two sequences is missing
abbrev NotBoth : Option ℕ → Option ℕ → Type 0
NotBoth into out = (a b : ℕ) → into ≡ Some a → out ≡ Some b → ⊥

forward_missing : (terms : Terms) (w : World) (into out : Option ℕ) → NotBoth into out
    → (moves_two terms w (forwards (records w.two) into out) ≡ w)
    × (act_or terms w.two (unmoved into out) (forwards (records w.two) into out) ≡ came_out told.NoSequence)
forward_missing terms w None None not = (refl, refl)
forward_missing terms w None (Some out) not = (refl, refl)
forward_missing terms w (Some into) None not = (refl, refl)
forward_missing terms w (Some into) (Some out) not = absurd (not into out refl refl)

trim_missing : (terms : Terms) (w : World) (into out : Option ℕ) → NotBoth into out
    → (moves_two terms w (trims (records w.two) into out) ≡ w)
    × (act_or terms w.two (unmoved into out) (trims (records w.two) into out) ≡ came_out told.NoSequence)
trim_missing terms w None None not = (refl, refl)
trim_missing terms w None (Some out) not = (refl, refl)
trim_missing terms w (Some into) None not = (refl, refl)
trim_missing terms w (Some into) (Some out) not = absurd (not into out refl refl)

not_both : (r : List Fact) → ((into out : ℕ) → AreEnds r into out → ⊥) → NotBoth (first_incoming r) (first_outgoing r)
not_both r none a b e f = none a b (record { incoming = e; outgoing = f })

pub forward_without : (terms : Terms) (w : World) → w.two.state ≡ Up
    → ((into out : ℕ) → AreEnds (records w.two) into out → ⊥)
    → IsStill terms w said.Forward Forward (came_out told.NoSequence)
forward_without terms w up none =
    let r = records w.two in
    let missing = forward_missing terms w (first_incoming r) (first_outgoing r) (not_both r none) in
    record {
      means = refl;
      quiet = λ of entries. refl;
      stays = missing.0;
      comes = comes_up w.two.state (came_of terms w forwards) up ∙ missing.1;
      well = refl;
    }

pub trim_without : (terms : Terms) (w : World) → w.two.state ≡ Up
    → ((into out : ℕ) → AreEnds (records w.two) into out → ⊥)
    → IsStill terms w said.Trim Trim (came_out told.NoSequence)
trim_without terms w up none =
    let r = records w.two in
    let missing = trim_missing terms w (first_incoming r) (first_outgoing r) (not_both r none) in
    record {
      means = refl;
      quiet = λ of entries. refl;
      stays = missing.0;
      comes = comes_up w.two.state (came_of terms w trims) up ∙ missing.1;
      well = refl;
    }

-- what forwarding is, by both sequences and the item
forward_act : (r : List Fact) (into out : ℕ) (item : Option Payload) → AreEnds r into out
    → next_item r into out ≡ item → forwards r (first_incoming r) (first_outgoing r) ≡ sends_on out item
forward_act r into out item ends is =
    ap (λ (i : Option ℕ). forwards r i (first_outgoing r)) ends.incoming
    ∙ ap (λ (o : Option ℕ). forwards r (Some into) o) ends.outgoing
    ∙ ap (λ (p : Option Payload). sends_on out p) is

-- both are there
both_there : (r : List Fact) (into out : ℕ) → AreEnds r into out
    → unmoved (first_incoming r) (first_outgoing r) ≡ Idle
both_there r into out ends =
    ap (λ (i : Option ℕ). unmoved i (first_outgoing r)) ends.incoming
    ∙ ap (λ (o : Option ℕ). unmoved (Some into) o) ends.outgoing

pub forward_idle : (terms : Terms) (w : World) (into out : ℕ) → w.two.state ≡ Up → AreEnds (records w.two) into out
    → next_item (records w.two) into out ≡ None → IsStill terms w said.Forward Forward Idle
forward_idle terms w into out up ends none =
    let r = records w.two in
    let act = forward_act r into out None ends none in
    record {
      means = refl;
      quiet = λ of entries. refl;
      stays = ap (λ (a : Option Act). moves_two terms w a) act;
      comes = comes_up w.two.state (came_of terms w forwards) up
          ∙ ap (λ (a : Option Act). act_or terms w.two (unmoved (first_incoming r) (first_outgoing r)) a) act
          ∙ both_there r into out ends;
      well = refl;
    }

-- the item is sent
pub forward_call : (terms : Terms) (w : World) (into out : ℕ) (p : Payload) (bytes : Text) → w.two.state ≡ Up
    → AreEnds (records w.two) into out → next_item (records w.two) into out ≡ Some p → bytes ≡ p.bytes
    → IsCall terms w said.Forward Forward Two None
    (step_of terms w.two (asks.Send out bytes) (call.Send out bytes))
forward_call terms w into out p bytes up ends there is =
    let r = records w.two in
    let act : forwards r (first_incoming r) (first_outgoing r) ≡ Some (Sends out bytes) =
    forward_act r into out (Some p) ends there ∙ ap (λ (t : Text). Some (Sends out t)) (sym is) in
    record {
      means = refl;
      quiet = λ of entries. refl;
      at_ = refl;
      moves = ap (λ (a : Option Act). moves_two terms w a) act;
      outcome = comes_up w.two.state (came_of terms w forwards) up
          ∙ ap (λ (a : Option Act). act_or terms w.two (unmoved (first_incoming r) (first_outgoing r)) a) act;
    }

-- what is acknowledged is consumed
pub trim_call : (terms : Terms) (w : World) (into out upto : ℕ) → w.two.state ≡ Up
    → AreEnds (records w.two) into out → upto ≡ acknowledged (records w.two) out
    → IsCall terms w said.Trim Trim Two None
    (step_of terms w.two (asks.Consume into upto) (call.Consume into upto))
trim_call terms w into out upto up ends is =
    let r = records w.two in
    let act : trims r (first_incoming r) (first_outgoing r) ≡ Some (Consumes into upto) =
    ap (λ (i : Option ℕ). trims r i (first_outgoing r)) ends.incoming
    ∙ ap (λ (o : Option ℕ). trims r (Some into) o) ends.outgoing
    ∙ ap (λ (n : ℕ). Some (Consumes into n)) (sym is) in
    record {
      means = refl;
      quiet = λ of entries. refl;
      at_ = refl;
      moves = ap (λ (a : Option Act). moves_two terms w a) act;
      outcome = comes_up w.two.state (came_of terms w trims) up
          ∙ ap (λ (a : Option Act). act_or terms w.two (unmoved (first_incoming r) (first_outgoing r)) a) act;
    }
