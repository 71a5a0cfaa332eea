-- A call of a node, and the protocol's.
use Rattle.std.specs.Prelude.{◌≡◌, ◌≤◌, ℕ, Bool, true, false, List, Result}
use Rattle.rm_base.specs.Limits as limits
use Rattle.rm_base.specs.Text.{IsText}
use Rattle.record_batch.specs.Fact.{Fact}
use Rattle.rm_message.specs.declared.message.Message.{Message}
use Rattle.rm_message.specs.declared.refusal.Refusal.{Refusal}
use Rattle.record_batch.specs.Sequences.Words.{Text}
use Rattle.rm_protocol.specs.Calls as protocol
use Rattle.rm_protocol.specs.Calls.{Answer, Wish}
use Rattle.rm_protocol.specs.Polls as polled
use Rattle.rm_protocol.specs.Terms.{Terms}
use Rattle.node_laws.specs.Read.{MayBeWished}
use Rattle.node_laws.specs.Answers.Answers.{wish_seen}
use Rattle.rm_node.specs.Came.{IsReadAs}
use Rattle.rm_node.specs.Keeping.{Keeping}
use Rattle.rm_node.specs.declared.call.Call.{Call}
use Rattle.rm_node.specs.declared.call.Call.TheVariants as call

-- what a node of the protocol is asked for, or what comes to it: a message, or the refusal of bytes that are none
pub data Asked : Type 0 where
  Create : (wish : Wish) → Asked
  Send : (seq : ℕ) (payload : Text) → Asked
  Close : (seq : ℕ) → Asked
  End : (seq : ℕ) → Asked
  AskAck : (seq : ℕ) → Asked
  NackMissing : (seq : ℕ) → Asked
  Consume : (seq upto : ℕ) → Asked
  Poll : (to : Text) → Asked
  Tick : (now : ℕ) → Asked
  Receive : (content : Result Message Refusal) → Asked

-- what it answers, at records whose entries end at a place, at a moment, where it keeps this besides
abbrev pub answer_to : Terms → List Fact → (place now : ℕ) → Keeping → Asked → Answer
answer_to terms r place now kept (Create wish) = protocol.create terms r place wish
answer_to terms r place now kept (Send seq payload) = protocol.send terms r place seq payload
answer_to terms r place now kept (Close seq) = protocol.close terms r place seq now
answer_to terms r place now kept (End seq) = protocol.end terms r place seq
answer_to terms r place now kept (AskAck seq) = protocol.ask_ack r seq
answer_to terms r place now kept (NackMissing seq) = protocol.nack_missing r seq now
answer_to terms r place now kept (Consume seq upto) = protocol.consume terms r place seq upto
answer_to terms r place now kept (Tick moment) = protocol.tick terms r place moment kept.time kept.waits
answer_to terms r place now kept (Poll to) = polled.poll r to
answer_to terms r place now kept (Receive content) =
    polled.polls kept.polled content (protocol.receive terms r place now kept.granted content)

-- bytes that come are read so
pub record IsReceived (bytes : List ℕ) (asked : Asked) : Type 0 where
  pub content : Result Message Refusal
  pub read : IsReadAs bytes content
  pub is : asked ≡ Receive content

-- a call of the code's node asks this
abbrev pub Asks : Call → Asked → Type 0
Asks (call.Create wish) asked = asked ≡ Create (wish_seen wish)
Asks (call.Send seq payload) asked = asked ≡ Send seq payload
Asks (call.Close seq) asked = asked ≡ Close seq
Asks (call.End seq) asked = asked ≡ End seq
Asks (call.AskAck seq) asked = asked ≡ AskAck seq
Asks (call.NackMissing seq) asked = asked ≡ NackMissing seq
Asks (call.Consume seq upto) asked = asked ≡ Consume seq upto
Asks (call.Poll to) asked = asked ≡ Poll to
Asks (call.Tick now) asked = asked ≡ Tick now
Asks (call.Receive bytes) asked = IsReceived bytes.now asked

-- it asks for something
abbrev pub IsAsked : Call → Type 0
IsAsked this = (asked : Asked) × Asks this asked

-- what a node may be asked for: it can be written, a tick is no later than the last moment, and an address is one
abbrev pub MayBeAsked : Call → Type 0
MayBeAsked (call.Create wish) = MayBeWished (wish_seen wish)
MayBeAsked (call.Tick now) = now ≤ limits.now_max
MayBeAsked (call.Poll to) = IsText 2048 to
MayBeAsked _ = Unit {0}

-- it comes on a connection
abbrev pub is_connected : Call → Bool
is_connected (call.Receive bytes) = true
is_connected _ = false
