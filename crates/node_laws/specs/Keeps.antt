-- Each call of a node keeps what holds of its records, and all that it says may be written.
use Rattle.std.specs.Prelude.{ℕ, ◌≤◌, List, ◌++◌, length, Result}
use Rattle.std.specs.List.{AllByRecursion}
use Rattle.rm_base.specs.Limits as limits
use Rattle.rm_base.specs.Text.{IsText}
use Rattle.rm_base.specs.declared.message.Behaviour.{Behaviour}
use Rattle.timers.specs.Keys.Waits.{Wait}
use Rattle.timers.specs.Pending.Waiting.{Waiting}
use Rattle.rm_message.specs.declared.message.Message.{Message}
use Rattle.rm_message.specs.declared.refusal.Refusal.{Refusal}
use Rattle.soap_envelope.specs.Soap.{soap_space}
use Rattle.message_reader.specs.Refusals.{Spells}
use Rattle.message_writer.specs.Rules.{KeepsRules}
use Rattle.message_writer.specs.Text.{message_text}
use Rattle.record_batch.specs.Fact.{Fact}
use Rattle.record_batch.specs.Sequences.Words.{Text}
use Rattle.rm_protocol.specs.Calls.{Answer, Wish, create, send, close, end, tick, ask_ack, nack_missing, receive}
use Rattle.rm_protocol.specs.Calls.{consume}
use Rattle.rm_protocol.specs.Node.{fetched_message}
use Rattle.rm_protocol.specs.PollLemmas.{AllWaiting}
use Rattle.rm_protocol.specs.Polls.{poll, polled_after, polls}
use Rattle.rm_protocol.specs.Terms.{Terms}
use Rattle.node_laws.specs.OwnTerms.{AreOwn}
use Rattle.node_laws.specs.Read.{IsContentRead, MayBeWished}
use Rattle.node_laws.specs.Records.{IsKept}

-- what may be said of the answers of all calls at the records r, where the entries end at a place
pub record OfEachCall (terms : Terms) (r : List Fact) (place : ℕ) (P : Answer → Type 0) : Type 0 where
  pub create_ : (wish : Wish) → MayBeWished wish → P (create terms r place wish)
  pub send_ : (s : ℕ) (payload : Text) → P (send terms r place s payload)
  pub close_ : (s now : ℕ) → P (close terms r place s now)
  pub end_ : (s : ℕ) → P (end terms r place s)
  pub tick_ : (now time : ℕ) (waits : List Wait) → P (tick terms r place now time waits)
  pub ask_ack_ : (s : ℕ) → P (ask_ack r s)
  pub nack_missing_ : (s now : ℕ) → P (nack_missing r s now)
  pub consume_ : (s upto : ℕ) → P (consume terms r place s upto)
  pub poll_ : (to : Text) → IsText 2048 to → P (poll r to)
  pub receive_ : (now : ℕ) (behaviour : Behaviour) (content : Result Message Refusal)
      → IsContentRead content → P (receive terms r place now behaviour content)

-- the records with those that an answer adds are those of a node
abbrev pub LeavesANode : List Fact → Answer → Type 0
LeavesANode r answer = IsKept (r ++ answer.delta)

-- all that an answer says keeps the rules of a message that is written
abbrev pub SaysByTheRules : Answer → Type 0
SaysByTheRules answer = AllByRecursion (KeepsRules soap_space) answer.outs

-- each call keeps the records of a node such
abbrev pub EachCallKeeps : Type 0
EachCallKeeps =
    (terms : Terms) (r : List Fact) (place : ℕ) → AreOwn terms → IsKept r → OfEachCall terms r place (LeavesANode r)

-- each message that a node says keeps the rules
abbrev pub EachIsByTheRules : Type 0
EachIsByTheRules =
    (terms : Terms) (r : List Fact) (place : ℕ) → AreOwn terms → IsKept r → OfEachCall terms r place SaysByTheRules

-- the messages that wait at a node for addresses that nobody can reach keep them too
abbrev pub WaitByTheRules : Waiting Message → Type 0
WaitByTheRules waits = AllWaiting (KeepsRules soap_space) waits

-- what waits keeps them after each call that says what does, and so do the message that a MakeConnection takes out of
-- it and what is said beside
pub record PollsByTheRules : Type 0 where
  pub waits : (waits : Waiting Message) (answer : Answer) → WaitByTheRules waits → SaysByTheRules answer
      → WaitByTheRules (polled_after waits answer)
  pub fetched : (waits : Waiting Message) (content : Result Message Refusal) (answer : Answer) → WaitByTheRules waits
      → SaysByTheRules answer
      → AllByRecursion (KeepsRules soap_space) (fetched_message (polls waits content answer).fetched)
  pub beside : (waits : Waiting Message) (content : Result Message Refusal) (answer : Answer) → SaysByTheRules answer
      → SaysByTheRules (polls waits content answer)

-- a message is read back from its text, where that is no longer than a message may be
abbrev pub IsReadBack : Message → Type 0
IsReadBack m =
    length (message_text soap_space m) ≤ limits.envelope_bytes → Spells soap_space (message_text soap_space m) m

-- all that an answer says is read back
abbrev pub SaysWhatIsRead : Answer → Type 0
SaysWhatIsRead answer = AllByRecursion IsReadBack answer.outs

-- each message that a node says is read back
abbrev pub EachIsReadBack : Type 0
EachIsReadBack =
    (terms : Terms) (r : List Fact) (place : ℕ) → AreOwn terms → IsKept r → OfEachCall terms r place SaysWhatIsRead
