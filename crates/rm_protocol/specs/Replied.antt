-- What a MakeConnection gets: WS-MakeConnection 1.1, section 3.3, and WS-ReliableMessaging 1.2, section 3.9.
use Rattle.std.specs.Prelude.{◌≡◌, ℕ, List, ◌++◌, None, Some, Ok}
use Rattle.timers.specs.Pending.Waiting.{Waiting}
use Rattle.rm_base.specs.declared.message.Behaviour.{Behaviour}
use Rattle.rm_message.specs.declared.message.Message.{Message}
use Rattle.record_batch.specs.Fact.{Fact}
use Rattle.record_batch.specs.Sequences.Words.{Text}
use Rattle.rm_protocol.specs.Calls.{Fetched, receive}
use Rattle.rm_protocol.specs.Said.{acks_said, back_blocks, own_messages, with_blocks}
use Rattle.rm_protocol.specs.Terms.{Terms}
use Rattle.rm_protocol.specs.Verdict.{verdict}
use Rattle.rm_protocol.specs.Polls.{awaited_at, polls, selected_by}

-- a MakeConnection without a verdict, at the records after its rows: the oldest message that waits for its address is
-- the reply, with the blocks that go to the connection, and each other acknowledgement is a message of its own
abbrev pub TheReplyHasTheBlocks : Type 0
TheReplyHasTheBlocks =
    (terms : Terms) (r : List Fact) (place now : ℕ) (y : Behaviour) (waits : Waiting Message) (m : Message) (at : Text)
    (t : Fetched)
    → verdict terms r place now y m ≡ None → selected_by m.body ≡ Some at → awaited_at waits at ≡ Some t
    → let answer = receive terms r place now y (Ok m) in
    let acks = acks_said (r ++ answer.delta) now m in
    ((polls waits (Ok m) answer).fetched
    ≡ Some (record { address = t.address; message = with_blocks t.message (back_blocks acks) }))
    × ((polls waits (Ok m) answer).outs ≡ own_messages acks)
