use Rattle.std.proofs.Common.{◌≡◌, true, List, subst}
use Rattle.std.specs.Prelude.{IfOk}
use Rattle.node_laws.specs.Sizes.Room.{HasRoom}
use Rattle.record_batch.specs.Fact.{Fact}
use Rattle.rm_protocol.specs.Terms.{Terms}
use Rattle.rm_protocol.specs.Verdict.{has_room}
use Rattle.node_laws.specs.OwnTerms.{AreOwn}
use Rattle.receive_answer.proofs.ReceiveLemmas.{none-refuses, tried-by}
use Rattle.receive_answer.proofs.RecordLemmas.{few-before}
use Rattle.receive_answer.proofs.answers.put_ahead.Goals as goal

pub put_rows-requires-clause-nothing : goal.put_rows-requires-clause-nothing
put_rows-requires-clause-nothing c = c.requires.nothing

pub put_rows-requires-clause-ranges : goal.put_rows-requires-clause-ranges
put_rows-requires-clause-ranges c = c.requires.numbers.acks

pub put_rows-requires-clause-drawn : goal.put_rows-requires-clause-drawn
put_rows-requires-clause-drawn c = few-before c.args.ahead.now.records c.args.place c.requires.serves

pub put_rows-requires-clause-granted : goal.put_rows-requires-clause-granted
put_rows-requires-clause-granted c =
    none-refuses c.args.ahead.now.records c.args.now c.args.message.now c.requires.early

pub returns-clause-records : goal.returns-clause-records
returns-clause-records c = c.in_ok-put_rows.ensures.records

pub returns-clause-tried : goal.returns-clause-tried
returns-clause-tried c =
    tried-by c.args.ahead.now.records c.put_rows.new.ahead.delta c.args.place c.args.now c.args.granted
    c.args.message.now c.has_room.result c.requires.early c.in_ok-put_rows.ensures.delta
    (subst (λ (d : List Fact). (terms : Terms) → AreOwn terms
    → IfOk c.has_room.result (λ fits. fits ≡ has_room terms c.args.place d)) c.batch.ensures c.has_room.ensures.is)

pub returns-clause-room : goal.returns-clause-room
returns-clause-room c =
    subst (λ (d : List Fact). IfOk c.has_room.result (λ fits. fits ≡ true → HasRoom c.args.place d)) c.batch.ensures
    c.has_room.ensures.room
