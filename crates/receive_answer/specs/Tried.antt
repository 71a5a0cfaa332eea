-- The records of a message without an early verdict, and whether they fit the store.
use Rattle.std.specs.Prelude.{◌≡◌, ℕ, Bool, List, None}
use Rattle.rm_base.specs.declared.message.Behaviour.{Behaviour}
use Rattle.rm_message.specs.declared.message.Message.{Message}
use Rattle.record_batch.specs.Fact.{Fact}
use Rattle.rm_protocol.specs.Rows.{rows}
use Rattle.rm_protocol.specs.Terms.{Terms}
use Rattle.rm_protocol.specs.Verdict.{has_room}
use Rattle.node_laws.specs.OwnTerms.{AreOwn}
use Rattle.receive_answer.specs.Untold.{early_kind}

-- without an early verdict these are the records that a message adds, by whatever terms of a node's own, and this is
-- whether they fit the store
pub record Tried (r d : List Fact) (place now : ℕ) (b : Behaviour) (m : Message) (fits : Bool) : Type 0 where
  pub early : early_kind r now m ≡ None
  pub added : (terms : Terms) → AreOwn terms → d ≡ rows terms now b m r
  pub told : (terms : Terms) → AreOwn terms → fits ≡ has_room terms place d
