-- What a node says to a call, before anything is written.
use Rattle.std.specs.Prelude.{◌≡◌, ℕ, true, false}
use Rattle.rm_disk.specs.Journal.JournalState.{end_of}
use Rattle.rm_protocol.specs.Terms.{Terms}
use Rattle.node_laws.specs.OwnTerms.{AreOwn}
use Rattle.rm_node.specs.Asked.{Asked, Asks, IsAsked, is_connected}
use Rattle.rm_node.specs.Called.{answer_of}
use Rattle.rm_node.specs.Fetching.{whole}
use Rattle.rm_node.specs.Keeping.{Keeping, Keeps}
use Rattle.rm_node.specs.Noded.{Noded}
use Rattle.rm_node.specs.Packets.{outs_of, reply_of}
use Rattle.rm_node.specs.Timed.{MayBeWritten}
use Rattle.rm_node.specs.declared.call.Call.{Call}
use Rattle.rm_node.specs.declared.error.NodeError.{NodeError}
use Rattle.rm_node.specs.declared.error.NodeError.TheVariants as error
use Rattle.rm_node.specs.declared.say.Said.{Said}

-- the node is up, and asked for something; the answer is the protocol's, and may be written; what is to be handed out
-- is the text of what it says
pub record Says (n : Noded) (moment : ℕ) (call : Call) (said : Said) : Type 0 where
  pub up : n.stored.journal.is_down ≡ false
  pub asked : IsAsked call
  pub is : (terms : Terms) → AreOwn terms → (kept : Keeping) → Keeps n.kept kept → (asked : Asked) → Asks call asked
      → whole said.answered ≡ answer_of terms n moment kept asked
  pub may : MayBeWritten n.stored.records (end_of n.stored.journal) (whole said.answered) said.begun
  pub reply : said.handed.reply ≡ reply_of (is_connected call) (whole said.answered)
  pub outs : said.handed.outs ≡ outs_of (whole said.answered).outs

-- why nothing is said: memory was wanting at a node that is up, or the node is down
abbrev pub IsUnsaid : Noded → NodeError → Type 0
IsUnsaid n error.Memory = n.stored.journal.is_down ≡ false
IsUnsaid n error.Down = n.stored.journal.is_down ≡ true
IsUnsaid n _ = ⊥
