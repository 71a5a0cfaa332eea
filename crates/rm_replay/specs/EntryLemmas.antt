-- How many entries the journal of a node of a script has.
use Rattle.std.proofs.Common.{◌≡◌, ◌∙◌, ℕ, List, length, ap}
use Rattle.std.proofs.lemmas.List.{length-map}
use Rattle.record_batch.specs.Batch.{batch_text}
use Rattle.record_batch.specs.Fact.{Fact}
use Rattle.rm_disk.specs.Call.{Call}
use Rattle.rm_disk.specs.Told.{Told}
use Rattle.rm_disk.specs.Journal.EntryLemmas.{length-gates_from}
use Rattle.rm_protocol.specs.Node.{Node, State, Up, Writing, Compacting}
use Rattle.node_store.specs.Has.{entries_of}
use Rattle.node_store.specs.Stored.{Stored}
use Rattle.rm_replay.specs.Actor.Actored.{Actored}
use Rattle.rm_replay.specs.Actor.Stands.{Stands, StandsBy}

entries_by : (st : State) (entries : List (List Fact)) (past : List Call) (stored : Stored)
    → StandsBy st entries past stored → length stored.journal.gates ≡ length entries
entries_by Up entries past stored awake =
    ap (λ (gates : List ℕ). length gates) awake.has.holds.journal.gates
    ∙ length-gates_from stored.journal.bank.start (entries_of entries) ∙ length-map entries batch_text
entries_by (Writing delta) entries past stored asleep = asleep.count
entries_by (Compacting start) entries past stored asleep = asleep.count

pub entries_is : (x : Node) (now : Told) (a : Actored) → Stands x now a
    → length a.node.stored.journal.gates ≡ length x.entries
entries_is x now a s = entries_by x.state x.entries now.past a.node.stored s.disk
