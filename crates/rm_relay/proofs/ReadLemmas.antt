-- What leaves a node of three is read as it was said.
use Rattle.std.proofs.Common.{List, ◌++◌}
use Rattle.std.specs.List.{AllByRecursion}
use Rattle.rm_message.specs.declared.message.Message.{Message}
use Rattle.rm_protocol.specs.Node.{fetched_after, records, said_after}
use Rattle.rm_protocol.specs.Said.{sent_of}
use Rattle.rm_protocol.specs.Terms.{Terms}
use Rattle.node_laws.specs.Keeps.{WaitByTheRules}
use Rattle.node_laws.specs.OwnTerms.{AreOwn}
use Rattle.node_laws.specs.Records.{IsKept}
use Rattle.rm_node.specs.Asked.{Asked, Asks, MayBeAsked, is_connected}
use Rattle.rm_node.specs.declared.call.Call.{Call}
use Rattle.rm_replay.specs.Actor.Steps.{answer_of, clocked}
use Rattle.rm_replay.specs.AllLemmas.{all_parts}
use Rattle.rm_replay.specs.ReadLemmas.{AreRead, IsReadMessage, kept_by, said_is_read}
use Rattle.rm_relay.specs.Word.World.{World, node}
use Rattle.rm_relay.specs.declared.word.station.Station.{Station}
use Rattle.rm_relay.specs.declared.word.station.Station.TheVariants.{One, Two, Three}
use Rattle.rm_relay.specs.Happening.{step_of}
use Rattle.rm_relay.specs.Shows.{Drives, StandFor}
use Rattle.rm_relay.specs.declared.stage.Nodes3.{Nodes3}
use Rattle.rm_relay.proofs.MoveLemmas.{IsReadAll}

-- what holds of each node: its records are those of a node, and what waits keeps the rules
kept_at : (w : World) (d : Drives) (nodes : Nodes3) (at : Station) → StandFor w d nodes → IsKept (records (node w at))
kept_at w d nodes One stand = kept_by w.one.state w.one.entries d.one.disk.past nodes.one.node.stored stand.one.disk
kept_at w d nodes Two stand = kept_by w.two.state w.two.entries d.two.disk.past nodes.two.node.stored stand.two.disk
kept_at w d nodes Three stand =
    kept_by w.three.state w.three.entries d.three.disk.past nodes.three.node.stored stand.three.disk

rules_at : (w : World) (d : Drives) (nodes : Nodes3) (at : Station) → StandFor w d nodes
    → WaitByTheRules (node w at).polled
rules_at w d nodes One stand = stand.one.rules
rules_at w d nodes Two stand = stand.two.rules
rules_at w d nodes Three stand = stand.three.rules

-- all that leaves it in a call
pub reads_all : AreRead → (terms : Terms) → AreOwn terms → (w : World) (d : Drives) (nodes : Nodes3) (at : Station)
    → StandFor w d nodes → (asked : Asked) (this : Call) → MayBeAsked this → Asks this asked
    → IsReadAll (step_of terms (node w at) asked this).acted
reads_all laws terms own w d nodes at stand asked this may by =
    let y = clocked this (node w at) in
    let answer = answer_of terms (node w at) asked in
    let both = all_parts IsReadMessage (fetched_after y answer) (sent_of (is_connected this) (said_after y answer))
    (said_is_read laws terms own (node w at) (kept_at w d nodes at stand)
    (rules_at w d nodes at stand) asked this may by) in
    record { fetched = both.0; said = both.1 }
