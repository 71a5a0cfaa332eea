-- How three disks, the nodes over them, and a wire stand for a world.
use Rattle.std.specs.Prelude.{◌≡◌, ◌⊎◌, ℕ, List, [], map, Some, None}
use Rattle.std.specs.List.{AllByRecursion}
use Rattle.rm_disk.specs.Told.{Told}
use Rattle.rm_protocol.specs.Terms.{Terms}
use Rattle.rm_protocol.specs.Word.{IsPrefixOf}
use Rattle.rm_node.specs.Came.{IsReadAs}
use Rattle.rm_replay.specs.Actor.Stands.{Leaves, Stands}
use Rattle.rm_replay.specs.Net.{read_as, text_of}
use Rattle.rm_replay.specs.Shows.{drive_of}
use Rattle.rm_replay.specs.Tales.{Drive}
use Rattle.rm_relay.specs.Meaning.{Means}
use Rattle.rm_relay.specs.Word.World.{Event, Packet, World, happens, number_of}
use Rattle.rm_relay.specs.declared.event.Event.{Event as Said}
use Rattle.rm_relay.specs.declared.word.station.Station.{Station}
use Rattle.rm_relay.specs.declared.stage.Nodes3.{Nodes3}
use Rattle.rm_relay.specs.declared.stage.Stage3.{Stage3}

-- the disks
pub record Drives : Type 0 where
  pub one : Drive
  pub two : Drive
  pub three : Drive

-- the disks, and the packets of the wire
pub record Scene : Type 0 where
  pub drives : Drives
  pub packets : List (ℕ × List ℕ)

-- of what three disks tell
abbrev pub drives_of : {M : Type 0} → (M → Told) → M → M → M → Drives
drives_of told one two three = record {
  one = drive_of told one;
  two = drive_of told two;
  three = drive_of told three;
}

-- of what the disks and the wire of a stage tell
abbrev pub scene_of : {M W : Type 0} → (M → Told) → (W → List (ℕ × List ℕ)) → Stage3 M W → Scene
scene_of told packets stage = record {
  drives = drives_of told stage.one stage.two stage.three;
  packets = packets stage.wire;
}

-- no disk is armed, and the wire has no packet
pub record IsFresh (scene : Scene) : Type 0 where
  pub one : scene.drives.one.disk.fuse ≡ None
  pub two : scene.drives.two.disk.fuse ≡ None
  pub three : scene.drives.three.disk.fuse ≡ None
  pub silent : scene.packets ≡ []

-- a packet on the wire: the number of the node that it goes to, and the message's text
abbrev pub wire_packet : Packet → ℕ × List ℕ
wire_packet p = (number_of p.to, text_of p.message)

-- all packets, in order
abbrev pub wire_packets : List Packet → List (ℕ × List ℕ)
wire_packets packets = map wire_packet packets

-- who sent each of them
abbrev pub senders_of : List Packet → List Station
senders_of packets = map (λ (p : Packet). p.from) packets

-- a packet's text is read as it should be
abbrev pub IsReadRight : Packet → Type 0
IsReadRight p = IsReadAs (text_of p.message) (read_as p.message)

-- the disks and their nodes stand for the nodes of the world
pub record StandFor (w : World) (d : Drives) (nodes : Nodes3) : Type 0 where
  pub one : Stands w.one d.one.disk nodes.one
  pub two : Stands w.two d.two.disk nodes.two
  pub three : Stands w.three d.three.disk nodes.three

-- and the wire has the world's packets, of which these are the senders, and each of which is read as it was said
pub record Shows (w : World) (scene : Scene) (nodes : Nodes3) (senders : List Station) : Type 0 where
  pub stand : StandFor w scene.drives nodes
  pub wire : scene.packets ≡ wire_packets w.packets
  pub sent : senders ≡ senders_of w.packets
  pub read : AllByRecursion IsReadRight w.packets

-- each image of each disk stands for entries that one more crash of its node leaves, and the wire has the packets
pub record Holds (w : World) (scene : Scene) : Type 0 where
  pub one : Leaves w.one scene.drives.one.disk.past
  pub two : Leaves w.two scene.drives.two.disk.past
  pub three : Leaves w.three scene.drives.three.disk.past
  pub wire : scene.packets ≡ wire_packets w.packets

-- memory was wanting while the packets of a line were put: its records are there, and some first of its packets
pub record IsCutIn (terms : Terms) (w : World) (event : Event) (v : World) : Type 0 where
  pub one : v.one ≡ (happens terms w event).one
  pub two : v.two ≡ (happens terms w event).two
  pub three : v.three ≡ (happens terms w event).three
  pub before : IsPrefixOf w.packets v.packets
  pub some : IsPrefixOf v.packets (happens terms w event).packets

-- what stands is what stood before a line, or what the line made but for some last of its packets
abbrev pub IsLeftOfLine : Terms → World → Said → Scene → Type 0
IsLeftOfLine terms w line scene =
    Holds w scene
    ⊎ ((event : Event) × Means line (Some event) × (v : World) × IsCutIn terms w event v × Holds v scene)
