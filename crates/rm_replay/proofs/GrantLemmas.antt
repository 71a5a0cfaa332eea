-- A node announces another behaviour from now on.
use Rattle.std.proofs.Common.{◌≡◌, refl}
use Rattle.rm_base.specs.declared.message.Behaviour.{Behaviour}
use Rattle.rm_disk.specs.Told.{Told}
use Rattle.rm_node.specs.Noded.{granting}
use Rattle.rm_protocol.specs.Node.{Node}
use Rattle.rm_protocol.specs.World.{World}
use Rattle.rm_script.specs.declared.event.Side.{Side as Place}
use Rattle.rm_script.specs.declared.event.Side.TheVariants as place
use Rattle.rm_replay.specs.Actor.Actored.{Actored}
use Rattle.rm_replay.specs.Actor.Stands.{Stands}
use Rattle.rm_replay.specs.Happening.{granted}
use Rattle.rm_replay.specs.Meaning.{side_of}
use Rattle.rm_replay.specs.Shows.{Drives, StandFor}
use Rattle.rm_replay.specs.declared.stage.Nodes.{Nodes}

-- the code's node that announces it
abbrev pub announcing : Actored → Behaviour → Actored
announcing a behaviour = record { node = granting a.node behaviour; clock = a.clock }

stands_granting : (x : Node) (now : Told) (a : Actored) (behaviour : Behaviour)
    → Stands x now a → Stands (record x { granted = behaviour }) now (announcing a behaviour)
stands_granting x now a behaviour s = record {
  disk = s.disk;
  start = s.start;
  fuse = s.fuse;
  granted = refl;
  kept = λ up. record {
    granted = refl;
    waits = (s.kept up).waits;
    time = (s.kept up).time;
    polled = (s.kept up).polled;
  };
  rules = s.rules;
  clock = s.clock;
}

pub grant_at_one : (w : World) (d : Drives) (nodes : Nodes) (at : Place) (behaviour : Behaviour) (new : Actored)
    → at ≡ place.One → new ≡ announcing nodes.one behaviour → StandFor w d nodes
    → StandFor (granted w (side_of at) behaviour) d (record { one = new; two = nodes.two })
grant_at_one w d nodes at behaviour new is same stand =
    let one = stands_granting w.one d.one.disk nodes.one behaviour stand.one in
    rw (is, same) (record { one = one; two = stand.two })

pub grant_at_two : (w : World) (d : Drives) (nodes : Nodes) (at : Place) (behaviour : Behaviour) (new : Actored)
    → at ≡ place.Two → new ≡ announcing nodes.two behaviour → StandFor w d nodes
    → StandFor (granted w (side_of at) behaviour) d (record { one = nodes.one; two = new })
grant_at_two w d nodes at behaviour new is same stand =
    let two = stands_granting w.two d.two.disk nodes.two behaviour stand.two in
    rw (is, same) (record { one = stand.one; two = two })
