-- From two nodes of the protocol to the headline of two disks.
use Rattle.rm_protocol.specs.Crashes.{KeepsAll}
use Rattle.rm_protocol.specs.World.{World}
use Rattle.rm_replay.specs.Actor.LeftLemmas.{left_mounted}
use Rattle.rm_replay.specs.Actor.Stands.{Leaves}
use Rattle.rm_replay.specs.Headline.{KeepsPairOf}
use Rattle.rm_replay.specs.ImageLemmas.{image_of}
use Rattle.rm_replay.specs.Shows.{Scene}

-- the nodes of a world that keeps the word, on two disks
abbrev pub pair_of : (w : World) (scene : Scene) → KeepsAll w → Leaves w.one scene.drives.one.disk.past
    → Leaves w.two scene.drives.two.disk.past → KeepsPairOf w scene
pair_of w scene keeps one two x y may_x may_y =
    let a = one x may_x in
    let b = two y may_y in
    let left_a = left_mounted w.one a.kept in
    let left_b = left_mounted w.two b.kept in
    record {
      one = image_of w.one x a (keeps.kept_one _ _ left_a);
      two = image_of w.two y b (keeps.kept_two _ _ left_b);
      there = keeps.one _ _ _ _ left_a left_b;
      back = keeps.two _ _ _ _ left_b left_a;
      loose_there = keeps.loose_one _ _ _ _ left_a left_b;
      loose_back = keeps.loose_two _ _ _ _ left_b left_a;
    }
