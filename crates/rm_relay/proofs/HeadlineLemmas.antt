-- From three nodes of the protocol to the promise by three disks.
use Rattle.rm_replay.specs.Actor.LeftLemmas.{left_mounted}
use Rattle.rm_replay.specs.Actor.Stands.{Leaves}
use Rattle.rm_replay.specs.ImageLemmas.{image_of}
use Rattle.rm_relay.specs.Word.Word.{KeepsAll}
use Rattle.rm_relay.specs.Word.World.{World}
use Rattle.rm_relay.specs.Headline.{KeepsPromiseOf}
use Rattle.rm_relay.specs.Shows.{Scene}

-- the nodes of a world that keeps the word, on three disks
pub promise_of : (w : World) (scene : Scene) → KeepsAll w → Leaves w.one scene.drives.one.disk.past
    → Leaves w.two scene.drives.two.disk.past → Leaves w.three scene.drives.three.disk.past → KeepsPromiseOf w scene
promise_of w scene keeps one two three x y z may_x may_y may_z =
    let a = one x may_x in
    let b = two y may_y in
    let c = three z may_z in
    let left_a = left_mounted w.one a.kept in
    let left_b = left_mounted w.two b.kept in
    let left_c = left_mounted w.three c.kept in
    record {
      first = image_of w.one x a (keeps.one _ _ left_a);
      second = image_of w.two y b (keeps.two _ _ left_b);
      third = image_of w.three z c (keeps.three _ _ left_c);
      keeps = keeps.word _ _ _ _ _ _ left_a left_b left_c;
    }
