use Rattle.std.proofs.Common.{◌≡◌, ◌+◌, ◌++◌, ◌∷◌, ℕ, List, ap, arith, refl, sym, subst, length-append, []}
use Rattle.std.proofs.lemmas.Result.{err_from_is_err_and}
use Rattle.std.specs.Vec.Iter.{into_iter_items}
use Rattle.rm_base.specs.IteratorLemmas.{taken_front}
use Rattle.rm_relay.specs.declared.word.station.Station.{Station}
use Rattle.rm_relay.specs.Playing.{AllPlayed}
use Rattle.rm_relay.specs.Shows.{scene_of}
use Rattle.rm_relay.proofs.StoryLemmas.{played_more, played_none, short_line}
use Rattle.rm_relay.proofs.play.play.Goals as goal

pub loop-event-init : goal.loop-event-init
loop-event-init g c = record {
  counted = refl;
  played = λ terms net.
      let scene = scene_of g.M.Disk.told g.W.Wire.packets c.args.stage.now in
      subst (λ (senders : List Station). AllPlayed terms [] scene scene c.args.nodes.now senders c.args.report.now)
      (sym c.new-senders.ensures.items)
      (played_none terms scene c.args.nodes.now [] c.args.report.now c.requires.there c.requires.first);
}

pub play_line-requires-clause-there : goal.play_line-requires-clause-there
play_line-requires-clause-there g c =
    let net = c.there_are_nets.ensures in
    let all = c.loop-event.invariant.played net.0 net.1 in
    (all.story.world, all.shows)

pub loop-event-preserved : goal.loop-event-preserved
loop-event-preserved g c =
    let loop = c.loop-event in
    let first = scene_of g.M.Disk.told g.W.Wire.packets c.args.stage.now in
    let old = scene_of g.M.Disk.told g.W.Wire.packets loop.stage in
    let new = scene_of g.M.Disk.told g.W.Wire.packets c.play_line.new.stage in
    record {
      counted = omega (arith, loop.invariant.counted, length-append loop.yielded (c.in-Some.event ∷ []));
      played = λ terms net.
          let all = loop.invariant.played terms net in
          played_more terms loop.yielded c.in-Some.event (loop.number + 1) first old new loop.nodes
          c.play_line.new.nodes loop.senders.items c.play_line.new.senders.items loop.report
          c.play_line.new.report all (ap (λ (n : ℕ). n + 1) loop.invariant.counted)
          (c.in_ok-play_line.ensures terms net all.story.world all.shows);
    }

pub returns-in_err-play_line : goal.returns-in_err-play_line
returns-in_err-play_line g c terms net =
    let loop = c.loop-event in
    let p = err_from_is_err_and c.from_residual.result c.from_residual.ensures.1 in
    let taken = taken_front c.into_iter-event-iterator.result loop.yielded loop.event-iterator loop.yielded_by in
    let next = c.in-Some.ensures.steps in
    let first = c.into_iter-event-iterator.ensures.into_iter_gives in
    let events : c.args.script.items ≡ loop.yielded ++ c.in-Some.event ∷ into_iter_items c.next.new.self =
    cc (taken, next.0, first.0) in
    let all = loop.invariant.played terms net in
    rw p.1 (short_line terms c.args.script.items loop.yielded (into_iter_items c.next.new.self) c.in-Some.event
    (scene_of g.M.Disk.told g.W.Wire.packets c.args.stage.now)
    (scene_of g.M.Disk.told g.W.Wire.packets loop.stage)
    (scene_of g.M.Disk.told g.W.Wire.packets c.play_line.new.stage) loop.nodes loop.senders.items
    loop.report all events
    (c.in_err-play_line.ensures terms net all.story.world all.shows))
