use Rattle.std.proofs.Common.{◌≡◌, length}
use Rattle.rm_protocol.specs.Terms.{Terms}
use Rattle.rm_replay.specs.Net.{AreOfNet}
use Rattle.rm_relay.specs.Playing.{AllPlayed}
use Rattle.rm_relay.specs.Shows.{scene_of}
use Rattle.rm_relay.proofs.play.play.Given as goal

-- the lines so far were played
abbrev pub invariant-loop-event : goal.invariant-loop-event
invariant-loop-event g l = record {
  counted : l.number ≡ length l.yielded;
  played : (terms : Terms) → AreOfNet terms → AllPlayed terms l.yielded
      (scene_of g.M.Disk.told g.W.Wire.packets l.fn.stage)
      (scene_of g.M.Disk.told g.W.Wire.packets l.stage) l.nodes l.senders.items l.report;
}
