-- A call of a node of a script is a step of the protocol's node.
use Rattle.std.proofs.Common.{◌∙◌, ap}
use Rattle.std.specs.Prelude.{Result, Ok, Err}
use Rattle.rm_base.specs.declared.failures.Memory.{Memory}
use Rattle.rm_disk.specs.Told.{Told}
use Rattle.rm_protocol.specs.Node.{Node, fetched_after, said_after}
use Rattle.rm_protocol.specs.Said.{sent_of}
use Rattle.rm_protocol.specs.Terms.{Terms}
use Rattle.rm_replay.specs.Actor.Actored.{Actored}
use Rattle.rm_node.specs.Asked.{Asked, is_connected}
use Rattle.rm_node.specs.declared.call.Call.{Call}
use Rattle.rm_replay.specs.declared.actor.actor.Came.{Came}
use Rattle.rm_replay.specs.Actor.Steps.{Plays, Steps as CallSteps, answer_of, clocked}
use Rattle.rm_replay.specs.Actor.Outcomes.{is_disk}
use Rattle.rm_replay.specs.Asked.{Steps, WasAsked, bytes_of, step_of}
use Rattle.rm_replay.specs.Tales.{Drive}
use Rattle.rm_replay.proofs.PutLemmas.{bytes_left}

pub plays_step : (terms : Terms) (this : Call) (x : Node) (asked : Asked) (now : Told) (new : Actored)
    (result : Result Came Memory) → Plays terms this x asked now new result
    → Steps x (step_of terms x asked this) now new result
plays_step terms this x asked now new (Ok came) acted =
    let y = clocked this x in
    let answer = answer_of terms x asked in
    record {
      stands = acted.stands;
      outcome = acted.outcome;
      outs = ap bytes_of acted.outs
          ∙ bytes_left (fetched_after y answer) (sent_of (is_connected this) (said_after y answer));
    }
plays_step terms this x asked now new (Err memory) stands = stands

abbrev pub drive : Told → Drive
drive d = record { disk = d; failed = d.faults }

-- nothing crashed
pub was_asked : (first now : Told) (old new : Actored) (this : Call) (result : Result Came Memory)
    → CallSteps first now old new this result → WasAsked (is_disk result) (drive first) (drive now)
was_asked first now old new this result steps = record { crashes = steps.crashes; cause = steps.cause }
