use Rattle.std.proofs.Common.{inr}
use Rattle.rm_command.specs.RunLemmas.{writing_ends}
use Rattle.rm_relay.specs.Shows.{scene_of}
use Rattle.rm_relay.proofs.RunLemmas.{cut_keeps}
use Rattle.rm_relay.proofs.StatusLemmas.{promise_short}
use Rattle.rm_relay.proofs.relay.relay.Goals as goal

pub returns-in-Ok-run_relay-clause-ends : goal.returns-in-Ok-run_relay-clause-ends
returns-in-Ok-run_relay-clause-ends g c =
    writing_ends 16777216 _ _ _ _ _ c.write_text.result c.in-Ok.bytes c.in-Ok-run_relay.report c.in-Ok.ensures.read
    (record {
      events = c.in-Ok-read_relay.events.items;
      script = rw c.as_slice.ensures at c.in-Ok-read_relay.ensures.script;
      ran = c.in-Ok-run_relay.ensures.ok;
      keeps = λ terms net.
          let ran = c.in-Ok-run_relay.ensures.ok terms net in
          c.a_played_relay_keeps_its_promise.ensures.whole terms c.in-Ok-read_relay.events.items ran.story net
          ran.played (scene_of g.M.Disk.told g.W.Wire.packets c.run_relay.new.stage) ran.holds;
    })
    (rw (c.in-Ok.ensures.silent, c.as_slice-in-Ok-run_relay.ensures) at c.write_text.ensures.ends)

pub returns-clause-ends : goal.returns-clause-ends
returns-clause-ends g c =
    inr (inr (record {
      bytes = c.in-Ok.bytes;
      read = c.in-Ok.ensures.read;
      cut = record {
        events = c.in-Ok-read_relay.events.items;
        script = rw c.as_slice.ensures at c.in-Ok-read_relay.ensures.script;
        ran = c.in-Err-run_relay.ensures.err;
        keeps = λ terms net.
            cut_keeps c.a_played_relay_keeps_its_promise.ensures.whole c.a_played_relay_keeps_its_promise.ensures.short
            terms c.in-Ok-read_relay.events.items (scene_of g.M.Disk.told g.W.Wire.packets c.args.stage.now)
            (scene_of g.M.Disk.told g.W.Wire.packets c.run_relay.new.stage) net
            (c.in-Err-run_relay.ensures.err terms net);
      };
      silent = cc c.in-Ok.ensures.silent;
    }))

pub returns-clause-promise : goal.returns-clause-promise
returns-clause-promise g c =
    promise_short c.args.stage.now c.run_relay.new.stage
    (scene_of g.M.Disk.told g.W.Wire.packets c.args.stage.now)
    (scene_of g.M.Disk.told g.W.Wire.packets c.run_relay.new.stage) c.in-Err-run_relay.ensures.short
