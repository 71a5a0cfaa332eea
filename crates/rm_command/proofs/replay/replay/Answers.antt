use Rattle.std.proofs.Common.{inr}
use Rattle.rm_command.specs.RunLemmas.{writing_ends}
use Rattle.rm_command.proofs.replay.replay.Goals as goal

pub returns-in-Ok-run_script-clause-ends : goal.returns-in-Ok-run_script-clause-ends
returns-in-Ok-run_script-clause-ends g c =
    let events = c.in-Ok-read_script.events.items in
    let script = rw c.as_slice.ensures at c.in-Ok-read_script.ensures.script in
    let within = c.values_are_within.ensures _ events script in
    writing_ends 16777216 _ _ _ _ _ c.write_text.result c.in-Ok.bytes c.in-Ok-run_script.report c.in-Ok.ensures.read
    (record {
      events = events;
      script = script;
      ran = c.in-Ok-run_script.ensures.ok;
      takes = λ terms count s net.
          c.a_delivered_message_is_taken.ensures terms events count s net within;
    })
    (rw (c.in-Ok.ensures.silent, c.as_slice-in-Ok-run_script.ensures) at c.write_text.ensures.ends)

pub returns-clause-ends : goal.returns-clause-ends
returns-clause-ends g c =
    inr (inr (record {
      bytes = c.in-Ok.bytes;
      read = c.in-Ok.ensures.read;
      cut = record {
        events = c.in-Ok-read_script.events.items;
        script = rw c.as_slice.ensures at c.in-Ok-read_script.ensures.script;
        ran = c.in-Err-run_script.ensures.err;
      };
      silent = cc c.in-Ok.ensures.silent;
    }))
