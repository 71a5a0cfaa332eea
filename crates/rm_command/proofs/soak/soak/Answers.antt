use Rattle.std.proofs.Common.{inl, inr, refl}
use Rattle.rm_script.specs.Script.{lines_of}
use Rattle.rm_script.specs.Soak.Soak.{soak_script}
use Rattle.rm_command.proofs.SoakLemmas.{begun_not, summary_ends}
use Rattle.rm_command.proofs.soak.soak.Goals as goal

pub returns-in-Ok-summary-clause-ends : goal.returns-in-Ok-summary-clause-ends
returns-in-Ok-summary-clause-ends g c =
    let events = c.in-Ok.events.items in
    let within = c.values_are_within.ensures (lines_of (soak_script c.args.number)) events c.in-Ok.ensures in
    summary_ends c.args.number c.write_text.result _ _ _ _ c.in-Ok-run_script.report
    (record {
      events = events;
      script = c.in-Ok.ensures;
      ran = c.in-Ok-run_script.ensures.ok;
      takes = λ terms count s net.
          c.a_delivered_message_is_taken.ensures terms events count s net within;
    })
    (rw (c.as_slice-in-Ok-summary.ensures, c.in-Ok-summary.ensures, c.as_slice.ensures) at c.write_text.ensures.ends)

pub returns-clause-ends : goal.returns-clause-ends
returns-clause-ends g c =
    let events = c.in-Ok.events.items in
    let within = c.values_are_within.ensures (lines_of (soak_script c.args.number)) events c.in-Ok.ensures in
    inl (record {
      report = c.in-Ok-run_script.report;
      played = record {
        events = events;
        script = c.in-Ok.ensures;
        ran = c.in-Ok-run_script.ensures.ok;
        takes = λ terms count s net.
            c.a_delivered_message_is_taken.ensures terms events count s net within;
      };
      written = begun_not (g.K.Sink.told c.args.out.now) _;
    })

pub returns-in-Err-run_script-clause-ends : goal.returns-in-Err-run_script-clause-ends
returns-in-Err-run_script-clause-ends g c =
    inr (
      refl,
      inr (record {
        events = c.in-Ok.events.items;
        script = c.in-Ok.ensures;
        ran = c.in-Err-run_script.ensures.err;
      }),
    )
