use Rattle.std.proofs.Common.{◌≡◌, ◌∙◌}
use Rattle.std.specs.Prelude.{is_ok}
use Rattle.rm_disk.specs.Journal.EntryLemmas.{end_is}
use Rattle.rm_disk.proofs.JournalLemmas.Crash.{gate_bytes, gate_done, gate_moments}
use Rattle.rm_disk.proofs.journal.carrying.carry.Goals as goal

pub returns-clause-carries : goal.returns-clause-carries
returns-clause-carries g c tells journal entries all fits at opens =
    let past = (g.D.Disk.told c.args.disk.now).past in
    let new = (g.D.Disk.told c.write_block.new.disk).past in
    let ok = is_ok c.write_block.result in
    let place = at ∙ end_is journal entries fits.gates in
    record {
      moments = gate_moments past journal.bank entries all fits.images c.args.body.now c.args.gate place opens new ok
          (c.write_block.ensures.calls tells);
      done = λ well bytes may. gate_done past journal.bank entries all fits.images c.args.body.now c.args.gate place
          opens new ok well (c.write_block.ensures.calls tells) bytes may;
    }
