use Rattle.std.proofs.Common.{refl, arith}
use Rattle.rm_command.proofs.SoakLemmas.{soak_runs}
use Rattle.rm_command.proofs.command.obey.Goals as goal

pub returns-in-Some-Soak : goal.returns-in-Some-Soak
returns-in-Some-Soak g c =
    soak_runs c.args.words.now c.in-Some-Soak.number c.soak.result _ _ _
    (rw c.in-Some-Soak.field-0-is at c.in-Some-Soak.ensures)
    (record { ends = c.soak.ensures.ends; unread = refl })
    (record { never_falls = omega arith; sound = λ sound. (sound, refl) }) c.soak.ensures.kept
