use Rattle.std.proofs.Common.{Err, ap, refl}
use Rattle.rm_policy.specs.Alternatives.Texts.{normal_text}
use Rattle.rm_command.specs.RunLemmas.{writing_ends}
use Rattle.rm_command.proofs.alternatives.intersect.Goals as goal

pub returns-in-Ok-common_of-clause-ends : goal.returns-in-Ok-common_of-clause-ends
returns-in-Ok-common_of-clause-ends g c =
    writing_ends 2097152 _ _ _ _ _ c.print.result c.in-Ok.bytes (normal_text c.in-Ok-common_of.found)
    c.in-Ok.ensures.read (record {
      lists = c.in-Ok-common_of.found;
      found = rw c.as_slice.ensures at c.in-Ok-common_of.ensures.found;
      printed = refl;
    })
    (rw c.in-Ok.ensures.silent at c.print.ensures.ends)

pub returns-in-Err-Faulty-clause-ends : goal.returns-in-Err-Faulty-clause-ends
returns-in-Err-Faulty-clause-ends g c =
    let has = c.in-Err-Faulty.ensures.faulty c.in-Err-Faulty.fault (ap Err c.in-Err-Faulty.field-0-is) in
    rw c.refuse.ensures.same (record {
      bytes = c.in-Ok.bytes;
      read = c.in-Ok.ensures.read;
      refuses = rw c.in-Err-Faulty.field-0-is (rw c.as_slice.ensures at has);
      said = rw (c.in-Ok.ensures.silent, c.line.ensures) at c.refuse.ensures.said;
    })
