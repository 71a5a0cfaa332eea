use Rattle.std.proofs.Common.{Err, ap}
use Rattle.rm_command.proofs.policy.policy.Goals as goal

pub returns-in-Err-Faulty-clause-ends : goal.returns-in-Err-Faulty-clause-ends
returns-in-Err-Faulty-clause-ends g c =
    let has = c.in-Err-Faulty.ensures.faulty c.in-Err-Faulty.fault (ap Err c.in-Err-Faulty.field-0-is) in
    rw c.refuse.ensures.same (record {
      bytes = c.in-Ok.bytes;
      read = c.in-Ok.ensures.read;
      refuses = rw c.as_slice.ensures at has;
      said = rw (c.in-Ok.ensures.silent, c.line.ensures) at c.refuse.ensures.said;
    })
