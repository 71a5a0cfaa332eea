use Rattle.std.proofs.Common.{Err, ap}
use Rattle.rm_command.proofs.filter.read_pieces.Goals as goal

pub returns-in-Err-Failed-clause-refused : goal.returns-in-Err-Failed-clause-refused
returns-in-Err-Failed-clause-refused g c =
    rw c.refuse.ensures.same (c.in-Err-Failed.ensures.failed (ap Err c.in-Err-Failed.field-0-is), c.refuse.ensures.said)
