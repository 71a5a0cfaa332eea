use Rattle.std.proofs.Common.{Err, ap}
use Rattle.rm_command.proofs.soak.events_of.Goals as goal

pub unreachable-requires : goal.unreachable-requires
unreachable-requires c =
    let said = c.a_soak_is_a_script.ensures.script c.args.number in
    let bad = c.in-Err-BadLine.ensures.bad_line c.in-Err-BadLine.field-0-0 (ap Err c.in-Err-BadLine.field-0-is) in
    c.no_bad_line.ensures _ said.0 _ said.1 (rw (c.as_slice.ensures, c.in_ok-script.ensures) at bad)
