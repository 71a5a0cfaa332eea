use Rattle.rm_command.proofs.CheckLemmas.{refused_kind}
use Rattle.rm_command.proofs.check_text.text_of.Goals as goal

pub fault_of-requires : goal.fault_of-requires
fault_of-requires c =
    let some = c.requires in
    let refuses = rw c.in-Err-Refused.field-0-is at (c.in-Err-Refused.ensures.err some.bytes some.reading) in
    rw c.in-Err-Refused.refusal-is (refused_kind some.bytes c.in-Err-Refused.refusal refuses some.fits)
