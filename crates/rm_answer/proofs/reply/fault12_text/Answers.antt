use Rattle.std.proofs.Common.{None}
use Rattle.message_writer.specs.Faults.{fault_of}
use Rattle.rm_answer.proofs.ReplyLemmas.{text-of-same}
use Rattle.rm_answer.proofs.reply.fault12_text.Goals as goal

pub returns : goal.returns
returns c =
    text-of-same c.in_ok-message.message (fault_of c.args.refusal.now None) c.in_ok-message.ensures c.encoded.result
    c.encoded.ensures
