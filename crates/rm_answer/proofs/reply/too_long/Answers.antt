use Rattle.message_reader.specs.Refusals.{blind}
use Rattle.rm_message.specs.declared.refusal.FaultKind.TheVariants.{TooLong}
use Rattle.rm_answer.proofs.ReplyLemmas.{reply-of-same}
use Rattle.rm_answer.proofs.reply.too_long.Goals as goal

pub returns-clause-is : goal.returns-clause-is
returns-clause-is c =
    reply-of-same c.args.media c.in_ok-refusal.refusal (blind TooLong) c.in_ok-refusal.ensures c.fault_reply.result
    c.fault_reply.ensures.is
