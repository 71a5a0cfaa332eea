use Rattle.rm_protocol.proofs.ReplyLemmas.{reply-blocks}
use Rattle.rm_protocol.proofs.laws.the_reply_has_the_blocks.Goals as goal

pub returns : goal.returns
returns c = reply-blocks
