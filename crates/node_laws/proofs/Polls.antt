-- The messages that wait, and what a MakeConnection takes out of them, keep the rules of what is written.
use Rattle.std.proofs.Common.{Bool}
use Rattle.rm_message.specs.Elements.Writable.{IsAckWritable}
use Rattle.rm_message.specs.declared.message.Message.{Message}
use Rattle.rm_protocol.specs.PollLemmas.{IsOfReplies, blocks-all, fetched-all, outs-all, polled_after-all}
use Rattle.rm_protocol.specs.Polls.{blocks_back, with_pending}
use Rattle.node_laws.specs.Keeps.{PollsByTheRules}
use Rattle.node_laws.proofs.Messages.{IsByTheRules}
use Rattle.node_laws.proofs.Said.{with_blocks-kept}

pending-kept : (m : Message) (more : Bool) → IsByTheRules m → IsByTheRules (with_pending m more)
pending-kept m more h = record {
  addressing = h.addressing;
  sequence = h.sequence;
  acks = h.acks;
  asks = h.asks;
  not_understood = h.not_understood;
  body = h.body;
  together = h.together;
}

of-replies : IsOfReplies IsByTheRules
of-replies = record {
  pending = pending-kept;
  blocks = λ m outs h k. with_blocks-kept m (blocks_back outs) h
      (blocks-all IsByTheRules IsAckWritable (λ x rules. rules.acks) outs k);
}

pub polls-kept : PollsByTheRules
polls-kept = record {
  waits = polled_after-all IsByTheRules;
  fetched = fetched-all IsByTheRules of-replies;
  beside = outs-all IsByTheRules;
}
