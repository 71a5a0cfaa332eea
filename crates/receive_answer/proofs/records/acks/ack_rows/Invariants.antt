use Rattle.std.proofs.Common.{◌≡◌, drop}
use Rattle.std.specs.List.{AllByRecursion}
use Rattle.rm_protocol.specs.Next.{HasRanges}
use Rattle.rm_protocol.specs.Rows.{ack_rows}
use Rattle.receive_answer.specs.Records.WithRow.{with_row}
use Rattle.receive_answer.proofs.records.acks.ack_rows.Given as goal

-- the rows of the blocks that are left, behind those so far, are those of all blocks
abbrev pub invariant-loop-block : goal.invariant-loop-block
invariant-loop-block l = record {
  records_ : l.ahead.records ≡ l.fn.ahead.records;
  told : with_row (ack_rows (drop l.block-index l.blocks)) l.ahead ≡ with_row (ack_rows l.blocks) l.fn.ahead;
  ranges : AllByRecursion HasRanges (drop l.block-index l.blocks);
}
