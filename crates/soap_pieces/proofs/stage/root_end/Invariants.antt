use Rattle.std.proofs.Common.{◌≡◌, ◌≤◌, ◌-◌, length}
use Rattle.soap_document.specs.Seen.{IsTold, fed_len}
use Rattle.soap_pieces.specs.Depth.{open_count}
use Rattle.soap_pieces.proofs.stage.root_end.Given as goal

abbrev pub invariant-loop-more : goal.invariant-loop-more
invariant-loop-more l = record {
  told : IsTold open_count l.reader;
  place : fed_len l.reader ≡ l.end;
  within : l.end ≤ length l.bytes;
}

abbrev pub decreases-loop-more : goal.decreases-loop-more
decreases-loop-more l = length l.bytes - l.end
