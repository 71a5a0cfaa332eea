use Rattle.std.proofs.Common.{◌≡◌, ◌++◌, length, take, map}
use Rattle.std.specs.List.{flat_map}
use Rattle.record_batch.specs.Batch.{fact_text}
use Rattle.record_batch.specs.Fact.{fact_of}
use Rattle.record_batch.specs.Format.{number32}
use Rattle.record_batch.proofs.write.put_batch.Given as goal

-- how many there are, and those so far, were written
abbrev pub invariant-loop-given : goal.invariant-loop-given
invariant-loop-given l =
    l.out.items ≡ l.fn.out.items
    ++ (number32.written (length l.batch) ++ flat_map fact_text (map fact_of (take l.given-index l.batch)))
