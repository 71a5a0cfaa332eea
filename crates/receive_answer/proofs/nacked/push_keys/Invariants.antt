use Rattle.std.proofs.Common.{◌≡◌, ◌++◌, drop, map}
use Rattle.rm_protocol.specs.Waiting.{key}
use Rattle.receive_answer.proofs.nacked.push_keys.Given as goal

abbrev pub invariant-loop-number : goal.invariant-loop-number
invariant-loop-number l =
    l.keys.items ++ map (key l.seq) (drop l.number-index l.numbers) ≡ l.fn.keys.items ++ map (key l.seq) l.numbers
