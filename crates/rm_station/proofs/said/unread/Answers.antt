use Rattle.std.proofs.Common.{◌∙◌, sym}
use Rattle.rm_station.proofs.SaidLemmas.{memory-only}
use Rattle.rm_station.proofs.said.unread.Goals as goal

pub returns-then-is_memory-clause-err : goal.returns-then-is_memory-clause-err
returns-then-is_memory-clause-err c = memory-only c.args.end (sym c.is_memory.ensures ∙ c.if-is_memory.true)
