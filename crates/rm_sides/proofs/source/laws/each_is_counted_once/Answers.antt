use Rattle.std.proofs.Common.{arith}
use Rattle.rm_sides.proofs.SourceLemmas.AckedLemmas.{count_of-within}
use Rattle.rm_sides.proofs.source.laws.each_is_counted_once.Goals as goal

pub returns : goal.returns
returns c = λ s sound. omega (arith, count_of-within s.acked sound.canonical, sound.within)
