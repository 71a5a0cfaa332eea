use Rattle.timers.proofs.SlotsLemmas.PlainLemmas.{one_at, others_at, moved_is}
use Rattle.timers.proofs.slots.laws.one_entry_moves.Goals as goal

pub returns : goal.returns
returns c = record { one = one_at; others = others_at; moved = moved_is }
