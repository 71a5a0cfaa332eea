use Rattle.timers.proofs.LinksLemmas.FirstDueLemmas.{first_due_some, first_due_none}
use Rattle.timers.proofs.links.laws.first_due_is_lowest.Goals as goal

pub returns : goal.returns
returns c = record { some = first_due_some; none = first_due_none }
