use Rattle.std.proofs.Common.{◌∙◌, List, ℕ, ap, subst}
use Rattle.std.specs.Prelude.{Option}
use Rattle.rm_station.specs.Asks.{PolledBy, understood}
use Rattle.rm_station.proofs.ask.unsent_of.Goals as goal

pub returns-in-Some : goal.returns-in-Some
returns-in-Some c =
    subst (λ (o : Option (List ℕ)). PolledBy c.args.line.now o c.poll_of.result) c.in-Some.ensures c.poll_of.ensures

pub returns-in-None : goal.returns-in-None
returns-in-None c =
    subst (λ (o : Option (List ℕ)). PolledBy c.args.line.now o c.understood.result) c.in-None.ensures
    (c.understood.ensures ∙ ap understood c.plain_of.ensures)
