use Rattle.std.proofs.Common.{sym, ap, ◌∙◌}
use Rattle.std.specs.Prelude.{flat_map}
use Rattle.timers.proofs.SlotsLemmas.DueLemmas.{due_of, due_by_class}
use Rattle.timers.proofs.slots.laws.due_is_seen_by_class.Goals as goal

pub returns : goal.returns
returns c now waits others same =
    due_by_class now waits ∙ ap (flat_map (due_of now)) same ∙ sym (due_by_class now others)
