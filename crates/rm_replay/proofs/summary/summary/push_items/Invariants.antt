use Rattle.std.proofs.Common.{◌≡◌, ◌++◌, drop}
use Rattle.rm_sides.specs.Destination.Incoming.{inbox}
use Rattle.rm_replay.specs.Summary.Summary.{items_text}
use Rattle.rm_replay.proofs.summary.summary.push_items.Given as goal

abbrev pub invariant-loop-before : goal.invariant-loop-before
invariant-loop-before l =
    l.out ++ items_text l.place l.before (drop l.before (inbox l.incoming.facts))
    ≡ l.initial.out ++ items_text l.place 0 (inbox l.incoming.facts)
