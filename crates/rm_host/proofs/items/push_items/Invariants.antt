use Rattle.std.proofs.Common.{◌≡◌, ◌++◌}
use Rattle.rm_sides.specs.Destination.Incoming.{inbox}
use Rattle.rm_host.specs.Sequences.{passed_lines}
use Rattle.rm_host.proofs.items.push_items.Given as goal

abbrev pub invariant-loop-before : goal.invariant-loop-before
invariant-loop-before l =
    l.text ++ passed_lines l.seq l.before l.upto (inbox l.incoming.facts)
    ≡ l.initial.text ++ passed_lines l.seq l.from l.upto (inbox l.incoming.facts)
