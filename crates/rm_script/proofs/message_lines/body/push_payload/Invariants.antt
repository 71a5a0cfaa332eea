use Rattle.std.proofs.Common.{◌≡◌, ◌++◌, drop}
use Rattle.std.specs.List.{flat_map}
use Rattle.rm_script.specs.MessageLines.Lines.{scope_line}
use Rattle.rm_script.proofs.message_lines.body.push_payload.Given as goal

abbrev pub invariant-loop-binding : goal.invariant-loop-binding
invariant-loop-binding l =
    l.out ++ flat_map scope_line (drop l.binding-index l.binding-items)
    ≡ l.initial.out ++ flat_map scope_line l.binding-items
