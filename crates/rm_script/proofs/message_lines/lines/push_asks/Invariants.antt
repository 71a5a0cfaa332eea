use Rattle.std.proofs.Common.{◌≡◌, ◌++◌, drop}
use Rattle.std.specs.List.{flat_map}
use Rattle.rm_script.specs.MessageLines.Lines.{ask_line}
use Rattle.rm_script.proofs.message_lines.lines.push_asks.Given as goal

abbrev pub invariant-loop-ident : goal.invariant-loop-ident
invariant-loop-ident l =
    l.out ++ flat_map ask_line (drop l.ident-index l.idents) ≡ l.initial.out ++ flat_map ask_line l.idents
