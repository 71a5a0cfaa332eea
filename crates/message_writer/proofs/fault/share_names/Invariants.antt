use Rattle.std.proofs.Common.{◌≡◌, ◌++◌, drop}
use Rattle.message_writer.proofs.fault.share_names.Given as goal

-- those so far, and those of what is left
abbrev pub invariant-loop-name : goal.invariant-loop-name
invariant-loop-name l =
    l.shared ++ drop l.name-index l.name-items ≡ l.name-items
