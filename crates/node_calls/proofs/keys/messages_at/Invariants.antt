use Rattle.std.proofs.Common.{◌≡◌, ◌++◌, drop}
use Rattle.rm_protocol.specs.Calls.{messages_at}
use Rattle.tables_ahead.specs.Known.{all_records}
use Rattle.node_calls.proofs.keys.messages_at.Given as goal

abbrev pub invariant-loop-key : goal.invariant-loop-key
invariant-loop-key l =
    let r = all_records l.ahead in l.outs.items ++ messages_at r (drop l.key-index l.keys) ≡ messages_at r l.keys
