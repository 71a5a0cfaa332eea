use Rattle.std.proofs.Common.{◌≡◌, ◌++◌, drop}
use Rattle.rm_protocol.specs.Said.{ask_acks}
use Rattle.receive_replies.proofs.acks.ask_acks.Given as goal
use Rattle.tables_ahead.specs.Known.{all_records}

abbrev pub invariant-loop-ident : goal.invariant-loop-ident
invariant-loop-ident l =
    let r = all_records l.ahead in
    l.acks.items ++ ask_acks r l.now l.given.items (drop l.ident-index l.asks)
    ≡ l.fn.acks.items ++ ask_acks r l.now l.fn.given.items l.asks
