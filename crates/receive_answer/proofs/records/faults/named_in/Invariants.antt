use Rattle.std.proofs.Common.{◌≡◌, ◌++◌, drop, map}
use Rattle.soap_document.specs.Profile.View.{element_view}
use Rattle.rm_protocol.specs.Detail.{named_in}
use Rattle.receive_answer.proofs.records.faults.named_in.Given as goal
use Rattle.tables_ahead.specs.Known.{all_records}

abbrev pub invariant-loop-element : goal.invariant-loop-element
invariant-loop-element l =
    let r = all_records l.ahead in
    named_in r (map element_view (drop l.element-index l.detail)) ≡ named_in r (map element_view l.detail)
