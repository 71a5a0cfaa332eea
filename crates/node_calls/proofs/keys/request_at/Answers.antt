use Rattle.std.proofs.Common.{◌≡◌, subst, sym}
use Rattle.std.specs.Prelude.{IfOk}
use Rattle.rm_sides.specs.declared.source.phase.OutPhase.{OutPhase}
use Rattle.rm_protocol.specs.Messages.{request_by}
use Rattle.tables_ahead.specs.Known.{all_records}
use Rattle.node_calls.proofs.keys.request_at.Goals as goal

pub request_by-requires-clause-phase : goal.request_by-requires-clause-phase
request_by-requires-clause-phase c = sym c.phase.ensures

pub returns : goal.returns
returns c =
    subst (λ (p : OutPhase). IfOk c.request_by.result (λ m. m ≡ request_by (all_records c.args.ahead.now) c.args.seq p))
    c.phase.ensures c.request_by.ensures
