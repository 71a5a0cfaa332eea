use Rattle.std.proofs.Common.{None, Some, subst}
use Rattle.rm_host.specs.Sequences.{IsFirstTo}
use Rattle.rm_station.proofs.said.offer.Goals as goal

pub go_on-requires-clause-first : goal.go_on-requires-clause-first
go_on-requires-clause-first g c =
    subst (λ records. IsFirstTo records c.args.to (Some c.in-Some.seq)) c.tables.ensures c.in-Some.ensures

pub begin-requires-clause-first : goal.begin-requires-clause-first
begin-requires-clause-first g c =
    subst (λ records. IsFirstTo records c.args.to None) c.tables.ensures c.in-None.ensures

pub returns-in-Some-clause-tells : goal.returns-in-Some-clause-tells
returns-in-Some-clause-tells g c = c.go_on.ensures.tells

pub returns-in-None-clause-tells : goal.returns-in-None-clause-tells
returns-in-None-clause-tells g c = c.begin.ensures.tells
