use Rattle.std.proofs.Common.{◌≡◌, ◌∙◌, IfOk, ap, subst, sym}
use Rattle.std.specs.Option.{option_map}
use Rattle.node_tables.specs.declared.note.Note.{Note}
use Rattle.node_tables.specs.Kept.{fact_at, tolds}
use Rattle.node_tables.specs.Shorter.{IsProperNote, fact_instead}
use Rattle.node_tables.proofs.PastLemmas.{ranges-proper}
use Rattle.node_tables.proofs.snapshot.instead.Goals as goal

pub returns-in-Accepted-clause-fact : goal.returns-in-Accepted-clause-fact
returns-in-Accepted-clause-fact c kept =
    c.accepted_instead.ensures.fact kept c.args.seen.now
    ∙ ap (λ (n : Note). fact_instead kept (tolds c.args.rows.now) c.args.seen.now n) (sym c.in-Accepted.is)

pub returns-in-Received-clause-fact : goal.returns-in-Received-clause-fact
returns-in-Received-clause-fact c kept =
    c.received_instead.ensures.fact kept c.args.seen.now
    ∙ ap (λ (n : Note). fact_instead kept (tolds c.args.rows.now) c.args.seen.now n) (sym c.in-Received.is)

pub returns-in-Acked-clause-fact : goal.returns-in-Acked-clause-fact
returns-in-Acked-clause-fact c kept =
    subst (λ (n : Note). IfOk c.acked_instead.result (λ other. option_map (fact_at kept (tolds c.args.rows.now)) other
    ≡ fact_instead kept (tolds c.args.rows.now) c.args.seen.now n)) (sym c.in-Acked.is)
    (c.acked_instead.ensures.fact kept)

pub returns-in-Acked-clause-proper : goal.returns-in-Acked-clause-proper
returns-in-Acked-clause-proper c =
    subst IsProperNote (sym c.in-Acked.is)
    (ranges-proper 1 c.in-Acked.numbers.ranges c.ranges-ranges.ensures.canonical)

pub returns-in-Purged-clause-fact : goal.returns-in-Purged-clause-fact
returns-in-Purged-clause-fact c kept =
    subst (λ (n : Note). IfOk c.purged_instead.result (λ other. option_map (fact_at kept (tolds c.args.rows.now)) other
    ≡ fact_instead kept (tolds c.args.rows.now) c.args.seen.now n)) (sym c.in-Purged.is)
    (c.purged_instead.ensures.fact kept c.args.seen.now)
