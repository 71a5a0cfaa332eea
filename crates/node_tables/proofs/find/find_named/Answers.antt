use Rattle.std.proofs.Common.{◌∙◌, ◌+◌, List, drop, map, cond, get_or, sym, ap, Some, Bool}
use Rattle.std.proofs.lemmas.List.{at_drop_more}
use Rattle.record_batch.specs.Fact.{fact_of}
use Rattle.record_batch.specs.Sequences.Makers.{seq_in}
use Rattle.node_tables.specs.declared.note.Named.{Named}
use Rattle.node_tables.specs.Kept.{named_at}
use Rattle.node_tables.proofs.find.find_named.Goals as goal

pub returns-then-gives_at : goal.returns-then-gives_at
returns-then-gives_at c =
    let f = λ (xs : List Named). seq_in (map (named_at (map fact_of c.args.kept.now)) xs) c.args.ident.now in
    let i = c.loop-given.given-index in
    let named = c.args.named.now in
    let more = at_drop_more f named i (record { seq = 0; place = 0 }) c.loop-given-test.true in
    sym (sym c.loop-given.invariant ∙ more
    ∙ ap (λ (b : Bool). cond b (Some (get_or named i (record { seq = 0; place = 0 })).seq) (f (drop (i + 1) named)))
    (sym c.gives_at.ensures ∙ c.if-gives_at.true))

pub loop-given-preserved : goal.loop-given-preserved
loop-given-preserved c =
    let f = λ (xs : List Named). seq_in (map (named_at (map fact_of c.args.kept.now)) xs) c.args.ident.now in
    let i = c.loop-given.given-index in
    let named = c.args.named.now in
    let more = at_drop_more f named i (record { seq = 0; place = 0 }) c.loop-given-test.true in
    sym (more
    ∙ ap (λ (b : Bool). cond b (Some (get_or named i (record { seq = 0; place = 0 })).seq) (f (drop (i + 1) named)))
    (sym c.gives_at.ensures ∙ c.if-gives_at.false))
    ∙ c.loop-given.invariant
