use Rattle.std.proofs.Common.{◌∙◌, ◌+◌, List, drop, map, cond, get_or, sym, ap, None, Some, Bool}
use Rattle.std.proofs.lemmas.Bool.{eq-eqb}
use Rattle.std.proofs.lemmas.List.{at_drop_more}
use Rattle.record_batch.specs.Fact.{fact_of}
use Rattle.record_batch.specs.Sequences.Makers.{ident_in}
use Rattle.node_tables.specs.declared.note.Named.{Named}
use Rattle.node_tables.specs.Kept.{ident_given, kept_at, named_at}
use Rattle.node_tables.proofs.MakerLemmas.{given-at}
use Rattle.node_tables.proofs.find.find_ident.Goals as goal

pub returns-then-given-seq : goal.returns-then-given-seq
returns-then-given-seq c =
    let kept = map fact_of c.args.kept.now in
    let named = c.args.named.now in
    let i = c.loop-given.given-index in
    let none : Named = record { seq = 0; place = 0 } in
    let f = λ (xs : List Named). ident_in (map (named_at kept) xs) c.args.seq in
    let given = ident_given (kept_at kept (get_or named i none).place) in
    c.ident_at.ensures
    ∙ ap (λ (b : Bool). cond b (Some given) None) (given-at kept named i none c.requires c.loop-given-test.true)
    ∙ sym (at_drop_more f named i none c.loop-given-test.true
    ∙ ap (λ (b : Bool). cond b (Some given) (f (drop (i + 1) named)))
    (eq-eqb (get_or named i none).seq c.args.seq c.if-given-seq.true))
    ∙ c.loop-given.invariant
