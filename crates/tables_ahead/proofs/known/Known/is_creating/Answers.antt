use Rattle.std.proofs.Common.{◌≡◌, ◌∙◌, true, ap, sym}
use Rattle.std.specs.Prelude.{◌&&◌}
use Rattle.record_batch.specs.Sequences.Find.{is_creating}
use Rattle.record_batch.specs.Sequences.Makers.{number}
use Rattle.record_batch.specs.Sequences.Sources.{phase}
use Rattle.node_tables.specs.AskingLemmas.{creating-by}
use Rattle.node_tables.specs.Reads.{is_asked, is_asking, maker_seen, passes}
use Rattle.tables_ahead.proofs.known.Known.is_creating.Goals as goal
use Rattle.tables_ahead.specs.Known.{all_records}

pub returns-then-is_asked : goal.returns-then-is_asked
returns-then-is_asked c = λ q h.
    let r = all_records c.args.self.now in
    let s = c.args.seq in
    let m = maker_seen c.in-Some.maker in
    let t : is_asked (number r) q m ≡ true = sym (c.is_asked.ensures.is (number r) q h) ∙ c.if-is_asked.true in
    c.is_asking.ensures ∙ ap (λ b. b && is_asking (phase r s)) (sym t) ∙ sym (creating-by r q s m)
    ∙ ap (passes (is_creating r q) s) c.in-Some.ensures

pub returns-else-is_asked : goal.returns-else-is_asked
returns-else-is_asked c = λ q h.
    let r = all_records c.args.self.now in
    let s = c.args.seq in
    let m = maker_seen c.in-Some.maker in
    c.if-is_asked.false
    ∙ ap (λ b. b && is_asking (phase r s)) (sym c.if-is_asked.false ∙ c.is_asked.ensures.is (number r) q h)
    ∙ sym (creating-by r q s m) ∙ ap (passes (is_creating r q) s) c.in-Some.ensures
