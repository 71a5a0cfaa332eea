use Rattle.std.proofs.Common.{◌∙◌, ap, arith}
use Rattle.std.proofs.lemmas.List.{length-map}
use Rattle.node_tables.specs.Row.Row.{Seen}
use Rattle.node_tables.proofs.ForgetLemmas.{forgot-all, forgot-next}
use Rattle.node_tables.proofs.rows.forget_all.Goals as goal

pub loop-k-preserved : goal.loop-k-preserved
loop-k-preserved c = record {
  told =
      forgot-next c.loop-k.rows.items _ c.loop-k.k c.index_mut.result.now c.forget.new.self
      (omega (arith, c.loop-k-test.true, c.len-k-end.ensures, c.loop-k.invariant.len)) c.index_mut.ensures.value
      (ap (λ (r : Seen). r.told) c.forget.ensures) c.loop-k.invariant.told;
  len = c.loop-k.invariant.len;
  capacity = c.loop-k.invariant.capacity;
}

pub returns-clause-told : goal.returns-clause-told
returns-clause-told c =
    c.loop-k.invariant.told
    ∙ forgot-all c.loop-k.k _
    (omega (
      arith,
      c.loop-k-test.false,
      c.len-k-end.ensures,
      length-map c.args.rows.now.items (λ (r : Seen). r.told),
    ))
