use Rattle.std.proofs.Common.{◌≡◌, ◌<◌, ◌≤◌, ◌∙◌, ◌&&◌, ◌+◌, ◌-◌, ◌^◌, min, ℕ, Bool, List, [], length, map, sym, ap}
use Rattle.std.proofs.Common.{arith}
use Rattle.std.specs.Prelude.{nat_le}
use Rattle.std.proofs.lemmas.List.{length-map, take_all}
use Rattle.record_batch.specs.Fact.{Fact, Made, fact_of}
use Rattle.rm_disk.specs.Journal.Entries.{list_of}
use Rattle.rm_protocol.specs.Node.{alone}
use Rattle.node_store.specs.Has.{entries_of}
use Rattle.node_store.specs.Rewrites.{fit_as_entries}
use Rattle.node_store.proofs.RewriteLemmas.{measures_more, slice_one}
use Rattle.node_store.proofs.rewrite.measure.Goals.{then-fit, else-fit}
use Rattle.node_store.proofs.rewrite.measure.Goals as goal

pub loop-k-preserved : goal.loop-k-preserved
loop-k-preserved c =
    let m = c.loop-k.invariant in
    let r = map fact_of c.args.records.now in
    let fit : c.if-fit.fit ≡ (c.loop-k.fit && nat_le c.in_ok-len.len 4194304) = elim c.if-fit.branch [
      | then-fit w ↦ w.fit-is ∙ sym (ap (λ (b : Bool). b && nat_le c.in_ok-len.len 4194304) w.if-fit.true)
      | else-fit w ↦ w.fit-is ∙ w.if-fit.false
          ∙ sym (ap (λ (b : Bool). b && nat_le c.in_ok-len.len 4194304) w.if-fit.false)
    ] in
    let low : c.loop-k.k < length r = omega (arith, c.loop-k-test.true, length-map c.args.records.now fact_of) in
    let more = measures_more r _ c.loop-k.k c.loop-k.size c.in_ok-len.len c.loop-k.fit (Made 0 []) low
    (slice_one fact_of c.args.records.now c.loop-k.k (Made 0 []) c.loop-k-test.true) c.in_ok-len.ensures.len
    m.measures in
    record {
      measures = record {
        is = c.saturating_add-size.ensures ∙ ap (λ (n : ℕ). min (n + 5) (2 ^ 64 - 1)) c.saturating_add.ensures
            ∙ more.is;
        fits = fit ∙ more.fits;
      };
      end_is = m.end_is;
    }

pub returns-clause-size : goal.returns-clause-size
returns-clause-size c =
    let rs = c.args.records.now in
    let all : length (map fact_of rs) ≤ c.loop-k.k = omega (arith, c.loop-k-test.false, length-map rs fact_of) in
    c.loop-k.invariant.measures.is
    ∙ ap (λ (l : List Fact). min (length (list_of (entries_of (alone l)))) (2 ^ 64 - 1))
    (take_all c.loop-k.k (map fact_of rs) all)

pub returns-clause-fit : goal.returns-clause-fit
returns-clause-fit c =
    let rs = c.args.records.now in
    let all : length (map fact_of rs) ≤ c.loop-k.k = omega (arith, c.loop-k-test.false, length-map rs fact_of) in
    c.loop-k.invariant.measures.fits
    ∙ ap (λ (l : List Fact). fit_as_entries (entries_of (alone l))) (take_all c.loop-k.k (map fact_of rs) all)
