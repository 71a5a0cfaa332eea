-- A snapshot of a node's records is such records.
use Rattle.std.proofs.Common.{◌≡◌, ℕ, ◌+◌, ◌≤◌, true, List, [], ◌∷◌, length, sym, ◌∙◌, ap, subst}
use Rattle.rm_sides.specs.Ranges.Laws.{EndsAreRight, SameNumbersSameRanges, UnionHasBoth}
use Rattle.rm_base.specs.Limits as limits
use Rattle.rm_base.specs.Numbered.{numbered}
use Rattle.record_batch.specs.Fact.{Fact, Made, Acked}
use Rattle.record_batch.specs.Sequences.Fits.{all_fit, is_incoming_side, is_outgoing_side}
use Rattle.record_batch.specs.Sequences.Makers.{Maker, maker}
use Rattle.node_laws.specs.Records.{AreValues, BeginsWithMade, HasValues, IsKept, KeepsLimits}
use Rattle.record_batch.specs.Snapshot.EachLemmas.{each-acked, each-purged, keeps}
use Rattle.record_batch.specs.Snapshot.FactLemmas.{facts-equal}
use Rattle.record_batch.specs.Snapshot.GoneLemmas.{numbers-from-one}
use Rattle.record_batch.specs.Snapshot.KeepLemmas.{snapshot-says}
use Rattle.record_batch.specs.Snapshot.Same.{HasProper, HaveProper, UnionsAreSets}
use Rattle.record_batch.specs.Snapshot.SameLemmas.{sets-unite, unacked-is-equal}
use Rattle.record_batch.specs.Snapshot.Snapshot.{left_acked, passed, snapshot}
use Rattle.record_batch.specs.Snapshot.WalkLemmas.{snapshot-fits}
use Rattle.record_batch.specs.Snapshot.WrittenLemmas.{left-set, proper, snapshot-is-proper}

proper_of : (f : Fact) → HasValues f → HasProper f
proper_of (Acked seq ranges) h = proper 1 ranges h
proper_of _ h = tt

pub all_proper : (r : List Fact) → AreValues r → HaveProper r
all_proper [] h = tt
all_proper (f ∷ r) h = (proper_of f h.0, all_proper r h.1)

pub sets_united : UnionHasBoth → (r : List Fact) → IsKept r → UnionsAreSets r
sets_united both r kept = sets-unite both r kept.node.fit (all_proper r kept.values)

begins : (r : List Fact) → BeginsWithMade r → BeginsWithMade (snapshot r)
begins [] h = absurd h
begins (Made node address ∷ r) h = tt
begins (_ ∷ r) h = absurd h

pub snapshot_kept : UnionHasBoth → EndsAreRight → SameNumbersSameRanges → (r : List Fact) → IsKept r
    → IsKept (snapshot r)
snapshot_kept both ends only r kept =
    let n = kept.node in
    let whole = all_proper r kept.values in
    let says = snapshot-says both ends r n.fit whole in
    let fit : all_fit [] (snapshot r) ≡ true = snapshot-fits both ends r n.fit whole in
    let unacked = unacked-is-equal both only (snapshot r) r fit (snapshot-is-proper both ends r n.fit whole)
    n.fit whole says in
    let made : (s : ℕ) → maker (snapshot r) s ≡ maker r s = λ s. ap (λ (ms : List Maker). numbered ms s)
    says.frame.makers_ in
    record {
      node = record {
        begins = begins r n.begins;
        fit = fit;
        each = keeps KeepsLimits r [] r (record {
          acks_ = λ s ranges has. each-acked KeepsLimits s (left_acked r s) tt;
          accepts = λ s p from has. tt;
          drops = λ s u has. tt;
          receives = λ s n p has. each-purged KeepsLimits s (passed r s) tt;
          purges = λ s ranges has. each-purged KeepsLimits s (passed r s) tt;
        }) n.each;
        sequences = subst (λ (ms : List Maker). length ms ≤ limits.most_sequences) (sym says.frame.makers_) n.sequences;
        window = λ s side. subst (λ k. k ≤ limits.window) (sym (unacked.unacked_ s))
            (n.window s (sym (ap (λ m. is_outgoing_side m) (made s)) ∙ side));
        windows = subst (λ k. k ≤ limits.most_unacked) (sym unacked.all_unacked_) n.windows;
        near = λ s i side has.
            let facts = facts-equal (snapshot r) r says s (numbers-from-one r n.fit s).received_
            (numbers-from-one (snapshot r) fit s).purged_ in
            subst (λ k. i ≤ k + limits.window) (sym facts.front_)
            (n.near s i (sym (ap (λ m. is_incoming_side m) (made s)) ∙ side) (sym ((says.got s).held_ i) ∙ has));
      };
      values = keeps HasValues r [] r (record {
        acks_ = λ s ranges has. each-acked HasValues s (left_acked r s) (left-set both ends r n.fit whole s);
        accepts = λ s p from has. tt;
        drops = λ s u has. tt;
        receives = λ s n p has. each-purged HasValues s (passed r s) tt;
        purges = λ s ranges has. each-purged HasValues s (passed r s) tt;
      }) kept.values;
    }
