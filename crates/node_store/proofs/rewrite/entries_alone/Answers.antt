use Rattle.std.proofs.Common.{◌≡◌, ◌∙◌, ◌++◌, ℕ, List, [], ◌∷◌, map, ap, subst, sym}
use Rattle.std.specs.Vec.Iter.{into_iter_items}
use Rattle.record_batch.specs.Fact.{Fact, fact_of}
use Rattle.node_store.proofs.RewriteLemmas.{AreLeft, left_less, next_fits}
use Rattle.node_store.proofs.rewrite.entries_alone.Goals as goal

pub entry_alone-requires : goal.entry_alone-requires
entry_alone-requires c =
    let r = map fact_of c.args.records in
    let left = subst (AreLeft r c.loop-given.entries.items) (ap (map fact_of) c.in-Some.ensures.items)
    c.loop-given.invariant in
    next_fits r c.loop-given.entries.items (fact_of c.in-Some.given) (map fact_of (into_iter_items c.next.new.self))
    left

pub loop-given-preserved : goal.loop-given-preserved
loop-given-preserved c =
    let r = map fact_of c.args.records in
    let rest = map fact_of (into_iter_items c.next.new.self) in
    let left = subst (AreLeft r c.loop-given.entries.items) (ap (map fact_of) c.in-Some.ensures.items)
    c.loop-given.invariant in
    let made = c.in_ok-push.ensures.items
    ∙ ap (λ (e : List ℕ). c.loop-given.entries.items ++ e ∷ []) c.in_ok-entry_alone.ensures in
    subst (λ (es : List (List ℕ)). AreLeft r es rest) (sym made)
    (left_less r c.loop-given.entries.items (fact_of c.in-Some.given) rest left)
