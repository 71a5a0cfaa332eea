use Rattle.std.proofs.Common.{◌≡◌, ◌∙◌, [], ap, subst, sym, arith}
use Rattle.std.specs.List.{AllByRecursion}
use Rattle.std.proofs.lemmas.Result.{IfOk-weaker}
use Rattle.rm_sides.specs.Ranges.Changes.{united}
use Rattle.record_batch.specs.Snapshot.Snapshot.{past_front}
use Rattle.node_tables.specs.Shorter.{IsRange}
use Rattle.node_tables.proofs.PastLemmas.{canonical-past, ranges-each}
use Rattle.node_tables.proofs.snapshot.behind_of.Goals as goal

pub set_of-requires : goal.set_of-requires
set_of-requires c =
    subst (AllByRecursion IsRange) (sym (c.behind_front.ensures ∙ ap past_front c.ranges-2.ensures.ranges))
    (ranges-each 1 (past_front c.args.numbers.now.ranges) (omega arith)
    (canonical-past c.args.numbers.now.ranges c.ranges-2.ensures.canonical))

pub returns : goal.returns
returns c =
    let behind = past_front c.args.numbers.now.ranges in
    IfOk-weaker c.set_of.result (λ set. set.ranges ≡ united [] c.behind_front.result.now) (λ set. set.ranges ≡ behind)
    (λ set is. is ∙ ap (united []) (c.behind_front.ensures ∙ ap past_front c.ranges-2.ensures.ranges)
    ∙ c.union_with_nothing_is_the_same.ensures behind
    (canonical-past c.args.numbers.now.ranges c.ranges-2.ensures.canonical))
    c.set_of.ensures
