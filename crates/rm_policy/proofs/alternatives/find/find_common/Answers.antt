use Rattle.std.proofs.lemmas.Result.{err_from_is_err_and}
use Rattle.rm_policy.proofs.AlternativesLemmas.FindLemmas.{unread_pair, no_first, no_second, no_common}
use Rattle.rm_policy.specs.Alternatives.Tree.{policy_view}
use Rattle.rm_policy.proofs.alternatives.find.find_common.Goals as goal

pub returns-in_err-pair : goal.returns-in_err-pair
returns-in_err-pair c =
    let p = err_from_is_err_and c.from_residual.result c.from_residual.ensures.1 in
    rw (p.1, p.2) (unread_pair c.args.bytes.now _ c.in_err-pair.ensures)

pub returns-in_err-lists : goal.returns-in_err-lists
returns-in_err-lists c =
    let p = err_from_is_err_and c.from_residual-in_err-lists.result c.from_residual-in_err-lists.ensures.1 in
    rw (p.1, p.2) (no_first c.args.bytes.now (policy_view c.in_ok-pair.pair.0) (policy_view c.in_ok-pair.pair.1)
    c.in_ok-pair.ensures _ c.in_err-lists.ensures)

pub returns-in_err-others : goal.returns-in_err-others
returns-in_err-others c =
    let p = err_from_is_err_and c.from_residual-in_err-others.result c.from_residual-in_err-others.ensures.1 in
    rw (p.1, p.2) (no_second c.args.bytes.now (policy_view c.in_ok-pair.pair.0) (policy_view c.in_ok-pair.pair.1)
    c.in_ok-pair.ensures (c.in_ok-lists.ensures.1, c.in_ok-lists.ensures.2) _ c.in_err-others.ensures)

pub returns-in_err-common : goal.returns-in_err-common
returns-in_err-common c =
    let p = err_from_is_err_and c.from_residual-in_err-common.result c.from_residual-in_err-common.ensures.1 in
    let one = c.in_ok-lists.ensures.0 in
    let other = c.in_ok-others.ensures.0 in
    rw (p.1, p.2) (no_common c.args.bytes.now (policy_view c.in_ok-pair.pair.0) (policy_view c.in_ok-pair.pair.1)
    c.in_ok-lists.lists c.in_ok-others.others c.in_ok-pair.ensures one other
    (c.in_ok-lists.ensures.1, c.in_ok-lists.ensures.2) (c.in_ok-others.ensures.1, c.in_ok-others.ensures.2) _
    (c.in_err-common.ensures one.are other.are))

pub returns : goal.returns
returns c = record {
  one = policy_view c.in_ok-pair.pair.0;
  other = policy_view c.in_ok-pair.pair.1;
  read = c.in_ok-pair.ensures;
  within = (c.in_ok-lists.ensures.1, c.in_ok-lists.ensures.2);
  other_within = (c.in_ok-others.ensures.1, c.in_ok-others.ensures.2);
  lists = c.in_ok-lists.lists;
  others = c.in_ok-others.others;
  normal = c.in_ok-lists.ensures.0;
  other_normal = c.in_ok-others.ensures.0;
  few = (c.in_ok-common.ensures c.in_ok-lists.ensures.0.are c.in_ok-others.ensures.0.are).1;
  shared = (c.in_ok-common.ensures c.in_ok-lists.ensures.0.are c.in_ok-others.ensures.0.are).0;
}
