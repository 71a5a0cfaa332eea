use Rattle.std.proofs.lemmas.Result.{err_from_is_err_and}
use Rattle.rm_policy.proofs.AlternativesLemmas.FindLemmas.{unread, no_normal}
use Rattle.rm_policy.specs.Alternatives.Tree.{policy_view}
use Rattle.rm_policy.proofs.alternatives.find.find_normal.Goals as goal

pub returns-in_err-policy : goal.returns-in_err-policy
returns-in_err-policy c =
    let p = err_from_is_err_and c.from_residual.result c.from_residual.ensures.1 in
    rw (p.1, p.2) (unread c.args.bytes.now _ c.in_err-policy.ensures)

pub returns-in_err-lists : goal.returns-in_err-lists
returns-in_err-lists c =
    let p = err_from_is_err_and c.from_residual-in_err-lists.result c.from_residual-in_err-lists.ensures.1 in
    rw (p.1, p.2) (no_normal c.args.bytes.now (policy_view c.in_ok-policy.policy) c.in_ok-policy.ensures _
    c.in_err-lists.ensures)

pub returns : goal.returns
returns c = record {
  policy = policy_view c.in_ok-policy.policy;
  read = c.in_ok-policy.ensures;
  within = (c.in_ok-lists.ensures.1, c.in_ok-lists.ensures.2);
  normal = c.in_ok-lists.ensures.0;
}
