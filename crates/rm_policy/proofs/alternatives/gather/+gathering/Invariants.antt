use Rattle.std.proofs.Common.{take, map}
use Rattle.rm_policy.specs.Alternatives.Limits.{OneMentions}
use Rattle.rm_policy.specs.Alternatives.Masks.{Gathered}
use Rattle.rm_policy.specs.Alternatives.Sets.{Rises}
use Rattle.rm_policy.specs.Alternatives.Terms.{term_cmp}
use Rattle.rm_policy.specs.Alternatives.Tree.{policy_view, policies_of}
use Rattle.rm_policy.proofs.alternatives.gather.+gathering.Given as goal

-- the terms of the policies so far
abbrev pub invariant-gather_each-loop-policy : goal.invariant-gather_each-loop-policy
invariant-gather_each-loop-policy l =
    Rises term_cmp l.fn.terms.items
    → Gathered (OneMentions (policies_of (take l.policy-index (map policy_view l.policies)))) l.fn.terms.items
    l.terms.items
