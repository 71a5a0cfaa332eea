use Rattle.std.proofs.Common.{take, map}
use Rattle.rm_policy.specs.Alternatives.Masks.{AreListed, SoFar}
use Rattle.rm_policy.specs.Alternatives.Tree.{policy_view, policies_view, all, exactly_one}
use Rattle.rm_policy.proofs.alternatives.combine.+masks.Given as goal

abbrev pub invariant-masks_of_all-loop-policy : goal.invariant-masks_of_all-loop-policy
invariant-masks_of_all-loop-policy l =
    AreListed l.terms (all (policies_view l.policies)) → SoFar all l.terms (take l.policy-index (map policy_view
    l.policies)) l.masks

abbrev pub invariant-masks_of_one-loop-policy : goal.invariant-masks_of_one-loop-policy
invariant-masks_of_one-loop-policy l =
    AreListed l.terms (exactly_one (policies_view l.policies)) → SoFar exactly_one l.terms (take l.policy-index
    (map policy_view l.policies)) l.masks
