use Rattle.std.proofs.Common.{◌≡◌, drop}
use Rattle.rm_policy.specs.Words.{is_one_of}
use Rattle.rm_policy.proofs.word.is_one_of.Given as goal

-- those that are left decide
abbrev pub invariant-loop-word : goal.invariant-loop-word
invariant-loop-word l = is_one_of (drop l.word-index l.words) l.name ≡ is_one_of l.words l.name
