use Rattle.std.proofs.Common.{◌≡◌, ◌++◌, drop}
use Rattle.rm_policy.specs.Alternatives.Pieces.{pieces_text}
use Rattle.rm_policy.specs.Alternatives.Texts.{more_terms}
use Rattle.rm_policy.proofs.alternatives.pieces.push_terms.Given as goal

abbrev pub invariant-loop-term : goal.invariant-loop-term
invariant-loop-term l =
    pieces_text l.pieces.items ++ more_terms (drop l.term-index l.rest)
    ≡ pieces_text l.initial.pieces.items ++ more_terms l.rest
