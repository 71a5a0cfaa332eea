use Rattle.std.proofs.Common.{◌≡◌, ◌++◌, take, drop}
use Rattle.rm_script.specs.Reading.{word_of, behind_word}
use Rattle.rm_script.proofs.word.cut_word.Given as goal

-- no byte so far is a space
abbrev pub invariant-loop-i : goal.invariant-loop-i
invariant-loop-i l = record {
  front : take l.i l.bytes ++ word_of (drop l.i l.bytes) ≡ word_of l.bytes;
  rest : behind_word (drop l.i l.bytes) ≡ behind_word l.bytes;
}
