-- What `soak N` prints of the report: how many lines of the script came out well and how many otherwise, and then what
-- both nodes know of each sequence.
use Rattle.std.specs.Prelude.{ℕ, ◌&&◌, ◌||◌, ◌==◌, not, nat_eq, Bool, false, List, [], ◌∷◌, ◌++◌, codes, decimal}
use Rattle.std.specs.Prelude.{filter, count_by}
use Rattle.std.specs.Char.{is_ascii_digit}
use Rattle.std.specs.List.{flat_map, starts_with, before_first, after_first}
use Rattle.std.specs.Str.{bytes_eq}
use Rattle.rm_script.specs.Bytes.{space_byte}
use Rattle.rm_script.specs.Lines.{ended}
use Rattle.rm_script.specs.Script.{lines_of}

-- a line of the report that answers a line of the script begins with the number of that line
abbrev pub is_answer : List ℕ → Bool
is_answer [] = false
is_answer (byte ∷ line) = is_ascii_digit byte

-- the second word of a line
abbrev pub second_word : List ℕ → List ℕ
second_word line =
    before_first (λ byte. byte == space_byte) (after_first (λ byte. byte == space_byte) line)

-- whether that is ok
abbrev pub says_ok : List ℕ → Bool
says_ok line = bytes_eq (second_word line) (codes "ok")

-- an answer that is ok
abbrev pub is_ok_answer : List ℕ → Bool
is_ok_answer line = is_answer line && says_ok line

-- and one that is not
abbrev pub is_other_answer : List ℕ → Bool
is_other_answer line = is_answer line && not (says_ok line)

-- a line of what a node knows, without the items of its inbox
abbrev pub is_state : List ℕ → Bool
is_state line =
    starts_with nat_eq line (codes "out ") || starts_with nat_eq line (codes "in ")
    || starts_with nat_eq line (codes "down ")

-- soak N lines L ok A other B
abbrev pub counts_text : ℕ → List (List ℕ) → List ℕ
counts_text n lines =
    codes "soak " ++ decimal n ++ codes " lines " ++ decimal (count_by is_answer lines)
    ++ codes " ok " ++ decimal (count_by is_ok_answer lines)
    ++ codes " other " ++ decimal (count_by is_other_answer lines)

-- the summary of a report
abbrev pub summary_of : ℕ → List ℕ → List ℕ
summary_of n report = ended (counts_text n (lines_of report)) ++ flat_map ended (filter is_state (lines_of report))
