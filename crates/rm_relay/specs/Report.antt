-- The text of a relay's report: a line for each line of the script that does something, and then what the nodes know.
use Rattle.std.specs.Prelude.{ℕ, List, [], ◌∷◌, ◌++◌, codes, decimal}
use Rattle.rm_script.specs.Report.Report.{outcome_text}
use Rattle.rm_replay.specs.Played.{known_text}
use Rattle.rm_relay.specs.Word.World.{World}
use Rattle.rm_relay.specs.declared.report.Ending.{Ending}
use Rattle.rm_relay.specs.declared.report.Ending.TheVariants.{Idle, Came}
use Rattle.rm_relay.specs.declared.report.Line3.{Line3}

-- OUTCOME
abbrev pub ending_text : Ending → List ℕ
ending_text Idle = codes "idle"
ending_text (Came outcome) = outcome_text outcome

-- a space and a number
abbrev pub count_text : ℕ → List ℕ
count_text n = codes " " ++ decimal n

-- what a line counts: the entries of each node, and the packets
abbrev pub counts_text : Line3 → List ℕ
counts_text l =
    count_text l.entries_one ++ (count_text l.entries_two ++ (count_text l.entries_three ++ (count_text l.packets
    ++ codes "\n")))

-- LINE OUTCOME E1 E2 E3 PACKETS
abbrev pub line_text : Line3 → List ℕ
line_text l = decimal l.number ++ (codes " " ++ (ending_text l.ending ++ counts_text l))

-- all lines, in order
abbrev pub lines_text : List Line3 → List ℕ
lines_text [] = []
lines_text (line ∷ lines) = line_text line ++ lines_text lines

-- what the nodes know in the end
abbrev pub end_text : World → List ℕ
end_text w = known_text 1 w.one ++ (known_text 2 w.two ++ known_text 3 w.three)
