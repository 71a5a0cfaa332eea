-- How a command of the program may end, whichever it is: the exit statuses, each of them a number that stands here
-- once, and the lines that several commands print where they refuse.
use Rattle.std.specs.Prelude.{ℕ, List, ◌++◌, codes}

-- ---- the exit statuses

-- what was asked for was done
abbrev pub done : ℕ
done = 0

-- the words are no command
abbrev pub usage : ℕ
usage = 2

-- a line of a script is not in the grammar
abbrev pub bad_line : ℕ
bad_line = 3

-- a read of the input failed
abbrev pub read_fault : ℕ
read_fault = 4

-- a write of what is printed failed
abbrev pub write_fault : ℕ
write_fault = 5

-- the disk failed
abbrev pub disk_fault : ℕ
disk_fault = 6

-- no connection could be made or taken
abbrev pub link_fault : ℕ
link_fault = 7

-- the input is too long
abbrev pub too_long : ℕ
too_long = 8

-- what was asked for is refused
abbrev pub refused : ℕ
refused = 9

-- memory ran out
abbrev pub memory : ℕ
memory = 10

-- the disk has no journal
abbrev pub not_a_journal : ℕ
not_a_journal = 11

-- ---- lines

-- of words that are no command: it names every command that there is to be
abbrev pub usage_line : List ℕ
usage_line =
    codes "usage: wsrm check,replay,soak,make,serve,send,push,close,end,inbox,"
    ++ codes "policy,compact,consume,import,normal,intersect,serve11\n"

-- of a read that failed
abbrev pub read_fault_line : List ℕ
read_fault_line = codes "read fault\n"

-- of an input that is too long
abbrev pub too_long_line : List ℕ
too_long_line = codes "too long\n"
