-- The bytes that mean something in a script, by their names.
use Rattle.std.specs.Prelude.{ℕ}

-- LF ends a line
abbrev pub line_feed : ℕ
line_feed = 10

-- a space ends a word
abbrev pub space_byte : ℕ
space_byte = 32

-- # begins a comment
abbrev pub number_sign : ℕ
number_sign = 35

-- 1 names the first node
abbrev pub digit_one : ℕ
digit_one = 49

-- 2 names the second
abbrev pub digit_two : ℕ
digit_two = 50
