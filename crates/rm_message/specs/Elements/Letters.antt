-- The bytes that mean something in a duration, by their names.
use Rattle.std.specs.Prelude.{ℕ}

-- P begins a duration
abbrev pub letter_p : ℕ
letter_p = 80

-- Y ends years
abbrev pub letter_y : ℕ
letter_y = 89

-- M ends months, and minutes behind T
abbrev pub letter_m : ℕ
letter_m = 77

-- D ends days
abbrev pub letter_d : ℕ
letter_d = 68

-- T begins the time
abbrev pub letter_t : ℕ
letter_t = 84

-- H ends hours
abbrev pub letter_h : ℕ
letter_h = 72

-- S ends seconds
abbrev pub letter_s : ℕ
letter_s = 83

-- a point stands before digits of a second
abbrev pub full_stop : ℕ
full_stop = 46

-- 0, behind which the other digits follow
abbrev pub digit_zero : ℕ
digit_zero = 48
