-- The script that `soak N` plays: two nodes open a sequence, and 3000 turns follow, each of them as the next word of a
-- generator says that begins at N.
use Rattle.std.specs.Prelude.{ℕ, zero, suc, ◌+◌, ◌*◌, ◌/◌, ◌%◌, ◌==◌, if◌then◌else◌, nat_le}
use Rattle.std.specs.Prelude.{List, [], ◌∷◌, ◌++◌, codes, decimal}
use Rattle.std.specs.List.{flat_map}
use Rattle.rand_pcg.specs.Lcg.{Lcg, started, increment_of}
use Rattle.rand_pcg.specs.Pcg.{multiplier_64, pcg32}
use Rattle.rm_script.specs.Lines.{ended}

-- the generator of N: PCG's of 32-bit words, from the state N on its stream 1
abbrev pub first_of : ℕ → Lcg
first_of n = started 64 multiplier_64 n (increment_of 64 1)

-- the lines of turn i, by a case c from 0 to 15 and a number x
abbrev pub lines_for : ℕ → ℕ → ℕ → List (List ℕ)
lines_for i c x =
    let deliver = codes "deliver " ++ decimal (1 + x % (i + 2)) in
    if nat_le c 4 then (codes "send 1 1 <p>" ++ decimal i ++ codes "</p>") ∷ []
    else if nat_le c 11 then deliver ∷ []
    else if c == 12 then codes "ask 1 1" ∷ []
    else if c == 13 then (codes "tick 1 " ++ decimal (1000 * i)) ∷ []
    else if c == 14 then (codes "arm 2 " ++ decimal (1 + x % 4)) ∷ deliver ∷ (codes "crash 2 " ++ decimal (x % 4)) ∷ []
    else (codes "crash 1 " ++ decimal (x % 4)) ∷ []

-- the lines of the turns from i on, as many as are left: each draws a word, whose last four bits are the case
unfoldable pub turns : ℕ → ℕ → Lcg → List (List ℕ)
turns zero i words = []
turns (suc left) i words =
    let drawn = pcg32 words in lines_for i (drawn.0 % 16) (drawn.0 / 16) ++ turns left (i + 1) drawn.1

-- all lines of the script of N
abbrev pub soak_lines : ℕ → List (List ℕ)
soak_lines n = codes "create 1" ∷ codes "deliver 1" ∷ codes "deliver 2" ∷ turns 3000 1 (first_of n)

-- and its bytes: each line ends with LF
abbrev pub soak_script : ℕ → List ℕ
soak_script n = flat_map ended (soak_lines n)
