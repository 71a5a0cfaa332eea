-- Lines of bytes one after another.
use Rattle.std.proofs.Common.{◌≡◌, ℕ, suc, ◌+◌, ◌<◌, ◌≤◌, Bool, true, false, cond, not, ◌==◌, List, [], ◌∷◌}
use Rattle.std.proofs.Common.{◌++◌, length, take, drop, refl, ap, ◌∙◌, arith, append_assoc}
use Rattle.std.proofs.Common.{Some, None}
use Rattle.std.specs.List.{count_by, position_or_len, position, flat_map, AllByRecursion}
use Rattle.std.proofs.lemmas.List.{take_all, drop_all}
use Rattle.std.proofs.lemmas.Bool.Decides.{nat_tests}
use Rattle.std.proofs.lemmas.List.Recursion.{is_count_by}
use Rattle.rm_script.specs.Script.{lines_of, onto_first}
use Rattle.rm_script.specs.Lines.{ended, HasNoLf}

-- where the first LF stands, or the end
abbrev pub line_end : List ℕ → ℕ
line_end bytes = position_or_len (λ byte. byte == 10) bytes

-- a byte before the first line is part of it
lines_of-onto : (byte : ℕ) (bytes : List ℕ) (n : ℕ) → lines_of bytes ≡ take n bytes ∷ lines_of (drop (n + 1) bytes)
    → onto_first byte (lines_of bytes) ≡ take (1 + n) (byte ∷ bytes) ∷ lines_of (drop (1 + n + 1) (byte ∷ bytes))
lines_of-onto byte bytes n h =
    let a : 1 + n + 1 ≡ suc (n + 1) = omega arith in
    let b : 1 + n ≡ suc n = omega arith in rw (a, b, h) refl

-- the first line of such bytes ends at n
abbrev IsFirst : List (List ℕ) → List ℕ → ℕ → Type 0
IsFirst lines bytes n = lines ≡ take n bytes ∷ lines_of (drop (n + 1) bytes)

-- the first line is what stands before the first LF
pub lines_of-first : (byte : ℕ) (bytes : List ℕ)
    → IsFirst (lines_of (byte ∷ bytes)) (byte ∷ bytes) (line_end (byte ∷ bytes))
lines_of-first byte [] =
    elim (byte == 10) as (λ b. IsFirst (cond b ([] ∷ []) ((byte ∷ []) ∷ [])) (byte ∷ []) (cond (not b) 1 0)) [
      | true ↦ refl
      | false ↦ refl
    ]
lines_of-first byte (c ∷ cs) =
    let n = line_end (c ∷ cs) in
    let rest = lines_of-first c cs in
    let lines = lines_of (c ∷ cs) in
    let split : Bool → Type 0 = λ b.
    IsFirst (cond b ([] ∷ lines) (onto_first byte lines)) (byte ∷ c ∷ cs) (cond (not b) (1 + n) 0) in
    elim (byte == 10) as split [ true ↦ refl | false ↦ lines_of-onto byte (c ∷ cs) n rest ]

-- bytes with an LF: the line before it, and the lines behind
pub lines_of-some : (bytes : List ℕ) (i : ℕ) → i < length bytes → position (λ byte. byte == 10) bytes ≡ Some i
    → lines_of bytes ≡ take i bytes ∷ lines_of (drop (i + 1) bytes)
lines_of-some [] i h e = absurd (omega arith)
lines_of-some (byte ∷ bytes) i h e =
    let n : line_end (byte ∷ bytes) ≡ i = grind (arith, nat_tests) in
    rw (← n) (lines_of-first byte bytes)

-- bytes without an LF are one line
pub lines_of-none : (bytes : List ℕ) → 0 < length bytes → position (λ byte. byte == 10) bytes ≡ None
    → lines_of bytes ≡ bytes ∷ []
lines_of-none [] h e = absurd (omega arith)
lines_of-none (byte ∷ bytes) h e =
    let xs = byte ∷ bytes in
    let n : length xs ≤ line_end xs = grind (arith, nat_tests) in
    let front : take (line_end xs) xs ≡ xs = take_all (line_end xs) xs n in
    let back : drop (line_end xs + 1) xs ≡ [] = drop_all (line_end xs + 1) xs (omega arith) in
    lines_of-first byte bytes
    ∙ (ap (λ l. l ∷ lines_of (drop (line_end xs + 1) xs)) front ∙ ap (λ l. xs ∷ lines_of l) back)

-- a line that ends with LF comes first
lines_of-ended : (line bytes : List ℕ) → HasNoLf line → lines_of (line ++ 10 ∷ bytes) ≡ line ∷ lines_of bytes
lines_of-ended [] bytes h = refl
lines_of-ended (byte ∷ line) bytes h =
    let other : (byte == 10) ≡ false = grind (arith, nat_tests, h.0) in
    let rest = lines_of-ended line bytes h.1 in rw (other, rest) refl

-- bytes without LF are one line, which has no end
pub lines_of-unended : (byte : ℕ) (bytes : List ℕ) → HasNoLf (byte ∷ bytes)
    → lines_of (byte ∷ bytes) ≡ (byte ∷ bytes) ∷ []
lines_of-unended byte [] h = let other : (byte == 10) ≡ false = grind (arith, nat_tests, h.0) in rw other refl
lines_of-unended byte (c ∷ cs) h =
    let other : (byte == 10) ≡ false = grind (arith, nat_tests, h.0) in
    let rest = lines_of-unended c cs h.1 in rw (other, rest) refl

-- lines that were written one after another, each with its LF, are read back
pub lines_of-joined : (lines : List (List ℕ)) (last : List ℕ) → AllByRecursion HasNoLf lines
    → lines_of (flat_map ended lines ++ last) ≡ lines ++ lines_of last
lines_of-joined [] last h = refl
lines_of-joined (line ∷ lines) last h =
    let rest = flat_map ended lines ++ last in
    let front : (ended line ++ flat_map ended lines) ++ last ≡ line ++ 10 ∷ rest =
    append_assoc (ended line) (flat_map ended lines) last ∙ append_assoc line (10 ∷ []) rest in
    ap lines_of front ∙ (lines_of-ended line rest h.0 ∙ ap (λ l. line ∷ l) (lines_of-joined lines last h.1))

-- a byte before the first line begins no other, where there is one
length-onto_first : (byte : ℕ) (lines : List (List ℕ)) → 0 < length lines
    → length (onto_first byte lines) ≡ length lines
length-onto_first byte [] h = absurd (omega (arith, h))
length-onto_first byte (line ∷ lines) h = refl

-- how many bytes are LF
count_of_ends : List ℕ → ℕ
count_of_ends [] = 0
count_of_ends (byte ∷ bytes) = cond (byte == 10) (1 + count_of_ends bytes) (count_of_ends bytes)

-- each LF but a last one stands before another line
length-ends : (front : List ℕ) (last : ℕ) → length (lines_of (front ++ last ∷ [])) ≡ count_of_ends front + 1
unfolding count_of_ends
length-ends [] last =
    elim (last == 10) as (λ t. length (cond t ([] ∷ []) ((last ∷ []) ∷ [])) ≡ 1) [ true ↦ refl | false ↦ refl ]
length-ends (byte ∷ front) last =
    let lines = lines_of (front ++ last ∷ []) in
    let n = count_of_ends front in
    let rest : length lines ≡ n + 1 = length-ends front last in
    let onto = length-onto_first byte lines (omega (arith, rest)) in
    let more : Bool → Type 0 = λ t.
    length (cond t ([] ∷ lines) (onto_first byte lines)) ≡ cond t (1 + n) n + 1 in
    let both : more (byte == 10) = (elim (byte == 10) as more [
      | true ↦ omega (arith, rest)
      | false ↦ onto ∙ rest
    ]) in both

pub length-lines_of : (front : List ℕ) (last : ℕ)
    → length (lines_of (front ++ last ∷ [])) ≡ count_by (λ byte. byte == 10) front + 1
unfolding count_of_ends
length-lines_of front last =
    length-ends front last
    ∙ ap (λ n. n + 1) (is_count_by count_of_ends (λ byte. byte == 10) refl (λ x xs. refl) front)
