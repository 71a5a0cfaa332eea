-- Lemmas on ranges of places, and on bytes that are written over others.
use Rattle.std.proofs.Common.{◌≡◌, ◌⊎◌, ℕ, ◌+◌, ◌-◌, ◌<◌, ◌≤◌, max, Bool, true, false, ◌||◌, cond, nat_le, List, []}
use Rattle.std.proofs.Common.{◌∷◌, ◌++◌, length, take, drop, slice_index, get_or, refl, sym, ◌∙◌, ap, inl, inr, arith}
use Rattle.std.proofs.Common.{length-append, length-take, length-drop}
use Rattle.std.proofs.Math.Bool.{or-false}
use Rattle.std.proofs.lemmas.Bool.{true≢false, and_cases, and_from, and_left, and_right, le-leb, lt-leb, lt-ltb, le-ltb}
use Rattle.std.proofs.lemmas.Bool.{leb-false, ltb-false}
use Rattle.std.proofs.lemmas.List.{take_more, get_or-take, get_or-drop, get_or_append_left, get_or-append_right}
use Rattle.std.proofs.lemmas.List.Folds.{list_any-append}
use Rattle.rm_disk.specs.Call.{is_within, is_written, overwritten}

pub or_parts : (a b : Bool) → (a || b) ≡ false → (a ≡ false) × (b ≡ false)
or_parts true b e = absurd (true≢false e)
or_parts false b e = (refl, e)

-- a place that isn't in a range lies before it or behind it
pub outside : (i at count : ℕ) → is_within i (at, count) ≡ false → (i < at) ⊎ (at + count ≤ i)
outside i at count e = elim (and_cases _ _ e) [
  | inl before ↦ inl (leb-false at i before)
  | inr behind ↦ inr
      (ltb-false i (at + count) behind)
]

-- a place that no range has with one more
pub is_written-push : (ranges : List (ℕ × ℕ)) (range : ℕ × ℕ) (i : ℕ) → is_written (ranges ++ range ∷ []) i ≡ false
    → (is_written ranges i ≡ false) × (is_within i range ≡ false)
is_written-push ranges range i e =
    let parts = or_parts (is_written ranges i) (is_written (range ∷ []) i)
    (sym (list_any-append (is_within i) ranges (range ∷ [])) ∙ e) in
    (parts.0, (or_parts (is_within i range) false parts.1).0)

pub overwritten-no_longer : (old : List ℕ) (at : ℕ) (bytes : List ℕ)
    → length (overwritten old at bytes) ≤ max (length old) (at + length bytes)
overwritten-no_longer old at bytes =
    omega (
      arith,
      length-append (take at old ++ bytes) (drop (at + length bytes) old),
      length-append (take at old) bytes,
      length-take at old,
      length-drop (at + length bytes) old,
    )

pub overwritten-no_shorter : (old : List ℕ) (at : ℕ) (bytes : List ℕ) → length old ≤ length (overwritten old at bytes)
overwritten-no_shorter old at bytes =
    omega (
      arith,
      length-append (take at old ++ bytes) (drop (at + length bytes) old),
      length-append (take at old) bytes,
      length-take at old,
      length-drop (at + length bytes) old,
    )

-- what is not in the range stays
pub overwritten-outside : (old : List ℕ) (at : ℕ) (bytes : List ℕ) (i : ℕ) → i < length old
    → is_within i (at, length bytes) ≡ false → slice_index (overwritten old at bytes) i ≡ slice_index old i
overwritten-outside old at bytes i low e =
    let tail = drop (at + length bytes) old in
    let size = length-append (take at old) bytes in
    elim (outside i at (length bytes) e) [
      | inl before ↦
          get_or_append_left (take at old ++ bytes) tail 0 i (omega (arith, size, length-take at old))
          ∙ get_or_append_left (take at old) bytes 0 i (omega (arith, length-take at old))
          ∙ get_or-take at old i 0 before
      | inr behind ↦
          get_or-append_right (take at old ++ bytes) tail (at + length bytes) i 0
          (omega (arith, size, length-take at old)) behind
          ∙ get_or-drop (at + length bytes) old (i - (at + length bytes)) 0
          ∙ ap (λ (n : ℕ). slice_index old n) (omega arith)
    ]

pub within_inside : (i at count : ℕ) → at ≤ i → i < at + count → is_within i (at, count) ≡ true
within_inside i at count from below = and_from _ _ (le-leb at i from) (lt-ltb i (at + count) below)

pub within_before : (i at count : ℕ) → i < at → is_within i (at, count) ≡ false
within_before i at count before = and_left _ _ (lt-leb at i before)

pub within_behind : (i at count : ℕ) → at + count ≤ i → is_within i (at, count) ≡ false
within_behind i at count behind = and_right (nat_le at i) _ (le-ltb i (at + count) behind)

-- the first ranges, and one more
pub is_written-more : (ranges : List (ℕ × ℕ)) (k i : ℕ) → k < length ranges
    → is_written (take (k + 1) ranges) i ≡ (is_written (take k ranges) i || is_within i (get_or ranges k (0, 0)))
is_written-more ranges k i low =
    ap (λ (r : List (ℕ × ℕ)). is_written r i) (take_more ranges k (0, 0) low)
    ∙ list_any-append (is_within i) (take k ranges) (get_or ranges k (0, 0) ∷ [])
    ∙ ap (λ (b : Bool). is_written (take k ranges) i || b) (or-false (is_within i (get_or ranges k (0, 0))))

pub cond_or : (a b : Bool) (x y : ℕ) → cond b x (cond a x y) ≡ cond (a || b) x y
cond_or true true x y = refl
cond_or true false x y = refl
cond_or false b x y = refl
