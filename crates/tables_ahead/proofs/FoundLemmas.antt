-- Makers of two lists of records, and the first of which a test holds.
use Rattle.std.proofs.Common.{◌≡◌, ℕ, zero, suc, ◌+◌, ◌-◌, ◌<◌, ◌≤◌, ◌==◌, Bool, true, false, cond, List, [], ◌∷◌}
use Rattle.std.proofs.Common.{◌++◌, length, drop, get_or, refl, sym, ap, subst, ◌∙◌, arith, inl, inr, Some, None}
use Rattle.std.specs.Prelude.{slice_get}
use Rattle.std.specs.List.{flat_map}
use Rattle.std.specs.Option.{option_or}
use Rattle.std.proofs.lemmas.Bool.{cases_eq, ne_eqb}
use Rattle.std.proofs.lemmas.Grind.{flat_map-append}
use Rattle.std.proofs.lemmas.List.{append-nil, at_drop_more}
use Rattle.std.proofs.lemmas.Option.{slice_get-get_or, slice_get_past}
use Rattle.rm_base.specs.Numbered.{numbered}
use Rattle.record_batch.specs.Fact.{Fact}
use Rattle.record_batch.specs.Sequences.Makers.{Maker, makers, maker, nodes_of, number}
use Rattle.record_batch.specs.Sequences.Words.{Text, first_or}
use Rattle.record_batch.specs.Sequences.Find.{find_from, find_incoming, is_incoming}
use Rattle.node_tables.specs.Kept.{no_maker}
use Rattle.node_tables.specs.Reads.{passes}
use Rattle.tables_ahead.proofs.GatheredLemmas.{makers-both}

get_first : {A : Type 0} (xs ys : List A) (i : ℕ) → i < length xs → slice_get (xs ++ ys) i ≡ slice_get xs i
get_first [] ys i lt = absurd (omega (arith, lt))
get_first (x ∷ xs) ys zero lt = refl
get_first (x ∷ xs) ys (suc i) lt = get_first xs ys i (omega (arith, lt))

pub get_behind : {A : Type 0} (xs ys : List A) (i j : ℕ) → i ≡ length xs + j → slice_get (xs ++ ys) i ≡ slice_get ys j
get_behind [] ys i j e = let same : i ≡ j = omega (arith, e) in ap (slice_get ys) same
get_behind (x ∷ xs) ys zero j e = absurd (omega (arith, e))
get_behind (x ∷ xs) ys (suc i) j e = get_behind xs ys i j (omega (arith, e))

-- the item with a number that isn't 0
pub numbered-at : {A : Type 0} (xs : List A) (n : ℕ) → 0 < n → numbered xs n ≡ slice_get xs (n - 1)
numbered-at xs n lt =
    ap (λ b. cond b None (slice_get xs (n - 1))) (ne_eqb n 0 (λ e. absurd (omega (arith, e, lt))))

-- a number behind that of the last sequence
pub maker-past : (r : List Fact) (s : ℕ) → length (makers r) < s → maker r s ≡ None
maker-past r s lt =
    numbered-at (makers r) s (omega (arith, lt)) ∙ slice_get_past (makers r) (s - 1) (omega (arith, lt))

-- a sequence that the first records make
pub maker-known : (r d : List Fact) (s : ℕ) → s ≤ length (makers r) → maker (r ++ d) s ≡ maker r s
maker-known r d s le = elim (cases_eq s 0) [
  | inl e ↦ subst (λ n. maker (r ++ d) n ≡ maker r n) (sym e) refl
  | inr ne ↦
      ap (λ ms. numbered ms s) (makers-both r d)
      ∙ ap (λ o. cond (s == 0) None o) (get_first (makers r) (makers d) (s - 1) (omega (arith, ne, le)))
]

-- a sequence that those behind them make
pub maker-ahead : (r d : List Fact) (s : ℕ) → length (makers r) < s
    → maker (r ++ d) s ≡ slice_get (makers d) (s - length (makers r) - 1)
maker-ahead r d s lt =
    ap (λ ms. numbered ms s) (makers-both r d) ∙ numbered-at (makers r ++ makers d) s (omega (arith, lt))
    ∙ get_behind (makers r) (makers d) (s - 1) (s - length (makers r) - 1) (omega (arith, lt))

-- the test of the next sequence decides
pub found : (f : ℕ → Maker → Bool) (ms : List Maker) (i : ℕ) → i < length ms
    → find_from f i (drop i ms)
    ≡ cond (passes f (i + 1) (numbered ms (i + 1))) (Some (i + 1)) (find_from f (i + 1) (drop (i + 1) ms))
found f ms i lt =
    let m = get_or ms i no_maker in
    let one : suc i ≡ i + 1 = omega arith in
    let at : i + 1 - 1 ≡ i = omega arith in
    let here : numbered ms (i + 1) ≡ Some m =
    numbered-at ms (i + 1) (omega arith) ∙ ap (slice_get ms) at ∙ slice_get-get_or ms i no_maker lt in
    at_drop_more (find_from f i) ms i no_maker lt
    ∙ ap (λ n. cond (f n m) (Some n) (find_from f n (drop (i + 1) ms))) one
    ∙ ap (λ o. cond (passes f (i + 1) o) (Some (i + 1)) (find_from f (i + 1) (drop (i + 1) ms))) (sym here)

-- the first of which a test holds in two lists: that of the first list, and else that of the second
find-both : (f : ℕ → Maker → Bool) (k : ℕ) (xs ys : List Maker)
    → find_from f k (xs ++ ys) ≡ option_or (find_from f k xs) (find_from f (k + length xs) ys)
find-both f k [] ys = let e : k ≡ k + 0 = omega arith in ap (λ n. find_from f n ys) e
find-both f k (x ∷ xs) ys =
    let e : suc k + length xs ≡ k + suc (length xs) = omega arith in
    elim (f (suc k) x) as (λ b. cond b (Some (suc k)) (find_from f (suc k) (xs ++ ys))
    ≡ option_or (cond b (Some (suc k)) (find_from f (suc k) xs)) (find_from f (k + suc (length xs)) ys)) [
      | true ↦ refl
      | false ↦
          find-both f (suc k) xs ys ∙ ap (λ n. option_or (find_from f (suc k) xs) (find_from f n ys)) e
    ]

drop_past : {A : Type 0} (xs ys : List A) → drop (length xs) (xs ++ ys) ≡ ys
drop_past [] ys = refl
drop_past (x ∷ xs) ys = drop_past xs ys

-- it is found among the first sequences, and else among those behind them
pub find-ahead : (f : ℕ → Maker → Bool) (r d : List Fact)
    → find_from f 0 (makers (r ++ d))
    ≡ option_or (find_from f 0 (makers r)) (find_from f (length (makers r)) (makers d))
find-ahead f r d =
    let e : 0 + length (makers r) ≡ length (makers r) = omega arith in
    ap (find_from f 0) (makers-both r d) ∙ find-both f 0 (makers r) (makers d)
    ∙ ap (λ n. option_or (find_from f 0 (makers r)) (find_from f n (makers d))) e

-- the sequences behind those that the first records make
pub makers-behind : (r d : List Fact) → drop (length (makers r)) (makers (r ++ d)) ≡ makers d
makers-behind r d = ap (drop (length (makers r))) (makers-both r d) ∙ drop_past (makers r) (makers d)

-- the node has its number from the first records
number-known : (r d : List Fact) → flat_map nodes_of d ≡ [] → number (r ++ d) ≡ number r
number-known r d h =
    let ms = flat_map nodes_of r in
    ap (first_or 0) (flat_map-append nodes_of r d ∙ ap (λ ns. ms ++ ns) h ∙ append-nil ms)

-- an incoming sequence is found among the first, and else among those behind them
pub incoming-ahead : (r d : List Fact) (q : Text) → flat_map nodes_of d ≡ []
    → find_incoming (r ++ d) q
    ≡ option_or (find_incoming r q) (find_from (is_incoming (number (r ++ d)) q) (length (makers r)) (makers d))
incoming-ahead r d q h =
    find-ahead (is_incoming (number (r ++ d)) q) r d
    ∙ ap (λ n. option_or (find_from (is_incoming n q) 0 (makers r))
    (find_from (is_incoming (number (r ++ d)) q) (length (makers r)) (makers d))) (number-known r d h)
