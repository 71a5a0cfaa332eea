-- Rows that give up the payloads that nobody needs, one after the other.
use Rattle.std.proofs.Common.{◌≡◌, ℕ, zero, suc, ◌+◌, ◌<◌, ◌≤◌, List, [], ◌∷◌, length, get_or, set, refl, sym, ap, ◌∙◌}
use Rattle.std.proofs.Common.{arith}
use Rattle.std.proofs.lemmas.List.{length-map, map-set}
use Rattle.record_batch.specs.Sequences.Told.{Told}
use Rattle.node_tables.specs.Row.Row.{Seen, forgotten}
use Rattle.node_tables.specs.Kept.{all_forgotten, row_at, tolds}
use Rattle.node_tables.proofs.StepLemmas.{row-at}

-- a row without them
abbrev pub left_of : Told → Told
left_of t = record t { side = forgotten t.side }

-- the first k rows without them
abbrev pub forgot_to : ℕ → List Told → List Told
forgot_to zero ts = ts
forgot_to (suc k) [] = []
forgot_to (suc k) (t ∷ ts) = left_of t ∷ forgot_to k ts

forgot_at : (k : ℕ) (ts : List Told) → row_at (forgot_to k ts) k ≡ row_at ts k
forgot_at zero ts = refl
forgot_at (suc k) [] = refl
forgot_at (suc k) (t ∷ ts) = forgot_at k ts

forgot_set : (k : ℕ) (ts : List Told) → k < length ts
    → set (forgot_to k ts) k (left_of (row_at ts k)) ≡ forgot_to (suc k) ts
forgot_set k [] lt = absurd (omega (arith, lt))
forgot_set zero (t ∷ ts) lt = refl
forgot_set (suc k) (t ∷ ts) lt = ap (λ xs. left_of t ∷ xs) (forgot_set k ts (omega (arith, lt)))

forgot_len : (k : ℕ) (ts : List Told) → length (forgot_to k ts) ≡ length ts
forgot_len zero ts = refl
forgot_len (suc k) [] = refl
forgot_len (suc k) (t ∷ ts) = ap (λ n. suc n) (forgot_len k ts)

-- one row more
pub forgot-next : (rows : List Seen) (ts : List Told) (k : ℕ) (row row2 : Seen) → k < length rows
    → row ≡ get_or rows k row → row2.told ≡ left_of row.told → tolds rows ≡ forgot_to k ts
    → tolds (set rows k row2) ≡ forgot_to (k + 1) ts
forgot-next rows ts k row row2 lt is left so_far =
    let known : row_at ts k ≡ row.told =
    sym (forgot_at k ts) ∙ ap (λ xs. row_at xs k) (sym so_far) ∙ row-at rows k row lt is in
    let within : k < length ts =
    omega (arith, lt, length-map rows (λ (r : Seen). r.told), ap length so_far, forgot_len k ts) in
    let next : suc k ≡ k + 1 = omega arith in
    map-set (λ (r : Seen). r.told) rows k row2
    ∙ ap (λ t. set (tolds rows) k t) (left ∙ ap left_of (sym known))
    ∙ ap (λ xs. set xs k (left_of (row_at ts k))) so_far
    ∙ forgot_set k ts within
    ∙ ap (λ n. forgot_to n ts) next

-- all rows
pub forgot-all : (k : ℕ) (ts : List Told) → length ts ≤ k → forgot_to k ts ≡ all_forgotten ts
forgot-all zero [] le = refl
forgot-all zero (t ∷ ts) le = absurd (omega (arith, le))
forgot-all (suc k) [] le = refl
forgot-all (suc k) (t ∷ ts) le = ap (λ xs. left_of t ∷ xs) (forgot-all k ts (omega (arith, le)))
