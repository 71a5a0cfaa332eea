-- There is room for one key more.
use Rattle.std.proofs.Common.{◌≡◌, suc, ◌+◌, ◌<◌, ◌≤◌, ◌||◌, cond, Bool, true, false, List, [], ◌∷◌}
use Rattle.std.proofs.Common.{length, refl, sym, ap, ◌∙◌, arith}
use Rattle.std.specs.Prelude.{Some, None}
use Rattle.std.specs.List.{AllByRecursion}
use Rattle.timers.specs.declared.slots.timers.Key.{Key}
use Rattle.timers.specs.declared.keys.cells.Cell.{Cell}
use Rattle.timers.specs.Keys.Waits.{same_key, has_key}
use Rattle.timers.specs.Keys.KeyLemmas.{same_key-is, same_key-sym}
use Rattle.timers.specs.Keys.Keyed.{slot_at, Once}

-- without the first such key
less : Key → List Key → List Key
less x [] = []
less x (y ∷ ys) = cond (same_key x y) ys (y ∷ less x ys)

less-length : (x : Key) (ys : List Key) → has_key ys x ≡ true → length ys ≡ length (less x ys) + 1
unfolding less
less-length x [] h = absurd (cc)
less-length x (y ∷ ys) h =
    elim (same_key x y) as (λ b. (b || has_key ys x) ≡ true
    → suc (length ys) ≡ length (cond b ys (y ∷ less x ys)) + 1) [
      | true ↦ λ e. omega arith
      | false ↦ λ e. let rest = less-length x ys e in omega (arith, rest)
    ] h

less-has : (x k : Key) (ys : List Key) → same_key k x ≡ false → has_key ys k ≡ true → has_key (less x ys) k ≡ true
unfolding less
less-has x k [] n h = absurd (cc)
less-has x k (y ∷ ys) n h =
    elim (same_key x y) as (λ b. same_key x y ≡ b → has_key (cond b ys (y ∷ less x ys)) k ≡ true) [
      | true ↦ λ e.
          let is : x ≡ y = same_key-is x y e in
          let other : same_key k y ≡ false = ap (same_key k) (sym is) ∙ n in
          sym (ap (λ (b : Bool). b || has_key ys k) other) ∙ h
      | false ↦ λ e. elim (same_key k y) as (λ b. (b || has_key ys k) ≡ true → (b || has_key (less x ys) k) ≡ true) [
        | true ↦ λ d. refl
        | false ↦ λ d. less-has x k ys n d
      ] h
    ] refl

-- keys that stand once, each of which is among others, are no more than these
no-more : (cells : List Cell) (ys : List Key) → Once cells
    → AllByRecursion (λ (c : Cell). has_key ys c.key ≡ true) cells
    → length cells ≤ length ys
no-more [] ys o h = omega arith
no-more (c ∷ cells) ys o h =
    let one = less-length c.key ys h.0 in
    let rest = no-more cells (less c.key ys) o.1 (others cells o.0 h.1) in
    omega (arith, one, rest)
  where
    others : (v : List Cell) → slot_at v c.key ≡ None → AllByRecursion (λ (d : Cell). has_key ys d.key ≡ true) v
        → AllByRecursion (λ (d : Cell). has_key (less c.key ys) d.key ≡ true) v
    others [] n g = tt
    others (d ∷ v) n g =
        elim (same_key c.key d.key) as (λ b. same_key c.key d.key ≡ b → cond b (Some d.slot) (slot_at v c.key) ≡ None
        → (has_key (less c.key ys) d.key ≡ true)
        × AllByRecursion (λ (e : Cell). has_key (less c.key ys) e.key ≡ true) v) [
          | true ↦ λ e k. absurd (cc)
          | false ↦ λ e k. (less-has c.key d.key ys (same_key-sym d.key c.key ∙ e) g.0, others v k g.1)
        ] refl n

-- one key more, which doesn't stand there and is among the others, still has room
pub one-more : (cells : List Cell) (ys : List Key) (key : Key) → Once cells
    → AllByRecursion (λ (c : Cell). has_key ys c.key ≡ true) cells → slot_at cells key ≡ None → has_key ys key ≡ true
    → length cells < length ys
one-more cells ys key o h n k =
    let all = no-more (record { key = key; slot = 0 } ∷ cells) ys (n, o) (k, h) in
    omega (arith, all)
