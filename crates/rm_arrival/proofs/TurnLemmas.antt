-- Each key has its turn: a tick that doesn't emit it emits 64 that stand before it, and each of them comes nearer to
-- standing behind it.
use Rattle.std.proofs.Common.{◌≡◌, ℕ, zero, suc, ◌+◌, ◌-◌, ◌<◌, ◌≤◌, ◌==◌, ◌&&◌, ◌||◌, min, nat_le, nat_lt, not}
use Rattle.std.proofs.Common.{cond, Bool, true, false, List, [], ◌∷◌, ◌++◌, length, map, filter, take, refl, sym, ap}
use Rattle.std.proofs.Common.{◌∙◌}
use Rattle.std.proofs.Common.{subst, arith, append-nil, append_assoc}
use Rattle.std.specs.Prelude.{flat_map}
use Rattle.std.specs.List.{AllByRecursion}
use Rattle.std.proofs.lemmas.Bool.{false≢true}
use Rattle.std.proofs.lemmas.Bool.Decides.{nat_tests}
use Rattle.std.proofs.lemmas.List.{map-append}
use Rattle.std.proofs.lemmas.List.Concat.{flat_map-append}
use Rattle.timers.specs.declared.slots.timers.Key.{Key}
use Rattle.timers.specs.Keys.KeyLemmas.{same_key-refl, same_key-sym}
use Rattle.timers.specs.Keys.Waits.{Wait, at_key, due_at, emitted, first_due, has_key, keys_of, most_emitted, same_key}
use Rattle.timers.specs.Keys.Waits.{send_all, sent, without}
use Rattle.timers.specs.Slots.Waits.{classes_in_order}
use Rattle.rm_arrival.proofs.MemberLemmas.{filter-join}

-- ---- how often a key may still come before one of class c

-- of one that stands in front of it, or behind it
abbrev pub ahead : ℕ → Wait → ℕ
ahead c w = (c - w.class) + cond (w.class == c) 1 0

abbrev pub past : ℕ → Wait → ℕ
past c w = c - w.class

-- of all of them
abbrev pub total : (Wait → ℕ) → List Wait → ℕ
total f [] = 0
total f (w ∷ ws) = f w + total f ws

-- how many pass a test
abbrev pub counted : (Wait → Bool) → List Wait → ℕ
counted f [] = 0
counted f (w ∷ ws) = cond (f w) 1 0 + counted f ws

pub total-join : (f : Wait → ℕ) (xs ys : List Wait) → total f (xs ++ ys) ≡ total f xs + total f ys
total-join f [] ys = omega arith
total-join f (x ∷ xs) ys = let rest = total-join f xs ys in omega (arith, rest)

counted-join : (f : Wait → Bool) (xs ys : List Wait) → counted f (xs ++ ys) ≡ counted f xs + counted f ys
counted-join f [] ys = omega arith
counted-join f (x ∷ xs) ys = let rest = counted-join f xs ys in omega (arith, rest)

-- those that stay of a list weigh no more
pub total-filter : (f : Wait → ℕ) (g : Wait → Bool) (xs : List Wait) → total f (filter g xs) ≤ total f xs
total-filter f g [] = omega arith
total-filter f g (x ∷ xs) =
    let rest = total-filter f g xs in
    elim (g x) as (λ b. total f (cond b (x ∷ filter g xs) (filter g xs)) ≤ f x + total f xs) [
      | true ↦ omega (arith, rest)
      | false ↦ omega (arith, rest)
    ]

-- ---- one key is emitted

ahead-falls : (c d : ℕ) → c ≤ 6 → (c - min (d + 1) 6) + cond (nat_le d c) 1 0 ≤ (c - d) + cond (d == c) 1 0
ahead-falls c d le = grind (arith, nat_tests, le)

past-falls : (c d : ℕ) → c ≤ 6 → (c - min (d + 1) 6) + cond (nat_lt d c) 1 0 ≤ c - d
past-falls c d le = grind (arith, nat_tests, le)

-- those of key k go behind, and count one less where they count at all
moves-ahead : (time c : ℕ) (k : Key) (xs : List Wait) → c ≤ 6
    → total (ahead c) (without k xs) + total (past c) (map (emitted time) (at_key k xs))
    + counted (λ (w : Wait). same_key k w.key && nat_le w.class c) xs
    ≤ total (ahead c) xs
moves-ahead time c k [] le = omega arith
moves-ahead time c k (x ∷ xs) le =
    let rest = moves-ahead time c k xs le in
    let falls = ahead-falls c x.class le in
    elim (same_key k x.key) as (λ b. total (ahead c) (cond (not b) (x ∷ without k xs) (without k xs))
    + total (past c) (map (emitted time) (cond b (x ∷ at_key k xs) (at_key k xs)))
    + (cond (b && nat_le x.class c) 1 0 + counted (λ (w : Wait). same_key k w.key && nat_le w.class c) xs)
    ≤ ahead c x + total (ahead c) xs) [
      | true ↦ omega (arith, rest, falls)
      | false ↦ omega (arith, rest)
    ]

moves-past : (time c : ℕ) (k : Key) (xs : List Wait) → c ≤ 6
    → total (past c) (without k xs) + total (past c) (map (emitted time) (at_key k xs))
    + counted (λ (w : Wait). same_key k w.key && nat_lt w.class c) xs
    ≤ total (past c) xs
moves-past time c k [] le = omega arith
moves-past time c k (x ∷ xs) le =
    let rest = moves-past time c k xs le in
    let falls = past-falls c x.class le in
    elim (same_key k x.key) as (λ b. total (past c) (cond (not b) (x ∷ without k xs) (without k xs))
    + total (past c) (map (emitted time) (cond b (x ∷ at_key k xs) (at_key k xs)))
    + (cond (b && nat_lt x.class c) 1 0 + counted (λ (w : Wait). same_key k w.key && nat_lt w.class c) xs)
    ≤ past c x + total (past c) xs) [
      | true ↦ omega (arith, rest, falls)
      | false ↦ omega (arith, rest)
    ]

-- those of one key more are those of that key, and of the others
one-more : (f : Wait → Bool) (k : Key) (ks : List Key) (xs : List Wait)
    → counted (λ (w : Wait). has_key (k ∷ ks) w.key && f w) xs
    ≤ counted (λ (w : Wait). same_key k w.key && f w) xs
    + counted (λ (w : Wait). has_key ks w.key && f w) (without k xs)
one-more f k ks [] = omega arith
one-more f k ks (x ∷ xs) =
    let rest = one-more f k ks xs in
    let turned : same_key x.key k ≡ same_key k x.key = same_key-sym x.key k in
    subst (λ z. cond ((z || has_key ks x.key) && f x) 1 0 + counted (λ (w : Wait). has_key (k ∷ ks) w.key && f w) xs
    ≤ (cond (same_key k x.key && f x) 1 0 + counted (λ (w : Wait). same_key k w.key && f w) xs)
    + counted (λ (w : Wait). has_key ks w.key && f w) (without k (x ∷ xs))) (sym turned)
    (elim (same_key k x.key) as (λ b.
    cond ((b || has_key ks x.key) && f x) 1 0 + counted (λ (w : Wait). has_key (k ∷ ks) w.key && f w) xs
    ≤ (cond (b && f x) 1 0 + counted (λ (w : Wait). same_key k w.key && f w) xs)
    + counted (λ (w : Wait). has_key ks w.key && f w) (cond (not b) (x ∷ without k xs) (without k xs))) [
      | true ↦ omega (arith, rest)
      | false ↦ omega (arith, rest)
    ])

-- ---- several are emitted, and not the one that stands here

-- none of them is the key
abbrev AreOthers : Key → List Key → Type 0
AreOthers k ks = AllByRecursion (λ (e : Key). same_key e k ≡ false) ks

-- what stands in front of the key and behind it then
pub record Moved (time c : ℕ) (ks : List Key) (front : List Wait) (w : Wait) (rest : List Wait) : Type 0 where
  pub front_ : List Wait
  pub rest_ : List Wait
  pub are : send_all time ks (front ++ w ∷ rest) ≡ front_ ++ w ∷ rest_
  pub less : total (ahead c) front_ + total (past c) rest_
      + (counted (λ (x : Wait). has_key ks x.key && nat_le x.class c) front
      + counted (λ (x : Wait). has_key ks x.key && nat_lt x.class c) rest)
      ≤ total (ahead c) front + total (past c) rest

none-counted : (f : Wait → Bool) (xs : List Wait) → counted (λ (x : Wait). has_key [] x.key && f x) xs ≡ 0
none-counted f [] = refl
none-counted f (x ∷ xs) = let rest = none-counted f xs in omega (arith, rest)

sent-around : (time : ℕ) (k : Key) (front : List Wait) (w : Wait) (rest : List Wait) → same_key k w.key ≡ false
    → sent time k (front ++ w ∷ rest)
    ≡ without k front ++ w ∷ (without k rest ++ (map (emitted time) (at_key k front)
    ++ map (emitted time) (at_key k rest)))
sent-around time k front w rest off =
    let stays : without k (front ++ w ∷ rest) ≡ without k front ++ w ∷ without k rest =
    filter-join (λ (x : Wait). not (same_key k x.key)) front (w ∷ rest)
    ∙ ap (λ b. without k front ++ cond (not b) (w ∷ without k rest) (without k rest)) off in
    let goes : at_key k (front ++ w ∷ rest) ≡ at_key k front ++ at_key k rest =
    filter-join (λ (x : Wait). same_key k x.key) front (w ∷ rest)
    ∙ ap (λ b. at_key k front ++ cond b (w ∷ at_key k rest) (at_key k rest)) off in
    ap (λ z. z ++ map (emitted time) (at_key k (front ++ w ∷ rest))) stays
    ∙ ap (λ z. (without k front ++ w ∷ without k rest) ++ map (emitted time) z) goes
    ∙ ap (λ z. (without k front ++ w ∷ without k rest)
    ++ z) (map-append (emitted time) (at_key k front) (at_key k rest))
    ∙ append_assoc (without k front) (w ∷ without k rest)
    (map (emitted time) (at_key k front) ++ map (emitted time) (at_key k rest))

pub moved : (time c : ℕ) (ks : List Key) (front : List Wait) (w : Wait) (rest : List Wait) → c ≤ 6
    → AreOthers w.key ks → Moved time c ks front w rest
moved time c [] front w rest le others =
    let one = none-counted (λ (x : Wait). nat_le x.class c) front in
    let two = none-counted (λ (x : Wait). nat_lt x.class c) rest in
    record { front_ = front; rest_ = rest; are = refl; less = omega (arith, one, two) }
moved time c (k ∷ ks) front w rest le others =
    let gone = map (emitted time) (at_key k front) in
    let went = map (emitted time) (at_key k rest) in
    let new = without k rest ++ (gone ++ went) in
    let it = moved time c ks (without k front) w new le others.1 in
    let a = moves-ahead time c k front le in
    let b = moves-past time c k rest le in
    let d = one-more (λ (x : Wait). nat_le x.class c) k ks front in
    let e = one-more (λ (x : Wait). nat_lt x.class c) k ks rest in
    let f = total-join (past c) (without k rest) (gone ++ went) in
    let g = total-join (past c) gone went in
    let h = counted-join (λ (x : Wait). has_key ks x.key && nat_lt x.class c) (without k rest) (gone ++ went) in
    let i = it.less in
    record {
      front_ = it.front_;
      rest_ = it.rest_;
      are = ap (λ z. send_all time ks z) (sent-around time k front w rest others.0) ∙ it.are;
      less = omega (arith, a, b, d, e, f, g, h, i);
    }

-- ---- the 64 that are emitted in its place

-- those of a class that are due
abbrev of_class : ℕ → List Wait → ℕ → List Wait
of_class now waits class = filter (λ (w : Wait). (w.class == class) && nat_le w.due now) waits

-- the classes below one
abbrev below : ℕ → List ℕ
below zero = []
below (suc c) = below c ++ c ∷ []

record Split (c : ℕ) : Type 0 where
  above : List ℕ
  are : classes_in_order ≡ below c ++ c ∷ above

split-at : (c : ℕ) → c ≤ 6 → Split c
split-at zero le = record { above = 1 ∷ 2 ∷ 3 ∷ 4 ∷ 5 ∷ 6 ∷ []; are = refl }
split-at (suc zero) le = record { above = 2 ∷ 3 ∷ 4 ∷ 5 ∷ 6 ∷ []; are = refl }
split-at (suc (suc zero)) le = record { above = 3 ∷ 4 ∷ 5 ∷ 6 ∷ []; are = refl }
split-at (suc (suc (suc zero))) le = record { above = 4 ∷ 5 ∷ 6 ∷ []; are = refl }
split-at (suc (suc (suc (suc zero)))) le = record { above = 5 ∷ 6 ∷ []; are = refl }
split-at (suc (suc (suc (suc (suc zero))))) le = record { above = 6 ∷ []; are = refl }
split-at (suc (suc (suc (suc (suc (suc zero)))))) le = record { above = []; are = refl }
split-at (suc (suc (suc (suc (suc (suc (suc n))))))) le = absurd (omega (arith, le))

counted-class : (f : Wait → Bool) (now c : ℕ) (xs : List Wait)
    → counted f (of_class now xs c) + counted (λ (w : Wait). f w && nat_lt w.class c) xs
    ≤ counted (λ (w : Wait). f w && nat_le w.class c) xs
counted-class f now c [] = omega arith
counted-class f now c (x ∷ xs) =
    let rest = counted-class f now c xs in
    elim ((x.class == c) && nat_le x.due now) as (λ b. ((x.class == c) && nat_le x.due now) ≡ b
    → counted f (cond b (x ∷ of_class now xs c) (of_class now xs c))
    + (cond (f x && nat_lt x.class c) 1 0 + counted (λ (w : Wait). f w && nat_lt w.class c) xs)
    ≤ cond (f x && nat_le x.class c) 1 0 + counted (λ (w : Wait). f w && nat_le w.class c) xs) [
      | true ↦ λ e. let here = one-of (f x) x.class c (nat_le x.due now) e in omega (arith, rest, here)
      | false ↦ λ e. let here = none-of (f x) x.class c in omega (arith, rest, here)
    ] refl
  where
    one-of : (p : Bool) (d c : ℕ) (q : Bool) → ((d == c) && q) ≡ true
        → cond p 1 0 + cond (p && nat_lt d c) 1 0 ≤ cond (p && nat_le d c) 1 0
    one-of p d c q e = grind (arith, nat_tests, e)

    none-of : (p : Bool) (d c : ℕ) → cond (p && nat_lt d c) 1 0 ≤ cond (p && nat_le d c) 1 0
    none-of p d c = grind (arith, nat_tests)

next-class : (f : Wait → Bool) (c : ℕ) (xs : List Wait)
    → counted (λ (w : Wait). f w && nat_le w.class c) xs ≡ counted (λ (w : Wait). f w && nat_lt w.class (suc c)) xs
next-class f c [] = refl
next-class f c (x ∷ xs) =
    let rest = next-class f c xs in
    let here : nat_le x.class c ≡ nat_lt x.class (suc c) = grind (arith, nat_tests) in
    ap (λ b. cond (f x && b) 1 0 + counted (λ (w : Wait). f w && nat_le w.class c) xs) here
    ∙ ap (λ n. cond (f x && nat_lt x.class (suc c)) 1 0 + n) rest

counted-below : (f : Wait → Bool) (now c : ℕ) (xs : List Wait)
    → counted f (flat_map (of_class now xs) (below c)) ≤ counted (λ (w : Wait). f w && nat_lt w.class c) xs
counted-below f now zero xs = omega arith
counted-below f now (suc c) xs =
    let rest = counted-below f now c xs in
    let here = counted-class f now c xs in
    let next = next-class f c xs in
    let parts : counted f (flat_map (of_class now xs) (below c ++ c ∷ []))
    ≡ counted f (flat_map (of_class now xs) (below c)) + counted f (of_class now xs c) =
    ap (λ z. counted f z) (flat_map-append (of_class now xs) (below c) (c ∷ []))
    ∙ counted-join f (flat_map (of_class now xs) (below c)) (of_class now xs c ++ [])
    ∙ ap (λ z. counted f (flat_map (of_class now xs) (below c)) + counted f z) (append-nil (of_class now xs c)) in
    omega (arith, rest, here, next, parts)

-- what is due before the key that stands here
abbrev before_it : ℕ → List Wait → Wait → List Wait → List Wait
before_it now front w rest =
    flat_map (of_class now (front ++ w ∷ rest)) (below w.class) ++ of_class now front w.class

record DueSplit (now : ℕ) (front : List Wait) (w : Wait) (rest : List Wait) : Type 0 where
  after_it : List Wait
  are : due_at now (front ++ w ∷ rest) ≡ before_it now front w rest ++ w ∷ after_it

due-split : (now : ℕ) (front : List Wait) (w : Wait) (rest : List Wait) → w.class ≤ 6 → nat_le w.due now ≡ true
    → DueSplit now front w rest
due-split now front w rest le due =
    let waits = front ++ w ∷ rest in
    let c = w.class in
    let cut = split-at c le in
    let yes : ((c == c) && nat_le w.due now) ≡ true = grind (arith, nat_tests, due) in
    let own : of_class now waits c ≡ of_class now front c ++ w ∷ of_class now rest c =
    filter-join (λ (x : Wait). (x.class == c) && nat_le x.due now) front (w ∷ rest)
    ∙ ap (λ b. of_class now front c ++ cond b (w ∷ of_class now rest c) (of_class now rest c)) yes in
    let lower = flat_map (of_class now waits) (below c) in
    let upper = flat_map (of_class now waits) cut.above in
    record {
      after_it = of_class now rest c ++ upper;
      are = ap (λ cs. flat_map (of_class now waits) cs) cut.are
          ∙ flat_map-append (of_class now waits) (below c) (c ∷ cut.above)
          ∙ ap (λ z. lower ++ (z ++ upper)) own
          ∙ ap (λ z. lower ++ z) (append_assoc (of_class now front c) (w ∷ of_class now rest c) upper)
          ∙ sym (append_assoc lower (of_class now front c) (w ∷ (of_class now rest c ++ upper)));
    }

or-second : (x y : Bool) → y ≡ true → (x || y) ≡ true
or-second true y h = refl
or-second false y h = h

pub has-there : (xs ys : List Wait) (w : Wait) → has_key (keys_of (xs ++ w ∷ ys)) w.key ≡ true
has-there [] ys w = ap (λ b. b || has_key (keys_of ys) w.key) (same_key-refl w.key)
has-there (x ∷ xs) ys w =
    or-second (same_key w.key x.key) (has_key (keys_of (xs ++ w ∷ ys)) w.key) (has-there xs ys w)

-- the first n of a list that goes on with w have w, where fewer stand before it
take-within : (n : ℕ) (xs ys : List Wait) (w : Wait) → length xs < n
    → has_key (keys_of (take n (xs ++ w ∷ ys))) w.key ≡ true
take-within zero xs ys w lt = absurd (omega (arith, lt))
take-within (suc n) [] ys w lt = has-there [] (take n ys) w
take-within (suc n) (x ∷ xs) ys w lt =
    or-second (same_key w.key x.key) (has_key (keys_of (take n (xs ++ w ∷ ys))) w.key)
    (take-within n xs ys w (omega (arith, lt)))

take-front : (n : ℕ) (xs ys : List Wait) → n ≤ length xs → take n (xs ++ ys) ≡ take n xs
take-front zero xs ys le = refl
take-front (suc n) [] ys le = absurd (omega (arith, le))
take-front (suc n) (x ∷ xs) ys le = ap (λ z. x ∷ z) (take-front n xs ys (omega (arith, le)))

-- each of the first n of a list has its key among theirs
all-taken : (ks : List Wait) (n : ℕ) (xs : List Wait) → n ≤ length xs
    → n ≤ counted (λ (w : Wait). has_key (keys_of (ks ++ take n xs)) w.key) xs
all-taken ks zero xs le = omega arith
all-taken ks (suc n) [] le = absurd (omega (arith, le))
all-taken ks (suc n) (x ∷ xs) le =
    let rest : n ≤ counted (λ (w : Wait). has_key (keys_of ((ks ++ x ∷ []) ++ take n xs)) w.key) xs =
    all-taken (ks ++ x ∷ []) n xs (omega (arith, le)) in
    let same : (ks ++ x ∷ []) ++ take n xs ≡ ks ++ x ∷ take n xs = append_assoc ks (x ∷ []) (take n xs) in
    let rest_ : n ≤ counted (λ (w : Wait). has_key (keys_of (ks ++ x ∷ take n xs)) w.key) xs =
    subst (λ z. n ≤ counted (λ (w : Wait). has_key (keys_of z) w.key) xs) same rest in
    let here : has_key (keys_of (ks ++ x ∷ take n xs)) x.key ≡ true = has-there ks (take n xs) x in
    subst (λ b. suc n ≤ cond b 1 0 + counted (λ (w : Wait). has_key (keys_of (ks ++ x ∷ take n xs)) w.key) xs)
    (sym here) (omega (arith, rest_))

pub enough-emitted : (now : ℕ) (front : List Wait) (w : Wait) (rest : List Wait) → w.class ≤ 6
    → nat_le w.due now ≡ true → has_key (first_due now (front ++ w ∷ rest)) w.key ≡ false
    → 64 ≤ counted (λ (x : Wait). has_key (first_due now (front ++ w ∷ rest)) x.key && nat_le x.class w.class) front
    + counted (λ (x : Wait). has_key (first_due now (front ++ w ∷ rest)) x.key && nat_lt x.class w.class) rest
enough-emitted now front w rest le due off =
    let waits = front ++ w ∷ rest in
    let c = w.class in
    let cut = due-split now front w rest le due in
    let p = before_it now front w rest in
    let keys = first_due now waits in
    elim (nat_lt (length p) 64) as (λ b. nat_lt (length p) 64 ≡ b
    → 64 ≤ counted (λ (x : Wait). has_key keys x.key && nat_le x.class c) front
    + counted (λ (x : Wait). has_key keys x.key && nat_lt x.class c) rest) [
      | true ↦ λ e.
          let few : length p < 64 = grind (arith, nat_tests, e) in
          let has : has_key keys w.key ≡ true =
          ap (λ z. has_key (keys_of (take most_emitted z)) w.key) cut.are ∙ take-within 64 p cut.after_it w few in
          absurd (false≢true (sym off ∙ has))
      | false ↦ λ e.
          let many : 64 ≤ length p = grind (arith, nat_tests, e) in
          let are : keys ≡ keys_of (take 64 p) =
          ap (λ z. keys_of (take most_emitted z)) cut.are
          ∙ ap (λ z. keys_of z) (take-front 64 p (w ∷ cut.after_it) many) in
          let all : 64 ≤ counted (λ (x : Wait). has_key keys x.key) p =
          subst (λ z. 64 ≤ counted (λ (x : Wait). has_key z x.key) p) (sym are) (all-taken [] 64 p many) in
          let parts = counted-join (λ (x : Wait). has_key keys x.key)
          (flat_map (of_class now waits) (below c)) (of_class now front c) in
          let lower = counted-below (λ (x : Wait). has_key keys x.key) now c waits in
          let own = counted-class (λ (x : Wait). has_key keys x.key) now c front in
          let both = counted-join (λ (x : Wait). has_key keys x.key && nat_lt x.class c) front (w ∷ rest) in
          let not_it : nat_lt c c ≡ false = grind (arith, nat_tests) in
          let none : ◌≡◌ {A = ℕ} (cond (has_key keys w.key && nat_lt c c) 1 0) 0 =
          ap (λ b. cond (has_key keys w.key && b) 1 0) not_it ∙ and-none (has_key keys w.key) in
          omega (arith, all, parts, lower, own, both, none)
    ] refl
  where
    and-none : (b : Bool) → ◌≡◌ {A = ℕ} (cond (b && false) 1 0) 0
    and-none true = refl
    and-none false = refl

-- the keys that a tick emits, where the key that stands here isn't one
none-of-them : (k : Key) (ks : List Key) → has_key ks k ≡ false → AreOthers k ks
none-of-them k [] off = tt
none-of-them k (e ∷ ks) off =
    let parts = or-off (same_key k e) (has_key ks k) off in
    (same_key-sym e k ∙ parts.0, none-of-them k ks parts.1)
  where
    or-off : (x y : Bool) → (x || y) ≡ false → (x ≡ false) × (y ≡ false)
    or-off true y h = absurd (false≢true (sym h))
    or-off false y h = (refl, h)

-- what stands around the key after a tick that didn't emit it: it counts 64 less
pub record Nearer (time now c : ℕ) (front : List Wait) (w : Wait) (rest : List Wait) : Type 0 where
  pub front_ : List Wait
  pub rest_ : List Wait
  pub are : send_all time (first_due now (front ++ w ∷ rest)) (front ++ w ∷ rest) ≡ front_ ++ w ∷ rest_
  pub less : total (ahead c) front_ + total (past c) rest_ + 64 ≤ total (ahead c) front + total (past c) rest

pub comes-nearer : (time now : ℕ) (front : List Wait) (w : Wait) (rest : List Wait) → w.class ≤ 6
    → nat_le w.due now ≡ true → has_key (first_due now (front ++ w ∷ rest)) w.key ≡ false
    → Nearer time now w.class front w rest
comes-nearer time now front w rest le due off =
    let ks = first_due now (front ++ w ∷ rest) in
    let it = moved time w.class ks front w rest le (none-of-them w.key ks off) in
    let many = enough-emitted now front w rest le due off in
    let less = it.less in
    record { front_ = it.front_; rest_ = it.rest_; are = it.are; less = omega (arith, many, less) }
