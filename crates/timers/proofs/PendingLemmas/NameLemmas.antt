-- Queues by address, and the numbers of queues by which they are kept.
use Rattle.std.proofs.Common.{◌≡◌, ◌≢◌, ℕ, zero, suc, ◌+◌, ◌<◌, ◌≤◌, cond, List, [], ◌∷◌, ◌++◌, length, set}
use Rattle.std.proofs.Common.{refl, sym, ap, subst, ◌∙◌, arith, length-set, length-append}
use Rattle.std.specs.Prelude.{nat_lt, Bool, true, false, drop, replicate, not, slice_index_or, remove}
use Rattle.std.specs.List.{AllByRecursion}
use Rattle.std.specs.Str.{bytes_eq}
use Rattle.std.proofs.lemmas.Slice.Eq.{bytes_eq-Decides}
use Rattle.std.proofs.lemmas.Bool.Decides.{nat_tests}
use Rattle.std.proofs.lemmas.List.{get_or-set_same, get_or-set_other, length-replicate, drop-append-le}
use Rattle.std.proofs.lemmas.List.Edits.{length-remove}
use Rattle.timers.specs.Pending.Waiting.{packets_for, has_queue, may_wait, with_packet, without_first, rest_of}
use Rattle.timers.specs.Pending.Waiting.{first_in, is_ready, used}
use Rattle.timers.specs.Pending.Table.{queue_at}
use Rattle.timers.specs.Pending.Names.{named, place_in, numbers, number_at, opened, moved_last, NotIn, Distinct, Empty}
use Rattle.timers.specs.Pending.Names.{kept_addresses, kept_order, more_of, IsNamed}
use Rattle.timers.proofs.PendingLemmas.EachLemmas.{each-at, each-last, each-remove, each-drop}

-- a queue whose number is none of these changes
named-set : {T : Type 0} (names : List (List ℕ)) (order : List ℕ) (qs : List (List T)) (l : ℕ) (x : List T)
    → NotIn l order → named names order (set qs l x) ≡ named names order qs
named-set [] order qs l x h = refl
named-set (a ∷ names) [] qs l x h = refl
named-set (a ∷ names) (k ∷ order) qs l x h =
    ap (λ z. record { address = a; packets = z } ∷ named names order (set qs l x))
    (get_or-set_other qs l k x [] (λ e. h.0 (sym e)))
    ∙ ap (λ z. record { address = a; packets = queue_at qs k } ∷ z) (named-set names order qs l x h.1)

pub place-least : (names : List (List ℕ)) (u : List ℕ) → place_in names u ≤ length names
place-least [] u = omega arith
place-least (a ∷ names) u =
    let rest : place_in names u ≤ length names = place-least names u in
    elim (bytes_eq a u) as (λ b. cond b 0 (suc (place_in names u)) ≤ suc (length names)) [
      | true ↦ omega arith
      | false ↦ omega arith
    ]

-- what the definitions find is what stands at the place
pub has-place : {T : Type 0} (names : List (List ℕ)) (order : List ℕ) (qs : List (List T)) (u : List ℕ)
    → length names ≤ length order
    → has_queue (named names order qs) u ≡ nat_lt (place_in names u) (length names)
has-place [] order qs u le = grind (arith, nat_tests)
has-place (a ∷ names) [] qs u le = absurd (omega arith)
has-place (a ∷ names) (k ∷ order) qs u le =
    let rest : has_queue (named names order qs) u ≡ nat_lt (place_in names u) (length names) =
    has-place names order qs u (omega arith) in
    elim (bytes_eq a u) as (λ b. cond b true (has_queue (named names order qs) u)
    ≡ nat_lt (cond b 0 (suc (place_in names u))) (suc (length names))) [
      | true ↦ grind (arith, nat_tests)
      | false ↦ grind (arith, nat_tests)
    ]

packets-in : {T : Type 0} (names : List (List ℕ)) (order : List ℕ) (qs : List (List T)) (u : List ℕ)
    → length names ≤ length order → place_in names u < length names
    → packets_for (named names order qs) u ≡ queue_at qs (number_at order (place_in names u))
packets-in [] order qs u le lt = absurd (omega arith)
packets-in (a ∷ names) [] qs u le lt = absurd (omega arith)
packets-in (a ∷ names) (k ∷ order) qs u le lt =
    elim (bytes_eq a u) as (λ b. cond b 0 (suc (place_in names u)) < suc (length names)
    → cond b (queue_at qs k) (packets_for (named names order qs) u)
    ≡ queue_at qs (number_at (k ∷ order) (cond b 0 (suc (place_in names u))))) [
      | true ↦ λ h. refl
      | false ↦ λ h. packets-in names order qs u (omega arith) (omega arith)
    ] lt

pub packets-none : {T : Type 0} (names : List (List ℕ)) (order : List ℕ) (qs : List (List T)) (u : List ℕ)
    → length names ≤ place_in names u → packets_for (named names order qs) u ≡ []
packets-none [] order qs u ge = refl
packets-none (a ∷ names) [] qs u ge = refl
packets-none (a ∷ names) (k ∷ order) qs u ge =
    elim (bytes_eq a u) as (λ b. suc (length names) ≤ cond b 0 (suc (place_in names u))
    → cond b (queue_at qs k) (packets_for (named names order qs) u) ≡ []) [
      | true ↦ λ h. absurd (omega arith)
      | false ↦ λ h. packets-none names order qs u (omega arith)
    ] ge

pub length-named : {T : Type 0} (names : List (List ℕ)) (order : List ℕ) (qs : List (List T))
    → length names ≤ length order → length (named names order qs) ≡ length names
length-named [] order qs le = refl
length-named (a ∷ names) [] qs le = absurd (omega arith)
length-named (a ∷ names) (k ∷ order) qs le = ap suc (length-named names order qs (omega arith))

pub opened-old : (names : List (List ℕ)) (u : List ℕ) → place_in names u < length names → opened names u ≡ names
opened-old [] u lt = absurd (omega arith)
opened-old (a ∷ names) u lt =
    elim (bytes_eq a u) as (λ b. cond b 0 (suc (place_in names u)) < suc (length names)
    → cond b (a ∷ names) (a ∷ opened names u) ≡ a ∷ names) [
      | true ↦ λ h. refl
      | false ↦ λ h. ap (λ z. a ∷ z) (opened-old names u (omega arith))
    ] lt

pub opened-new : (names : List (List ℕ)) (u : List ℕ) → length names ≤ place_in names u
    → opened names u ≡ names ++ u ∷ []
opened-new [] u ge = refl
opened-new (a ∷ names) u ge =
    elim (bytes_eq a u) as (λ b. suc (length names) ≤ cond b 0 (suc (place_in names u))
    → cond b (a ∷ names) (a ∷ opened names u) ≡ a ∷ (names ++ u ∷ [])) [
      | true ↦ λ h. absurd (omega arith)
      | false ↦ λ h. ap (λ z. a ∷ z) (opened-new names u (omega arith))
    ] ge

-- a packet is put behind those of its queue
abbrev pub with_last : {T : Type 0} → List (List T) → ℕ → T → List (List T)
with_last qs l p = set qs l (queue_at qs l ++ p ∷ [])

pub put-named : {T : Type 0} (names : List (List ℕ)) (order : List ℕ) (qs : List (List T)) (u : List ℕ) (p : T)
    → place_in names u < length order → length names ≤ length order → length qs ≡ 256
    → AllByRecursion (λ l. l < 256) order → Distinct order
    → Empty qs (drop (length names) order)
    → with_packet (named names order qs) u p
    ≡ named (opened names u) order (with_last qs (number_at order (place_in names u)) p)
put-named [] [] qs u p lt le all low d e = absurd (omega arith)
put-named [] (k ∷ order) qs u p lt le all low d e =
    let few : k < 256 = low.0 in
    ap (λ z. record { address = u; packets = z } ∷ [])
    (ap (λ z. z ++ p ∷ []) (sym e.0) ∙ sym (get_or-set_same qs k (queue_at qs k ++ p ∷ []) [] (omega arith)))
put-named (a ∷ names) [] qs u p lt le all low d e = absurd (omega arith)
put-named (a ∷ names) (k ∷ order) qs u p lt le all low d e =
    let few : k < 256 = low.0 in
    elim (bytes_eq a u) as (λ b. cond b 0 (suc (place_in names u)) < suc (length order)
    → cond b (record { address = a; packets = queue_at qs k ++ p ∷ [] } ∷ named names order qs)
    (record { address = a; packets = queue_at qs k } ∷ with_packet (named names order qs) u p)
    ≡ named (cond b (a ∷ names) (a ∷ opened names u)) (k ∷ order)
    (with_last qs (number_at (k ∷ order) (cond b 0 (suc (place_in names u)))) p)) [
      | true ↦ λ h.
          ap (λ z. record { address = a; packets = z } ∷ named names order qs)
          (sym (get_or-set_same qs k (queue_at qs k ++ p ∷ []) [] (omega arith)))
          ∙ ap (λ z. record { address = a; packets = queue_at (with_last qs k p) k } ∷ z)
          (sym (named-set names order qs k (queue_at qs k ++ p ∷ []) d.0))
      | false ↦ λ h.
          let l = number_at order (place_in names u) in
          let other : k ≢ l = each-at (λ z. k ≢ z) order (place_in names u) 0 (omega arith) d.0 in
          ap (λ z. record { address = a; packets = z } ∷ with_packet (named names order qs) u p)
          (sym (get_or-set_other qs l k (queue_at qs l ++ p ∷ []) [] other))
          ∙ ap (λ z. record { address = a; packets = queue_at (with_last qs l p) k } ∷ z)
          (put-named names order qs u p (omega arith) (omega arith) all low.1 d.1 e)
    ] lt

-- where the rest of a queue is empty, the item at its place is left out
abbrev left : {A : Type 0} {T : Type 0} → List A → ℕ → List T → List A
left xs at [] = remove xs at
left xs at (p ∷ ps) = xs

left-behind : {A : Type 0} {T : Type 0} (x : A) (xs : List A) (at : ℕ) (rest : List T)
    → left (x ∷ xs) (suc at) rest ≡ x ∷ left xs at rest
left-behind x xs at [] = refl
left-behind x xs at (p ∷ ps) = refl

-- a packet is taken
poll-named : {T : Type 0} (names : List (List ℕ)) (order : List ℕ) (qs : List (List T)) (u : List ℕ) (rest : List T)
    → place_in names u < length names → length names ≤ length order → length qs ≡ 256
    → AllByRecursion (λ l. l < 256) order → Distinct order
    → drop 1 (queue_at qs (number_at order (place_in names u))) ≡ rest
    → without_first (named names order qs) u
    ≡ named (left names (place_in names u) rest) (left order (place_in names u) rest)
    (set qs (number_at order (place_in names u)) rest)
poll-named [] order qs u rest lt le all low d e = absurd (omega arith)
poll-named (a ∷ names) [] qs u rest lt le all low d e = absurd (omega arith)
poll-named {T} (a ∷ names) (k ∷ order) qs u rest lt le all low d e =
    let few : k < 256 = low.0 in
    elim (bytes_eq a u) as (λ b. cond b 0 (suc (place_in names u)) < suc (length names)
    → drop 1 (queue_at qs (number_at (k ∷ order) (cond b 0 (suc (place_in names u))))) ≡ rest
    → cond b (rest_of a (drop 1 (queue_at qs k)) (named names order qs))
    (record { address = a; packets = queue_at qs k } ∷ without_first (named names order qs) u)
    ≡ named (left (a ∷ names) (cond b 0 (suc (place_in names u))) rest)
    (left (k ∷ order) (cond b 0 (suc (place_in names u))) rest)
    (set qs (number_at (k ∷ order) (cond b 0 (suc (place_in names u)))) rest)) [
      | true ↦ λ h f. ap (λ z. rest_of a z (named names order qs)) f ∙ here rest (omega arith)
      | false ↦ λ h f.
          let at = place_in names u in
          let l = number_at order at in
          let other : k ≢ l = each-at (λ z. k ≢ z) order at 0 (omega arith) d.0 in
          rw (left-behind a names at rest, left-behind k order at rest)
          (ap (λ z. record { address = a; packets = z } ∷ without_first (named names order qs) u)
          (sym (get_or-set_other qs l k rest [] other))
          ∙ ap (λ z. record { address = a; packets = queue_at (set qs l rest) k } ∷ z)
          (poll-named names order qs u rest (omega arith) (omega arith) all low.1 d.1 f))
    ] lt e
  where
    here : (ps : List T) → k < length qs → rest_of a ps (named names order qs)
        ≡ named (left (a ∷ names) 0 ps) (left (k ∷ order) 0 ps) (set qs k ps)
    here [] few = sym (named-set names order qs k [] d.0)
    here (p ∷ ps) few =
        ap (λ z. record { address = a; packets = z } ∷ named names order qs)
        (sym (get_or-set_same qs k (p ∷ ps) [] few))
        ∙ ap (λ z. record { address = a; packets = queue_at (set qs k (p ∷ ps)) k } ∷ z)
        (sym (named-set names order qs k (p ∷ ps) d.0))

-- where no packet waits, a poll takes none
pub poll-none : {T : Type 0} (names : List (List ℕ)) (order : List ℕ) (qs : List (List T)) (u : List ℕ)
    → length names ≤ place_in names u → without_first (named names order qs) u ≡ named names order qs
poll-none [] order qs u ge = refl
poll-none (a ∷ names) [] qs u ge = refl
poll-none (a ∷ names) (k ∷ order) qs u ge =
    elim (bytes_eq a u) as (λ b. suc (length names) ≤ cond b 0 (suc (place_in names u))
    → cond b (rest_of a (drop 1 (queue_at qs k)) (named names order qs))
    (record { address = a; packets = queue_at qs k } ∷ without_first (named names order qs) u)
    ≡ record { address = a; packets = queue_at qs k } ∷ named names order qs) [
      | true ↦ λ h. absurd (omega arith)
      | false ↦ λ h. ap (λ z. record { address = a; packets = queue_at qs k } ∷ z)
          (poll-none names order qs u (omega arith))
    ] ge

-- numbers behind those of the addresses don't matter
named-behind : {T : Type 0} (names : List (List ℕ)) (order more : List ℕ) (qs : List (List T))
    → length names ≤ length order → named names (order ++ more) qs ≡ named names order qs
named-behind [] order more qs le = refl
named-behind (a ∷ names) [] more qs le = absurd (omega arith)
named-behind (a ∷ names) (k ∷ order) more qs le =
    ap (λ z. record { address = a; packets = queue_at qs k } ∷ z) (named-behind names order more qs (omega arith))

shorter : {A B : Type 0} (xs : List A) (ys : List B) (at : ℕ) → at < length xs → length xs ≤ length ys
    → length (remove xs at) ≤ length (remove ys at)
shorter xs ys at lt le =
    let one : length (remove xs at) + 1 ≡ length xs = length-remove xs at lt in
    let other : length (remove ys at) + 1 ≡ length ys = length-remove ys at (omega arith) in
    omega arith

-- the orders of numbers
Distinct-last : (xs : List ℕ) (y : ℕ) → Distinct xs → NotIn y xs → Distinct (xs ++ y ∷ [])
Distinct-last [] y h n = (tt, tt)
Distinct-last (x ∷ xs) y h n = (each-last (λ k. x ≢ k) xs y h.0 (λ e. n.0 (sym e)), Distinct-last xs y h.1 n.1)

Distinct-moved : (xs : List ℕ) (at : ℕ) → at < length xs → Distinct xs → Distinct (moved_last xs at)
Distinct-moved [] at lt h = absurd (omega arith)
Distinct-moved (x ∷ xs) zero lt h = Distinct-last xs x h.1 h.0
Distinct-moved (x ∷ xs) (suc at) lt h = (
  each-last (λ k. x ≢ k) (remove xs at) (number_at xs at) (each-remove (λ k. x ≢ k) xs at h.0)
      (each-at (λ k. x ≢ k) xs at 0 (omega arith) h.0),
  Distinct-moved xs at (omega arith) h.1,
)

-- the number at a place is not behind it
NotIn-behind : (xs : List ℕ) (at m : ℕ) → at < length xs → at < m → Distinct xs → NotIn (number_at xs at) (drop m xs)
NotIn-behind [] at m lt below h = absurd (omega arith)
NotIn-behind (x ∷ xs) at zero lt below h = absurd (omega arith)
NotIn-behind (x ∷ xs) zero (suc m) lt below h = each-drop (λ k. x ≢ k) xs m h.0
NotIn-behind (x ∷ xs) (suc at) (suc m) lt below h = NotIn-behind xs at m (omega arith) (omega arith) h.1

Empty-set : {T : Type 0} (qs : List (List T)) (l : ℕ) (x : List T) (xs : List ℕ) → NotIn l xs → Empty qs xs
    → Empty (set qs l x) xs
Empty-set qs l x [] n h = tt
Empty-set qs l x (y ∷ xs) n h =
    (get_or-set_other qs l y x [] (λ e. n.0 (sym e)) ∙ h.0, Empty-set qs l x xs n.1 h.1)

Empty-drop : {T : Type 0} (qs : List (List T)) (xs : List ℕ) (m : ℕ) → Empty qs (drop m xs)
    → Empty qs (drop (suc m) xs)
Empty-drop qs [] m h = tt
Empty-drop qs (x ∷ xs) zero h = h.1
Empty-drop qs (x ∷ xs) (suc m) h = Empty-drop qs xs m h

drop-moved : (xs : List ℕ) (at m : ℕ) → at ≤ m → m < length xs
    → drop m (moved_last xs at) ≡ drop (suc m) xs ++ number_at xs at ∷ []
drop-moved [] at m le lt = absurd (omega arith)
drop-moved (x ∷ xs) zero m le lt = drop-append-le m xs (x ∷ []) (omega arith)
drop-moved (x ∷ xs) (suc at) zero le lt = absurd (omega arith)
drop-moved (x ∷ xs) (suc at) (suc m) le lt = drop-moved xs at m (omega arith) (omega arith)

-- at the start the numbers are in order
Below-numbers : (n m : ℕ) → n ≤ m → NotIn m (numbers n)
Below-numbers zero m le = tt
Below-numbers (suc n) m le =
    each-last (λ k. m ≢ k) (numbers n) n (Below-numbers n m (omega arith)) (λ e. absurd (omega arith))

Distinct-numbers : (n : ℕ) → Distinct (numbers n)
Distinct-numbers zero = tt
Distinct-numbers (suc n) = Distinct-last (numbers n) n (Distinct-numbers n) (Below-numbers n n (omega arith))

Low-numbers : (n : ℕ) → n ≤ 256 → AllByRecursion (λ l. l < 256) (numbers n)
Low-numbers zero le = tt
Low-numbers (suc n) le = each-last (λ l. l < 256) (numbers n) n (Low-numbers n (omega arith)) (omega arith)

length-numbers : (n : ℕ) → length (numbers n) ≡ n
length-numbers zero = refl
length-numbers (suc n) =
    let rest : length (numbers n) ≡ n = length-numbers n in
    let more : length (numbers n ++ n ∷ []) ≡ length (numbers n) + 1 = length-append (numbers n) (n ∷ []) in
    omega arith

none-at : (T : Type 0) (n l : ℕ) → queue_at {T = T} (replicate n []) l ≡ []
none-at T zero l = refl
none-at T (suc n) zero = refl
none-at T (suc n) (suc l) = none-at T n l

Empty-all : (T : Type 0) (n : ℕ) (xs : List ℕ) → Empty {T = T} (replicate n []) xs
Empty-all T n [] = tt
Empty-all T n (x ∷ xs) = (none-at T n x, Empty-all T n xs)

pub new-named : {T : Type 0} (order : List ℕ) (qs : List (List T)) (room places : ℕ) → order ≡ numbers 256
    → qs ≡ replicate 256 [] → 256 ≤ room → 256 ≤ places → IsNamed [] order qs room places
new-named {T} order qs room places e f r p = record {
  many = omega arith;
  all = ap length e ∙ length-numbers 256;
  low = subst (AllByRecursion (λ l. l < 256)) (sym e) (Low-numbers 256 (omega arith));
  distinct = subst Distinct (sym e) (Distinct-numbers 256);
  empty = subst (λ z. Empty z order) (sym f) (Empty-all T 256 order);
  queues = ap length f ∙ length-replicate {A = List T} 256 [];
  room_ = r;
  places_ = p;
}

-- of queues with addresses
pub place-under : {T : Type 0} (names : List (List ℕ)) (order : List ℕ) (qs : List (List T)) (room places : ℕ)
    (u : List ℕ) → IsNamed names order qs room places → may_wait (named names order qs) u ≡ true
    → place_in names u < 256
place-under names order qs room places u k m =
    let many = k.many in
    let all = k.all in
    let least : place_in names u ≤ length names = place-least names u in
    let len : length (named names order qs) ≡ length names = length-named names order qs (omega arith) in
    let found : has_queue (named names order qs) u ≡ nat_lt (place_in names u) (length names) =
    has-place names order qs u (omega arith) in
    elim (has_queue (named names order qs) u) as (λ b. has_queue (named names order qs) u ≡ b
    → cond b (nat_lt (length (packets_for (named names order qs) u)) 64) (nat_lt (length (named names order qs)) 256)
    ≡ true → place_in names u < 256) [
      | true ↦ λ e h. grind (arith, nat_tests)
      | false ↦ λ e h. grind (arith, nat_tests)
    ] refl m

pub number-under : {T : Type 0} (names : List (List ℕ)) (order : List ℕ) (qs : List (List T)) (room places at : ℕ)
    → IsNamed names order qs room places → at < 256 → number_at order at < 256
number-under names order qs room places at k lt =
    let all = k.all in each-at (λ l. l < 256) order at 0 (omega arith) k.low

pub packets-at : {T : Type 0} (names : List (List ℕ)) (order : List ℕ) (qs : List (List T)) (room places : ℕ)
    (u : List ℕ) → IsNamed names order qs room places → place_in names u < length names
    → packets_for (named names order qs) u ≡ queue_at qs (number_at order (place_in names u))
packets-at names order qs room places u k lt =
    let many = k.many in
    let all = k.all in
    packets-in names order qs u (omega arith) lt

Empty-at : {T : Type 0} (qs : List (List T)) (order : List ℕ) (m : ℕ) → m < length order → Empty qs (drop m order)
    → queue_at qs (number_at order m) ≡ []
Empty-at qs [] m lt h = absurd (omega arith)
Empty-at qs (k ∷ order) zero lt h = h.0
Empty-at qs (k ∷ order) (suc m) lt h = Empty-at qs order m (omega arith) h

-- the queue of an address for which a packet may wait isn't full
pub place-room : {T : Type 0} (names : List (List ℕ)) (order : List ℕ) (qs : List (List T)) (room places : ℕ)
    (u : List ℕ) → IsNamed names order qs room places → may_wait (named names order qs) u ≡ true
    → length (queue_at qs (number_at order (place_in names u))) < 64
place-room names order qs room places u k m =
    let many = k.many in
    let all = k.all in
    let under = place-under names order qs room places u k m in
    let least : place_in names u ≤ length names = place-least names u in
    let found : has_queue (named names order qs) u ≡ nat_lt (place_in names u) (length names) =
    has-place names order qs u (omega arith) in
    elim (has_queue (named names order qs) u) as (λ b. has_queue (named names order qs) u ≡ b
    → cond b (nat_lt (length (packets_for (named names order qs) u)) 64) (nat_lt (length (named names order qs)) 256)
    ≡ true → length (queue_at qs (number_at order (place_in names u))) < 64) [
      | true ↦ λ e h.
          let lt : place_in names u < length names = grind (arith, nat_tests) in
          let same : length (packets_for (named names order qs) u)
          ≡ length (queue_at qs (number_at order (place_in names u))) =
          ap length (packets-at names order qs room places u k lt) in
          grind (arith, nat_tests)
      | false ↦ λ e h.
          let eq : place_in names u ≡ length names = grind (arith, nat_tests) in
          let none : queue_at qs (number_at order (place_in names u)) ≡ [] =
          subst (λ z. queue_at qs (number_at order z) ≡ []) (sym eq)
          (Empty-at qs order (length names) (omega arith) k.empty) in
          let len : length (queue_at qs (number_at order (place_in names u))) ≡ 0 = ap length none in
          omega arith
    ] refl m

pub put-view : {T : Type 0} (names : List (List ℕ)) (order : List ℕ) (qs : List (List T)) (room places : ℕ)
    (u : List ℕ) (p : T) → IsNamed names order qs room places → may_wait (named names order qs) u ≡ true
    → named (opened names u) order (with_last qs (number_at order (place_in names u)) p)
    ≡ with_packet (named names order qs) u p
put-view names order qs room places u p k m =
    let many = k.many in
    let all = k.all in
    let under = place-under names order qs room places u k m in
    sym (put-named names order qs u p (omega arith) (omega arith) k.queues k.low k.distinct k.empty)

pub put-invariant : {T : Type 0} (names : List (List ℕ)) (order : List ℕ) (qs : List (List T))
    (room places more_room : ℕ) (u : List ℕ) (p : T) → IsNamed names order qs room places
    → may_wait (named names order qs) u ≡ true → 256 ≤ more_room
    → IsNamed (opened names u) order (with_last qs (number_at order (place_in names u)) p) more_room places
put-invariant names order qs room places more_room u p k m r =
    let l = number_at order (place_in names u) in
    let x = queue_at qs l ++ p ∷ [] in
    let many = k.many in
    let all = k.all in
    let under = place-under names order qs room places u k m in
    let least : place_in names u ≤ length names = place-least names u in
    elim (nat_lt (place_in names u) (length names)) as (λ b. nat_lt (place_in names u) (length names) ≡ b
    → IsNamed (opened names u) order (set qs l x) more_room places) [
      | true ↦ λ e.
          let lt : place_in names u < length names = grind (arith, nat_tests) in
          rw (opened-old names u lt) (record {
            many = k.many;
            all = k.all;
            low = k.low;
            distinct = k.distinct;
            empty = Empty-set qs l x (drop (length names) order)
                (NotIn-behind order (place_in names u) (length names) (omega arith) lt k.distinct) k.empty;
            queues = length-set qs l x ∙ k.queues;
            room_ = r;
            places_ = k.places_;
          })
      | false ↦ λ e.
          let ge : length names ≤ place_in names u = grind (arith, nat_tests) in
          let len : length (names ++ u ∷ []) ≡ suc (length names) =
          length-append names (u ∷ []) ∙ omega arith in
          rw (opened-new names u ge) (record {
            many = omega arith;
            all = k.all;
            low = k.low;
            distinct = k.distinct;
            empty = rw len (Empty-set qs l x (drop (suc (length names)) order)
                (NotIn-behind order (place_in names u) (suc (length names)) (omega arith) (omega arith) k.distinct)
                (Empty-drop qs order (length names) k.empty));
            queues = length-set qs l x ∙ k.queues;
            room_ = r;
            places_ = k.places_;
          })
    ] refl

-- without the first packet of the queue at a place
abbrev pub with_rest : {T : Type 0} → List (List T) → ℕ → List (List T)
with_rest qs l = set qs l (drop 1 (queue_at qs l))

-- whether it has more then
abbrev pub more_at : {T : Type 0} → List (List T) → ℕ → Bool
more_at qs l = more_of (first_in (queue_at qs l))

kept-named : {T : Type 0} (names : List (List ℕ)) (order : List ℕ) (qs : List (List T)) (at : ℕ) (q : List T)
    → at < length names → length names ≤ length order
    → named (kept_addresses names at (more_of (first_in q))) (kept_order order at (more_of (first_in q))) qs
    ≡ named (left names at (drop 1 q)) (left order at (drop 1 q)) qs
kept-named names order qs at [] lt le =
    named-behind (remove names at) (remove order at) (number_at order at ∷ []) qs (shorter names order at lt le)
kept-named names order qs at (p ∷ []) lt le =
    named-behind (remove names at) (remove order at) (number_at order at ∷ []) qs (shorter names order at lt le)
kept-named names order qs at (p ∷ q ∷ ps) lt le =
    let some : nat_lt 0 (suc (length ps)) ≡ true = grind (arith, nat_tests) in rw some refl

no_more : {T : Type 0} (q : List T) → more_of (first_in q) ≡ false → drop 1 q ≡ []
no_more [] e = refl
no_more (p ∷ []) e = refl
no_more (p ∷ q ∷ ps) e = absurd (grind (arith, nat_tests))

pub poll-view : {T : Type 0} (names : List (List ℕ)) (order : List ℕ) (qs : List (List T)) (room places : ℕ)
    (u : List ℕ) → IsNamed names order qs room places → place_in names u < length names
    → named (kept_addresses names (place_in names u) (more_at qs (number_at order (place_in names u))))
    (kept_order order (place_in names u) (more_at qs (number_at order (place_in names u))))
    (with_rest qs (number_at order (place_in names u)))
    ≡ without_first (named names order qs) u
poll-view names order qs room places u k lt =
    let at = place_in names u in
    let l = number_at order at in
    let many = k.many in
    let all = k.all in
    kept-named names order (with_rest qs l) at (queue_at qs l) lt (omega arith)
    ∙ sym (poll-named names order qs u (drop 1 (queue_at qs l)) lt (omega arith) k.queues k.low k.distinct refl)

pub poll-invariant : {T : Type 0} (names : List (List ℕ)) (order : List ℕ) (qs : List (List T))
    (room places more_room more_places : ℕ) (u : List ℕ) → IsNamed names order qs room places
    → place_in names u < length names → 256 ≤ more_room → 256 ≤ more_places
    → IsNamed (kept_addresses names (place_in names u) (more_at qs (number_at order (place_in names u))))
    (kept_order order (place_in names u) (more_at qs (number_at order (place_in names u))))
    (with_rest qs (number_at order (place_in names u))) more_room more_places
poll-invariant names order qs room places more_room more_places u k lt r p =
    chosen (more_at qs (number_at order (place_in names u))) refl
  where
    kept : Empty (with_rest qs (number_at order (place_in names u))) (drop (length names) order)
    kept =
        let at = place_in names u in
        let many = k.many in
        let all = k.all in
        Empty-set qs (number_at order at) (drop 1 (queue_at qs (number_at order at))) (drop (length names) order)
        (NotIn-behind order at (length names) (omega arith) lt k.distinct) k.empty

    chosen : (b : Bool) → more_at qs (number_at order (place_in names u)) ≡ b
        → IsNamed (kept_addresses names (place_in names u) b) (kept_order order (place_in names u) b)
        (with_rest qs (number_at order (place_in names u))) more_room more_places
    chosen true e =
        let l = number_at order (place_in names u) in
        record {
          many = k.many;
          all = k.all;
          low = k.low;
          distinct = k.distinct;
          empty = kept;
          queues = length-set qs l (drop 1 (queue_at qs l)) ∙ k.queues;
          room_ = r;
          places_ = p;
        }
    chosen false e =
        let at = place_in names u in
        let l = number_at order at in
        let many = k.many in
        let all = k.all in
        let low : l < 256 = number-under names order qs room places at k (omega arith) in
        let queues = k.queues in
        let gone : length (remove names at) + 1 ≡ length names = length-remove names at lt in
        let fewer : length (remove order at) + 1 ≡ length order = length-remove order at (omega arith) in
        let moved : length (moved_last order at) ≡ length (remove order at) + 1 =
        length-append (remove order at) (l ∷ []) in
        let next : length names ≡ suc (length (remove names at)) = omega arith in
        let none : queue_at (with_rest qs l) l ≡ [] =
        get_or-set_same qs l (drop 1 (queue_at qs l)) [] (omega arith) ∙ no_more (queue_at qs l) e in
        record {
          many = omega arith;
          all = omega arith;
          low = each-last (λ z. z < 256) (remove order at) l (each-remove (λ z. z < 256) order at k.low) low;
          distinct = Distinct-moved order at (omega arith) k.distinct;
          empty = rw (drop-moved order at (length (remove names at)) (omega arith) (omega arith))
              (each-last (λ z. queue_at (with_rest qs l) z ≡ []) (drop (suc (length (remove names at))) order) l
              (subst (λ z. Empty (with_rest qs l) (drop z order)) next kept) none);
          queues = length-set qs l (drop 1 (queue_at qs l)) ∙ k.queues;
          room_ = r;
          places_ = p;
        }

pub may-new : {T : Type 0} (names : List (List ℕ)) (order : List ℕ) (qs : List (List T)) (room places : ℕ)
    (u : List ℕ) → IsNamed names order qs room places → length names ≤ place_in names u
    → nat_lt (place_in names u) 256 ≡ may_wait (named names order qs) u
may-new names order qs room places u k ge =
    let many = k.many in
    let all = k.all in
    let least : place_in names u ≤ length names = place-least names u in
    let len : length (named names order qs) ≡ length names = length-named names order qs (omega arith) in
    let found : has_queue (named names order qs) u ≡ nat_lt (place_in names u) (length names) =
    has-place names order qs u (omega arith) in
    let none : has_queue (named names order qs) u ≡ false = grind (arith, nat_tests) in
    rw none (grind (arith, nat_tests))

pub may-old : {T : Type 0} (names : List (List ℕ)) (order : List ℕ) (qs : List (List T)) (room places : ℕ)
    (u : List ℕ) → IsNamed names order qs room places → place_in names u < length names
    → not (nat_lt 63 (length (queue_at qs (number_at order (place_in names u)))))
    ≡ may_wait (named names order qs) u
may-old names order qs room places u k lt =
    let many = k.many in
    let all = k.all in
    let found : has_queue (named names order qs) u ≡ nat_lt (place_in names u) (length names) =
    has-place names order qs u (omega arith) in
    let some : has_queue (named names order qs) u ≡ true = grind (arith, nat_tests) in
    let same : length (packets_for (named names order qs) u)
    ≡ length (queue_at qs (number_at order (place_in names u))) =
    ap length (packets-at names order qs room places u k lt)
    in
    rw (some, same) (grind (arith, nat_tests))

-- an address for which room was made
pub used-none : (ready : List (List ℕ)) (u : List ℕ) → length ready ≤ place_in ready u
    → (is_ready ready u ≡ false) × (used ready u ≡ ready)
used-none [] u ge = (refl, refl)
used-none (a ∷ ready) u ge =
    elim (bytes_eq a u) as (λ b. suc (length ready) ≤ cond b 0 (suc (place_in ready u))
    → (cond b true (is_ready ready u) ≡ false) × (cond b ready (a ∷ used ready u) ≡ a ∷ ready)) [
      | true ↦ λ h. absurd (omega arith)
      | false ↦ λ h. let rest = used-none ready u (omega arith) in (rest.0, ap (λ z. a ∷ z) rest.1)
    ] ge

pub used-at : (ready : List (List ℕ)) (u : List ℕ) → place_in ready u < length ready
    → (slice_index_or ready (place_in ready u) [] ≡ u) × (remove ready (place_in ready u) ≡ used ready u)
used-at [] u lt = absurd (omega arith)
used-at (a ∷ ready) u lt =
    elim (bytes_eq a u) as (λ b. bytes_eq a u ≡ b → cond b 0 (suc (place_in ready u)) < suc (length ready)
    → (slice_index_or (a ∷ ready) (cond b 0 (suc (place_in ready u))) [] ≡ u)
    × (remove (a ∷ ready) (cond b 0 (suc (place_in ready u))) ≡ cond b ready (a ∷ used ready u))) [
      | true ↦ λ e h. ((bytes_eq-Decides a u).0 e, refl)
      | false ↦ λ e h. let rest = used-at ready u (omega arith) in (rest.0, ap (λ z. a ∷ z) rest.1)
    ] refl lt
