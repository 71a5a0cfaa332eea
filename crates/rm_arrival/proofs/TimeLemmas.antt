-- When what waits is due.
use Rattle.std.proofs.Common.{ℕ, zero, suc, ◌+◌, ◌≤◌, min, not, cond, Bool, true, false, List, [], ◌∷◌, ◌++◌, map}
use Rattle.std.proofs.Common.{filter, arith}
use Rattle.std.specs.List.{AllByRecursion}
use Rattle.timers.specs.declared.slots.timers.Key.{Key}
use Rattle.timers.specs.Slots.Waits.{due_in}
use Rattle.timers.specs.Keys.Waits.{Wait, at_key, begin_all, begun, emitted, fresh, moved_last, put_into, same_key}
use Rattle.timers.specs.Keys.Waits.{send_all, urge_all, without}
use Rattle.rm_protocol.specs.Waiting.{begun_by, is_waiting, still, waiting_keys}
use Rattle.rm_arrival.specs.Round.{IsTimely, WaitsAreTimely}

-- each of them is
abbrev All : ℕ → List Wait → Type 0
All time waits = AllByRecursion (IsTimely time) waits

all-both : (time : ℕ) (xs ys : List Wait) → All time xs → All time ys → All time (xs ++ ys)
all-both time [] ys h k = k
all-both time (x ∷ xs) ys h k = (h.0, all-both time xs ys h.1 k)

all-some : (time : ℕ) (f : Wait → Bool) (xs : List Wait) → All time xs → All time (filter f xs)
all-some time f [] h = tt
all-some time f (x ∷ xs) h = elim (f x) as (λ b. All time (cond b (x ∷ filter f xs) (filter f xs))) [
  | true ↦ (h.0, all-some time f xs h.1)
  | false ↦ all-some time f xs h.1
]

all-changed : (time : ℕ) (change : Wait → Wait) → ((w : Wait) → IsTimely time (change w)) → (xs : List Wait)
    → All time (map change xs)
all-changed time change so [] = tt
all-changed time change so (x ∷ xs) = (so x, all-changed time change so xs)

all-later : (old time : ℕ) (xs : List Wait) → old ≤ time → All old xs → All time xs
all-later old time [] le h = tt
all-later old time (x ∷ xs) le h = (
  record { class_ = h.0.class_; soon = omega (arith, le, h.0.soon) },
  all-later old time xs le h.1,
)

-- ---- the moments of classes

due-soon : (class time : ℕ) → class ≤ 6 → due_in class time ≤ time + 64000
due-soon zero time le = omega arith
due-soon (suc zero) time le = omega arith
due-soon (suc (suc zero)) time le = omega arith
due-soon (suc (suc (suc zero))) time le = omega arith
due-soon (suc (suc (suc (suc zero)))) time le = omega arith
due-soon (suc (suc (suc (suc (suc zero))))) time le = omega arith
due-soon (suc (suc (suc (suc (suc (suc zero)))))) time le = omega arith
due-soon (suc (suc (suc (suc (suc (suc (suc n))))))) time le = absurd (omega (arith, le))

put-timely : (class time : ℕ) (w : Wait) → class ≤ 6 → IsTimely time (put_into class time w)
put-timely class time w le = record { class_ = le; soon = due-soon class time le }

at-most-six : (n : ℕ) → min n 6 ≤ 6
at-most-six n = omega arith

sent-timely : (time : ℕ) (w : Wait) → IsTimely time (emitted time w)
sent-timely time w = put-timely (min (w.class + 1) 6) time w (at-most-six (w.class + 1))

urged-timely : (time : ℕ) (w : Wait) → IsTimely time (put_into 0 0 w)
urged-timely time w = record { class_ = omega arith; soon = omega arith }

-- ---- what a call makes of them

moved-timely : (time : ℕ) (change : Wait → Wait) → ((w : Wait) → IsTimely time (change w)) → (k : Key) (xs : List Wait)
    → All time xs → All time (moved_last change k xs)
moved-timely time change so k xs h =
    all-both time (without k xs) (map change (at_key k xs))
    (all-some time (λ (w : Wait). not (same_key k w.key)) xs h) (all-changed time change so (at_key k xs))

sends-timely : (time : ℕ) (keys : List Key) (xs : List Wait) → All time xs → All time (send_all time keys xs)
sends-timely time [] xs h = h
sends-timely time (k ∷ keys) xs h =
    sends-timely time keys (moved_last (emitted time) k xs) (moved-timely time (emitted time) (sent-timely time) k xs h)

urges-timely : (time : ℕ) (keys : List Key) (xs : List Wait) → All time xs → All time (urge_all keys xs)
urges-timely time [] xs h = h
urges-timely time (k ∷ keys) xs h =
    urges-timely time keys (moved_last (put_into 0 0) k xs)
    (moved-timely time (put_into 0 0) (urged-timely time) k xs h)

begins-timely : (time : ℕ) (keys : List Key) (xs : List Wait) → All time xs → All time (begin_all keys xs)
begins-timely time [] xs h = h
begins-timely time (k ∷ keys) xs h =
    begins-timely time keys (begun k xs)
    (all-both time (without k xs) (record { key = k; class = 0; due = 0 } ∷ [])
    (all-some time (λ (w : Wait). not (same_key k w.key)) xs h)
    (record { class_ = omega arith; soon = omega arith }, tt))

fresh-timely : (time : ℕ) (keys : List Key) → All time (fresh keys)
fresh-timely time [] = tt
fresh-timely time (k ∷ keys) = (record { class_ = omega arith; soon = omega arith }, fresh-timely time keys)

pub waits-timely : WaitsAreTimely
waits-timely = record {
  mounted = λ r time. fresh-timely time (waiting_keys r);
  after = λ r delta moves old time waits le h.
      sends-timely time (begun_by r delta ++ moves.emitted)
      (urge_all moves.urged (begin_all (begun_by r delta) (still (r ++ delta) waits)))
      (urges-timely time moves.urged (begin_all (begun_by r delta) (still (r ++ delta) waits))
      (begins-timely time (begun_by r delta) (still (r ++ delta) waits)
      (all-some time (λ (w : Wait). is_waiting (r ++ delta) w.key) waits (all-later old time waits le h))));
}
