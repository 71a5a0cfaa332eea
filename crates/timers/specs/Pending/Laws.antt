-- What the definitions of waiting packets mean.
use Rattle.std.specs.Prelude.{◌≡◌, ℕ, ◌≤◌, false, List, [], ◌∷◌, length}
use Rattle.std.specs.List.{AllByRecursion}
use Rattle.timers.specs.Pending.Limits.{most_waiting, most_addresses}
use Rattle.timers.specs.Pending.Waiting.{Queue, Waiting, nothing_waits, has_queue, put, polled}

-- a queue has a packet, and no more than may wait
pub record IsQueue {T : Type 0} (q : Queue T) : Type 0 where
  pub some_ : 1 ≤ length q.packets
  pub few : length q.packets ≤ most_waiting

-- each address has one queue
abbrev pub AreApart : {T : Type 0} → List (Queue T) → Type 0
AreApart [] = Unit {0}
AreApart (q ∷ qs) = (has_queue qs q.address ≡ false) × AreApart qs

-- within the limits
pub record IsWithin {T : Type 0} (w : Waiting T) : Type 0 where
  pub each : AllByRecursion IsQueue w.queues
  pub apart : AreApart w.queues
  pub many : length w.queues ≤ most_addresses

-- from nothing on, whatever is put and polled
pub record StaysWithin (T : Type 0) : Type 0 where
  pub start : IsWithin {T = T} nothing_waits
  pub put_ : (w : Waiting T) (address : List ℕ) (p : T) → IsWithin w → IsWithin (put w address p)
  pub polled_ : (w : Waiting T) (address : List ℕ) → IsWithin w → IsWithin (polled w address)
