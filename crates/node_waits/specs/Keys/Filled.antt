-- What begins to wait at a mount.
use Rattle.std.specs.Prelude.{◌≡◌, ◌<◌, ◌≤◌, ℕ, true, false, List, ◌++◌, map, filter}
use Rattle.std.specs.List.{AllByRecursion}
use Rattle.timers.specs.declared.slots.timers.Key.{Key}
use Rattle.timers.specs.Keys.Keyed.{Keyed, StandsFor, keys_in, is_before}
use Rattle.timers.specs.Keys.Waits.{Wait, fresh}
use Rattle.record_batch.specs.Fact.{Fact}
use Rattle.rm_protocol.specs.Waiting.{is_waiting, key, numbers_from}

-- of the keys of sequence s, so many from a number on, those that wait
abbrev pub own_waiting : List Fact → ℕ → ℕ → ℕ → List Key
own_waiting r s from count = filter (is_waiting r) (map (key s) (numbers_from from count))

-- the keys of the messages 1 to n of sequence s don't wait
abbrev pub NoneWaits : List Fact → ℕ → ℕ → Type 0
NoneWaits r s n = (i : ℕ) → 0 < i → i ≤ n → is_waiting r (key s i) ≡ false

-- all these keys come before that one
abbrev pub AllBefore : List Key → Key → Type 0
AllBefore keys k = AllByRecursion (λ (other : Key). is_before other k ≡ true) keys

-- these keys began to wait, in this order, behind all others
pub record Filled (old new : Keyed) (keys : List Key) : Type 0 where
  pub cells : keys_in new.cells ≡ keys_in old.cells ++ keys
  pub waits : (waits : List Wait) → StandsFor old waits → StandsFor new (waits ++ fresh keys)
  pub time : new.time ≡ old.time
