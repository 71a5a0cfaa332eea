-- A lemma on what waits, which the crates above use: where exactly those wait that do so by the records, each does.
use Rattle.std.proofs.Common.{◌≡◌, ◌∙◌, ◌||◌, Bool, true, false, List, [], ◌∷◌, refl, sym, ap}
use Rattle.std.specs.List.{AllByRecursion}
use Rattle.timers.specs.declared.slots.timers.Key.{Key}
use Rattle.timers.specs.Keys.KeyLemmas.{same_key-refl}
use Rattle.timers.specs.Keys.Waits.{Wait, has_key, keys_of, same_key}
use Rattle.record_batch.specs.Fact.{Fact}
use Rattle.rm_protocol.specs.Exact.{AreExactly}
use Rattle.rm_protocol.specs.Waiting.{is_waiting}

or-right : (a b : Bool) → b ≡ true → (a || b) ≡ true
or-right true b e = refl
or-right false b e = e

each-waits : (r : List Fact) (waits : List Wait)
    → ((key : Key) → has_key (keys_of waits) key ≡ true → is_waiting r key ≡ true)
    → AllByRecursion (λ (w : Wait). is_waiting r w.key ≡ true) waits
each-waits r [] h = tt
each-waits r (w ∷ waits) h = (
  h w.key (ap (λ (b : Bool). b || has_key (keys_of waits) w.key) (same_key-refl w.key)),
  each-waits r waits (λ key e. h key (or-right (same_key key w.key) (has_key (keys_of waits) key) e)),
)

pub all-wait : (r : List Fact) (waits : List Wait) → AreExactly r waits
    → AllByRecursion (λ (w : Wait). is_waiting r w.key ≡ true) waits
all-wait r waits exact = each-waits r waits (λ key e. sym (exact key) ∙ e)
