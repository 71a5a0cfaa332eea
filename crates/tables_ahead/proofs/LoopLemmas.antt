-- What a batch says, one record after the other.
use Rattle.std.proofs.Common.{◌≡◌, ℕ, ◌+◌, ◌<◌, true, List, ◌∷◌, length, map}
use Rattle.std.specs.List.{list_all}
use Rattle.std.proofs.lemmas.Bool.{and_parts}
use Rattle.std.proofs.Common.{drop, get_or, sym, ap, ◌∙◌}
use Rattle.std.proofs.lemmas.List.{at_drop_more}
use Rattle.record_batch.specs.declared.record.Record.{Record}
use Rattle.record_batch.specs.Fact.{fact_of}
use Rattle.node_tables.specs.Room.{has_room}

-- the next item
pub at_item : {X : Type 0} → {Y : Type 0} (g : List X → Y) (xs : List X) (i : ℕ) (x : X) → i < length xs
    → x ≡ get_or xs i x → g (drop i xs) ≡ g (x ∷ drop (i + 1) xs)
at_item g xs i x lt is = at_drop_more g xs i x lt ∙ ap (λ y. g (y ∷ drop (i + 1) xs)) (sym is)

-- where room can be made for all records that are left, it can be made for the next one
pub live_item : (xs : List Record) (i : ℕ) (x : Record) → i < length xs → x ≡ get_or xs i x
    → list_all has_room (map fact_of (drop i xs)) ≡ true
    → (has_room (fact_of x) ≡ true) × (list_all has_room (map fact_of (drop (i + 1) xs)) ≡ true)
live_item xs i x lt is live =
    and_parts (has_room (fact_of x)) (list_all has_room (map fact_of (drop (i + 1) xs)))
    (sym (at_item (λ (ys : List Record). list_all has_room (map fact_of ys)) xs i x lt is) ∙ live)
