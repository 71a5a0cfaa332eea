-- Sequences that records to come will make.
use Rattle.std.proofs.Common.{◌≡◌, ℕ, zero, suc, Bool, true, false, List, [], ◌∷◌, ◌++◌, get_or, set, refl, sym}
use Rattle.std.proofs.Common.{ap, ◌∙◌, append_assoc, Option, Some, None}
use Rattle.std.specs.Prelude.{◌&&◌, slice_get}
use Rattle.std.specs.List.{remove}
use Rattle.std.specs.Option.{option_to_list}
use Rattle.record_batch.specs.Fact.{Fact, Creating, Granted}
use Rattle.node_tables.specs.declared.row.row.Start.{Start}
use Rattle.node_tables.specs.Row.Row.{Seen, started}
use Rattle.node_tables.specs.declared.note.Coming.{Coming}
use Rattle.node_tables.specs.Room.{AreBegun, spare_of, spares_ahead, starts}
use Rattle.node_tables.specs.Room.{starts_of}

pub begun-more : (xs : List Coming) (a : Coming) → AreBegun xs → a.row.told ≡ started a.start → AreBegun (xs ++ a ∷ [])
begun-more [] a h e = (e, tt)
begun-more (x ∷ xs) a h e = (h.0, begun-more xs a h.1 e)

-- the first of them is taken
pub record Taken (xs : List Coming) (a : Coming) (s : Start) : Type 0 where
  pub told : a.row.told ≡ started s
  pub begun_ : AreBegun (remove xs 0)
  pub starts_ : starts xs ≡ s ∷ starts (remove xs 0)
  pub room : spares_ahead xs ≡ spare_of a.row ∷ spares_ahead (remove xs 0)

-- a record makes up to two sequences
pub starts-two : (f : Fact)
    → starts_of f ≡ option_to_list (slice_get (starts_of f) 0) ++ option_to_list (slice_get (starts_of f) 1)
starts-two (Creating ticket to via lapse None) = refl
starts-two (Creating ticket to via lapse (Some offer)) = refl
starts-two (Granted counter message_id acks_to behaviour deadline lapse None) = refl
starts-two (Granted counter message_id acks_to behaviour deadline lapse (Some offer)) = refl
starts-two _ = refl

and_true : (b : Bool) → b ≡ true → (b && true) ≡ true
and_true true e = refl
and_true false e = e

-- of which one keeps how it begins, and what is known of its row
pub begun-set : (xs : List Coming) (j : ℕ) (a : Coming) (row2 : Seen) → AreBegun xs → a ≡ get_or xs j a
    → row2.told ≡ a.row.told → AreBegun (set xs j (record { start = a.start; row = row2 }))
begun-set [] j a row2 h e told = tt
begun-set (x ∷ xs) zero a row2 h e told =
    (told ∙ ap (λ (y : Coming). y.row.told) e ∙ h.0 ∙ ap started (sym (ap (λ (y : Coming). y.start) e)), h.1)
begun-set (x ∷ xs) (suc j) a row2 h e told = (h.0, begun-set xs j a row2 h.1 e told)

pub starts-set : (xs : List Coming) (j : ℕ) (a : Coming) (row2 : Seen) → a ≡ get_or xs j a
    → starts (set xs j (record { start = a.start; row = row2 })) ≡ starts xs
starts-set [] j a row2 e = refl
starts-set (x ∷ xs) zero a row2 e = ap (λ s. s ∷ starts xs) (ap (λ (y : Coming). y.start) e)
starts-set (x ∷ xs) (suc j) a row2 e = ap (λ ss. x.start ∷ ss) (starts-set xs j a row2 e)

-- the sequences of the first and of the second part
pub starts-parted : (f : Fact) (a b : Option Start) (xs later : List Start) → a ≡ slice_get (starts_of f) 0
    → b ≡ slice_get (starts_of f) 1 → xs ≡ starts_of f ++ later → xs ≡ option_to_list a ++ (option_to_list b ++ later)
starts-parted f a b xs later ea eb e =
    e ∙ ap (λ ss. ss ++ later) (starts-two f)
    ∙ ap (λ o. (option_to_list o ++ option_to_list (slice_get (starts_of f) 1)) ++ later) (sym ea)
    ∙ ap (λ o. (option_to_list a ++ option_to_list o) ++ later) (sym eb)
    ∙ append_assoc (option_to_list a) (option_to_list b) later
