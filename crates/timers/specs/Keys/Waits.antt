-- The keys that wait to be emitted: one plain list, in the order of the last move, and what becomes of it.
use Rattle.std.specs.Prelude.{ℕ, ◌+◌, ◌==◌, ◌&&◌, not, min, nat_le, Bool, List, [], ◌∷◌, ◌++◌, map, filter, take}
use Rattle.std.specs.Prelude.{flat_map}
use Rattle.std.specs.List.{list_any}
use Rattle.timers.specs.declared.slots.timers.Key.{Key}
use Rattle.timers.specs.Slots.Waits.{due_in, classes_in_order}

-- a key that waits: its class, and the moment at which it is due
pub record Wait : Type 0 where
  pub key : Key
  pub class : ℕ
  pub due : ℕ

-- the two keys are one
abbrev pub same_key : Key → Key → Bool
same_key a b = (a.seq == b.seq) && (a.number == b.number)

-- the key is one of these
abbrev pub has_key : List Key → Key → Bool
has_key keys key = list_any (same_key key) keys

-- the keys that wait
abbrev pub keys_of : List Wait → List Key
keys_of waits = map (λ (w : Wait). w.key) waits

-- of those that wait the one with this key
abbrev pub at_key : Key → List Wait → List Wait
at_key key waits = filter (λ (w : Wait). same_key key w.key) waits

-- and all others
abbrev pub without : Key → List Wait → List Wait
without key waits = filter (λ (w : Wait). not (same_key key w.key)) waits

-- as it is put into a class at a time
abbrev pub put_into : ℕ → ℕ → Wait → Wait
put_into class time w = record w { class = class; due = due_in class time }

-- after an emission at a time: in the next class, at most 6
abbrev pub emitted : ℕ → Wait → Wait
emitted time w = put_into (min (w.class + 1) 6) time w

-- a key goes last, changed so; where it doesn't wait, nothing happens
abbrev pub moved_last : (Wait → Wait) → Key → List Wait → List Wait
moved_last change key waits = without key waits ++ map change (at_key key waits)

-- a key begins to wait, also where it waited already: last in class 0, due at once
abbrev pub begun : Key → List Wait → List Wait
begun key waits = without key waits ++ record { key = key; class = 0; due = 0 } ∷ []

-- keys in class 0, due at once
abbrev pub fresh : List Key → List Wait
fresh keys = map (λ (k : Key). record { key = k; class = 0; due = 0 }) keys

-- a key is wanted at once: last in class 0
abbrev pub urged : Key → List Wait → List Wait
urged key waits = moved_last (put_into 0 0) key waits

-- a key is emitted at a time: last in the next class
abbrev pub sent : ℕ → Key → List Wait → List Wait
sent time key waits = moved_last (emitted time) key waits

-- these keys begin to wait, one after the other
abbrev pub begin_all : List Key → List Wait → List Wait
begin_all [] waits = waits
begin_all (key ∷ keys) waits = begin_all keys (begun key waits)

-- these are wanted at once
abbrev pub urge_all : List Key → List Wait → List Wait
urge_all [] waits = waits
urge_all (key ∷ keys) waits = urge_all keys (urged key waits)

-- these are emitted at a time
abbrev pub send_all : ℕ → List Key → List Wait → List Wait
send_all time [] waits = waits
send_all time (key ∷ keys) waits = send_all time keys (sent time key waits)

-- those that are due, by class and then by place
abbrev pub due_at : ℕ → List Wait → List Wait
due_at now waits = flat_map (λ class. filter (λ (w : Wait). (w.class == class) && nat_le w.due now) waits)
    classes_in_order

-- the most keys that a tick emits
abbrev pub most_emitted : ℕ
most_emitted = 64

-- the keys that a tick emits: the first of them
abbrev pub first_due : ℕ → List Wait → List Key
first_due now waits = keys_of (take most_emitted (due_at now waits))
