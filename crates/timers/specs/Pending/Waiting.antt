-- The packets that wait at a node for addresses that nobody can reach, until they are asked for: WS-MakeConnection 1.1,
-- sections 3.2 and 3.3.
use Rattle.std.specs.Prelude.{ℕ, nat_lt, Bool, true, false, if◌then◌else◌, List, [], ◌∷◌, ◌++◌, length, drop}
use Rattle.std.specs.Prelude.{Option, Some, None}
use Rattle.std.specs.Str.{bytes_eq}
use Rattle.rm_base.specs.Count.{raised_by}
use Rattle.timers.specs.Pending.Limits.{most_waiting, most_addresses}

-- the packets that wait for an address, in the order in which they were put
pub record Queue (T : Type 0) : Type 0 where
  pub address : List ℕ
  pub packets : List T

-- a queue for each address that has a packet, in the order in which they began to, and how many packets were dropped
pub record Waiting (T : Type 0) : Type 0 where
  pub queues : List (Queue T)
  pub dropped : ℕ

-- no packet waits
abbrev pub nothing_waits : {T : Type 0} → Waiting T
nothing_waits = record { queues = []; dropped = 0 }

-- the packets that wait for an address
abbrev pub packets_for : {T : Type 0} → List (Queue T) → List ℕ → List T
packets_for [] address = []
packets_for (q ∷ qs) address = if bytes_eq q.address address then q.packets else packets_for qs address

-- there is a queue for the address
abbrev pub has_queue : {T : Type 0} → List (Queue T) → List ℕ → Bool
has_queue [] address = false
has_queue (q ∷ qs) address = if bytes_eq q.address address then true else has_queue qs address

-- one more packet may wait for the address
abbrev pub may_wait : {T : Type 0} → List (Queue T) → List ℕ → Bool
may_wait qs address =
    if has_queue qs address then nat_lt (length (packets_for qs address)) most_waiting
    else nat_lt (length qs) most_addresses

-- a packet behind those that wait for the address
abbrev pub with_packet : {T : Type 0} → List (Queue T) → List ℕ → T → List (Queue T)
with_packet [] address p = record { address = address; packets = p ∷ [] } ∷ []
with_packet (q ∷ qs) address p =
    if bytes_eq q.address address then record { address = q.address; packets = q.packets ++ p ∷ [] } ∷ qs
    else q ∷ with_packet qs address p

-- a packet is put, or dropped where a limit would be passed
abbrev pub put : {T : Type 0} → Waiting T → List ℕ → T → Waiting T
put w address p =
    if may_wait w.queues address then record { queues = with_packet w.queues address p; dropped = w.dropped }
    else record { queues = w.queues; dropped = raised_by w.dropped 1 }

-- a queue of these packets, where there is one, before others
abbrev pub rest_of : {T : Type 0} → List ℕ → List T → List (Queue T) → List (Queue T)
rest_of address [] qs = qs
rest_of address (p ∷ ps) qs = record { address = address; packets = p ∷ ps } ∷ qs

-- without the first packet that waits for the address
abbrev pub without_first : {T : Type 0} → List (Queue T) → List ℕ → List (Queue T)
without_first [] address = []
without_first (q ∷ qs) address =
    if bytes_eq q.address address then rest_of q.address (drop 1 q.packets) qs else q ∷ without_first qs address

-- a poll takes it
abbrev pub polled : {T : Type 0} → Waiting T → List ℕ → Waiting T
polled w address = record { queues = without_first w.queues address; dropped = w.dropped }

-- the first of these, and whether there are more
abbrev pub first_in : {T : Type 0} → List T → Option (T × Bool)
first_in [] = None
first_in (p ∷ ps) = Some (p, nat_lt 0 (length ps))

-- what a poll gives: the oldest packet that waits for the address, and whether more do
abbrev pub oldest : {T : Type 0} → Waiting T → List ℕ → Option (T × Bool)
oldest w address = first_in (packets_for w.queues address)

-- what contracts see: what waits, and the addresses for which room was made, one for each time
pub record Pended (T : Type 0) : Type 0 where
  pub waits : Waiting T
  pub ready : List (List ℕ)

-- room was made for the address
abbrev pub is_ready : List (List ℕ) → List ℕ → Bool
is_ready [] address = false
is_ready (a ∷ more) address = if bytes_eq a address then true else is_ready more address

-- without one of these rooms
abbrev pub used : List (List ℕ) → List ℕ → List (List ℕ)
used [] address = []
used (a ∷ more) address = if bytes_eq a address then more else a ∷ used more address
