-- The packets of a wire, in the order in which they were put: the node that each goes to, and its bytes.
use Rattle.std.specs.Prelude.{ℕ, ◌+◌, ◌&&◌, nat_lt, nat_le, Bool, if◌then◌else◌, List, [], ◌∷◌, ◌++◌, map}
use Rattle.std.specs.Prelude.{length}
use Rattle.std.specs.List.{sum_by}
use Rattle.rm_base.specs.Limits.{most_packets}
use Rattle.rm_base.specs.declared.wire.wire.Packet.{Packet}

-- where a packet goes, and its bytes
abbrev pub contents : Packet → ℕ × List ℕ
contents packet = (packet.to, packet.bytes.now)

-- the bytes of each packet
abbrev pub texts_in : List (ℕ × List ℕ) → List (List ℕ)
texts_in packets = map (λ (packet : ℕ × List ℕ). packet.1) packets

-- the bytes of all packets together
abbrev pub bytes_in : List (ℕ × List ℕ) → ℕ
bytes_in packets = sum_by (λ (packet : ℕ × List ℕ). length packet.1) packets

-- there is room for a packet of so many bytes: a wire has at most so many packets, and 536870912 bytes together
abbrev pub has_room : List (ℕ × List ℕ) → ℕ → Bool
has_room packets more = nat_lt (length packets) most_packets && nat_le (bytes_in packets + more) 536870912

-- the packets after one more was put: where there is no room for it, it is lost
abbrev pub with_packet : List (ℕ × List ℕ) → ℕ → List ℕ → List (ℕ × List ℕ)
with_packet packets to bytes = if has_room packets (length bytes) then packets ++ (to, bytes) ∷ [] else packets
