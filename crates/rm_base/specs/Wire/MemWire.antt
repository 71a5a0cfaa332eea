-- What contracts see of a wire in memory.
use Rattle.std.specs.Prelude.{◌≡◌, ℕ, ◌≤◌, List, map, length, slice_range}
use Rattle.std.specs.List.{AllByRecursion}
use Rattle.rm_base.specs.Limits.{most_packets}
use Rattle.rm_base.specs.Wire.Wire.{bytes_in}
use Rattle.rm_base.specs.declared.wire.mem.Place.{Place}

-- the packet whose bytes are at this place among those of all packets
abbrev pub packet_at : List ℕ → Place → ℕ × List ℕ
packet_at bytes place = (place.to, slice_range bytes place.start place.end)

-- the packets at these places
abbrev pub packets_at : List ℕ → List Place → List (ℕ × List ℕ)
packets_at bytes places = map (packet_at bytes) places

-- a place is among so many bytes
pub record IsWithin (len : ℕ) (place : Place) : Type 0 where
  pub start : place.start ≤ place.end
  pub end : place.end ≤ len

-- the packets have these bytes together and keep within the limits
pub record AreStored (bytes : List ℕ) (places : List Place) : Type 0 where
  pub within : AllByRecursion (IsWithin (length bytes)) places
  pub sum : bytes_in (packets_at bytes places) ≡ length bytes
  pub few : length places ≤ most_packets
  pub size : length bytes ≤ 536870912
