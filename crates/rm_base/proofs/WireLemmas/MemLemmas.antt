-- One more packet at the end of the row of all bytes.
use Rattle.std.proofs.Common.{◌≡◌, ℕ, ◌+◌, ◌-◌, ◌≤◌, true, List, [], ◌∷◌, ◌++◌}
use Rattle.std.proofs.Common.{length, take, drop, refl, sym, ap, ◌∙◌, arith, length-append, length-drop}
use Rattle.std.specs.Prelude.{slice_range}
use Rattle.std.specs.List.{AllByRecursion}
use Rattle.std.proofs.lemmas.Bool.Decides.{nat_tests}
use Rattle.std.proofs.lemmas.List.{take-append-le, drop-append-le, take_all, map-append, length-map}
use Rattle.std.proofs.lemmas.List.Sums.{sum_by-append}
use Rattle.std.proofs.Math.Seq.{drop-append_seam}
use Rattle.rm_base.specs.Wire.Wire.{bytes_in, has_room, with_packet}
use Rattle.rm_base.specs.Wire.MemWire.{packet_at, packets_at, IsWithin, AreStored}
use Rattle.rm_base.specs.declared.wire.mem.Place.{Place}

-- a part of what stands before more bytes
slice_range-append : (xs ys : List ℕ) (i j : ℕ) → i ≤ j → j ≤ length xs
    → slice_range (xs ++ ys) i j ≡ slice_range xs i j
slice_range-append xs ys i j l h =
    let start : i ≤ length xs = omega arith in
    let rest : length (drop i xs) ≡ length xs - i = length-drop i xs in
    let end : j - i ≤ length (drop i xs) = omega arith in
    ap (take (j - i)) (drop-append-le i xs ys start) ∙ take-append-le (j - i) (drop i xs) ys end

-- the part behind it
slice_range-behind : (xs ys : List ℕ) → slice_range (xs ++ ys) (length xs) (length xs + length ys) ≡ ys
slice_range-behind xs ys =
    let count : length xs + length ys - length xs ≡ length ys = omega arith in
    ap (take (length xs + length ys - length xs)) (drop-append_seam xs ys) ∙ ap (λ n. take n ys) count
    ∙ take_all (length ys) ys (omega arith)

packets-more : (bytes more : List ℕ) (places : List Place) → AllByRecursion (IsWithin (length bytes)) places
    → packets_at (bytes ++ more) places ≡ packets_at bytes places
packets-more bytes more [] h = refl
packets-more bytes more (p ∷ ps) h =
    ap (λ z. (p.to, z) ∷ packets_at (bytes ++ more) ps) (slice_range-append bytes more p.start p.end h.0.start h.0.end)
    ∙ ap (λ z. packet_at bytes p ∷ z) (packets-more bytes more ps h.1)

within-more : (n m : ℕ) (places : List Place) (p : Place) → n ≤ m → AllByRecursion (IsWithin n) places
    → IsWithin m p → AllByRecursion (IsWithin m) (places ++ p ∷ [])
within-more n m [] p l h k = (k, tt)
within-more n m (x ∷ xs) p l h k =
    let end : x.end ≤ n = h.0.end in
    (record { start = h.0.start; end = omega arith }, within-more n m xs p l h.1 k)

-- the place of bytes that are put behind others
abbrev place_behind : List ℕ → ℕ → List ℕ → Place
place_behind bytes to more = record { to = to; start = length bytes; end = length bytes + length more }

packets-push : (bytes more : List ℕ) (places : List Place) (to : ℕ) → AreStored bytes places
    → packets_at (bytes ++ more) (places ++ place_behind bytes to more ∷ [])
    ≡ packets_at bytes places ++ (to, more) ∷ []
packets-push bytes more places to h =
    map-append (packet_at (bytes ++ more)) places (place_behind bytes to more ∷ [])
    ∙ ap (λ z. z ++ packet_at (bytes ++ more) (place_behind bytes to more) ∷ [])
    (packets-more bytes more places h.within)
    ∙ ap (λ z. packets_at bytes places ++ (to, z) ∷ []) (slice_range-behind bytes more)

stored-push : (bytes more : List ℕ) (places : List Place) (to : ℕ) → AreStored bytes places
    → has_room (packets_at bytes places) (length more) ≡ true
    → AreStored (bytes ++ more) (places ++ place_behind bytes to more ∷ [])
stored-push bytes more places to h room =
    let all : length (bytes ++ more) ≡ length bytes + length more = length-append bytes more in
    let sum : bytes_in (packets_at (bytes ++ more) (places ++ place_behind bytes to more ∷ []))
    ≡ bytes_in (packets_at bytes places) + (0 + length more) =
    ap bytes_in (packets-push bytes more places to h)
    ∙ sum_by-append (λ (packet : ℕ × List ℕ). length packet.1) (packets_at bytes places) ((to, more) ∷ []) in
    let before : bytes_in (packets_at bytes places) ≡ length bytes = h.sum in
    record {
      within = within-more (length bytes) (length (bytes ++ more)) places (place_behind bytes to more) (omega arith)
          h.within (record { start = omega arith; end = omega arith });
      sum = omega arith;
      few = grind (
        arith,
        nat_tests,
        length-append places (place_behind bytes to more ∷ []),
        length-map places (packet_at bytes),
      );
      size = grind (arith, nat_tests);
    }

-- what stands after a put
pub put-stored : (bytes more now : List ℕ) (places then : List Place) (to start : ℕ) → AreStored bytes places
    → true ≡ has_room (packets_at bytes places) (length more) → start ≡ length bytes → now ≡ bytes ++ more
    → then ≡ places ++ record { to = to; start = start; end = start + length more } ∷ [] → AreStored now then
put-stored bytes more now places then to start h room at b p =
    rw (p, b, at) (stored-push bytes more places to h (sym room))

pub put-packets : (bytes more now : List ℕ) (places then : List Place) (to start : ℕ) → AreStored bytes places
    → true ≡ has_room (packets_at bytes places) (length more) → start ≡ length bytes → now ≡ bytes ++ more
    → then ≡ places ++ record { to = to; start = start; end = start + length more } ∷ []
    → packets_at now then ≡ with_packet (packets_at bytes places) to more
put-packets bytes more now places then to start h room at b p =
    rw (p, b, at, ← room) (packets-push bytes more places to h)
