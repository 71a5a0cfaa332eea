use Rattle.std.proofs.Common.{◌≡◌, ℕ, ◌+◌, ◌&&◌, nat_lt, nat_le, Bool, List, map, length, sum, sym, ap, ◌∙◌}
use Rattle.std.proofs.lemmas.List.{length-map}
use Rattle.std.proofs.lemmas.List.Sums.{sum-map}
use Rattle.std.proofs.lemmas.Simd.{map-map}
use Rattle.rm_base.specs.Wire.Wire.{bytes_in, has_room, texts_in}
use Rattle.rm_base.proofs.wire.laws.room_goes_by_the_bytes.Goals as goal

-- there is room for so many bytes behind these texts
abbrev room_of : List (List ℕ) → ℕ → Bool
room_of texts more = nat_lt (length texts) 65536 && nat_le (sum (map length texts) + more) 536870912

by_texts : (packets : List (ℕ × List ℕ)) (more : ℕ) → has_room packets more ≡ room_of (texts_in packets) more
by_texts packets more =
    let bytes : bytes_in packets ≡ sum (map length (texts_in packets)) =
    sym (sum-map (λ (packet : ℕ × List ℕ). length packet.1) packets)
    ∙ sym (ap sum (map-map length (λ (packet : ℕ × List ℕ). packet.1) packets)) in
    ap (λ n. nat_lt n 65536 && nat_le (bytes_in packets + more) 536870912)
    (sym (length-map packets (λ (packet : ℕ × List ℕ). packet.1)))
    ∙ ap (λ n. nat_lt (length (texts_in packets)) 65536 && nat_le (n + more) 536870912) bytes

pub returns : goal.returns
returns c one two more e = by_texts one more ∙ ap (λ texts. room_of texts more) e ∙ sym (by_texts two more)
