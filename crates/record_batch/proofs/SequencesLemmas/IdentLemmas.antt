-- A node issues an identifier for one number alone, and the number is read back from it.
use Rattle.std.proofs.Common.{◌≡◌, ℕ, zero, suc, ◌+◌, ◌*◌, ◌/◌, ◌%◌, ◌<◌, ◌^◌, List, [], refl, sym, ap, ◌∙◌, arith}
use Rattle.std.proofs.Common.{inl, All, Option, Some, unwrap_or}
use Rattle.std.specs.Int.{w128, to_be_bytes, from_be_bytes, byte_at, bytes_high_first}
use Rattle.uuid.specs.Text.{lower, parsed}
use Rattle.uuid.proofs.OrderLemmas.{from_be_bytes-to_be_bytes_16}
use Rattle.uuid.proofs.RoundTrips.{parses_urn}
use Rattle.record_batch.specs.Sequences.Idents.{issue, upper_half, lower_half}

mod-small : (x : ℕ) → x % 256 < 256
mod-small x = omega arith

byte-small : (i n : ℕ) → byte_at i n < 256
byte-small zero n = mod-small n
byte-small (suc i) n = mod-small (n / 256 ^ suc i)

bytes-small : (k n : ℕ) → All (λ b. b < 256) (bytes_high_first k n)
bytes-small zero n i d h = absurd (omega arith)
bytes-small (suc k) n zero d h = byte-small k n
bytes-small (suc k) n (suc i) d h = bytes-small k n i d (omega arith)

-- an identifier is read back
pub parsed-issue : (node c : ℕ)
    → Some (to_be_bytes w128 (upper_half node * 2 ^ 64 + lower_half c)) ≡ parsed (issue node c)
unfolding issue
parsed-issue node c =
    parses_urn lower (to_be_bytes w128 (upper_half node * 2 ^ 64 + lower_half c)) (inl refl) refl (bytes-small 16 _)

-- its lower half is the counter, above the variant
pub read-counter : (node c low : ℕ) (q bytes : List ℕ) → node < 2 ^ 60 → c < 2 ^ 64 → Some bytes ≡ parsed q
    → low ≡ from_be_bytes w128 bytes % 2 ^ 64 → issue node c ≡ q → (low + 2 ^ 63) % 2 ^ 64 ≡ c
read-counter node c low q bytes hn hc read is e =
    let n = upper_half node * 2 ^ 64 + lower_half c in
    let same : bytes ≡ to_be_bytes w128 n =
    ap (λ (o : Option (List ℕ)). unwrap_or o []) (read ∙ ap parsed (sym e) ∙ sym (parsed-issue node c)) in
    let back : from_be_bytes w128 bytes ≡ n =
    ap (from_be_bytes w128) same ∙ from_be_bytes-to_be_bytes_16 n (omega arith) in
    omega (arith, is, back)

pub issue-once : (node c d : ℕ) → node < 2 ^ 60 → c < 2 ^ 62 → d < 2 ^ 62 → issue node c ≡ issue node d → c ≡ d
issue-once node c d hn hc hd e =
    sym (read-counter node c _ _ _ hn (omega arith) (parsed-issue node d) refl e)
    ∙ read-counter node d _ _ _ hn (omega arith) (parsed-issue node d) refl refl
