-- The identifiers that a node issues: UUIDs of version 8, RFC 9562, sections 4 and 5.8, as URNs.
use Rattle.std.specs.Prelude.{◌≡◌, ℕ, ◌<◌, ◌+◌, ◌*◌, ◌/◌, ◌%◌, ◌^◌, ◌++◌, ◌↔◌, codes, Option, Some}
use Rattle.std.specs.Int.{w128, to_be_bytes}
use Rattle.uuid.specs.Text.{lower, urn_text, hyphenated_text}
use Rattle.record_batch.specs.Sequences.Words.{Text}

-- the upper 48 bits of the node's 60-bit number, the version 8, its lower 12 bits
abbrev pub upper_half : ℕ → ℕ
upper_half node = node / 4096 * 65536 + 8 * 4096 + node % 4096

-- the variant 2 in two bits, and the counter in 62 bits
abbrev pub lower_half : ℕ → ℕ
lower_half counter = 2 * 2 ^ 62 + counter

-- the identifier that a node issues for a number that it drew: of a sequence, or of a message
unfoldable pub issue : ℕ → ℕ → Text
issue node counter = urn_text lower (to_be_bytes w128 (upper_half node * 2 ^ 64 + lower_half counter))

-- a text and the number of 64 bits that the node issues it for, where there is one
pub record IsIssuedFor (node : ℕ) (q : Text) (o : Option ℕ) : Type 0 where
  pub exactly : (c : ℕ) → c < 2 ^ 64 → (issue node c ≡ q) ↔ (o ≡ Some c)

-- what the addresses of nodes that nobody can reach begin with: WS-MakeConnection 1.1, section 3.1
unfoldable pub polled_prefix : Text
polled_prefix = codes "http://docs.oasis-open.org/ws-rx/wsmc/200702/anonymous?id="

-- where messages for such a node wait: WS-MakeConnection 1.1, section 3.1, with the UUID of counter 0
unfoldable pub polled_address : ℕ → Text
polled_address node =
    polled_prefix ++ hyphenated_text lower (to_be_bytes w128 (upper_half node * 2 ^ 64 + lower_half 0))

-- a node issues an identifier for one number alone
abbrev pub IssuesOnce : Type 0
IssuesOnce =
    (node c d : ℕ) → node < 2 ^ 60 → c < 2 ^ 62 → d < 2 ^ 62 → issue node c ≡ issue node d → c ≡ d
