-- Numbers of messages. WS-ReliableMessaging 1.2, section 3.7: MessageNumber is from 1 to 9223372036854775807.
use Rattle.std.specs.Prelude.{ℕ, Bool, ◌&&◌, nat_lt, nat_le}

-- the greatest message number
abbrev pub max_number : ℕ
max_number = 9223372036854775807

-- a message may have the number: it is from 1 to the greatest
abbrev pub is_number : ℕ → Bool
is_number number = nat_lt 0 number && nat_le number max_number
