-- What the code keeps of numbers: the greatest u64 for all greater ones.
use Rattle.std.specs.Prelude.{ℕ, ◌-◌, ◌^◌, min}
use Rattle.rm_message.specs.declared.elements.duration.Span.{Span}

-- a number as a u64 keeps it
abbrev pub capped : ℕ → ℕ
capped n = min n (2 ^ 64 - 1)

-- a span of such numbers
abbrev pub capped_span : Span → Span
capped_span s = record { months = capped s.months; ms = capped s.ms; is_part = s.is_part }
