-- The limits of what scripts say.
use Rattle.std.specs.Prelude.{◌≢◌, ℕ, ◌≤◌, [], ⊤}
use Rattle.rm_base.specs.Limits as limits
use Rattle.rm_base.specs.Message.{max_number}
use Rattle.rm_message.specs.Elements.Writable.{IsLapseWritable}
use Rattle.rm_script.specs.declared.event.Event.{Event}
use Rattle.rm_script.specs.declared.event.Event.TheVariants.{Nothing, Create, Grant, Send, Tick, Deliver, Close, End}
use Rattle.rm_script.specs.declared.event.Event.TheVariants.{Ask, Nack, Poll, Compact, Consume}
use Rattle.rm_script.specs.declared.event.Event.TheVariants.{Arm, Crash, Noise}

-- from low to high
abbrev pub IsFromTo : ℕ → ℕ → ℕ → Type 0
IsFromTo low high number = (low ≤ number) × (number ≤ high)

-- an event's values are within the limits of a script
abbrev pub IsWithin : Event → Type 0
IsWithin Nothing = ⊤
IsWithin (Create side expires polled offer) = IsLapseWritable expires
IsWithin (Grant side behaviour) = ⊤
IsWithin (Send side seq text) = IsFromTo 1 limits.most_sequences seq × (text ≢ [])
IsWithin (Tick side now) = now ≤ limits.now_max
IsWithin (Deliver packet) = IsFromTo 1 limits.most_packets packet
IsWithin (Close side seq) = IsFromTo 1 limits.most_sequences seq
IsWithin (End side seq) = IsFromTo 1 limits.most_sequences seq
IsWithin (Ask side seq) = IsFromTo 1 limits.most_sequences seq
IsWithin (Nack side seq) = IsFromTo 1 limits.most_sequences seq
IsWithin (Poll side) = ⊤
IsWithin (Compact side) = ⊤
IsWithin (Consume side seq upto) = IsFromTo 1 limits.most_sequences seq × IsFromTo 1 max_number upto
IsWithin (Arm side calls) = IsFromTo 1 1000 calls
IsWithin (Crash side choice) = choice ≤ 3
IsWithin (Noise side bytes) = bytes ≢ []
