-- What the code keeps of a number: the greatest u64 for all greater ones.
use Rattle.std.specs.Prelude.{◌-◌, ◌^◌, min}
use Rattle.rm_message.specs.declared.elements.header.SeqHeader.{SeqHeader}

-- a block whose number is kept as a u64
abbrev pub capped : SeqHeader → SeqHeader
capped s = record { ident = s.ident; number = min s.number (2 ^ 64 - 1) }
