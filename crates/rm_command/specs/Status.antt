-- Which exit status an end has.
use Rattle.std.specs.Prelude.{◌≡◌, ℕ, ◌⊎◌}
use Rattle.rm_script.specs.Report.Exits as exits
use Rattle.rm_command.specs.declared.end.End.{End}
use Rattle.rm_command.specs.declared.end.End.TheVariants.{Done, Usage, BadLine, ReadFault, WriteFault, TooLong}
use Rattle.rm_command.specs.declared.end.End.TheVariants.{Refused, Memory}

-- the status of an end
abbrev pub status_of : End → ℕ
status_of Done = exits.done
status_of Usage = exits.usage
status_of (BadLine line) = exits.bad_line
status_of ReadFault = exits.read_fault
status_of WriteFault = exits.write_fault
status_of TooLong = exits.too_long
status_of (Refused fault) = exits.refused
status_of Memory = exits.memory

-- the input or the machine is to blame
abbrev pub IsUnread : ℕ → Type 0
IsUnread status = (status ≡ exits.read_fault) ⊎ (status ≡ exits.memory)

-- the input, the output or the machine is to blame
abbrev pub IsOutside : ℕ → Type 0
IsOutside status = (status ≡ exits.write_fault) ⊎ IsUnread status
