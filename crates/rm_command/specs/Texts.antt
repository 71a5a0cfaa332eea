-- What a refusal prints: one line.
use Rattle.std.specs.Prelude.{ℕ, List, [], ◌++◌, codes, decimal}
use Rattle.rm_message.specs.Kinds.{kind_name}
use Rattle.rm_message.specs.declared.refusal.FaultKind.TheVariants as kinds
use Rattle.rm_script.specs.Report.Exits.{usage_line, read_fault_line, too_long_line}
use Rattle.rm_command.specs.declared.end.End.{End}
use Rattle.rm_command.specs.declared.end.End.TheVariants.{Done, Usage, BadLine, ReadFault, WriteFault, TooLong}
use Rattle.rm_command.specs.declared.end.End.TheVariants.{Refused, Memory}
use Rattle.rm_command.specs.declared.end.Fault.{Fault}
use Rattle.rm_command.specs.declared.end.Fault.TheVariants.{NotUtf8, NotProfile, WrongVersion, NotEnvelope}
use Rattle.rm_command.specs.declared.end.Fault.TheVariants.{NotUnderstood, Cardinality, HeaderMissing, BadHeader}
use Rattle.rm_command.specs.declared.end.Fault.TheVariants.{Malformed, Rollover, SecurityUnsupported}
use Rattle.rm_command.specs.declared.end.Fault.TheVariants.{TooLarge, TooManyTerms, TooManyAlternatives}

-- the name of what keeps bytes from being what a command reads: of the kind of a message's refusal, where it is one
abbrev pub fault_name : Fault → List ℕ
fault_name NotUtf8 = kind_name kinds.NotUtf8
fault_name NotProfile = kind_name kinds.NotProfile
fault_name WrongVersion = kind_name kinds.WrongVersion
fault_name NotEnvelope = kind_name kinds.NotEnvelope
fault_name NotUnderstood = kind_name kinds.NotUnderstood
fault_name Cardinality = kind_name kinds.Cardinality
fault_name HeaderMissing = kind_name kinds.HeaderMissing
fault_name BadHeader = kind_name kinds.BadHeader
fault_name Malformed = kind_name kinds.Malformed
fault_name Rollover = kind_name kinds.Rollover
fault_name SecurityUnsupported = codes "SecurityUnsupported"
fault_name TooLarge = codes "TooLarge"
fault_name TooManyTerms = codes "TooManyTerms"
fault_name TooManyAlternatives = codes "TooManyAlternatives"

-- the line of an end, where it has one
abbrev pub line_of : End → List ℕ
line_of Done = []
line_of Usage = usage_line
line_of (BadLine line) = codes "bad line " ++ decimal line ++ codes "\n"
line_of ReadFault = read_fault_line
line_of WriteFault = []
line_of TooLong = too_long_line
line_of (Refused fault) = codes "fault " ++ fault_name fault ++ codes "\n"
line_of Memory = []
