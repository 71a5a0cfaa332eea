-- What a node's commands print.
use Rattle.std.specs.Prelude.{◌≡◌, ℕ, ◌+◌, Bool, true, false, List, [], ◌++◌, codes, decimal}
use Rattle.hex.specs.Hex.{encode_lower}
use Rattle.node_laws.specs.declared.answers.answer.Cause.{Cause}
use Rattle.node_laws.specs.declared.answers.answer.Cause.TheVariants as cause
use Rattle.rm_script.specs.Report.Exits.{usage_line, read_fault_line, too_long_line}
use Rattle.rm_script.specs.Report.Report.{reason_text}
use Rattle.rm_script.specs.declared.report.line.Reason.TheVariants as reason
use Rattle.rm_serve.specs.declared.posting.Posted.{Posted}
use Rattle.rm_serve.specs.declared.serving.ConnEnd.{ConnEnd}
use Rattle.rm_serve.specs.declared.serving.ConnEnd.TheVariants.{Done, Dropped}
use Rattle.rm_host.specs.declared.end.End.{End}
use Rattle.rm_host.specs.declared.end.End.TheVariants.{Usage, ReadFault, WriteFault, DiskFault, LinkFault, TooLong}
use Rattle.rm_host.specs.declared.end.End.TheVariants.{BadAddress, NotEmpty, Refused, Memory, NotAJournal}

-- the name of why a node refuses a call, as a report has it
abbrev pub cause_name : Cause → List ℕ
cause_name cause.NoSequence = reason_text reason.UnknownSequence
cause_name cause.WrongSide = reason_text reason.WrongSide
cause_name (cause.PayloadTooLong length) = reason_text reason.PayloadTooLong
cause_name cause.BadPayload = reason_text reason.BadPayload
cause_name cause.NotOpen = reason_text reason.NotOpen
cause_name (cause.WindowFull unacked) = reason_text reason.WindowFull
cause_name (cause.NodeFull unacked) = reason_text reason.NodeFull
cause_name cause.Rollover = reason_text reason.Rollover
cause_name (cause.TooManySequences count) = reason_text reason.TooManySequences
cause_name (cause.StoreFull end needed) = reason_text reason.StoreFull
cause_name (cause.PastInbox have) = reason_text reason.PastInbox

-- the line of a refusal
abbrev pub line_of : End → List ℕ
line_of Usage = usage_line
line_of ReadFault = read_fault_line
line_of WriteFault = []
line_of DiskFault = codes "disk fault\n"
line_of LinkFault = codes "link fault\n"
line_of TooLong = too_long_line
line_of BadAddress = codes "refused BadAddress\n"
line_of NotEmpty = codes "refused NotEmpty\n"
line_of (Refused cause) = codes "refused " ++ cause_name cause ++ codes "\n"
line_of Memory = []
line_of NotAJournal = codes "not a journal\n"

-- what push, close and end print: how many packets were posted, and how many missed
abbrev pub posted_line : Posted → List ℕ
posted_line posted = codes "posted " ++ decimal posted.sent ++ codes " missed " ++ decimal posted.missed ++ codes "\n"

-- what serve prints: how many connections were served well, and how many given up
abbrev pub served_line : ℕ → ℕ → List ℕ
served_line done dropped = codes "served " ++ decimal done ++ codes " dropped " ++ decimal dropped ++ codes "\n"

-- what serve prints of so many connections: each was served well or given up
abbrev pub IsTally : ℕ → List ℕ → Type 0
IsTally count text = (done dropped : ℕ) × (done + dropped ≡ count) × (text ≡ served_line done dropped)

-- 1 for a connection that was served well, and 0 for one that was given up
abbrev pub well_served : ConnEnd → ℕ
well_served Done = 1
well_served (Dropped e) = 0

-- whether a message is acknowledged
abbrev pub acked_words : Bool → List ℕ
acked_words true = codes " acked yes\n"
acked_words false = codes " acked no\n"

-- what send prints: the sequence, the number of the message, and whether it is acknowledged
abbrev pub sent_line : ℕ → ℕ → Bool → List ℕ
sent_line seq number acked = codes "accepted " ++ decimal seq ++ codes " " ++ decimal number ++ acked_words acked

-- what inbox and consume print of an item
abbrev pub item_line : ℕ → ℕ → List ℕ → List ℕ
item_line seq number payload =
    codes "item " ++ decimal seq ++ codes " " ++ decimal number ++ codes " " ++ encode_lower payload ++ codes "\n"

-- what consume prints in the end: how many items of the inbox were consumed
abbrev pub consumed_line : ℕ → ℕ → List ℕ
consumed_line seq cursor = codes "consumed " ++ decimal seq ++ codes " " ++ decimal cursor ++ codes "\n"

-- what import prints: how many entries the journal has
abbrev pub imported_line : ℕ → List ℕ
imported_line entries = codes "imported " ++ decimal entries ++ codes "\n"

-- what compact prints: how many entries the journal had, and how many it has
abbrev pub compacted_line : ℕ → ℕ → List ℕ
compacted_line before after = codes "compacted " ++ decimal before ++ codes " " ++ decimal after ++ codes "\n"
