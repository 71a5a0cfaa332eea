-- The kinds of refusals by name and by number.
use Rattle.std.specs.Prelude.{ℕ, List, codes}
use Rattle.rm_message.specs.declared.refusal.FaultKind.{FaultKind}
use Rattle.rm_message.specs.declared.refusal.FaultKind.TheVariants as kinds

-- the name of a kind
abbrev pub kind_name : FaultKind → List ℕ
kind_name kinds.TooLong = codes "TooLong"
kind_name kinds.NotUtf8 = codes "NotUtf8"
kind_name kinds.NotProfile = codes "NotProfile"
kind_name kinds.WrongVersion = codes "WrongVersion"
kind_name kinds.NotEnvelope = codes "NotEnvelope"
kind_name kinds.NotUnderstood = codes "NotUnderstood"
kind_name kinds.Cardinality = codes "Cardinality"
kind_name kinds.HeaderMissing = codes "HeaderMissing"
kind_name kinds.BadHeader = codes "BadHeader"
kind_name kinds.Malformed = codes "Malformed"
kind_name kinds.Rollover = codes "Rollover"
kind_name kinds.WsrmRequired = codes "WsrmRequired"
kind_name kinds.UnknownSequence = codes "UnknownSequence"
kind_name kinds.SequenceTerminated = codes "SequenceTerminated"
kind_name kinds.SequenceClosed = codes "SequenceClosed"
kind_name kinds.InvalidAcknowledgement = codes "InvalidAcknowledgement"
kind_name kinds.CreateSequenceRefused = codes "CreateSequenceRefused"
kind_name kinds.MissingSelection = codes "MissingSelection"
kind_name kinds.UnsupportedSelection = codes "UnsupportedSelection"
kind_name kinds.StoreFull = codes "StoreFull"

-- its place among the kinds, counted from 1
abbrev pub kind_number : FaultKind → ℕ
kind_number kinds.TooLong = 1
kind_number kinds.NotUtf8 = 2
kind_number kinds.NotProfile = 3
kind_number kinds.WrongVersion = 4
kind_number kinds.NotEnvelope = 5
kind_number kinds.NotUnderstood = 6
kind_number kinds.Cardinality = 7
kind_number kinds.HeaderMissing = 8
kind_number kinds.BadHeader = 9
kind_number kinds.Malformed = 10
kind_number kinds.Rollover = 11
kind_number kinds.WsrmRequired = 12
kind_number kinds.UnknownSequence = 13
kind_number kinds.SequenceTerminated = 14
kind_number kinds.SequenceClosed = 15
kind_number kinds.InvalidAcknowledgement = 16
kind_number kinds.CreateSequenceRefused = 17
kind_number kinds.MissingSelection = 18
kind_number kinds.UnsupportedSelection = 19
kind_number kinds.StoreFull = 20
