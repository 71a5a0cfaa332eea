-- The elements that messages of the protocol are for: WS-ReliableMessaging 1.2, sections 3.4 to 3.9.
use Rattle.std.specs.Prelude.{codes}
use Rattle.record_batch.specs.Sequences.Words.{Text}
use Rattle.node_messages.specs.declared.name.Name.{Name}
use Rattle.node_messages.specs.declared.name.Name.TheVariants as named

-- the local name of the element
abbrev pub name_text : Name → Text
name_text named.CreateSequence = codes "CreateSequence"
name_text named.CreateSequenceResponse = codes "CreateSequenceResponse"
name_text named.CloseSequence = codes "CloseSequence"
name_text named.CloseSequenceResponse = codes "CloseSequenceResponse"
name_text named.TerminateSequence = codes "TerminateSequence"
name_text named.TerminateSequenceResponse = codes "TerminateSequenceResponse"
name_text named.SequenceAcknowledgement = codes "SequenceAcknowledgement"
name_text named.AckRequested = codes "AckRequested"
