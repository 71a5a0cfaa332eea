-- The actions of messages: WS-ReliableMessaging 1.2, sections 3.4 to 3.9 and 4, WS-MakeConnection 1.1, sections 3.2 and
-- 4, and WS-Addressing 1.0 SOAP Binding, section 6.
use Rattle.std.specs.Prelude.{ℕ, List, ◌++◌, codes}

-- the action of a message of WS-ReliableMessaging, by the name of its element
abbrev pub action_of : List ℕ → List ℕ
action_of name = codes "http://docs.oasis-open.org/ws-rx/wsrm/200702/" ++ name

-- CreateSequence (WS-ReliableMessaging 1.2, 3.4)
abbrev pub create_sequence : List ℕ
create_sequence = action_of (codes "CreateSequence")

-- CreateSequenceResponse (3.4)
abbrev pub create_sequence_response : List ℕ
create_sequence_response = action_of (codes "CreateSequenceResponse")

-- CloseSequence (3.5)
abbrev pub close_sequence : List ℕ
close_sequence = action_of (codes "CloseSequence")

-- CloseSequenceResponse (3.5)
abbrev pub close_sequence_response : List ℕ
close_sequence_response = action_of (codes "CloseSequenceResponse")

-- TerminateSequence (3.6)
abbrev pub terminate_sequence : List ℕ
terminate_sequence = action_of (codes "TerminateSequence")

-- TerminateSequenceResponse (3.6)
abbrev pub terminate_sequence_response : List ℕ
terminate_sequence_response = action_of (codes "TerminateSequenceResponse")

-- a message that has AckRequested alone (3.8)
abbrev pub ack_requested : List ℕ
ack_requested = action_of (codes "AckRequested")

-- one that has SequenceAcknowledgement alone (3.9)
abbrev pub sequence_acknowledgement : List ℕ
sequence_acknowledgement = action_of (codes "SequenceAcknowledgement")

-- the faults of WS-ReliableMessaging 1.2 (section 4)
abbrev pub wsrm_fault : List ℕ
wsrm_fault = action_of (codes "fault")

-- MakeConnection (WS-MakeConnection 1.1, 3.2)
abbrev pub make_connection : List ℕ
make_connection = codes "http://docs.oasis-open.org/ws-rx/wsmc/200702/MakeConnection"

-- the faults of WS-MakeConnection 1.1 (section 4)
abbrev pub wsmc_fault : List ℕ
wsmc_fault = codes "http://docs.oasis-open.org/ws-rx/wsmc/200702/fault"

-- the faults of WS-Addressing (SOAP Binding, 6.2)
abbrev pub addressing_fault : List ℕ
addressing_fault = codes "http://www.w3.org/2005/08/addressing/fault"

-- the faults of SOAP (SOAP Binding, 6.1)
abbrev pub soap_fault : List ℕ
soap_fault = codes "http://www.w3.org/2005/08/addressing/soap/fault"
