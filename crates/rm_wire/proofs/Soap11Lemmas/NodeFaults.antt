-- The faults that a node writes are told in SOAP 1.1, but for the inner subcode of one kind.
use Rattle.std.proofs.Common.{◌≢◌, List, codes, refl}
use Rattle.soap_document.specs.Profile.Tree.{Element}
use Rattle.rm_message.specs.declared.message.FaultCode.TheVariants.{VersionMismatch, MustUnderstand, Sender, Receiver}
use Rattle.rm_message.specs.declared.refusal.FaultKind.{FaultKind}
use Rattle.rm_message.specs.declared.refusal.FaultKind.TheVariants as kinds
use Rattle.message_writer.specs.Faults.{table, fault_body}
use Rattle.message_writer.specs.Faults11.{IsFault11, plainly, ahead, of_addressing, of_connection, of_create}

pub kind_told : (kind : FaultKind) (detail : List Element) → kind ≢ kinds.Cardinality
    → IsFault11 (fault_body (table kind) detail)
kind_told kinds.TooLong d ne = record { code = refl; tells = plainly Sender; inner = refl }
kind_told kinds.NotUtf8 d ne = record { code = refl; tells = plainly Sender; inner = refl }
kind_told kinds.NotProfile d ne = record { code = refl; tells = plainly Sender; inner = refl }
kind_told kinds.WrongVersion d ne = record { code = refl; tells = plainly VersionMismatch; inner = refl }
kind_told kinds.NotEnvelope d ne = record { code = refl; tells = plainly Sender; inner = refl }
kind_told kinds.NotUnderstood d ne = record { code = refl; tells = plainly MustUnderstand; inner = refl }
kind_told kinds.Cardinality d ne = absurd (ne refl)
kind_told kinds.HeaderMissing d ne =
    record { code = refl; tells = of_addressing (codes "MessageAddressingHeaderRequired"); inner = refl }
kind_told kinds.BadHeader d ne =
    record { code = refl; tells = of_addressing (codes "InvalidAddressingHeader"); inner = refl }
kind_told kinds.Malformed d ne = record { code = refl; tells = plainly Sender; inner = refl }
kind_told kinds.Rollover d ne =
    record { code = refl; tells = ahead Sender (codes "MessageNumberRollover") refl; inner = refl }
kind_told kinds.WsrmRequired d ne =
    record { code = refl; tells = ahead Sender (codes "WSRMRequired") refl; inner = refl }
kind_told kinds.UnknownSequence d ne =
    record { code = refl; tells = ahead Sender (codes "UnknownSequence") refl; inner = refl }
kind_told kinds.SequenceTerminated d ne =
    record { code = refl; tells = ahead Sender (codes "SequenceTerminated") refl; inner = refl }
kind_told kinds.SequenceClosed d ne =
    record { code = refl; tells = ahead Sender (codes "SequenceClosed") refl; inner = refl }
kind_told kinds.InvalidAcknowledgement d ne =
    record { code = refl; tells = ahead Sender (codes "InvalidAcknowledgement") refl; inner = refl }
kind_told kinds.CreateSequenceRefused d ne = record { code = refl; tells = of_create; inner = refl }
kind_told kinds.MissingSelection d ne =
    record { code = refl; tells = of_connection (codes "MissingSelection"); inner = refl }
kind_told kinds.UnsupportedSelection d ne =
    record { code = refl; tells = of_connection (codes "UnsupportedSelection"); inner = refl }
kind_told kinds.StoreFull d ne = record { code = refl; tells = plainly Receiver; inner = refl }
