-- Lemmas on the faults that refusals are answered with.
use Rattle.std.proofs.Common.{◌≡◌, ◌∙◌, ℕ, Bool, true, List, Option, None, Some, Result, IfOk, refl, sym, ap}
use Rattle.std.specs.Prelude.{is_some}
use Rattle.http_endpoint.specs.declared.media.Media.{Media}
use Rattle.rm_base.specs.declared.failures.Memory.{Memory}
use Rattle.soap_envelope.specs.Soap.{soap_space}
use Rattle.message_writer.specs.Faults.{fault_of, table}
use Rattle.message_writer.specs.Faults11.{code11}
use Rattle.message_writer.specs.Text.{message_text}
use Rattle.message_writer.specs.Text11.{has_code11, message11_text, text11_if}
use Rattle.rm_message.specs.declared.message.Message.{Message}
use Rattle.rm_message.specs.declared.refusal.FaultKind.{FaultKind}
use Rattle.rm_message.specs.declared.refusal.FaultKind.TheVariants as kinds
use Rattle.rm_message.specs.declared.refusal.Refusal.{Refusal}
use Rattle.rm_answer.specs.Replies.{fault_reply}
use Rattle.rm_answer.specs.declared.reply.Reply.{Reply}

-- the text of a message is that of an equal one
pub text-of-same : (m n : Message) → m ≡ n → (result : Result (List ℕ) Memory)
    → IfOk result (λ text. text ≡ message_text soap_space m) → IfOk result (λ text. text ≡ message_text soap_space n)
text-of-same m n e result p = rw (sym e) p

-- the response of a refusal is that of an equal one
pub reply-of-same : (media : Media) (r s : Refusal) → r ≡ s → (result : Result Reply Memory)
    → IfOk result (λ reply. reply ≡ fault_reply media r) → IfOk result (λ reply. reply ≡ fault_reply media s)
reply-of-same media r s e result p = rw (sym e) p

-- SOAP 1.1 has a code for each kind
has-code : (kind : FaultKind) → is_some (code11 (table kind).code) ≡ true
has-code kinds.TooLong = refl
has-code kinds.NotUtf8 = refl
has-code kinds.NotProfile = refl
has-code kinds.WrongVersion = refl
has-code kinds.NotEnvelope = refl
has-code kinds.NotUnderstood = refl
has-code kinds.Cardinality = refl
has-code kinds.HeaderMissing = refl
has-code kinds.BadHeader = refl
has-code kinds.Malformed = refl
has-code kinds.Rollover = refl
has-code kinds.WsrmRequired = refl
has-code kinds.UnknownSequence = refl
has-code kinds.SequenceTerminated = refl
has-code kinds.SequenceClosed = refl
has-code kinds.InvalidAcknowledgement = refl
has-code kinds.CreateSequenceRefused = refl
has-code kinds.MissingSelection = refl
has-code kinds.UnsupportedSelection = refl
has-code kinds.StoreFull = refl

-- so each fault has a text there
pub text11-of : (m : Message) (r : Refusal) (t : Option (List ℕ)) → m ≡ fault_of r None
    → t ≡ text11_if (has_code11 m.body) m → t ≡ Some (message11_text (fault_of r None))
text11-of m r t e is = is
    ∙ (ap (λ (n : Message). text11_if (has_code11 n.body) n) e
    ∙ ap (λ (b : Bool). text11_if b (fault_of r None)) (has-code r.kind))
