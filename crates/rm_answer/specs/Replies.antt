-- What goes back on a connection, in each version of SOAP.
use Rattle.std.specs.Prelude.{ℕ, List, [], Option, Some, None}
use Rattle.http_endpoint.specs.declared.error.HttpError.{HttpError}
use Rattle.http_endpoint.specs.declared.error.HttpError.TheVariants as http
use Rattle.http_endpoint.specs.declared.media.Media.{Media}
use Rattle.http_endpoint.specs.declared.media.Media.TheVariants.{Soap12, Soap11}
use Rattle.soap_envelope.specs.Soap.{soap_space}
use Rattle.message_reader.specs.Refusals.{blind}
use Rattle.message_writer.specs.Faults.{fault_of, table}
use Rattle.message_writer.specs.Text.{message_text}
use Rattle.message_writer.specs.Text11.{message11_text}
use Rattle.rm_message.specs.declared.message.FaultCode.{FaultCode}
use Rattle.rm_message.specs.declared.message.FaultCode.TheVariants.{Sender}
use Rattle.rm_message.specs.declared.message.Message.{Message}
use Rattle.rm_message.specs.declared.refusal.FaultKind.{FaultKind}
use Rattle.rm_message.specs.declared.refusal.FaultKind.TheVariants.{TooLong as BodyTooLong}
use Rattle.rm_message.specs.declared.refusal.Refusal.{Refusal}
use Rattle.rm_answer.specs.declared.reply.Reply.{Reply}

-- the status of a fault with this code in SOAP 1.2 (SOAP 1.2 Part 2, section 7.5.2.2)
abbrev pub status_of_code : FaultCode → ℕ
status_of_code Sender = 400
status_of_code _ = 500

-- the status of a fault of this kind; in SOAP 1.1 each has the same (SOAP 1.1, section 6.2)
abbrev pub status_of_kind : Media → FaultKind → ℕ
status_of_kind Soap12 kind = status_of_code (table kind).code
status_of_kind Soap11 kind = 500

-- the status with which a reply goes back
abbrev pub status_of : Media → Option FaultKind → ℕ
status_of media None = 200
status_of media (Some kind) = status_of_kind media kind

-- the response to a message that the node took
abbrev pub reply_to : Media → Option FaultKind → Option (List ℕ) → Reply
reply_to media verdict (Some body) = record { status = status_of media verdict; body = body }
reply_to media verdict None = record { status = 202; body = [] }

-- the text of a message
abbrev pub text_of : Media → Message → List ℕ
text_of Soap12 m = message_text soap_space m
text_of Soap11 m = message11_text m

-- the fault that answers a refusal
abbrev pub fault_text : Media → Refusal → List ℕ
fault_text media refusal = text_of media (fault_of refusal None)

-- the response with it
abbrev pub fault_reply : Media → Refusal → Reply
fault_reply media refusal =
    record { status = status_of_kind media refusal.kind; body = fault_text media refusal }

-- the response to a request that could not be read, where it gets one
abbrev pub refusal_to : Media → HttpError → Option Reply
refusal_to media http.BadHead = Some (record { status = 400; body = [] })
refusal_to media (http.TooLong taken) = Some (fault_reply media (blind BodyTooLong))
refusal_to media (http.Unsupported status) = Some (record { status = status; body = [] })
refusal_to media _ = None
