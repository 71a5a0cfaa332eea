-- What is between a node and a peer that speaks SOAP 1.1.
use Rattle.std.proofs.Common.{◌≡◌, ℕ, List, Option, None, Some, Result, Ok, Err, IfOk, refl, sym, subst}
use Rattle.rm_base.specs.declared.failures.Memory.{Memory}
use Rattle.http_endpoint.specs.declared.media.Media.TheVariants.{Soap11}
use Rattle.soap_envelope.specs.Soap.{soap_space}
use Rattle.message_reader.specs.Refusals.{IsRefusal}
use Rattle.rm_message.specs.declared.refusal.DecodeError.{DecodeError}
use Rattle.rm_message.specs.declared.refusal.DecodeError.TheVariants as read
use Rattle.rm_wire.specs.Soap11.Spells11.{IsRefusal11}
use Rattle.rm_serve.specs.Versions.{Enters, IsTold, kept_out_by, untold_by}
use Rattle.rm_serve.specs.declared.version.Entry.{Entry}

keeps-out : (body : List ℕ) (error : DecodeError) → IsRefusal11 body error
    → IfOk (kept_out_by error) (Enters Soap11 body)
keeps-out body read.Memory is = tt
keeps-out body (read.Refused refusal) is = is

-- a body that is no message is kept out
pub keeps-out-as : (body : List ℕ) (error : DecodeError) (r : Result Entry Memory) → r ≡ kept_out_by error
    → IsRefusal11 body error → IfOk r (Enters Soap11 body)
keeps-out-as body error r same is =
    subst (λ (x : Result Entry Memory). IfOk x (Enters Soap11 body)) (sym same) (keeps-out body error is)

tells-none : (bytes : List ℕ) (error : DecodeError) → IsRefusal soap_space bytes error
    → IfOk (untold_by error) (IsTold Soap11 bytes)
tells-none bytes read.Memory is = tt
tells-none bytes (read.Refused refusal) is = (Err refusal, is, refl)

-- of bytes that are no message nothing is told
pub tells-none-as : (bytes : List ℕ) (error : DecodeError) (r : Result (Option (List ℕ)) Memory)
    → r ≡ untold_by error → IsRefusal soap_space bytes error → IfOk r (IsTold Soap11 bytes)
tells-none-as bytes error r same is =
    subst (λ (x : Result (Option (List ℕ)) Memory). IfOk x (IsTold Soap11 bytes)) (sym same)
    (tells-none bytes error is)
