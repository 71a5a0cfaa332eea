-- A connection that came is served.
use Rattle.std.specs.Prelude.{◌≡◌, ℕ, ◌≤◌, ⊤, Bool, true, false, List, [], ◌∷◌, take, Option, Some, None, Result, Ok}
use Rattle.std.specs.Prelude.{Err}
use Rattle.std.specs.Io.KnownBytes.{Appends}
use Rattle.rm_base.specs.Count.{Rose}
use Rattle.rm_base.specs.Outside.{AppendsFront, Lasts, Stream}
use Rattle.rm_base.specs.declared.failures.Memory.{Memory}
use Rattle.http_endpoint.specs.Heads.{IsRefusal}
use Rattle.http_endpoint.specs.Messages.{IsRequestAs, continue_text}
use Rattle.http_endpoint.specs.Part.{IfTold}
use Rattle.http_endpoint.specs.Texts.{response_text_as}
use Rattle.http_endpoint.specs.declared.error.HttpError.{HttpError}
use Rattle.http_endpoint.specs.declared.error.HttpError.TheVariants as http
use Rattle.http_endpoint.specs.declared.media.Media.{Media}
use Rattle.http_endpoint.specs.declared.media.Media.TheVariants.{Soap12, Soap11}
use Rattle.rm_answer.specs.Replies.{fault_reply, refusal_to, reply_to}
use Rattle.rm_answer.specs.declared.reply.Reply.{Reply}
use Rattle.rm_message.specs.declared.message.Message.{Message}
use Rattle.rm_message.specs.declared.refusal.FaultKind.{FaultKind}
use Rattle.rm_message.specs.declared.refusal.Refusal.{Refusal}
use Rattle.rm_node.specs.Came.{IsReadAs}
use Rattle.rm_node.specs.declared.error.NodeError.{NodeError}
use Rattle.rm_node.specs.declared.error.NodeError.TheVariants as error
use Rattle.rm_node.specs.declared.packets.Out.{Out}
use Rattle.rm_serve.specs.Reacts.{broke, took}
use Rattle.rm_serve.specs.Steps.{Step}
use Rattle.rm_serve.specs.Versions.{IsGiven, IsKeptOut, IsReply}
use Rattle.rm_serve.specs.declared.serving.ConnEnd.{ConnEnd}
use Rattle.rm_serve.specs.declared.serving.ConnEnd.TheVariants.{Done, Dropped}
use Rattle.rm_serve.specs.declared.serving.Served.{Served}

-- the text of a response of this media type, where there is one
abbrev pub reply_text : Media → Option Reply → List ℕ
reply_text media None = []
reply_text media (Some reply) = response_text_as media reply.status reply.body

-- how the writing of a text ended: it is written whole; or some first bytes of it are, since a call failed, or since
-- memory was wanting
abbrev pub Puts : Stream → Stream → List ℕ → Result ConnEnd Memory → Type 0
Puts old new text (Ok Done) = Appends old.held new.held text
Puts old new text (Ok (Dropped e)) =
    (e ≡ http.WriteFault) × Rose old.faults new.faults × AppendsFront old.held new.held text
Puts old new text (Err wanting) = AppendsFront old.held new.held text

-- the cause of what a request came to
abbrev pub HasReason : Stream → Stream → Result (List ℕ) HttpError → Type 0
HasReason old new (Err http.ReadFault) = Rose old.faults new.faults
HasReason old new (Err http.WriteFault) = Rose old.faults new.faults
HasReason old new (Err (http.Unsupported status)) = IsRefusal (http.Unsupported status)
HasReason old new _ = ⊤

-- some first bytes of what tells a peer to send the body
abbrev pub BeginsInvitation : List ℕ → Type 0
BeginsInvitation said = (n : ℕ) × (said ≡ take n continue_text)

-- A request of this media type was read, and came to this. Nothing was written but what it gets before its body, and
-- the count of faults stays where the connection tells that it never fails.
pub record Asks (media : Media) (old new : Stream) (request : Result (List ℕ) HttpError) : Type 0 where
  pub said : List ℕ
  pub begins : BeginsInvitation said
  pub held : Appends old.held new.held said
  pub asked : (all : List ℕ) → old.left ≡ Some all → IfTold request (IsRequestAs media request said all)
  pub cause : HasReason old new request
  pub lasts : Lasts old new

-- Bytes are given to the node in one call, and answered. Where the call failed, or memory was wanting for what the
-- peer is told, nothing more is written.
pub data Answering (media : Media) (moment : ℕ) (old new : Stream) (body : List ℕ) :
    List Step → Result Served NodeError → Type 0 where
  answered : (content : Result Message Refusal) (verdict : Option FaultKind) (reply told : Option (List ℕ))
      (outs : List Out) (finish : ConnEnd)
      → IsReadAs body content → IsReply media reply told
      → Puts old new (reply_text media (Some (reply_to media verdict told))) (Ok finish)
      → Answering media moment old new body
      (took moment content verdict reply outs ∷ [])
      (Ok (record { taken = Some body; outs = outs; finish = finish }))
  unanswered : (content : Result Message Refusal) (verdict : Option FaultKind) (reply told : Option (List ℕ))
      (outs : List Out)
      → IsReadAs body content → IsReply media reply told
      → Puts old new (reply_text media (Some (reply_to media verdict told))) (Err (record {}))
      → Answering media moment old new body
      (took moment content verdict reply outs ∷ [])
      (Err error.Memory)
  untold : (content : Result Message Refusal) (verdict : Option FaultKind) (reply : Option (List ℕ))
      (outs : List Out)
      → IsReadAs body content → new ≡ old
      → Answering media moment old new body (took moment content verdict reply outs ∷ []) (Err error.Memory)
  wanting : new ≡ old → Answering media moment old new body [] (Err error.Memory)
  broken : (content : Result Message Refusal) → IsReadAs body content → new ≡ old
      → Answering media moment old new body (broke moment content ∷ []) (Err error.Disk)
  down : new ≡ old → Answering media moment old new body [] (Err error.Down)

-- A body that is kept out is answered with the fault of its refusal; or memory was wanting for it.
pub data KeepsOut (media : Media) (old new : Stream) (refusal : Refusal) : Result Served NodeError → Type 0 where
  faulted : (finish : ConnEnd) → Puts old new (reply_text media (Some (fault_reply media refusal))) (Ok finish)
      → KeepsOut media old new refusal (Ok (record { taken = None; outs = []; finish = finish }))
  unfaulted : Puts old new (reply_text media (Some (fault_reply media refusal))) (Err (record {}))
      → KeepsOut media old new refusal (Err error.Memory)

-- A request's body is given to the node and answered; or it is kept out, and answered with the fault of its refusal;
-- or memory was wanting to read it.
pub data Admitting (media : Media) (moment : ℕ) (old new : Stream) (body : List ℕ) :
    List Step → Result Served NodeError → Type 0 where
  given : (bytes : List ℕ) (steps : List Step) (result : Result Served NodeError)
      → IsGiven media body bytes → Answering media moment old new bytes steps result
      → Admitting media moment old new body steps result
  kept_out : (refusal : Refusal) (result : Result Served NodeError)
      → IsKeptOut media body refusal → KeepsOut media old new refusal result
      → Admitting media moment old new body [] result
  unread : new ≡ old → Admitting media moment old new body [] (Err error.Memory)

-- memory was wanting
abbrev pub is_want : HttpError → Bool
is_want http.Memory = true
is_want _ = false

-- A request that could not be read is answered, where it gets an answer, and given up for its error; or memory was
-- wanting, for the request or for its answer.
pub data Refusing (media : Media) (old new : Stream) (e : HttpError) : Result Served NodeError → Type 0 where
  refused : (wrote : ConnEnd) → is_want e ≡ false → Puts old new (reply_text media (refusal_to media e)) (Ok wrote)
      → Refusing media old new e (Ok (record { taken = None; outs = []; finish = Dropped e }))
  starved : Puts old new (reply_text media (refusal_to media e)) (Err (record {}))
      → Refusing media old new e (Err error.Memory)

-- A connection is served: its request is read, and then its body let in to the node, and answered; or it could not be
-- read, and the node is not called. What comes behind the request takes back none of its faults.
pub data ServingAs (media : Media) (moment : ℕ) (old new : Stream) : List Step → Result Served NodeError → Type 0 where
  taken : (mid : Stream) (body : List ℕ) (steps : List Step) (result : Result Served NodeError)
      → Asks media old mid (Ok body) → Lasts mid new → Admitting media moment mid new body steps result
      → ServingAs media moment old new steps result
  untaken : (mid : Stream) (e : HttpError) (result : Result Served NodeError)
      → Asks media old mid (Err e) → Lasts mid new → Refusing media mid new e result
      → ServingAs media moment old new [] result

-- where peers speak SOAP 1.2
abbrev pub Serving : ℕ → Stream → Stream → List Step → Result Served NodeError → Type 0
Serving moment old new steps result = ServingAs Soap12 moment old new steps result

-- where peers speak SOAP 1.1
abbrev pub Serving11 : ℕ → Stream → Stream → List Step → Result Served NodeError → Type 0
Serving11 moment old new steps result = ServingAs Soap11 moment old new steps result
