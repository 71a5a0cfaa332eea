-- A connection that is served.
use Rattle.std.proofs.Common.{◌≡◌, ℕ, ◌≤◌, List, [], take, Option, None, Some, Result, Ok, Err}
use Rattle.std.proofs.Common.{refl, sym, subst, append-nil, arith}
use Rattle.std.specs.Prelude.{IfErr, Bool, true, false, ◌∷◌, if◌then◌else◌}
use Rattle.std.specs.Io.KnownBytes.{Appends}
use Rattle.rm_base.specs.Count.{Rose}
use Rattle.rm_base.specs.Outside.{AppendsFront, Lasts, Stream}
use Rattle.rm_base.specs.declared.failures.Memory.{Memory}
use Rattle.http_endpoint.specs.Heads.{IsRefusal}
use Rattle.http_endpoint.specs.Messages as asked
use Rattle.http_endpoint.specs.Messages.{IsRequestAs, continue_text}
use Rattle.http_endpoint.specs.Part.{IfTold}
use Rattle.http_endpoint.specs.declared.error.HttpError.{HttpError}
use Rattle.http_endpoint.specs.declared.error.HttpError.TheVariants as http
use Rattle.http_endpoint.specs.declared.media.Media.{Media}
use Rattle.rm_answer.specs.Replies.{fault_reply, refusal_to, reply_to}
use Rattle.rm_answer.specs.declared.reply.Reply.{Reply}
use Rattle.rm_message.specs.declared.message.Message.{Message}
use Rattle.rm_message.specs.declared.refusal.Refusal.{Refusal}
use Rattle.rm_disk.specs.Cause.{HasCause}
use Rattle.rm_node.specs.Came.{IsReadAs}
use Rattle.rm_node.specs.Ends.{is_disk}
use Rattle.rm_node.specs.declared.error.NodeError.{NodeError}
use Rattle.rm_node.specs.declared.error.NodeError.TheVariants as error
use Rattle.rm_node.specs.declared.packets.Out.{Out}
use Rattle.rm_node.specs.declared.step.Reaction.{Reaction}
use Rattle.rm_serve.specs.Reacts.{Reacts, broke, crashed, reacted, slept, starving, took}
use Rattle.rm_serve.specs.Serves.{Answering, Asks, BeginsInvitation, HasReason, KeepsOut, Puts, Refusing, is_want}
use Rattle.rm_serve.specs.Serves.{answered, broken, down, faulted, refused, reply_text, starved, unanswered, unfaulted}
use Rattle.rm_serve.specs.Serves.{untold, wanting}
use Rattle.rm_serve.specs.Steps.{Step}
use Rattle.rm_serve.specs.Versions.{IsReply}
use Rattle.rm_serve.specs.declared.serving.ConnEnd.{ConnEnd}
use Rattle.rm_serve.specs.declared.serving.ConnEnd.TheVariants.{Dropped}
use Rattle.rm_serve.specs.declared.serving.Served.{Served}

-- what both sides of a connection tell is one
pub both-sides : (P : Stream → Stream → Type 0) (a b s t : Stream) → a ≡ s → b ≡ t → P a b → P s t
both-sides P a b s t first later p = subst (λ (x : Stream). P s x) later (subst (λ (x : Stream). P x b) first p)

-- no call was made on a connection
pub lasts-still : (s : Stream) → Lasts s s
lasts-still s = record { never_falls = omega arith; sound = λ h. (h, refl) }

-- nothing of a text was written
begun-not : (held : Option (List ℕ)) (text : List ℕ) → AppendsFront held held text
begun-not None text = (0, omega arith, tt)
begun-not (Some bytes) text = (0, omega arith, sym (append-nil bytes))

-- ---- what a request gets before its body

invited : (expects : Bool) (said : List ℕ) → said ≡ (if expects then continue_text else []) → BeginsInvitation said
invited true said is = (25, is)
invited false said is = (0, is)

said-begins : (media : Media) (request : Result (List ℕ) HttpError) (said all : List ℕ)
    → IsRequestAs media request said all
    → BeginsInvitation said
said-begins media request said all (asked.bad is gives none) = (0, none)
said-begins media request said all (asked.short is gives none) = (0, none)
said-begins media request said all (asked.refused facts rest e reads verdict gives none) = (0, none)
said-begins media request said all (asked.accepted facts rest framing reads verdict is body) =
    invited facts.known.expect_continue said is

-- what read_request tells of it, where the bytes that come are known
abbrev pub Tells : Media → Option (List ℕ) → Option (List ℕ) → Result (List ℕ) HttpError → List ℕ → Type 0
Tells media held later request all =
    IfTold request ((said : List ℕ) × Appends held later said × IsRequestAs media request said all)

some-one : (left : Option (List ℕ)) (a b : List ℕ) → left ≡ Some a → left ≡ Some b → a ≡ b
some-one left a b p q = cc

-- it said this, and then the bytes had this answer
asks-said : (media : Media) (old mid : Stream) (all : List ℕ) (request : Result (List ℕ) HttpError)
    → old.left ≡ Some all
    → (said : List ℕ) → Appends old.held mid.held said → IsRequestAs media request said all → HasReason old mid request
    → Lasts old mid → ((P : Type 0) → P → IfTold request P) → Asks media old mid request
asks-said media old mid all request is said held asked cause falls tells = record {
  said = said;
  begins = said-begins media request said all asked;
  held = held;
  asked = λ a at. tells (IsRequestAs media request said a)
      (subst (IsRequestAs media request said) (some-one old.left all a is at) asked);
  cause = cause;
  lasts = falls;
}

asks-silent : (media : Media) (old mid : Stream) (request : Result (List ℕ) HttpError)
    → AppendsFront old.held mid.held continue_text
    → HasReason old mid request → Lasts old mid → ((P : Type 0) → IfTold request P)
    → Asks media old mid request
asks-silent media old mid request front cause falls silent = record {
  said = take front.0 continue_text;
  begins = (front.0, refl);
  held = front.2;
  asked = λ a at. silent (IsRequestAs media request (take front.0 continue_text) a);
  cause = cause;
  lasts = falls;
}

asks-at : (media : Media) (old mid : Stream) (all : List ℕ) (request : Result (List ℕ) HttpError) → old.left ≡ Some all
    → Tells media old.held mid.held request all → AppendsFront old.held mid.held continue_text
    → HasReason old mid request → Lasts old mid → Asks media old mid request
asks-at media old mid all (Ok body) is t front why falls =
    asks-said media old mid all (Ok body) is t.0 t.1 t.2 why falls (λ P p. p)
asks-at media old mid all (Err http.Memory) is t front why falls =
    asks-silent media old mid (Err http.Memory) front why falls (λ P. tt)
asks-at media old mid all (Err http.ReadFault) is t front why falls =
    asks-silent media old mid (Err http.ReadFault) front why falls (λ P. tt)
asks-at media old mid all (Err http.WriteFault) is t front why falls =
    asks-silent media old mid (Err http.WriteFault) front why falls (λ P. tt)
asks-at media old mid all (Err http.BadHead) is t front why falls =
    asks-said media old mid all (Err http.BadHead) is t.0 t.1 t.2 why falls (λ P p. p)
asks-at media old mid all (Err (http.TooLong n)) is t front why falls =
    asks-said media old mid all (Err (http.TooLong n)) is t.0 t.1 t.2 why falls (λ P p. p)
asks-at media old mid all (Err (http.Unsupported s)) is t front why falls =
    asks-said media old mid all (Err (http.Unsupported s)) is t.0 t.1 t.2 why falls (λ P p. p)
asks-at media old mid all (Err http.CutShort) is t front why falls =
    asks-said media old mid all (Err http.CutShort) is t.0 t.1 t.2 why falls (λ P p. p)

asks-by : (media : Media) (old mid : Stream) (left : Option (List ℕ)) (request : Result (List ℕ) HttpError)
    → old.left ≡ left
    → ((all : List ℕ) → old.left ≡ Some all → Tells media old.held mid.held request all)
    → AppendsFront old.held mid.held continue_text → HasReason old mid request → Lasts old mid
    → Asks media old mid request
asks-by media old mid None request is t front why falls = record {
  said = take front.0 continue_text;
  begins = (front.0, refl);
  held = front.2;
  asked = λ a at. absurd cc;
  cause = why;
  lasts = falls;
}
asks-by media old mid (Some all) request is t front why falls = asks-at media old mid all request is
    (t all is) front why falls

-- why it came to this
pub reason-of : (old mid : Stream) (r : Result (List ℕ) HttpError)
    → (r ≡ Err http.ReadFault → Rose old.faults mid.faults)
    → (r ≡ Err http.WriteFault → Rose old.faults mid.faults) → IfErr r IsRefusal → HasReason old mid r
reason-of old mid (Ok body) read write refusal = tt
reason-of old mid (Err http.Memory) read write refusal = tt
reason-of old mid (Err http.ReadFault) read write refusal = read refl
reason-of old mid (Err http.WriteFault) read write refusal = write refl
reason-of old mid (Err http.BadHead) read write refusal = tt
reason-of old mid (Err (http.TooLong n)) read write refusal = tt
reason-of old mid (Err (http.Unsupported s)) read write refusal = refusal
reason-of old mid (Err http.CutShort) read write refusal = tt

-- what a request gets before its body, as it is told
pub asks : (media : Media) (old mid : Stream) (request : Result (List ℕ) HttpError)
    → ((all : List ℕ) → old.left ≡ Some all → Tells media old.held mid.held request all)
    → AppendsFront old.held mid.held continue_text → HasReason old mid request → Lasts old mid
    → Asks media old mid request
asks media old mid request t front why falls = asks-by media old mid old.left request refl t front why falls

-- ---- a request that could not be read

-- memory was wanting for it
pub refuse-not : (media : Media) (s : Stream) (e : HttpError) → Refusing media s s e (Err error.Memory)
refuse-not media s e = starved (begun-not s.held (reply_text media (refusal_to media e)))

-- or for its answer
pub refuse-lost : (media : Media) (old new : Stream) (e : HttpError) (want : Memory) (result : Result Served NodeError)
    → Puts old new (reply_text media (refusal_to media e)) (Err want) → result ≡ Err error.Memory
    → Refusing media old new e result
refuse-lost media old new e want result puts is =
    subst (λ (r : Result Served NodeError). Refusing media old new e r) (sym is) (starved puts)

-- it was answered, if it gets an answer
pub refuse-done : (media : Media) (old new : Stream) (e : HttpError) (wrote : ConnEnd) (outs : List Out)
    → is_want e ≡ false
    → Puts old new (reply_text media (refusal_to media e)) (Ok wrote) → outs ≡ []
    → Refusing media old new e (Ok (record { taken = None; outs = outs; finish = Dropped e }))
refuse-done media old new e wrote outs read puts none =
    subst (λ (o : List Out). Refusing media old new e (Ok (record { taken = None; outs = o; finish = Dropped e })))
    (sym none) (refused wrote read puts)

-- no answer was made
pub say-not : (s : Stream) (text : List ℕ) (r : Result ConnEnd Memory) (want : Memory) → r ≡ Err want
    → Puts s s text r
say-not s text r want is =
    subst (λ (x : Result ConnEnd Memory). Puts s s text x) (sym is) (begun-not s.held text)

-- ---- the answer to a body

-- the node's call failed
pub answer-failed : (media : Media) (moment : ℕ) (bytes body : List ℕ) (old : Stream) (steps : List Step)
    (r : Result Reaction NodeError) (e : NodeError) (s : Result Served NodeError)
    → Reacts moment bytes steps r → bytes ≡ body → r ≡ Err e → s ≡ Err e → Answering media moment old old body steps s
answer-failed media moment bytes body old _ _ e s (reacted content verdict reply outs reads) same is gives = absurd cc
answer-failed media moment bytes body old _ _ e s (crashed content reads) same is gives =
    let to : s ≡ Err error.Disk = cc in
    subst (λ (x : Result Served NodeError). Answering media moment old old body (broke moment content ∷ []) x) (sym to)
    (broken content (subst (λ (b : List ℕ). IsReadAs b content) same reads) refl)
answer-failed media moment bytes body old _ _ e s slept same is gives =
    let to : s ≡ Err error.Down = cc in
    subst (λ (x : Result Served NodeError). Answering media moment old old body [] x) (sym to) (down refl)
answer-failed media moment bytes body old _ _ e s starving same is gives =
    let to : s ≡ Err error.Memory = cc in
    subst (λ (x : Result Served NodeError). Answering media moment old old body [] x) (sym to) (wanting refl)

answer-begun : (media : Media) (moment : ℕ) (body : List ℕ) (old new : Stream) (content : Result Message Refusal)
    (x : Reaction)
    (told : Option (List ℕ)) (answer : Reply) (want : Memory)
    → IsReadAs body content → IsReply media x.reply told → answer ≡ reply_to media x.verdict told
    → Puts old new (reply_text media (Some answer)) (Err want)
    → Answering media moment old new body (took moment content x.verdict x.reply x.outs ∷ []) (Err error.Memory)
answer-begun media moment body old new content x told answer want reads tells is puts =
    unanswered content x.verdict x.reply told x.outs reads tells
    (subst (λ (a : Reply). Puts old new (reply_text media (Some a)) (Err (record {}))) is puts)

-- memory was wanting for the answer
pub answer-lost : (media : Media) (moment : ℕ) (bytes body : List ℕ) (old new : Stream) (steps : List Step)
    (r : Result Reaction NodeError) (x : Reaction) (told : Option (List ℕ)) (answer : Reply) (want : Memory)
    (s : Result Served NodeError)
    → Reacts moment bytes steps r → bytes ≡ body → r ≡ Ok x → IsReply media x.reply told
    → answer ≡ reply_to media x.verdict told
    → Puts old new (reply_text media (Some answer)) (Err want) → s ≡ Err error.Memory
    → Answering media moment old new body steps s
answer-lost media moment bytes body old new _ _ x told answer want s (reacted content verdict reply outs reads) same is
    tells a puts gives =
    let to : x ≡ record { verdict = verdict; reply = reply; outs = outs } = cc in
    subst (λ (y : Result Served NodeError). Answering media moment old new body
    (took moment content verdict reply outs ∷ []) y) (sym gives)
    (subst (λ (y : Reaction). Answering media moment old new body (took moment content y.verdict y.reply y.outs ∷ [])
    (Err error.Memory)) to
    (answer-begun media moment body old new content x told answer want
    (subst (λ (b : List ℕ). IsReadAs b content) same reads) tells a puts))
answer-lost media moment bytes body old new _ _ x told answer want s
    (crashed content reads) same is tells a puts gives = absurd cc
answer-lost media moment bytes body old new _ _ x told answer want s slept same is tells a puts gives = absurd cc
answer-lost media moment bytes body old new _ _ x told answer want s starving same is tells a puts gives = absurd cc

answer-as : (media : Media) (moment : ℕ) (body : List ℕ) (old new : Stream) (content : Result Message Refusal)
    (x : Reaction)
    (told : Option (List ℕ)) (answer : Reply) (finish : ConnEnd)
    → IsReadAs body content → IsReply media x.reply told → answer ≡ reply_to media x.verdict told
    → Puts old new (reply_text media (Some answer)) (Ok finish)
    → Answering media moment old new body (took moment content x.verdict x.reply x.outs ∷ [])
    (Ok (record { taken = Some body; outs = x.outs; finish = finish }))
answer-as media moment body old new content x told answer finish reads tells is puts =
    answered content x.verdict x.reply told x.outs finish reads tells
    (subst (λ (a : Reply). Puts old new (reply_text media (Some a)) (Ok finish)) is puts)

-- it was answered
pub answer-done : (media : Media) (moment : ℕ) (bytes body : List ℕ) (old new : Stream) (steps : List Step)
    (r : Result Reaction NodeError) (x : Reaction) (told : Option (List ℕ)) (answer : Reply) (finish : ConnEnd)
    → Reacts moment bytes steps r → bytes ≡ body → r ≡ Ok x → IsReply media x.reply told
    → answer ≡ reply_to media x.verdict told
    → Puts old new (reply_text media (Some answer)) (Ok finish)
    → Answering media moment old new body steps (Ok (record { taken = Some body; outs = x.outs; finish = finish }))
answer-done media moment bytes body old new _ _ x told answer finish (reacted content verdict reply outs reads) same is
    tells a puts =
    let to : x ≡ record { verdict = verdict; reply = reply; outs = outs } = cc in
    subst (λ (y : Reaction). Answering media moment old new body (took moment content y.verdict y.reply y.outs ∷ [])
    (Ok (record { taken = Some body; outs = x.outs; finish = finish }))) to
    (answer-as media moment body old new content x told answer finish
    (subst (λ (b : List ℕ). IsReadAs b content) same reads) tells a puts)
answer-done media moment bytes body old new _ _ x told answer finish
    (crashed content reads) same is tells a puts = absurd cc
answer-done media moment bytes body old new _ _ x told answer finish slept same is tells a puts = absurd cc
answer-done media moment bytes body old new _ _ x told answer finish starving same is tells a puts = absurd cc

-- memory was wanting for what the peer is told
pub answer-untold : (media : Media) (moment : ℕ) (bytes body : List ℕ) (old : Stream) (steps : List Step)
    (r : Result Reaction NodeError) (x : Reaction) (s : Result Served NodeError)
    → Reacts moment bytes steps r → bytes ≡ body → r ≡ Ok x → s ≡ Err error.Memory
    → Answering media moment old old body steps s
answer-untold media moment bytes body old _ _ x s (reacted content verdict reply outs reads) same is gives =
    subst (λ (y : Result Served NodeError). Answering media moment old old body
    (took moment content verdict reply outs ∷ []) y) (sym gives)
    (untold content verdict reply outs (subst (λ (b : List ℕ). IsReadAs b content) same reads) refl)
answer-untold media moment bytes body old _ _ x s (crashed content reads) same is gives = absurd cc
answer-untold media moment bytes body old _ _ x s slept same is gives = absurd cc
answer-untold media moment bytes body old _ _ x s starving same is gives = absurd cc

-- ---- a body that is kept out

-- no fault was made for it
pub keep-not : (media : Media) (s : Stream) (refusal : Refusal) (r : Result Served NodeError) → r ≡ Err error.Memory
    → KeepsOut media s s refusal r
keep-not media s refusal r is =
    subst (λ (x : Result Served NodeError). KeepsOut media s s refusal x) (sym is)
    (unfaulted (begun-not s.held (reply_text media (Some (fault_reply media refusal)))))

-- memory was wanting for it
pub keep-lost : (media : Media) (old new : Stream) (refusal : Refusal) (reply : Reply) (want : Memory)
    (r : Result Served NodeError) → reply ≡ fault_reply media refusal
    → Puts old new (reply_text media (Some reply)) (Err want) → r ≡ Err error.Memory → KeepsOut media old new refusal r
keep-lost media old new refusal reply want r same puts is =
    subst (λ (x : Result Served NodeError). KeepsOut media old new refusal x) (sym is)
    (unfaulted (subst (λ (a : Reply). Puts old new (reply_text media (Some a)) (Err (record {}))) same puts))

-- it was answered
pub keep-done : (media : Media) (old new : Stream) (refusal : Refusal) (reply : Reply) (finish : ConnEnd)
    (outs : List Out) → reply ≡ fault_reply media refusal → outs ≡ []
    → Puts old new (reply_text media (Some reply)) (Ok finish)
    → KeepsOut media old new refusal (Ok (record { taken = None; outs = outs; finish = finish }))
keep-done media old new refusal reply finish outs same none puts =
    subst (λ (o : List Out). KeepsOut media old new refusal
    (Ok (record { taken = None; outs = o; finish = finish }))) (sym none)
    (faulted finish (subst (λ (a : Reply). Puts old new (reply_text media (Some a)) (Ok finish)) same puts))

-- the node had no part in it
pub keep-awake : (media : Media) (old new : Stream) (refusal : Refusal) (r : Result Served NodeError)
    → KeepsOut media old new refusal r → r ≡ Err error.Down → ⊥
keep-awake media old new refusal _ (faulted finish puts) e = absurd cc
keep-awake media old new refusal _ (unfaulted puts) e = absurd cc

pub keep-cause : (media : Media) (old new : Stream) (refusal : Refusal) (r : Result Served NodeError) (n : ℕ)
    → KeepsOut media old new refusal r → HasCause n n (is_disk r)
keep-cause media old new refusal _ n (faulted finish puts) = record { later = omega arith; cause = refl }
keep-cause media old new refusal _ n (unfaulted puts) = record { later = omega arith; cause = refl }
