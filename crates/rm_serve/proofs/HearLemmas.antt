-- Bytes are given to a node.
use Rattle.std.proofs.Common.{◌≡◌, ℕ, Bool, true, false, List, [], ◌∷◌, refl, sym, ap, subst, ◌∙◌}
use Rattle.std.proofs.Common.{inl, inr}
use Rattle.std.specs.Borrow.{Bor}
use Rattle.std.specs.Prelude.{◌⊎◌, ◌≢◌, MatchBool, Result, Ok, Err, IfErr, OnOk}
use Rattle.rm_protocol.specs.Calls.{Answer}
use Rattle.rm_protocol.specs.Terms.{Terms}
use Rattle.rm_message.specs.declared.message.Message.{Message}
use Rattle.rm_message.specs.declared.refusal.Refusal.{Refusal}
use Rattle.node_laws.specs.OwnTerms.{AreOwn, ThereAreOwnTerms}
use Rattle.node_store.specs.Has.{Holds}
use Rattle.rm_disk.specs.Told.{Told}
use Rattle.rm_node.specs.Asked.{Asked, Asks, Receive, is_connected}
use Rattle.rm_node.specs.Called.{Called, Does, Sleeps, Steps, answer_of}
use Rattle.rm_node.specs.Came.{IsReadAs}
use Rattle.rm_node.specs.Ends.{Ended, WasDown, is_answered, is_broken, is_handed, reaction_end}
use Rattle.rm_node.specs.Keeping.{Keeping, Keeps}
use Rattle.rm_node.specs.Noded.{Noded}
use Rattle.rm_node.specs.declared.call.Call.{Call}
use Rattle.rm_node.specs.declared.call.Call.TheVariants as call
use Rattle.rm_node.specs.declared.error.NodeError.{NodeError}
use Rattle.rm_node.specs.declared.error.NodeError.TheVariants as error
use Rattle.rm_node.specs.declared.step.Reaction.{Reaction}
use Rattle.rm_serve.specs.Reacts.{Reacts, broke, crashed, reacted, slept, starving, took}
use Rattle.rm_serve.specs.Steps.{IsReady, IsUp, LeavesUp, MakesAll, Place, Stays, Step, place_of}
use Rattle.rm_serve.proofs.StepLemmas.{kept-by, leaves-up, no-step, one-step, ready-up}

-- what the node says of what came, for all terms of a node's own, and whatever it keeps
abbrev pub Received : Bool → Place → Place → ℕ → Result Message Refusal → Ended → Type 0
Received tells x z now content ended = (terms : Terms) → AreOwn terms → (kept : Keeping) → Keeps x.node.kept kept
    → Does tells true x.told z.told x.node z.node (answer_of terms x.node now kept (Receive content)) ended

-- a call with bytes
abbrev pub Hears : Bool → Place → Place → ℕ → Bor (List ℕ) → Ended → Type 0
Hears tells x z now bytes ended = Steps tells x.told z.told x.node z.node now (call.Receive bytes) ended

-- bytes were read as this, and the node says so of it
pub record Reads (tells : Bool) (x z : Place) (now : ℕ) (bytes : List ℕ) (ended : Ended) : Type 0 where
  pub content : Result Message Refusal
  pub read : IsReadAs bytes content
  pub does : Received tells x z now content ended

-- they were where there was an answer
reads : (tells : Bool) (x z : Place) (now : ℕ) (bytes : Bor (List ℕ)) (ended : Ended)
    → Hears tells x z now bytes ended → is_answered ended ≡ true → Reads tells x z now bytes.now ended
reads tells x z now bytes ended steps answered =
    let is = (steps.asked answered).1 in
    record {
      content = is.content;
      read = is.read;
      does = λ terms own kept keeps. steps.does terms own kept keeps (Receive is.content)
          (record { content = is.content; read = is.read; is = refl });
    }

-- else nothing happened
stays : (tells : Bool) (x z : Place) (now : ℕ) (bytes : Bor (List ℕ)) (ended : Ended)
    → Hears tells x z now bytes ended → is_handed ended ≡ false → is_broken ended ≡ false → Stays tells x z
stays tells x z now bytes ended steps handed broken =
    let rests = steps.rests handed broken in
    record { node = rests.node; told = rests.disk }

-- ---- a call of the node

-- the errors that a call with bytes may answer
abbrev pub IsOfHearing : Result Reaction NodeError → Type 0
IsOfHearing r = IfErr r (λ (e : NodeError). (e ≡ error.Memory) ⊎ (e ≡ error.Disk) ⊎ (e ≡ error.Down))

none-refused : (cause : _) → IsOfHearing (Err (error.Refused cause)) → ⊥
none-refused cause (inl e) = absurd cc
none-refused cause (inr (inl e)) = absurd cc
none-refused cause (inr (inr e)) = absurd cc

pub reacts : (tells : Bool) (x z : Place) (now : ℕ) (bytes : Bor (List ℕ)) (r : Result Reaction NodeError)
    → Hears tells x z now bytes (reaction_end r) → IsOfHearing r
    → (steps : List Step) × MakesAll tells x z steps × Reacts now bytes.now steps r
reacts tells x z now bytes (Ok reaction) steps kinds =
    let h = reads tells x z now bytes _ steps refl in (
      took now h.content reaction.verdict reaction.reply reaction.outs ∷ [],
      one-step tells x z (took now h.content reaction.verdict reaction.reply reaction.outs) steps.runs h.does,
      reacted h.content reaction.verdict reaction.reply reaction.outs h.read,
    )
reacts tells x z now bytes (Err error.Disk) steps kinds =
    let h = reads tells x z now bytes _ steps refl in
    (broke now h.content ∷ [], one-step tells x z (broke now h.content) steps.runs h.does, crashed h.content h.read)
reacts tells x z now bytes (Err error.Down) steps kinds =
    ([], no-step tells x z (stays tells x z now bytes _ steps refl refl), slept)
reacts tells x z now bytes (Err error.Memory) steps kinds =
    ([], no-step tells x z (stays tells x z now bytes _ steps refl refl), starving)
reacts tells x z now bytes (Err (error.Refused cause)) steps kinds = absurd (none-refused cause kinds)

-- some terms of a node's own
some-terms : ThereAreOwnTerms → (terms : Terms) × AreOwn terms
some-terms there =
    let t = there (λ ms m. false) (λ m. Ok m) in
    (t.0, t.3)

-- a call as it is, where the node is up or down
abbrev pub Way : Bool → Bool → Place → Place → Answer → Ended → Type 0
Way down tells x z answer ended = MatchBool down (Sleeps x.told z.told x.node z.node ended)
    (Called tells true x.told z.told x.node z.node answer ended)

ready-by : (down tells : Bool) (x z : Place) (answer : Answer) (ended : Ended)
    → x.node.stored.journal.is_down ≡ down
    → Does tells true x.told z.told x.node z.node answer ended → IsReady tells x → IsReady tells z
ready-by true tells x z answer ended is does ready = λ t up.
    let slept : Sleeps x.told z.told x.node z.node ended = subst (λ (b : Bool). Way b tells x z answer ended) is does in
    let down : z.node.stored.journal.is_down ≡ true =
    ap (λ (n : Noded). n.stored.journal.is_down) slept.node ∙ is in
    absurd cc
ready-by false tells x z answer ended is does ready = ready-up tells true x z answer ended is does ready

ready-read : ThereAreOwnTerms → (tells : Bool) (x z : Place) (now : ℕ) (bytes : Bor (List ℕ)) (ended : Ended)
    → Hears tells x z now bytes ended → is_answered ended ≡ true → IsReady tells x → IsReady tells z
ready-read there tells x z now bytes ended steps answered ready =
    let h = reads tells x z now bytes ended steps answered in
    let t = some-terms there in
    let kept = steps.runs.keeping in
    ready-by x.node.stored.journal.is_down tells x z _ ended refl (h.does t.0 t.1 kept.0 kept.1) ready

ready-still : (tells : Bool) (x z : Place) → Stays tells x z → IsReady tells x → IsReady tells z
ready-still tells x z still ready = λ t up.
    let was = subst (λ (n : Noded). n.stored.journal.is_down ≡ false) still.node up in
    let before = ready t was in (
      before.0,
      subst (λ (n : Noded). Holds before.0 z.told.past n.stored) (sym still.node)
          (subst (λ (d : Told). Holds before.0 d.past x.node.stored) (sym (still.told t)) before.1),
    )

-- a node is ready after it
pub ready-after : ThereAreOwnTerms → (tells : Bool) (x z : Place) (now : ℕ) (bytes : Bor (List ℕ))
    (r : Result Reaction NodeError) → Hears tells x z now bytes (reaction_end r) → IsReady tells x → IsReady tells z
ready-after there tells x z now bytes (Ok reaction) steps ready =
    ready-read there tells x z now bytes _ steps refl ready
ready-after there tells x z now bytes (Err error.Disk) steps ready =
    ready-read there tells x z now bytes _ steps refl ready
ready-after there tells x z now bytes (Err (error.Refused cause)) steps ready =
    ready-read there tells x z now bytes _ steps refl ready
ready-after there tells x z now bytes (Err error.Memory) steps ready =
    ready-still tells x z (stays tells x z now bytes _ steps refl refl) ready
ready-after there tells x z now bytes (Err error.Down) steps ready =
    ready-still tells x z (stays tells x z now bytes _ steps refl refl) ready

-- it is up or down as it was, where all went well
pub up-after : ThereAreOwnTerms → (tells : Bool) (x z : Place) (now : ℕ) (bytes : Bor (List ℕ))
    (r : Result Reaction NodeError) → Hears tells x z now bytes (reaction_end r)
    → OnOk r (z.node.stored.journal.is_down ≡ x.node.stored.journal.is_down)
up-after there tells x z now bytes (Ok reaction) steps =
    let h = reads tells x z now bytes _ steps refl in
    let t = some-terms there in
    let kept = steps.runs.keeping in
    kept-by x.node.stored.journal.is_down tells true x z _ _ (h.does t.0 t.1 kept.0 kept.1) refl
up-after there tells x z now bytes (Err e) steps = tt

was-asleep : (down : Bool) → MatchBool down (WasDown ≡ WasDown) (WasDown ≢ WasDown) → down ≡ true
was-asleep true h = refl
was-asleep false h = absurd (h refl)

-- it was down, where it answers so
pub down-after : (tells : Bool) (x z : Place) (now : ℕ) (bytes : Bor (List ℕ)) (r : Result Reaction NodeError)
    → Hears tells x z now bytes (reaction_end r) → r ≡ Err error.Down → x.node.stored.journal.is_down ≡ true
down-after tells x z now bytes r steps e =
    was-asleep x.node.stored.journal.is_down
    (subst (λ (r : Result Reaction NodeError). MatchBool x.node.stored.journal.is_down (reaction_end r ≡ WasDown)
    (reaction_end r ≢ WasDown)) e steps.down)

-- what any call leaves of a node that was up
pub leaves-after : ThereAreOwnTerms → (tells : Bool) (first now : Told) (old new : Noded) (moment : ℕ) (call : Call)
    (asked : Asked) (ended : Ended) → Asks call asked → IsUp tells (place_of first old)
    → Steps tells first now old new moment call ended → LeavesUp tells (place_of now new) ended
leaves-after there tells first now old new moment call asked ended asks is steps =
    let t = some-terms there in
    let kept = steps.runs.keeping in
    leaves-up tells (is_connected call) (place_of first old) (place_of now new)
    (answer_of t.0 old moment kept.0 asked) ended is (steps.does t.0 t.1 kept.0 kept.1 asked asks)
