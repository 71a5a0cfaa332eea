-- The records that an answer adds may come next, whatever the network and whatever texts are read as.
use Rattle.std.proofs.Common.{◌≡◌, ℕ, Bool, true, List, [], map, refl, sym, ap, ◌∙◌, subst, inl}
use Rattle.std.specs.Prelude.{IfOk, Result, Ok, Err}
use Rattle.rm_base.specs.declared.message.Behaviour.{Behaviour}
use Rattle.rm_message.specs.declared.message.Message.{Message}
use Rattle.rm_message.specs.declared.refusal.Refusal.{Refusal}
use Rattle.rm_base.specs.declared.failures.Memory.{Memory}
use Rattle.record_batch.specs.declared.record.Record.{Record}
use Rattle.record_batch.specs.Fact.{Fact, fact_of}
use Rattle.record_batch.specs.Sequences.Fits.{all_fit}
use Rattle.rm_protocol.specs.Calls.{Answer}
use Rattle.rm_protocol.specs.Next.{EachMayComeNext, HasNumbers}
use Rattle.rm_protocol.specs.Terms.{Terms, EndsLater, ReadsBack}
use Rattle.node_laws.specs.OwnTerms.{AreOwn, OwnAreTerms, ThereAreOwnTerms}
use Rattle.node_laws.specs.declared.answers.answer.Answer.{Answer as CodeAnswer}
use Rattle.node_laws.specs.Answers.Answers.{MayBeStored}
use Rattle.receive_answer.specs.Tried.{Tried}
use Rattle.receive_answer.proofs.ReceiveLemmas.{answer-taken, done-delta, told-is}

-- what is known of a node's own terms
pub record OwnLaws : Type 0 where
  pub own : OwnAreTerms
  pub there : ThereAreOwnTerms
  pub next : EachMayComeNext

-- terms of a node's own, whose durations end after they begin
pub record Chosen : Type 0 where
  pub terms : Terms
  pub own : AreOwn terms
  pub later : EndsLater terms

pub chosen : OwnLaws → Chosen
chosen laws =
    let there = laws.there (λ ms m. true) (λ m. Ok m) in
    let back : ReadsBack there.0 =
    λ m. inl (ap (λ (read : Message → Result Message Refusal). read m) there.2) in
    record { terms = there.0; own = there.3; later = (laws.own there.0 there.3 back).deadline }

-- the records that a message adds may come next, where they fit the store
pub added-fit : (laws : OwnLaws) (r d : List Fact) (place now : ℕ) (b : Behaviour) (m : Message) (fits : Bool)
    → all_fit [] r ≡ true → HasNumbers m → Tried r d place now b m fits → fits ≡ true
    → all_fit r d ≡ true
added-fit laws r d place now b m fits sound numbers tried is =
    let t = chosen laws in
    subst (λ (ds : List Fact). all_fit r ds ≡ true)
    (ap (λ (a : Answer). a.delta)
    (sym (told-is t.terms r place now b m) ∙ answer-taken r d place now b m fits tried is t.terms t.own)
    ∙ done-delta r d now m)
    ((laws.next t.terms r place t.later sound).receive_ now b (Ok m) numbers)

-- an answer without records may be stored
pub nothing-stored : (r : List Fact) (place : ℕ) (result : Result CodeAnswer Memory)
    → IfOk result (λ a. a.batch.items ≡ []) → IfOk result (λ a. MayBeStored r place (map fact_of a.batch.items))
nothing-stored r place (Ok a) h =
    subst (λ (items : List Record). MayBeStored r place (map fact_of items)) (sym h)
    (record { fit = refl; room = inl refl; typed = tt })
nothing-stored r place (Err e) h = tt

-- and an answer with records that may be stored may be
pub stored-by : (r d : List Fact) (place : ℕ) (result : Result CodeAnswer Memory) → MayBeStored r place d
    → IfOk result (λ a. map fact_of a.batch.items ≡ d)
    → IfOk result (λ a. MayBeStored r place (map fact_of a.batch.items))
stored-by r d place (Ok a) h e = subst (MayBeStored r place) (sym e) h
stored-by r d place (Err e) h _ = tt
