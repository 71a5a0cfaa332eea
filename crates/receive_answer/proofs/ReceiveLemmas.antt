-- The answer to a message, by its early verdict and by whether its records fit.
use Rattle.std.proofs.Common.{◌≡◌, ℕ, Bool, true, false, cond, List, [], ◌∷◌, ◌++◌, refl, sym, ap, ◌∙◌}
use Rattle.std.proofs.Common.{Option, Some, None}
use Rattle.std.proofs.lemmas.List.{append-nil}
use Rattle.std.specs.Prelude.{not, IfOk, Result, Ok, Err}
use Rattle.std.specs.Option.{option_or}
use Rattle.rm_base.specs.declared.failures.Memory.{Memory}
use Rattle.rm_base.specs.declared.message.Behaviour.{Behaviour}
use Rattle.rm_message.specs.declared.message.Message.{Message}
use Rattle.rm_message.specs.declared.refusal.FaultKind.{FaultKind}
use Rattle.rm_message.specs.declared.refusal.FaultKind.TheVariants.{StoreFull}
use Rattle.record_batch.specs.Fact.{Fact}
use Rattle.message_writer.specs.Faults.{fault_of}
use Rattle.rm_protocol.specs.Calls.{Answer, adds_and_moves, fault_block, judged, receive, refusal_of}
use Rattle.rm_protocol.specs.Rows.{rows}
use Rattle.rm_protocol.specs.Said.{said}
use Rattle.rm_protocol.specs.Terms.{Terms}
use Rattle.rm_protocol.specs.Verdict.{early_tests, first_held, has_room, refuses_create, verdict}
use Rattle.rm_protocol.specs.VerdictLemmas.{none-held}
use Rattle.node_laws.specs.OwnTerms.{AreOwn}
use Rattle.receive_answer.specs.Tried.{Tried}
use Rattle.receive_answer.specs.Untold.{done_of, early_kind, full_of, judged_as, told, urging}

abbrev Tests : Type 0
Tests = List (Bool × FaultKind)

held-both : (xs ys : Tests) → first_held (xs ++ ys) ≡ option_or (first_held xs) (first_held ys)
held-both [] ys = refl
held-both (x ∷ xs) ys =
    elim x.0 as (λ b. cond b (Some x.1) (first_held (xs ++ ys))
    ≡ option_or (cond b (Some x.1) (first_held xs)) (first_held ys))
    [ true ↦ refl | false ↦ held-both xs ys ]

-- without a verdict a CreateSequence may be granted
pub none-refuses : (r : List Fact) (now : ℕ) (m : Message) → early_kind r now m ≡ None
    → refuses_create r m.addressing.message_id m.body ≡ false
unfolding early_kind
none-refuses r now m e = (none-held (early_tests r now m) e).1.1.1.1.1.0

verdict-both : (terms : Terms) (r : List Fact) (place now : ℕ) (b : Behaviour) (m : Message)
    → verdict terms r place now b m ≡ option_or (first_held (early_tests r now m))
    (cond (not (has_room terms place (rows terms now b m r))) (Some StoreFull) None)
verdict-both terms r place now b m =
    held-both (early_tests r now m) ((not (has_room terms place (rows terms now b m r)), StoreFull) ∷ [])

verdict-is : (terms : Terms) (r : List Fact) (place now : ℕ) (b : Behaviour) (m : Message)
    (early : Option FaultKind) (fits : Bool) → first_held (early_tests r now m) ≡ early
    → has_room terms place (rows terms now b m r) ≡ fits
    → verdict terms r place now b m ≡ option_or early (cond (not fits) (Some StoreFull) None)
verdict-is terms r place now b m early fits e f =
    verdict-both terms r place now b m
    ∙ ap (λ o. option_or o (cond (not (has_room terms place (rows terms now b m r))) (Some StoreFull) None)) e
    ∙ ap (λ x. option_or early (cond (not x) (Some StoreFull) None)) f

-- with an early verdict: the fault of that kind
pub receive-early : (terms : Terms) (r : List Fact) (place now : ℕ) (b : Behaviour) (m : Message) (kind : FaultKind)
    → AreOwn terms → first_held (early_tests r now m) ≡ Some kind
    → receive terms r place now b (Ok m)
    ≡ judged_as kind (fault_of (refusal_of m kind) (fault_block r now m kind))
receive-early terms r place now b m kind own e =
    ap (judged terms r now b m) (verdict-is terms r place now b m (Some kind) _ e refl)
    ∙ ap (judged_as kind) (own.fault (refusal_of m kind) (fault_block r now m kind))

-- without one, where the records don't fit the store: StoreFull
pub receive-full : (terms : Terms) (r : List Fact) (place now : ℕ) (b : Behaviour) (m : Message)
    → AreOwn terms → early_kind r now m ≡ None
    → has_room terms place (rows terms now b m r) ≡ false
    → receive terms r place now b (Ok m)
    ≡ judged_as StoreFull (fault_of (refusal_of m StoreFull) None)
unfolding early_kind
receive-full terms r place now b m own e f =
    ap (judged terms r now b m) (verdict-is terms r place now b m None false e f)
    ∙ ap (judged_as StoreFull) (own.fault (refusal_of m StoreFull) None)

-- and where they fit: the records, and what is said then
pub receive-taken : (terms : Terms) (r : List Fact) (place now : ℕ) (b : Behaviour) (m : Message)
    → early_kind r now m ≡ None → has_room terms place (rows terms now b m r) ≡ true
    → receive terms r place now b (Ok m) ≡ adds_and_moves r (rows terms now b m r) (urging r m)
    (λ after. said after now m)
unfolding early_kind
receive-taken terms r place now b m e f =
    ap (judged terms r now b m) (verdict-is terms r place now b m None true e f)

all-records : (r d : List Fact) → d ≡ [] → r ++ d ≡ r
all-records r d none = ap (λ ds. r ++ ds) none ∙ append-nil r

fault-answer : List Fact → ℕ → Message → FaultKind → Answer
fault-answer r now m kind = judged_as kind (fault_of (refusal_of m kind) (fault_block r now m kind))

-- where nothing is ahead, the answer to a message with an early verdict
pub told-early : (terms : Terms) (r d : List Fact) (place now : ℕ) (b : Behaviour) (m : Message) (kind : FaultKind)
    → AreOwn terms → d ≡ [] → Some kind ≡ first_held (early_tests (r ++ d) now m)
    → judged_as kind (fault_of (refusal_of m kind) (fault_block (r ++ d) now m kind)) ≡ told terms r place now b m
unfolding told fault-answer
told-early terms r d place now b m kind own none e =
    let same = all-records r d none in
    ap (λ records. fault-answer records now m kind) same
    ∙ sym (receive-early terms r place now b m kind own
    (sym (e ∙ ap (λ records. first_held (early_tests records now m)) same)))

-- and that there is none
pub none-early : (r d : List Fact) (now : ℕ) (m : Message) → d ≡ []
    → None ≡ first_held (early_tests (r ++ d) now m) → early_kind r now m ≡ None
unfolding early_kind
none-early r d now m none e =
    sym (e ∙ ap (λ records. first_held (early_tests records now m)) (all-records r d none))

room-of : (r d : List Fact) (place now : ℕ) (b : Behaviour) (m : Message) (fits : Bool)
    → Tried r d place now b m fits → (terms : Terms) → AreOwn terms
    → has_room terms place (rows terms now b m r) ≡ fits
room-of r d place now b m fits tried terms own =
    ap (has_room terms place) (sym (tried.added terms own)) ∙ sym (tried.told terms own)

-- the answer where they fit
pub answer-taken : (r d : List Fact) (place now : ℕ) (b : Behaviour) (m : Message) (fits : Bool)
    → Tried r d place now b m fits → fits ≡ true → (terms : Terms) → AreOwn terms
    → told terms r place now b m ≡ done_of r d now m
unfolding told done_of
answer-taken r d place now b m fits tried is terms own =
    receive-taken terms r place now b m tried.early (room-of r d place now b m fits tried terms own ∙ is)
    ∙ ap (λ ds. adds_and_moves r ds (urging r m) (λ after. said after now m)) (sym (tried.added terms own))

-- and where they don't
pub answer-full : (r d : List Fact) (place now : ℕ) (b : Behaviour) (m : Message) (fits : Bool)
    → Tried r d place now b m fits → fits ≡ false → (terms : Terms) → AreOwn terms
    → told terms r place now b m ≡ full_of m
unfolding told full_of
answer-full r d place now b m fits tried is terms own =
    receive-full terms r place now b m own tried.early (room-of r d place now b m fits tried terms own ∙ is)

-- the answer to a message, written out
pub told-is : (terms : Terms) (r : List Fact) (place now : ℕ) (b : Behaviour) (m : Message)
    → told terms r place now b m ≡ receive terms r place now b (Ok m)
unfolding told
told-is terms r place now b m = refl

-- the records of an answer
pub done-delta : (r d : List Fact) (now : ℕ) (m : Message) → (done_of r d now m).delta ≡ d
unfolding done_of
done-delta r d now m = refl

-- whether the records fit the store, where that can be told
pub tried-by : (r d : List Fact) (place now : ℕ) (b : Behaviour) (m : Message) (result : Result Bool Memory)
    → early_kind r now m ≡ None → ((terms : Terms) → AreOwn terms → d ≡ rows terms now b m r)
    → ((terms : Terms) → AreOwn terms → IfOk result (λ fits. fits ≡ has_room terms place d))
    → IfOk result (λ fits. Tried r d place now b m fits)
tried-by r d place now b m (Ok fits) early added room = record { early = early; added = added; told = room }
tried-by r d place now b m (Err e) early added room = tt
