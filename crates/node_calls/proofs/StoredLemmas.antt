-- What a call comes to may be stored.
use Rattle.std.proofs.Common.{◌≡◌, ℕ, true, List, [], map, refl, sym, ap, subst, ◌∙◌, inl}
use Rattle.std.specs.Prelude.{Result, Ok, Err, IfOk}
use Rattle.std.specs.List.{AllByRecursion}
use Rattle.rm_base.specs.declared.failures.Memory.{Memory}
use Rattle.node_laws.specs.Sizes.Room.{HasRoom}
use Rattle.node_laws.specs.Sizes.Typed.{IsTyped}
use Rattle.record_batch.specs.Fact.{Fact, fact_of}
use Rattle.rm_protocol.specs.Calls.{Answer}
use Rattle.record_batch.specs.Sequences.Fits.{all_fit}
use Rattle.node_laws.specs.Answers.Answers.{MayBeStored, seen}
use Rattle.node_laws.specs.declared.answers.answer.Answer.{Answer as Given}

pub stored : (r : List Fact) (place : ℕ) (result : Result Given Memory) (answer : Answer)
    → all_fit r answer.delta ≡ true → IfOk result (λ a. seen a ≡ answer)
    → IfOk result (λ a. HasRoom place (map fact_of a.batch.items))
    → IfOk result (λ a. AllByRecursion IsTyped (map fact_of a.batch.items))
    → IfOk result (λ a. MayBeStored r place (map fact_of a.batch.items))
stored r place (Ok a) answer fit is room typed = record {
  fit = subst (λ (d : List Fact). all_fit r d ≡ true) (sym (ap (λ (x : Answer). x.delta) is)) fit;
  room = room;
  typed = typed;
}
stored r place (Err e) answer fit is room typed = tt

-- where it adds nothing, that may be stored
pub stored-nothing : (r : List Fact) (place : ℕ) (result : Result Given Memory) (answer : Answer)
    → answer.delta ≡ [] → IfOk result (λ a. seen a ≡ answer)
    → IfOk result (λ a. MayBeStored r place (map fact_of a.batch.items))
stored-nothing r place (Ok a) answer none is =
    let nothing : map fact_of a.batch.items ≡ [] = ap (λ (x : Answer). x.delta) is ∙ none in
    subst (MayBeStored r place) (sym nothing) (record { fit = refl; room = inl refl; typed = tt })
stored-nothing r place (Err e) answer none is = tt
