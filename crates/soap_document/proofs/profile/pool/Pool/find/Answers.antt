use Rattle.std.proofs.Common.{◌≡◌, ◌<◌, ℕ, List, Bool, true, false, not, Option, Some, IfSome, length, get_or, refl}
use Rattle.std.proofs.Common.{sym, ap, subst, ◌∙◌, arith}
use Rattle.std.proofs.lemmas.Slice.Eq.{bytes_eq-Decides}
use Rattle.std.specs.Str.{bytes_eq}
use Rattle.soap_document.specs.Profile.Pool.{Holds}
use Rattle.soap_document.specs.declared.profile.pool.Met.{Met}
use Rattle.soap_document.proofs.profile.pool.Pool.find.Goals as goal

turned : (b : Bool) → not b ≡ false → b ≡ true
turned true e = refl
turned false e = cc

equal : (bs cs : List ℕ) → not (bytes_eq bs cs) ≡ false → bs ≡ cs
equal bs cs e = (bytes_eq-Decides bs cs).0 (turned (bytes_eq bs cs) e)

pub returns : goal.returns
returns c = λ resolve h.
    let slots = c.args.self.now.slots.items in
    let i = c.slot_of.result in
    let met = c.in-Some-Some.met in
    let found = c.in-Some-Some.ensures.lookup.3 in
    let within : i < length slots =
    subst (λ (xs : List (Option Met)). i < length xs) c.deref.ensures.value found.0 in
    let at : get_or slots i (Some met) ≡ Some met =
    ap (λ (xs : List (Option Met)). get_or xs i (Some met)) (sym c.deref.ensures.value) ∙ sym (found.1 (Some met))
    ∙ c.in-Some-Some.field-0-is in
    let held : Holds resolve c.args.self.now.era met =
    subst (λ (slot : Option Met). IfSome slot (Holds resolve c.args.self.now.era)) at (h.each i (Some met) within) in
    let same : met.written ≡ c.args.written.now =
    sym c.as_slice.ensures ∙ equal c.as_slice.result.now c.args.written.now (sym c.ne.ensures ∙ c.if-ne.false) in
    ap resolve (sym same) ∙ held.resolved (omega arith)
