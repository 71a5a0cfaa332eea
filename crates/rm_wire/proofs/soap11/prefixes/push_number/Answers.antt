use Rattle.std.proofs.Common.{◌∷◌, ◌++◌, [], subst, sym, ◌∙◌}
use Rattle.rm_wire.specs.Soap11.Lift.{AreNumbers}
use Rattle.rm_wire.proofs.Soap11Lemmas.Numbers.{none_more, some_more, one_number, no_number}
use Rattle.rm_wire.proofs.soap11.prefixes.push_number.Goals as goal

pub returns-in_default : goal.returns-in_default
returns-in_default c = λ before are.
    none_more c.args.binding.now
    (λ k low is. no_number c.number_in.result k c.in_default.is
    (c.number_in.ensures.all k low (c.as_slice.ensures ∙ is))) before c.args.numbers.now.items are

pub returns : goal.returns
returns c = λ before are.
    subst (λ l. AreNumbers (before ++ c.args.binding.now ∷ []) l) (sym c.in_ok-push.ensures.items)
    (some_more c.args.binding.now c.in-Some.number (sym c.as_slice.ensures ∙ c.in-Some.ensures.some)
    (λ k low is. one_number c.number_in.result c.in-Some.number k c.in-Some.is
    (c.number_in.ensures.all k low (c.as_slice.ensures ∙ is))) before c.args.numbers.now.items are)
