use Rattle.std.proofs.Common.{subst, sym, ℕ, List}
use Rattle.std.specs.List.Sorted.{IsPermutation}
use Rattle.rm_base.specs.declared.message.Binding.{Binding}
use Rattle.rm_wire.specs.Soap11.Lift.{AreNumbers}
use Rattle.rm_wire.proofs.Soap11Lemmas.Numbers.{first_from}
use Rattle.rm_wire.proofs.soap11.prefixes.first_free.Goals as goal

pub returns : goal.returns
returns c =
    let are = subst (λ (l : List Binding). AreNumbers l c.in_ok-numbers.numbers.items) c.as_slice.ensures
    c.in_ok-numbers.ensures in
    first_from c.args.scope.now c.in_ok-numbers.numbers.items c.as_slice-2.result.now c.first_gap.result
    c.first_gap.type_inv are
    (subst (λ (l : List ℕ). IsPermutation c.in_ok-numbers.numbers.items l) (sym c.as_slice-2.ensures.value)
    c.in_ok-sort.ensures.permutation) c.first_gap.ensures.free c.first_gap.ensures.least
