use Rattle.std.proofs.Common.{◌≡◌, ◌∙◌, ℕ, false, rules, List, length, sym, ap, subst, arith}
use Rattle.std.proofs.lemmas.Bool.Decides.{nat_tests}
use Rattle.std.proofs.lemmas.Fn.{filter_same}
use Rattle.std.specs.Prelude.{nat_lt}
use Rattle.rm_base.specs.NumberSet.{has_number}
use Rattle.rm_base.specs.declared.message.Payload.{Payload}
use Rattle.rm_sides.specs.Destination.ItemLemmas.{has_number-above}
use Rattle.rm_sides.specs.Destination.Kept.{Came}
use Rattle.rm_sides.specs.Destination.Messages.{AreOnce, above, numbers_of}
use Rattle.rm_sides.proofs.DestinationLemmas.ForgetLemmas.{once-above}
use Rattle.rm_sides.proofs.destination.arrivals.Arrivals.forget.Goals as goal

pub place_all-requires-clause-room : goal.place_all-requires-clause-room
place_all-requires-clause-room c =
    omega (
      arith,
      ap length c.as_slice.ensures.value,
      c.retain.ensures.bound,
      c.clear.ensures.capacity,
      c.self.invariant.count,
    )

pub place_all-requires-clause-from_one : goal.place_all-requires-clause-from_one
place_all-requires-clause-from_one c =
    let old = c.self.inside.came.items in
    let none = has_number-above c.args.upto 0 old in
    let left : c.retain.new.self.items ≡ above c.args.upto old =
    filter_same _ _ _ (λ x b f' k. search rules) _ _ c.retain.ensures.filtered in
    ap (λ ms. has_number (numbers_of ms) 0) (c.as_slice.ensures.value ∙ left)
    ∙ grind (arith, nat_tests, none)

pub place_all-requires-clause-once : goal.place_all-requires-clause-once
place_all-requires-clause-once c =
    let old = c.self.inside.came.items in
    let left : c.retain.new.self.items ≡ above c.args.upto old =
    filter_same _ _ _ (λ x b f' k. search rules) _ _ c.retain.ensures.filtered in
    subst AreOnce (sym (c.as_slice.ensures.value ∙ left)) (once-above c.args.upto old c.self.invariant.once)

pub returns : goal.returns
returns c =
    let left : c.retain.new.self.items ≡ above c.args.upto c.self.inside.came.items =
    filter_same _ _ _ (λ x b f' k. search rules) _ _ c.retain.ensures.filtered in
    left ∙ ap (λ (s : Came). above c.args.upto s.messages) c.self.view_is
