use Rattle.std.proofs.Common.{◌≡◌, ◌∙◌, ℕ, false, rules, length, sym, ap, subst, arith}
use Rattle.std.proofs.lemmas.Fn.{filter_same}
use Rattle.rm_base.specs.NumberSet.{has_number}
use Rattle.rm_base.specs.declared.message.Payload.{Payload}
use Rattle.rm_sides.specs.Destination.Kept.{Came}
use Rattle.rm_sides.specs.Destination.Messages.{AreOnce, numbers_of, without}
use Rattle.rm_sides.proofs.DestinationLemmas.ForgetLemmas.{no-zero-came, none-without, once-without, without-filter}
use Rattle.rm_sides.proofs.destination.arrivals.Arrivals.forget_all.Goals as goal

pub place_all-requires-clause-room : goal.place_all-requires-clause-room
place_all-requires-clause-room c =
    omega (
      arith,
      ap length c.as_slice.ensures.value,
      c.retain.ensures.bound,
      c.clear.ensures.capacity,
      c.self.invariant.count,
    )

pub place_all-requires-clause-from_one : goal.place_all-requires-clause-from_one
place_all-requires-clause-from_one c =
    let old = c.self.inside.came.items in
    let left : c.retain.new.self.items ≡ without c.args.gone.now.ranges old =
    filter_same _ _ _ (λ x b f' k. search rules) _ _ c.retain.ensures.filtered
    ∙ without-filter c.args.gone.now.ranges old in
    ap (λ ms. has_number (numbers_of ms) 0) (c.as_slice.ensures.value ∙ left)
    ∙ none-without c.args.gone.now.ranges 0 old (no-zero-came old c.self.invariant.rising)

pub place_all-requires-clause-once : goal.place_all-requires-clause-once
place_all-requires-clause-once c =
    let old = c.self.inside.came.items in
    let left : c.retain.new.self.items ≡ without c.args.gone.now.ranges old =
    filter_same _ _ _ (λ x b f' k. search rules) _ _ c.retain.ensures.filtered
    ∙ without-filter c.args.gone.now.ranges old in
    subst AreOnce (sym (c.as_slice.ensures.value ∙ left))
    (once-without c.args.gone.now.ranges old c.self.invariant.once)

pub returns : goal.returns
returns c =
    let old = c.self.inside.came.items in
    let left : c.retain.new.self.items ≡ without c.args.gone.now.ranges old =
    filter_same _ _ _ (λ x b f' k. search rules) _ _ c.retain.ensures.filtered
    ∙ without-filter c.args.gone.now.ranges old in
    left ∙ ap (λ (s : Came). without c.args.gone.now.ranges s.messages) c.self.view_is
