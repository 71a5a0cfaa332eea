use Rattle.std.proofs.Common.{◌≡◌, ◌≤◌, ◌-◌, ◌∙◌, ℕ, [], true, length, take, sym, ap, subst, arith}
use Rattle.rm_sides.specs.Ranges.Ranges.{count_of}
use Rattle.rm_sides.specs.Destination.Incoming.{Sequence, first_numbers, held, is_loose}
use Rattle.rm_sides.specs.Destination.Kept.{gone_by}
use Rattle.rm_sides.specs.Destination.LooseLemmas.{AreMessageNumbers, earliest, numbers-there}
use Rattle.rm_sides.specs.Destination.Messages.{items_of, numbers_of, ranges_onto}
use Rattle.rm_sides.proofs.DestinationLemmas.ForgetLemmas.{inbox-all}
use Rattle.rm_sides.proofs.DestinationLemmas.KeptLemmas.{gone-loose}
use Rattle.rm_sides.proofs.destination.incoming.Incoming.earliest_passed.Goals as goal

pub put_first-requires-clause-within : goal.put_first-requires-clause-within
put_first-requires-clause-within c =
    let f = c.args.self.now.facts in
    let inside = c.self.inside in
    let loose : is_loose inside.behaviour ≡ true =
    ap (λ (s : Sequence). is_loose s.facts.behaviour) c.self.view_is ∙ c.requires.loose in
    let purged : inside.purged.ranges ≡ f.purged =
    sym (gone-loose (is_loose inside.behaviour) inside.gone inside.purged.ranges loose)
    ∙ ap (λ (s : Sequence). s.facts.purged) c.self.view_is in
    omega (
      arith,
      ap length c.as_slice.ensures,
      ap (λ (s : Sequence). length s.facts.received) c.self.view_is,
      ap (λ (s : Sequence). s.facts.cursor) c.self.view_is,
      c.count.ensures,
      ap count_of purged,
      inbox-all f c.requires.loose,
      c.requires.reached,
    )

pub put_first-requires-clause-numbers : goal.put_first-requires-clause-numbers
put_first-requires-clause-numbers c =
    let inside = c.self.inside in
    subst (λ ms. AreMessageNumbers (numbers_of ms)) (sym c.as_slice.ensures)
    (numbers-there inside.numbers.ranges (gone_by (is_loose inside.behaviour) inside.gone inside.purged.ranges)
    inside.arrivals.messages c.ranges-numbers.ensures.canonical c.self.invariant.all.same)

pub returns : goal.returns
returns c =
    let f = c.args.self.now.facts in
    let inside = c.self.inside in
    let loose : is_loose inside.behaviour ≡ true =
    ap (λ (s : Sequence). is_loose s.facts.behaviour) c.self.view_is ∙ c.requires.loose in
    let came = inside.arrivals.messages in
    let is : gone_by (is_loose inside.behaviour) inside.gone inside.purged.ranges ≡ inside.purged.ranges =
    gone-loose (is_loose inside.behaviour) inside.gone inside.purged.ranges loose in
    c.put_first.ensures.put
    ∙ ap (λ rs. ranges_onto rs (numbers_of (take (inside.cursor - c.count.result) c.as_slice.result.now)))
    (c.in_ok-reserve.ensures.kept ∙ c.in_ok-numbers.ensures)
    ∙ ap (λ ms. ranges_onto inside.purged.ranges (numbers_of (take (inside.cursor - c.count.result) ms)))
    c.as_slice.ensures
    ∙ ap (λ n. ranges_onto inside.purged.ranges (numbers_of (take (inside.cursor - n) came))) c.count.ensures
    ∙ sym (earliest c.range_is_added.ensures c.same_numbers_same_ranges.ensures inside.purged.ranges came inside.cursor
    c.ranges-purged.ensures.canonical (c.self.invariant.set loose).consumed)
    ∙ ap (λ rs. ranges_onto [] (take inside.cursor (numbers_of (items_of rs came)))) (sym is)
    ∙ ap (λ (s : Sequence). ranges_onto [] (take s.facts.cursor (held s.facts))) c.self.view_is
    ∙ sym (ap (λ b. first_numbers b (held f) f.cursor) c.requires.loose)
