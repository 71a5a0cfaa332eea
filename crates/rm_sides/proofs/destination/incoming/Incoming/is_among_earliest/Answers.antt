use Rattle.std.proofs.Common.{◌≡◌, ◌≤◌, ◌-◌, ◌∙◌, ◌||◌, ℕ, [], true, false, take, sym, ap}
use Rattle.rm_sides.specs.Ranges.Ranges.{IsCanonical, count_of, in_ranges}
use Rattle.rm_base.specs.NumberSet.{has_number}
use Rattle.rm_sides.specs.Destination.Incoming.{Sequence, held, is_loose}
use Rattle.rm_sides.specs.Destination.Kept.{gone_by}
use Rattle.rm_sides.specs.Destination.LooseLemmas.{numbers-there}
use Rattle.rm_sides.specs.Destination.Messages.{items_of, numbers_of, ranges_onto}
use Rattle.rm_sides.proofs.DestinationLemmas.ForgetLemmas.{earliest-has}
use Rattle.rm_sides.proofs.DestinationLemmas.KeptLemmas.{gone-loose}
use Rattle.rm_sides.proofs.destination.incoming.Incoming.is_among_earliest.Goals as goal

pub returns-then-has : goal.returns-then-has
returns-then-has c =
    let inside = c.self.inside in
    let loose : is_loose inside.behaviour ≡ true =
    ap (λ (s : Sequence). is_loose s.facts.behaviour) c.self.view_is ∙ c.requires.loose in
    let came = inside.arrivals.messages in
    let gone = gone_by (is_loose inside.behaviour) inside.gone inside.purged.ranges in
    let is : gone ≡ inside.purged.ranges =
    gone-loose (is_loose inside.behaviour) inside.gone inside.purged.ranges loose in
    let canonical : IsCanonical inside.purged.ranges = c.ranges-purged.ensures.canonical in
    let numbers = numbers-there inside.numbers.ranges gone came c.ranges-numbers.ensures.canonical
    c.self.invariant.all.same in
    let all : in_ranges (ranges_onto [] (take inside.cursor (numbers_of (items_of inside.purged.ranges came))))
    c.args.number
    ≡ (in_ranges inside.purged.ranges c.args.number
    || has_number (numbers_of (take (inside.cursor - count_of inside.purged.ranges) came)) c.args.number) =
    earliest-has c.range_is_added.ensures c.same_numbers_same_ranges.ensures inside.purged.ranges came inside.cursor
    c.args.number canonical (c.self.invariant.set loose).consumed numbers in
    let seen : in_ranges (ranges_onto [] (take inside.cursor (numbers_of (items_of inside.purged.ranges came))))
    c.args.number
    ≡ in_ranges (ranges_onto [] (take c.args.self.now.facts.cursor (held c.args.self.now.facts))) c.args.number =
    ap (λ rs. in_ranges (ranges_onto [] (take inside.cursor (numbers_of (items_of rs came)))) c.args.number) (sym is)
    ∙ ap (λ (s : Sequence). in_ranges (ranges_onto [] (take s.facts.cursor (held s.facts))) c.args.number)
    c.self.view_is in
    c.if-has.true
    ∙ sym (ap (λ b. b || has_number (numbers_of (take (inside.cursor - count_of inside.purged.ranges) came))
    c.args.number) (sym c.has.ensures ∙ c.if-has.true))
    ∙ sym all
    ∙ seen

pub returns-else-has : goal.returns-else-has
returns-else-has c =
    let inside = c.self.inside in
    let loose : is_loose inside.behaviour ≡ true =
    ap (λ (s : Sequence). is_loose s.facts.behaviour) c.self.view_is ∙ c.requires.loose in
    let came = inside.arrivals.messages in
    let gone = gone_by (is_loose inside.behaviour) inside.gone inside.purged.ranges in
    let is : gone ≡ inside.purged.ranges =
    gone-loose (is_loose inside.behaviour) inside.gone inside.purged.ranges loose in
    let canonical : IsCanonical inside.purged.ranges = c.ranges-purged.ensures.canonical in
    let numbers = numbers-there inside.numbers.ranges gone came c.ranges-numbers.ensures.canonical
    c.self.invariant.all.same in
    let all : in_ranges (ranges_onto [] (take inside.cursor (numbers_of (items_of inside.purged.ranges came))))
    c.args.number
    ≡ (in_ranges inside.purged.ranges c.args.number
    || has_number (numbers_of (take (inside.cursor - count_of inside.purged.ranges) came)) c.args.number) =
    earliest-has c.range_is_added.ensures c.same_numbers_same_ranges.ensures inside.purged.ranges came inside.cursor
    c.args.number canonical (c.self.invariant.set loose).consumed numbers in
    let seen : in_ranges (ranges_onto [] (take inside.cursor (numbers_of (items_of inside.purged.ranges came))))
    c.args.number
    ≡ in_ranges (ranges_onto [] (take c.args.self.now.facts.cursor (held c.args.self.now.facts))) c.args.number =
    ap (λ rs. in_ranges (ranges_onto [] (take inside.cursor (numbers_of (items_of rs came)))) c.args.number) (sym is)
    ∙ ap (λ (s : Sequence). in_ranges (ranges_onto [] (take s.facts.cursor (held s.facts))) c.args.number)
    c.self.view_is in
    c.is_early.ensures
    ∙ ap (λ n. has_number (numbers_of (take (inside.cursor - n) came)) c.args.number) c.count.ensures
    ∙ sym (ap (λ b. b || has_number (numbers_of (take (inside.cursor - count_of inside.purged.ranges) came))
    c.args.number) (sym c.has.ensures ∙ c.if-has.false))
    ∙ sym all
    ∙ seen
