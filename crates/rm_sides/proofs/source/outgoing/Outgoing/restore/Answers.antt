use Rattle.std.proofs.Common.{◌≡◌, ◌+◌, ◌≤◌, rules, length, ap, arith}
use Rattle.std.proofs.lemmas.Bool.Decides.{nat_tests}
use Rattle.rm_sides.specs.Ranges.Ranges.{IsCanonical, greatest_of, is_between}
use Rattle.rm_sides.specs.Source.Outgoing.{Sequence, accepted_count}
use Rattle.rm_sides.proofs.SourceLemmas.AckedLemmas.{greatest_of-added}
use Rattle.rm_sides.proofs.source.outgoing.Outgoing.restore.Goals as goal

pub invariant_of-self-2 : goal.invariant_of-self-2
invariant_of-self-2 c =
    let old = c.reserve.new.self.ranges in
    let new = c.insert_range.new.self.ranges in
    let n = c.args.upto in
    let seen : c.self.inside.dropped + length c.self.inside.accepted.facts ≡ accepted_count c.args.self.now.facts
    = ap (λ (s : Sequence). accepted_count s.facts) c.self.view_is in
    let adds = c.in_ok-insert_range.ensures.adds in
    let ends = c.ends_are_right.ensures.greatest in
    let kept : IsCanonical old = rw c.reserve.ensures.kept c.self.invariant.canonical in
    let none : greatest_of old ≤ n
    = rw c.reserve.ensures.kept (omega (arith, c.self.invariant.within, c.requires.nothing, seen)) in
    let within : greatest_of new ≤ n
    = greatest_of-added old new (is_between 1 n) n adds (ends old kept) (ends new adds.canonical) none
    (λ k there. grind (arith, nat_tests, there)) in
    let more : c.self.inside.ranges_claimed + 1 ≤ c.in_ok-room.room = search rules in
    record {
      canonical = adds.canonical;
      within = omega (arith, within);
      few = omega (arith, seen, c.requires.nothing, c.requires.within);
      payloads_fit = c.self.invariant.payloads_fit;
      ranges_fit = omega (arith, more, c.insert_range.ensures.spare, c.in_ok-reserve.ensures.enough);
    }
