use Rattle.std.proofs.Common.{◌≡◌, ◌≤◌, ◌-◌, ◌+◌, ◌∙◌, ℕ, List, [], false, true, length, take, sym, ap, subst, arith}
use Rattle.rm_sides.specs.declared.ranges.range.Range.{Range}
use Rattle.rm_sides.specs.Ranges.Ranges.{count_of, in_ranges}
use Rattle.rm_sides.specs.Destination.Incoming.{Sequence, inbox, is_loose, passed, without_passed}
use Rattle.rm_base.specs.NumberSet.{has_number}
use Rattle.rm_sides.specs.Destination.Kept.{IsAll, closes_of, gone_by, held_by, told_of}
use Rattle.rm_sides.specs.Destination.LooseLemmas.{AreMessageNumbers, earliest, held-earliest, numbers-there}
use Rattle.rm_sides.specs.Destination.Messages.{is_empty, items_of, numbers_of, ranges_onto, without}
use Rattle.rm_sides.proofs.DestinationLemmas.ForgetLemmas.{IsLoose-forgot, inbox-all, passed-earliest, passed-reach}
use Rattle.rm_sides.proofs.DestinationLemmas.ForgetLemmas.{same-view}
use Rattle.rm_sides.proofs.DestinationLemmas.KeptLemmas.{IsAll-same, gone-loose}
use Rattle.rm_sides.proofs.destination.incoming.Incoming.forget_earliest.Goals as goal

pub overflow_sub-more : goal.overflow_sub-more
overflow_sub-more c =
    let loose : is_loose c.self.inside.behaviour ≡ true =
    ap (λ (s : Sequence). is_loose s.facts.behaviour) c.self.view_is ∙ c.requires.loose in
    omega (arith, c.count.ensures, (c.self.invariant.set loose).consumed)

pub put_first-requires-clause-within : goal.put_first-requires-clause-within
put_first-requires-clause-within c =
    let f = c.args.self.now.facts in
    let inside = c.self.inside in
    let loose : is_loose inside.behaviour ≡ true =
    ap (λ (s : Sequence). is_loose s.facts.behaviour) c.self.view_is ∙ c.requires.loose in
    let purged : inside.purged.ranges ≡ f.purged =
    sym (gone-loose (is_loose inside.behaviour) inside.gone inside.purged.ranges loose)
    ∙ ap (λ (s : Sequence). s.facts.purged) c.self.view_is in
    omega (
      arith,
      ap length c.as_slice.ensures,
      ap (λ (s : Sequence). length s.facts.received) c.self.view_is,
      ap (λ (s : Sequence). s.facts.cursor) c.self.view_is,
      c.count.ensures,
      ap count_of purged,
      inbox-all f c.requires.loose,
      (passed-reach f c.requires.some).1,
    )

pub put_first-requires-clause-room : goal.put_first-requires-clause-room
put_first-requires-clause-room c =
    let f = c.args.self.now.facts in
    let inside = c.self.inside in
    let loose : is_loose inside.behaviour ≡ true =
    ap (λ (s : Sequence). is_loose s.facts.behaviour) c.self.view_is ∙ c.requires.loose in
    let purged : inside.purged.ranges ≡ f.purged =
    sym (gone-loose (is_loose inside.behaviour) inside.gone inside.purged.ranges loose)
    ∙ ap (λ (s : Sequence). s.facts.purged) c.self.view_is in
    omega (
      arith,
      ap (λ (s : Sequence). length s.facts.received) c.self.view_is,
      ap (λ (s : Sequence). s.facts.cursor) c.self.view_is,
      c.count.ensures,
      ap count_of purged,
      inbox-all f c.requires.loose,
      (passed-reach f c.requires.some).1,
      (c.self.invariant.set loose).fits,
    )

pub put_first-requires-clause-numbers : goal.put_first-requires-clause-numbers
put_first-requires-clause-numbers c =
    let inside = c.self.inside in
    subst (λ ms. AreMessageNumbers (numbers_of ms)) (sym c.as_slice.ensures)
    (numbers-there inside.numbers.ranges (gone_by (is_loose inside.behaviour) inside.gone inside.purged.ranges)
    inside.arrivals.messages c.ranges-numbers.ensures.canonical c.self.invariant.all.same)

pub invariant_of-self : goal.invariant_of-self
invariant_of-self c =
    let f = c.args.self.now.facts in
    let inside = c.self.inside in
    let came = inside.arrivals.messages in
    let b = is_loose inside.behaviour in
    let loose : b ≡ true =
    ap (λ (s : Sequence). is_loose s.facts.behaviour) c.self.view_is ∙ c.requires.loose in
    let gone = gone_by b inside.gone inside.purged.ranges in
    let is : gone ≡ inside.purged.ranges = gone-loose b inside.gone inside.purged.ranges loose in
    let purged : inside.purged.ranges ≡ f.purged = sym is ∙ ap (λ (s : Sequence). s.facts.purged) c.self.view_is in
    let room : inside.room ≡ 0 = ap (λ (s : Sequence). s.room) c.self.view_is ∙ c.requires.room in
    let kept = c.self.invariant.all in
    let numbers = numbers-there inside.numbers.ranges gone came c.ranges-numbers.ensures.canonical kept.same in
    let k = inside.cursor - c.count.result in
    let put : c.put_first.new.purged.ranges ≡ ranges_onto inside.purged.ranges (numbers_of (take k came)) =
    c.put_first.ensures.put
    ∙ ap (λ ms. ranges_onto inside.purged.ranges (numbers_of (take k ms))) c.as_slice.ensures in
    let within : k ≤ length came =
    omega (
      arith,
      ap (λ (s : Sequence). length s.facts.received) c.self.view_is,
      ap (λ (s : Sequence). s.facts.cursor) c.self.view_is,
      c.count.ensures,
      ap count_of purged,
      inbox-all f c.requires.loose,
      (passed-reach f c.requires.some).1,
    ) in
    record {
      behind = λ ordered. absurd (cc);
      set = λ _.
          IsLoose-forgot c.range_is_added.ensures inside.purged c.put_first.new.purged inside.cursor inside.room k
          inside.arrivals c.forget_all.new.self (c.self.invariant.set loose) c.ranges-purged.ensures.canonical numbers
          (let e : k ≡ inside.cursor - count_of inside.purged.ranges = omega (arith, c.count.ensures) in e) within put
          c.put_first.ensures.spare c.forget_all.ensures room;
      all =
          subst
          (λ n. IsAll (gone_by b inside.gone c.put_first.new.purged.ranges) c.forget_all.new.self inside.numbers n)
          (sym room)
          (subst (λ rs. IsAll rs c.forget_all.new.self inside.numbers 0)
          (sym (gone-loose b inside.gone c.put_first.new.purged.ranges loose))
          (IsAll-same c.range_is_added.ensures c.same_numbers_same_ranges.ensures gone c.put_first.new.purged.ranges
          inside.arrivals c.forget_all.new.self inside.numbers inside.room kept c.ranges-numbers.ensures.canonical
          (λ n.
          ap (λ ms. has_number (held_by c.put_first.new.purged.ranges ms) n) c.forget_all.ensures
          ∙ ap (λ rs. has_number (held_by rs (without rs came)) n) put
          ∙ held-earliest c.range_is_added.ensures inside.purged.ranges came k n c.ranges-purged.ensures.canonical
          numbers
          ∙ ap (λ rs. has_number (held_by rs came) n) (sym is))));
    }

pub returns : goal.returns
returns c =
    let f = c.args.self.now.facts in
    let inside = c.self.inside in
    let came = inside.arrivals.messages in
    let b = is_loose inside.behaviour in
    let loose : b ≡ true =
    ap (λ (s : Sequence). is_loose s.facts.behaviour) c.self.view_is ∙ c.requires.loose in
    let gone = gone_by b inside.gone inside.purged.ranges in
    let view : Sequence = record {
      facts = record {
        behaviour = inside.behaviour;
        deadline = inside.deadline;
        purged = gone;
        received = came;
        cursor = inside.cursor;
        closes = closes_of inside.closed inside.ended;
        told = told_of inside.closed inside.ended;
      };
      room = inside.room;
    } in
    let is : gone ≡ inside.purged.ranges = gone-loose b inside.gone inside.purged.ranges loose in
    let room : inside.room ≡ 0 = ap (λ (s : Sequence). s.room) c.self.view_is ∙ c.requires.room in
    let some : is_empty (passed view.facts) ≡ false =
    ap (λ (s : Sequence). is_empty (passed s.facts)) c.self.view_is ∙ c.requires.some in
    let now : c.put_first.new.purged.ranges ≡ passed view.facts =
    c.put_first.ensures.put
    ∙ ap (λ ms. ranges_onto inside.purged.ranges (numbers_of (take (inside.cursor - c.count.result) ms)))
    c.as_slice.ensures
    ∙ ap (λ n. ranges_onto inside.purged.ranges (numbers_of (take (inside.cursor - n) came))) c.count.ensures
    ∙ sym (earliest c.range_is_added.ensures c.same_numbers_same_ranges.ensures inside.purged.ranges came inside.cursor
    c.ranges-purged.ensures.canonical (c.self.invariant.set loose).consumed)
    ∙ ap (λ rs. ranges_onto [] (take inside.cursor (numbers_of (items_of rs came)))) (sym is)
    ∙ sym (passed-earliest view.facts loose some) in
    same-view view (gone_by b inside.gone c.put_first.new.purged.ranges) (passed view.facts)
    c.forget_all.new.self.messages (without (passed view.facts) came) inside.room
    (gone-loose b inside.gone c.put_first.new.purged.ranges loose ∙ now)
    (c.forget_all.ensures ∙ ap (λ rs. without rs came) now) room
    ∙ ap (λ (s : Sequence). record { facts = without_passed s.facts; room = 0 }) c.self.view_is
