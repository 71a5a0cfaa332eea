use Rattle.std.proofs.Common.{◌≡◌, ◌<◌, ◌≤◌, ◌∙◌, ℕ, List, [], ◌∷◌, false, true, sym, ap, subst, arith}
use Rattle.rm_sides.specs.declared.ranges.range.Range.{Range}
use Rattle.rm_sides.specs.Ranges.Ranges.{in_ranges}
use Rattle.rm_base.specs.NumberSet.{has_number}
use Rattle.rm_sides.specs.Destination.Incoming.{Sequence, inbox, is_loose, items, passed, without_passed}
use Rattle.rm_sides.specs.Destination.Kept.{IsAll, closes_of, gone_by, held_by, told_of}
use Rattle.rm_sides.specs.Destination.LooseLemmas.{without-above}
use Rattle.rm_sides.specs.Destination.Messages.{above, front_of, is_empty, items_of, run_to, without}
use Rattle.rm_sides.proofs.DestinationLemmas.ForgetLemmas.{IsBehind-forgot, behind-zero, held-first, inbox-few, one-run}
use Rattle.rm_sides.proofs.DestinationLemmas.ForgetLemmas.{passed-first, passed-reach, same-view}
use Rattle.rm_sides.proofs.DestinationLemmas.KeptLemmas.{IsAll-same, front-same, gone-ordered}
use Rattle.rm_sides.proofs.destination.incoming.Incoming.forget_first.Goals as goal

pub invariant_of-self : goal.invariant_of-self
invariant_of-self c =
    let inside = c.self.inside in
    let f = c.args.self.now.facts in
    let came = inside.arrivals in
    let loose = is_loose inside.behaviour in
    let ordered : loose ≡ false =
    ap (λ (s : Sequence). is_loose s.facts.behaviour) c.self.view_is ∙ c.requires.ordered in
    let gone = gone_by loose inside.gone inside.purged.ranges in
    let is : gone ≡ run_to inside.gone = gone-ordered loose inside.gone inside.purged.ranges ordered in
    let room : inside.room ≡ 0 = ap (λ (s : Sequence). s.room) c.self.view_is ∙ c.requires.room in
    let kept = c.self.invariant.all in
    let behind = c.self.invariant.behind ordered in
    let fronts = c.front-front.ensures.front in
    let canonical = c.ranges-numbers.ensures.canonical in
    let front : c.front-front.result ≡ front_of (items f) =
    front-same (items_of gone came.messages) inside.numbers.ranges c.front-front.result kept.rising kept.same fronts
    ∙ ap (λ (s : Sequence). front_of (items s.facts)) c.self.view_is in
    let cursor : inside.cursor ≡ f.cursor = ap (λ (s : Sequence). s.facts.cursor) c.self.view_is in
    let le : inside.cursor ≤ c.front-front.result =
    omega (arith, front, cursor, inbox-few f c.requires.ordered, (passed-reach f c.requires.some).1) in
    let same : (n : ℕ) → in_ranges inside.numbers.ranges n ≡ has_number (held_by (run_to inside.gone) came.messages) n =
    λ n. kept.same n ∙ ap (λ rs. has_number (held_by rs came.messages) n) is in
    record {
      behind = λ _. IsBehind-forgot inside.gone inside.cursor came c.forget.new.self inside.numbers.ranges
          c.front-front.result behind canonical fronts le c.forget.ensures;
      set = λ t. absurd (cc);
      all =
          subst (λ n. IsAll (gone_by loose inside.cursor inside.purged.ranges) c.forget.new.self inside.numbers n)
          (sym room)
          (subst (λ rs. IsAll rs c.forget.new.self inside.numbers 0)
          (sym (gone-ordered loose inside.cursor inside.purged.ranges ordered))
          (IsAll-same c.range_is_added.ensures c.same_numbers_same_ranges.ensures gone (run_to inside.cursor)
          came c.forget.new.self inside.numbers inside.room kept canonical (λ n.
          ap (λ ms. has_number (held_by (run_to inside.cursor) ms) n) c.forget.ensures
          ∙ held-first inside.gone inside.cursor came inside.numbers.ranges c.front-front.result n behind same fronts le
          ∙ ap (λ rs. has_number (held_by rs came.messages) n) (sym is))));
    }

pub returns : goal.returns
returns c =
    let inside = c.self.inside in
    let came = inside.arrivals.messages in
    let b = is_loose inside.behaviour in
    let ordered : b ≡ false =
    ap (λ (s : Sequence). is_loose s.facts.behaviour) c.self.view_is ∙ c.requires.ordered in
    let view : Sequence = record {
      facts = record {
        behaviour = inside.behaviour;
        deadline = inside.deadline;
        purged = gone_by b inside.gone inside.purged.ranges;
        received = came;
        cursor = inside.cursor;
        closes = closes_of inside.closed inside.ended;
        told = told_of inside.closed inside.ended;
      };
      room = inside.room;
    } in
    let room : inside.room ≡ 0 = ap (λ (s : Sequence). s.room) c.self.view_is ∙ c.requires.room in
    let some : is_empty (passed view.facts) ≡ false =
    ap (λ (s : Sequence). is_empty (passed s.facts)) c.self.view_is ∙ c.requires.some in
    let first : passed view.facts ≡ record { lower = 1; upper = inside.cursor } ∷ [] =
    passed-first view.facts ordered some in
    let pos : 0 < inside.cursor = (passed-reach view.facts some).0 in
    same-view view (gone_by b inside.cursor inside.purged.ranges) (passed view.facts) c.forget.new.self.messages
    (without (passed view.facts) came) inside.room
    (gone-ordered b inside.cursor inside.purged.ranges ordered ∙ one-run inside.cursor pos ∙ sym first)
    (c.forget.ensures
    ∙ sym (without-above inside.cursor came (behind-zero inside.gone inside.cursor inside.arrivals
    (c.self.invariant.behind ordered)))
    ∙ ap (λ rs. without rs came) (sym first)) room
    ∙ ap (λ (s : Sequence). record { facts = without_passed s.facts; room = 0 }) c.self.view_is
