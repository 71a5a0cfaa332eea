use Rattle.std.proofs.Common.{◌≡◌, ◌+◌, ◌++◌, ◌∷◌, [], true, false, length, refl, sym, ap, arith, ◌∙◌}
use Rattle.std.proofs.lemmas.List.{length-append}
use Rattle.rm_sides.specs.Ranges.Ranges.{count_of}
use Rattle.rm_base.specs.NumberSet.{has_number}
use Rattle.rm_sides.specs.Destination.Incoming.{Sequence, held, is_loose}
use Rattle.rm_sides.specs.Destination.Kept.{IsLoose, gone_by, held_by}
use Rattle.rm_sides.proofs.DestinationLemmas.KeptLemmas.{IsAll-add, IsBehind-add, gone-ordered, held_by-behind}
use Rattle.rm_sides.proofs.DestinationLemmas.KeptLemmas.{held_by-new}
use Rattle.rm_sides.proofs.destination.incoming.Incoming.keep.Goals as goal

pub add-requires-clause-is_new : goal.add-requires-clause-is_new
add-requires-clause-is_new c =
    let inside = c.self.inside in
    let old = inside.arrivals.messages in
    let gone = gone_by (is_loose inside.behaviour) inside.gone inside.purged.ranges in
    let new : has_number (held_by gone old) c.args.number ≡ false
    = ap (λ (s : Sequence). has_number (held s.facts) c.args.number) c.self.view_is ∙ c.requires.is_new in
    rw c.reserve.ensures.kept (held_by-new gone old c.args.number new)

pub invariant_of-self-2 : goal.invariant_of-self-2
invariant_of-self-2 c =
    let inside = c.self.inside in
    let old = inside.arrivals.messages in
    let loose = is_loose inside.behaviour in
    let gone = gone_by loose inside.gone inside.purged.ranges in
    let new : has_number (held_by gone old) c.args.number ≡ false
    = ap (λ (s : Sequence). has_number (held s.facts) c.args.number) c.self.view_is ∙ c.requires.is_new in
    let more : c.add.new.self.messages ≡ old ++ (c.args.number, c.args.payload) ∷ []
    = rw (c.in-Ok.ensures.ok, c.reserve.ensures.kept) refl in
    let longer : length c.add.new.self.messages ≡ length old + 1 =
    ap length more ∙ length-append old ((c.args.number, c.args.payload) ∷ []) in
    rw (c.saturating_sub-self-inside.ensures, c.reserve_gone.ensures.kept) (record {
      behind = λ ordered.
          let kept = c.self.invariant.behind ordered in
          let is = gone-ordered loose inside.gone inside.purged.ranges ordered in
          IsBehind-add inside.gone inside.cursor inside.arrivals c.add.new.self c.args.number c.args.payload kept
          (held_by-behind inside.gone old c.args.number c.requires.from_one
          (ap (λ rs. has_number (held_by rs old) c.args.number) (sym is) ∙ new)) more;
      set = λ is.
          let kept = c.self.invariant.set is in
          let room = c.in_ok-reserve_gone.ensures.enough is in
          record {
            consumed = omega (arith, kept.consumed, ap count_of c.reserve_gone.ensures.kept);
            fits = omega (
              arith,
              longer,
              room,
              kept.fits,
              c.reserve_gone.ensures.spare,
              c.count.ensures.count,
              ap length c.reserve.ensures.kept,
            );
          };
      all = IsAll-add gone inside.arrivals c.add.new.self inside.numbers c.insert.new.self inside.room c.args.number
          c.args.payload c.self.invariant.all c.requires.from_one more c.in_ok-insert.ensures.ok
          c.in_ok-insert.ensures.adds.numbers
          (omega (arith, c.in-Ok.ensures.spare, c.reserve.ensures.spare, c.self.invariant.all.messages_fit))
          (omega (arith, c.in_ok-insert.ensures.spare, c.self.invariant.all.numbers_fit));
    })
