use Rattle.std.proofs.Common.{◌≡◌, ◌+◌, ◌≤◌, ◌++◌, [], true, false, rules, length, refl, sym, ap, subst, arith, ◌∙◌}
use Rattle.rm_sides.specs.Ranges.Changes.{united}
use Rattle.rm_sides.specs.Ranges.Ranges.{IsCanonical, count_of}
use Rattle.rm_sides.specs.Destination.ItemLemmas.{count_of-run_to}
use Rattle.rm_sides.specs.Destination.Incoming.{Sequence, held, is_loose}
use Rattle.rm_sides.specs.Destination.Kept.{IsAll, gone_by, held_by}
use Rattle.rm_sides.specs.Destination.Messages.{is_empty, run_to}
use Rattle.rm_sides.proofs.DestinationLemmas.KeptLemmas.{IsAll-restored, IsBehind-restored, gone-loose, gone-none}
use Rattle.rm_sides.proofs.DestinationLemmas.KeptLemmas.{gone-restored}
use Rattle.rm_sides.proofs.DestinationLemmas.KeptLemmas.{held_by-none}
use Rattle.rm_sides.proofs.destination.incoming.Incoming.restore.Goals as goal

pub invariant_of-self-2 : goal.invariant_of-self-2
invariant_of-self-2 c =
    let inside = c.self.inside in
    let loose = is_loose inside.behaviour in
    let given = c.args.numbers.now.ranges in
    let canonical : IsCanonical given = c.ranges-2.ensures.canonical in
    let gone = gone_by loose inside.gone inside.purged.ranges in
    let g = c.greatest-self-inside.result in
    let new = c.put_gone.new.purged in
    let same : is_loose c.args.self.now.facts.behaviour ≡ loose =
    ap (λ (s : Sequence). is_loose s.facts.behaviour) (sym c.self.view_is) in
    let none = held_by-none gone inside.arrivals.messages
    (ap (λ (s : Sequence). is_empty (held s.facts)) c.self.view_is ∙ c.requires.nothing) in
    let kept : c.reserve_gone.new.purged.ranges ≡ inside.purged.ranges = c.reserve_gone.ensures.kept in
    let empty : gone_by loose inside.gone inside.purged.ranges ≡ [] =
    gone-none loose inside.gone inside.purged.ranges
    (subst (λ rs. IsCanonical rs) kept c.ranges-purged.ensures.canonical) none.numbers_ in
    let union : united [] given ≡ given = c.union_with_nothing_is_the_same.ensures given canonical in
    let put : loose ≡ true → new.ranges ≡ united inside.purged.ranges given =
    λ is. c.put_gone.ensures.put is ∙ ap (λ rs. united rs given) kept in
    let run : loose ≡ false → given ≡ run_to g =
    λ is. c.requires.run (same ∙ is) ∙ ap run_to (sym c.greatest-self-inside.ensures.value) in
    let now : gone_by loose g new.ranges ≡ given =
    gone-restored loose inside.gone g inside.purged.ranges new.ranges given empty put union run in
    let used : length c.ranges-2.result.now ≡ length given = ap length c.ranges-2.ensures.ranges in
    let made : inside.room + length c.ranges-2.result.now ≤ c.in_ok-room.room = search rules in
    let count : c.count.result ≡ count_of given = c.count.ensures in
    record {
      behind = λ is. IsBehind-restored g c.max-self-inside.result inside.arrivals
          (subst (λ rs. IsCanonical rs) (run is) canonical)
          (let size : count_of given ≡ g = ap count_of (run is) ∙ count_of-run_to g in
          omega (arith, count, size, c.max-self-inside.ensures)) none.came_;
      set = λ is.
          let size : count_of new.ranges ≡ count_of given =
          ap count_of (sym (gone-loose loose g new.ranges is) ∙ now) in
          let came : length inside.arrivals.messages ≡ 0 = ap length none.came_ in
          record {
            consumed = omega (arith, count, size, c.max-self-inside.ensures);
            fits = omega (
              arith,
              came,
              used,
              made,
              c.in_ok-reserve_gone.ensures.enough is,
              c.put_gone.ensures.spare is,
            );
          };
      all =
          subst (λ rs. IsAll rs inside.arrivals c.unite.new.self inside.room) (sym now)
          (IsAll-restored c.range_is_added.ensures c.same_numbers_same_ranges.ensures gone inside.arrivals
          inside.numbers c.unite.new.self given inside.room c.self.invariant.all none canonical
          (c.in_ok-unite.ensures.ok ∙ ap (λ rs. united rs given) c.reserve.ensures.kept) union
          (omega (arith, made, used, c.in_ok-reserve.ensures.enough, c.unite.ensures.spare)));
    }

pub returns-clause-ok : goal.returns-clause-ok
returns-clause-ok c =
    let inside = c.self.inside in
    let loose = is_loose inside.behaviour in
    let given = c.args.numbers.now.ranges in
    let canonical : IsCanonical given = c.ranges-2.ensures.canonical in
    let gone = gone_by loose inside.gone inside.purged.ranges in
    let g = c.greatest-self-inside.result in
    let new = c.put_gone.new.purged in
    let same : is_loose c.args.self.now.facts.behaviour ≡ loose =
    ap (λ (s : Sequence). is_loose s.facts.behaviour) (sym c.self.view_is) in
    let none = held_by-none gone inside.arrivals.messages
    (ap (λ (s : Sequence). is_empty (held s.facts)) c.self.view_is ∙ c.requires.nothing) in
    let kept : c.reserve_gone.new.purged.ranges ≡ inside.purged.ranges = c.reserve_gone.ensures.kept in
    let empty : gone_by loose inside.gone inside.purged.ranges ≡ [] =
    gone-none loose inside.gone inside.purged.ranges
    (subst (λ rs. IsCanonical rs) kept c.ranges-purged.ensures.canonical) none.numbers_ in
    let union : united [] given ≡ given = c.union_with_nothing_is_the_same.ensures given canonical in
    let put : loose ≡ true → new.ranges ≡ united inside.purged.ranges given =
    λ is. c.put_gone.ensures.put is ∙ ap (λ rs. united rs given) kept in
    let run : loose ≡ false → given ≡ run_to g =
    λ is. c.requires.run (same ∙ is) ∙ ap run_to (sym c.greatest-self-inside.ensures.value) in
    let now : gone_by loose g new.ranges ≡ gone ++ given =
    gone-restored loose inside.gone g inside.purged.ranges new.ranges given empty put union run
    ∙ ap (λ rs. rs ++ given) (sym empty) in
    rw (← c.self.view_is) (rw (now, c.max-self-inside.ensures, c.count.ensures) refl)
