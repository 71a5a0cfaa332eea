use Rattle.std.proofs.Common.{◌≡◌, ◌∙◌, ◌+◌, ◌≤◌, true, length, sym, ap, arith}
use Rattle.rm_sides.specs.Ranges.Ranges.{count_of}
use Rattle.rm_base.specs.Message.{max_number}
use Rattle.rm_sides.specs.Destination.Incoming.{Sequence, inbox, is_loose}
use Rattle.rm_sides.specs.Destination.LooseLemmas.{count-few}
use Rattle.rm_sides.proofs.DestinationLemmas.ForgetLemmas.{inbox-all}
use Rattle.rm_sides.proofs.DestinationLemmas.KeptLemmas.{gone-loose}
use Rattle.rm_sides.proofs.destination.incoming.Incoming.loose_len.Goals as goal

pub overflow_add-result : goal.overflow_add-result
overflow_add-result c =
    omega (
      arith,
      count-few c.self.inside.purged.ranges c.ranges-purged.ensures.canonical,
      c.count.ensures,
      c.count-2.ensures.few,
    )

pub returns : goal.returns
returns c =
    let f = c.args.self.now.facts in
    let inside = c.self.inside in
    let loose : is_loose inside.behaviour ≡ true =
    ap (λ (s : Sequence). is_loose s.facts.behaviour) c.self.view_is ∙ c.requires.loose in
    let gone : c.count.result ≡ count_of f.purged =
    c.count.ensures
    ∙ ap count_of (sym (gone-loose (is_loose inside.behaviour) inside.gone inside.purged.ranges loose))
    ∙ ap (λ (s : Sequence). count_of s.facts.purged) c.self.view_is in
    let there : c.count-2.result ≡ length f.received =
    c.count-2.ensures.count ∙ ap (λ (s : Sequence). length s.facts.received) c.self.view_is in
    omega (arith, gone, there, inbox-all f c.requires.loose)
