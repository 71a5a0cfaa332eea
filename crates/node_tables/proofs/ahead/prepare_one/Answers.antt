use Rattle.std.proofs.Common.{◌∙◌, List, [], ◌∷◌, ◌++◌, sym, ap, subst}
use Rattle.node_tables.specs.Row.Row.{Seen}
use Rattle.node_tables.specs.declared.note.Coming.{Coming}
use Rattle.node_tables.specs.Room.{AreBegun}
use Rattle.node_tables.proofs.AheadLemmas.{begun-more}
use Rattle.node_tables.proofs.ahead.prepare_one.Goals as goal

pub returns-in_ok-reserve-in-Some-clause-begun : goal.returns-in_ok-reserve-in-Some-clause-begun
returns-in_ok-reserve-in-Some-clause-begun c =
    let a : Coming = record { start = c.in-Some.start; row = c.new-row.result } in
    subst AreBegun
    (sym (c.push_reserved.ensures.items ∙ ap (λ (xs : List Coming). xs ++ a ∷ []) c.reserve.ensures.items))
    (begun-more c.args.ahead.now.items a c.requires (ap (λ (r : Seen). r.told) c.new-row.ensures))
