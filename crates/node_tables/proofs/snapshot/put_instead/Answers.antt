use Rattle.std.proofs.Common.{◌≡◌, ◌∙◌, ◌++◌, List, ap}
use Rattle.std.specs.Option.{option_to_list}
use Rattle.std.proofs.lemmas.Result.{on_ok_weaker}
use Rattle.node_tables.specs.declared.note.Note.{Note}
use Rattle.node_tables.specs.Kept.{tolds}
use Rattle.node_tables.specs.Shorter.{IsPut}
use Rattle.node_tables.proofs.snapshot.put_instead.Goals as goal

pub returns-clause-put : goal.returns-clause-put
returns-clause-put c =
    let ahead = option_to_list c.in_ok-ahead.ahead in
    on_ok_weaker
    {P = c.put-2.new.notes.items ≡ c.put.new.notes.items ++ ahead}
    {Q = IsPut (tolds c.args.rows.now) c.args.seen.now c.args.note.now c.args.short.now.items c.put-2.new.notes.items}
    c.put-2.result
    (λ is. record {
      stands = c.in_ok-stands.stands;
      ahead = c.in_ok-ahead.ahead;
      is = is ∙ ap (λ (ns : List Note). ns ++ ahead) c.in_ok-put.ensures;
      fact = c.in_ok-stands.ensures.fact;
      before = c.in_ok-ahead.ensures.fact;
      own = c.in_ok-stands.ensures.own;
      free = c.in_ok-ahead.ensures.free;
    }) c.put-2.ensures
