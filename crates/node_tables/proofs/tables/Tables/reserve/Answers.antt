use Rattle.std.proofs.Common.{◌∙◌, ◌++◌, List, map, ap, arith}
use Rattle.std.specs.List.{flat_map}
use Rattle.std.proofs.lemmas.List.{length-map}
use Rattle.record_batch.specs.Fact.{fact_of}
use Rattle.node_tables.specs.declared.note.Coming.{Coming}
use Rattle.node_tables.specs.Room.{starts, starts_of}
use Rattle.node_tables.proofs.CountLemmas.{all-timed}
use Rattle.node_tables.proofs.tables.Tables.reserve.Goals as goal

pub returns-clause-ok : goal.returns-clause-ok
returns-clause-ok c fit live =
    let batch = map fact_of c.args.batch.now in
    record {
      live = live;
      slots = omega (arith, length-map c.args.batch.now fact_of);
      ahead =
          c.claim_all.ensures.starts
          ∙ c.in_ok-prepare_all.ensures.starts (all-timed c.args.self.now.records batch fit)
          ∙ ap (λ (xs : List Coming). starts xs ++ flat_map starts_of batch) c.clear.ensures.items;
      enough = c.in_ok-claim_all.ensures.enough;
    }
