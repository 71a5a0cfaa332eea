use Rattle.node_tables.specs.Row.TakesLemmas.{fits-takes}
use Rattle.node_tables.proofs.row.laws.a_record_fits_where_it_is_taken.Goals as goal

pub returns : goal.returns
returns c = fits-takes
