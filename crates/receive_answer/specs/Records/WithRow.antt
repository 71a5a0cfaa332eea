-- The records ahead with those that a row of the receiving table adds.
use Rattle.std.specs.Prelude.{List, ◌++◌}
use Rattle.record_batch.specs.Fact.{Fact}
use Rattle.rm_protocol.specs.Rows.{Row}
use Rattle.tables_ahead.specs.Known.{all_records, KnownRecords}

-- the row reads the records of the tables and those ahead, and its own come behind them
abbrev pub with_row : Row → KnownRecords → List Fact
with_row row k = k.delta ++ row (all_records k)
