-- There is room for records: applying them takes no memory. And what is left where not all records are applied.
use Rattle.std.specs.Prelude.{◌≡◌, ◌≤◌, ◌↔◌, true, false, List, ◌∷◌, ◌++◌, length}
use Rattle.std.specs.List.{flat_map, list_all}
use Rattle.record_batch.specs.Fact.{Fact}
use Rattle.record_batch.specs.Sequences.Fits.{all_fit, fits}
use Rattle.node_tables.specs.declared.error.TableError.{TableError}
use Rattle.node_tables.specs.declared.error.TableError.TheVariants.{Misfit}
use Rattle.node_tables.specs.Kept.{Tabled}
use Rattle.node_tables.specs.Room.{AreEnough, has_room, starts_of}

-- there is room for these records, one after the other: a place for each; the sequences that they will make; and room
-- of each sequence for what they add to it. None of them says that messages are gone
pub record IsReady (t : Tabled) (batch : List Fact) : Type 0 where
  pub live : list_all has_room batch ≡ true
  pub slots : length batch ≤ t.room.slots
  pub ahead : t.room.ahead ≡ flat_map starts_of batch
  pub enough : AreEnough t.room.rows batch

-- the records before one were applied, and that one was not: it is a misfit, or there was no memory for it
pub record StopsAt (old new batch : List Fact) (error : TableError) : Type 0 where
  pub applied : List Fact
  pub given : Fact
  pub more : List Fact
  pub parts : batch ≡ applied ++ given ∷ more
  pub fit : all_fit old applied ≡ true
  pub now : new ≡ old ++ applied
  pub why : (error ≡ Misfit) ↔ (fits new given ≡ false)
