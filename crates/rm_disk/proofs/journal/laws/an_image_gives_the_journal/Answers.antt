use Rattle.rm_disk.specs.Journal.EntryLemmas.{image_now, image_append, image_compact}
use Rattle.rm_disk.proofs.journal.laws.an_image_gives_the_journal.Goals as goal

pub returns : goal.returns
returns c = record { now = image_now; append = image_append; compact = image_compact }
