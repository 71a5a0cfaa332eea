use Rattle.std.proofs.Common.{◌≡◌, ℕ, List, None, take}
use Rattle.std.specs.Prelude.{IsTrue}
use Rattle.rm_disk.specs.Journal.Journal.{Fits}
use Rattle.node_store.specs.Mounted.{AreReplayedFrom, Replays}
use Rattle.node_store.proofs.replay.replay.Given as goal

-- the tables hold the records of the entries so far, and nothing happened to the journal and the disk
abbrev pub invariant-loop-before : goal.invariant-loop-before
invariant-loop-before g l = record {
  replayed : IsTrue g.D.Disk.tells → (entries : List (List ℕ)) →
      Fits entries (g.D.Disk.told l.fn.disk).past l.fn.journal → Replays (take l.before entries) l.tables.records;
  sound : AreReplayedFrom l.tables.records;
  journal : l.journal ≡ l.fn.journal;
  past : IsTrue g.D.Disk.tells → (g.D.Disk.told l.disk).past ≡ (g.D.Disk.told l.fn.disk).past;
  faults : (g.D.Disk.told l.disk).faults ≡ (g.D.Disk.told l.fn.disk).faults;
  fuse : IsTrue g.D.Disk.tells → (g.D.Disk.told l.fn.disk).fuse ≡ None → (g.D.Disk.told l.disk).fuse ≡ None;
}
