use Rattle.std.proofs.Common.{refl}
use Rattle.rm_disk.specs.declared.note.Note.TheVariants.{Crash}
use Rattle.rm_disk.proofs.History.{calls_of-note, state-note, used-note}
use Rattle.rm_disk.proofs.mem.MemDiskCrashDisk.crash.Goals as goal

pub invariant_of-self-2-clause-content : goal.invariant_of-self-2-clause-content
invariant_of-self-2-clause-content c =
    let self = c.args.self.now in
    rw (
      c.push.ensures.items,
      c.in_ok-reserve.ensures.items,
      c.in_ok-synced.ensures.items,
      c.clear.ensures.items,
      c.len-self.ensures,
      c.len-self-2.ensures,
      ← c.deref.ensures.len,
      c.deref.ensures.value,
      c.in_ok-file.ensures,
    ) (
    state-note self.notes.items self.wrote.items (Crash c.args.choice) _ self.all_used self.content)

pub invariant_of-self-2-clause-all_used : goal.invariant_of-self-2-clause-all_used
invariant_of-self-2-clause-all_used c =
    let self = c.args.self.now in
    rw (c.push.ensures.items, c.in_ok-reserve.ensures.items)
    (used-note self.notes.items self.wrote.items (Crash c.args.choice) self.all_used refl)

pub returns-clause-past : goal.returns-clause-past
returns-clause-past c =
    let self = c.args.self.now in
    rw (c.push.ensures.items, c.in_ok-reserve.ensures.items)
    (calls_of-note self.notes.items self.wrote.items (Crash c.args.choice) self.all_used)
