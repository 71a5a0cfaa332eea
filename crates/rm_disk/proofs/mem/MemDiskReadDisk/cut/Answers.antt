use Rattle.std.proofs.Common.{refl}
use Rattle.rm_disk.specs.declared.note.Note.TheVariants.{Cut, FailedCut}
use Rattle.rm_disk.proofs.History.{calls_of-note, state-note, used-note}
use Rattle.rm_disk.proofs.mem.MemDiskReadDisk.cut.Goals as goal

pub invariant_of-self-clause-content : goal.invariant_of-self-clause-content
invariant_of-self-clause-content c =
    let self = c.args.self.now in
    rw (c.push.ensures.items, c.min-self.ensures)
    (state-note self.notes.items self.wrote.items (FailedCut c.args.len) _ self.all_used self.content)

pub returns-in-Err-clause-past : goal.returns-in-Err-clause-past
returns-in-Err-clause-past c tells =
    let self = c.args.self.now in
    rw c.push.ensures.items (calls_of-note self.notes.items self.wrote.items (FailedCut c.args.len) self.all_used)

pub invariant_of-self-2-clause-content : goal.invariant_of-self-2-clause-content
invariant_of-self-2-clause-content c =
    let self = c.args.self.now in
    rw (c.push-2.ensures.items, c.min-self.ensures, c.truncate.ensures.items)
    (state-note self.notes.items self.wrote.items (Cut c.args.len) _ self.all_used self.content)

pub returns-clause-past : goal.returns-clause-past
returns-clause-past c tells =
    let self = c.args.self.now in
    rw c.push-2.ensures.items (calls_of-note self.notes.items self.wrote.items (Cut c.args.len) self.all_used)

pub invariant_of-self-clause-all_used : goal.invariant_of-self-clause-all_used
invariant_of-self-clause-all_used c =
    let self = c.args.self.now in
    rw c.push.ensures.items (used-note self.notes.items self.wrote.items (FailedCut c.args.len) self.all_used refl)

pub invariant_of-self-2-clause-all_used : goal.invariant_of-self-2-clause-all_used
invariant_of-self-2-clause-all_used c =
    let self = c.args.self.now in
    rw c.push-2.ensures.items (used-note self.notes.items self.wrote.items (Cut c.args.len) self.all_used refl)
