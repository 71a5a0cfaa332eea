use Rattle.std.proofs.Common.{◌≡◌, ◌+◌, arith, length, subst, sym, ◌∙◌}
use Rattle.rm_script.specs.Script.{lines_of, Says, IsFirstBad}
use Rattle.rm_script.specs.SaidLemmas.{read_more, read_bad}
use Rattle.rm_script.proofs.ReadingLemmas.{event_in-is, event_in-none}
use Rattle.rm_script.proofs.script.read_script.Goals as goal

pub returns-in-None-clause-bad_line : goal.returns-in-None-clause-bad_line
returns-in-None-clause-bad_line c = λ line is.
    let read = rw c.first_line.ensures.lines at c.loop-rest.invariant.read in
    let none = event_in-none _ (sym c.in_ok-event.ensures ∙ c.in-None.is) in
    let bad = read_bad Says _ _ _ _ read none in
    let same : length c.loop-rest.events.items + 1 ≡ line = cc in
    subst (λ k. IsFirstBad (lines_of c.args.bytes.now) k) same bad

pub loop-rest-preserved : goal.loop-rest-preserved
loop-rest-preserved c =
    let read = rw c.first_line.ensures.lines at c.loop-rest.invariant.read in
    let said = event_in-is _ _ (sym c.in_ok-event.ensures ∙ c.in-Some.is) in
    let pushed = c.in-Ok.ensures.items in
    let room = rw c.first_line.ensures.lines at c.loop-rest.invariant.room in
    record {
      read = rw pushed (read_more Says _ _ _ _ _ read said);
      room = omega (arith, room, c.in-Ok.ensures.len, c.in-Ok.ensures.capacity);
    }
