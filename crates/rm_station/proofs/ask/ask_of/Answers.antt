use Rattle.std.proofs.Common.{List, ℕ, subst}
use Rattle.std.specs.Prelude.{Option, codes}
use Rattle.rm_script.specs.Reading.{behind}
use Rattle.rm_station.specs.Asks.{AskedBy, behind_line}
use Rattle.rm_station.proofs.ask.ask_of.Goals as goal

pub returns-in-Some : goal.returns-in-Some
returns-in-Some c =
    let cut = c.cut.ensures in
    let line = c.cut.result.0.now in
    subst (λ (l : List ℕ). AskedBy l (behind_line c.args.bytes.now) (behind (codes "send ") l) c.send_of.result)
    cut.before
    (subst (λ (p : List ℕ). AskedBy line p (behind (codes "send ") line) c.send_of.result) cut.after
    (subst (λ (o : Option (List ℕ)). AskedBy line c.cut.result.1.now o c.send_of.result) c.in-Some.ensures
    c.send_of.ensures))

pub returns-in-None : goal.returns-in-None
returns-in-None c =
    let cut = c.cut.ensures in
    let line = c.cut.result.0.now in
    subst (λ (l : List ℕ). AskedBy l (behind_line c.args.bytes.now) (behind (codes "send ") l) c.unsent_of.result)
    cut.before
    (subst (λ (p : List ℕ). AskedBy line p (behind (codes "send ") line) c.unsent_of.result) cut.after
    (subst (λ (o : Option (List ℕ)). AskedBy line c.cut.result.1.now o c.unsent_of.result) c.in-None.ensures
    c.unsent_of.ensures))
