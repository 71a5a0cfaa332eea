use Rattle.std.proofs.Common.{◌≡◌, ◌∙◌, Ok, [], false, refl, subst, sym, true}
use Rattle.node_tables.specs.Reads.{outgoing_in}
use Rattle.rm_serve.specs.Steps.{place_of}
use Rattle.rm_host.specs.Sequences.{is_open}
use Rattle.rm_station.specs.Works.{waits}
use Rattle.rm_station.specs.declared.ask.Ask.TheVariants.{Offers}
use Rattle.rm_station.proofs.CallLemmas.{no-step}
use Rattle.rm_station.proofs.SaidLemmas.{tells-so}
use Rattle.rm_station.proofs.said.go_on.Goals as goal

pub go_open-requires-clause-open : goal.go_open-requires-clause-open
go_open-requires-clause-open g c =
    subst (λ records. is_open (outgoing_in records c.args.seq) ≡ true) c.tables.ensures
    (sym c.is_open.ensures ∙ c.if-is_open.true)

pub returns-then-is_open-clause-tells : goal.returns-then-is_open-clause-tells
returns-then-is_open-clause-tells g c = c.go_open.ensures.tells

pub returns-clause-tells : goal.returns-clause-tells
returns-clause-tells g c =
    let x = place_of (g.D.Disk.told c.args.disk.now) c.args.node.now in
    let a = c.args in
    let shut = subst (λ records. is_open (outgoing_in records a.seq) ≡ false) c.tables.ensures
    (sym c.is_open.ensures ∙ c.if-is_open.false) in (
      [],
      no-step g.D.Disk.tells x x (record { node = refl; told = λ t. refl }),
      tells-so a.now x.node.stored (Ok (Offers a.to.now a.next a.payload)) [] _ c.wait.result
          (waits a.to.now a.payload a.next a.seq c.requires.first shut) c.wait.ensures,
    )
