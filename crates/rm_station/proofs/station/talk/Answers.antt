use Rattle.std.proofs.Common.{Bool, List, ℕ, Ok, [], false, refl, subst, sym}
use Rattle.rm_node.specs.declared.packets.Out.{Out}
use Rattle.rm_serve.specs.Steps.{place_of}
use Rattle.rm_station.specs.Asks.{AsksFor}
use Rattle.rm_station.specs.Works.{Talks, long, lost, starved, talks}
use Rattle.rm_station.proofs.CallLemmas.{no-step}
use Rattle.rm_station.proofs.OutLemmas.{up-answered}
use Rattle.rm_station.proofs.station.talk.Goals as goal

pub returns-in-Ok-clause-talks : goal.returns-in-Ok-clause-talks
returns-in-Ok-clause-talks g c =
    let told = g.K.Source.told in
    let t = c.obey-said.ensures.tells in
    let old = told c.args.conn.now in
    let mid = told c.read_up_to.new.input in
    let new = told c.answer.new.conn in
    let asks = subst (λ (b : List ℕ). AsksFor b c.ask_of.result) c.as_slice.ensures c.ask_of.ensures in (
      t.0,
      t.1,
      subst (λ (b : Bool). Talks c.args.now c.args.node.now.stored old new t.0 c.answer.result.0 b)
          (sym c.answer.ensures.stop)
          (talks mid c.in-Ok.bytes c.ask_of.result t.0 c.obey-said.result c.answer.result.0 c.read_up_to.ensures.keeps
          c.in-Ok.ensures.whole asks t.2 c.answer.ensures.answers),
    )

pub returns-in-Ok-clause-up : goal.returns-in-Ok-clause-up
returns-in-Ok-clause-up g c =
    up-answered _ c.obey-said.result c.answer.result.0 c.obey-said.ensures.up c.answer.ensures.lasts

pub returns-in-Err-TooLong-clause-talks : goal.returns-in-Err-TooLong-clause-talks
returns-in-Err-TooLong-clause-talks g c =
    let told = g.K.Source.told in
    let t = c.obey-said-in-Err-TooLong.ensures.tells in
    let old = told c.args.conn.now in
    let mid = told c.read_up_to.new.input in
    let new = told c.answer-in-Err-TooLong.new.conn in (
      t.0,
      t.1,
      subst (λ (b : Bool). Talks c.args.now c.args.node.now.stored old new t.0 c.answer-in-Err-TooLong.result.0 b)
          (sym c.answer-in-Err-TooLong.ensures.stop)
          (long mid t.0 c.obey-said-in-Err-TooLong.result c.answer-in-Err-TooLong.result.0
          c.read_up_to.ensures.keeps t.2 c.answer-in-Err-TooLong.ensures.answers),
    )

pub returns-in-Err-TooLong-clause-up : goal.returns-in-Err-TooLong-clause-up
returns-in-Err-TooLong-clause-up g c =
    up-answered _ c.obey-said-in-Err-TooLong.result c.answer-in-Err-TooLong.result.0
    c.obey-said-in-Err-TooLong.ensures.up c.answer-in-Err-TooLong.ensures.lasts

pub returns-in-Err-Failed-clause-talks : goal.returns-in-Err-Failed-clause-talks
returns-in-Err-Failed-clause-talks g c =
    let told = g.K.Source.told in
    let x = place_of (g.D.Disk.told c.args.disk.now) c.args.node.now in (
      [],
      no-step g.D.Disk.tells x x (record { node = refl; told = λ t. refl }),
      subst (λ (o : List Out). Talks c.args.now x.node.stored (told c.args.conn.now) (told c.read_up_to.new.input) []
          (Ok o) false) (sym c.new.ensures) (lost c.read_up_to.ensures.keeps),
    )

pub returns-in-Err-Memory-clause-talks : goal.returns-in-Err-Memory-clause-talks
returns-in-Err-Memory-clause-talks g c =
    let x = place_of (g.D.Disk.told c.args.disk.now) c.args.node.now in (
      [],
      no-step g.D.Disk.tells x x (record { node = refl; told = λ t. refl }),
      starved c.read_up_to.ensures.keeps,
    )
