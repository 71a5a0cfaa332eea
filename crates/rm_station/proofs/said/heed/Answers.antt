use Rattle.std.proofs.Common.{Ok, [], ap, refl, subst, sym}
use Rattle.rm_serve.specs.Steps.{place_of}
use Rattle.rm_station.specs.Reads.{read_answer}
use Rattle.rm_station.specs.Works.{Tells, stops}
use Rattle.rm_station.specs.declared.ask.Ask.{Ask}
use Rattle.rm_station.specs.declared.ask.Ask.TheVariants.{Stops}
use Rattle.rm_station.proofs.CallLemmas.{no-step}
use Rattle.rm_station.proofs.SaidLemmas.{read-so, tells-so}
use Rattle.rm_station.proofs.said.heed.Goals as goal

pub returns-in-Stops-clause-tells : goal.returns-in-Stops-clause-tells
returns-in-Stops-clause-tells g c =
    let x = place_of (g.D.Disk.told c.args.disk.now) c.args.node.now in
    let s = x.node.stored in (
      [],
      no-step g.D.Disk.tells x x (record { node = refl; told = λ t. refl }),
      subst (λ (a : Ask). Tells c.args.now s (Ok a) [] c.stop.result) (sym c.in-Stops.is)
          (tells-so c.args.now s (Ok Stops) [] _ c.stop.result stops c.stop.ensures),
    )

pub returns-in-Offers-clause-tells : goal.returns-in-Offers-clause-tells
returns-in-Offers-clause-tells g c =
    let t = c.offer.ensures.tells in (
      t.0,
      t.1,
      subst (λ (a : Ask). Tells c.args.now c.args.node.now.stored (Ok a) t.0 c.offer.result)
          (sym c.in-Offers.is) t.2,
    )

pub returns-in-Consumes-clause-tells : goal.returns-in-Consumes-clause-tells
returns-in-Consumes-clause-tells g c =
    let t = c.consume_told.ensures.tells in (
      t.0,
      t.1,
      subst (λ (a : Ask). Tells c.args.now c.args.node.now.stored (Ok a) t.0 c.consume_told.result)
          (sym c.in-Consumes.is) t.2,
    )

pub returns-in-Closes-clause-tells : goal.returns-in-Closes-clause-tells
returns-in-Closes-clause-tells g c =
    let t = c.close_told.ensures.tells in (
      t.0,
      t.1,
      subst (λ (a : Ask). Tells c.args.now c.args.node.now.stored (Ok a) t.0 c.close_told.result)
          (sym c.in-Closes.is) t.2,
    )

pub returns-in-Ends-clause-tells : goal.returns-in-Ends-clause-tells
returns-in-Ends-clause-tells g c =
    let t = c.end_told.ensures.tells in (
      t.0,
      t.1,
      subst (λ (a : Ask). Tells c.args.now c.args.node.now.stored (Ok a) t.0 c.end_told.result)
          (sym c.in-Ends.is) t.2,
    )

pub returns-in-Polls-clause-tells : goal.returns-in-Polls-clause-tells
returns-in-Polls-clause-tells g c =
    let t = c.poll_told.ensures.tells in (
      t.0,
      t.1,
      subst (λ (a : Ask). Tells c.args.now c.args.node.now.stored (Ok a) t.0 c.poll_told.result)
          (sym c.in-Polls.is) t.2,
    )

pub returns-in-Lists-clause-tells : goal.returns-in-Lists-clause-tells
returns-in-Lists-clause-tells g c =
    let x = place_of (g.D.Disk.told c.args.disk.now) c.args.node.now in (
      [],
      no-step g.D.Disk.tells x x (record { node = refl; told = λ t. refl }),
      read-so c.args.now x.node.stored c.args.ask _ c.list.result c.read.result
          (ap (read_answer c.args.now x.node.stored) c.in-Lists.is) c.list.ensures c.read.ensures,
    )

pub returns-in-Fetches-clause-tells : goal.returns-in-Fetches-clause-tells
returns-in-Fetches-clause-tells g c =
    let x = place_of (g.D.Disk.told c.args.disk.now) c.args.node.now in (
      [],
      no-step g.D.Disk.tells x x (record { node = refl; told = λ t. refl }),
      read-so c.args.now x.node.stored c.args.ask _ c.fetch.result c.read-in-Fetches.result
          (ap (read_answer c.args.now x.node.stored) c.in-Fetches.is) c.fetch.ensures c.read-in-Fetches.ensures,
    )

pub returns-in-FetchesNext-clause-tells : goal.returns-in-FetchesNext-clause-tells
returns-in-FetchesNext-clause-tells g c =
    let x = place_of (g.D.Disk.told c.args.disk.now) c.args.node.now in (
      [],
      no-step g.D.Disk.tells x x (record { node = refl; told = λ t. refl }),
      read-so c.args.now x.node.stored c.args.ask _ c.fetch_next.result c.read-in-FetchesNext.result
          (ap (read_answer c.args.now x.node.stored) c.in-FetchesNext.is) c.fetch_next.ensures
          c.read-in-FetchesNext.ensures,
    )

pub returns-in-Shows-clause-tells : goal.returns-in-Shows-clause-tells
returns-in-Shows-clause-tells g c =
    let x = place_of (g.D.Disk.told c.args.disk.now) c.args.node.now in (
      [],
      no-step g.D.Disk.tells x x (record { node = refl; told = λ t. refl }),
      read-so c.args.now x.node.stored c.args.ask _ c.show.result c.read-in-Shows.result
          (ap (read_answer c.args.now x.node.stored) c.in-Shows.is) c.show.ensures c.read-in-Shows.ensures,
    )

pub returns-in-Counts-clause-tells : goal.returns-in-Counts-clause-tells
returns-in-Counts-clause-tells g c =
    let x = place_of (g.D.Disk.told c.args.disk.now) c.args.node.now in (
      [],
      no-step g.D.Disk.tells x x (record { node = refl; told = λ t. refl }),
      read-so c.args.now x.node.stored c.args.ask _ c.count.result c.read-in-Counts.result
          (ap (read_answer c.args.now x.node.stored) c.in-Counts.is) c.count.ensures c.read-in-Counts.ensures,
    )

pub returns-in-Health-clause-tells : goal.returns-in-Health-clause-tells
returns-in-Health-clause-tells g c =
    let x = place_of (g.D.Disk.told c.args.disk.now) c.args.node.now in (
      [],
      no-step g.D.Disk.tells x x (record { node = refl; told = λ t. refl }),
      read-so c.args.now x.node.stored c.args.ask _ c.health.result c.read-in-Health.result
          (ap (read_answer c.args.now x.node.stored) c.in-Health.is) c.health.ensures c.read-in-Health.ensures,
    )
