use Rattle.std.proofs.Common.{arith}
use Rattle.soap_pieces.proofs.Sources.{all_taken, more_taken}
use Rattle.soap_pieces.proofs.source.read_source.Goals as goal

pub returns-then-count-eq0-clause-fed : goal.returns-then-count-eq0-clause-fed
returns-then-count-eq0-clause-fed g c =
    let told = g.S.Source.told in
    all_taken (told c.args.input.now) (told c.feed_from.new.input) c.feed_from.new.reader
    (c.in_ok-count.ensures.fed (told c.args.input.now) c.loop-fed.invariant.fed)
    (c.feed_from.ensures.end (rw c.if-count-eq0.true at c.in_ok-count.was)) (omega (
      arith,
      c.in_ok-count.ensures.total,
      c.loop-fed.invariant.total,
      c.loop-fed-test.true,
      c.if-count-eq0.true,
    ))

pub returns-clause-longer : goal.returns-clause-longer
returns-clause-longer g c = λ is.
    let told = g.S.Source.told in
    more_taken (told c.args.input.now) (told c.loop-fed.input) c.loop-fed.reader c.loop-fed.invariant.fed (omega arith)
