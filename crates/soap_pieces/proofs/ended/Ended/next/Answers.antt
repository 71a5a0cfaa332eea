use Rattle.std.proofs.Common.{refl, sym, ◌∙◌, arith}
use Rattle.soap_document.specs.Machine.{run}
use Rattle.soap_pieces.proofs.Ends.{ends_on, refused_on}
use Rattle.soap_pieces.proofs.ended.Ended.next.Goals as goal

pub returns-then-ends-clause-come : goal.returns-then-ends-clause-come
returns-then-ends-clause-come c = λ bytes h fits.
    refused_on c.pieces_are_joined.ensures c.args.self _ bytes c.args.piece.now h
    (sym (c.is_refused-ends.ensures (run h.tail c.args.piece.now) (c.in_ok-feed.ensures.sees h.tail h.sees))
    ∙ c.if-ends.true) (c.in_ok-feed-2.ensures.is bytes h.utf8) fits

pub returns-clause-come : goal.returns-clause-come
returns-clause-come c = λ bytes h fits.
    let sees = c.in_ok-feed.ensures.sees h.tail h.sees in
    ends_on c.pieces_are_joined.ensures c.args.self _ bytes c.args.piece.now h refl sees
    (sym (c.is_refused-ends.ensures (run h.tail c.args.piece.now) sees) ∙ c.if-ends.false)
    (c.in_ok-feed-2.ensures.is bytes h.utf8) fits

pub returns-then-ends-clause-sound : goal.returns-then-ends-clause-sound
returns-then-ends-clause-sound c = λ n h.
    (omega (arith, h.len, c.feed-2.ensures.len), c.feed-2.ensures.small h.small)

pub returns-clause-sound : goal.returns-clause-sound
returns-clause-sound c = λ n h. record {
  told = c.in_ok-feed.ensures.told;
  place = omega (arith, h.place, c.in_ok-feed.ensures.fed);
  len = omega (arith, h.len, c.feed-2.ensures.len);
  small = c.feed-2.ensures.small h.small;
  payload = omega (arith, h.payload, c.feed-2.ensures.grows);
}
