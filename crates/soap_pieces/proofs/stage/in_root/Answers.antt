use Rattle.std.proofs.Common.{◌+◌, ◌++◌, length, sym, ap, subst, ◌∙◌, arith, length-append}
use Rattle.soap_document.specs.Profile.Fed.{WasFed}
use Rattle.soap_pieces.proofs.Stages.{come_same}
use Rattle.soap_pieces.proofs.stage.in_root.Goals as goal

pub on-requires : goal.on-requires
on-requires c = record {
  fits = omega (
    arith,
    ap length c.in_ok-push_all.ensures.ok,
    length-append c.args.bytes c.args.piece.now,
    c.requires.fits,
  );
  fed = subst (WasFed c.feed.new.self) (sym c.in_ok-push_all.ensures.ok) (c.in_ok-feed.ensures.fed c.args.bytes
      c.requires.fed);
}

pub returns-clause-come : goal.returns-clause-come
returns-clause-come c = λ fed h.
    let piece = c.args.piece.now in
    come_same _ _ (fed ++ piece) (c.in_ok-push_all.ensures.ok ∙ ap (λ b. b ++ piece) h.same) c.on.ensures.come

pub returns-clause-sound : goal.returns-clause-sound
returns-clause-sound c = λ n h.
    let piece = c.args.piece.now in
    c.on.ensures.sound (n + length piece) (record {
      ready = c.in_ok-feed.ensures.ready;
      fed = subst (WasFed c.feed.new.self) (sym c.in_ok-push_all.ensures.ok) (c.in_ok-feed.ensures.fed c.args.bytes
          c.requires.fed);
      place = omega (arith, h.place, c.in_ok-feed.ensures.total);
      len = omega (arith, h.len, ap length c.in_ok-push_all.ensures.ok, length-append c.args.bytes piece);
    })
