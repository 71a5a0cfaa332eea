use Rattle.std.proofs.Common.{length, refl, sym, ap, subst, ◌∙◌, arith}
use Rattle.soap_document.specs.Profile.Fed.{WasFed}
use Rattle.soap_pieces.specs.Front.{IsFront}
use Rattle.soap_pieces.proofs.Stages.{come_same, sound_by}
use Rattle.soap_pieces.proofs.stage.on.Goals as goal

pub at_end-requires : goal.at_end-requires
at_end-requires c = record {
  fits = omega (arith, ap length c.as_slice-then-is_ended.ensures, c.requires.fits);
  fed = subst (WasFed c.args.reader) (sym c.as_slice-then-is_ended.ensures) c.requires.fed;
}

pub returns-then-ends-clause-come : goal.returns-then-ends-clause-come
returns-then-ends-clause-come c = record {
  refuses = sym (c.is_refused-ends.ensures c.args.bytes c.requires.fed) ∙ c.if-ends.true;
  utf8 = subst (IsFront c.in_ok-front.front) c.as_slice.ensures c.in_ok-front.ensures.is;
  fits = c.requires.fits;
}

pub returns-then-ends-clause-sound : goal.returns-then-ends-clause-sound
returns-then-ends-clause-sound c = λ n h.
    (omega (arith, h.len, c.in_ok-front.ensures.len, ap length c.as_slice.ensures), c.in_ok-front.ensures.small)

pub returns-then-is_ended-clause-come : goal.returns-then-is_ended-clause-come
returns-then-is_ended-clause-come c =
    come_same _ _ c.args.bytes c.as_slice-then-is_ended.ensures c.at_end.ensures.come

pub returns-then-is_ended-clause-sound : goal.returns-then-is_ended-clause-sound
returns-then-is_ended-clause-sound c = λ n h.
    sound_by _ _ n (omega (arith, h.len, ap length c.as_slice-then-is_ended.ensures)) c.at_end.ensures.sound

pub returns-clause-come : goal.returns-clause-come
returns-clause-come c = record {
  same = refl;
  unended = sym (c.is_ended-is_ended.ensures c.args.bytes c.requires.fed) ∙ c.if-is_ended.false;
  going = sym (c.is_refused-ends.ensures c.args.bytes c.requires.fed) ∙ c.if-ends.false;
  fits = c.requires.fits;
}
