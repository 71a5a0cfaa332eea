use Rattle.std.proofs.Common.{[], length, refl, sym, ap, subst, arith}
use Rattle.soap_document.specs.Profile.Fed.{WasFed}
use Rattle.soap_pieces.proofs.Stages.{nothing_in_root}
use Rattle.soap_pieces.specs.Stage.{IsInRoot}
use Rattle.soap_pieces.proofs.stage.first.Goals as goal

pub in_root-requires : goal.in_root-requires
in_root-requires c = record {
  ready = c.in_ok-reader.ensures.ready;
  place = omega (arith, c.in_ok-reader.ensures.total, c.requires);
  fits = omega (arith, ap length c.new-bytes.ensures, c.requires);
  fed = subst (WasFed c.in_ok-reader.reader) (sym c.new-bytes.ensures) c.in_ok-reader.ensures.fed;
}

pub returns-clause-come : goal.returns-clause-come
returns-clause-come c =
    c.in_root.ensures.come [] (subst (λ k. IsInRoot k []) (sym c.new-bytes.ensures) nothing_in_root)

pub returns-clause-sound : goal.returns-clause-sound
returns-clause-sound c = λ n.
    c.in_root.ensures.sound n (record {
      ready = c.in_ok-reader.ensures.ready;
      fed = subst (WasFed c.in_ok-reader.reader) (sym c.new-bytes.ensures) c.in_ok-reader.ensures.fed;
      place = omega (arith, c.in_ok-reader.ensures.total);
      len = omega (arith, ap length c.new-bytes.ensures);
    })
