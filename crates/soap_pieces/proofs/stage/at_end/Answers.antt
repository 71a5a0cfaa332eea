use Rattle.soap_pieces.proofs.stage.at_end.Goals as goal

pub at-requires : goal.at-requires
at-requires c = record {
  fits = c.requires.fits;
  placed = c.in-Some.ensures.found c.args.bytes.now c.requires.fed;
}
