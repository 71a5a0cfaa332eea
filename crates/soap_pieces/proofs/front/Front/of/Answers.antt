use Rattle.std.proofs.Common.{◌-◌, length, take, drop, sym, subst, arith}
use Rattle.std.proofs.lemmas.List.{length-drop, length-take-le, take_all, take-append-drop}
use Rattle.soap_pieces.specs.Front.{IsTail}
use Rattle.soap_pieces.proofs.Fronts.{stuck_behind}
use Rattle.soap_pieces.proofs.front.Front.of.Goals as goal

pub returns-clause-is : goal.returns-clause-is
returns-clause-is c =
    let b = c.args.bytes.now in
    let n = c.utf8_prefix-valid.result in
    let longest = c.utf8_prefix-valid.ensures in record {
      text = take n b;
      rest = drop n b;
      is = sym (take-append-drop n b);
      valid = longest.valid;
      count = sym (length-take-le n b longest.within);
      stuck = stuck_behind b n longest.within longest.valid longest.longest;
      tail =
          subst (IsTail c.in_ok-tail.tail) (take_all (length b - n) (drop n b) (omega (arith, length-drop n b)))
          c.in_ok-tail.ensures.is;
    }
