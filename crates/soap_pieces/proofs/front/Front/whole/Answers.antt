use Rattle.std.proofs.Common.{◌≡◌, List, ℕ, [], ◌∷◌, ◌++◌, append-nil, refl, sym, ap, length, arith}
use Rattle.soap_pieces.specs.Front.{IsStuck}
use Rattle.soap_pieces.proofs.front.Front.whole.Goals as goal

front_nil : (front more : List ℕ) → [] ≡ front ++ more → front ≡ []
front_nil [] more e = refl
front_nil (c ∷ front) more e = cc

stuck_nil : IsStuck []
stuck_nil = λ front more e utf8. front_nil front more e

pub returns-clause-is : goal.returns-clause-is
returns-clause-is c = record {
  text = c.args.bytes.now;
  rest = [];
  is = sym (append-nil c.args.bytes.now);
  valid = c.requires;
  count = refl;
  stuck = stuck_nil;
  tail = c.new.ensures;
}

pub returns-clause-len : goal.returns-clause-len
returns-clause-len c = omega (arith, ap length c.new.ensures)
