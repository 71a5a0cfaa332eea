-- Two nodes that were just made are sound, and so is each world of their runs.
use Rattle.std.proofs.Common.{◌≡◌, ℕ, ◌+◌, ◌≤◌, true, List, [], ◌∷◌, refl, arith}
use Rattle.std.proofs.lemmas.Bool.Decides.{nat_tests}
use Rattle.rm_base.specs.Limits.{journal_bytes}
use Rattle.record_batch.specs.Fact.{Fact, Made}
use Rattle.record_batch.specs.Sequences.Words.{Text}
use Rattle.record_batch.specs.Sequences.Fits.{all_fit}
use Rattle.rm_protocol.specs.Sound.{IsSound, IsSoundNode, Keeps, Owns}
use Rattle.rm_protocol.specs.Terms.{AreTerms, Terms}
use Rattle.rm_protocol.specs.Verdict.{has_room}
use Rattle.rm_protocol.specs.World.{AreMade, Event, made, run, start}
use Rattle.rm_arrival.proofs.OnwardLemmas.{StaysSound, run-sound}

keeps-made : (n : ℕ) (at : Text) → Keeps (Made n at ∷ []) (Made n at ∷ [])
keeps-made n at = record {
  same = record {
    frame = record {
      makers_ = refl;
      draws = refl;
      nodes = refl;
      addresses = refl;
      created_ = refl;
      marks_ = refl;
      tickets_ = refl;
      closes_ = refl;
      told_ = refl;
      accepts = refl;
    };
    sent = λ s. record { more = omega arith; accepted_ = refl; count = refl; acked_ = λ n. refl };
    got = λ s. record {
      more = λ n e. e;
      received_ = refl;
      held_ = λ n. refl;
      cursor_ = refl;
      below = λ _ n lt. refl;
      earliest = λ _. record { less = omega arith; reach = omega arith; left = refl; count = refl };
      once = tt;
    };
  };
  live = (tt, tt);
}

owns-made : (n : ℕ) (a : Text) → Owns n (Made n a ∷ [])
owns-made n a = record {
  number = refl;
  rising = tt;
  below = omega arith;
  made = λ s q e. absurd (cc (e.is));
  unique = λ s t q e f. absurd (cc (e.is));
  found = λ s q e. absurd (cc);
}

made-bound : (terms : Terms) (n : ℕ) (at : Text) → has_room terms 25 (Made n at ∷ []) ≡ true
    → 25 + 6 + terms.size (Made n at ∷ []) ≤ journal_bytes
made-bound terms n at e = grind (arith, nat_tests)

made-sound : (terms : Terms) (n : ℕ) (at : Text) (b : List Fact) → all_fit [] (Made n at ∷ []) ≡ true
    → has_room terms 25 (Made n at ∷ []) ≡ true → IsSoundNode terms at (made n at) b
made-sound terms n at b fit e =
    let fits : 25 + 6 + terms.size (Made n at ∷ []) ≤ journal_bytes = made-bound terms n at e in
    record {
      failed = tt;
      with_ = tt;
      at_ = refl;
      stands = record { kept = keeps-made n at; proper = (tt, tt); fit = fit };
      bounded = record { below = omega arith; store = omega arith };
      said = tt;
    }

start-sound : (terms : Terms) (one two : Text) → AreMade terms one two → IsSound terms (start one two)
start-sound terms one two made_ = record {
  agree = record {
    owns = owns-made 1 one;
    others = owns-made 2 two;
    justified = (tt, tt);
    others_justified = (tt, tt);
  };
  packets = tt;
  one = made-sound terms 1 one (Made 2 two ∷ []) refl made_.one_;
  two = made-sound terms 2 two (Made 1 one ∷ []) refl made_.two_;
}

pub each-sound : StaysSound → (terms : Terms) (one two : Text) → AreTerms terms → AreMade terms one two
    → (events : List Event) → IsSound terms (run terms events (start one two))
each-sound sound_ terms one two t made_ events =
    run-sound sound_ terms events (start one two) t (start-sound terms one two made_)
