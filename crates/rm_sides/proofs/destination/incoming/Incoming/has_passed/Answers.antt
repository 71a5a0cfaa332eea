use Rattle.std.proofs.Common.{◌≡◌, ◌<◌, ◌≤◌, ◌∙◌, ℕ, false, true, inl, inr, length, not, sym, ap, arith}
use Rattle.std.specs.Prelude.{nat_le}
use Rattle.std.proofs.lemmas.Bool.Decides.{nat_tests}
use Rattle.rm_base.specs.NumberSetLemmas.{lt-or-le}
use Rattle.rm_sides.specs.Destination.Incoming.{Sequence, inbox, passed}
use Rattle.rm_sides.specs.Destination.Messages.{is_empty}
use Rattle.rm_sides.proofs.DestinationLemmas.ForgetLemmas.{passed-none, passed-some}
use Rattle.rm_sides.proofs.destination.incoming.Incoming.has_passed.Goals as goal

pub returns-then-self-gt0 : goal.returns-then-self-gt0
returns-then-self-gt0 c =
    let f = c.args.self.now.facts in
    let cursor : c.self.inside.cursor ≡ f.cursor = ap (λ (s : Sequence). s.facts.cursor) c.self.view_is in
    let have = c.inbox_len.ensures in
    elim (lt-or-le (length (inbox f)) f.cursor) [
      | inl past ↦
          let test : nat_le c.self.inside.cursor c.inbox_len.result ≡ false =
          grind (arith, nat_tests, cursor, have, past) in
          test ∙ sym (ap (λ rs. not (is_empty rs)) (passed-none f past))
      | inr within ↦
          let test : nat_le c.self.inside.cursor c.inbox_len.result ≡ true =
          grind (arith, nat_tests, cursor, have, within) in
          test ∙ sym (ap not (passed-some f (omega (arith, cursor, c.if-self-gt0.true)) within))
    ]
