use Rattle.std.proofs.Common.{◌≡◌, ◌+◌, ◌++◌, List, ℕ, length, take, drop, ap, subst, ◌∙◌, arith, length-append}
use Rattle.std.proofs.lemmas.List.{take-append-drop}
use Rattle.std.specs.Prelude.{IfOk, IfSome}
use Rattle.soap_pieces.specs.Stage.{HasCome, HasEnded, IsSoundBehind}
use Rattle.soap_pieces.proofs.Stages.{come_same, sound_by}
use Rattle.soap_pieces.proofs.stage.within.Goals as goal

both : (bytes front more : List ℕ) (n : ℕ) → front ≡ take n bytes → more ≡ drop n bytes → front ++ more ≡ bytes
both bytes front more n e f = ap (λ x. x ++ more) e ∙ ap (λ x. take n bytes ++ x) f ∙ take-append-drop n bytes

pub of-requires : goal.of-requires
of-requires c =
    let front = c.split_at.result.0.now in
    let more = c.split_at.result.1.now in
    let whole =
    both c.args.bytes.now front more c.in_ok-end.end c.split_at.ensures.front c.split_at.ensures.back in
    omega (arith, ap length whole, length-append front more)

pub next-requires : goal.next-requires
next-requires c =
    let front = c.split_at.result.0.now in
    let more = c.split_at.result.1.now in
    let whole =
    both c.args.bytes.now front more c.in_ok-end.end c.split_at.ensures.front c.split_at.ensures.back in
    let h = subst (λ o. IfSome o (λ ended. IsSoundBehind ended (length front))) c.in-Some.is
    c.in_ok-begun.ensures.sound in record {
      told = h.told;
      place = omega (arith, h.place, ap length whole, length-append front more);
      fits = omega (arith, h.len, ap length whole, length-append front more);
    }

pub returns-in-Some-clause-come : goal.returns-in-Some-clause-come
returns-in-Some-clause-come c =
    let front = c.split_at.result.0.now in
    let more = c.split_at.result.1.now in
    let whole =
    both c.args.bytes.now front more c.in_ok-end.end c.split_at.ensures.front c.split_at.ensures.back in
    let h = subst (λ o. IfSome o (λ ended. HasEnded ended front)) c.in-Some.is c.in_ok-begun.ensures.ended in
    come_same _ (front ++ more) c.args.bytes.now whole
    (c.next.ensures.come front h (omega (arith, ap length whole)))

pub returns-in-Some-clause-sound : goal.returns-in-Some-clause-sound
returns-in-Some-clause-sound c =
    let front = c.split_at.result.0.now in
    let more = c.split_at.result.1.now in
    let whole =
    both c.args.bytes.now front more c.in_ok-end.end c.split_at.ensures.front c.split_at.ensures.back in
    let h = subst (λ o. IfSome o (λ ended. IsSoundBehind ended (length front))) c.in-Some.is
    c.in_ok-begun.ensures.sound in
    sound_by _ (length front + length more) (length c.args.bytes.now)
    (omega (arith, ap length whole, length-append front more)) (c.next.ensures.sound (length front) h)
