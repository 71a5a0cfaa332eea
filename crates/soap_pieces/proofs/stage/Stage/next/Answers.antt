use Rattle.std.proofs.Common.{◌≡◌, ◌≤◌, ◌+◌, ◌++◌, length, sym, ap, subst, arith, length-append}
use Rattle.rm_base.specs.Limits.{envelope_bytes}
use Rattle.soap_pieces.specs.Stage.{HasCome, IsSound}
use Rattle.soap_pieces.proofs.Stages.{come_same, most_of}
use Rattle.soap_pieces.proofs.stage.Stage.next.Goals as goal

pub first-requires : goal.first-requires
first-requires c = omega (arith, c.if-fed-gt-ENVELOPE_BYTES.false)

pub in_root-requires : goal.in_root-requires
in_root-requires c =
    let h = subst (λ s. IsSound s c.args.before) c.in-Root.is c.requires.sound in record {
      ready = h.ready;
      place = omega (arith, h.place);
      fits = omega (arith, h.len, c.if-fed-gt-ENVELOPE_BYTES.false);
      fed = h.fed;
    }

pub next-requires : goal.next-requires
next-requires c =
    let h = subst (λ s. IsSound s c.args.before) c.in-Behind.is c.requires.sound in record {
      told = h.told;
      place = omega (arith, h.place);
      fits = omega (arith, h.len);
    }

pub refused-requires : goal.refused-requires
refused-requires c =
    let h = subst (λ s. IsSound s c.args.before) c.in-Refused.is c.requires.sound in omega (arith, h.0)

pub returns-then-fed-gt-ENVELOPE_BYTES-clause-come : goal.returns-then-fed-gt-ENVELOPE_BYTES-clause-come
returns-then-fed-gt-ENVELOPE_BYTES-clause-come c = λ bytes h size.
    c.overrun.ensures.come (bytes ++ c.args.piece.now) (omega (
      arith,
      size,
      length-append bytes c.args.piece.now,
      c.if-fed-gt-ENVELOPE_BYTES.true,
    ))

pub returns-then-fed-gt-ENVELOPE_BYTES-clause-sound : goal.returns-then-fed-gt-ENVELOPE_BYTES-clause-sound
returns-then-fed-gt-ENVELOPE_BYTES-clause-sound c = c.overrun.ensures.sound (c.args.before + length c.args.piece.now)

pub returns-in-Before-clause-come : goal.returns-in-Before-clause-come
returns-in-Before-clause-come c = λ bytes h size.
    let piece = c.args.piece.now in
    let empty = subst (λ s. HasCome s bytes) c.in-Before.is h in
    come_same _ piece (bytes ++ piece) (sym (ap (λ b. b ++ piece) empty)) c.first.ensures.come

pub returns-in-Before-clause-sound : goal.returns-in-Before-clause-sound
returns-in-Before-clause-sound c = c.first.ensures.sound c.args.before

pub returns-in-Before-clause-most : goal.returns-in-Before-clause-most
returns-in-Before-clause-most c =
    most_of _ (c.args.before + length c.args.piece.now) (c.first.ensures.sound c.args.before) (omega (
      arith,
      c.if-fed-gt-ENVELOPE_BYTES.false,
    ))

pub returns-in-Root-clause-come : goal.returns-in-Root-clause-come
returns-in-Root-clause-come c = λ bytes h size.
    c.in_root.ensures.come bytes (subst (λ s. HasCome s bytes) c.in-Root.is h)

pub returns-in-Behind-clause-come : goal.returns-in-Behind-clause-come
returns-in-Behind-clause-come c = λ bytes h size.
    c.next.ensures.come bytes (subst (λ s. HasCome s bytes) c.in-Behind.is h) (omega (
      arith,
      size,
      length-append bytes c.args.piece.now,
      c.if-fed-gt-ENVELOPE_BYTES.false,
    ))

pub returns-in-Refused-clause-come : goal.returns-in-Refused-clause-come
returns-in-Refused-clause-come c = λ bytes h size.
    c.refused.ensures.come bytes (subst (λ s. HasCome s bytes) c.in-Refused.is h) (omega (
      arith,
      size,
      length-append bytes c.args.piece.now,
      c.if-fed-gt-ENVELOPE_BYTES.false,
    ))

pub returns-in-TooLong-clause-come : goal.returns-in-TooLong-clause-come
returns-in-TooLong-clause-come c = λ bytes h size.
    let long = subst (λ s. HasCome s bytes) c.in-TooLong.is h in
    absurd (omega (arith, long, size, c.if-fed-gt-ENVELOPE_BYTES.false))

pub returns-in-Root-clause-sound : goal.returns-in-Root-clause-sound
returns-in-Root-clause-sound c =
    c.in_root.ensures.sound c.args.before (subst (λ s. IsSound s c.args.before) c.in-Root.is c.requires.sound)

pub returns-in-Behind-clause-sound : goal.returns-in-Behind-clause-sound
returns-in-Behind-clause-sound c =
    c.next.ensures.sound c.args.before (subst (λ s. IsSound s c.args.before) c.in-Behind.is c.requires.sound)

pub returns-in-Refused-clause-sound : goal.returns-in-Refused-clause-sound
returns-in-Refused-clause-sound c =
    let h = subst (λ s. IsSound s c.args.before) c.in-Refused.is c.requires.sound in
    c.refused.ensures.sound c.args.before h.0 h.1

pub returns-in-Root-clause-most : goal.returns-in-Root-clause-most
returns-in-Root-clause-most c =
    most_of _ (c.args.before + length c.args.piece.now) (c.in_root.ensures.sound c.args.before (subst (λ s. IsSound s
    c.args.before) c.in-Root.is c.requires.sound)) (omega (arith, c.if-fed-gt-ENVELOPE_BYTES.false))

pub returns-in-Behind-clause-most : goal.returns-in-Behind-clause-most
returns-in-Behind-clause-most c =
    most_of _ (c.args.before + length c.args.piece.now) (c.next.ensures.sound c.args.before (subst (λ s. IsSound s
    c.args.before) c.in-Behind.is c.requires.sound)) (omega (arith, c.if-fed-gt-ENVELOPE_BYTES.false))

pub returns-in-Refused-clause-most : goal.returns-in-Refused-clause-most
returns-in-Refused-clause-most c =
    let h = subst (λ s. IsSound s c.args.before) c.in-Refused.is c.requires.sound in
    most_of _ (c.args.before + length c.args.piece.now) (c.refused.ensures.sound c.args.before h.0 h.1) (omega (
      arith,
      c.if-fed-gt-ENVELOPE_BYTES.false,
    ))
