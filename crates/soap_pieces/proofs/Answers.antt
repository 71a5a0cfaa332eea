-- What is answered of bytes that are no document.
use Rattle.std.proofs.Common.{◌≡◌, ℕ, ◌<◌, ◌≤◌, List, Result, Err, length, take, sym, ap, subst, arith}
use Rattle.std.proofs.lemmas.List.{take_all}
use Rattle.std.specs.Str.{IsUtf8}
use Rattle.rm_base.specs.Limits.{envelope_bytes}
use Rattle.soap_envelope.specs.declared.envelope.Envelope.{Envelope}
use Rattle.soap_document.specs.Profile.Answer.{same_front}
use Rattle.soap_document.specs.Profile.Document.{Document, IsLongestText, IsTextUpTo}
use Rattle.soap_document.specs.Profile.Tree.{Element}
use Rattle.soap_document.specs.declared.profile.error.EnvelopeError.{EnvelopeError}
use Rattle.soap_document.specs.declared.profile.error.EnvelopeError.TheVariants as Error
use Rattle.soap_pieces.specs.Answer.{Reads}

failed : EnvelopeError → Result Envelope EnvelopeError
failed e = Err e

pub broken_is : (bytes : List ℕ) (v : ℕ) → length bytes ≤ envelope_bytes → v < length bytes → IsLongestText bytes v
    → Reads bytes (Err (Error.NotUtf8 v))
broken_is bytes v fits inside longest = record {
  ok = tt;
  fits = tt;
  too_long = λ len. (λ e. absurd (cc), λ h. absurd (omega (arith, fits, h.0)));
  not_utf8 = λ place. (
    λ e.
        let same : v ≡ place = cc in
        subst (λ (k : ℕ). IsTextUpTo bytes k) same (fits, inside, longest),
    λ h. ap (λ k. Err (Error.NotUtf8 k)) (same_front bytes v place (omega (arith, inside)) (omega (arith, h.1)) longest
        h.2),
  );
  not_profile = λ e. absurd (cc);
  wrong_version = λ e. absurd (cc);
  not_envelope = λ e. absurd (cc);
}

pub none_is : (bytes : List ℕ) → length bytes ≤ envelope_bytes → IsUtf8 bytes
    → ((tree : Element) → ¬ (Document bytes tree)) → Reads bytes (Err Error.NotProfile)
none_is bytes fits utf8 none = record {
  ok = tt;
  fits = tt;
  too_long = λ len. (λ e. absurd (cc), λ h. absurd (omega (arith, fits, h.0)));
  not_utf8 = λ place. (
    λ e. absurd (cc),
    λ h.
        let n = length bytes in
        let whole : IsUtf8 (take n bytes) = subst IsUtf8 (sym (take_all n bytes (omega arith))) utf8 in
        let up : n ≤ place = h.2.longest n (omega arith) whole in absurd (omega (arith, up, h.1)),
  );
  not_profile = λ e. (fits, utf8, none);
  wrong_version = λ e. absurd (cc);
  not_envelope = λ e. absurd (cc);
}

pub long_is : (bytes : List ℕ) (len : ℕ) → envelope_bytes < length bytes → len ≡ length bytes
    → Reads bytes (Err (Error.TooLong len))
long_is bytes len long size = record {
  ok = tt;
  fits = tt;
  too_long = λ other. (
    λ e. let same : len ≡ other = cc in (long, omega (arith, same, size)),
    λ h. let same : len ≡ other = omega (arith, size, h.1) in ap (λ k. Err (Error.TooLong k)) same,
  );
  not_utf8 = λ place. (λ e. absurd (cc), λ h. absurd (omega (arith, long, h.0)));
  not_profile = λ e. absurd (cc);
  wrong_version = λ e. absurd (cc);
  not_envelope = λ e. absurd (cc);
}
