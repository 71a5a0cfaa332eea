-- From what was read to what is answered.
use Rattle.std.proofs.Common.{◌≡◌, ℕ, List, [], ◌∷◌, ◌++◌, Option, Some, None, Result, Ok, Err, refl, sym, ap, subst}
use Rattle.std.proofs.Common.{◌∙◌, length, ◌≤◌}
use Rattle.std.specs.Prelude.{IfOk, IfErr, option_map}
use Rattle.soap_document.specs.Profile.Document.{IsReadable, IsTooLong, IsTextUpTo, HasNoTree}
use Rattle.soap_document.specs.Profile.Items.{Item, parts_among, listed}
use Rattle.soap_document.specs.Profile.Tree.{Parts, none, text, child}
use Rattle.soap_document.specs.declared.profile.name.Expanded.{Expanded}
use Rattle.soap_document.specs.declared.profile.error.EnvelopeError.{EnvelopeError}
use Rattle.soap_document.specs.declared.profile.error.EnvelopeError.TheVariants as early
use Rattle.soap_envelope.specs.Envelope.{Envelope, IsEnvelope}
use Rattle.soap_envelope.specs.Refusals.{WrongVersion, NotEnvelope}
use Rattle.soap_envelope.specs.View.{envelope_view}
use Rattle.soap_envelope.specs.declared.envelope.Envelope.{Envelope as CodeEnvelope}
use Rattle.rm_message.specs.declared.message.Message.{Message}
use Rattle.rm_message.specs.declared.refusal.DecodeError.{DecodeError}
use Rattle.rm_message.specs.declared.refusal.DecodeError.TheVariants.{Memory, Refused}
use Rattle.rm_message.specs.declared.refusal.Refusal.{Refusal}
use Rattle.message_reader.specs.Message.{Wrong, NotUnderstood, message_in, unless_unknown}
use Rattle.message_reader.specs.Outcome.{Decodes, refused, IsEarly, early_kind}
use Rattle.message_reader.specs.Reading.{IsReadingIn}
use Rattle.message_reader.specs.Refusals.{Spells, Refuses, IsRefusal, too_long, not_utf8, not_profile, wrong_version}
use Rattle.message_reader.specs.Refusals.{not_envelope, without_message, blind, refusal_of}

-- the parts of the items that parts are
pub parts_again : (parts : Parts) → parts_among (listed parts) ≡ parts
parts_again none = refl
parts_again (text bytes parts) = ap (text bytes) (parts_again parts)
parts_again (child first parts) = ap (child first) (parts_again parts)

-- blocks that had to be understood and are not
pub unknown : (soap : List ℕ) (e : Envelope) (names : List Expanded) → (names ≡ [] → ⊥)
    → unless_unknown soap e names ≡ Err (NotUnderstood names)
unknown soap e [] some = absurd (some refl)
unknown soap e (name ∷ names) some = refl

-- what was read of an envelope is the message that the bytes spell
pub spelled : (soap bytes : List ℕ) (e : Envelope) (result : Result Message DecodeError) → IsEnvelope soap bytes e
    → IsReadable bytes → Decodes result (message_in soap e) → IfOk result (Spells soap bytes)
spelled soap bytes e (Ok m) is fits reads =
    record { envelope = e; is = is; fits = fits.0; reads = reads }
spelled soap bytes e (Err error) is fits reads = tt

some_same : (r s : Refusal) → Some r ≡ Some s → r ≡ s
some_same r s e = cc

-- or the reason that they spell none
refused_by : (soap bytes : List ℕ) (e : Envelope) (r : Refusal) (read : Result Message Wrong) → IsEnvelope soap bytes e
    → IsReadable bytes → message_in soap e ≡ read → refused read ≡ Some r → Refuses soap bytes r
refused_by soap bytes e r (Ok m) is fits reads told = absurd (cc)
refused_by soap bytes e r (Err wrong) is fits reads told =
    subst (Refuses soap bytes) (some_same (refusal_of wrong) r told) (without_message wrong e fits is reads)

pub refused_so : (soap bytes : List ℕ) (e : Envelope) (result : Result Message DecodeError) → IsEnvelope soap bytes e
    → IsReadable bytes → Decodes result (message_in soap e) → IfErr result (IsRefusal soap bytes)
refused_so soap bytes e (Ok m) is fits reads = tt
refused_so soap bytes e (Err Memory) is fits reads = tt
refused_so soap bytes e (Err (Refused r)) is fits reads =
    refused_by soap bytes e r (message_in soap e) is fits refl reads

-- what was read of the bytes is an error
early_refuses : (soap bytes : List ℕ) (e : EnvelopeError) (r : Refusal) → IsReadingIn soap bytes (Err e)
    → option_map blind (early_kind e) ≡ Some r → Refuses soap bytes r
early_refuses soap bytes early.Memory r why told = absurd (cc)
early_refuses soap bytes (early.TooLong len) r why told =
    subst (Refuses soap bytes) (some_same _ r told) (too_long (why.too_long len refl).0)
early_refuses soap bytes (early.NotUtf8 place) r why told =
    subst (Refuses soap bytes) (some_same _ r told) (not_utf8 place (why.not_utf8 place refl))
early_refuses soap bytes early.NotProfile r why told =
    subst (Refuses soap bytes) (some_same _ r told) (not_profile (why.not_profile refl))
early_refuses soap bytes early.WrongVersion r why told =
    let (fits, is) = why.wrong_version refl in
    subst (Refuses soap bytes) (some_same _ r told) (wrong_version fits is)
early_refuses soap bytes early.NotEnvelope r why told =
    let (fits, is) = why.not_envelope refl in
    subst (Refuses soap bytes) (some_same _ r told) (not_envelope fits is)

early_is : (soap bytes : List ℕ) (e : EnvelopeError) (error : DecodeError) → IsReadingIn soap bytes (Err e)
    → IsEarly (early_kind e) error → IsRefusal soap bytes error
early_is soap bytes e Memory why told = tt
early_is soap bytes e (Refused r) why told = early_refuses soap bytes e r why told

-- the message that the bytes spell, of what was read of them
pub spelled_of : (soap bytes : List ℕ) (read : Result CodeEnvelope EnvelopeError) (e : CodeEnvelope)
    (result : Result Message DecodeError) → read ≡ Ok e → Decodes result (message_in soap (envelope_view e))
    → IsReadingIn soap bytes read → IfOk result (Spells soap bytes)
spelled_of soap bytes read e result is decodes reading =
    let told : IsReadingIn soap bytes (Ok e) = subst (IsReadingIn soap bytes) is reading in
    spelled soap bytes (envelope_view e) result told.ok told.fits decodes

-- or the refusal, where it was an envelope
pub refused_of : (soap bytes : List ℕ) (read : Result CodeEnvelope EnvelopeError) (e : CodeEnvelope)
    (result : Result Message DecodeError) → read ≡ Ok e → Decodes result (message_in soap (envelope_view e))
    → IsReadingIn soap bytes read → IfErr result (IsRefusal soap bytes)
refused_of soap bytes read e result is decodes reading =
    let told : IsReadingIn soap bytes (Ok e) = subst (IsReadingIn soap bytes) is reading in
    refused_so soap bytes (envelope_view e) result told.ok told.fits decodes

-- or where it was none
pub early_of : (soap bytes : List ℕ) (read : Result CodeEnvelope EnvelopeError) (e : EnvelopeError) (error :
    DecodeError)
    → read ≡ Err e → IsEarly (early_kind e) error → IsReadingIn soap bytes read → IsRefusal soap bytes error
early_of soap bytes read e error is told reading = early_is soap bytes e error (subst (IsReadingIn soap bytes) is
    reading) told
