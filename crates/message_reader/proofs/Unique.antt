-- Bytes spell at most one message or have at most one refusal, and not both.
use Rattle.std.proofs.Common.{◌≡◌, ℕ, ◌≤◌, ◌<◌, List, length, Option, Some, None, Result, Ok, Err, refl, sym, ap}
use Rattle.std.proofs.Common.{subst, ◌∙◌, arith, Bool, true, false, if◌then◌else◌, ◌==◌, nat_lt}
use Rattle.std.proofs.Math.Seq.{take-length}
use Rattle.std.proofs.lemmas.Bool.{ltb-true, ltb-false}
use Rattle.std.specs.Str.{IsUtf8}
use Rattle.soap_document.specs.Grammar.{IsDocument}
use Rattle.soap_document.specs.Tree as written
use Rattle.soap_document.specs.Profile.Document.{Document, IsReadable, IsTextUpTo, HasNoTree}
use Rattle.soap_document.specs.Profile.Tree.{Element}
use Rattle.soap_envelope.specs.Envelope.{Envelope, IsEnvelope}
use Rattle.soap_envelope.specs.Refusals.{WrongVersion, NotEnvelope}
use Rattle.rm_message.specs.declared.message.Message.{Message}
use Rattle.rm_message.specs.declared.refusal.FaultKind.{FaultKind}
use Rattle.rm_message.specs.declared.refusal.FaultKind.TheVariants as kinds
use Rattle.rm_message.specs.declared.refusal.Refusal.{Refusal}
use Rattle.message_reader.specs.Message.{Wrong, message_in}
use Rattle.message_reader.specs.Refusals.{Spells, Refuses, too_long, not_utf8, not_profile, wrong_version}
use Rattle.message_reader.specs.Refusals.{not_envelope, without_message, blind, refusal_of}

-- the laws of envelopes that these stand on
abbrev OneEnvelope : Type 0
OneEnvelope = (soap bytes : List ℕ) (one other : Envelope) → IsEnvelope soap bytes one → IsEnvelope soap bytes other
    → one ≡ other

abbrev NotVersion : Type 0
NotVersion = (soap bytes : List ℕ) (e : Envelope) → IsEnvelope soap bytes e → ¬ (WrongVersion soap bytes)

abbrev NotOutline : Type 0
NotOutline = (soap bytes : List ℕ) (e : Envelope) → IsEnvelope soap bytes e → ¬ (NotEnvelope soap bytes)

abbrev DocumentIsUtf8 : Type 0
DocumentIsUtf8 = (bytes : List ℕ) (root : written.Element) → IsDocument bytes root → IsUtf8 bytes

abbrev NotTwice : Type 0
NotTwice = (soap bytes : List ℕ) → WrongVersion soap bytes → ¬ (NotEnvelope soap bytes)

abbrev ok_of : Message → Result Message Wrong
ok_of m = Ok m

abbrev err_of : Wrong → Result Message Wrong
err_of wrong = Err wrong

same_reading : (soap : List ℕ) (e d : Envelope) (x y : Result Message Wrong) → e ≡ d → message_in soap e ≡ x
    → message_in soap d ≡ y → x ≡ y
same_reading soap e d x y same a b = sym a ∙ ap (message_in soap) same ∙ b

ok_same : (m n : Message) → ok_of m ≡ ok_of n → m ≡ n
ok_same m n e = cc

err_same : (v w : Wrong) → err_of v ≡ err_of w → v ≡ w
err_same v w e = cc

apart : (m : Message) (w : Wrong) → ok_of m ≡ err_of w → ⊥
apart m w e = cc

pub messages_same : OneEnvelope → (soap bytes : List ℕ) (m n : Message) → Spells soap bytes m → Spells soap bytes n
    → m ≡ n
messages_same one soap bytes m n a b =
    ok_same m n (same_reading soap a.envelope b.envelope (Ok m) (Ok n)
    (one soap bytes a.envelope b.envelope a.is b.is) a.reads b.reads)

-- ---- which cause it is, in order

abbrev rank : (soap bytes : List ℕ) (r : Refusal) → Refuses soap bytes r → ℕ
rank soap bytes _ (too_long more) = 0
rank soap bytes _ (not_utf8 place is) = 1
rank soap bytes _ (not_profile is) = 2
rank soap bytes _ (wrong_version fits is) = 3
rank soap bytes _ (not_envelope fits is) = 4
rank soap bytes _ (without_message wrong e fits is reads) = 5

fits_of : (soap bytes : List ℕ) (r : Refusal) (x : Refuses soap bytes r) → 1 ≤ rank soap bytes r x
    → length bytes ≤ 2097152
fits_of soap bytes _ (too_long more) h = absurd (omega (arith, h))
fits_of soap bytes _ (not_utf8 place is) h = is.0
fits_of soap bytes _ (not_profile is) h = is.0
fits_of soap bytes _ (wrong_version fits is) h = fits.0
fits_of soap bytes _ (not_envelope fits is) h = fits.0
fits_of soap bytes _ (without_message wrong e fits is reads) h = fits.0

utf8_of : (soap bytes : List ℕ) (r : Refusal) (x : Refuses soap bytes r) → 2 ≤ rank soap bytes r x → IsUtf8 bytes
utf8_of soap bytes _ (too_long more) h = absurd (omega (arith, h))
utf8_of soap bytes _ (not_utf8 place is) h = absurd (omega (arith, h))
utf8_of soap bytes _ (not_profile is) h = is.1
utf8_of soap bytes _ (wrong_version fits is) h = fits.1
utf8_of soap bytes _ (not_envelope fits is) h = fits.1
utf8_of soap bytes _ (without_message wrong e fits is reads) h = fits.1

document_of : (soap bytes : List ℕ) (e : Envelope) → IsEnvelope soap bytes e → (tree : Element) × Document bytes tree
document_of soap bytes e is = (_, record { raw = is.raw; is = is.document; resolved = is.resolved })

tree_of : (soap bytes : List ℕ) (r : Refusal) (x : Refuses soap bytes r) → 3 ≤ rank soap bytes r x
    → (tree : Element) × Document bytes tree
tree_of soap bytes _ (too_long more) h = absurd (omega (arith, h))
tree_of soap bytes _ (not_utf8 place is) h = absurd (omega (arith, h))
tree_of soap bytes _ (not_profile is) h = absurd (omega (arith, h))
tree_of soap bytes _ (wrong_version fits is) h = (is.root, is.document)
tree_of soap bytes _ (not_envelope fits is) h = (is.root, is.document)
tree_of soap bytes _ (without_message wrong e fits is reads) h = document_of soap bytes e is

version_of : NotVersion → NotTwice → (soap bytes : List ℕ) (r : Refusal) (x : Refuses soap bytes r)
    → 4 ≤ rank soap bytes r x → ¬ (WrongVersion soap bytes)
version_of version twice soap bytes _ (too_long more) h = absurd (omega (arith, h))
version_of version twice soap bytes _ (not_utf8 place is) h = absurd (omega (arith, h))
version_of version twice soap bytes _ (not_profile is) h = absurd (omega (arith, h))
version_of version twice soap bytes _ (wrong_version fits is) h = absurd (omega (arith, h))
version_of version twice soap bytes _ (not_envelope fits is) h = λ other. twice soap bytes other is
version_of version twice soap bytes _ (without_message wrong e fits is reads) h = version soap bytes e is

outline_of : NotOutline → (soap bytes : List ℕ) (r : Refusal) (x : Refuses soap bytes r)
    → 5 ≤ rank soap bytes r x → ¬ (NotEnvelope soap bytes)
outline_of outline soap bytes _ (too_long more) h = absurd (omega (arith, h))
outline_of outline soap bytes _ (not_utf8 place is) h = absurd (omega (arith, h))
outline_of outline soap bytes _ (not_profile is) h = absurd (omega (arith, h))
outline_of outline soap bytes _ (wrong_version fits is) h = absurd (omega (arith, h))
outline_of outline soap bytes _ (not_envelope fits is) h = absurd (omega (arith, h))
outline_of outline soap bytes _ (without_message wrong e fits is reads) h = outline soap bytes e is

not_cut : (bytes : List ℕ) (place : ℕ) → IsTextUpTo bytes place → IsUtf8 bytes → ⊥
not_cut bytes place is utf8 =
    let all : length bytes ≤ place =
    is.2.longest (length bytes) (omega arith) (subst IsUtf8 (sym (take-length bytes)) utf8) in
    absurd (omega (arith, is.1, all))

rank_within : (soap bytes : List ℕ) (r : Refusal) (x : Refuses soap bytes r) → rank soap bytes r x ≤ 5
rank_within soap bytes _ (too_long more) = omega arith
rank_within soap bytes _ (not_utf8 place is) = omega arith
rank_within soap bytes _ (not_profile is) = omega arith
rank_within soap bytes _ (wrong_version fits is) = omega arith
rank_within soap bytes _ (not_envelope fits is) = omega arith
rank_within soap bytes _ (without_message wrong e fits is reads) = omega arith

-- no cause holds behind another
not_behind : NotVersion → NotOutline → NotTwice → (soap bytes : List ℕ) (r s : Refusal) (x : Refuses soap bytes r)
    (y : Refuses soap bytes s) → rank soap bytes r x < rank soap bytes s y → ⊥
not_behind version outline twice soap bytes _ s (too_long more) y h =
    let fits : length bytes ≤ 2097152 = fits_of soap bytes s y h in
    absurd (omega (arith, more, fits))
not_behind version outline twice soap bytes _ s (not_utf8 place is) y h =
    not_cut bytes place is (utf8_of soap bytes s y h)
not_behind version outline twice soap bytes _ s (not_profile is) y h =
    let found = tree_of soap bytes s y h in
    is.2 found.0 found.1
not_behind version outline twice soap bytes _ s (wrong_version fits is) y h =
    version_of version twice soap bytes s y h is
not_behind version outline twice soap bytes _ s (not_envelope fits is) y h = outline_of outline soap bytes s y h is
not_behind version outline twice soap bytes _ s (without_message wrong e fits is reads) y h =
    let within : rank soap bytes s y ≤ 5 = rank_within soap bytes s y in
    absurd (omega (arith, h, within))

-- the kind of a refusal of bytes that are no envelope
abbrev early : ℕ → FaultKind
early n =
    if n == 0 then kinds.TooLong else if n == 1 then kinds.NotUtf8 else if n == 2 then kinds.NotProfile
    else if n == 3 then kinds.WrongVersion else kinds.NotEnvelope

early_is : (soap bytes : List ℕ) (r : Refusal) (x : Refuses soap bytes r) → rank soap bytes r x < 5
    → r ≡ blind (early (rank soap bytes r x))
early_is soap bytes _ (too_long more) h = refl
early_is soap bytes _ (not_utf8 place is) h = refl
early_is soap bytes _ (not_profile is) h = refl
early_is soap bytes _ (wrong_version fits is) h = refl
early_is soap bytes _ (not_envelope fits is) h = refl
early_is soap bytes _ (without_message wrong e fits is reads) h = absurd (omega (arith, h))

-- an envelope without a message
record Without (soap bytes : List ℕ) (r : Refusal) : Type 0 where
  wrong : Wrong
  envelope : Envelope
  is : IsEnvelope soap bytes envelope
  reads : message_in soap envelope ≡ Err wrong
  told : r ≡ refusal_of wrong

late_is : (soap bytes : List ℕ) (r : Refusal) (x : Refuses soap bytes r) → 5 ≤ rank soap bytes r x
    → Without soap bytes r
late_is soap bytes _ (too_long more) h = absurd (omega (arith, h))
late_is soap bytes _ (not_utf8 place is) h = absurd (omega (arith, h))
late_is soap bytes _ (not_profile is) h = absurd (omega (arith, h))
late_is soap bytes _ (wrong_version fits is) h = absurd (omega (arith, h))
late_is soap bytes _ (not_envelope fits is) h = absurd (omega (arith, h))
late_is soap bytes _ (without_message wrong e fits is reads) h =
    record { wrong = wrong; envelope = e; is = is; reads = reads; told = refl }

late_same : OneEnvelope → (soap bytes : List ℕ) (r s : Refusal) → Without soap bytes r → Without soap bytes s → r ≡ s
late_same one soap bytes r s x y =
    let same : x.envelope ≡ y.envelope = one soap bytes x.envelope y.envelope x.is y.is in
    let wrong : x.wrong ≡ y.wrong =
    err_same x.wrong y.wrong (same_reading soap x.envelope y.envelope (Err x.wrong) (Err y.wrong) same x.reads y.reads)
    in
    x.told ∙ ap refusal_of wrong ∙ sym y.told

early_same : (soap bytes : List ℕ) (r s : Refusal) (x : Refuses soap bytes r) (y : Refuses soap bytes s)
    → rank soap bytes r x ≡ rank soap bytes s y → rank soap bytes r x < 5 → r ≡ s
early_same soap bytes r s x y e h =
    let again : rank soap bytes s y < 5 = omega (arith, e, h) in
    early_is soap bytes r x h ∙ ap (λ (n : ℕ). blind (early n)) e ∙ sym (early_is soap bytes s y again)

pub refusals_same : NotVersion → NotOutline → NotTwice → OneEnvelope → (soap bytes : List ℕ) (r s : Refusal)
    → Refuses soap bytes r → Refuses soap bytes s → r ≡ s
refusals_same version outline twice one soap bytes r s x y = elim (nat_lt (rank soap bytes r x) (rank soap bytes s y))
    as (λ b. nat_lt (rank soap bytes r x) (rank soap bytes s y) ≡ b → r ≡ s) [
      | true ↦ λ e. absurd (not_behind version outline twice soap bytes r s x y (ltb-true _ _ e))
      | false ↦ λ e. elim (nat_lt (rank soap bytes s y) (rank soap bytes r x))
          as (λ b. nat_lt (rank soap bytes s y) (rank soap bytes r x) ≡ b → r ≡ s) [
            | true ↦ λ d. absurd (not_behind version outline twice soap bytes s r y x (ltb-true _ _ d))
            | false ↦ λ d. at_one (ltb-false _ _ e) (ltb-false _ _ d)
          ] refl
    ] refl
  where
    at_one : rank soap bytes s y ≤ rank soap bytes r x → rank soap bytes r x ≤ rank soap bytes s y → r ≡ s
    at_one low high = elim (nat_lt (rank soap bytes r x) 5) as (λ b. nat_lt (rank soap bytes r x) 5 ≡ b → r ≡ s) [
      | true ↦ λ e. early_same soap bytes r s x y (omega (arith, low, high)) (ltb-true _ _ e)
      | false ↦ λ e.
          let late : 5 ≤ rank soap bytes r x = ltb-false _ _ e in
          late_same one soap bytes r s (late_is soap bytes r x late)
          (late_is soap bytes s y (omega (arith, late, high)))
    ] refl

pub not_both : NotVersion → NotOutline → DocumentIsUtf8 → OneEnvelope → (soap bytes : List ℕ) (m : Message)
    (r : Refusal)
    → Spells soap bytes m → ¬ (Refuses soap bytes r)
not_both version outline utf8 one soap bytes m _ a (too_long more) = absurd (omega (arith, a.fits, more))
not_both version outline utf8 one soap bytes m _ a (not_utf8 place is) =
    absurd (not_cut bytes place is (utf8 bytes a.is.raw a.is.document))
not_both version outline utf8 one soap bytes m _ a (not_profile is) =
    let found = document_of soap bytes a.envelope a.is in
    absurd (is.2 found.0 found.1)
not_both version outline utf8 one soap bytes m _ a (wrong_version fits other) =
    absurd (version soap bytes a.envelope a.is other)
not_both version outline utf8 one soap bytes m _ a (not_envelope fits other) =
    absurd (outline soap bytes a.envelope a.is other)
not_both version outline utf8 one soap bytes m _ a (without_message wrong e fits is reads) =
    let same : a.envelope ≡ e = one soap bytes a.envelope e a.is is in
    absurd (apart m wrong (same_reading soap a.envelope e (Ok m) (Err wrong) same a.reads reads))
