-- What bytes spell, or are refused with, may be written.
use Rattle.std.proofs.Common.{ℕ, List, Option, Some, None, subst, arith}
use Rattle.std.specs.Prelude.{IfSome}
use Rattle.rm_base.specs.Text.{IsText}
use Rattle.wsa_headers.specs.Writable.{IsEprWritable, IsAddressingWritable}
use Rattle.wsa_headers.specs.declared.addressing.Addressing.{Addressing}
use Rattle.wsa_headers.specs.declared.endpoint.Epr.{Epr}
use Rattle.rm_message.specs.declared.message.Body.{Body}
use Rattle.rm_message.specs.declared.message.Body.TheVariants as bodies
use Rattle.rm_message.specs.declared.message.Message.{Message}
use Rattle.rm_message.specs.declared.refusal.FaultKind.{FaultKind}
use Rattle.rm_message.specs.declared.refusal.FaultKind.TheVariants as kinds
use Rattle.rm_message.specs.declared.refusal.Refusal.{Refusal}
use Rattle.message_writer.specs.Rules.{IsBodyWritable, BelongTogether, KeepsRules}
use Rattle.message_reader.specs.Message.{Wrong, NotUnderstood, Cardinality, HeaderMissing, BadHeader, Malformed}
use Rattle.message_reader.specs.Message.{Rollover}
use Rattle.message_reader.specs.Refusals.{Spells, anonymous, fault_endpoint, blind, addressed_refusal, refusal_of}
use Rattle.message_reader.specs.Refusals.{Refuses, too_long, not_utf8, not_profile, wrong_version, not_envelope}
use Rattle.message_reader.specs.Refusals.{without_message}
use Rattle.rm_wire.specs.Writable.{IsRefusalWritable}
use Rattle.rm_wire.specs.ReadLaws.WasRead.{IsBodyRead, AreReadTogether, WasRead, PayloadFits}
use Rattle.rm_wire.proofs.ReadLawsLemmas.Addressing.{anonymous_is}
use Rattle.rm_wire.proofs.ReadLawsLemmas.Envelopes.{Documents, parts_are}
use Rattle.rm_wire.proofs.ReadLawsLemmas.Messages.{IsWrongWritable, IsAnswer, message_is}
use Rattle.rm_wire.proofs.ReadLawsLemmas.Names.{WrittenNames}

anonymous_writable : IsEprWritable anonymous
anonymous_writable = record { address = anonymous_is; each = tt; short = omega arith }

endpoint_is : (fault_to reply_to : Option Epr) → IfSome fault_to IsEprWritable → IfSome reply_to IsEprWritable
    → IsEprWritable (fault_endpoint fault_to reply_to)
endpoint_is (Some fault_to) reply_to f r = f
endpoint_is None (Some reply_to) f r = r
endpoint_is None None f r = anonymous_writable

blind_is : (kind : FaultKind) → IsRefusalWritable (blind kind) None
blind_is kind = record { endpoint = anonymous_writable; relates = tt; names = tt; ident = tt; block = tt }

addressed_is : (kind : FaultKind) (a : Addressing) (ident : Option (List ℕ)) → IsAddressingWritable a
    → IfSome ident (IsText 512) → IsRefusalWritable (addressed_refusal kind a ident) None
addressed_is kind a ident is i = record {
  endpoint = endpoint_is a.fault_to a.reply_to is.fault_to is.reply_to;
  relates = is.message_id;
  names = tt;
  ident = i;
  block = tt;
}

wrong_is : (wrong : Wrong) → IsWrongWritable wrong → IsRefusalWritable (refusal_of wrong) None
wrong_is (NotUnderstood names) is =
    record { endpoint = anonymous_writable; relates = tt; names = is; ident = tt; block = tt }
wrong_is Cardinality is = blind_is kinds.Cardinality
wrong_is HeaderMissing is = blind_is kinds.HeaderMissing
wrong_is BadHeader is = blind_is kinds.BadHeader
wrong_is (Malformed a) is = addressed_is kinds.Malformed a None is tt
wrong_is (Rollover a ident) is = addressed_is kinds.Rollover a (Some ident) is.0 is.1

pub spelled : Documents → WrittenNames → (soap bytes : List ℕ) (m : Message) → Spells soap bytes m → WasRead m
spelled documents names soap bytes m is =
    let parts = parts_are documents soap bytes is.envelope is.is is.fits in
    subst IsAnswer is.reads (message_is names soap is.envelope parts)

pub refused : Documents → WrittenNames → (soap bytes : List ℕ) (refusal : Refusal) → Refuses soap bytes refusal
    → IsRefusalWritable refusal None
refused documents names soap bytes _ (too_long more) = blind_is kinds.TooLong
refused documents names soap bytes _ (not_utf8 place is) = blind_is kinds.NotUtf8
refused documents names soap bytes _ (not_profile is) = blind_is kinds.NotProfile
refused documents names soap bytes _ (wrong_version fits is) = blind_is kinds.WrongVersion
refused documents names soap bytes _ (not_envelope fits is) = blind_is kinds.NotEnvelope
refused documents names soap bytes _ (without_message wrong e fits is reads) =
    let parts = parts_are documents soap bytes e is fits.0 in
    wrong_is wrong (subst IsAnswer reads (message_is names soap e parts))

-- ---- the rules of a message that is written

abbrev body_fits : (soap : List ℕ) (m : Message) (body : Body) → IsBodyRead body → PayloadFits soap m.sequence body
    → IsBodyWritable soap body
body_fits soap m bodies.Empty is fits = tt
body_fits soap m (bodies.Payload p) is fits = fits.0
body_fits soap m (bodies.Lifecycle x) is fits = is
body_fits soap m (bodies.Fault f) is fits = is

together_fits : (soap : List ℕ) (m : Message) (body : Body) (is : IsBodyRead body)
    (fits : PayloadFits soap m.sequence body) → AreReadTogether m.addressing m.sequence body
    → BelongTogether soap m.addressing m.sequence body (body_fits soap m body is fits)
together_fits soap m bodies.Empty is fits together = together
together_fits soap m (bodies.Payload p) is fits together = (together, fits.1)
together_fits soap m (bodies.Lifecycle x) is fits together = together
together_fits soap m (bodies.Fault f) is fits together = together

pub keeps : (soap : List ℕ) (m : Message) → WasRead m → PayloadFits soap m.sequence m.body → KeepsRules soap m
keeps soap m is fits = record {
  addressing = is.addressing;
  sequence = is.sequence;
  acks = is.acks;
  asks = is.asks;
  not_understood = is.not_understood;
  body = body_fits soap m m.body is.body fits;
  together = together_fits soap m m.body is.body fits is.together;
}
