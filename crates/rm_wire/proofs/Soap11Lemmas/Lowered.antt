-- A message that may be lowered keeps the rules of SOAP 1.1.
use Rattle.std.proofs.Common.{◌≡◌, ◌≤◌, [], Option, None, length, refl, subst, sym}
use Rattle.soap_envelope.specs.Soap.{soap_space, soap11_space}
use Rattle.wsa_headers.specs.declared.addressing.Addressing.{Addressing}
use Rattle.rm_message.specs.declared.elements.header.SeqHeader.{SeqHeader}
use Rattle.rm_message.specs.declared.message.Body.{Body}
use Rattle.rm_message.specs.declared.message.Body.TheVariants as body
use Rattle.rm_message.specs.declared.message.Message.{Message}
use Rattle.message_reader.specs.Refusals.{Spells}
use Rattle.message_writer.specs.Rules.{IsBodyWritable, BelongTogether}
use Rattle.message_writer.specs.Text11.{IsBody11, KeepsRules11, message11_text}
use Rattle.rm_wire.specs.Soap11.Lower.{lowered_body, lowered, BeginsWell, MayBeLowered}

abbrev body_rules : (b : Body) → IsBodyWritable soap_space b → IsBodyWritable soap11_space (lowered_body b)
body_rules body.Empty rules = tt
body_rules (body.Payload p) rules = record { closed = rules.closed; scope = refl }
body_rules (body.Lifecycle x) rules = rules
body_rules (body.Fault f) rules = rules

together_rules : (a : Addressing) (sequence : Option SeqHeader) (b : Body) (rules : IsBodyWritable soap_space b)
    → BelongTogether soap_space a sequence b rules → (sequence ≡ None → BeginsWell b rules)
    → BelongTogether soap11_space a sequence (lowered_body b) (body_rules b rules)
together_rules a sequence body.Empty rules together first = together
together_rules a sequence (body.Payload p) rules together first = (together.0, first)
together_rules a sequence (body.Lifecycle x) rules together first = together
together_rules a sequence (body.Fault f) rules together first = together

body11 : (b : Body) → IsBody11 b → IsBody11 (lowered_body b)
body11 body.Empty is = tt
body11 (body.Payload p) is = tt
body11 (body.Lifecycle x) is = tt
body11 (body.Fault f) is = is

keeps : (m : Message) → MayBeLowered m → KeepsRules11 (lowered m)
keeps m may = record {
  rules = record {
    addressing = may.rules.addressing;
    sequence = may.rules.sequence;
    acks = may.rules.acks;
    asks = may.rules.asks;
    not_understood = may.rules.not_understood;
    body = body_rules m.body may.rules.body;
    together = together_rules m.addressing m.sequence m.body may.rules.body may.rules.together may.first;
  };
  names = may.names;
  body = body11 m.body may.body;
}

text_by : (m : Message) (b : Body) → m.body ≡ b → message11_text (lowered m) ≡ message11_text m
text_by m body.Empty is = rw is refl
text_by m (body.Payload p) is = rw is refl
text_by m (body.Lifecycle x) is = rw is refl
text_by m (body.Fault f) is = rw is refl

pub lowered_is_read : ((m : Message) → KeepsRules11 m → length (message11_text m) ≤ 2097152
    → Spells soap11_space (message11_text m) m) → (m : Message) → MayBeLowered m → length (message11_text m) ≤ 2097152
    → Spells soap11_space (message11_text m) (lowered m)
lowered_is_read law m may fits =
    let same = text_by m m.body refl in
    subst (λ l. Spells soap11_space l (lowered m)) same
    (law (lowered m) (keeps m may) (subst (λ l. length l ≤ 2097152) (sym same) fits))
