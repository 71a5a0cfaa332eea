-- What a node's own terms are.
use Rattle.std.proofs.Common.{◌≡◌, ℕ, ◌<◌, ◌≤◌, Bool, true, false, List, length, refl, sym, subst, arith}
use Rattle.std.proofs.Common.{Option, Some, None}
use Rattle.std.specs.Prelude.{nat_le, IfSome, Result}
use Rattle.std.proofs.lemmas.Bool.{leb-true}
use Rattle.std.proofs.lemmas.Bool.Decides.{nat_tests}
use Rattle.rm_message.specs.declared.elements.header.AckBlock.{AckBlock}
use Rattle.rm_base.specs.declared.lapse.Lapse.{Lapse}
use Rattle.rm_message.specs.declared.message.Message.{Message}
use Rattle.rm_message.specs.declared.refusal.FaultKind.{FaultKind}
use Rattle.rm_message.specs.declared.refusal.FaultKind.TheVariants.{SequenceClosed}
use Rattle.rm_message.specs.declared.refusal.Refusal.{Refusal}
use Rattle.message_writer.specs.Faults.{acks_of, fault_of}
use Rattle.record_batch.specs.Batch.{batch_text}
use Rattle.record_batch.specs.Fact.{Fact}
use Rattle.record_batch.specs.Sequences.Makers.{counter}
use Rattle.rm_protocol.specs.Terms.{Terms, AreTerms, EndsLater, ReadsBack, IsFault, header_blocks}
use Rattle.node_laws.specs.OwnTerms.{EndsAsTold, AreOwn}
use Rattle.node_laws.proofs.Calendar.{has-deadline}
use Rattle.node_laws.proofs.Content.{Documents, told}
use Rattle.node_laws.proofs.Deadlines.{ends-later}

later-by : (now : ℕ) (lapse : Lapse) (end : Option ℕ) → EndsAsTold now lapse end
    → IfSome end (λ (moment : ℕ). now < moment)
later-by now lapse None h = tt
later-by now lapse (Some end) h = by_test (nat_le now 200000000000000) refl
  where
    by_test : (x : Bool) → nat_le now 200000000000000 ≡ x → now < end
    by_test true e =
        let told = h.told (leb-true now 200000000000000 e) in
        ends-later told.0 now lapse.months lapse.ms end told.1 told.2
    by_test false e =
        let past : 200000000000000 < now = grind (arith, nat_tests) in
        let none = h.later past in
        absurd (cc)

-- a duration ends after it begins
pub own-later : (terms : Terms) → AreOwn terms → EndsLater terms
own-later terms own now lapse = later-by now lapse (terms.deadline now lapse) (own.deadline now lapse)

same-blocks : (kind : FaultKind) (block : Option AckBlock) → acks_of kind block ≡ header_blocks kind block
same-blocks SequenceClosed block = refl
same-blocks _ block = refl

-- what the protocol asks of terms holds of a node's own
pub own-are-terms : ((batch : List Fact) → counter batch ≤ length (batch_text batch)) → (terms : Terms) → AreOwn terms
    → ReadsBack terms → AreTerms terms
own-are-terms law terms own back = record {
  size = λ batch. let same = own.size batch in omega (arith, same, law batch);
  deadline = own-later terms own;
  fault = λ refusal block. subst (IsFault (header_blocks refusal.kind block)) (sym (own.fault refusal block)) (record {
    content = _;
    body = refl;
    acks = same-blocks refusal.kind block;
    sequence = refl;
  });
  read = back;
}

-- there are such terms, over any network
pub there-are-own : Documents → (takes : List Message → Message → Bool) (read : Message → Result Message Refusal)
    → (terms : Terms) × (terms.takes ≡ takes) × (terms.read ≡ read) × AreOwn terms
there-are-own documents takes read = (
  record {
    size = λ batch. length (batch_text batch);
    deadline = λ now lapse. (has-deadline now lapse).end;
    is_content = λ bytes. (told documents bytes).answer;
    fault = fault_of;
    read = read;
    takes = takes;
  },
  refl,
  refl,
  record {
    size = λ batch. refl;
    deadline = λ now lapse. (has-deadline now lapse).is;
    content = λ bytes. (told documents bytes).tells;
    fault = λ refusal block. refl;
  },
)
