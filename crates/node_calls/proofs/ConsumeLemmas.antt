-- What consuming the items of an inbox comes to.
use Rattle.std.proofs.Common.{◌≡◌, ℕ, ◌<◌, ◌≤◌, Bool, true, false, cond, List, [], ◌∷◌, length, refl, sym, ap, subst}
use Rattle.std.proofs.Common.{◌∙◌, arith, Option, Some, None}
use Rattle.std.specs.Prelude.{nat_lt}
use Rattle.std.proofs.lemmas.Bool.Decides.{nat_tests}
use Rattle.node_laws.specs.Sizes.Size.{batch_size}
use Rattle.record_batch.specs.Batch.{batch_text}
use Rattle.record_batch.specs.Fact.{Fact, Consumed}
use Rattle.rm_sides.specs.Destination.Incoming.{Receiving}
use Rattle.record_batch.specs.Sequences.Destinations.{cursor, inbox}
use Rattle.record_batch.specs.Sequences.Makers.{Maker, Incoming, Offered}
use Rattle.record_batch.specs.Sequences.Told.{receiving}
use Rattle.node_tables.specs.Reads.{incoming_of}
use Rattle.rm_protocol.specs.Calls.{PastInbox, consume_in, cursor_to, if_room, refusal}
use Rattle.rm_protocol.specs.Terms.{Terms}
use Rattle.tables_ahead.specs.Known.{KnownRecords}
use Rattle.node_calls.specs.Causes.{inbox_cause, unless_refused}
use Rattle.node_calls.specs.Comes.{consumed, done}
use Rattle.node_calls.proofs.ComesLemmas.{IsWith}

-- ---- the inbox has the items, or not

pub past-inbox : (r : List Fact) (s upto have : ℕ) → have ≡ length (inbox r s) → have < upto
    → Some (PastInbox have) ≡ inbox_cause r s upto
past-inbox r s upto have is more =
    let test : nat_lt (length (inbox r s)) upto ≡ true = grind (arith, nat_tests, is, more) in
    ap (λ (n : ℕ). Some (PastInbox n)) is
    ∙ sym (ap (λ (b : Bool). cond b (Some (PastInbox (length (inbox r s)))) None) test)

pub within-inbox : (r : List Fact) (s upto have : ℕ) → have ≡ length (inbox r s) → upto ≤ have
    → None ≡ inbox_cause r s upto
within-inbox r s upto have is less =
    let test : nat_lt (length (inbox r s)) upto ≡ false = grind (arith, nat_tests, is, less) in
    sym (ap (λ (b : Bool). cond b (Some (PastInbox (length (inbox r s)))) None) test)

pub consume_in-is : (terms : Terms) (r : List Fact) (place s upto : ℕ) → consume_in terms r place s upto
    ≡ unless_refused (inbox_cause r s upto) (if_room terms place (consumed r s upto))
consume_in-is terms r place s upto = tested (nat_lt (length (inbox r s)) upto)
  where
    tested : (b : Bool)
        → cond b (refusal (PastInbox (length (inbox r s)))) (if_room terms place (consumed r s upto))
        ≡ unless_refused (cond b (Some (PastInbox (length (inbox r s)))) None)
        (if_room terms place (consumed r s upto))
    tested true = refl
    tested false = refl

-- ---- the cursor goes on, or stays

pub cursor-known : (r : List Fact) (s : ℕ) (m : Option Maker) (f : Receiving) → Some f ≡ incoming_of r s m
    → f.cursor ≡ cursor r s
cursor-known r s (Some (Incoming counter message_id acks_to behaviour deadline lapse)) f e =
    let same : f ≡ receiving r s behaviour deadline = cc in ap (λ (x : Receiving). x.cursor) same
cursor-known r s (Some (Offered ticket counter to behaviour)) f e =
    let same : f ≡ receiving r s behaviour None = cc in ap (λ (x : Receiving). x.cursor) same
cursor-known r s _ f e = absurd (cc)

pub comes-consumed : (r : List Fact) (s upto : ℕ) (k : KnownRecords) → IsWith r (Consumed s upto) k
    → nat_lt (cursor r s) upto ≡ true → done k.delta [] ≡ consumed r s upto
comes-consumed r s upto k is test =
    ap (λ (d : List Fact). done d [])
    (is.delta ∙ sym (ap (λ (b : Bool). cond b (Consumed s upto ∷ []) []) test))

pub comes-to-nothing : (r : List Fact) (s upto : ℕ) (k : KnownRecords) → k ≡ record { records = r; delta = [] }
    → nat_lt (cursor r s) upto ≡ false → done k.delta [] ≡ consumed r s upto
comes-to-nothing r s upto k none test =
    ap (λ (d : List Fact). done d []) (ap (λ (x : KnownRecords). x.delta) none
    ∙ sym (ap (λ (b : Bool). cond b (Consumed s upto ∷ []) []) test))

-- such a batch is short
pub short-consumed : ((facts : List Fact) → length (batch_text facts) ≡ batch_size facts) → (r : List Fact) (s upto : ℕ)
    (facts : List Fact) → facts ≡ cursor_to r s upto → length (batch_text facts) ≤ 4294967295
short-consumed law r s upto facts is =
    subst (λ (fs : List Fact). length (batch_text fs) ≤ 4294967295) (sym is) (by_test (nat_lt (cursor r s) upto))
  where
    by_test : (b : Bool) → length (batch_text (cond b (Consumed s upto ∷ []) [])) ≤ 4294967295
    by_test true = omega (arith, law (Consumed s upto ∷ []))
    by_test false = omega (arith, law [])
