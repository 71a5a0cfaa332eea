-- What is said with one record ahead, and that a call comes to it.
use Rattle.std.proofs.Common.{◌≡◌, ℕ, ◌+◌, true, List, [], ◌∷◌, ◌++◌, length, sym, ap}
use Rattle.std.proofs.Common.{subst, ◌∙◌, Option, Some}
use Rattle.std.specs.Prelude.{codes}
use Rattle.std.specs.Option.{option_to_list}
use Rattle.rm_message.specs.declared.elements.lifecycle.Lifecycle.TheVariants as life
use Rattle.rm_message.specs.declared.message.Message.{Message}
use Rattle.record_batch.specs.declared.record.OwnOffer.{OwnOffer}
use Rattle.record_batch.specs.Fact.{Fact, Creating, Accepted, Closing, Ending}
use Rattle.record_batch.specs.Sequences.Words.{Text, last_or}
use Rattle.record_batch.specs.Sequences.Makers.{counter, makers}
use Rattle.record_batch.specs.Sequences.Sources.{accepted_count, out_ident, payload_at, tickets}
use Rattle.record_batch.specs.Sequences.Find.{peer}
use Rattle.record_batch.specs.Sequences.Fits.{all_fit}
use Rattle.rm_protocol.specs.Calls.{Wish, adds, offer_of}
use Rattle.rm_protocol.specs.Messages.{finish_request, request_at}
use Rattle.node_messages.specs.Requests.{create_with}
use Rattle.tables_ahead.specs.Known.{all_records, KnownRecords}
use Rattle.node_calls.specs.Comes.{asked, closing, done, ending}
use Rattle.node_calls.proofs.RequestLemmas.{accepted-last, closing-request, closing-ticket}
use Rattle.node_calls.proofs.RequestLemmas.{creating-request, ending-request, ending-ticket}

-- one record is ahead of r
pub record IsWith (r : List Fact) (f : Fact) (k : KnownRecords) : Type 0 where
  pub records : k.records ≡ r
  pub delta : k.delta ≡ f ∷ []

-- it was put there where nothing was
pub with-pushed : (r : List Fact) (f : Fact) (empty k : KnownRecords) → empty ≡ record { records = r; delta = [] }
    → k.records ≡ empty.records → k.delta ≡ empty.delta ++ f ∷ [] → IsWith r f k
with-pushed r f empty k none records delta = record {
  records = records ∙ ap (λ (x : KnownRecords). x.records) none;
  delta = delta ∙ ap (λ (x : KnownRecords). x.delta ++ f ∷ []) none;
}

-- so it is behind r
pub both : (r : List Fact) (f : Fact) (k : KnownRecords) → IsWith r f k → all_records k ≡ r ++ f ∷ []
both r f k is = ap (λ rs. rs ++ k.delta) is.records ∙ ap (λ d. r ++ d) is.delta

-- ---- what is asked of the records

pub close-ticket : (r : List Fact) (s t : ℕ) (k : KnownRecords) → IsWith r (Closing s t) k
    → last_or 0 (tickets (all_records k) s) ≡ t
close-ticket r s t k is =
    ap (λ (rs : List Fact). last_or 0 (tickets rs s)) (both r (Closing s t) k is) ∙ closing-ticket r s t

pub end-ticket : (r : List Fact) (s t : ℕ) (k : KnownRecords) → IsWith r (Ending s t) k
    → last_or 0 (tickets (all_records k) s) ≡ t
end-ticket r s t k is =
    ap (λ (rs : List Fact). last_or 0 (tickets rs s)) (both r (Ending s t) k is) ∙ ending-ticket r s t

-- the payload is the last that is accepted
pub sent-last : (r : List Fact) (s : ℕ) (p : Text) (k : KnownRecords) → IsWith r (Accepted s p) k
    → payload_at (all_records k) s (accepted_count (all_records k) s) ≡ Some p
sent-last r s p k is =
    subst (λ (rs : List Fact). payload_at rs s (accepted_count rs s) ≡ Some p)
    (sym (both r (Accepted s p) k is)) (accepted-last r s p)

-- ---- what is said

comes : (r : List Fact) (f : Fact) (k : KnownRecords) (o : Option Message) (said : List Fact → List Message)
    → IsWith r f k
    → option_to_list o ≡ said (all_records k)
    → done k.delta (option_to_list o) ≡ adds r (f ∷ []) said
comes r f k o said is e =
    ap (λ ms. done k.delta ms) e
    ∙ ap (λ (rs : List Fact). done k.delta (said rs)) (both r f k is)
    ∙ ap (λ (d : List Fact). done d (said (r ++ f ∷ []))) is.delta

pub comes-asked : (r : List Fact) (w : Wish) (k : KnownRecords) (m : Message) (t : ℕ) (again : Text)
    (o : Option OwnOffer)
    → all_fit [] r ≡ true → IsWith r (Creating t w.to w.via w.expires o) k → t ≡ counter r + 1 → again ≡ w.to
    → o ≡ offer_of (counter r) w.offer → m ≡ create_with (all_records k) again w.via t w.expires o
    → done k.delta (m ∷ []) ≡ asked r w
comes-asked r w k m t again o fit is et ea eo em =
    let own = offer_of (counter r) w.offer in
    let f = Creating (counter r + 1) w.to w.via w.expires own in
    let here : IsWith r f k =
    subst (λ (x : ℕ). IsWith r (Creating x w.to w.via w.expires own) k) et
    (subst (λ (x : Option OwnOffer). IsWith r (Creating t w.to w.via w.expires x) k) eo is) in
    let now = all_records k in
    let said : m ≡ create_with now w.to w.via (counter r + 1) w.expires own =
    em ∙ ap (λ (x : Text). create_with now x w.via t w.expires o) ea
    ∙ ap (λ (x : ℕ). create_with now w.to w.via x w.expires o) et
    ∙ ap (λ (x : Option OwnOffer). create_with now w.to w.via (counter r + 1) w.expires x) eo in
    let n = length (makers r) in
    let request = λ (rs : List Fact). Some (create_with rs w.to w.via (counter r + 1) w.expires own) in
    let waits : request_at now (n + 1) ≡ request now =
    subst (λ (rs : List Fact). request_at rs (n + 1) ≡ request rs) (sym (both r f k here))
    (creating-request r (counter r + 1) w.to w.via w.expires own fit) in
    comes r f k (Some m) (λ now. option_to_list (request_at now (n + 1))) here
    (ap option_to_list (ap (λ (x : Message). Some x) said ∙ sym waits))

pub comes-closing : (r : List Fact) (s : ℕ) (k : KnownRecords) (o : Option Message)
    → IsWith r (Closing s (counter r + 1)) k
    → o ≡ finish_request (all_records k) s (peer (all_records k) s) (out_ident (all_records k) s)
    (codes "CloseSequence") life.Close
    → done k.delta (option_to_list o) ≡ closing r s
comes-closing r s k o is e =
    let f = Closing s (counter r + 1) in
    let said : o ≡ request_at (all_records k) s =
    e ∙ sym (subst (λ (rs : List Fact). request_at rs s
    ≡ finish_request rs s (peer rs s) (out_ident rs s) (codes "CloseSequence") life.Close) (sym (both r f k is))
    (closing-request r s (counter r + 1))) in
    comes r f k o (λ now. option_to_list (request_at now s)) is (ap option_to_list said)

pub comes-ending : (r : List Fact) (s : ℕ) (k : KnownRecords) (o : Option Message)
    → IsWith r (Ending s (counter r + 1)) k
    → o ≡ finish_request (all_records k) s (peer (all_records k) s) (out_ident (all_records k) s)
    (codes "TerminateSequence") life.Terminate
    → done k.delta (option_to_list o) ≡ ending r s
comes-ending r s k o is e =
    let f = Ending s (counter r + 1) in
    let said : o ≡ request_at (all_records k) s =
    e ∙ sym (subst (λ (rs : List Fact). request_at rs s
    ≡ finish_request rs s (peer rs s) (out_ident rs s) (codes "TerminateSequence") life.Terminate)
    (sym (both r f k is)) (ending-request r s (counter r + 1))) in
    comes r f k o (λ now. option_to_list (request_at now s)) is (ap option_to_list said)
