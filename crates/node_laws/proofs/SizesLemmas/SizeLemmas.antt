-- The texts of records have as many bytes as their parts together.
use Rattle.std.proofs.Common.{◌≡◌, ℕ, ◌+◌, ◌*◌, false, List, [], ◌∷◌, length, Option, Some, None, refl, ap, ◌∙◌}
use Rattle.std.proofs.Common.{arith, length-append}
use Rattle.std.specs.List.{flat_map, sum_by}
use Rattle.std.proofs.lemmas.List.Sums.{sum_by-cons}
use Rattle.soap_writer.specs.ElementText.{element_text}
use Rattle.wsa_headers.specs.declared.endpoint.Epr.{Epr}
use Rattle.record_batch.specs.declared.record.OwnOffer.{OwnOffer}
use Rattle.record_batch.specs.declared.record.PeerOffer.{PeerOffer}
use Rattle.record_batch.specs.Batch.{made, creating, created, granted, accepted, acked, received, ticketed, stopped}
use Rattle.record_batch.specs.Batch.{failed, reached, purged, fact_text, fact, batch_text}
use Rattle.record_batch.specs.Fact.{Fact, Made, Creating, Created, Granted, Accepted, Acked, Received, Closing}
use Rattle.record_batch.specs.Fact.{ClosedOut, Closed, Ending, EndedOut, Ended, Failed, Consumed, Dropped, Purged}
use Rattle.record_batch.specs.Format.{Format, byte, number32, number64, text, ◌&◌, optional, counted}
use Rattle.record_batch.specs.Parts.{identifier, behaviour, cause, lapse, via, own_offer, ranges, range, payload}
use Rattle.record_batch.specs.Parts.{binding, endpoint, param, peer_offer}
use Rattle.node_laws.specs.Sizes.Size.{param_size, endpoint_size, accept_size, deadline_size, own_offer_size}
use Rattle.node_laws.specs.Sizes.Size.{peer_offer_size, binding_size, payload_size, fact_size, batch_size}

-- each value of a format has a text of so many bytes
abbrev pub Takes : {A : Type 0} → Format A → (A → ℕ) → Type 0
Takes {A} format size = (x : A) → length (format.written x) ≡ size x

takes-number32 : Takes number32 (λ n. 4)
unfolding number32
takes-number32 n = refl

takes-number64 : Takes number64 (λ n. 8)
unfolding number64
takes-number64 n = refl

takes-text : Takes text (λ t. 4 + length t)
unfolding text
takes-text t = length-append (number32.written (length t)) t ∙ ap (λ (n : ℕ). n + length t) (takes-number32 (length t))

takes-both : {A B : Type 0} (f : Format A) (g : Format B) (m : A → ℕ) (n : B → ℕ) → Takes f m → Takes g n
    → Takes (f & g) (λ x. m x.0 + n x.1)
takes-both f g m n of_f of_g x = omega (arith, length-append (f.written x.0) (g.written x.1), of_f x.0, of_g x.1)

takes-flat : {A : Type 0} (f : Format A) (size : A → ℕ) → Takes f size → (xs : List A)
    → length (flat_map f.written xs) ≡ sum_by size xs
takes-flat f size of_f [] = refl
takes-flat f size of_f (x ∷ xs) =
    omega (
      arith,
      length-append (f.written x) (flat_map f.written xs),
      of_f x,
      takes-flat f size of_f xs,
      sum_by-cons size x xs,
    )

takes-counted : {A : Type 0} (f : Format A) (size : A → ℕ) → Takes f size → Takes (counted f) (λ xs. 4 + sum_by size xs)
takes-counted f size of_f xs =
    omega (
      arith,
      length-append (number32.written (length xs)) (flat_map f.written xs),
      takes-number32 (length xs),
      takes-flat f size of_f xs,
    )

takes-param : Takes param param_size
takes-param p = takes-text (element_text false p)

takes-endpoint : Takes endpoint endpoint_size
unfolding endpoint
takes-endpoint e =
    omega (
      arith,
      takes-both text (counted param) _ _ takes-text (takes-counted param param_size takes-param) (e.address, e.params),
    )

takes-accept : (o : Option Epr) → length ((optional endpoint).written o) ≡ accept_size o
takes-accept None = refl
takes-accept (Some e) = omega (arith, takes-endpoint e)

takes-deadline : (o : Option ℕ) → length ((optional number64).written o) ≡ deadline_size o
takes-deadline None = refl
takes-deadline (Some n) = omega (arith, takes-number64 n)

takes-own_offer : (o : Option OwnOffer) → length ((optional own_offer).written o) ≡ own_offer_size o
takes-own_offer None = refl
takes-own_offer (Some o) =
    omega (arith, takes-both number64 behaviour _ (λ b. 1) takes-number64 (λ b. refl) (o.counter, o.behaviour))

takes-peer_offer : (o : Option PeerOffer) → length ((optional peer_offer).written o) ≡ peer_offer_size o
takes-peer_offer None = refl
takes-peer_offer (Some o) =
    omega (arith, takes-both text endpoint _ endpoint_size takes-text takes-endpoint (o.ident, o.endpoint))

takes-binding : Takes binding binding_size
takes-binding b = omega (arith, takes-both text text _ _ takes-text takes-text (b.prefix, b.space))

takes-payload : Takes payload payload_size
unfolding payload
takes-payload p =
    omega (
      arith,
      takes-both text (counted binding) _ _ takes-text (takes-counted binding binding_size takes-binding)
          (p.bytes, p.scope),
    )

takes-lapse : Takes lapse (λ l. 16)
takes-lapse l = takes-both number64 number64 _ _ takes-number64 takes-number64 (l.months, l.ms)

takes-range : Takes range (λ r. 16)
takes-range r = takes-both number64 number64 _ _ takes-number64 takes-number64 (r.lower, r.upper)

sum-same : {A : Type 0} (n : ℕ) (xs : List A) → sum_by (λ x. n) xs ≡ n * length xs
sum-same n [] = omega arith
sum-same n (x ∷ xs) = omega (arith, sum_by-cons (λ y. n) x xs, sum-same n xs)

takes-ranges : Takes ranges (λ rs. 4 + 16 * length rs)
takes-ranges rs = omega (arith, takes-counted range (λ r. 16) takes-range rs, sum-same 16 rs)

takes-created : Takes created (λ x. 4 + (4 + length x.1.0 + accept_size x.1.1))
unfolding created
takes-created =
    takes-both number32 (identifier & optional endpoint) _ _ takes-number32
    (takes-both text (optional endpoint) _ accept_size takes-text takes-accept)

-- a record
pub length-fact_text : (f : Fact) → length (fact_text f) ≡ fact_size f
unfolding made creating created granted accepted acked received ticketed stopped failed reached purged
length-fact_text (Made node to) =
    omega (arith, takes-both number64 text _ _ takes-number64 takes-text (node, to))
length-fact_text (Creating ticket to v l offer) =
    omega (
      arith,
      takes-both number64 (text & (via & (lapse & optional own_offer))) _ _ takes-number64
          (takes-both text (via & (lapse & optional own_offer)) _ _ takes-text
          (takes-both via (lapse & optional own_offer) (λ x. 1) _ (λ x. refl)
          (takes-both lapse (optional own_offer) _ own_offer_size takes-lapse takes-own_offer)))
          (ticket, (to, (v, (l, offer)))),
    )
length-fact_text (Created seq ident accept) = omega (arith, takes-created (seq, (ident, accept)))
length-fact_text (Granted counter message_id acks_to b deadline l offer) =
    omega (
      arith,
      takes-both number64 (text & (endpoint & (behaviour & (optional number64 & (lapse & optional peer_offer))))) _ _
          takes-number64
          (takes-both text (endpoint & (behaviour & (optional number64 & (lapse & optional peer_offer)))) _ _ takes-text
          (takes-both endpoint (behaviour & (optional number64 & (lapse & optional peer_offer))) endpoint_size _
          takes-endpoint
          (takes-both behaviour (optional number64 & (lapse & optional peer_offer)) (λ x. 1) _ (λ x. refl)
          (takes-both (optional number64) (lapse & optional peer_offer) deadline_size _ takes-deadline
          (takes-both lapse (optional peer_offer) _ peer_offer_size takes-lapse takes-peer_offer)))))
          (counter, (message_id, (acks_to, (b, (deadline, (l, offer)))))),
    )
length-fact_text (Accepted seq t) = omega (arith, takes-both number32 text _ _ takes-number32 takes-text (seq, t))
length-fact_text (Acked seq rs) = omega (arith, takes-both number32 ranges _ _ takes-number32 takes-ranges (seq, rs))
length-fact_text (Received seq n p) =
    omega (
      arith,
      takes-both number32 (number64 & payload) _ _ takes-number32
          (takes-both number64 payload _ payload_size takes-number64 takes-payload) (seq, (n, p)),
    )
length-fact_text (Closing seq ticket) =
    omega (arith, takes-both number32 number64 _ _ takes-number32 takes-number64 (seq, ticket))
length-fact_text (ClosedOut seq) = omega (arith, takes-number32 seq)
length-fact_text (Closed seq v last) =
    omega (
      arith,
      takes-both number32 (cause & number64) _ _ takes-number32
          (takes-both cause number64 (λ x. 1) _ (λ x. refl) takes-number64) (seq, (v, last)),
    )
length-fact_text (Ending seq ticket) =
    omega (arith, takes-both number32 number64 _ _ takes-number32 takes-number64 (seq, ticket))
length-fact_text (EndedOut seq) = omega (arith, takes-number32 seq)
length-fact_text (Ended seq v last) =
    omega (
      arith,
      takes-both number32 (cause & number64) _ _ takes-number32
          (takes-both cause number64 (λ x. 1) _ (λ x. refl) takes-number64) (seq, (v, last)),
    )
length-fact_text (Failed seq fault) =
    omega (arith, takes-both number32 byte _ (λ b. 1) takes-number32 (λ b. refl) (seq, fault))
length-fact_text (Consumed seq upto) =
    omega (arith, takes-both number32 number64 _ _ takes-number32 takes-number64 (seq, upto))
length-fact_text (Dropped seq upto) =
    omega (arith, takes-both number32 number64 _ _ takes-number32 takes-number64 (seq, upto))
length-fact_text (Purged seq rs) =
    omega (arith, takes-both number32 ranges _ _ takes-number32 takes-ranges (seq, rs))

-- a batch
pub batch_text_length : (facts : List Fact) → length (batch_text facts) ≡ batch_size facts
batch_text_length facts = takes-counted fact fact_size length-fact_text facts
