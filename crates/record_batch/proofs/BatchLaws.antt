-- Batches are read back, and only they are.
use Rattle.std.proofs.Common.{◌≡◌, ℕ, ◌<◌, Bool, true, false, cond, eqb, List, [], ◌∷◌, ◌++◌, length, Option, Some}
use Rattle.std.proofs.Common.{None, IfSome, refl, sym, ap, subst, ◌∙◌, arith}
use Rattle.std.specs.List.{AllByRecursion}
use Rattle.std.proofs.lemmas.Bool.{eqb-true}
use Rattle.std.proofs.lemmas.List.{append-nil}
use Rattle.rm_base.specs.Text.{IsText}
use Rattle.rm_base.specs.declared.message.Behaviour.{Behaviour}
use Rattle.rm_base.specs.declared.message.Binding.{Binding}
use Rattle.rm_base.specs.declared.message.Cause.{Cause}
use Rattle.rm_base.specs.declared.message.Payload.{Payload}
use Rattle.rm_base.specs.declared.lapse.Lapse.{Lapse}
use Rattle.soap_document.specs.Profile.Tree.{Element}
use Rattle.wsa_headers.specs.declared.endpoint.Epr.{Epr}
use Rattle.record_batch.specs.declared.record.OwnOffer.{OwnOffer}
use Rattle.record_batch.specs.declared.record.PeerOffer.{PeerOffer}
use Rattle.record_batch.specs.declared.record.Via.{Via}
use Rattle.record_batch.specs.Batch.{creating_of, granted_of, made, creating, created, granted, accepted, acked}
use Rattle.record_batch.specs.Batch.{received, ticketed, stopped, failed, reached, purged, fact_text, read_as}
use Rattle.record_batch.specs.Batch.{kind_at, fact_at, fact, batch_text, all_of, batch_at}
use Rattle.record_batch.specs.Fact.{Fact, Made, Creating, Created, Granted, Accepted, Acked, Received, Closing}
use Rattle.record_batch.specs.Fact.{ClosedOut, Closed, Ending, EndedOut, Ended, Failed, Consumed, Dropped, Purged}
use Rattle.record_batch.specs.Format.{Format, byte, number32, number64, text, ◌&◌, optional, counted, AreBytes}
use Rattle.record_batch.specs.Format.{IsCounted, IsFront, IsFormat}
use Rattle.record_batch.specs.Parts.{address, identifier, via, behaviour, cause, lapse, own_offer, ranges, payload}
use Rattle.record_batch.specs.Parts.{endpoint, peer_offer}
use Rattle.record_batch.specs.Writable.{IsNumber32, IsNumber64, IsTextWritable, IsLapseWritable, IsOwnOfferWritable}
use Rattle.record_batch.specs.Writable.{AreRangesWritable, IsPayloadWritable, IsEndpointWritable}
use Rattle.record_batch.specs.Writable.{IsPeerOfferWritable, IsParamWritable, IsBindingWritable, IsWritable, IsBatch}
use Rattle.record_batch.specs.Writable.{IsShortParam, IsShortEndpoint, IsShortBinding, IsShortFact, IsShortBatch}
use Rattle.record_batch.proofs.FormatLaws.{bound_is, behind, byte-is, number32-is, number64-is, text-is, both-is}
use Rattle.record_batch.proofs.FormatLaws.{optional-is, counted-is}
use Rattle.record_batch.proofs.PartLaws.{Below, address-is, identifier-is, via-is, behaviour-is, cause-is, lapse-is}
use Rattle.record_batch.proofs.PartLaws.{own_offer-is, ranges-is, payload-is, endpoint-is, peer_offer-is}

-- ---- what a record of each kind has

pub made-is : Below → IsFormat made (λ x. IsNumber64 x.0 × IsText 2048 x.1)
unfolding made
made-is below = both-is number64 address IsNumber64 (IsText 2048) number64-is (address-is below)

-- what may be written of how a sequence is asked for
abbrev pub AreWishes : Lapse × Option OwnOffer → Type 0
AreWishes x = IsLapseWritable x.0 × IfSome x.1 IsOwnOfferWritable

abbrev pub AreWishesVia : Via × (Lapse × Option OwnOffer) → Type 0
AreWishesVia x = Unit {0} × AreWishes x.1

abbrev pub IsAskedOf : List ℕ × (Via × (Lapse × Option OwnOffer)) → Type 0
IsAskedOf x = IsText 2048 x.0 × AreWishesVia x.1

pub creating-is : Below → IsFormat creating (λ x. IsNumber64 x.0 × IsAskedOf x.1)
unfolding creating
creating-is below =
    both-is number64 (address & (via & (lapse & optional own_offer))) IsNumber64 IsAskedOf number64-is
    (both-is address (via & (lapse & optional own_offer)) (IsText 2048) AreWishesVia (address-is below)
    (both-is via (lapse & optional own_offer) (λ v. Unit {0}) AreWishes via-is
    (both-is lapse (optional own_offer) IsLapseWritable (λ o. IfSome o IsOwnOfferWritable) lapse-is
    (optional-is own_offer IsOwnOfferWritable own_offer-is))))

abbrev pub IsAnswered : List ℕ × Option Epr → Type 0
IsAnswered x = IsText 512 x.0 × IfSome x.1 IsEndpointWritable

pub created-is : Below → IsFormat created (λ x. IsNumber32 x.0 × IsAnswered x.1)
unfolding created
created-is below =
    both-is number32 (identifier & optional endpoint) IsNumber32 IsAnswered number32-is
    (both-is identifier (optional endpoint) (IsText 512) (λ o. IfSome o IsEndpointWritable) (identifier-is below)
    (optional-is endpoint IsEndpointWritable (endpoint-is below)))

-- what may be written of the terms of a grant
abbrev pub HasLapse : Lapse × Option PeerOffer → Type 0
HasLapse x = IsLapseWritable x.0 × IfSome x.1 IsPeerOfferWritable

abbrev pub HasDeadline : Option ℕ × (Lapse × Option PeerOffer) → Type 0
HasDeadline x = IfSome x.0 IsNumber64 × HasLapse x.1

abbrev pub HasBehaviour : Behaviour × (Option ℕ × (Lapse × Option PeerOffer)) → Type 0
HasBehaviour x = Unit {0} × HasDeadline x.1

abbrev pub HasAcksTo : Epr × (Behaviour × (Option ℕ × (Lapse × Option PeerOffer))) → Type 0
HasAcksTo x = IsEndpointWritable x.0 × HasBehaviour x.1

abbrev pub HasName : List ℕ × (Epr × (Behaviour × (Option ℕ × (Lapse × Option PeerOffer)))) → Type 0
HasName x = IsText 2048 x.0 × HasAcksTo x.1

pub granted-is : Below → IsFormat granted (λ x. IsNumber64 x.0 × HasName x.1)
unfolding granted
granted-is below =
    both-is number64 (address & (endpoint & (behaviour & (optional number64 & (lapse & optional peer_offer)))))
    IsNumber64 HasName number64-is
    (both-is address (endpoint & (behaviour & (optional number64 & (lapse & optional peer_offer)))) (IsText 2048)
    HasAcksTo (address-is below)
    (both-is endpoint (behaviour & (optional number64 & (lapse & optional peer_offer))) IsEndpointWritable HasBehaviour
    (endpoint-is below)
    (both-is behaviour (optional number64 & (lapse & optional peer_offer)) (λ v. Unit {0}) HasDeadline behaviour-is
    (both-is (optional number64) (lapse & optional peer_offer) (λ o. IfSome o IsNumber64) HasLapse
    (optional-is number64 IsNumber64 number64-is)
    (both-is lapse (optional peer_offer) IsLapseWritable (λ o. IfSome o IsPeerOfferWritable) lapse-is
    (optional-is peer_offer IsPeerOfferWritable (peer_offer-is below)))))))

pub accepted-is : IsFormat accepted (λ x. IsNumber32 x.0 × IsTextWritable x.1)
unfolding accepted
accepted-is = both-is number32 text IsNumber32 IsTextWritable number32-is text-is

pub acked-is : IsFormat acked (λ x. IsNumber32 x.0 × AreRangesWritable x.1)
unfolding acked
acked-is = both-is number32 ranges IsNumber32 AreRangesWritable number32-is ranges-is

abbrev pub IsMessage : ℕ × Payload → Type 0
IsMessage x = IsNumber64 x.0 × IsPayloadWritable x.1

pub received-is : IsFormat received (λ x. IsNumber32 x.0 × IsMessage x.1)
unfolding received
received-is =
    both-is number32 (number64 & payload) IsNumber32 IsMessage number32-is
    (both-is number64 payload IsNumber64 IsPayloadWritable number64-is payload-is)

pub ticketed-is : IsFormat ticketed (λ x. IsNumber32 x.0 × IsNumber64 x.1)
unfolding ticketed
ticketed-is = both-is number32 number64 IsNumber32 IsNumber64 number32-is number64-is

abbrev pub IsStop : Cause × ℕ → Type 0
IsStop x = Unit {0} × IsNumber64 x.1

pub stopped-is : IsFormat stopped (λ x. IsNumber32 x.0 × IsStop x.1)
unfolding stopped
stopped-is =
    both-is number32 (cause & number64) IsNumber32 IsStop number32-is
    (both-is cause number64 (λ v. Unit {0}) IsNumber64 cause-is number64-is)

pub failed-is : IsFormat failed (λ x. IsNumber32 x.0 × (x.1 < 256))
unfolding failed
failed-is = both-is number32 byte IsNumber32 (λ b. b < 256) number32-is byte-is

pub reached-is : IsFormat reached (λ x. IsNumber32 x.0 × IsNumber64 x.1)
unfolding reached
reached-is = both-is number32 number64 IsNumber32 IsNumber64 number32-is number64-is

pub purged-is : IsFormat purged (λ x. IsNumber32 x.0 × AreRangesWritable x.1)
unfolding purged
purged-is = both-is number32 ranges IsNumber32 AreRangesWritable number32-is ranges-is

-- ---- records

as-again : {A : Type 0} (f : Format A) (F : A → Type 0) (of : A → Fact) → IsFormat f F → (x : A) (rest : List ℕ) → F x
    → read_as of f (f.written x ++ rest) ≡ Some (of x, rest)
as-again f F of is_f x rest may = rw (is_f.again x rest may) refl

record-again : Below → (y : Fact) (rest : List ℕ) → IsWritable y → fact_at (fact_text y ++ rest) ≡ Some (y, rest)
unfolding fact_at kind_at
record-again below (Made node to) rest may =
    as-again made _ (λ x. Made x.0 x.1) (made-is below) (node, to) rest (may.0, may.1)
record-again below (Creating ticket to v l offer) rest may =
    as-again creating _ creating_of (creating-is below)
    (ticket, (to, (v, (l, offer)))) rest (may.0, (may.1, (tt, (may.2, may.3))))
record-again below (Created seq ident accept) rest may =
    as-again created _ (λ x. Created x.0 x.1.0 x.1.1) (created-is below) (seq, (ident, accept)) rest
    (may.0, (may.1, may.2))
record-again below (Granted counter message_id acks_to v deadline l offer) rest may =
    as-again granted _ granted_of (granted-is below)
    (counter, (message_id, (acks_to, (v, (deadline, (l, offer)))))) rest
    (may.0, (may.1, (may.2, (tt, (may.3, (may.4, may.5))))))
record-again below (Accepted seq t) rest may =
    as-again accepted _ (λ x. Accepted x.0 x.1) accepted-is (seq, t) rest (may.0, may.1)
record-again below (Acked seq rs) rest may =
    as-again acked _ (λ x. Acked x.0 x.1) acked-is (seq, rs) rest (may.0, may.1)
record-again below (Received seq number p) rest may =
    as-again received _ (λ x. Received x.0 x.1.0 x.1.1) received-is (seq, (number, p)) rest (may.0, (may.1, may.2))
record-again below (Closing seq ticket) rest may =
    as-again ticketed _ (λ x. Closing x.0 x.1) ticketed-is (seq, ticket) rest (may.0, may.1)
record-again below (ClosedOut seq) rest may = as-again number32 _ (λ s. ClosedOut s) number32-is seq rest may
record-again below (Closed seq v last) rest may =
    as-again stopped _ (λ x. Closed x.0 x.1.0 x.1.1) stopped-is (seq, (v, last)) rest (may.0, (tt, may.1))
record-again below (Ending seq ticket) rest may =
    as-again ticketed _ (λ x. Ending x.0 x.1) ticketed-is (seq, ticket) rest (may.0, may.1)
record-again below (EndedOut seq) rest may = as-again number32 _ (λ s. EndedOut s) number32-is seq rest may
record-again below (Ended seq v last) rest may =
    as-again stopped _ (λ x. Ended x.0 x.1.0 x.1.1) stopped-is (seq, (v, last)) rest (may.0, (tt, may.1))
record-again below (Failed seq fault) rest may =
    as-again failed _ (λ x. Failed x.0 x.1) failed-is (seq, fault) rest (may.0, may.1)
record-again below (Consumed seq upto) rest may =
    as-again reached _ (λ x. Consumed x.0 x.1) reached-is (seq, upto) rest (may.0, may.1)
record-again below (Dropped seq upto) rest may =
    as-again reached _ (λ x. Dropped x.0 x.1) reached-is (seq, upto) rest (may.0, may.1)
record-again below (Purged seq rs) rest may =
    as-again purged _ (λ x. Purged x.0 x.1) purged-is (seq, rs) rest (may.0, may.1)

-- a record of one kind that was read
as-only : {A : Type 0} (f : Format A) (F : A → Type 0) (kind : ℕ) (of : A → Fact) → IsFormat f F
    → ((x : A) → fact_text (of x) ≡ kind ∷ f.written x) → ((x : A) → F x → IsWritable (of x)) → (k : ℕ)
    → eqb k kind ≡ true → (bytes : List ℕ) (y : Fact) (rest : List ℕ) → AreBytes bytes
    → read_as of f bytes ≡ Some (y, rest) → IsFront fact IsWritable (k ∷ bytes) y rest
as-only {A} f F kind of is_f written may k here bytes y rest h e =
    let a = bound_is (f.read bytes) (λ x. Some (of x.0, x.1)) (y, rest) e in
    let one = is_f.only bytes a.0.0 a.0.1 h a.1 in
    let found : Fact × List ℕ = (of a.0.0, a.0.1) in
    let whole : found ≡ (y, rest) = cc (a.2) in
    let text : k ∷ bytes ≡ fact_text (of a.0.0) ++ a.0.1 =
    ap (λ (m : ℕ). m ∷ bytes) (eqb-true k kind here) ∙ ap (λ (b : List ℕ). kind ∷ b) one.is
    ∙ ap (λ (t : List ℕ). t ++ a.0.1) (sym (written a.0.0)) in
    record {
      is = text ∙ ap (λ (z : Fact × List ℕ). fact_text z.0 ++ z.1) whole;
      may = subst (λ (z : Fact × List ℕ). IsWritable z.0) whole (may a.0.0 one.may);
    }

-- one of two cases
pick : {P A : Type 0} (b : Bool) (x y : Option A) (z : A) → cond b x y ≡ Some z → (b ≡ true → x ≡ Some z → P)
    → (y ≡ Some z → P) → P
pick true x y z e first second = first refl e
pick false x y z e first second = second e

kind-only : Below → (k : ℕ) (bytes : List ℕ) (y : Fact) (rest : List ℕ) → AreBytes bytes
    → kind_at k bytes ≡ Some (y, rest) → IsFront fact IsWritable (k ∷ bytes) y rest
unfolding kind_at
kind-only below k bytes y rest h e =
    pick (eqb k 1) _ _ (y, rest) e
    (λ t. as-only made _ 1 (λ x. Made x.0 x.1) (made-is below) (λ x. refl) (λ x m. (m.0, m.1)) k t bytes y rest h)
    (λ e. pick (eqb k 2) _ _ (y, rest) e
    (λ t. as-only creating _ 2 creating_of (creating-is below) (λ x. refl)
    (λ x m. (m.0, m.1.0, m.1.1.1.0, m.1.1.1.1)) k t bytes y rest h)
    (λ e. pick (eqb k 3) _ _ (y, rest) e
    (λ t. as-only created _ 3 (λ x. Created x.0 x.1.0 x.1.1) (created-is below) (λ x. refl)
    (λ x m. (m.0, m.1.0, m.1.1)) k t bytes y rest h)
    (λ e. pick (eqb k 4) _ _ (y, rest) e
    (λ t. as-only granted _ 4 granted_of (granted-is below) (λ x. refl)
    (λ x m. (m.0, m.1.0, m.1.1.0, m.1.1.1.1.0, m.1.1.1.1.1.0, m.1.1.1.1.1.1)) k t bytes y rest h)
    (λ e. pick (eqb k 5) _ _ (y, rest) e
    (λ t. as-only accepted _ 5 (λ x. Accepted x.0 x.1) accepted-is (λ x. refl) (λ x m. (m.0, m.1)) k t bytes y rest h)
    (λ e. pick (eqb k 6) _ _ (y, rest) e
    (λ t. as-only acked _ 6 (λ x. Acked x.0 x.1) acked-is (λ x. refl) (λ x m. (m.0, m.1)) k t bytes y rest h)
    (λ e. pick (eqb k 7) _ _ (y, rest) e
    (λ t. as-only received _ 7 (λ x. Received x.0 x.1.0 x.1.1) received-is (λ x. refl)
    (λ x m. (m.0, m.1.0, m.1.1)) k t bytes y rest h)
    (λ e. pick (eqb k 8) _ _ (y, rest) e
    (λ t. as-only ticketed _ 8 (λ x. Closing x.0 x.1) ticketed-is (λ x. refl) (λ x m. (m.0, m.1)) k t bytes y rest h)
    (λ e. pick (eqb k 9) _ _ (y, rest) e
    (λ t. as-only number32 _ 9 (λ s. ClosedOut s) number32-is (λ x. refl) (λ x m. m) k t bytes y rest h)
    (λ e. pick (eqb k 10) _ _ (y, rest) e
    (λ t. as-only stopped _ 10 (λ x. Closed x.0 x.1.0 x.1.1) stopped-is (λ x. refl) (λ x m. (m.0, m.1.1)) k t bytes y
    rest h)
    (λ e. pick (eqb k 11) _ _ (y, rest) e
    (λ t. as-only ticketed _ 11 (λ x. Ending x.0 x.1) ticketed-is (λ x. refl) (λ x m. (m.0, m.1)) k t bytes y rest h)
    (λ e. pick (eqb k 12) _ _ (y, rest) e
    (λ t. as-only number32 _ 12 (λ s. EndedOut s) number32-is (λ x. refl) (λ x m. m) k t bytes y rest h)
    (λ e. pick (eqb k 13) _ _ (y, rest) e
    (λ t. as-only stopped _ 13 (λ x. Ended x.0 x.1.0 x.1.1) stopped-is (λ x. refl) (λ x m. (m.0, m.1.1)) k t bytes y
    rest h)
    (λ e. pick (eqb k 14) _ _ (y, rest) e
    (λ t. as-only failed _ 14 (λ x. Failed x.0 x.1) failed-is (λ x. refl) (λ x m. (m.0, m.1)) k t bytes y rest h)
    (λ e. pick (eqb k 15) _ _ (y, rest) e
    (λ t. as-only reached _ 15 (λ x. Consumed x.0 x.1) reached-is (λ x. refl) (λ x m. (m.0, m.1)) k t bytes y rest h)
    (λ e. pick (eqb k 16) _ _ (y, rest) e
    (λ t. as-only reached _ 16 (λ x. Dropped x.0 x.1) reached-is (λ x. refl) (λ x m. (m.0, m.1)) k t bytes y rest h)
    (λ e. pick (eqb k 17) _ _ (y, rest) e
    (λ t. as-only purged _ 17 (λ x. Purged x.0 x.1) purged-is (λ x. refl) (λ x m. (m.0, m.1)) k t bytes y rest h)
    (λ e. absurd (cc e))))))))))))))))))

record-only : Below → (bytes : List ℕ) (y : Fact) (rest : List ℕ) → AreBytes bytes → fact_at bytes ≡ Some (y, rest)
    → IsFront fact IsWritable bytes y rest
unfolding fact_at
record-only below [] y rest h e = absurd cc
record-only below (k ∷ bytes) y rest h e = kind-only below k bytes y rest (behind (k ∷ []) bytes h) e

pub fact-is : Below → IsFormat fact IsWritable
fact-is below = record { again = record-again below; only = record-only below }

-- ---- batches

all-again : (facts : List Fact) → 0 < length facts → all_of (facts, []) ≡ Some facts
all-again [] some = absurd (omega (arith, some))
all-again (f ∷ facts) some = refl

pub batch-again : Below → (facts : List Fact) → IsBatch facts → batch_at (batch_text facts) ≡ Some facts
unfolding batch_at
batch-again below facts may =
    let is = (counted-is fact IsWritable (fact-is below)).again facts [] may.counted in
    let read : (counted fact).read (batch_text facts) ≡ Some (facts, []) = rw (append-nil (batch_text facts)) at is in
    rw read (all-again facts may.some)

all-only : (x : List Fact × List ℕ) (facts : List Fact) → all_of x ≡ Some facts
    → (x.0 ≡ facts) × (x.1 ≡ []) × (0 < length facts)
all-only ([], []) facts e = absurd cc
all-only (f ∷ more, []) facts e =
    let same : f ∷ more ≡ facts = cc in
    (same, refl, subst (λ (l : List Fact). 0 < length l) same (omega arith))
all-only ([], b ∷ bytes) facts e = absurd cc
all-only (f ∷ more, b ∷ bytes) facts e = absurd cc

pub batch-only : Below → (bytes : List ℕ) (facts : List Fact) → AreBytes bytes → batch_at bytes ≡ Some facts
    → IsBatch facts × (bytes ≡ batch_text facts)
unfolding batch_at
batch-only below bytes facts h e =
    let a = bound_is ((counted fact).read bytes) all_of facts e in
    let p = all-only a.0 facts a.2 in
    let one = (counted-is fact IsWritable (fact-is below)).only bytes a.0.0 a.0.1 h a.1 in
    let text : bytes ≡ batch_text a.0.0 ++ [] = one.is ∙ ap (λ (rest : List ℕ). batch_text a.0.0 ++ rest) p.1 in (
      record { some = p.2; counted = subst (λ (l : List Fact). IsCounted IsWritable l) p.0 one.may },
      text ∙ append-nil (batch_text a.0.0) ∙ ap batch_text p.0,
    )

-- ---- what is read back can be written

short-params : (ps : List Element) → AllByRecursion IsParamWritable ps → AllByRecursion IsShortParam ps
short-params [] h = tt
short-params (p ∷ ps) h = (omega (arith, h.0.few), short-params ps h.1)

short-endpoint : (e : Epr) → IsEndpointWritable e → IsShortEndpoint e
short-endpoint e h =
    record { few = omega (arith, h.params.few); each = short-params e.params h.params.each }

short-bindings : (bs : List Binding) → AllByRecursion IsBindingWritable bs → AllByRecursion IsShortBinding bs
short-bindings [] h = tt
short-bindings (b ∷ bs) h =
    (record { prefix = omega (arith, h.0.0); space = omega (arith, h.0.1) }, short-bindings bs h.1)

short-fact : (f : Fact) → IsWritable f → IsShortFact f
short-fact (Made node to) h = tt
short-fact (Creating ticket to v l offer) h = tt
short-fact (Created seq ident None) h = tt
short-fact (Created seq ident (Some e)) h = short-endpoint e h.2
short-fact (Granted counter message_id acks_to v deadline l None) h = (short-endpoint acks_to h.2, tt)
short-fact (Granted counter message_id acks_to v deadline l (Some o)) h =
    (short-endpoint acks_to h.2, short-endpoint o.endpoint h.5.1)
short-fact (Accepted seq t) h = omega (arith, h.1)
short-fact (Acked seq rs) h = omega (arith, h.1.few)
short-fact (Received seq number p) h =
    record {
      bytes = omega (arith, h.2.bytes);
      few = omega (arith, h.2.scope.few);
      each = short-bindings p.scope h.2.scope.each;
    }
short-fact (Closing seq ticket) h = tt
short-fact (ClosedOut seq) h = tt
short-fact (Closed seq v last) h = tt
short-fact (Ending seq ticket) h = tt
short-fact (EndedOut seq) h = tt
short-fact (Ended seq v last) h = tt
short-fact (Failed seq fault) h = tt
short-fact (Consumed seq upto) h = tt
short-fact (Dropped seq upto) h = tt
short-fact (Purged seq rs) h = omega (arith, h.1.few)

short-facts : (facts : List Fact) → AllByRecursion IsWritable facts → AllByRecursion IsShortFact facts
short-facts [] h = tt
short-facts (f ∷ facts) h = (short-fact f h.0, short-facts facts h.1)

pub short-batch : (facts : List Fact) → IsBatch facts → IsShortBatch facts
short-batch facts h =
    record { few = omega (arith, h.counted.few); each = short-facts facts h.counted.each }
