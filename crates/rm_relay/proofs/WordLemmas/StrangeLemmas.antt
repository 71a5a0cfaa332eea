-- What one node of a relay says is a stranger's message to each other node and its neighbour, unless that is the one.
use Rattle.std.proofs.Common.{◌≡◌, ℕ, zero, suc, ◌<◌, ◌^◌, List, [], ◌∷◌, refl, sym, ap, ◌∙◌, subst, arith, get_or}
use Rattle.std.proofs.Common.{cond, ◌==◌, ◌-◌, true, false}
use Rattle.std.specs.Prelude.{Option, Some, None, slice_get}
use Rattle.std.specs.List.{AllByRecursion}
use Rattle.rm_base.specs.Numbered.{numbered}
use Rattle.rm_message.specs.declared.elements.header.AckBlock.{AckBlock}
use Rattle.rm_message.specs.declared.elements.header.SeqHeader.{SeqHeader}
use Rattle.rm_message.specs.declared.elements.lifecycle.Lifecycle.TheVariants as life
use Rattle.rm_message.specs.declared.message.Body.{Body}
use Rattle.rm_message.specs.declared.message.Body.TheVariants as body
use Rattle.record_batch.specs.Fact.{Fact}
use Rattle.record_batch.specs.Sequences.Words.{Text}
use Rattle.record_batch.specs.Sequences.Makers.{Maker, Outgoing, Offered, Incoming, Taken, address, maker, makers}
use Rattle.record_batch.specs.Sequences.Makers.{number}
use Rattle.record_batch.specs.Sequences.Find.{IsIncoming, IsOutgoing, incoming_of}
use Rattle.rm_protocol.specs.Pair.{AsksNone, IsForeignBlock, IsForeignCreate, IsForeignData, IsForeignEnd}
use Rattle.rm_protocol.specs.Pair.{IsForeignResponse, IssuedByOne, ReceivesNone, TellsOf}
use Rattle.rm_protocol.specs.Sound.{IsAsked, IsIssuedBy, IsWith, SaysBlock, SaysCreate, SaysData, SaysFinal}
use Rattle.rm_protocol.specs.Sound.{SaysResponse, asked_with}
use Rattle.rm_relay.specs.Word.Roles.{HasRole, IsOfRole, IsStrangeToTheOthers, Known, before, behind}
use Rattle.rm_relay.specs.Word.World.{number_of}
use Rattle.rm_relay.specs.Word.World.{address_of}
use Rattle.rm_relay.specs.declared.word.station.Station.{Station}
use Rattle.rm_relay.specs.declared.word.station.Station.TheVariants.{One, Two, Three}

-- ---- the nodes of the chain

number-small : (at : Station) → number_of at < 2 ^ 60
number-small One = let small : 1 < 2 ^ 60 = omega arith in small
number-small Two = let small : 2 < 2 ^ 60 = omega arith in small
number-small Three = let small : 3 < 2 ^ 60 = omega arith in small

same-number : (p q : Station) → number_of p ≡ number_of q → p ≡ q
same-number One One e = refl
same-number Two Two e = refl
same-number Three Three e = refl
same-number One Two e = let d : 1 ≡ 2 = e in absurd (omega (arith, d))
same-number One Three e = let d : 1 ≡ 3 = e in absurd (omega (arith, d))
same-number Two One e = let d : 2 ≡ 1 = e in absurd (omega (arith, d))
same-number Two Three e = let d : 2 ≡ 3 = e in absurd (omega (arith, d))
same-number Three One e = let d : 3 ≡ 1 = e in absurd (omega (arith, d))
same-number Three Two e = let d : 3 ≡ 2 = e in absurd (omega (arith, d))

same-address : (p q : Station) → address_of p ≡ address_of q → p ≡ q
same-address One One e = refl
same-address Two Two e = refl
same-address Three Three e = refl
same-address One Two e = let d : 49 ≡ 50 = ap (λ l. get_or l 11 0) e in absurd (omega (arith, d))
same-address One Three e = let d : 49 ≡ 51 = ap (λ l. get_or l 11 0) e in absurd (omega (arith, d))
same-address Two One e = let d : 50 ≡ 49 = ap (λ l. get_or l 11 0) e in absurd (omega (arith, d))
same-address Two Three e = let d : 50 ≡ 51 = ap (λ l. get_or l 11 0) e in absurd (omega (arith, d))
same-address Three One e = let d : 51 ≡ 49 = ap (λ l. get_or l 11 0) e in absurd (omega (arith, d))
same-address Three Two e = let d : 51 ≡ 50 = ap (λ l. get_or l 11 0) e in absurd (omega (arith, d))

pub behind-before : (p q : Station) → behind p ≡ Some q → before q ≡ Some p
behind-before One q e = let same : Two ≡ q = cc in subst (λ s. before s ≡ Some One) same refl
behind-before Two q e = let same : Three ≡ q = cc in subst (λ s. before s ≡ Some Two) same refl
behind-before Three q e = absurd (cc)

pub before-behind : (p q : Station) → before p ≡ Some q → behind q ≡ Some p
before-behind One q e = absurd (cc)
before-behind Two q e = let same : One ≡ q = cc in subst (λ s. behind s ≡ Some Two) same refl
before-behind Three q e = let same : Two ≡ q = cc in subst (λ s. behind s ≡ Some Three) same refl

pub issued-same : IssuedByOne → (p q : Station) (t : Text) → IsIssuedBy (number_of p) t → IsIssuedBy (number_of q) t
    → p ≡ q
issued-same apart p q t h k =
    same-number p q (apart (number_of p) (number_of q) t (number-small p) (number-small q) h k)

same-option : {A : Type 0} (o : Option A) (x y : A) → o ≡ Some x → o ≡ Some y → x ≡ y
same-option o x y e f = cc

all-at : {A : Type 0} (P : A → Type 0) (xs : List A) (k : ℕ) (x : A) → AllByRecursion P xs → slice_get xs k ≡ Some x
    → P x
all-at P [] k x h e = absurd (cc)
all-at P (y ∷ ys) zero x h e = let same : y ≡ x = cc in subst P same h.0
all-at P (y ∷ ys) (suc k) x h e = all-at P ys k x h.1 e

pub all-numbered : {A : Type 0} (P : A → Type 0) (xs : List A) (k : ℕ) (x : A) → AllByRecursion P xs
    → numbered xs k ≡ Some x → P x
all-numbered P xs k x h e =
    elim (k == 0) as (λ b. cond b None (slice_get xs (k - 1)) ≡ Some x → P x) [
      | true ↦ λ f. absurd (cc)
      | false ↦ λ f. all-at P xs (k - 1) x h f
    ] e

pub role-of : (at : Station) (r : List Fact) (s : ℕ) (m : Maker) → HasRole at r → maker r s ≡ Some m → IsOfRole at m
role-of at r s m h e = all-numbered (IsOfRole at) (makers r) s m h e

abbrev text-of : Text → Option (ℕ × Text) → Text
text-of t None = t
text-of t (Some made) = made.1

-- a sequence that a node receives on was granted for a message of the node before it
granted-by : (at : Station) (n c : ℕ) (t : Text) (m : Maker) → IsOfRole at m → incoming_of n m ≡ Some (c, t)
    → (prior : Station) × (before at ≡ Some prior) × IsIssuedBy (number_of prior) t
granted-by at n c t (Incoming d u k y l z) role e =
    let same : u ≡ t = ap (text-of t) e in (role.0, role.1, subst (IsIssuedBy (number_of role.0)) same role.2)
granted-by at n c t (Outgoing k to v l) role e = absurd (cc)
granted-by at n c t (Offered k d to y) role e = absurd role
granted-by at n c t (Taken u q k) role e = absurd role

pub answers : (at : Station) (r : List Fact) (s : ℕ) (q t : Text) → HasRole at r → IsIncoming r s q t
    → (prior : Station) × (before at ≡ Some prior) × IsIssuedBy (number_of prior) t
answers at r s q t roles h =
    granted-by at (number r) h.counter t h.maker_ (role-of at r s h.maker_ roles h.there) h.made

-- where it is with a neighbour, that is the one before the node
into-by : IssuedByOne → (q z : Station) (c : List Fact) (n d : ℕ) (t : Text) (m : Maker) → number c ≡ number_of z
    → IsOfRole q m → IsWith c m → incoming_of n m ≡ Some (d, t) → before q ≡ Some z
into-by apart q z c n d t (Incoming e u k y l w) same role g h =
    let prior = issued-same apart role.0 z u role.2 (subst (λ x. IsIssuedBy x u) same g) in
    role.1 ∙ ap Some prior
into-by apart q z c n d t (Outgoing k to v l) same role g h = absurd (cc)
into-by apart q z c n d t (Offered k e to y) same role g h = absurd role
into-by apart q z c n d t (Taken u i k) same role g h = absurd role

into : IssuedByOne → (q z : Station) (b c : List Fact) (s : ℕ) (i t : Text) (m : Maker) → Known q b → Known z c
    → maker b s ≡ Some m → IsWith c m → IsIncoming b s i t → before q ≡ Some z
into apart q z b c s i t m kb kc e g h =
    let same : h.maker_ ≡ m = cc (h.there, e) in
    into-by apart q z c (number b) h.counter t m kc.number_ (role-of q b s m kb.roles e) g
    (subst (λ x. incoming_of (number b) x ≡ Some (h.counter, t)) same h.made)

-- a sequence that was asked of a neighbour: that is the one behind the node
asks-by : (q z : Station) (c : List Fact) (k : ℕ) (m : Maker) → address c ≡ address_of z → IsOfRole q m → IsWith c m
    → asked_with m ≡ Some k → behind q ≡ Some z
asks-by q z c k (Outgoing t to v l) same role g h =
    role.1 ∙ ap Some (same-address role.0 z (sym role.2 ∙ (g ∙ same)))
asks-by q z c k (Incoming e u a y l w) same role g h = absurd (cc)
asks-by q z c k (Offered t e to y) same role g h = absurd role
asks-by q z c k (Taken u i a) same role g h = absurd role

asks : (q z : Station) (b c : List Fact) (s : ℕ) (t : Text) (m : Maker) → Known q b → Known z c
    → maker b s ≡ Some m → IsWith c m → IsAsked b s t → behind q ≡ Some z
asks q z b c s t m kb kc e g h =
    let same : h.maker_ ≡ m = cc (h.there, e) in
    asks-by q z c h.ticket m kc.address_ (role-of q b s m kb.roles e) g
    (subst (λ x. asked_with x ≡ Some h.ticket) same h.asked)

-- ---- a message of p, at q beside z

-- p sends on no sequence that q receives on from z
sent-aside : IssuedByOne → (p q z : Station) (a b c : List Fact) (s : ℕ) (i : Text) → Known p a → Known q b
    → Known z c → (p ≡ z → ⊥) → IsOutgoing a s i → ReceivesNone b c i
sent-aside apart p q z a b c s i ka kb kc other o r m t e g h =
    let next = ka.sends s i o in
    let same : next.0 ≡ q = issued-same apart next.0 q i next.2 (kb.received_ r i t h) in
    let up : behind p ≡ Some q = next.1 ∙ ap Some same in
    other (same-option (before q) p z (behind-before p q up) (into apart q z b c r i t m kb kc e g h))

data-aside : IssuedByOne → (p q z : Station) (a b c : List Fact) (h : Option SeqHeader) (content : Body) → Known p a
    → Known q b → Known z c → (p ≡ z → ⊥) → SaysData a h content → IsForeignData b c h content
data-aside apart p q z a b c None content ka kb kc other s = tt
data-aside apart p q z a b c (Some h) (body.Payload x) ka kb kc other s =
    sent-aside apart p q z a b c s.seq h.ident ka kb kc other s.outgoing
data-aside apart p q z a b c (Some h) (body.Lifecycle x) ka kb kc other s = absurd s
data-aside apart p q z a b c (Some h) (body.Fault x) ka kb kc other s = absurd s
data-aside apart p q z a b c (Some h) body.Empty ka kb kc other s = absurd s

block-aside : IssuedByOne → (p q z : Station) (a b c : List Fact) (k : AckBlock) → Known p a → Known q b → Known z c
    → TellsOf b c → (p ≡ z → ⊥) → SaysBlock a k → IsForeignBlock b c k
block-aside apart p q z a b c k ka kb kc tells other s n e r m there g o =
    let held = s.0 n e in
    let mine = ka.received_ held.seq k.ident held.message_id held.incoming in
    let theirs = tells.granted r k.ident o (record { maker_ = m; there = there; with_ = g }) in
    other (issued-same apart p z k.ident mine (subst (λ x. IsIssuedBy x k.ident) kc.number_ theirs))

create-aside : IssuedByOne → (p z : Station) (a c : List Fact) (t : Option Text) (content : Body) → Known p a
    → Known z c → (p ≡ z → ⊥) → SaysCreate a t content → IsForeignCreate c t content
create-aside apart p z a c None content ka kc other s = tt
create-aside apart p z a c (Some t) (body.Lifecycle (life.Create x)) ka kc other s = λ theirs.
    other (issued-same apart p z t (ka.asked s.0.seq t s.0.asked) (subst (λ x. IsIssuedBy x t) kc.number_ theirs))
create-aside apart p z a c (Some t) (body.Lifecycle (life.CreateResponse x)) ka kc other s = tt
create-aside apart p z a c (Some t) (body.Lifecycle (life.Close x)) ka kc other s = tt
create-aside apart p z a c (Some t) (body.Lifecycle (life.CloseResponse x)) ka kc other s = tt
create-aside apart p z a c (Some t) (body.Lifecycle (life.Terminate x)) ka kc other s = tt
create-aside apart p z a c (Some t) (body.Lifecycle (life.TerminateResponse x)) ka kc other s = tt
create-aside apart p z a c (Some t) (body.Lifecycle (life.Make x)) ka kc other s = tt
create-aside apart p z a c (Some t) (body.Payload x) ka kc other s = tt
create-aside apart p z a c (Some t) (body.Fault x) ka kc other s = tt
create-aside apart p z a c (Some t) body.Empty ka kc other s = tt

answer-aside : IssuedByOne → (p q z : Station) (a b c : List Fact) (s : ℕ) (i t : Text) → Known p a → Known q b
    → Known z c → (p ≡ z → ⊥) → IsIncoming a s i t → AsksNone b c t
answer-aside apart p q z a b c s i t ka kb kc other h r m e g k =
    let prior = answers p a s i t ka.roles h in
    let same : prior.0 ≡ q = issued-same apart prior.0 q t prior.2 (kb.asked r t k) in
    let down : before p ≡ Some q = prior.1 ∙ ap Some same in
    other (same-option (behind q) p z (before-behind p q down) (asks q z b c r t m kb kc e g k))

response-aside : IssuedByOne → (p q z : Station) (a b c : List Fact) (t : Option Text) (content : Body) → Known p a
    → Known q b → Known z c → (p ≡ z → ⊥) → SaysResponse a t content → IsForeignResponse b c t content
response-aside apart p q z a b c None content ka kb kc other s = tt
response-aside apart p q z a b c (Some t) (body.Lifecycle (life.CreateResponse x)) ka kb kc other s =
    answer-aside apart p q z a b c s.seq x.ident t ka kb kc other s.incoming
response-aside apart p q z a b c (Some t) (body.Lifecycle (life.Create x)) ka kb kc other s = tt
response-aside apart p q z a b c (Some t) (body.Lifecycle (life.Close x)) ka kb kc other s = tt
response-aside apart p q z a b c (Some t) (body.Lifecycle (life.CloseResponse x)) ka kb kc other s = tt
response-aside apart p q z a b c (Some t) (body.Lifecycle (life.Terminate x)) ka kb kc other s = tt
response-aside apart p q z a b c (Some t) (body.Lifecycle (life.TerminateResponse x)) ka kb kc other s = tt
response-aside apart p q z a b c (Some t) (body.Lifecycle (life.Make x)) ka kb kc other s = tt
response-aside apart p q z a b c (Some t) (body.Payload x) ka kb kc other s = tt
response-aside apart p q z a b c (Some t) (body.Fault x) ka kb kc other s = tt
response-aside apart p q z a b c (Some t) body.Empty ka kb kc other s = tt

end-aside : IssuedByOne → (p q z : Station) (a b c : List Fact) (content : Body) → Known p a → Known q b → Known z c
    → (p ≡ z → ⊥) → SaysFinal a content → IsForeignEnd b c content
end-aside apart p q z a b c (body.Lifecycle (life.Close x)) ka kb kc other s =
    sent-aside apart p q z a b c s.seq x.ident ka kb kc other s.outgoing
end-aside apart p q z a b c (body.Lifecycle (life.Terminate x)) ka kb kc other s =
    sent-aside apart p q z a b c s.seq x.ident ka kb kc other s.outgoing
end-aside apart p q z a b c (body.Lifecycle (life.Create x)) ka kb kc other s = tt
end-aside apart p q z a b c (body.Lifecycle (life.CreateResponse x)) ka kb kc other s = tt
end-aside apart p q z a b c (body.Lifecycle (life.CloseResponse x)) ka kb kc other s = tt
end-aside apart p q z a b c (body.Lifecycle (life.TerminateResponse x)) ka kb kc other s = tt
end-aside apart p q z a b c (body.Lifecycle (life.Make x)) ka kb kc other s = tt
end-aside apart p q z a b c (body.Payload x) ka kb kc other s = tt
end-aside apart p q z a b c (body.Fault x) ka kb kc other s = tt
end-aside apart p q z a b c body.Empty ka kb kc other s = tt

blocks-aside : IssuedByOne → (p q z : Station) (a b c : List Fact) (ks : List AckBlock) → Known p a → Known q b
    → Known z c → TellsOf b c → (p ≡ z → ⊥) → AllByRecursion (SaysBlock a) ks
    → AllByRecursion (IsForeignBlock b c) ks
blocks-aside apart p q z a b c [] ka kb kc tells other s = tt
blocks-aside apart p q z a b c (k ∷ ks) ka kb kc tells other s = (
  block-aside apart p q z a b c k ka kb kc tells other s.0,
  blocks-aside apart p q z a b c ks ka kb kc tells other s.1,
)

pub strange : IssuedByOne → IsStrangeToTheOthers
strange apart p q z a b c m ka kb kc tells other s numbers = record {
  data_ = data-aside apart p q z a b c m.sequence m.body ka kb kc other s.data_;
  acks = blocks-aside apart p q z a b c m.acks ka kb kc tells other s.acks;
  create = create-aside apart p z a c m.addressing.message_id m.body ka kc other s.create;
  response = response-aside apart p q z a b c m.addressing.relates m.body ka kb kc other s.response;
  final = end-aside apart p q z a b c m.body ka kb kc other s.final;
  numbers = numbers;
}
