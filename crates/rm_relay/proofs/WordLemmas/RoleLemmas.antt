-- The records of a node of a relay make sequences of its role.
use Rattle.std.proofs.Common.{◌≡◌, ◌⊎◌, ℕ, List, [], ◌∷◌, ◌++◌, refl, sym, ap, ◌∙◌, subst, append-nil}
use Rattle.std.proofs.Common.{inl, inr}
use Rattle.std.specs.Prelude.{Option, Some, None, IfSome}
use Rattle.std.specs.List.{AllByRecursion, flat_map}
use Rattle.std.proofs.lemmas.List.Concat.{flat_map-append}
use Rattle.rm_message.specs.declared.elements.lifecycle.CreateSequence.{CreateSequence}
use Rattle.rm_message.specs.declared.elements.lifecycle.Lifecycle.TheVariants as life
use Rattle.rm_message.specs.declared.message.Body.{Body}
use Rattle.rm_message.specs.declared.message.Body.TheVariants as body
use Rattle.rm_message.specs.declared.message.Message.{Message}
use Rattle.record_batch.specs.declared.record.PeerOffer.{PeerOffer}
use Rattle.record_batch.specs.Fact.{Fact, Made, Creating, Granted}
use Rattle.record_batch.specs.Sequences.Words.{Text, first_or}
use Rattle.record_batch.specs.Sequences.Makers.{address, addresses_of, makers, makers_of, number}
use Rattle.rm_protocol.specs.Calls.{Wish}
use Rattle.rm_protocol.specs.Heard.{Heard}
use Rattle.rm_protocol.specs.Node.{Node, Writing}
use Rattle.rm_protocol.specs.Pair.{Act, Creates, Grants, Sends, Ticks, Closes, Ends, AsksAck, NacksMissing, Polls}
use Rattle.rm_protocol.specs.Pair.{Consumes, Receives, Compacts, Arms, Crashes, Brings, Gained, IsQuiet, IssuedByOne}
use Rattle.rm_protocol.specs.Pair.{AreBrought, IsWished}
use Rattle.rm_protocol.specs.Sound.{Allows, IsGranted, IsIssuedBy, Justified, Says, SaysCreate}
use Rattle.rm_relay.specs.Word.Roles.{HasRole, IsOfRole, Known, before, behind}
use Rattle.rm_relay.specs.Word.World.{number_of}
use Rattle.rm_relay.specs.Word.World.{address_of}
use Rattle.rm_relay.specs.declared.word.station.Station.{Station}
use Rattle.rm_relay.specs.declared.word.station.Station.TheVariants.{One, Two, Three}
use Rattle.rm_relay.proofs.WordLemmas.StrangeLemmas.{answers, behind-before, issued-same}

pub all-append : {A : Type 0} (P : A → Type 0) (xs ys : List A) → AllByRecursion P xs → AllByRecursion P ys
    → AllByRecursion P (xs ++ ys)
all-append P [] ys h k = k
all-append P (x ∷ xs) ys h k = (h.0, all-append P xs ys h.1 k)

pub all-behind : {A : Type 0} (P : A → Type 0) (xs ys : List A) → AllByRecursion P (xs ++ ys) → AllByRecursion P ys
all-behind P [] ys h = h
all-behind P (x ∷ xs) ys h = all-behind P xs ys h.1

pub all-weaker : {A : Type 0} (P Q : A → Type 0) → ((x : A) → P x → Q x) → (xs : List A) → AllByRecursion P xs
    → AllByRecursion Q xs
all-weaker P Q f [] h = tt
all-weaker P Q f (x ∷ xs) h = (f x h.0, all-weaker P Q f xs h.1)

pub all-both : {A : Type 0} (P Q R : A → Type 0) → ((x : A) → P x → Q x → R x) → (xs : List A) → AllByRecursion P xs
    → AllByRecursion Q xs → AllByRecursion R xs
all-both P Q R f [] h k = tt
all-both P Q R f (x ∷ xs) h k = (f x h.0 k.0, all-both P Q R f xs h.1 k.1)

-- the address is that of the node behind this one
pub record IsBehind (at : Station) (to : Text) : Type 0 where
  pub next : Station
  pub follows : behind at ≡ Some next
  pub to_ : to ≡ address_of next

-- the message was issued by the node before this one
pub record IsFrom (at : Station) (t : Text) : Type 0 where
  pub prior : Station
  pub precedes : before at ≡ Some prior
  pub issued : IsIssuedBy (number_of prior) t

-- a record that a node of a relay adds
abbrev pub RoleFact : Station → Fact → Type 0
RoleFact at (Made n a) = ⊥
RoleFact at (Creating ticket to via lapse offer) = IsBehind at to × (offer ≡ None)
RoleFact at (Granted c t acks_to y deadline lapse offer) = IsFrom at t × (offer ≡ None)
RoleFact at _ = Unit {0}

role-makers : (at : Station) (rec : Fact) → RoleFact at rec → AllByRecursion (IsOfRole at) (makers_of rec)
role-makers at (Made n a) h = absurd h
role-makers at (Creating ticket to via lapse offer) h =
    subst (λ o. AllByRecursion (IsOfRole at) (makers_of (Creating ticket to via lapse o))) (sym h.1)
    ((h.0.next, h.0.follows, h.0.to_), tt)
role-makers at (Granted c t acks_to y deadline lapse offer) h =
    subst (λ o. AllByRecursion (IsOfRole at) (makers_of (Granted c t acks_to y deadline lapse o))) (sym h.1)
    ((h.0.prior, h.0.precedes, h.0.issued), tt)
role-makers at _ h = tt

roles-of : (at : Station) (d : List Fact) → AllByRecursion (RoleFact at) d → HasRole at d
roles-of at [] h = tt
roles-of at (rec ∷ d) h =
    all-append (IsOfRole at) (makers_of rec) (makers d) (role-makers at rec h.0) (roles-of at d h.1)

pub has-role-add : (at : Station) (r d : List Fact) → HasRole at r → AllByRecursion (RoleFact at) d
    → HasRole at (r ++ d)
has-role-add at r d h k = subst (AllByRecursion (IsOfRole at)) (sym (flat_map-append makers_of r d))
    (all-append (IsOfRole at) (makers r) (makers d) h (roles-of at d k))

no-address : (at : Station) (rec : Fact) → RoleFact at rec → addresses_of rec ≡ []
no-address at (Made n a) h = absurd h
no-address at _ h = refl

no-addresses : (at : Station) (d : List Fact) → AllByRecursion (RoleFact at) d → flat_map addresses_of d ≡ []
no-addresses at [] h = refl
no-addresses at (rec ∷ d) h =
    ap (λ z. z ++ flat_map addresses_of d) (no-address at rec h.0) ∙ no-addresses at d h.1

pub address-add : (at : Station) (r d : List Fact) → AllByRecursion (RoleFact at) d → address (r ++ d) ≡ address r
address-add at r d h = ap (first_or []) (flat_map-append addresses_of r d
    ∙ ap (λ z. flat_map addresses_of r ++ z) (no-addresses at d h) ∙ append-nil (flat_map addresses_of r))

-- ---- what a granted record says of the node that asked

abbrev pub JustGranted : List Fact → Fact → Type 0
JustGranted a (Granted c t acks_to y deadline lapse offer) =
    IsIssuedBy (number a) t → IfSome offer (λ (taken : PeerOffer). IsGranted a t taken.ident)
JustGranted a _ = Unit {0}

just-one : (mine a : List Fact) (rec : Fact) → Justified mine a rec → JustGranted a rec
just-one mine a (Granted c t acks_to y deadline lapse offer) h = λ i. (h i).1
just-one mine a _ h = tt

pub just-all : (mine a d : List Fact) → AllByRecursion (Justified mine a) d → AllByRecursion (JustGranted a) d
just-all mine a d h = all-weaker (Justified mine a) (JustGranted a) (just-one mine a) d h

pub allowed-just : (mine a d : List Fact) → Allows mine a d → AllByRecursion (JustGranted a) d
allowed-just mine a [] h = tt
allowed-just mine a (rec ∷ d) h = (just-one mine a rec h.1, allowed-just (mine ++ rec ∷ []) a d h.2)

-- a CreateSequence comes to the node behind the one that says it
abbrev pub IsRouted : Station → Station → Body → Type 0
IsRouted from to (body.Lifecycle (life.Create c)) = behind from ≡ Some to
IsRouted from to _ = Unit {0}

no-loop : (p : Station) → before p ≡ Some p → ⊥
no-loop One e = absurd (cc)
no-loop Two e = absurd (cc)
no-loop Three e = absurd (cc)

-- what a message brings
pub heard-role : IssuedByOne → (p at : Station) (a : List Fact) (m : Message) → Known p a → Says a m
    → IsRouted p at m.body → (rec : Fact) → Heard m rec → (behind p ≡ Some at → JustGranted a rec) → RoleFact at rec
heard-role apart p at a m known says routed (Granted c t acks_to y deadline lapse offer) h just =
    (record { prior = p; precedes = behind-before p at next; issued = issued }, by_offer offer (just next))
  where
    create : CreateSequence
    create = h.1.0

    asked : SaysCreate a (Some t) (body.Lifecycle (life.Create create))
    asked = subst (λ z. SaysCreate a z (body.Lifecycle (life.Create create))) h.0
        (subst (SaysCreate a m.addressing.message_id) h.1.1 says.create)

    issued : IsIssuedBy (number_of p) t
    issued = known.asked asked.0.seq t asked.0.asked

    next : behind p ≡ Some at
    next = subst (IsRouted p at) h.1.1 routed

    by_offer : (offer : Option PeerOffer)
        → (IsIssuedBy (number a) t → IfSome offer (λ (taken : PeerOffer). IsGranted a t taken.ident)) → offer ≡ None
    by_offer None just = refl
    by_offer (Some taken) just =
        let g = just (subst (λ n. IsIssuedBy n t) (sym known.number_) issued) in
        let prior = answers p a g.seq taken.ident t known.roles g.incoming in
        let same : prior.0 ≡ p = issued-same apart prior.0 p t prior.2 issued in
        absurd (no-loop p (prior.1 ∙ ap Some same))
heard-role apart p at a m known says routed (Made n x) h just = absurd h
heard-role apart p at a m known says routed (Creating ticket to via lapse offer) h just = absurd h
heard-role apart p at a m known says routed _ h just = tt

quiet-role : (at : Station) (rec : Fact) → IsQuiet rec → RoleFact at rec
quiet-role at (Made n a) h = absurd h
quiet-role at (Creating ticket to via lapse offer) h = absurd h
quiet-role at (Granted c t acks_to y deadline lapse offer) h = absurd h
quiet-role at _ h = tt

wished-role : (at : Station) (wish : Wish) → IsBehind at wish.to → wish.offer ≡ None → (rec : Fact)
    → IsWished wish rec → RoleFact at rec
wished-role at wish next none (Creating ticket to via lapse offer) h = (
  record { next = next.next; follows = next.follows; to_ = h.0 ∙ next.to_ },
  h.1 none,
)
wished-role at wish next none (Made n a) h = absurd h
wished-role at wish next none (Granted c t acks_to y deadline lapse offer) h = absurd h
wished-role at wish next none _ h = tt

-- what a node of a relay is asked for by a line
abbrev pub RoleAct : Station → Act → Type 0
RoleAct at (Creates wish) = IsBehind at wish.to × (wish.offer ≡ None)
RoleAct at (Grants behaviour) = ⊥
RoleAct at (Polls to) = ⊥
RoleAct at (Receives content) = ⊥
RoleAct at _ = Unit {0}

pub act-role : (at : Station) (act : Act) → RoleAct at act → (rec : Fact) → Brings act rec → RoleFact at rec
act-role at (Creates wish) r rec h = wished-role at wish r.0 r.1 rec h
act-role at (Grants behaviour) r rec h = absurd r
act-role at (Sends seq text) r rec h = subst (RoleFact at) (sym h) tt
act-role at (Ticks now) r rec h = quiet-role at rec h
act-role at (Closes seq) r rec h = quiet-role at rec h
act-role at (Ends seq) r rec h = quiet-role at rec h
act-role at (AsksAck seq) r rec h = quiet-role at rec h
act-role at (NacksMissing seq) r rec h = quiet-role at rec h
act-role at (Polls to) r rec h = absurd r
act-role at (Consumes seq upto) r rec h = subst (RoleFact at) (sym h) tt
act-role at (Receives content) r rec h = absurd r
act-role at Compacts r rec h = quiet-role at rec h
act-role at (Arms calls) r rec h = quiet-role at rec h
act-role at (Crashes kept) r rec h = quiet-role at rec h

-- each of a batch
all-role : (at : Station) (P : Fact → Type 0) → ((rec : Fact) → P rec → RoleFact at rec) → (d : List Fact)
    → AllByRecursion P d → AllByRecursion (RoleFact at) d
all-role at P f d h = all-weaker P (RoleFact at) f d h

sent-role : (at : Station) (s : ℕ) (text : Text) (d : List Fact) → AreBrought (Sends s text) d
    → AllByRecursion (RoleFact at) d
sent-role at s text d (inl e) = subst (AllByRecursion (RoleFact at)) (sym e) tt
sent-role at s text d (inr e) = subst (AllByRecursion (RoleFact at)) (sym e) (tt, tt)

pub batch-role : (at : Station) (act : Act) → RoleAct at act → (d : List Fact) → AreBrought act d
    → AllByRecursion (RoleFact at) d
batch-role at (Creates wish) r d h = all-role at _ (act-role at (Creates wish) r) d h
batch-role at (Grants behaviour) r d h = absurd r
batch-role at (Sends seq text) r d h = sent-role at seq text d h
batch-role at (Ticks now) r d h = all-role at _ (act-role at (Ticks now) r) d h
batch-role at (Closes seq) r d h = all-role at _ (act-role at (Closes seq) r) d h
batch-role at (Ends seq) r d h = all-role at _ (act-role at (Ends seq) r) d h
batch-role at (AsksAck seq) r d h = all-role at _ (act-role at (AsksAck seq) r) d h
batch-role at (NacksMissing seq) r d h = all-role at _ (act-role at (NacksMissing seq) r) d h
batch-role at (Polls to) r d h = absurd r
batch-role at (Consumes seq upto) r d h = all-role at _ (act-role at (Consumes seq upto) r) d h
batch-role at (Receives content) r d h = absurd r
batch-role at Compacts r d h = all-role at _ (act-role at Compacts r) d h
batch-role at (Arms calls) r d h = all-role at _ (act-role at (Arms calls) r) d h
batch-role at (Crashes kept) r d h = all-role at _ (act-role at (Crashes kept) r) d h

-- bytes that are no message bring nothing of a role
pub refused-role : (at : Station) (d : List Fact) → AllByRecursion IsQuiet d → AllByRecursion (RoleFact at) d
refused-role at d h = all-role at IsQuiet (quiet-role at) d h

-- what a message brings
pub heard-roles : IssuedByOne → (p at : Station) (a : List Fact) (m : Message) → Known p a → Says a m
    → IsRouted p at m.body → (d : List Fact) → AllByRecursion (Heard m) d
    → (behind p ≡ Some at → AllByRecursion (JustGranted a) d) → AllByRecursion (RoleFact at) d
heard-roles apart p at a m known says routed [] h just = tt
heard-roles apart p at a m known says routed (rec ∷ d) h just = (
  heard-role apart p at a m known says routed rec h.0 (λ e. (just e).0),
  heard-roles apart p at a m known says routed d h.1 (λ e. (just e).1),
)

-- ---- a node, with what it is writing

pub record RoleNow (at : Station) (x : Node) : Type 0 where
  pub now : HasRole at x.whole
  pub address_ : address x.whole ≡ address_of at
  pub next : (d : List Fact) → x.state ≡ Writing d → AllByRecursion (RoleFact at) d

-- after this befell it, where each record that it brings is of the role
pub role-step : (at : Station) (act : Act) (x z : Node) → Gained act x z
    → ((d : List Fact) → z.whole ≡ x.whole ++ d → AreBrought act d → AllByRecursion (RoleFact at) d)
    → ((d : List Fact) → z.state ≡ Writing d → AreBrought act d → AllByRecursion (RoleFact at) d)
    → RoleNow at x → RoleNow at z
role-step at act x z g added writing h = record {
  now = subst (HasRole at) (sym g.is) (has-role-add at x.whole g.delta h.now delta);
  address_ = ap address g.is ∙ address-add at x.whole g.delta delta ∙ h.address_;
  next = λ d e. by_next d e (g.next d e).1;
}
  where
    delta : AllByRecursion (RoleFact at) g.delta
    delta = elim g.from [
      | inl all ↦ added g.delta g.is all
      | inr pending ↦ h.next g.delta pending
    ]

    by_next : (d : List Fact) → z.state ≡ Writing d → AreBrought act d ⊎ (x.state ≡ Writing d)
        → AllByRecursion (RoleFact at) d
    by_next d e (inl all) = writing d e all
    by_next d e (inr pending) = h.next d pending
