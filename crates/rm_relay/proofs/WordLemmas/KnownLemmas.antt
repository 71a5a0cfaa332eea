-- What is known of a node of a relay, beside its neighbours.
use Rattle.std.proofs.Common.{◌≡◌, ◌==◌, ℕ, ◌+◌, true, false, cond, List, [], ◌∷◌, length, refl, sym, ◌∙◌}
use Rattle.std.proofs.Common.{subst}
use Rattle.std.specs.Prelude.{Some, None}
use Rattle.std.specs.List.{AllByRecursion}
use Rattle.std.proofs.lemmas.Bool.{eqb-true}
use Rattle.record_batch.specs.Fact.{Fact, Created, Granted}
use Rattle.record_batch.specs.Sequences.Words.{Text}
use Rattle.record_batch.specs.Sequences.Find.{IsOutgoing}
use Rattle.record_batch.specs.Sequences.Makers.{Maker, Outgoing, Offered, Incoming, Taken, address, created_from}
use Rattle.record_batch.specs.Sequences.Makers.{ident_in}
use Rattle.record_batch.specs.Sequences.Makers.{maker, makers, makers_of, number}
use Rattle.rm_protocol.specs.Pair.{IsBetweenThem, TellsOf}
use Rattle.rm_protocol.specs.Sound.{IfWith, IsAgreed, IsAsked, IsIssuedBy, IsWith, Justified, asked_with}
use Rattle.rm_relay.specs.Word.Roles.{HasRole, IsOfRole, Known, before, behind}
use Rattle.rm_relay.specs.Word.World.{number_of}
use Rattle.rm_relay.specs.Word.World.{address_of}
use Rattle.rm_relay.specs.declared.word.station.Station.{Station}
use Rattle.rm_relay.proofs.WordLemmas.RoleLemmas.{all-behind}
use Rattle.rm_relay.proofs.WordLemmas.StrangeLemmas.{role-of}

-- a sequence with an identifier was asked for, where it is with the other node
record IsSentOn (a b : List Fact) (s : ℕ) : Type 0 where
  maker_ : Maker
  there : maker a s ≡ Some maker_
  asked : IsWith b maker_ → (t : Text) × IsAsked a s t

sent-on : (at : Station) (a b r : List Fact) (k s : ℕ) (q : Text) → HasRole at r → AllByRecursion (Justified a b) r
    → ident_in (created_from k r) s ≡ Some q → IsSentOn a b s
sent-on at a b [] k s q role h e = absurd (cc)
sent-on at a b (Created t p accept ∷ r) k s q role h e =
    elim (t == s) as (λ z. (t == s) ≡ z → cond z (Some p) (ident_in (created_from (k + 0) r) s) ≡ Some q
    → IsSentOn a b s) [
      | true ↦ λ c d.
          let here = subst (λ y. IfWith a b y (IsAgreed a b y p)) (eqb-true t s c) h.0 in
          record {
            maker_ = here.maker_;
            there = here.there;
            asked = λ w. ((here.holds w).message_id, (here.holds w).asked);
          }
      | false ↦ λ c d. sent-on at a b r (k + 0) s q role h.1 d
    ] refl e
sent-on at a b (Granted c u acks y l j (Some taken) ∷ r) k s q role h e = absurd role.1.0
sent-on at a b (Granted c u acks y l j None ∷ r) k s q role h e = sent-on at a b r (k + 1) s q role.1 h.1 e
sent-on at a b (rec ∷ r) k s q role h e =
    sent-on at a b r (k + length (makers_of rec)) s q (all-behind (IsOfRole at) (makers_of rec) (makers r) role) h.1 e

-- the node there has the records b beside the node with records a
pub record Beside (z : Station) (a b : List Fact) : Type 0 where
  pub number_ : number b ≡ number_of z
  pub address_ : address b ≡ address_of z
  pub tells : TellsOf a b
  pub justified : AllByRecursion (Justified a b) a

-- an incoming sequence was not asked for
incoming-apart : (a : List Fact) (s : ℕ) (t : Text) (m : Maker) → maker a s ≡ Some m → IsAsked a s t
    → asked_with m ≡ None → ⊥
incoming-apart a s t m e h none =
    let same : h.maker_ ≡ m = cc (h.there, e) in
    let some : asked_with m ≡ Some h.ticket = subst (λ x. asked_with x ≡ Some h.ticket) same h.asked in
    absurd (cc (some, none))

-- a sequence that a node sends on is one with the node behind it
pub sent-behind : (at : Station) (a : List Fact) (here : Station → List Fact) (s : ℕ) (q : Text) (m : Maker)
    → HasRole at a → ((z : Station) → before at ≡ Some z → Beside z a (here z))
    → ((z : Station) → behind at ≡ Some z → Beside z a (here z)) → IsOutgoing a s q → maker a s ≡ Some m
    → IsOfRole at m → (next : Station) × (behind at ≡ Some next) × IsBetweenThem a (here next) s
sent-behind at a here s q (Outgoing ticket to via lapse) roles prior next o e role =
    let b = next role.0 role.1 in (
      role.0,
      role.1,
      record { maker_ = Outgoing ticket to via lapse; there = e; with_ = role.2 ∙ sym b.address_ },
    )
sent-behind at a here s q (Incoming c t k y l w) roles prior next o e role =
    let b = prior role.0 role.1 in
    let sent = sent-on at a (here role.0) a 0 s q roles b.justified o.is in
    let same : sent.maker_ ≡ Incoming c t k y l w = cc (sent.there, e) in
    let asked = sent.asked (subst (IsWith (here role.0)) (sym same)
    (subst (λ n. IsIssuedBy n t) (sym b.number_) role.2)) in
    absurd (incoming-apart a s asked.0 (Incoming c t k y l w) e asked.1 refl)
sent-behind at a here s q (Offered ticket c to y) roles prior next o e role = absurd role
sent-behind at a here s q (Taken t i k) roles prior next o e role = absurd role

-- so its identifier was issued by that node
sends-by : (at : Station) (a : List Fact) (here : Station → List Fact) (s : ℕ) (q : Text) (m : Maker)
    → HasRole at a → ((z : Station) → before at ≡ Some z → Beside z a (here z))
    → ((z : Station) → behind at ≡ Some z → Beside z a (here z)) → IsOutgoing a s q → maker a s ≡ Some m
    → IsOfRole at m → (next : Station) × (behind at ≡ Some next) × IsIssuedBy (number_of next) q
sends-by at a here s q m roles prior next o e role =
    let sent = sent-behind at a here s q m roles prior next o e role in
    let b = next sent.0 sent.1 in
    (sent.0, sent.1, subst (λ n. IsIssuedBy n q) b.number_ (b.tells.granted s q o sent.2))

-- what is known of the node there, which has a neighbour with records b
pub known : (at : Station) (a b : List Fact) (here : Station → List Fact) → number a ≡ number_of at
    → address a ≡ address_of at → HasRole at a → TellsOf a b
    → ((s : ℕ) (q : Text) → IsOutgoing a s q → (m : Maker) × (maker a s ≡ Some m))
    → ((z : Station) → before at ≡ Some z → Beside z a (here z))
    → ((z : Station) → behind at ≡ Some z → Beside z a (here z)) → Known at a
known at a b here numbered placed roles tells made prior next = record {
  number_ = numbered;
  address_ = placed;
  roles = roles;
  asked = λ s t h. subst (λ n. IsIssuedBy n t) numbered (tells.asked s t h);
  received_ = λ s q t h. subst (λ n. IsIssuedBy n q) numbered (tells.received_ s q t h);
  sends = λ s q o.
      let m = made s q o in
      sends-by at a here s q m.0 roles prior next o m.1 (role-of at a s m.0 roles m.1);
}
