-- Each line of a relay's script keeps what holds of the three nodes.
use Rattle.std.proofs.Common.{◌≡◌, ◌⊎◌, ◌≤◌, ◌+◌, ℕ, Bool, List, [], ◌∷◌}
use Rattle.std.proofs.Common.{length}
use Rattle.std.proofs.Common.{refl, sym, ap, ◌∙◌, subst, arith, inl, inr}
use Rattle.std.specs.Prelude.{Option, Some, None, Result, Ok, Err}
use Rattle.std.specs.List.{AllByRecursion, flat_map}
use Rattle.rm_base.specs.Numbered.{numbered}
use Rattle.rm_base.specs.declared.message.Payload.{Payload}
use Rattle.rm_message.specs.declared.message.Message.{Message}
use Rattle.rm_message.specs.declared.refusal.Refusal.{Refusal}
use Rattle.rm_script.specs.declared.event.Side.{Side}
use Rattle.rm_script.specs.declared.event.Side.TheVariants as side
use Rattle.record_batch.specs.Fact.{Fact, Accepted, Consumed, Dropped}
use Rattle.rm_sides.specs.Destination.Messages.{item_at}
use Rattle.record_batch.specs.Sequences.Destinations.{inbox}
use Rattle.record_batch.specs.Sequences.Find.{find_from}
use Rattle.record_batch.specs.Sequences.Fits.{is_incoming_side, is_outgoing_side}
use Rattle.record_batch.specs.Sequences.Makers.{Maker, makers}
use Rattle.record_batch.specs.Sequences.Sources.{accepted, accepted_count, dropped, dropped_of}
use Rattle.record_batch.specs.Sequences.Words.{last_or}
use Rattle.rm_protocol.specs.Announced.{IsNoGrant}
use Rattle.rm_protocol.specs.Calls.{Wish}
use Rattle.rm_protocol.specs.Heard.{Heard}
use Rattle.rm_protocol.specs.Next.{HasNumbers}
use Rattle.rm_protocol.specs.Node.{Up, Writing, records}
use Rattle.rm_protocol.specs.Pair.{Act, AreBrought, Creates, Grants, Sends, Ticks, Closes, Ends, AsksAck, NacksMissing}
use Rattle.rm_protocol.specs.Pair.{Polls, Consumes, Receives, Compacts, Arms, Crashes, Brings, IsAmong}
use Rattle.rm_protocol.specs.Pair.{IsQuiet, IsWished, MadeAreAPair, MayBefall, MayCome, TellsOf}
use Rattle.rm_protocol.specs.Sound.{Keeps, NothingIsGone, Says}
use Rattle.rm_protocol.specs.Terms.{AreTerms, Terms}
use Rattle.rm_relay.specs.Word.Ends.{acknowledged, first_incoming, first_outgoing, next_item}
use Rattle.rm_relay.specs.Word.Roles.{before, behind}
use Rattle.rm_relay.specs.Word.Word.{AreThree}
use Rattle.rm_relay.specs.Word.World.{Event, Packet, World, address_of, arrives, asker, forwards, happens, moves}
use Rattle.rm_relay.specs.Word.World.{moves_two}
use Rattle.rm_relay.specs.Word.World.{run, sends_on, start, trims, wish_of}
use Rattle.rm_relay.specs.Word.World.{Create, Send, Forward, Trim, Tick, Deliver, Close, End, Compact, Arm, Crash}
use Rattle.rm_relay.specs.declared.word.station.Station.{Station}
use Rattle.rm_relay.specs.declared.word.station.Station.TheVariants.{One, Two, Three}
use Rattle.rm_relay.specs.Word.FirstLemmas.{tested}
use Rattle.rm_relay.proofs.WordLemmas.ForwardLemmas.{IsNoAccept, MayRelay}
use Rattle.rm_relay.proofs.WordLemmas.ReleasedLemmas.{item-there}
use Rattle.rm_relay.proofs.WordLemmas.RoleLemmas.{RoleAct, all-weaker}
use Rattle.rm_relay.proofs.WordLemmas.RoleLemmas.{batch-role, heard-roles, refused-role}
use Rattle.rm_relay.proofs.WordLemmas.SoundLemmas.{IsRight, Saids, said_at}
use Rattle.rm_relay.proofs.WordLemmas.StrangeLemmas.{all-numbered, behind-before, strange}
use Rattle.rm_relay.proofs.WordLemmas.TrimLemmas.{IsNoConsume, MayTrim, acknowledged-few}
use Rattle.rm_relay.proofs.WordLemmas.WorldLemmas.{Befalls, Laws, Sound, fronts, known-at, moves-sound}
use Rattle.rm_relay.proofs.WordLemmas.WorldLemmas.{rears, says-at, wholes}

-- ---- which batches accept nothing

quiet-none : (rec : Fact) → IsQuiet rec → IsNoAccept rec
quiet-none (Accepted s p) h = absurd h
quiet-none _ h = tt

wished-none : (wish : Wish) (rec : Fact) → IsWished wish rec → IsNoAccept rec
wished-none wish (Accepted s p) h = absurd h
wished-none wish _ h = tt

heard-none : (m : Message) (rec : Fact) → Heard m rec → IsNoAccept rec
heard-none m (Accepted s p) h = absurd h
heard-none m _ h = tt

come-none : (content : Result Message Refusal) (rec : Fact) → Brings (Receives content) rec → IsNoAccept rec
come-none (Ok m) rec h = heard-none m rec h
come-none (Err refusal) rec h = quiet-none rec h

-- no payload is sent
abbrev IsNoSend : Act → Type 0
IsNoSend (Sends seq text) = ⊥
IsNoSend _ = Unit {0}

batch-none : (act : Act) → IsNoSend act → (d : List Fact) → AreBrought act d → AllByRecursion IsNoAccept d
batch-none (Creates wish) n d h = all-weaker (IsWished wish) IsNoAccept (wished-none wish) d h
batch-none (Grants behaviour) n d h = all-weaker IsQuiet IsNoAccept quiet-none d h
batch-none (Sends seq text) n d h = absurd n
batch-none (Ticks now) n d h = all-weaker IsQuiet IsNoAccept quiet-none d h
batch-none (Closes seq) n d h = all-weaker IsQuiet IsNoAccept quiet-none d h
batch-none (Ends seq) n d h = all-weaker IsQuiet IsNoAccept quiet-none d h
batch-none (AsksAck seq) n d h = all-weaker IsQuiet IsNoAccept quiet-none d h
batch-none (NacksMissing seq) n d h = all-weaker IsQuiet IsNoAccept quiet-none d h
batch-none (Polls to) n d h = all-weaker IsQuiet IsNoAccept quiet-none d h
batch-none (Consumes seq upto) n d h =
    all-weaker (Brings (Consumes seq upto)) IsNoAccept (λ rec e. subst IsNoAccept (sym e) tt) d h
batch-none (Receives content) n d h =
    all-weaker (Brings (Receives content)) IsNoAccept (come-none content) d h
batch-none Compacts n d h = all-weaker IsQuiet IsNoAccept quiet-none d h
batch-none (Arms calls) n d h = all-weaker IsQuiet IsNoAccept quiet-none d h
batch-none (Crashes kept) n d h = all-weaker IsQuiet IsNoAccept quiet-none d h

-- ---- which batches consume nothing

quiet-still : (rec : Fact) → IsQuiet rec → IsNoConsume rec
quiet-still (Consumed s upto) h = absurd h
quiet-still _ h = tt

wished-still : (wish : Wish) (rec : Fact) → IsWished wish rec → IsNoConsume rec
wished-still wish (Consumed s upto) h = absurd h
wished-still wish _ h = tt

heard-still : (m : Message) (rec : Fact) → Heard m rec → IsNoConsume rec
heard-still m (Consumed s upto) h = absurd h
heard-still m _ h = tt

come-still : (content : Result Message Refusal) (rec : Fact) → Brings (Receives content) rec → IsNoConsume rec
come-still (Ok m) rec h = heard-still m rec h
come-still (Err refusal) rec h = quiet-still rec h

-- nothing is taken from an inbox
abbrev IsNoTake : Act → Type 0
IsNoTake (Consumes seq upto) = ⊥
IsNoTake _ = Unit {0}

batch-still : (act : Act) → IsNoTake act → (d : List Fact) → AreBrought act d → AllByRecursion IsNoConsume d
batch-still (Creates wish) n d h = all-weaker (IsWished wish) IsNoConsume (wished-still wish) d h
batch-still (Grants behaviour) n d h = all-weaker IsQuiet IsNoConsume quiet-still d h
batch-still (Sends seq text) n d (inl e) = subst (AllByRecursion IsNoConsume) (sym e) tt
batch-still (Sends seq text) n d (inr e) = subst (AllByRecursion IsNoConsume) (sym e) (tt, tt)
batch-still (Ticks now) n d h = all-weaker IsQuiet IsNoConsume quiet-still d h
batch-still (Closes seq) n d h = all-weaker IsQuiet IsNoConsume quiet-still d h
batch-still (Ends seq) n d h = all-weaker IsQuiet IsNoConsume quiet-still d h
batch-still (AsksAck seq) n d h = all-weaker IsQuiet IsNoConsume quiet-still d h
batch-still (NacksMissing seq) n d h = all-weaker IsQuiet IsNoConsume quiet-still d h
batch-still (Polls to) n d h = all-weaker IsQuiet IsNoConsume quiet-still d h
batch-still (Consumes seq upto) n d h = absurd n
batch-still (Receives content) n d h =
    all-weaker (Brings (Receives content)) IsNoConsume (come-still content) d h
batch-still Compacts n d h = all-weaker IsQuiet IsNoConsume quiet-still d h
batch-still (Arms calls) n d h = all-weaker IsQuiet IsNoConsume quiet-still d h
batch-still (Crashes kept) n d h = all-weaker IsQuiet IsNoConsume quiet-still d h

-- ---- what a line asks of a node

-- it may befall a node beside any other
abbrev IsFree : Act → Type 0
IsFree act = (a b : List Fact) (said : List Message) → MayBefall a b said act

no-grant : (at : Station) (act : Act) → RoleAct at act → IsNoGrant act
no-grant at (Grants behaviour) role = absurd role
no-grant at _ role = tt

befalls : (w : World) (said : Saids) (at : Station) (act : Act) → RoleAct at act → IsFree act
    → (at ≡ Two → IsNoSend act × IsNoTake act) → Befalls w said at act
befalls w said at act role free none = record {
  may = record {
    prior = λ z e. free (wholes w at) (wholes w z) (said_at said z);
    next = λ z e. free (wholes w at) (wholes w z) (said_at said z);
  };
  role = λ d h just. batch-role at act role d h;
  no_grant = no-grant at act role;
  relays = λ e d h. inl (batch-none act (none e).0 d h);
  trims = λ e d h. inl (batch-still act (none e).1 d h);
}

-- ---- a packet

same-or : (p z : Station) → (p ≡ z) ⊎ (p ≡ z → ⊥)
same-or One One = inl refl
same-or One Two = inr (λ e. absurd (cc))
same-or One Three = inr (λ e. absurd (cc))
same-or Two One = inr (λ e. absurd (cc))
same-or Two Two = inl refl
same-or Two Three = inr (λ e. absurd (cc))
same-or Three One = inr (λ e. absurd (cc))
same-or Three Two = inr (λ e. absurd (cc))
same-or Three Three = inl refl

drops-none : (r : List Fact) (s : ℕ) → NothingIsGone r → flat_map (dropped_of s) r ≡ []
drops-none [] s h = refl
drops-none (Dropped u upto ∷ r) s h = absurd h.0
drops-none (rec ∷ r) s h = drops-none r s h.1

pub none-dropped : (r : List Fact) (s : ℕ) → NothingIsGone r → dropped r s ≡ 0
none-dropped r s h = ap (last_or 0) (drops-none r s h)

module _ (laws : Laws) (terms : Terms) (w : World) (said : Saids) (t : AreTerms terms) (h : Sound terms w said) where
  tells-prior : (at z : Station) → before at ≡ Some z → TellsOf (wholes w at) (wholes w z)
  tells-prior One z e = absurd (cc)
  tells-prior Two z e =
      let same : One ≡ z = cc in subst (λ s. TellsOf w.two.whole (wholes w s)) same (fronts laws terms w said h).1
  tells-prior Three z e =
      let same : Two ≡ z = cc in subst (λ s. TellsOf w.three.whole (wholes w s)) same (rears laws terms w said h).1

  tells-next : (at z : Station) → behind at ≡ Some z → TellsOf (wholes w at) (wholes w z)
  tells-next One z e =
      let same : Two ≡ z = cc in subst (λ s. TellsOf w.one.whole (wholes w s)) same (fronts laws terms w said h).0
  tells-next Two z e =
      let same : Three ≡ z = cc in subst (λ s. TellsOf w.two.whole (wholes w s)) same (rears laws terms w said h).0
  tells-next Three z e = absurd (cc)

  has-numbers : (p : Station) (m : Message) → Says (wholes w p) m → HasNumbers m
  has-numbers One m s = (fronts laws terms w said h).0.numbers m s
  has-numbers Two m s = (fronts laws terms w said h).1.numbers m s
  has-numbers Three m s = (rears laws terms w said h).1.numbers m s

  -- what another node said, beside a neighbour
  may-come : (p at z : Station) (m : Message) → TellsOf (wholes w at) (wholes w z) → IsAmong (said_at said p) m
      → MayCome (wholes w at) (wholes w z) (said_at said z) (Ok m)
  may-come p at z m tells among = elim (same-or p z) [
    | inl same ↦ inl (subst (λ s. IsAmong (said_at said s) m) same among)
    | inr apart ↦
        let says = all-numbered (Says (wholes w p)) (said_at said p) among.0 m (says-at laws terms w said h p)
        among.1 in
        inr (strange laws.apart p at z (wholes w p) (wholes w at) (wholes w z) m (known-at laws terms w said h p)
        (known-at laws terms w said h at) (known-at laws terms w said h z) tells apart says (has-numbers p m says))
  ]

  comes : (p : Packet) (content : Result Message Refusal) → IsRight said p
      → (content ≡ Ok p.message) ⊎ ((refusal : Refusal) × (content ≡ Err refusal))
      → Befalls w said p.to (Receives content)
  comes p content right (inl e) =
      subst (λ c. Befalls w said p.to (Receives c)) (sym e) (record {
        may = record {
          prior = λ z f. may-come p.from p.to z p.message (tells-prior p.to z f) right.among;
          next = λ z f. may-come p.from p.to z p.message (tells-next p.to z f) right.among;
        };
        role = λ d brought just.
            heard-roles laws.apart p.from p.to (wholes w p.from) p.message (known-at laws terms w said h p.from)
            (all-numbered (Says (wholes w p.from)) (said_at said p.from) right.among.0 p.message
            (says-at laws terms w said h p.from) right.among.1) right.routed d brought
            (λ f. just p.from (behind-before p.from p.to f));
        no_grant = tt;
        relays = λ f d brought. inl (batch-none (Receives (Ok p.message)) tt d brought);
        trims = λ f d brought. inl (batch-still (Receives (Ok p.message)) tt d brought);
      })
  comes p content right (inr e) =
      subst (λ c. Befalls w said p.to (Receives c)) (sym e.1) (record {
        may = record { prior = λ z f. tt; next = λ z f. tt };
        role = λ d brought just. refused-role p.to d brought;
        no_grant = tt;
        relays = λ f d brought. inl (batch-none (Receives (Err e.0)) tt d brought);
        trims = λ f d brought. inl (batch-still (Receives (Err e.0)) tt d brought);
      })

  -- ---- what node 2 forwards

  keeps-two : Keeps (records w.two) w.two.whole
  keeps-two = h.front.two.stands.kept

  same-first : (test : Option Maker → Bool) (s : ℕ) → find_from (tested test) 0 (makers (records w.two)) ≡ Some s
      → find_from (tested test) 0 (makers w.two.whole) ≡ Some s
  same-first test s e = sym (ap (find_from (tested test) 0) keeps-two.same.frame.makers_) ∙ e

  count-two : (out : ℕ) → accepted_count (records w.two) out ≡ length (accepted w.two.whole out)
  count-two out =
      let none : 0 + length (accepted w.two.whole out) ≡ length (accepted w.two.whole out) = omega arith in
      (keeps-two.same.sent out).count
      ∙ ap (λ n. n + length (accepted w.two.whole out)) (none-dropped w.two.whole out keeps-two.live) ∙ none

  forwarding : (into out : ℕ) (p : Payload) (d : List Fact) → first_incoming (records w.two) ≡ Some into
      → first_outgoing (records w.two) ≡ Some out → next_item (records w.two) into out ≡ Some p
      → (d ≡ []) ⊎ (d ≡ Accepted out p.bytes ∷ []) → MayRelay w.two.whole d
  forwarding into out p d e f g (inl none) = inl (subst (AllByRecursion IsNoAccept) (sym none) tt)
  forwarding into out p d e f g (inr one) = inr (record {
    from = into;
    out = out;
    payload = p;
    is = one;
    incoming = same-first is_incoming_side into e;
    outgoing = same-first is_outgoing_side out f;
    item = item-there (records w.two) w.two.whole into (length (accepted w.two.whole out)) p keeps-two
        h.front.two.numbered
        (ap (λ n. item_at (inbox (records w.two) into) (n + 1)) (sym (count-two out)) ∙ g);
  })

  -- some messages were said
  abbrev pub IsSoundStill : World → Type 0
  IsSoundStill v = (more : Saids) × Sound terms v more

  moved : (at : Station) (back : Option Station) (act : Act) → Befalls w said at act
      → IsSoundStill (moves terms w at back act)
  moved at back act b = (_, moves-sound laws terms w said t h at back act b)

  asked : (at : Station) (act : Act) → RoleAct at act → IsFree act → (at ≡ Two → IsNoSend act × IsNoTake act)
      → IsSoundStill (moves terms w at None act)
  asked at act role free none = moved at None act (befalls w said at act role free none)

  sent-on : (into out : ℕ) (item : Option Payload) → first_incoming (records w.two) ≡ Some into
      → first_outgoing (records w.two) ≡ Some out → next_item (records w.two) into out ≡ item
      → IsSoundStill (moves_two terms w (sends_on out item))
  sent-on into out None e f g = (said, h)
  sent-on into out (Some p) e f g = moved Two None (Sends out p.bytes) (record {
    may = record { prior = λ z k. tt; next = λ z k. tt };
    role = λ d brought just. batch-role Two (Sends out p.bytes) tt d brought;
    no_grant = tt;
    relays = λ k d brought. forwarding into out p d e f g brought;
    trims = λ k d brought. inl (batch-still (Sends out p.bytes) tt d brought);
  })

  forwards-sound : (into out : Option ℕ) → first_incoming (records w.two) ≡ into
      → first_outgoing (records w.two) ≡ out → IsSoundStill (moves_two terms w (forwards (records w.two) into out))
  forwards-sound (Some into) (Some out) e f =
      sent-on into out (next_item (records w.two) into out) e f refl
  forwards-sound (Some into) None e f = (said, h)
  forwards-sound None out e f = (said, h)

  -- what is acknowledged was accepted
  taking : (into out : ℕ) (d : List Fact) → first_incoming (records w.two) ≡ Some into
      → first_outgoing (records w.two) ≡ Some out
      → AreBrought (Consumes into (acknowledged (records w.two) out)) d → MayTrim w.two.whole d
  taking into out d e f brought = inr (record {
    from = into;
    out = out;
    upto = acknowledged (records w.two) out;
    each = brought;
    incoming = same-first is_incoming_side into e;
    outgoing = same-first is_outgoing_side out f;
    within = subst (λ (n : ℕ). acknowledged (records w.two) out ≤ n) (count-two out)
        (acknowledged-few laws.ends laws.sets laws.within (records w.two) out h.front.two.stands.fit
        h.front.two.stands.proper);
  })

  trims-sound : (into out : Option ℕ) → first_incoming (records w.two) ≡ into
      → first_outgoing (records w.two) ≡ out → IsSoundStill (moves_two terms w (trims (records w.two) into out))
  trims-sound (Some into) (Some out) e f =
      let act = Consumes into (acknowledged (records w.two) out) in
      moved Two None act (record {
        may = record { prior = λ z k. tt; next = λ z k. tt };
        role = λ d brought just. batch-role Two act tt d brought;
        no_grant = tt;
        relays = λ k d brought. inl (batch-none act tt d brought);
        trims = λ k d brought. taking into out d e f brought;
      })
  trims-sound (Some into) None e f = (said, h)
  trims-sound None out e f = (said, h)

  arrived : (p : Option Packet) (k : ℕ) → numbered w.packets k ≡ p → IsSoundStill (arrives terms w p)
  arrived None k e = (said, h)
  arrived (Some p) k e =
      moved p.to (Some p.from) (Receives (terms.read p.message))
      (comes p (terms.read p.message) (all-numbered (IsRight said) w.packets k p h.packets e) (t.read p.message))

  created : (at : Side) → IsSoundStill (moves terms w (asker at) None (Creates (wish_of at)))
  created side.One =
      asked One (Creates (wish_of side.One)) (record { next = Two; follows = refl; to_ = refl }, refl)
      (λ a b s. tt) (λ e. (tt, tt))
  created side.Two =
      asked Two (Creates (wish_of side.Two)) (record { next = Three; follows = refl; to_ = refl }, refl)
      (λ a b s. tt) (λ e. (tt, tt))

  pub happens-sound : (event : Event) → IsSoundStill (happens terms w event)
  happens-sound (Create at) = created at
  happens-sound (Send seq text) =
      asked One (Sends seq text) tt (λ a b s. tt) (λ e. absurd (cc))
  happens-sound Forward =
      forwards-sound (first_incoming (records w.two)) (first_outgoing (records w.two)) refl refl
  happens-sound Trim =
      trims-sound (first_incoming (records w.two)) (first_outgoing (records w.two)) refl refl
  happens-sound (Tick at now) = asked at (Ticks now) tt (λ a b s. tt) (λ e. (tt, tt))
  happens-sound (Deliver k) = arrived (numbered w.packets k) k refl
  happens-sound (Close at seq) = asked at (Closes seq) tt (λ a b s. tt) (λ e. (tt, tt))
  happens-sound (End at seq) = asked at (Ends seq) tt (λ a b s. tt) (λ e. (tt, tt))
  happens-sound (Compact at) = asked at Compacts tt (λ a b s. tt) (λ e. (tt, tt))
  happens-sound (Arm at calls) = asked at (Arms calls) tt (λ a b s. tt) (λ e. (tt, tt))
  happens-sound (Crash at kept) = asked at (Crashes kept) tt (λ a b s. tt) (λ e. (tt, tt))

-- ---- from the start on

pub run-sound : Laws → (terms : Terms) (events : List Event) (w : World) (said : Saids) → AreTerms terms
    → Sound terms w said → (more : Saids) × Sound terms (run terms events w) more
run-sound laws terms [] w said t h = (said, h)
run-sound laws terms (event ∷ events) w said t h =
    let next = happens-sound laws terms w said t h event in
    run-sound laws terms events (happens terms w event) next.0 t next.1

not-writing : (d : List Fact) → Up ≡ Writing d → ⊥
not-writing d e = absurd (cc)

pub start-sound : MadeAreAPair → (terms : Terms) → AreThree terms
    → Sound terms start (record { one = []; two = []; three = [] })
start-sound made terms h = record {
  front = made terms 1 2 (address_of One) (address_of Two) (λ e. absurd (omega (arith, e))) h.one h.two;
  rear = made terms 2 3 (address_of Two) (address_of Three) (λ e. absurd (omega (arith, e))) h.two h.three;
  one = record { now = tt; address_ = refl; next = λ d e. absurd (not-writing d e) };
  two = record { now = tt; address_ = refl; next = λ d e. absurd (not-writing d e) };
  three = record { now = tt; address_ = refl; next = λ d e. absurd (not-writing d e) };
  two_so = record { granted_ = refl; records_ = (tt, tt); writes = λ d e. absurd (not-writing d e) };
  three_so = record { granted_ = refl; records_ = (tt, tt); writes = λ d e. absurd (not-writing d e) };
  packets = tt;
  relayed = λ out. inl refl;
  pending = λ d e. absurd (not-writing d e);
  trimmed = λ t. inl refl;
  trimming = λ d e. absurd (not-writing d e);
}
