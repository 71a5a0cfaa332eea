-- What holds in every world that a relay can reach is kept by what befalls one of its nodes.
use Rattle.std.proofs.Common.{◌≡◌, ◌⊎◌, ℕ, List, ◌++◌, refl, sym, ◌∙◌, subst, inl, inr}
use Rattle.std.specs.Prelude.{Option, Some}
use Rattle.std.specs.List.{AllByRecursion}
use Rattle.rm_message.specs.declared.message.Message.{Message}
use Rattle.record_batch.specs.Fact.{Fact}
use Rattle.rm_base.specs.declared.message.Behaviour.TheVariants.{FollowingFirstGap}
use Rattle.rm_protocol.specs.Announced.{AnnouncesOnly, AnnouncesStill, IsNoGrant}
use Rattle.rm_protocol.specs.Consumed.{GoesOn}
use Rattle.rm_protocol.specs.Node.{Node, Writing}
use Rattle.rm_protocol.specs.Pair.{APairTells, Act, AreBrought, Gained, IsBetweenThem, IsPair}
use Rattle.rm_protocol.specs.Pair.{IssuedByOne, MayBefall, MayGoOn, PairStep, PairsTurn, StaysAPair}
use Rattle.rm_protocol.specs.Pair.{TellsOf}
use Rattle.rm_protocol.specs.Pair.{acted, left}
use Rattle.rm_sides.specs.Ranges.Laws.{EndsAreRight}
use Rattle.record_batch.specs.Snapshot.Same.{IsLive, SetsUnite}
use Rattle.record_batch.specs.Sequences.Find.{IsOutgoing}
use Rattle.record_batch.specs.Sequences.Idents.{IssuesOnce}
use Rattle.record_batch.specs.Sequences.Words.{Text}
use Rattle.rm_protocol.specs.Exact.{AckedWereAccepted}
use Rattle.rm_protocol.specs.Sound.{NothingIsGone, Says}
use Rattle.rm_protocol.specs.Terms.{AreTerms, Terms}
use Rattle.rm_relay.specs.Word.Roles.{Known, before, behind}
use Rattle.rm_relay.specs.Word.World.{number_of}
use Rattle.rm_relay.specs.Word.World.{World, moves, node, packets_of}
use Rattle.rm_relay.specs.declared.word.station.Station.{Station}
use Rattle.rm_relay.specs.declared.word.station.Station.TheVariants.{One, Two, Three}
use Rattle.rm_relay.proofs.WordLemmas.ForwardLemmas.{HasRelayed, MayRelay, relayed-add}
use Rattle.rm_relay.proofs.WordLemmas.KnownLemmas.{Beside, known, sent-behind}
use Rattle.rm_relay.proofs.WordLemmas.RoleLemmas.{JustGranted, RoleFact, RoleNow, all-behind, allowed-just, just-all}
use Rattle.rm_relay.proofs.WordLemmas.RoleLemmas.{role-step}
use Rattle.rm_relay.proofs.WordLemmas.SoundLemmas.{IsRight, Saids, all-puts, among-from, packets-right, right-grows}
use Rattle.rm_relay.proofs.WordLemmas.SoundLemmas.{said_at}
use Rattle.rm_relay.proofs.WordLemmas.SoundLemmas.{says_more}
use Rattle.rm_relay.proofs.WordLemmas.StrangeLemmas.{role-of}
use Rattle.rm_relay.proofs.WordLemmas.TrimLemmas.{HasTrimmed, MayTrim, trimmed-add}

-- the laws of two nodes
pub record Laws : Type 0 where
  pub stays : StaysAPair
  pub turns : PairsTurn
  pub tells : APairTells
  pub apart : IssuedByOne
  pub announces : AnnouncesStill
  pub ends : EndsAreRight
  pub sets : SetsUnite
  pub within : AckedWereAccepted
  pub once : IssuesOnce

-- each node and the one behind it are a pair, and all packets are what their senders said; each node has its role; both
-- 2 and 3 announce DiscardFollowingFirstGap; and what node 2 forwarded is a prefix of what it received, and what it
-- consumed it had forwarded, with what it is writing too
pub record Sound (terms : Terms) (w : World) (said : Saids) : Type 0 where
  pub front : IsPair terms 1 2 w.one w.two said.one said.two
  pub rear : IsPair terms 2 3 w.two w.three said.two said.three
  pub one : RoleNow One w.one
  pub two : RoleNow Two w.two
  pub three : RoleNow Three w.three
  pub two_so : AnnouncesOnly FollowingFirstGap w.two
  pub three_so : AnnouncesOnly FollowingFirstGap w.three
  pub packets : AllByRecursion (IsRight said) w.packets
  pub relayed : HasRelayed w.two.whole
  pub pending : (d : List Fact) → w.two.state ≡ Writing d → MayRelay w.two.whole d
  pub trimmed : HasTrimmed w.two.whole
  pub trimming : (d : List Fact) → w.two.state ≡ Writing d → MayTrim w.two.whole d

-- all that the node there ever had
abbrev pub wholes : World → Station → List Fact
wholes w at = (node w at).whole

-- ---- what is known of each node

besides : (terms : Terms) (n m : ℕ) (z : Station) (x y : Node) (xs ys : List Message) → m ≡ number_of z → RoleNow z y
    → TellsOf x.whole y.whole → IsPair terms n m x y xs ys → Beside z x.whole y.whole
besides terms n m z x y xs ys e role tells h = record {
  number_ = h.agree.others.number ∙ e;
  address_ = role.address_;
  tells = tells;
  justified = h.agree.justified;
}

module _ (laws : Laws) (terms : Terms) (w : World) (said : Saids) (h : Sound terms w said) where
  pub fronts : TellsOf w.one.whole w.two.whole × TellsOf w.two.whole w.one.whole
  fronts = laws.tells terms 1 2 w.one w.two said.one said.two h.front

  pub rears : TellsOf w.two.whole w.three.whole × TellsOf w.three.whole w.two.whole
  rears = laws.tells terms 2 3 w.two w.three said.two said.three h.rear

  front-back : IsPair terms 2 1 w.two w.one said.two said.one
  front-back = laws.turns terms 1 2 w.one w.two said.one said.two h.front

  rear-back : IsPair terms 3 2 w.three w.two said.three said.two
  rear-back = laws.turns terms 2 3 w.two w.three said.two said.three h.rear

  one-two : Beside Two w.one.whole w.two.whole
  one-two = besides terms 1 2 Two w.one w.two said.one said.two refl h.two fronts.0 h.front

  two-one : Beside One w.two.whole w.one.whole
  two-one = besides terms 2 1 One w.two w.one said.two said.one refl h.one fronts.1 front-back

  two-three : Beside Three w.two.whole w.three.whole
  two-three = besides terms 2 3 Three w.two w.three said.two said.three refl h.three rears.0 h.rear

  three-two : Beside Two w.three.whole w.two.whole
  three-two = besides terms 3 2 Two w.three w.two said.three said.two refl h.two rears.1 rear-back

  pub known-one : Known One w.one.whole
  known-one = known One w.one.whole w.two.whole (wholes w) h.front.agree.owns.number h.one.address_ h.one.now fronts.0
      h.front.agree.owns.made (λ z e. absurd (cc))
      (λ z e. let same : Two ≡ z = cc in subst (λ s. Beside s w.one.whole (wholes w s)) same one-two)

  pub known-two : Known Two w.two.whole
  known-two = known Two w.two.whole w.one.whole (wholes w) h.front.agree.others.number h.two.address_ h.two.now
      fronts.1 h.rear.agree.owns.made
      (λ z e. let same : One ≡ z = cc in subst (λ s. Beside s w.two.whole (wholes w s)) same two-one)
      (λ z e. let same : Three ≡ z = cc in subst (λ s. Beside s w.two.whole (wholes w s)) same two-three)

  pub known-three : Known Three w.three.whole
  known-three = known Three w.three.whole w.two.whole (wholes w) h.rear.agree.others.number h.three.address_
      h.three.now rears.1 h.rear.agree.others.made
      (λ z e. let same : Two ≡ z = cc in subst (λ s. Beside s w.three.whole (wholes w s)) same three-two)
      (λ z e. absurd (cc))

  -- what node 1 sends on is for node 2
  pub first-hop : (s : ℕ) (q : Text) → IsOutgoing w.one.whole s q → IsBetweenThem w.one.whole w.two.whole s
  first-hop s q o =
      let m = h.front.agree.owns.made s q o in
      let sent = sent-behind One w.one.whole (wholes w) s q m.0 h.one.now (λ z e. absurd (cc))
      (λ z e. let same : Two ≡ z = cc in subst (λ y. Beside y w.one.whole (wholes w y)) same one-two) o m.1
      (role-of One w.one.whole s m.0 h.one.now m.1) in
      let same : sent.0 ≡ Two = cc (sent.1) in subst (λ z. IsBetweenThem w.one.whole (wholes w z) s) same sent.2

  -- and what node 2 sends on is for node 3
  pub second-hop : (s : ℕ) (q : Text) → IsOutgoing w.two.whole s q → IsBetweenThem w.two.whole w.three.whole s
  second-hop s q o =
      let m = h.rear.agree.owns.made s q o in
      let sent = sent-behind Two w.two.whole (wholes w) s q m.0 h.two.now
      (λ z e. let same : One ≡ z = cc in subst (λ y. Beside y w.two.whole (wholes w y)) same two-one)
      (λ z e. let same : Three ≡ z = cc in subst (λ y. Beside y w.two.whole (wholes w y)) same two-three) o m.1
      (role-of Two w.two.whole s m.0 h.two.now m.1) in
      let same : sent.0 ≡ Three = cc (sent.1) in subst (λ z. IsBetweenThem w.two.whole (wholes w z) s) same sent.2

  pub known-at : (at : Station) → Known at (wholes w at)
  known-at One = known-one
  known-at Two = known-two
  known-at Three = known-three

  pub says-at : (at : Station) → AllByRecursion (Says (wholes w at)) (said_at said at)
  says-at One = h.front.one.says
  says-at Two = h.front.two.says
  says-at Three = h.rear.two.says

-- ---- what befalls one node

-- what may befall the node there beside each neighbour
pub record MayBefallAt (w : World) (said : Saids) (at : Station) (act : Act) : Type 0 where
  pub prior : (z : Station) → before at ≡ Some z → MayBefall (wholes w at) (wholes w z) (said_at said z) act
  pub next : (z : Station) → behind at ≡ Some z → MayBefall (wholes w at) (wholes w z) (said_at said z) act

-- What it brings is of the node's role, where the records that the node before it granted sequences for are justified.
abbrev pub HasRoleAt : World → Station → Act → Type 0
HasRoleAt w at act =
    (d : List Fact) → AreBrought act d
    → ((z : Station) → before at ≡ Some z → AllByRecursion (JustGranted (wholes w z)) d)
    → AllByRecursion (RoleFact at) d

-- what befalls a node of a relay
pub record Befalls (w : World) (said : Saids) (at : Station) (act : Act) : Type 0 where
  pub may : MayBefallAt w said at act
  pub role : HasRoleAt w at act
  pub no_grant : IsNoGrant act
  pub relays : at ≡ Two → (d : List Fact) → AreBrought act d → MayRelay w.two.whole d
  pub trims : at ≡ Two → (d : List Fact) → AreBrought act d → MayTrim w.two.whole d

-- what was added is justified beside the other node
added-just : (terms : Terms) (n m : ℕ) (x y z : Node) (zs ys : List Message) (d : List Fact)
    → IsPair terms n m z y zs ys → z.whole ≡ x.whole ++ d → AllByRecursion (JustGranted y.whole) d
added-just terms n m x y z zs ys d h e =
    all-behind (JustGranted y.whole) x.whole d (subst (AllByRecursion (JustGranted y.whole)) e
    (just-all z.whole y.whole z.whole h.agree.justified))

-- and what it is writing
writing-just : (terms : Terms) (n m : ℕ) (y z : Node) (zs ys : List Message) (d : List Fact)
    → IsPair terms n m z y zs ys → z.state ≡ Writing d → AllByRecursion (JustGranted y.whole) d
writing-just terms n m y z zs ys d h e =
    let goes = subst (MayGoOn terms z y.whole) e h.one.goes_on in allowed-just z.whole y.whole d goes.0

-- the role of a node after a step, at which the pair with the node before it goes on
stepped-role : (at : Station) (act : Act) (x z : Node) → Gained act x z → RoleNow at x
    → ((d : List Fact) → AreBrought act d → (z.whole ≡ x.whole ++ d) ⊎ (z.state ≡ Writing d)
    → AllByRecursion (RoleFact at) d) → RoleNow at z
stepped-role at act x z g role f =
    role-step at act x z g (λ d e b. f d b (inl e)) (λ d e b. f d b (inr e)) role

-- what node 2 forwarded, after a step
stepped-relay : (act : Act) (x z : Node) → Gained act x z → ((t : ℕ) → GoesOn x.whole z.whole t)
    → HasRelayed x.whole → ((d : List Fact) → x.state ≡ Writing d → MayRelay x.whole d)
    → ((d : List Fact) → AreBrought act d → MayRelay x.whole d) → HasRelayed z.whole
stepped-relay act x z g on h pending f =
    subst HasRelayed (sym g.is) (relayed-add x.whole g.delta h may
    (subst (λ l. (t : ℕ) → GoesOn x.whole l t) g.is on))
  where
    may : MayRelay x.whole g.delta
    may = elim g.from [ inl brought ↦ f g.delta brought | inr writing ↦ pending g.delta writing ]

stepped-pending : (May : List Fact → List Fact → Type 0) (act : Act) (x z : Node) → Gained act x z
    → ((d : List Fact) → x.state ≡ Writing d → May x.whole d)
    → ((d : List Fact) → AreBrought act d → May x.whole d)
    → (d : List Fact) → z.state ≡ Writing d → May z.whole d
stepped-pending May act x z g pending f d e =
    let next = g.next d e in
    subst (λ l. May l d) (sym next.0)
    (elim next.1 [ inl brought ↦ f d brought | inr writing ↦ pending d writing ])

-- what it consumed
stepped-trim : (act : Act) (x z : Node) → Gained act x z → NothingIsGone z.whole → HasTrimmed x.whole
    → ((d : List Fact) → x.state ≡ Writing d → MayTrim x.whole d)
    → ((d : List Fact) → AreBrought act d → MayTrim x.whole d) → HasTrimmed z.whole
stepped-trim act x z g live h trimming f =
    subst HasTrimmed (sym g.is) (trimmed-add x.whole g.delta
    (all-behind IsLive x.whole g.delta (subst NothingIsGone g.is live)) h
    (elim g.from [ inl brought ↦ f g.delta brought | inr writing ↦ trimming g.delta writing ]))

-- ---- the world after a step

module _ (laws : Laws) (terms : Terms) (w : World) (said : Saids) (t : AreTerms terms) (h : Sound terms w said) where
  pub moves-one : (back : Option Station) (act : Act) → Befalls w said One act
      → Sound terms (moves terms w One back act) (says_more said One (left (acted terms w.one act)))
  moves-one back act b = record {
    front = step.pair;
    rear = h.rear;
    one = role;
    two = h.two;
    three = h.three;
    two_so = h.two_so;
    three_so = h.three_so;
    packets = all-puts terms (IsRight more) w.packets (packets_of One back (acted terms w.one act))
        (right-grows said One (left (acted terms w.one act)) w.packets h.packets)
        (packets-right more One back (acted terms w.one act).node (acted terms w.one act) role.now
        (among-from said.one (left (acted terms w.one act)))
        (all-behind (Says (acted terms w.one act).node.whole) said.one (left (acted terms w.one act))
        step.pair.one.says) step.back);
    relayed = h.relayed;
    pending = h.pending;
    trimmed = h.trimmed;
    trimming = h.trimming;
  }
    where
      more : Saids
      more = says_more said One (left (acted terms w.one act))

      step : PairStep terms 1 2 w.one w.two said.one said.two act
      step = laws.stays terms 1 2 w.one w.two said.one said.two act t h.front (b.may.next Two refl)

      role : RoleNow One (acted terms w.one act).node
      role = stepped-role One act w.one (acted terms w.one act).node step.gained h.one
          (λ d brought at. b.role d brought (λ z e. absurd (cc)))

  pub moves-two : (back : Option Station) (act : Act) → Befalls w said Two act
      → Sound terms (moves terms w Two back act) (says_more said Two (left (acted terms w.two act)))
  moves-two back act b = record {
    front = laws.turns terms 2 1 (acted terms w.two act).node w.one _ said.one before_it.pair;
    rear = behind_it.pair;
    one = h.one;
    two = role;
    three = h.three;
    two_so = laws.announces terms FollowingFirstGap w.two act b.no_grant h.two_so;
    three_so = h.three_so;
    packets = all-puts terms (IsRight more) w.packets (packets_of Two back (acted terms w.two act))
        (right-grows said Two (left (acted terms w.two act)) w.packets h.packets)
        (packets-right more Two back (acted terms w.two act).node (acted terms w.two act) role.now
        (among-from said.two (left (acted terms w.two act)))
        (all-behind (Says (acted terms w.two act).node.whole) said.two (left (acted terms w.two act))
        behind_it.pair.one.says) behind_it.back);
    relayed = stepped-relay act w.two (acted terms w.two act).node behind_it.gained behind_it.goes_on h.relayed
        h.pending (b.relays refl);
    pending = stepped-pending MayRelay act w.two (acted terms w.two act).node behind_it.gained h.pending
        (b.relays refl);
    trimmed = stepped-trim act w.two (acted terms w.two act).node behind_it.gained
        behind_it.pair.one.stands.kept.live h.trimmed h.trimming (b.trims refl);
    trimming = stepped-pending MayTrim act w.two (acted terms w.two act).node behind_it.gained h.trimming
        (b.trims refl);
  }
    where
      more : Saids
      more = says_more said Two (left (acted terms w.two act))

      before_it : PairStep terms 2 1 w.two w.one said.two said.one act
      before_it = laws.stays terms 2 1 w.two w.one said.two said.one act t (front-back laws terms w said h)
          (b.may.prior One refl)

      behind_it : PairStep terms 2 3 w.two w.three said.two said.three act
      behind_it = laws.stays terms 2 3 w.two w.three said.two said.three act t h.rear (b.may.next Three refl)

      just : (d : List Fact) → ((acted terms w.two act).node.whole ≡ w.two.whole ++ d)
          ⊎ ((acted terms w.two act).node.state ≡ Writing d) → AllByRecursion (JustGranted w.one.whole) d
      just d (inl e) = added-just terms 2 1 w.two w.one (acted terms w.two act).node _ said.one d before_it.pair e
      just d (inr e) = writing-just terms 2 1 w.one (acted terms w.two act).node _ said.one d before_it.pair e

      role : RoleNow Two (acted terms w.two act).node
      role = stepped-role Two act w.two (acted terms w.two act).node behind_it.gained h.two
          (λ d brought at. b.role d brought (λ z e. let same : One ≡ z = cc in
          subst (λ s. AllByRecursion (JustGranted (wholes w s)) d) same (just d at)))

  pub moves-three : (back : Option Station) (act : Act) → Befalls w said Three act
      → Sound terms (moves terms w Three back act) (says_more said Three (left (acted terms w.three act)))
  moves-three back act b = record {
    front = h.front;
    rear = laws.turns terms 3 2 (acted terms w.three act).node w.two _ said.two step.pair;
    one = h.one;
    two = h.two;
    three = role;
    two_so = h.two_so;
    three_so = laws.announces terms FollowingFirstGap w.three act b.no_grant h.three_so;
    packets = all-puts terms (IsRight more) w.packets (packets_of Three back (acted terms w.three act))
        (right-grows said Three (left (acted terms w.three act)) w.packets h.packets)
        (packets-right more Three back (acted terms w.three act).node (acted terms w.three act) role.now
        (among-from said.three (left (acted terms w.three act)))
        (all-behind (Says (acted terms w.three act).node.whole) said.three (left (acted terms w.three act))
        step.pair.one.says) step.back);
    relayed = h.relayed;
    pending = h.pending;
    trimmed = h.trimmed;
    trimming = h.trimming;
  }
    where
      more : Saids
      more = says_more said Three (left (acted terms w.three act))

      step : PairStep terms 3 2 w.three w.two said.three said.two act
      step = laws.stays terms 3 2 w.three w.two said.three said.two act t (rear-back laws terms w said h)
          (b.may.prior Two refl)

      just : (d : List Fact) → ((acted terms w.three act).node.whole ≡ w.three.whole ++ d)
          ⊎ ((acted terms w.three act).node.state ≡ Writing d) → AllByRecursion (JustGranted w.two.whole) d
      just d (inl e) = added-just terms 3 2 w.three w.two (acted terms w.three act).node _ said.two d step.pair e
      just d (inr e) = writing-just terms 3 2 w.two (acted terms w.three act).node _ said.two d step.pair e

      role : RoleNow Three (acted terms w.three act).node
      role = stepped-role Three act w.three (acted terms w.three act).node step.gained h.three
          (λ d brought at. b.role d brought (λ z e. let same : Two ≡ z = cc in
          subst (λ s. AllByRecursion (JustGranted (wholes w s)) d) same (just d at)))

  -- whichever node it befalls
  pub moves-sound : (at : Station) (back : Option Station) (act : Act) → Befalls w said at act
      → Sound terms (moves terms w at back act) (says_more said at (left (acted terms (node w at) act)))
  moves-sound One back act b = moves-one back act b
  moves-sound Two back act b = moves-two back act b
  moves-sound Three back act b = moves-three back act b
