-- A relay keeps its word at each three images.
use Rattle.std.proofs.Common.{◌≡◌, ◌≤◌, ◌+◌, ℕ, arith, length, Bool, true, false, List, [], ◌∷◌, ◌++◌, sym, ap, ◌∙◌}
use Rattle.std.proofs.Common.{subst, append-nil, inl, inr, cond, refl}
use Rattle.std.specs.Prelude.{Option, Some, None}
use Rattle.std.proofs.lemmas.List.Concat.{flat_map-append}
use Rattle.rm_sides.specs.Destination.Incoming.{inbox_of, is_whole_by}
use Rattle.rm_sides.specs.Ranges.Ranges.{in_ranges}
use Rattle.rm_base.specs.NumberSet.{has_number}
use Rattle.rm_base.specs.declared.message.Behaviour.{Behaviour}
use Rattle.rm_base.specs.declared.message.Behaviour.TheVariants.{EntireSequence, FollowingFirstGap, NoDiscard}
use Rattle.rm_base.specs.declared.message.Payload.{Payload}
use Rattle.record_batch.specs.Fact.{Fact}
use Rattle.record_batch.specs.Snapshot.Snapshot.{snapshot}
use Rattle.record_batch.specs.Sequences.Destinations.{behaviour, cursor, held, received, released, texts, told}
use Rattle.record_batch.specs.Sequences.Find.{IsIncoming, find_from, incoming_of}
use Rattle.record_batch.specs.Sequences.Fits.{is_incoming_side, is_outgoing_side}
use Rattle.record_batch.specs.Sequences.Makers.{Maker, Outgoing, Offered, Incoming, Taken, counter, maker, makers}
use Rattle.record_batch.specs.Sequences.Makers.{number}
use Rattle.record_batch.specs.Sequences.Sources.{accepted, accepted_count, acked}
use Rattle.record_batch.specs.Sequences.Words.{Text}
use Rattle.rm_protocol.specs.AloneLemmas.{records-alone}
use Rattle.rm_protocol.specs.Crashes.{IsLeft, IsLeftWith}
use Rattle.rm_message.specs.declared.message.Message.{Message}
use Rattle.rm_protocol.specs.Node.{Node, State, Up, Writing, Compacting, entries_left, mounted, records, records_in}
use Rattle.rm_protocol.specs.Node.{node_end, whole_left}
use Rattle.rm_protocol.specs.Pair.{IsBetweenThem, IsPair, MadeAreAPair}
use Rattle.rm_protocol.specs.Sound.{IsIssuedBy, Keeps}
use Rattle.rm_protocol.specs.Terms.{AreTerms, Terms}
use Rattle.rm_protocol.specs.Word.{HasNoSource, IsPrefixOf, Matches}
use Rattle.rm_relay.specs.Word.Ends.{AreEnds, IsAhead, first_incoming, first_outgoing}
use Rattle.rm_relay.specs.Word.Roles.{IsOfRole}
use Rattle.rm_relay.specs.Word.Word.{EachRelayKeepsItsWord, KeepsAll, KeepsRelay, KeepsWord}
use Rattle.rm_relay.specs.Word.World.{World, Crash, happens, number_of, run, start}
use Rattle.rm_relay.specs.declared.word.station.Station.TheVariants.{One, Two, Three}
use Rattle.rm_relay.specs.Word.FirstLemmas.{found-side, tested}
use Rattle.rm_relay.proofs.WordLemmas.ForwardLemmas.{prefix-then}
use Rattle.rm_relay.proofs.WordLemmas.HopLemmas.{IsSmall, acked-held, none-received}
use Rattle.rm_relay.proofs.WordLemmas.OrderLemmas.{ordered}
use Rattle.rm_relay.proofs.WordLemmas.ReleasedLemmas.{has-released}
use Rattle.rm_relay.proofs.WordLemmas.SoundLemmas.{Saids}
use Rattle.rm_relay.proofs.WordLemmas.StepLemmas.{happens-sound, none-dropped, run-sound, start-sound}
use Rattle.rm_relay.proofs.WordLemmas.StrangeLemmas.{role-of}
use Rattle.rm_relay.proofs.WordLemmas.WorldLemmas.{Laws, Sound, first-hop, fronts, rears, second-hop}

same-seq : (o : Option ℕ) (x y : ℕ) → o ≡ Some x → o ≡ Some y → x ≡ y
same-seq o x y e f = cc

-- nothing is released of nothing
nothing-in : (y : Behaviour) (ns : List ℕ) → inbox_of {A = Payload} y ns [] ≡ []
nothing-in FollowingFirstGap ns = refl
nothing-in NoDiscard ns = refl
nothing-in EntireSequence ns =
    elim (is_whole_by {A = Payload} ns []) as (λ b. cond {A = List Payload} b [] [] ≡ []) [ true ↦ refl | false ↦ refl ]

no-texts : (ps : List Payload) (rest : List Text) → texts ps ++ rest ≡ [] → ps ≡ []
no-texts [] rest e = refl
no-texts (p ∷ ps) rest e = absurd (cc)

-- the second of a pair drew few numbers
small : (terms : Terms) (n m : ℕ) (x y : Node) (xs ys : List Message) → IsPair terms n m x y xs ys → IsSmall m y.whole
small terms n m x y xs ys h = record {
  node = h.numbers.1;
  drew =
      let below : counter y.whole ≤ node_end terms y = h.two.bounded.below in
      let store : node_end terms y ≤ 268435456 = h.two.bounded.store in
      omega (arith, below, store);
}

module _ (laws : Laws) (terms : Terms) (w : World) (said : Saids) (h : Sound terms w said) where
  keeps-two : Keeps (records w.two) w.two.whole
  keeps-two = h.front.two.stands.kept

  -- what node 2 receives on was granted to node 1
  second-between : (t : ℕ) (q u : Text) → IsIncoming w.two.whole t q u
      → IsBetweenThem w.two.whole w.one.whole t
  second-between t q u i =
      by_role i.maker_ i.there i.made (role-of Two w.two.whole t i.maker_ h.two.now i.there)
    where
      by_role : (m : Maker) → maker w.two.whole t ≡ Some m
          → incoming_of (number w.two.whole) m ≡ Some (i.counter, u) → IsOfRole Two m
          → IsBetweenThem w.two.whole w.one.whole t
      by_role (Incoming c v k y l z) e made role =
          let same : One ≡ role.0 = cc (role.1) in
          record {
            maker_ = Incoming c v k y l z;
            there = e;
            with_ = subst (λ n. IsIssuedBy n v) (sym h.front.agree.owns.number)
                (subst (λ at. IsIssuedBy (number_of at) v) (sym same) role.2);
          }
      by_role (Outgoing ticket to via lapse) e made role = absurd (cc (made))
      by_role (Offered ticket c to y) e made role = absurd role
      by_role (Taken v p k) e made role = absurd role

  -- what node 3 receives on was granted to node 2
  third-between : (t : ℕ) (q u : Text) → IsIncoming w.three.whole t q u
      → IsBetweenThem w.three.whole w.two.whole t
  third-between t q u i =
      by_role i.maker_ i.there i.made (role-of Three w.three.whole t i.maker_ h.three.now i.there)
    where
      by_role : (m : Maker) → maker w.three.whole t ≡ Some m
          → incoming_of (number w.three.whole) m ≡ Some (i.counter, u) → IsOfRole Three m
          → IsBetweenThem w.three.whole w.two.whole t
      by_role (Incoming c v k y l z) e made role =
          let same : Two ≡ role.0 = cc (role.1) in
          record {
            maker_ = Incoming c v k y l z;
            there = e;
            with_ = subst (λ n. IsIssuedBy n v) (sym h.rear.agree.owns.number)
                (subst (λ at. IsIssuedBy (number_of at) v) (sym same) role.2);
          }
      by_role (Outgoing ticket to via lapse) e made role = absurd (cc (made))
      by_role (Offered ticket c to y) e made role = absurd role
      by_role (Taken v p k) e made role = absurd role

  -- so was each that it receives on at all
  into-between : (t : ℕ) → is_incoming_side (maker w.two.whole t) ≡ true → IsBetweenThem w.two.whole w.one.whole t
  into-between t incoming = by_maker (maker w.two.whole t) (λ m e. e) incoming
    where
      by_maker : (o : Option Maker) → ((m : Maker) → o ≡ Some m → maker w.two.whole t ≡ Some m)
          → is_incoming_side o ≡ true → IsBetweenThem w.two.whole w.one.whole t
      by_maker None there e = absurd (cc)
      by_maker (Some (Incoming c v k y l z)) there e =
          let m = Incoming c v k y l z in
          let role = role-of Two w.two.whole t m h.two.now (there m refl) in
          let same : One ≡ role.0 = cc (role.1) in
          record {
            maker_ = m;
            there = there m refl;
            with_ = subst (λ n. IsIssuedBy n v) (sym h.front.agree.owns.number)
                (subst (λ at. IsIssuedBy (number_of at) v) (sym same) role.2);
          }
      by_maker (Some (Outgoing ticket to via lapse)) there e = absurd (cc)
      by_maker (Some (Offered ticket c to y)) there e =
          let m = Offered ticket c to y in absurd (role-of Two w.two.whole t m h.two.now (there m refl))
      by_maker (Some (Taken v p k)) there e = absurd (cc)

  same-first : (test : Option Maker → Bool) (s : ℕ) → find_from (tested test) 0 (makers (records w.two)) ≡ Some s
      → find_from (tested test) 0 (makers w.two.whole) ≡ Some s
  same-first test s e = sym (ap (find_from (tested test) 0) keeps-two.same.frame.makers_) ∙ e

  forwarded : (into out : ℕ) → AreEnds (records w.two) into out
      → IsPrefixOf (accepted w.two.whole out) (texts (released w.two.whole into))
  forwarded into out ends = elim (h.relayed out) [
    | inl none ↦ (texts (released w.two.whole into), ap (λ l. l ++ texts (released w.two.whole into)) (sym none))
    | inr r ↦ subst (λ t. IsPrefixOf (accepted w.two.whole out) (texts (released w.two.whole t)))
        (same-seq (first_incoming w.two.whole) r.from into r.incoming
        (same-first is_incoming_side into ends.incoming)) r.prefix
  ]

  count-two : (out : ℕ) → accepted_count (records w.two) out ≡ length (accepted w.two.whole out)
  count-two out =
      let none : 0 + length (accepted w.two.whole out) ≡ length (accepted w.two.whole out) = omega arith in
      (keeps-two.same.sent out).count
      ∙ ap (λ (n : ℕ). n + length (accepted w.two.whole out)) (none-dropped w.two.whole out keeps-two.live) ∙ none

  ahead : (into out : ℕ) → AreEnds (records w.two) into out → IsAhead (records w.two) into out
  ahead into out ends =
      let same : cursor (records w.two) into ≡ cursor w.two.whole into = (keeps-two.same.got into).cursor_ in
      let few : cursor w.two.whole into ≤ length (accepted w.two.whole out) =
      elim (h.trimmed into) [
        | inl none ↦ omega (arith, none)
        | inr r ↦ subst (λ (o : ℕ). cursor w.two.whole into ≤ length (accepted w.two.whole o))
            (same-seq (first_outgoing w.two.whole) r.out out r.outgoing
            (same-first is_outgoing_side out ends.outgoing)) r.ahead
      ] in
      omega (arith, same, few, count-two out)

  relayed : (s into out t : ℕ) → AreEnds (records w.two) into out → Matches w.one.whole w.two.whole s into
      → Matches w.two.whole w.three.whole out t
      → IsPrefixOf (texts (released w.three.whole t)) (accepted w.one.whole s)
  relayed s into out t ends first second =
      let front = (fronts laws terms w said h).0.prefix s into first
      (second-between into first.ident first.message_id first.incoming)
      (ordered Two w.two.whole into h.two.now h.two_so.records_) in
      let rear = (rears laws terms w said h).0.prefix out t second
      (third-between t second.ident second.message_id second.incoming)
      (ordered Three w.three.whole t h.three.now h.three_so.records_) in
      prefix-then (texts (released w.three.whole t)) (accepted w.two.whole out) (accepted w.one.whole s) rear
      (prefix-then (accepted w.two.whole out) (texts (released w.two.whole into)) (accepted w.one.whole s)
      (forwarded into out ends) front)

  -- without a source node 2 received nothing, so it forwarded nothing, and node 3 has nothing
  none : (into out t : ℕ) → AreEnds (records w.two) into out → HasNoSource w.one.whole w.two.whole into
      → Matches w.two.whole w.three.whole out t → released w.three.whole t ≡ []
  none into out t ends without second =
      let side = found-side is_incoming_side w.two.whole into (same-first is_incoming_side into ends.incoming) in
      let empty : received w.two.whole into ≡ [] =
      none-received w.one.whole w.two.whole into (into-between into side) without w.two.whole
      h.front.agree.others_justified in
      let unreleased : released w.two.whole into ≡ [] =
      ap (λ ms. inbox_of (behaviour w.two.whole into) (told w.two.whole into) ms) empty
      ∙ nothing-in (behaviour w.two.whole into) (told w.two.whole into) in
      let sent = forwarded into out ends in
      let rear = (rears laws terms w said h).0.prefix out t second
      (third-between t second.ident second.message_id second.incoming)
      (ordered Three w.three.whole t h.three.now h.three_so.records_) in
      let all = prefix-then (texts (released w.three.whole t)) (accepted w.two.whole out)
      (texts (released w.two.whole into)) rear sent in
      no-texts (released w.three.whole t) all.0 (sym all.1 ∙ ap texts unreleased)

  -- what is acknowledged is held
  held-second : (s t : ℕ) → Matches w.one.whole w.two.whole s t → (n : ℕ) → in_ranges (acked w.one.whole s) n ≡ true
      → has_number (held (records w.two) t) n ≡ true
  held-second s t k =
      acked-held laws.once 1 2 w.one.whole (records w.two) w.two.whole h.front.agree
      (small terms 1 2 w.one w.two said.one said.two h.front) h.front.one.stands.kept.live keeps-two s t
      (first-hop laws terms w said h s k.ident k.outgoing) k

  held-third : (s t : ℕ) → Matches w.two.whole w.three.whole s t → (n : ℕ)
      → in_ranges (acked (records w.two) s) n ≡ true → has_number (held (records w.three) t) n ≡ true
  held-third s t k n e =
      acked-held laws.once 2 3 w.two.whole (records w.three) w.three.whole h.rear.agree
      (small terms 2 3 w.two w.three said.two said.three h.rear) keeps-two.live h.rear.two.stands.kept s t
      (second-hop laws terms w said h s k.ident k.outgoing) k n (sym ((keeps-two.same.sent s).acked_ n) ∙ e)

  pub keeps-relay : KeepsRelay w.one.whole (records w.two) w.two.whole (records w.three) w.three.whole
  keeps-relay = record {
    second = λ t. (
      released w.two.whole t,
      has-released (records w.two) w.two.whole t keeps-two h.front.two.numbered,
    );
    third = λ t. (
      released w.three.whole t,
      has-released (records w.three) w.three.whole t h.rear.two.stands.kept h.rear.two.numbered,
    );
    forwarded = forwarded;
    ahead = ahead;
    relayed = relayed;
    none = none;
    held_second = held-second;
    held_third = held-third;
  }

-- ---- at images

records-with : (entries : List (List Fact)) (delta : List Fact)
    → records_in (entries ++ delta ∷ []) ≡ records_in entries ++ delta
records-with entries delta =
    flat_map-append (λ (batch : List Fact). batch) entries (delta ∷ [])
    ∙ ap (λ z. records_in entries ++ z) (append-nil delta)

-- a crash leaves them
record Left (x : Node) (image all : List Fact) : Type 0 where
  kept : Bool
  records_ : records (mounted x kept) ≡ image
  whole_ : (mounted x kept).whole ≡ all

left : (x : Node) (image all : List Fact) → IsLeft x image all → Left x image all
left x image all h = let parts = by_parts x.state h in
    record { kept = parts.0; records_ = parts.1; whole_ = parts.2 }
  where
    by_parts : (z : State) → IsLeftWith (records x) x.whole z image all
        → (kept : Bool) × (records_in (entries_left z kept x.entries) ≡ image) × (whole_left z kept x.whole ≡ all)
    by_parts Up e = (false, sym e.0, sym e.1)
    by_parts (Writing delta) (inl e) = (false, sym e.0, sym e.1)
    by_parts (Writing delta) (inr e) = (true, records-with x.entries delta ∙ sym e.0, sym e.1)
    by_parts (Compacting place) (inl e, f) = (false, sym e, sym f)
    by_parts (Compacting place) (inr e, f) = (true, records-alone (snapshot (records x)) ∙ sym e, sym f)

-- by what they are
renamed : (a b v c w k l m n o : List Fact) → a ≡ k → b ≡ l → v ≡ m → c ≡ n → w ≡ o → KeepsRelay a b v c w
    → KeepsRelay k l m n o
renamed a b v c w k l m n o e f g i j h =
    subst (λ z. KeepsRelay k l m n z) j (subst (λ z. KeepsRelay k l m z w) i
    (subst (λ z. KeepsRelay k l z c w) g (subst (λ z. KeepsRelay k z v c w) f
    (subst (λ z. KeepsRelay z b v c w) e h))))

keeps-word : Laws → (terms : Terms) (w : World) (said : Saids) → AreTerms terms → Sound terms w said → KeepsWord w
keeps-word laws terms w said t h a aw b bw c cw one two three =
    let first = left w.one a aw one in
    let second = left w.two b bw two in
    let third = left w.three c cw three in
    let u = happens terms w (Crash One first.kept) in
    let v = happens terms u (Crash Two second.kept) in
    let z = happens terms v (Crash Three third.kept) in
    let su = happens-sound laws terms w said t h (Crash One first.kept) in
    let sv = happens-sound laws terms u su.0 t su.1 (Crash Two second.kept) in
    let sz = happens-sound laws terms v sv.0 t sv.1 (Crash Three third.kept) in
    renamed z.one.whole (records z.two) z.two.whole (records z.three) z.three.whole aw b bw c cw first.whole_
    second.records_ second.whole_ third.records_ third.whole_ (keeps-relay laws terms z sz.0 sz.1)

kept-at : (x : Node) (image all : List Fact) (l : Left x image all)
    → Keeps (records (mounted x l.kept)) (mounted x l.kept).whole → Keeps image all
kept-at x image all l k =
    subst (λ z. Keeps z all) l.records_ (subst (λ z. Keeps (records (mounted x l.kept)) z) l.whole_ k)

keeps-all : Laws → (terms : Terms) (w : World) (said : Saids) → AreTerms terms → Sound terms w said → KeepsAll w
keeps-all laws terms w said t h = record {
  word = keeps-word laws terms w said t h;
  one = λ image all e.
      let l = left w.one image all e in
      let s = happens-sound laws terms w said t h (Crash One l.kept) in
      kept-at w.one image all l s.1.front.one.stands.kept;
  two = λ image all e.
      let l = left w.two image all e in
      let s = happens-sound laws terms w said t h (Crash Two l.kept) in
      kept-at w.two image all l s.1.front.two.stands.kept;
  three = λ image all e.
      let l = left w.three image all e in
      let s = happens-sound laws terms w said t h (Crash Three l.kept) in
      kept-at w.three image all l s.1.rear.two.stands.kept;
}

pub each-relay : Laws → MadeAreAPair → EachRelayKeepsItsWord
each-relay laws made terms t three events =
    let sound = run-sound laws terms events start (record { one = []; two = []; three = [] }) t
    (start-sound made terms three) in
    keeps-all laws terms (run terms events start) sound.0 t sound.1
