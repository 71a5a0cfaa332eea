-- At each pair of images of both disks a sound world keeps the headline.
use Rattle.std.proofs.Common.{◌≡◌, ◌⊎◌, ℕ, zero, suc, ◌-◌, ◌<◌, ◌^◌, List, [], ◌∷◌, ◌++◌, map, refl, sym}
use Rattle.std.proofs.Common.{ap, ◌∙◌, arith, subst, append-nil, inl, inr}
use Rattle.std.specs.Prelude.{drop, take, Some, true, false}
use Rattle.std.specs.List.{AllByRecursion}
use Rattle.std.proofs.lemmas.List.{take-append-drop}
use Rattle.rm_base.specs.NumberSet.{has_number}
use Rattle.rm_base.specs.declared.message.Payload.{Payload}
use Rattle.record_batch.specs.Fact.{Fact}
use Rattle.record_batch.specs.Snapshot.FactLemmas.{behaviour_same, not-ordered}
use Rattle.record_batch.specs.Snapshot.PastLemmas.{from-one, held-whole, inbox-past}
use Rattle.record_batch.specs.Snapshot.Same.{AreNumbers, gone_count}
use Rattle.rm_base.specs.Numbered.{numbered}
use Rattle.rm_sides.specs.Destination.Incoming.{is_loose}
use Rattle.rm_sides.specs.Destination.LooseLemmas.{inbox_of-loose}
use Rattle.rm_sides.specs.Destination.Messages.{AreOnce, contents_of, is_empty, numbers_of}
use Rattle.record_batch.specs.Sequences.Words.{Text, at_seq}
use Rattle.record_batch.specs.Sequences.Idents.{IssuesOnce}
use Rattle.record_batch.specs.Sequences.Makers.{counter, maker}
use Rattle.record_batch.specs.Sequences.Sources.{accepted}
use Rattle.record_batch.specs.Sequences.Destinations.{behaviour, behaviour_of, cursor, inbox, purged, received}
use Rattle.record_batch.specs.Sequences.Destinations.{released, texts}
use Rattle.record_batch.specs.Sequences.Destinations.{told}
use Rattle.rm_protocol.specs.Crashes.{IsLeftWith, IsLeft, KeepsAll}
use Rattle.rm_protocol.specs.Node.{Node, State, Up, Writing, Compacting, records, node_end, with_batch}
use Rattle.rm_protocol.specs.Sound.{Agree, Allows, AllowsState, AreWith, IsBounded, IsSound, Keeps, StandFor}
use Rattle.rm_protocol.specs.Terms.{Terms, AreTerms}
use Rattle.rm_protocol.specs.Word.{AreApart, Has, InboxIsAll, IsItemOf, IsThere, KeepsLoose, KeepsWholeWord, KeepsWord}
use Rattle.rm_protocol.specs.Word.{Matches, accepted_at, history}
use Rattle.rm_protocol.specs.World.{World}
use Rattle.rm_protocol.proofs.Growth.{Grows}
use Rattle.rm_protocol.proofs.Adds.{Agree-swap, Agree-adds, Grows-adds}
use Rattle.rm_protocol.proofs.Kept.{back-ident, back-Incoming, kept-ident, kept-Incoming, none-purged}
use Rattle.rm_protocol.proofs.FreshLemmas.{SnapshotLaws, snapshot-stands}
use Rattle.rm_protocol.proofs.HeadlineLemmas.{IsNumbered, between-all, paired-word, received-numbered}
use Rattle.rm_protocol.proofs.NumberLemmas.{whole-few}
use Rattle.rm_protocol.proofs.RunLemmas.{AreWith-append, AreWith-grows, AllowsState-grows, bounded-with}
use Rattle.rm_protocol.proofs.RunLemmas.{small-counter, stands-adds}

-- an image stands for all that the node then ever had, and that is what it has and what may be added to it
record Left (a b image all : List Fact) : Type 0 where
  delta : List Fact
  allows : Allows a b delta
  is : all ≡ a ++ delta
  stands : StandFor image all
  with_ : AreWith b delta
  small : counter all < 2 ^ 62

left_kept : (terms : Terms) (x : Node) (b image all : List Fact) → StandFor image x.whole → IsBounded terms x
    → all ≡ x.whole → Left x.whole b image all
left_kept terms x b image all h i e = record {
  delta = [];
  allows = tt;
  is = e ∙ sym (append-nil x.whole);
  stands = subst (StandFor image) (sym e) h;
  with_ = tt;
  small = subst (λ z. counter z < 2 ^ 62) (sym e) (small-counter (counter x.whole) (node_end terms x) i.below i.store);
}

left_same : (terms : Terms) (x : Node) (b image all : List Fact) → StandFor (records x) x.whole → IsBounded terms x
    → image ≡ records x → all ≡ x.whole → Left x.whole b image all
left_same terms x b image all h i e f =
    left_kept terms x b image all (subst (λ z. StandFor z x.whole) (sym e) h) i f

left_by : SnapshotLaws → (terms : Terms) (x : Node) (b image all : List Fact) (state : State) → AreTerms terms
    → StandFor (records x) x.whole → IsBounded terms x
    → AllowsState terms x b state → IsLeftWith (records x) x.whole state image all → Left x.whole b image all
left_by laws terms x b image all Up t h i f e = left_same terms x b image all h i e.0 e.1
left_by laws terms x b image all (Writing delta) t h i f (inl e) = left_same terms x b image all h i e.0 e.1
left_by laws terms x b image all (Writing delta) t h i f (inr e) =
    let more = bounded-with terms x delta t i.below f.2 in
    let small = small-counter (counter (x.whole ++ delta)) (node_end terms (with_batch x delta)) more.0 more.1 in
    record {
      delta = delta;
      allows = f.0;
      is = e.1;
      stands = subst (λ z. StandFor z all) (sym e.0) (subst (StandFor (records x ++ delta)) (sym e.1)
          (stands-adds (records x) x.whole b delta h f.0 f.3));
      with_ = f.1;
      small = subst (λ z. counter z < 2 ^ 62) (sym e.1) small;
    }
left_by laws terms x b image all (Compacting start) t h i f (inl e, k) = left_same terms x b image all h i e k
left_by laws terms x b image all (Compacting start) t h i f (inr e, k) =
    left_kept terms x b image all
    (subst (λ z. StandFor z x.whole) (sym e) (snapshot-stands laws (records x) x.whole h)) i k

-- ---- from all that both nodes ever had to the images

kept-Matches : (a b aw bw : List Fact) (s t : ℕ) → Keeps a aw → Keeps b bw → Matches a b s t → Matches aw bw s t
kept-Matches a b aw bw s t k l m = record {
  ident = m.ident;
  message_id = m.message_id;
  outgoing = record { is = kept-ident a aw s (Some m.ident) k m.outgoing.is };
  incoming = kept-Incoming b bw t m.ident m.message_id l m.incoming;
}

back-Matches : (a b aw bw : List Fact) (s t : ℕ) → Keeps a aw → Keeps b bw → Matches aw bw s t → Matches a b s t
back-Matches a b aw bw s t k l m = record {
  ident = m.ident;
  message_id = m.message_id;
  outgoing = record { is = back-ident a aw s (Some m.ident) k m.outgoing.is };
  incoming = back-Incoming b bw t m.ident m.message_id l m.incoming;
}

kept-There : (b bw : List Fact) (t : ℕ) → Keeps b bw → IsThere b t → IsThere bw t
kept-There b bw t l m = record {
  ident = m.ident;
  message_id = m.message_id;
  incoming = kept-Incoming b bw t m.ident m.message_id l m.incoming;
}

-- the headline, where what all that a node ever had releases has numbers from 1 on
word-past : (a aw b bw : List Fact) → Keeps a aw → Keeps b bw → ((t : ℕ) → AreNumbers (received bw t))
    → KeepsWholeWord aw bw → KeepsWord a aw b bw
word-past a aw b bw k l are word = record {
  has = λ t. (released bw t, has-all t);
  prefix = λ s t m ordered. word.prefix s t (kept-Matches a b aw bw s t k l m)
      (ap is_loose (sym (behaviour_same b bw l.same t (are t) (from-one b bw l.same none t (are t)))) ∙ ordered);
  whole = λ s t m y.
      let marks_same = ap (λ ms. is_empty (at_seq s ms)) k.same.frame.marks_ in
      subst (λ e. (released bw t ≡ []) ⊎ ((texts (released bw t) ≡ accepted aw s) × (e ≡ false))) (sym marks_same)
      (word.whole s t (kept-Matches a b aw bw s t k l m)
      (sym (behaviour_same b bw l.same t (are t) (from-one b bw l.same none t (are t))) ∙ y));
  held = λ s t m n e.
      (l.same.got t).held_ n ∙ ap (λ ns. has_number ns n) (held-whole b bw l.same none t (are t))
      ∙ word.held s t (kept-Matches a b aw bw s t k l m) n (sym ((k.same.sent s).acked_ n) ∙ e);
  none = λ t there no. word.none t (kept-There b bw t l there) (λ s m. no s (back-Matches a b aw bw s t k l m));
  matched = λ s q out.
      let found = word.matched s q (record { is = kept-ident a aw s (Some q) k out.is }) in
      (found.0, back-Matches a b aw bw s found.0 k l found.1);
}
  where
    none : (t : ℕ) → purged bw t ≡ []
    none t = none-purged bw t l.live

    has-all : (t : ℕ) → Has b bw t (released bw t)
    has-all t = record {
      rest = drop (cursor b t) (released bw t);
      left = inbox-past b bw l.same none t (are t);
      all_ =
          sym (take-append-drop (cursor b t) (released bw t))
          ∙ ap (λ c. take c (released bw t) ++ drop (cursor b t) (released bw t)) (l.same.got t).cursor_;
    }

-- ---- of loose sequences

apart-once : (ms : List (ℕ × Payload)) → AreOnce ms → AreApart (numbers_of ms)
apart-once [] once = tt
apart-once (m ∷ ms) once = (once.0, apart-once ms once.1)

as-items : (given : List Text) (ms : List (ℕ × Payload)) → AllByRecursion (IsItemOf given) ms
    → map Some (texts (contents_of ms)) ≡ accepted_at given (numbers_of ms)
as-items given [] h = refl
as-items given (m ∷ ms) h =
    ap (λ x. x ∷ map Some (texts (contents_of ms))) (sym h.0)
    ∙ ap (λ xs. numbered given m.0 ∷ xs) (as-items given ms h.1)

numbers-split : (k : ℕ) (ms : List (ℕ × Payload))
    → numbers_of ms ≡ numbers_of (take k ms) ++ numbers_of (drop k ms)
numbers-split zero ms = refl
numbers-split (suc k) [] = refl
numbers-split (suc k) (m ∷ ms) = ap (λ ns. m.0 ∷ ns) (numbers-split k ms)

loose-past : (a aw b bw : List Fact) → Keeps a aw → Keeps b bw → ((t : ℕ) → AreNumbers (received bw t))
    → KeepsWholeWord aw bw → KeepsLoose a aw b bw
unfolding word-past
loose-past a aw b bw k l are word =
    let image = word-past a aw b bw k l are word in
    record {
      has = image.has;
      held = λ s t m loose n e. image.held s t m n e;
      comes = λ s t m loose.
          let there = kept-Matches a b aw bw s t k l m in
          let none : purged bw t ≡ [] = none-purged bw t l.live in
          let whole_loose : is_loose (behaviour bw t) ≡ true =
          ap is_loose (sym (ap (λ ms. behaviour_of (numbered ms t)) l.same.frame.makers_)) ∙ loose in
          let first = (l.same.got t).earliest (not-ordered (maker bw t) whole_loose) in
          let g = gone_count b t - gone_count bw t in
          record {
            numbers = numbers_of (received bw t);
            once = apart-once (received bw t) (l.same.got t).once;
            exactly = λ n.
                ap (λ ns. has_number ns n) (sym (held-whole b bw l.same (λ u. none-purged bw u l.live) t (are t)))
                ∙ sym ((l.same.got t).held_ n);
            payloads =
                ap (λ xs. map Some (texts xs))
                (inbox_of-loose (behaviour bw t) (told bw t) (received bw t) whole_loose)
                ∙ as-items (history aw s) (received bw t) (word.items_ s t there);
            first = numbers_of (take g (received bw t));
            last = numbers-split g (received bw t)
                ∙ ap (λ ms. numbers_of (take g (received bw t)) ++ numbers_of ms) (sym first.left);
          };
    }

-- where nothing was consumed, it speaks of the whole inbox
pub inbox-is-all : InboxIsAll
inbox-is-all a aw b bw word t none none_whole =
    let has = (word.has t).1 in
    ap (λ n. drop n (inbox b t)) (sym none) ∙ has.left
    ∙ ap (map Some) (sym (has.all_ ∙ ap (λ n. take n (released bw t) ++ has.rest) none_whole))

-- what a pair of images keeps, in both directions
record Both (a aw b bw : List Fact) : Type 0 where
  there : KeepsWord a aw b bw
  back : KeepsWord b bw a aw
  loose_there : KeepsLoose a aw b bw
  loose_back : KeepsLoose b bw a aw

from-numbered : (ms : List (ℕ × Payload)) → AllByRecursion (λ (m : ℕ × Payload). IsNumbered m.0) ms → AreNumbers ms
from-numbered [] h = tt
from-numbered (m ∷ ms) h = (h.0.from, from-numbered ms h.1)

both-words : IssuesOnce → SnapshotLaws → (terms : Terms) (w : World) (a aw b bw : List Fact) → AreTerms terms
    → IsSound terms w → IsLeft w.one a aw → IsLeft w.two b bw → Both a aw b bw
both-words once laws terms w a aw b bw t h x y = record {
  there = word-past a aw b bw one.stands.kept two.stands.kept numbers_two whole_there;
  back = word-past b bw a aw two.stands.kept one.stands.kept numbers_one whole_back;
  loose_there = loose-past a aw b bw one.stands.kept two.stands.kept numbers_two whole_there;
  loose_back = loose-past b bw a aw two.stands.kept one.stands.kept numbers_one whole_back;
}
  where
    one : Left w.one.whole w.two.whole a aw
    one = left_by laws terms w.one w.two.whole a aw w.one.state t h.one.stands h.one.bounded h.one.failed x

    grown : Grows w.one.whole aw
    grown = subst (Grows w.one.whole) (sym one.is) (Grows-adds w.one.whole w.two.whole one.delta one.allows)

    two : Left w.two.whole aw b bw
    two = left_by laws terms w.two aw b bw w.two.state t h.two.stands h.two.bounded
        (AllowsState-grows terms w.two w.one.whole aw grown w.two.state h.two.failed) y

    more : Grows w.two.whole bw
    more = subst (Grows w.two.whole) (sym two.is) (Grows-adds w.two.whole aw two.delta two.allows)

    first : Agree 1 2 aw w.two.whole
    first = subst (λ z. Agree 1 2 z w.two.whole) (sym one.is)
        (Agree-adds 1 2 w.one.whole w.two.whole one.delta one.allows h.agree)

    both : Agree 2 1 bw aw
    both = subst (λ z. Agree 2 1 z aw) (sym two.is)
        (Agree-adds 2 1 w.two.whole aw two.delta two.allows (Agree-swap 1 2 aw w.two.whole first))

    with_one : AreWith bw aw
    with_one = subst (AreWith bw) (sym one.is) (AreWith-grows w.two.whole bw (w.one.whole ++ one.delta) more
        (AreWith-append w.two.whole w.one.whole one.delta h.one.with_ one.with_))

    with_two : AreWith aw bw
    with_two = subst (AreWith aw) (sym two.is) (AreWith-append aw w.two.whole two.delta
        (AreWith-grows w.one.whole aw w.two.whole grown h.two.with_) two.with_)

    numbers_two : (t : ℕ) → AreNumbers (received bw t)
    numbers_two t = from-numbered (received bw t)
        (received-numbered aw bw t (between-all bw aw with_two t) both.justified (whole-few a aw one.stands))

    numbers_one : (t : ℕ) → AreNumbers (received aw t)
    numbers_one t = from-numbered (received aw t)
        (received-numbered bw aw t (between-all aw bw with_one t) both.others_justified (whole-few b bw two.stands))

    whole_there : KeepsWholeWord aw bw
    whole_there = paired-word once 1 2 aw bw (record {
      agree = Agree-swap 2 1 bw aw both;
      small = record { node = omega arith; counter = two.small };
      mine = between-all aw bw with_one;
      theirs = between-all bw aw with_two;
      live = one.stands.kept.live;
    })

    whole_back : KeepsWholeWord bw aw
    whole_back = paired-word once 2 1 bw aw (record {
      agree = both;
      small = record { node = omega arith; counter = one.small };
      mine = between-all bw aw with_two;
      theirs = between-all aw bw with_one;
      live = two.stands.kept.live;
    })

pub IsSound-KeepsAll : IssuesOnce → SnapshotLaws → (terms : Terms) (w : World) → AreTerms terms → IsSound terms w
    → KeepsAll w
IsSound-KeepsAll once laws terms w t h = record {
  one = λ a aw b bw x y. (both-words once laws terms w a aw b bw t h x y).there;
  two = λ a aw b bw x y. (both-words once laws terms w b bw a aw t h y x).back;
  loose_one = λ a aw b bw x y. (both-words once laws terms w a aw b bw t h x y).loose_there;
  loose_two = λ a aw b bw x y. (both-words once laws terms w b bw a aw t h y x).loose_back;
  kept_one = λ image all x. (left_by laws terms w.one w.two.whole image all w.one.state t h.one.stands h.one.bounded
      h.one.failed x).stands.kept;
  kept_two = λ image all x. (left_by laws terms w.two w.one.whole image all w.two.state t h.two.stands h.two.bounded
      h.two.failed x).stands.kept;
}
