-- What a node's records tell is what all that it ever had tell, but for items that are gone.
use Rattle.std.proofs.Common.{◌≡◌, ℕ, ◌+◌, ◌-◌, ◌||◌, Bool, true, false, List, [], ◌∷◌, ◌++◌, length, drop}
use Rattle.std.proofs.Common.{refl, sym, ap, ◌∙◌, subst, arith, zero, suc, append-nil, append_assoc}
use Rattle.std.specs.Prelude.{Option, Some, slice_get}
use Rattle.std.specs.List.{flat_map}
use Rattle.rm_sides.specs.declared.ranges.range.Range.{Range}
use Rattle.rm_sides.specs.Ranges.Ranges.{in_range, in_ranges}
use Rattle.rm_base.specs.Numbered.{numbered}
use Rattle.rm_base.specs.NumberSet.{has_number}
use Rattle.rm_sides.specs.Destination.Messages.{gone_items, numbers_in, numbers_of, there_items}
use Rattle.record_batch.specs.Fact.{Fact, Made, Received, Dropped, Purged}
use Rattle.record_batch.specs.Snapshot.KeepLemmas.{kept-by-one-more}
use Rattle.rm_sides.specs.Destination.ItemLemmas.{numbers_of-both}
use Rattle.record_batch.specs.Snapshot.Same.{IsLive, IsNewIn}
use Rattle.record_batch.specs.Sequences.Words.{Text, first_or, last_or}
use Rattle.record_batch.specs.Sequences.Idents.{issue}
use Rattle.record_batch.specs.Sequences.Makers.{Maker, maker, counter, number, ident_in, seq_in}
use Rattle.record_batch.specs.Sequences.Sources.{accepted, accepted_count, dropped, dropped_of, out_ident, payload_at}
use Rattle.record_batch.specs.Sequences.Destinations.{held, purged, purged_of, received}
use Rattle.record_batch.specs.Sequences.Find.{IsIncoming, incoming_of, find_outgoing}
use Rattle.rm_protocol.specs.Sound.{Allows, Fresh, IsAsked, Keeps, NothingIsGone}
use Rattle.rm_protocol.proofs.ListLemmas.{All-push, numbered-next}

pub in_ranges-join : (xs ys : List Range) (n : ℕ) → in_ranges (xs ++ ys) n ≡ (in_ranges xs n || in_ranges ys n)
in_ranges-join [] ys n = refl
in_ranges-join (x ∷ xs) ys n = ap (λ b. in_range x n || b) (in_ranges-join xs ys n)
    ∙ or_assoc (in_range x n) (in_ranges xs n) (in_ranges ys n)
  where
    or_assoc : (x y z : Bool) → (x || (y || z)) ≡ ((x || y) || z)
    or_assoc true y z = refl
    or_assoc false y z = refl

-- ---- nothing is gone by all that a node ever had

gathers-none : {A : Type 0} (f : Fact → List A) → ((rec : Fact) → IsLive rec → f rec ≡ []) → (a : List Fact)
    → NothingIsGone a → flat_map f a ≡ []
gathers-none f none [] live = refl
gathers-none f none (rec ∷ a) live =
    ap (λ xs. xs ++ flat_map f a) (none rec live.0) ∙ gathers-none f none a live.1

drops-none : (s : ℕ) (rec : Fact) → IsLive rec → dropped_of s rec ≡ []
drops-none s (Dropped seq upto) live = absurd live
drops-none s _ live = refl

purges-none : (s : ℕ) (rec : Fact) → IsLive rec → purged_of s rec ≡ []
purges-none s (Purged seq ranges) live = absurd live
purges-none s _ live = refl

pub none-dropped : (a : List Fact) (s : ℕ) → NothingIsGone a → dropped a s ≡ 0
none-dropped a s live = ap (last_or 0) (gathers-none (dropped_of s) (drops-none s) a live)

pub none-purged : (a : List Fact) (s : ℕ) → NothingIsGone a → purged a s ≡ []
none-purged a s live = gathers-none (purged_of s) (purges-none s) a live

pub held-received : (a : List Fact) (s : ℕ) → NothingIsGone a → held a s ≡ numbers_of (received a s)
held-received a s live =
    ap (λ ps. numbers_of (gone_items (numbers_in ps) ++ there_items (received a s))) (none-purged a s live)
    ∙ numbers_of-both [] (received a s)

-- ---- one more record

pub fresh-live : (a : List Fact) (rec : Fact) → Fresh a rec → IsLive rec
fresh-live a (Dropped seq upto) f = absurd f
fresh-live a (Purged seq ranges) f = absurd f
fresh-live a _ f = tt

fresh-new : (r a : List Fact) (rec : Fact) → Keeps r a → Fresh a rec → IsNewIn r rec
fresh-new r a (Received s i p) k f = (k.same.got s).held_ i ∙ f
fresh-new r a _ k f = tt

pub Keeps-made : (n : ℕ) (at : Text) → Keeps (Made n at ∷ []) (Made n at ∷ [])
Keeps-made n at = record {
  same = record {
    frame = record {
      makers_ = refl;
      draws = refl;
      nodes = refl;
      addresses = refl;
      created_ = refl;
      marks_ = refl;
      tickets_ = refl;
      closes_ = refl;
      told_ = refl;
      accepts = refl;
    };
    sent = λ s. record { more = omega arith; accepted_ = refl; count = refl; acked_ = λ n. refl };
    got = λ s. record {
      more = λ n e. e;
      received_ = refl;
      held_ = λ n. refl;
      cursor_ = refl;
      below = λ _ n lt. refl;
      earliest = λ _. record { less = omega arith; reach = omega arith; left = refl; count = refl };
      once = tt;
    };
  };
  live = (tt, tt);
}

pub Keeps-add : (r a : List Fact) (rec : Fact) → Fresh a rec → Keeps r a → Keeps (r ++ rec ∷ []) (a ++ rec ∷ [])
Keeps-add r a rec f k = record {
  same = kept-by-one-more r a rec (fresh-live a rec f) (fresh-new r a rec k f) k.same;
  live = All-push IsLive a rec k.live (fresh-live a rec f);
}

pub Keeps-adds : (r a b delta : List Fact) → Allows a b delta → Keeps r a → Keeps (r ++ delta) (a ++ delta)
Keeps-adds r a b [] w k = subst (λ z. Keeps z (a ++ [])) (sym (append-nil r)) (subst (Keeps r) (sym (append-nil a)) k)
Keeps-adds r a b (rec ∷ delta) w k =
    subst (λ z. Keeps z (a ++ (rec ∷ delta))) (append_assoc r (rec ∷ []) delta)
    (subst (Keeps (r ++ rec ∷ [] ++ delta)) (append_assoc a (rec ∷ []) delta)
    (Keeps-adds (r ++ rec ∷ []) (a ++ rec ∷ []) b delta w.2 (Keeps-add r a rec w.0 k)))

-- ---- what is kept

pub kept-number : (r a : List Fact) → Keeps r a → number r ≡ number a
kept-number r a k = ap (first_or 0) k.same.frame.nodes

pub kept-counter : (r a : List Fact) → Keeps r a → counter r ≡ counter a
kept-counter r a k = ap length k.same.frame.draws

pub kept-maker : (r a : List Fact) (s : ℕ) (x : Option Maker) → Keeps r a → maker r s ≡ x → maker a s ≡ x
kept-maker r a s x k e = ap (λ z. numbered z s) (sym k.same.frame.makers_) ∙ e

pub kept-ident : (r a : List Fact) (s : ℕ) (x : Option Text) → Keeps r a → out_ident r s ≡ x → out_ident a s ≡ x
kept-ident r a s x k e = ap (λ z. ident_in z s) (sym k.same.frame.created_) ∙ e

pub back-ident : (r a : List Fact) (s : ℕ) (x : Option Text) → Keeps r a → out_ident a s ≡ x → out_ident r s ≡ x
back-ident r a s x k e = ap (λ z. ident_in z s) k.same.frame.created_ ∙ e

pub kept-found : (r a : List Fact) (q : Text) (x : Option ℕ) → Keeps r a → find_outgoing r q ≡ x → find_outgoing a q ≡ x
kept-found r a q x k e = ap (λ z. seq_in z q) (sym k.same.frame.created_) ∙ e

pub kept-Incoming : (r a : List Fact) (s : ℕ) (q t : Text) → Keeps r a → IsIncoming r s q t → IsIncoming a s q t
kept-Incoming r a s q t k h = record {
  counter = h.counter;
  maker_ = h.maker_;
  there = kept-maker r a s (Some h.maker_) k h.there;
  made = ap (λ n. incoming_of n h.maker_) (sym (kept-number r a k)) ∙ h.made;
  is = h.is ∙ ap (λ n. issue n h.counter) (kept-number r a k);
}

pub back-Incoming : (r a : List Fact) (s : ℕ) (q t : Text) → Keeps r a → IsIncoming a s q t → IsIncoming r s q t
back-Incoming r a s q t k h = record {
  counter = h.counter;
  maker_ = h.maker_;
  there = ap (λ z. numbered z s) k.same.frame.makers_ ∙ h.there;
  made = ap (λ n. incoming_of n h.maker_) (kept-number r a k) ∙ h.made;
  is = h.is ∙ ap (λ n. issue n h.counter) (sym (kept-number r a k));
}

pub kept-Asked : (r a : List Fact) (s : ℕ) (t : Text) → Keeps r a → IsAsked r s t → IsAsked a s t
kept-Asked r a s t k h = record {
  ticket = h.ticket;
  maker_ = h.maker_;
  there = kept-maker r a s (Some h.maker_) k h.there;
  asked = h.asked;
  is = h.is ∙ ap (λ n. issue n h.ticket) (kept-number r a k);
}

-- a payload that isn't gone is the one that was accepted
drop-numbered : {A : Type 0} (k : ℕ) (xs : List A) (j : ℕ) → numbered (drop k xs) (suc j) ≡ numbered xs (suc (k + j))
drop-numbered zero xs j = ap (numbered xs) (let e : suc j ≡ suc (0 + j) = omega arith in e)
drop-numbered (suc k) [] j = numbered-next [] j ∙ sym (numbered-next [] (suc k + j))
drop-numbered (suc k) (x ∷ xs) j =
    let place : suc (k + j) ≡ suc k + j = omega arith in
    drop-numbered k xs j ∙ numbered-next xs (k + j) ∙ ap (slice_get (x ∷ xs)) place
    ∙ sym (numbered-next (x ∷ xs) (suc k + j))

pub kept-payload : (r a : List Fact) (s i : ℕ) (p : Text) → Keeps r a → payload_at r s i ≡ Some p
    → numbered (accepted a s) i ≡ Some p
kept-payload r a s i p k e = by_place (i - dropped r s) refl
  where
    none : dropped a s ≡ 0
    none = none-dropped a s k.live

    same : accepted r s ≡ drop (dropped r s) (accepted a s)
    same =
        let size : dropped r s - dropped a s ≡ dropped r s = omega (arith, none) in
        (k.same.sent s).accepted_ ∙ ap (λ n. drop n (accepted a s)) size

    by_place : (j : ℕ) → i - dropped r s ≡ j → numbered (accepted a s) i ≡ Some p
    by_place zero f = absurd (cc (ap (numbered (accepted r s)) f, e))
    by_place (suc j) f =
        let place : suc (dropped r s + j) ≡ i = omega (arith, f) in
        ap (numbered (accepted a s)) (sym place) ∙ sym (drop-numbered (dropped r s) (accepted a s) j)
        ∙ ap (λ xs. numbered xs (suc j)) (sym same) ∙ ap (numbered (accepted r s)) (sym f) ∙ e

pub kept-count : (r a : List Fact) (s : ℕ) → Keeps r a → accepted_count r s ≡ length (accepted a s)
kept-count r a s k = omega (arith, (k.same.sent s).count, none-dropped a s k.live)

pub kept-held : (r a : List Fact) (s n : ℕ) → Keeps r a
    → has_number (held r s) n ≡ has_number (numbers_of (received a s)) n
kept-held r a s n k = (k.same.got s).held_ n ∙ ap (λ ns. has_number ns n) (held-received a s k.live)
