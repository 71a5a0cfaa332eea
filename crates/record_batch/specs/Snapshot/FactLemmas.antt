-- What is known by a list that says the same but for items that are gone.
use Rattle.std.proofs.Common.{◌≡◌, ℕ, zero, suc, ◌+◌, ◌-◌, ◌<◌, Bool, true, false, cond, List, [], ◌∷◌, length, map}
use Rattle.std.proofs.Common.{refl, sym, ap, subst, ◌∙◌, arith, Option, None, Some, inl, inr}
use Rattle.std.specs.Prelude.{drop, not, slice_get}
use Rattle.std.proofs.lemmas.Bool.{cases_Bool, ne_eqb}
use Rattle.std.proofs.lemmas.List.{length-drop}
use Rattle.rm_sides.specs.Ranges.Ranges.{in_ranges}
use Rattle.rm_base.specs.Numbered.{numbered}
use Rattle.rm_base.specs.NumberSet.{has_number}
use Rattle.rm_sides.specs.Destination.Messages.{without}
use Rattle.rm_sides.specs.Destination.Messages.{is_empty, contents_of, without_gap, sorted_onto, Item}
use Rattle.rm_sides.specs.Destination.Incoming.{inbox_of, is_loose, is_whole_by}
use Rattle.rm_sides.specs.Destination.ItemLemmas.{length-items_of}
use Rattle.rm_sides.specs.Destination.LooseLemmas.{inbox_of-loose}
use Rattle.record_batch.specs.Fact.{Fact}
use Rattle.record_batch.specs.Sequences.Makers.{Maker, maker}
use Rattle.record_batch.specs.Sequences.Words.{at_seq}
use Rattle.record_batch.specs.Sequences.Sources.{accepted, dropped, payload_at}
use Rattle.record_batch.specs.Sequences.Destinations.{behaviour, behaviour_of, discarded, held, inbox, is_stopped}
use Rattle.record_batch.specs.Sequences.Destinations.{messages}
use Rattle.record_batch.specs.Sequences.Destinations.{purged, received, told, items}
use Rattle.record_batch.specs.Snapshot.ItemLemmas.{gap-marked, inbox-marked, joined, length-contents, length-marked}
use Rattle.record_batch.specs.Snapshot.ItemLemmas.{sorted-marked, whole-marked}
use Rattle.record_batch.specs.Snapshot.Same.{AreNumbers, FactsAreEqual, FactsOf, SaysTheSame, all_marked, is_ordered}

slice_get-drop : {A : Type 0} (k : ℕ) (xs : List A) (j : ℕ) → slice_get (drop k xs) j ≡ slice_get xs (k + j)
slice_get-drop zero xs j = ap (λ n. slice_get xs n) (let e : j ≡ 0 + j = omega arith in e)
slice_get-drop (suc k) [] j = refl
slice_get-drop (suc k) (x ∷ xs) j =
    slice_get-drop k xs j ∙ ap (λ n. slice_get (x ∷ xs) n) (let e : suc (k + j) ≡ suc k + j = omega arith in e)

numbered-drop : {A : Type 0} (k : ℕ) (xs : List A) (j : ℕ) → 0 < j → numbered (drop k xs) j ≡ numbered xs (k + j)
numbered-drop k xs j from =
    ap (λ b. cond b None (slice_get (drop k xs) (j - 1))) (ne_eqb j 0 (λ e. absurd (omega (arith, e, from))))
    ∙ slice_get-drop k xs (j - 1)
    ∙ ap (λ n. slice_get xs n) (let e : k + (j - 1) ≡ k + j - 1 = omega (arith, from) in e)
    ∙ sym (ap (λ b. cond b None (slice_get xs (k + j - 1))) (ne_eqb (k + j) 0 (λ e. absurd (omega (arith, e, from)))))

-- a loose sequence isn't ordered
pub not-ordered : (o : Option Maker) → is_loose (behaviour_of o) ≡ true → is_ordered o ≡ false
not-ordered None e = refl
not-ordered (Some m) e = ap not e

module _ (q r : List Fact) (same : SaysTheSame q r) (s : ℕ) (are : AreNumbers (received r s))
    (from : (n : ℕ) → in_ranges (purged q s) n ≡ true → 0 < n) where
  pub told_same : told q s ≡ told r s
  told_same = ap (λ ts. at_seq s ts) same.frame.told_

  pub behaviour_same : behaviour q s ≡ behaviour r s
  behaviour_same = ap (λ ms. behaviour_of (numbered ms s)) same.frame.makers_

  stopped_same : is_stopped q s ≡ is_stopped r s
  stopped_same = ap (λ cs. not (is_empty (at_seq s cs))) same.frame.closes_

  pub messages_same : messages q s ≡ all_marked (purged q s) (messages r s)
  messages_same =
      let got = same.got s in
      let as_joined : items q s ≡ joined (purged q s) (without (purged q s) (received r s)) =
      ap (λ ms. joined (purged q s) ms) got.received_ in
      ap (λ ms. sorted_onto [] ms) as_joined
      ∙ sorted-marked (purged q s) (purged r s) (received r s) got.more
      (λ n. subst (λ ms. has_number (map (λ (m : ℕ × Item). m.0) ms) n ≡ has_number (held r s) n) as_joined
      (got.held_ n))
      from are

  inbox_same : length (inbox q s) ≡ length (inbox r s)
  inbox_same =
      ap (λ y. length (inbox_of y (told q s) (items q s))) behaviour_same
      ∙ ap (λ ns. length (inbox_of (behaviour r s) ns (items q s))) told_same
      ∙ elim (cases_Bool (is_loose (behaviour r s))) [
        | inl loose ↦
            let first = (same.got s).earliest (not-ordered (maker r s) loose) in
            ap length (inbox_of-loose (behaviour r s) (told r s) (items q s) loose)
            ∙ length-contents (items q s)
            ∙ omega (
              arith,
              length-items_of (purged q s) (received q s),
              length-items_of (purged r s) (received r s),
              first.count,
            )
            ∙ sym (length-contents (items r s))
            ∙ sym (ap length (inbox_of-loose (behaviour r s) (told r s) (items r s) loose))
        | inr ordered ↦
            inbox-marked (behaviour r s) (purged q s) (told r s) (items q s) (items r s) ordered messages_same
      ]

  discarded_same : length (discarded q s) ≡ length (discarded r s)
  discarded_same =
      ap (λ b. length (cond b (drop (length (inbox q s)) (contents_of (messages q s))) [])) stopped_same
      ∙ over (is_stopped r s)
    where
      over : (b : Bool) → length (cond b (drop (length (inbox q s)) (contents_of (messages q s))) [])
          ≡ length (cond b (drop (length (inbox r s)) (contents_of (messages r s))) [])
      over true =
          length-drop (length (inbox q s)) (contents_of (messages q s))
          ∙ ap (λ n. n - length (inbox q s)) (length-contents (messages q s) ∙ ap length messages_same
          ∙ length-marked (purged q s) (messages r s) ∙ sym (length-contents (messages r s)))
          ∙ ap (λ n. length (contents_of (messages r s)) - n) inbox_same
          ∙ sym (length-drop (length (inbox r s)) (contents_of (messages r s)))
      over false = refl

  message_same : (i : ℕ) → dropped q s < i → payload_at q s i ≡ payload_at r s i
  message_same i lt =
      let sent = same.sent s in
      ap (λ xs. numbered xs (i - dropped q s)) sent.accepted_
      ∙ numbered-drop (dropped q s - dropped r s) (accepted r s) (i - dropped q s) (omega (arith, lt))
      ∙ ap (λ n. numbered (accepted r s) n) (let e : dropped q s - dropped r s + (i - dropped q s) ≡ i - dropped r s =
      omega (arith, lt, sent.more) in e)

  facts_of : FactsOf q r s
  facts_of = record {
    message = message_same;
    messages_ = messages_same;
    front_ = ap (λ ms. length (without_gap 0 ms)) messages_same ∙ gap-marked (purged q s) 0 (messages r s);
    complete =
        ap (λ ms. is_whole_by (told q s) ms) messages_same
        ∙ ap (λ ns. is_whole_by ns (all_marked (purged q s) (messages r s))) told_same
        ∙ whole-marked (purged q s) (told r s) (messages r s);
    inbox_len = inbox_same;
    discarded_len = discarded_same;
  }

pub facts-equal : FactsAreEqual
facts-equal q r same s are from = facts_of q r same s are from
