-- To say the same but for items that are gone: of two steps, and after one more record.
use Rattle.std.proofs.Common.{◌≡◌, ℕ, zero, suc, ◌+◌, ◌-◌, ◌≤◌, Bool, true, false, ◌||◌, cond, max, List, [], ◌∷◌, ◌++◌}
use Rattle.std.proofs.Common.{length, drop, refl, sym, ◌∙◌, ap, subst, inl, inr, arith, length-append, Option, None}
use Rattle.std.proofs.Common.{Some}
use Rattle.std.specs.List.{flat_map}
use Rattle.std.proofs.lemmas.Bool.{cases_Bool, true≢false}
use Rattle.std.proofs.lemmas.List.{append-nil}
use Rattle.rm_sides.specs.Ranges.Laws.{EndsAreRight, UnionHasBoth}
use Rattle.rm_sides.specs.declared.ranges.range.Range.{Range}
use Rattle.rm_sides.specs.Ranges.Ranges.{count_of, in_ranges}
use Rattle.rm_base.specs.NumberSet.{greatest_of, has_number}
use Rattle.rm_base.specs.Numbered.{numbered}
use Rattle.rm_sides.specs.Destination.Incoming.{is_loose}
use Rattle.rm_sides.specs.Destination.ItemLemmas.{has-more}
use Rattle.rm_sides.specs.Destination.MessageLemmas.{once-more}
use Rattle.rm_sides.specs.Destination.Messages.{AreOnce, without}
use Rattle.rm_sides.specs.Destination.Messages.{numbers_of}
use Rattle.record_batch.specs.Fact.{Fact, Dropped, Purged}
use Rattle.record_batch.specs.Sequences.Words.{last_or}
use Rattle.record_batch.specs.Sequences.Makers.{Maker, addresses_of, created, created_of, draws_of, maker, makers}
use Rattle.record_batch.specs.Sequences.Makers.{makers_of}
use Rattle.record_batch.specs.Sequences.Makers.{nodes_of}
use Rattle.record_batch.specs.Sequences.Sources.{accepted, accepted_of, acked, acked_of, dropped, dropped_of, mark_of}
use Rattle.record_batch.specs.Sequences.Sources.{ticket_of}
use Rattle.record_batch.specs.Sequences.Destinations.{behaviour, behaviour_of, close_of, cursor, cursor_of, held}
use Rattle.record_batch.specs.Sequences.Destinations.{purged}
use Rattle.record_batch.specs.Sequences.Destinations.{purged_of, received, received_of, told_of}
use Rattle.record_batch.specs.Sequences.Find.{accept_of}
use Rattle.record_batch.specs.Sequences.GatherLemmas.{created_from-more, flat_map-more, greatest_of-append}
use Rattle.record_batch.specs.Sequences.StayLemmas.{maker-stays}
use Rattle.record_batch.specs.Snapshot.AckedLemmas.{in_ranges-join, sent-stays}
use Rattle.record_batch.specs.Snapshot.FrameLemmas.{same_frame}
use Rattle.record_batch.specs.Snapshot.GoneLemmas.{held-has}
use Rattle.record_batch.specs.Snapshot.GotLemmas.{a_consume, a_message, a_purge, besides, got_kind, received-with}
use Rattle.record_batch.specs.Snapshot.PassedLemmas.{got-stays}
use Rattle.record_batch.specs.Snapshot.Same.{IsLive, IsNewIn, KeptByOneMore, SameFrame, SameReceived, SameSent}
use Rattle.record_batch.specs.Snapshot.Same.{SaysTheSame}
use Rattle.record_batch.specs.Snapshot.Same.{SnapshotKeepsAll, SnapshotSaysTheSame, gone_count, is_ordered}
use Rattle.record_batch.specs.Snapshot.Snapshot.{snapshot}

-- ---- two steps

frame-both : (q r w : List Fact) → SameFrame q r → SameFrame r w → SameFrame q w
frame-both q r w a b = record {
  makers_ = a.makers_ ∙ b.makers_;
  draws = a.draws ∙ b.draws;
  nodes = a.nodes ∙ b.nodes;
  addresses = a.addresses ∙ b.addresses;
  created_ = a.created_ ∙ b.created_;
  marks_ = a.marks_ ∙ b.marks_;
  tickets_ = a.tickets_ ∙ b.tickets_;
  closes_ = a.closes_ ∙ b.closes_;
  told_ = a.told_ ∙ b.told_;
  accepts = a.accepts ∙ b.accepts;
}

drop-none : {A : Type 0} (k : ℕ) → drop {A = A} k [] ≡ []
drop-none zero = refl
drop-none (suc k) = refl

drop-both : {A : Type 0} (j k : ℕ) (xs : List A) → drop j (drop k xs) ≡ drop (k + j) xs
drop-both j zero xs = ap (λ n. drop n xs) (let e : j ≡ 0 + j = omega arith in e)
drop-both j (suc k) [] = drop-none j ∙ sym (drop-none (suc k + j))
drop-both j (suc k) (x ∷ xs) =
    drop-both j k xs ∙ ap (λ n. drop n (x ∷ xs)) (let e : suc (k + j) ≡ suc k + j = omega arith in e)

sent-both : (q r w : List Fact) (s : ℕ) → SameSent q r s → SameSent r w s → SameSent q w s
sent-both q r w s a b = record {
  more = omega (arith, a.more, b.more);
  accepted_ =
      a.accepted_
      ∙ ap (λ xs. drop (dropped q s - dropped r s) xs) b.accepted_
      ∙ drop-both (dropped q s - dropped r s) (dropped r s - dropped w s) (accepted w s)
      ∙ ap (λ n. drop n (accepted w s)) (let e : dropped r s - dropped w s + (dropped q s - dropped r s)
      ≡ dropped q s - dropped w s = omega (arith, a.more, b.more) in e);
  count = a.count ∙ b.count;
  acked_ = λ n. a.acked_ n ∙ b.acked_ n;
}

without-both : {A : Type 0} (ps rs : List Range) (ms : List (ℕ × A))
    → ((n : ℕ) → in_ranges rs n ≡ true → in_ranges ps n ≡ true) → without ps (without rs ms) ≡ without ps ms
without-both ps rs [] h = refl
without-both ps rs (m ∷ ms) h = elim (cases_Bool (in_ranges rs m.0)) [
  | inl gone ↦
      ap (λ b. without ps (cond b (without rs ms) (m ∷ without rs ms))) gone
      ∙ without-both ps rs ms h
      ∙ sym (ap (λ b. cond b (without ps ms) (m ∷ without ps ms)) (h m.0 gone))
  | inr there ↦
      ap (λ b. without ps (cond b (without rs ms) (m ∷ without rs ms))) there
      ∙ ap (λ xs. cond (in_ranges ps m.0) xs (m ∷ xs)) (without-both ps rs ms h)
]

got-both : (q r w : List Fact) (s : ℕ) → makers r ≡ makers w → SameReceived q r s → SameReceived r w s
    → SameReceived q w s
got-both q r w s made a b = record {
  more = λ n e. a.more n (b.more n e);
  received_ =
      a.received_ ∙ ap (λ ms. without (purged q s) ms) b.received_
      ∙ without-both (purged q s) (purged r s) (received w s) a.more;
  held_ = λ n. a.held_ n ∙ b.held_ n;
  cursor_ = a.cursor_ ∙ b.cursor_;
  below = λ ordered. a.below (ap (λ ms. is_loose (behaviour_of (numbered ms s))) made ∙ ordered);
  earliest = λ loose.
      let first = b.earliest loose in
      let more = a.earliest (ap (λ ms. is_ordered (numbered ms s)) made ∙ loose) in
      record {
        less = omega (arith, first.less, more.less);
        reach = more.reach;
        left =
            more.left
            ∙ ap (λ xs. drop (gone_count q s - gone_count r s) xs) first.left
            ∙ drop-both (gone_count q s - gone_count r s) (gone_count r s - gone_count w s) (received w s)
            ∙ ap (λ n. drop n (received w s)) (let e : gone_count r s - gone_count w s
            + (gone_count q s - gone_count r s) ≡ gone_count q s - gone_count w s =
            omega (arith, first.less, more.less) in e);
        count = more.count ∙ first.count;
      };
  once = b.once;
}

pub says-both : (q r w : List Fact) → SaysTheSame q r → SaysTheSame r w → SaysTheSame q w
says-both q r w a b = record {
  frame = frame-both q r w a.frame b.frame;
  sent = λ s. sent-both q r w s (a.sent s) (b.sent s);
  got = λ s. got-both q r w s b.frame.makers_ (a.got s) (b.got s);
}

pub snapshot-says : UnionHasBoth → EndsAreRight → SnapshotSaysTheSame
snapshot-says both ends r fit proper = record {
  frame = same_frame r;
  sent = sent-stays both ends r fit proper;
  got = got-stays both r fit;
}

pub snapshot-keeps : UnionHasBoth → EndsAreRight → SnapshotKeepsAll
snapshot-keeps both ends r whole fit proper same =
    says-both (snapshot r) r whole (snapshot-says both ends r fit proper) same

-- ---- one more record

push : {A : Type 0} (g : Fact → List A) (q r : List Fact) (f : Fact) → flat_map g q ≡ flat_map g r
    → flat_map g (q ++ f ∷ []) ≡ flat_map g (r ++ f ∷ [])
push g q r f same = flat_map-more g q f ∙ ap (λ xs. xs ++ g f) same ∙ sym (flat_map-more g r f)

frame-more : (q r : List Fact) (f : Fact) → SameFrame q r → SameFrame (q ++ f ∷ []) (r ++ f ∷ [])
frame-more q r f same = record {
  makers_ = push makers_of q r f same.makers_;
  draws = push draws_of q r f same.draws;
  nodes = push nodes_of q r f same.nodes;
  addresses = push addresses_of q r f same.addresses;
  created_ =
      created_from-more 0 q f
      ∙ ap (λ ms. created q ++ created_of (0 + length ms) f) same.makers_
      ∙ ap (λ cs. cs ++ created_of (0 + length (makers r)) f) same.created_
      ∙ sym (created_from-more 0 r f);
  marks_ = push mark_of q r f same.marks_;
  tickets_ = push ticket_of q r f same.tickets_;
  closes_ = push close_of q r f same.closes_;
  told_ = push told_of q r f same.told_;
  accepts = push accept_of q r f same.accepts;
}

drop-append : {A : Type 0} (k : ℕ) (xs ys : List A) → k ≤ length xs → drop k (xs ++ ys) ≡ drop k xs ++ ys
drop-append zero xs ys le = refl
drop-append (suc k) [] ys le = absurd (omega (arith, le))
drop-append (suc k) (x ∷ xs) ys le = drop-append k xs ys (omega (arith, le))

dropped-live : (s : ℕ) (f : Fact) → IsLive f → dropped_of s f ≡ []
dropped-live s (Dropped seq upto) live = absurd live
dropped-live s _ live = refl

purged-live : (s : ℕ) (f : Fact) → IsLive f → purged_of s f ≡ []
purged-live s (Purged seq ranges) live = absurd live
purged-live s _ live = refl

still : {A : Type 0} (g : Fact → List A) (q : List Fact) (f : Fact) → g f ≡ [] → flat_map g (q ++ f ∷ []) ≡ flat_map g q
still g q f none = flat_map-more g q f ∙ ap (λ xs. flat_map g q ++ xs) none ∙ append-nil (flat_map g q)

sent-more : (q r : List Fact) (f : Fact) (s : ℕ) → IsLive f → SameSent q r s → SameSent (q ++ f ∷ []) (r ++ f ∷ []) s
sent-more q r f s live same =
    let dq : dropped (q ++ f ∷ []) s ≡ dropped q s =
    ap (λ xs. last_or 0 xs) (still (dropped_of s) q f (dropped-live s f live)) in
    let dr : dropped (r ++ f ∷ []) s ≡ dropped r s =
    ap (λ xs. last_or 0 xs) (still (dropped_of s) r f (dropped-live s f live)) in
    let aq = flat_map-more (accepted_of s) q f in
    let ar = flat_map-more (accepted_of s) r f in
    let within : dropped q s - dropped r s ≤ length (accepted r s) = omega (arith, same.count, same.more) in
    record {
      more = omega (arith, same.more, dq, dr);
      accepted_ =
          aq ∙ ap (λ xs. xs ++ accepted_of s f) same.accepted_
          ∙ sym (drop-append (dropped q s - dropped r s) (accepted r s) (accepted_of s f) within)
          ∙ ap (λ xs. drop (dropped q s - dropped r s) xs) (sym ar)
          ∙ ap (λ n. drop n (accepted (r ++ f ∷ []) s)) (let e : dropped q s - dropped r s
          ≡ dropped (q ++ f ∷ []) s - dropped (r ++ f ∷ []) s = omega (arith, dq, dr) in e);
      count = omega (
        arith,
        same.count,
        dq,
        dr,
        ap length aq,
        ap length ar,
        length-append (accepted q s) (accepted_of s f),
        length-append (accepted r s) (accepted_of s f),
      );
      acked_ = λ n.
          ap (λ xs. in_ranges xs n) (flat_map-more (acked_of s) q f)
          ∙ in_ranges-join (acked q s) (acked_of s f) n
          ∙ ap (λ b. b || in_ranges (acked_of s f) n) (same.acked_ n)
          ∙ sym (ap (λ xs. in_ranges xs n) (flat_map-more (acked_of s) r f)
          ∙ in_ranges-join (acked r s) (acked_of s f) n);
    }

numbers-append : {A : Type 0} (xs ys : List (ℕ × A)) → numbers_of (xs ++ ys) ≡ numbers_of xs ++ numbers_of ys
numbers-append [] ys = refl
numbers-append (x ∷ xs) ys = ap (λ ns. x.0 ∷ ns) (numbers-append xs ys)

pub without-append : {A : Type 0} (ps : List Range) (xs ys : List (ℕ × A)) → without ps (xs ++ ys) ≡ without ps xs
    ++ without ps ys
without-append ps [] ys = refl
without-append ps (x ∷ xs) ys = ap (λ zs. cond (in_ranges ps x.0) zs (x ∷ zs)) (without-append ps xs ys)
    ∙ over (in_ranges ps x.0)
  where
    over : (b : Bool) → cond b (without ps xs ++ without ps ys) (x ∷ (without ps xs ++ without ps ys))
        ≡ cond b (without ps xs) (x ∷ without ps xs) ++ without ps ys
    over true = refl
    over false = refl

-- what is received is none of what is gone
new-there : (q : List Fact) (f : Fact) (s : ℕ) → IsNewIn q f
    → without (purged q s) (received_of s f) ≡ received_of s f
new-there q f s new = elim (got_kind s f) as (λ g k. IsNewIn q g
    → without (purged q s) (received_of s g) ≡ received_of s g) [
      | a_message n p ↦ λ new.
          ap (λ ms. without (purged q s) ms) (received-with s n p)
          ∙ ap (λ b. cond b [] ((n, p) ∷ [])) (first n (held-has q s n) new)
          ∙ sym (received-with s n p)
      | a_purge ranges ↦ λ new. refl
      | a_consume upto ↦ λ new. refl
      | besides g gots purges cursors ↦ λ new.
          ap (λ ms. without (purged q s) ms) (gots g (refl, refl)) ∙ sym (gots g (refl, refl))
    ] new
  where
    first : (n : ℕ) → has_number (held q s) n ≡ (in_ranges (purged q s) n || has_number (numbers_of (received q s)) n)
        → has_number (held q s) n ≡ false → in_ranges (purged q s) n ≡ false
    first n e new = none (in_ranges (purged q s) n) (has_number (numbers_of (received q s)) n) (sym e ∙ new)
      where
        none : (a b : Bool) → (a || b) ≡ false → a ≡ false
        none true b h = absurd (true≢false h)
        none false b h = refl

held-more : (q : List Fact) (f : Fact) (s n : ℕ) → IsLive f
    → has_number (held (q ++ f ∷ []) s) n ≡ (has_number (held q s) n || has_number (numbers_of (received_of s f)) n)
held-more q f s n live =
    held-has (q ++ f ∷ []) s n
    ∙ ap (λ xs. in_ranges xs n || has_number (numbers_of (received (q ++ f ∷ []) s)) n)
    (still (purged_of s) q f (purged-live s f live))
    ∙ ap (λ ms. in_ranges (purged q s) n || has_number (numbers_of ms) n) (flat_map-more (received_of s) q f)
    ∙ ap (λ ns. in_ranges (purged q s) n || has_number ns n) (numbers-append (received q s) (received_of s f))
    ∙ ap (λ b. in_ranges (purged q s) n || b) (has-more (numbers_of (received q s)) (numbers_of (received_of s f)) n)
    ∙ or_three (in_ranges (purged q s) n) (has_number (numbers_of (received q s)) n)
    (has_number (numbers_of (received_of s f)) n)
    ∙ ap (λ b. b || has_number (numbers_of (received_of s f)) n) (sym (held-has q s n))
  where
    or_three : (a b c : Bool) → (a || (b || c)) ≡ ((a || b) || c)
    or_three true b c = refl
    or_three false b c = refl

-- a sequence that was made stays as it was made, and one that wasn't made is none that is ordered
was-ordered : (r : List Fact) (f : Fact) (s : ℕ) → is_loose (behaviour (r ++ f ∷ []) s) ≡ false
    → is_loose (behaviour r s) ≡ false
was-ordered r f s ordered = by (maker r s) refl
  where
    by : (o : Option Maker) → maker r s ≡ o → is_loose (behaviour r s) ≡ false
    by None e = ap (λ o. is_loose (behaviour_of o)) e
    by (Some m) e = ap (λ o. is_loose (behaviour_of o)) (e ∙ sym (maker-stays r (f ∷ []) s m e)) ∙ ordered

was-loose : (r : List Fact) (f : Fact) (s : ℕ) → is_ordered (maker (r ++ f ∷ []) s) ≡ false
    → is_ordered (maker r s) ≡ false
was-loose r f s loose = by (maker r s) refl
  where
    by : (o : Option Maker) → maker r s ≡ o → is_ordered (maker r s) ≡ false
    by None e = ap (λ o. is_ordered o) e
    by (Some m) e = ap (λ o. is_ordered o) (e ∙ sym (maker-stays r (f ∷ []) s m e)) ∙ loose

-- a message that is new is received once
once-adds : (q r : List Fact) (f : Fact) (s : ℕ) → IsNewIn q f → SameReceived q r s → AreOnce (received (r ++ f ∷ []) s)
once-adds q r f s new same = subst AreOnce (sym (flat_map-more (received_of s) r f))
    (elim (got_kind s f) as (λ g k. IsNewIn q g → AreOnce (received r s ++ received_of s g)) [
      | a_message n p ↦ λ new.
          subst (λ xs. AreOnce (received r s ++ xs)) (sym (received-with s n p))
          (once-more (received r s) n p same.once (new-number n (sym (same.held_ n) ∙ new)))
      | a_purge ranges ↦ λ new. subst AreOnce (sym (append-nil (received r s))) same.once
      | a_consume upto ↦ λ new. subst AreOnce (sym (append-nil (received r s))) same.once
      | besides g gots purges cursors ↦ λ new.
          subst (λ xs. AreOnce (received r s ++ xs)) (sym (gots g (refl, refl)))
          (subst AreOnce (sym (append-nil (received r s))) same.once)
    ] new)
  where
    new-number : (n : ℕ) → has_number (held r s) n ≡ false → has_number (numbers_of (received r s)) n ≡ false
    new-number n none =
        not-second (in_ranges (purged r s) n) (has_number (numbers_of (received r s)) n) (sym (held-has r s n) ∙ none)
      where
        not-second : (a b : Bool) → (a || b) ≡ false → b ≡ false
        not-second true b e = absurd (true≢false e)
        not-second false b e = e

got-more : (q r : List Fact) (f : Fact) (s : ℕ) → IsLive f → IsNewIn q f → SameReceived q r s
    → SameReceived (q ++ f ∷ []) (r ++ f ∷ []) s
got-more q r f s live new same =
    let pq : purged (q ++ f ∷ []) s ≡ purged q s = still (purged_of s) q f (purged-live s f live) in
    let pr : purged (r ++ f ∷ []) s ≡ purged r s = still (purged_of s) r f (purged-live s f live) in
    let up : (l : List Fact) → cursor (l ++ f ∷ []) s ≡ max (cursor l s) (greatest_of (cursor_of s f)) =
    (λ l. ap greatest_of (flat_map-more (cursor_of s) l f)
    ∙ greatest_of-append (flat_map (cursor_of s) l) (cursor_of s f)) in
    record {
      more = λ n e.
          ap (λ xs. in_ranges xs n) pq ∙ same.more n (ap (λ xs. in_ranges xs n) (sym pr) ∙ e);
      received_ =
          flat_map-more (received_of s) q f
          ∙ ap (λ xs. xs ++ received_of s f) same.received_
          ∙ ap (λ xs. without (purged q s) (received r s) ++ xs) (sym (new-there q f s new))
          ∙ sym (without-append (purged q s) (received r s) (received_of s f))
          ∙ ap (λ xs. without (purged q s) xs) (sym (flat_map-more (received_of s) r f))
          ∙ ap (λ ps. without ps (received (r ++ f ∷ []) s)) (sym pq);
      held_ = λ n.
          held-more q f s n live
          ∙ ap (λ b. b || has_number (numbers_of (received_of s f)) n) (same.held_ n)
          ∙ sym (held-more r f s n live);
      cursor_ = up q ∙ ap (λ n. max n (greatest_of (cursor_of s f))) same.cursor_ ∙ sym (up r);
      below = λ ordered n lt.
          ap (λ xs. in_ranges xs n) pq ∙ same.below (was-ordered r f s ordered) n (omega (arith, lt, up q));
      earliest = λ loose.
          let first = same.earliest (was-loose r f s loose) in
          let gq : gone_count (q ++ f ∷ []) s ≡ gone_count q s = ap (λ xs. count_of xs) pq in
          let gr : gone_count (r ++ f ∷ []) s ≡ gone_count r s = ap (λ xs. count_of xs) pr in
          let mq = flat_map-more (received_of s) q f in
          let mr = flat_map-more (received_of s) r f in
          let within : gone_count q s - gone_count r s ≤ length (received r s) =
          omega (arith, first.count, first.less) in
          record {
            less = omega (arith, first.less, gq, gr);
            reach = omega (arith, first.reach, gq, up q);
            left =
                mq ∙ ap (λ xs. xs ++ received_of s f) first.left
                ∙ sym (drop-append (gone_count q s - gone_count r s) (received r s) (received_of s f) within)
                ∙ ap (λ xs. drop (gone_count q s - gone_count r s) xs) (sym mr)
                ∙ ap (λ n. drop n (received (r ++ f ∷ []) s)) (let e : gone_count q s - gone_count r s
                ≡ gone_count (q ++ f ∷ []) s - gone_count (r ++ f ∷ []) s = omega (arith, gq, gr) in e);
            count = omega (
              arith,
              first.count,
              gq,
              gr,
              ap length mq,
              ap length mr,
              length-append (received q s) (received_of s f),
              length-append (received r s) (received_of s f),
            );
          };
      once = once-adds q r f s new same;
    }

pub kept-by-one-more : KeptByOneMore
kept-by-one-more q r f live new same = record {
  frame = frame-more q r f same.frame;
  sent = λ s. sent-more q r f s live (same.sent s);
  got = λ s. got-more q r f s live new (same.got s);
}
