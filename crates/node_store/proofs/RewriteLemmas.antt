-- What a journal that is written anew measures, and what becomes of the node and its disk.
use Rattle.std.proofs.Common.{◌≡◌, ◌≢◌, inl, inr, ℕ, suc, zero, ◌+◌, ◌-◌, ◌≤◌, ◌<◌, ◌^◌, Bool, true, false, ◌&&◌, min}
use Rattle.std.proofs.Common.{List, [], ◌∷◌, ◌++◌, length, take, drop, map, get_or, refl, sym, ap, subst, ◌∙◌, arith}
use Rattle.std.proofs.Common.{append_assoc, length-append, cond, ◌||◌, Option, Some, None}
use Rattle.std.specs.Prelude.{nat_le, nat_lt, not, is_none, is_ok, Result, Ok, Err}
use Rattle.std.specs.List.{flat_map}
use Rattle.std.proofs.lemmas.Bool.{and_parts, cases_Bool, le-leb, leb-true, leb-false, lt-leb}
use Rattle.std.proofs.lemmas.List.{map-append, take_more}
use Rattle.std.proofs.lemmas.List.Folds.{list_all-append}
use Rattle.record_batch.specs.Batch.{batch_text}
use Rattle.record_batch.specs.Fact.{Fact, Made}
use Rattle.record_batch.specs.Snapshot.Snapshot.{snapshot}
use Rattle.rm_disk.specs.Call.{Call, crashes_of}
use Rattle.rm_disk.specs.Fuse.{Burns}
use Rattle.rm_disk.specs.Image.{OnlyLeaves}
use Rattle.rm_disk.specs.ImageLemmas.{only_from}
use Rattle.rm_disk.specs.Told.{Told}
use Rattle.rm_disk.specs.Journal.Entries.{AllFit, block, list_of, StandsForOneOf}
use Rattle.rm_disk.specs.Journal.EntryLemmas.{blocks-push, end_is, fit_cons, length-block}
use Rattle.rm_disk.specs.Journal.Journal.{Fits, fits_before, list_refusal, next_bank, place_for}
use Rattle.rm_disk.specs.Journal.JournalState.{JournalState, end_of, journal_at}
use Rattle.rm_disk.specs.declared.journal.error.JournalError.{JournalError}
use Rattle.rm_disk.specs.declared.journal.error.JournalError.TheVariants.{Full as AtEnd}
use Rattle.rm_protocol.specs.AloneLemmas.{records-alone}
use Rattle.rm_protocol.specs.Node.{alone}
use Rattle.record_batch.specs.Sequences.Makers.{counter}
use Rattle.node_laws.specs.Records.{BeginsWithMade}
use Rattle.node_store.specs.declared.error.RewriteError.{RewriteError}
use Rattle.node_store.specs.declared.error.RewriteError.TheVariants.{Disk, Full, Memory}
use Rattle.node_store.specs.Has.{entries_of, Holds}
use Rattle.node_store.specs.Rewrites.{Answers, disk_failed, fit_as_entries, fresh, fresh_bank, fresh_batches}
use Rattle.node_store.specs.Rewrites.{fresh_entries, fresh_size, has_place}
use Rattle.node_store.specs.Rewrites.{IsRewritten, refusal_by, rewrite_refusal, Rewrites}
use Rattle.node_store.specs.Rewrites.{rewritten}
use Rattle.node_store.specs.Stored.{IsServing, Stored, stored}
use Rattle.node_store.proofs.CommitLemmas.{DrawsFew}
use Rattle.node_store.proofs.HasLemmas.{entries_of-push}
use Rattle.node_store.proofs.MountLemmas.{draws_few}

-- ---- what a list of records alone measures

-- one record more is one entry more
pub entries-alone_push : (r : List Fact) (f : Fact)
    → entries_of (alone (r ++ f ∷ [])) ≡ entries_of (alone r) ++ batch_text (f ∷ []) ∷ []
entries-alone_push r f =
    ap entries_of (map-append (λ (g : Fact). g ∷ []) r (f ∷ [])) ∙ entries_of-push (alone r) (f ∷ [])

-- by its length and the five bytes before it
pub size_push : (entries : List (List ℕ)) (entry : List ℕ)
    → length (list_of (entries ++ entry ∷ [])) ≡ length (list_of entries) + length entry + 5
size_push entries entry =
    omega (
      arith,
      ap (λ (l : List ℕ). length (l ++ 0 ∷ [])) (blocks-push entries entry),
      length-append (flat_map block entries ++ block entry) (0 ∷ []),
      length-append (flat_map block entries) (0 ∷ []),
      length-append (flat_map block entries) (block entry),
      length-block entry,
    )

pub fit-push : (entries : List (List ℕ)) (entry : List ℕ)
    → fit_as_entries (entries ++ entry ∷ []) ≡ (fit_as_entries entries && nat_le (length entry) 4194304)
fit-push entries entry = list_all-append (λ (e : List ℕ). nat_le (length e) 4194304) entries (entry ∷ [])
    ∙ ap (λ (b : Bool). fit_as_entries entries && b) (and_one (nat_le (length entry) 4194304))
  where
    and_one : (b : Bool) → (b && true) ≡ b
    and_one true = refl
    and_one false = refl

-- the first records of a list measure this, as entries of their own
pub record Measures (r : List Fact) (k size : ℕ) (fit : Bool) : Type 0 where
  pub is : size ≡ min (length (list_of (entries_of (alone (take k r))))) (2 ^ 64 - 1)
  pub fits : fit ≡ fit_as_entries (entries_of (alone (take k r)))

pub measures_more : (r batch : List Fact) (k size len : ℕ) (fit : Bool) (d : Fact) → k < length r
    → batch ≡ get_or r k d ∷ [] → len ≡ min (length (batch_text batch)) (2 ^ 64 - 1) → Measures r k size fit
    → Measures r (k + 1) (min (min (size + len) (2 ^ 64 - 1) + 5) (2 ^ 64 - 1)) (fit && nat_le len 4194304)
measures_more r batch k size len fit d low is text m =
    let entry = batch_text (get_or r k d ∷ []) in
    let more : entries_of (alone (take (k + 1) r)) ≡ entries_of (alone (take k r)) ++ entry ∷ [] =
    ap (λ (l : List Fact). entries_of (alone l)) (take_more r k d low) ∙ entries-alone_push (take k r) (get_or r k d) in
    let long : len ≡ min (length entry) (2 ^ 64 - 1) =
    text ∙ ap (λ (b : List Fact). min (length (batch_text b)) (2 ^ 64 - 1)) is in
    let sum = size_push (entries_of (alone (take k r))) entry in
    record {
      is = omega (arith, long, sum, m.is, ap (λ (l : List (List ℕ)). length (list_of l)) more);
      fits =
          ap (λ (b : Bool). b && nat_le len 4194304) m.fits
          ∙ ap (λ (b : Bool). fit_as_entries (entries_of (alone (take k r))) && b) (capped_le len (length entry) long)
          ∙ sym (fit-push (entries_of (alone (take k r))) entry)
          ∙ sym (ap fit_as_entries more);
    }
  where
    capped_le : (len n : ℕ) → len ≡ min n (2 ^ 64 - 1) → nat_le len 4194304 ≡ nat_le n 4194304
    capped_le len n e = elim (cases_Bool (nat_le n 4194304)) [
      | inl does ↦ le-leb len 4194304 (omega (arith, e, leb-true n 4194304 does)) ∙ sym does
      | inr fails ↦ lt-leb len 4194304 (omega (arith, e, leb-false n 4194304 fails)) ∙ sym fails
    ]

-- the records of a slice of one
pub slice_one : {A : Type 0} (f : A → Fact) (xs : List A) (k : ℕ) (d : Fact) → k < length xs
    → map f (take (k + 1 - k) (drop k xs)) ≡ get_or (map f xs) k d ∷ []
slice_one {A} f xs k d low =
    let one : k + 1 - k ≡ 1 = omega arith in
    ap (λ (n : ℕ). map f (take n (drop k xs))) one ∙ at xs k low
  where
    at : (xs : List A) (k : ℕ) → k < length xs → map f (take 1 (drop k xs)) ≡ get_or (map f xs) k d ∷ []
    at [] k low = absurd (omega arith)
    at (x ∷ xs) zero low = refl
    at (x ∷ xs) (suc k) low = at xs k (omega (arith, low))

-- the entries of the first records are made, and those of the others are short enough
pub record AreLeft (r : List Fact) (entries : List (List ℕ)) (rest : List Fact) : Type 0 where
  pub are : entries ++ entries_of (alone rest) ≡ entries_of (alone r)
  pub fit : fit_as_entries (entries_of (alone rest)) ≡ true

-- the next of them is short enough
pub next_fits : (r : List Fact) (entries : List (List ℕ)) (f : Fact) (rest : List Fact) → AreLeft r entries (f ∷ rest)
    → length (batch_text (f ∷ [])) ≤ 4194304
next_fits r entries f rest left =
    leb-true (length (batch_text (f ∷ []))) 4194304
    (and_parts (nat_le (length (batch_text (f ∷ []))) 4194304) (fit_as_entries (entries_of (alone rest))) left.fit).0

-- and is made
pub left_less : (r : List Fact) (entries : List (List ℕ)) (f : Fact) (rest : List Fact) → AreLeft r entries (f ∷ rest)
    → AreLeft r (entries ++ batch_text (f ∷ []) ∷ []) rest
left_less r entries f rest left = record {
  are = append_assoc entries (batch_text (f ∷ []) ∷ []) (entries_of (alone rest)) ∙ left.are;
  fit = (and_parts (nat_le (length (batch_text (f ∷ []))) 4194304) (fit_as_entries (entries_of (alone rest)))
      left.fit).1;
}

-- ---- entries that are short enough

pub all_fit_of : (entries : List (List ℕ)) → fit_as_entries entries ≡ true → AllFit entries
all_fit_of [] fit = λ k d low. absurd (omega arith)
all_fit_of (entry ∷ entries) fit =
    let parts = and_parts (nat_le (length entry) 4194304) (fit_as_entries entries) fit in
    fit_cons entry entries (leb-true _ _ parts.0) (all_fit_of entries parts.1)

-- ---- whether there is a place

le_not_lt : (a b : ℕ) → nat_le a b ≡ not (nat_lt b a)
le_not_lt a b = elim (cases_Bool (nat_lt b a)) [
  | inl more ↦ lt-leb a b (leb-true (suc b) a more) ∙ sym (ap (λ (x : Bool). not x) more)
  | inr less ↦ le-leb a b (omega (arith, leb-false (suc b) a less)) ∙ sym (ap (λ (x : Bool). not x) less)
]

none_by : (before long short : Bool) (x : JournalError) → short ≡ not long
    → is_none (cond before None (cond long (Some x) None)) ≡ (before || short)
none_by true long short x is = refl
none_by false true short x is = sym is
none_by false false short x is = sym is

-- before the list that stands, or behind it in a journal that is no longer than it may be
pub place_is : (journal : JournalState) (size : ℕ)
    → has_place journal size ≡ (fits_before journal size || nat_le (end_of journal + 1 + size) 268435456)
place_is journal size =
    none_by (fits_before journal size) (nat_lt 268435456 (end_of journal + 1 + size))
    (nat_le (end_of journal + 1 + size) 268435456) (AtEnd (end_of journal) (min (size + 1) (2 ^ 64 - 1)))
    (le_not_lt (end_of journal + 1 + size) 268435456)

-- a journal that is up refuses a list where it has no place
placed_is : (journal : JournalState) (size : ℕ) → journal.is_down ≡ false
    → is_none (list_refusal journal size) ≡ has_place journal size
placed_is journal size up =
    ap (λ (down : Bool). is_none (list_refusal (record journal { is_down = down }) size)) up

pub not_refused : (journal : JournalState) (answer : Option JournalError) (fit placed : Bool) (size : ℕ)
    → journal.is_down ≡ false → answer ≡ list_refusal journal size → placed ≡ is_none answer
    → (fit && placed) ≡ true → refusal_by journal fit size ≡ None
not_refused journal answer fit placed size up is has may =
    let e : placed ≡ has_place journal size = has ∙ ap (λ (o : Option JournalError). is_none o) is
    ∙ placed_is journal size up in
    ap (λ (b : Bool). cond b None (Some (Full (end_of journal) (min (size + 1) (2 ^ 64 - 1)))))
    (sym (ap (λ (b : Bool). fit && b) e) ∙ may)

pub refused_so : (journal : JournalState) (answer : Option JournalError) (fit placed : Bool) (size : ℕ)
    → journal.is_down ≡ false → answer ≡ list_refusal journal size → placed ≡ is_none answer
    → (fit && placed) ≡ false
    → refusal_by journal fit size ≡ Some (Full (end_of journal) (min (size + 1) (2 ^ 64 - 1)))
refused_so journal answer fit placed size up is has may =
    let e : placed ≡ has_place journal size = has ∙ ap (λ (o : Option JournalError). is_none o) is
    ∙ placed_is journal size up in
    ap (λ (b : Bool). cond b None (Some (Full (end_of journal) (min (size + 1) (2 ^ 64 - 1)))))
    (sym (ap (λ (b : Bool). fit && b) e) ∙ may)

-- ---- what becomes of the disk

-- nothing happened on it
no_moments : (past : List Call) (s : Stored) (batches : List (List Fact)) → Holds batches past s
    → OnlyLeaves past past (IsRewritten s batches)
no_moments past s batches holds =
    only_from past (IsRewritten s batches) (λ bytes may. inl (holds.journal.images bytes may))

-- a call that was refused before the journal was asked
pub refused_rewrites : (first : Told) (old new : Stored) → Rewrites first first old new false false
refused_rewrites first old new = record {
  holds = λ batches h e. absurd cc;
  moments = λ batches h. no_moments first.past old batches h;
  untouched = λ e f. refl;
  fuse = λ h. elim h [ inl e ↦ absurd cc | inr e ↦ absurd cc ];
  crashes = refl;
}

-- or whose answer is known so
pub refused_by : {T : Type 0} (first : Told) (old new : Stored) (result : Result T RewriteError)
    (error reason : RewriteError) → result ≡ Err error → error ≡ reason → reason ≢ Disk
    → Rewrites first first old new (is_ok result) (disk_failed result)
refused_by {T} first old new result error reason is same early =
    by result reason (is ∙ ap (λ (e : RewriteError). Err e) same) early
  where
    by : (result : Result T RewriteError) (reason : RewriteError) → result ≡ Err reason → reason ≢ Disk
        → Rewrites first first old new (is_ok result) (disk_failed result)
    by (Ok value) reason is early = absurd cc
    by (Err Memory) reason is early = refused_rewrites first old new
    by (Err Disk) reason is early = absurd (early cc)
    by (Err (Full end needed)) reason is early = refused_rewrites first old new

abbrev told : List Call → Option ℕ → ℕ → Told
told past fuse faults = record { past = past; fuse = fuse; faults = faults }

-- or after it
pub still_rewrites : (first now : Told) (old new : Stored) → now.past ≡ first.past → now.fuse ≡ first.fuse
    → now.faults ≡ first.faults → Rewrites first now old new false false
still_rewrites first now old new past fuse faults = record {
  holds = λ batches h e. absurd cc;
  moments = λ batches h.
      subst (λ (l : List Call). OnlyLeaves first.past l (IsRewritten old batches)) (sym past)
      (no_moments first.past old batches h);
  untouched = λ e g. ap (λ (l : List Call). told l now.fuse now.faults) past
      ∙ ap (λ (o : Option ℕ). told first.past o now.faults) fuse
      ∙ ap (λ (n : ℕ). told first.past first.fuse n) faults;
  fuse = λ h. elim h [ inl e ↦ absurd cc | inr e ↦ absurd cc ];
  crashes = ap crashes_of past;
}

-- what a crash leaves while the journal writes these entries
abbrev Moments : (first now : Told) → Stored → List (List ℕ) → Type 0
Moments first now old fresh =
    (entries : List (List ℕ)) → Fits entries first.past old.journal
    → OnlyLeaves first.past now.past
    (StandsForOneOf old.journal.bank entries (next_bank old.journal fresh) fresh)

moments_so : (first now : Told) (old : Stored) (fresh : List (List ℕ)) → fresh ≡ fresh_entries old.records
    → Moments first now old fresh → (batches : List (List Fact)) → Holds batches first.past old
    → OnlyLeaves first.past now.past (IsRewritten old batches)
moments_so first now old fresh is moments batches h =
    (subst (Moments first now old) is moments) (entries_of batches) h.journal

-- the disk failed
pub broken_rewrites : (first now : Told) (old new : Stored) (fresh : List (List ℕ)) → fresh ≡ fresh_entries old.records
    → ((entries : List (List ℕ)) → Fits entries first.past old.journal
    → OnlyLeaves first.past now.past
    (StandsForOneOf old.journal.bank entries (next_bank old.journal fresh) fresh))
    → Burns 5 first.fuse now.fuse false → crashes_of now.past ≡ crashes_of first.past
    → Rewrites first now old new false true
broken_rewrites first now old new fresh is moments burns crashes = record {
  holds = λ batches h e. absurd cc;
  moments = moments_so first now old fresh is moments;
  untouched = λ e g. absurd cc;
  fuse = λ h. burns;
  crashes = crashes;
}

-- all went well
pub done_rewrites : (first now : Told) (old : Stored) (journal : JournalState) (records : List Fact)
    (fresh : List (List ℕ)) → fresh ≡ fresh_entries old.records
    → ((entries : List (List ℕ)) → Fits entries first.past old.journal
    → OnlyLeaves first.past now.past
    (StandsForOneOf old.journal.bank entries (next_bank old.journal fresh) fresh))
    → Fits fresh now.past journal → records ≡ snapshot old.records → Burns 5 first.fuse now.fuse true
    → crashes_of now.past ≡ crashes_of first.past → Rewrites first now old (stored journal records) true false
done_rewrites first now old journal records fresh is moments fits are burns crashes = record {
  holds = λ batches h e. record {
    journal = subst (λ (es : List (List ℕ)). Fits es now.past journal) is fits;
    records = are ∙ sym (records-alone (snapshot old.records));
  };
  moments = moments_so first now old fresh is moments;
  untouched = λ e g. absurd cc;
  fuse = λ h. burns;
  crashes = crashes;
}

-- ---- the node serves still

begins_short : (r : List Fact) → BeginsWithMade r → BeginsWithMade (snapshot r)
begins_short [] h = absurd h
begins_short (Made node address ∷ r) h = tt
begins_short (_ ∷ r) h = absurd h

-- a list that has a place ends within what memory can hold
placed_within : (journal : JournalState) (size : ℕ) → journal.bank.start ≤ end_of journal → end_of journal < 2 ^ 61
    → has_place journal size ≡ true → place_for journal size + size ≤ 2 ^ 61
placed_within journal size placed short place = elim (cases_Bool (fits_before journal size)) [
  | inl does ↦
      let at : place_for journal size ≡ 25 = ap (λ (b : Bool). cond b 25 (end_of journal + 1)) does in
      omega (arith, at, leb-true (25 + size) journal.bank.start does)
  | inr fails ↦
      let at : place_for journal size ≡ end_of journal + 1 = ap (λ (b : Bool). cond b 25 (end_of journal + 1)) fails in
      let fits : nat_le (end_of journal + 1 + size) 268435456 ≡ true =
      sym (ap (λ (b : Bool). b || nat_le (end_of journal + 1 + size) 268435456) fails)
      ∙ sym (place_is journal size) ∙ place in
      omega (arith, at, leb-true (end_of journal + 1 + size) 268435456 fits)
]

fresh_serves : DrawsFew → (journal : JournalState) (r : List Fact) → IsServing journal r
    → has_place journal (fresh_size r) ≡ true
    → IsServing (fresh (stored journal r)).journal (fresh (stored journal r)).records
fresh_serves few journal r is place =
    let entries = fresh_entries r in
    let bank = fresh_bank (stored journal r) in
    let long : fresh_size r ≡ length (flat_map block entries) + 1 = length-append (flat_map block entries) (0 ∷ []) in
    let end : end_of (journal_at bank entries) ≡ bank.start + length (flat_map block entries) =
    end_is (journal_at bank entries) entries refl in
    let draws : counter (snapshot r) ≤ length (flat_map block entries) =
    subst (λ (l : List Fact). counter l ≤ length (flat_map block entries)) (records-alone (snapshot r))
    (draws_few few (fresh_batches r)) in
    let within = placed_within journal (fresh_size r) is.placed is.short place in
    record {
      begins = begins_short r is.begins;
      drawn = omega (arith, draws, end);
      short = omega (arith, within, end, long);
      placed = omega (arith, end);
    }

-- where nothing is refused the entries are short enough, and there is a place
may_of : (journal : JournalState) (fit : Bool) (size : ℕ) → refusal_by journal fit size ≡ None
    → (fit ≡ true) × (has_place journal size ≡ true)
may_of journal fit size none = elim (cases_Bool (fit && has_place journal size)) [
  | inl does ↦ and_parts fit (has_place journal size) does
  | inr fails ↦
      let full : RewriteError = Full (end_of journal) (min (size + 1) (2 ^ 64 - 1)) in
      absurd (some_is_none full (sym (ap (λ (b : Bool). cond b None (Some full)) fails) ∙ none))
]
  where
    some_is_none : (x : RewriteError) → Some x ≡ None → ⊥
    some_is_none x e = cc

pub fit_of : (s : Stored) → rewrite_refusal s ≡ None → fit_as_entries (fresh_entries s.records) ≡ true
fit_of s none = (may_of s.journal (fit_as_entries (fresh_entries s.records)) (fresh_size s.records) none).0

answered_ok : {T : Type 0} (refusal : Option RewriteError) (result : Result T RewriteError) → Answers refusal result
    → is_ok result ≡ true → refusal ≡ None
answered_ok None result answers ok = refl
answered_ok (Some e) (Ok value) answers ok = absurd cc
answered_ok (Some e) (Err error) answers ok = absurd cc

pub serving_rewritten : {T : Type 0} → DrawsFew → (journal journal2 : JournalState) (r r2 : List Fact)
    (result : Result T RewriteError) (failed : Bool) → IsServing journal r
    → Answers (rewrite_refusal (stored journal r)) result
    → stored journal2 r2 ≡ rewritten (stored journal r) (is_ok result) failed → IsServing journal2 r2
serving_rewritten {T} few journal journal2 r r2 result failed is answers e =
    subst (λ (s : Stored). IsServing s.journal s.records) (sym e)
    (so (is_ok result) failed (λ ok. (may_of journal (fit_as_entries (fresh_entries r)) (fresh_size r)
    (answered_ok (rewrite_refusal (stored journal r)) result answers ok)).1))
  where
    so : (ok failed : Bool) → (ok ≡ true → has_place journal (fresh_size r) ≡ true)
        → IsServing (rewritten (stored journal r) ok failed).journal (rewritten (stored journal r) ok failed).records
    so true failed place = fresh_serves few journal r is (place refl)
    so false true place =
        record { begins = is.begins; drawn = is.drawn; short = is.short; placed = is.placed }
    so false false place = is
