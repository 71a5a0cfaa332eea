-- Entries that are read one after the other.
use Rattle.std.proofs.Common.{◌≡◌, ℕ, ◌+◌, Bool, true, false, List, [], ◌∷◌, ◌++◌, take}
use Rattle.std.proofs.Common.{length, drop, Some, refl, sym, ap, subst, ◌∙◌, append_assoc, length-append, arith}
use Rattle.std.specs.Prelude.{◌&&◌, slice_get, Result, Err}
use Rattle.std.specs.List.{AllByRecursion}
use Rattle.std.proofs.lemmas.Bool.{and_parts, true≢false}
use Rattle.std.proofs.lemmas.Grind.{flat_map-append}
use Rattle.std.proofs.lemmas.List.{append-nil, drop_more, take_all, take_more, take-append-drop}
use Rattle.std.proofs.lemmas.Option.{get_or_from_slice_get, slice_get_within}
use Rattle.record_batch.specs.Batch.{batch_at, batch_text}
use Rattle.record_batch.specs.Fact.{Fact}
use Rattle.record_batch.specs.Writable.{IsBatch}
use Rattle.rm_protocol.specs.Node.{records_in}
use Rattle.record_batch.specs.Sequences.Fits.{all_fit, fits}
use Rattle.node_laws.specs.Records.{KeepsLimits}
use Rattle.node_tables.specs.Ready.{StopsAt}
use Rattle.node_tables.specs.declared.error.TableError.{TableError}
use Rattle.node_tables.specs.declared.error.TableError.TheVariants.{Misfit}
use Rattle.node_store.specs.Has.{entries_of}
use Rattle.node_store.specs.Mounted.{AreReplayed, AreReplayedFrom, IsAdded, IsMore, IsStuck, Replays}
use Rattle.node_store.proofs.HasLemmas.{ReadsBack, entries_of-push, records_in-push, some_is}

-- a result has one error
pub err_is : {T E : Type 0} (a b : E) (r : Result T E) → r ≡ Err a → r ≡ Err b → a ≡ b
err_is a b r e f = cc

-- ---- records that fit one after the other

fit_front : (r xs ys : List Fact) → all_fit r (xs ++ ys) ≡ true → all_fit r xs ≡ true
fit_front r [] ys fit = refl
fit_front r (x ∷ xs) ys fit =
    let parts = and_parts (fits r x) (all_fit (r ++ x ∷ []) (xs ++ ys)) fit in
    ap (λ (b : Bool). b && all_fit (r ++ x ∷ []) xs) parts.0 ∙ fit_front (r ++ x ∷ []) xs ys parts.1

fit_rest : (r xs ys : List Fact) → all_fit r (xs ++ ys) ≡ true → all_fit (r ++ xs) ys ≡ true
fit_rest r [] ys fit = subst (λ (l : List Fact). all_fit l ys ≡ true) (sym (append-nil r)) fit
fit_rest r (x ∷ xs) ys fit =
    let parts = and_parts (fits r x) (all_fit (r ++ x ∷ []) (xs ++ ys)) fit in
    subst (λ (l : List Fact). all_fit l ys ≡ true) (append_assoc r (x ∷ []) xs)
    (fit_rest (r ++ x ∷ []) xs ys parts.1)

fit_both : (r xs ys : List Fact) → all_fit r xs ≡ true → all_fit (r ++ xs) ys ≡ true → all_fit r (xs ++ ys) ≡ true
fit_both r [] ys a b = subst (λ (l : List Fact). all_fit l ys ≡ true) (append-nil r) b
fit_both r (x ∷ xs) ys a b =
    let parts = and_parts (fits r x) (all_fit (r ++ x ∷ []) xs) a in
    let more = subst (λ (l : List Fact). all_fit l ys ≡ true) (sym (append_assoc r (x ∷ []) xs)) b in
    ap (λ (c : Bool). c && all_fit (r ++ x ∷ []) (xs ++ ys)) parts.0
    ∙ fit_both (r ++ x ∷ []) xs ys parts.1 more

-- records that were stopped by a misfit do not fit
pub stopped_misfit : (old new batch : List Fact) (error : TableError) → StopsAt old new batch error → error ≡ Misfit
    → all_fit old batch ≡ true → ⊥
stopped_misfit old new batch error stops misfit fit =
    let all = subst (λ (l : List Fact). all_fit old l ≡ true) stops.parts fit in
    let rest = fit_rest old stops.applied (stops.given ∷ stops.more) all in
    let here = and_parts (fits (old ++ stops.applied) stops.given)
    (all_fit ((old ++ stops.applied) ++ stops.given ∷ []) stops.more) rest in
    let not = subst (λ (l : List Fact). fits l stops.given ≡ false) stops.now (stops.why.0 misfit) in
    true≢false (sym here.0 ∙ not)

-- ---- lists all of whose items have a property

all_both : {A : Type 0} (P : A → Type 0) (xs ys : List A) → AllByRecursion P xs → AllByRecursion P ys
    → AllByRecursion P (xs ++ ys)
all_both P [] ys a b = b
all_both P (x ∷ xs) ys a b = (a.0, all_both P xs ys a.1 b)

all_front : {A : Type 0} (P : A → Type 0) (xs ys : List A) → AllByRecursion P (xs ++ ys) → AllByRecursion P xs
all_front P [] ys h = tt
all_front P (x ∷ xs) ys h = (h.0, all_front P xs ys h.1)

all_rest : {A : Type 0} (P : A → Type 0) (xs ys : List A) → AllByRecursion P (xs ++ ys) → AllByRecursion P ys
all_rest P [] ys h = h
all_rest P (x ∷ xs) ys h = all_rest P xs ys h.1

-- ---- one entry after the others

place_next : {A : Type 0} (xs : List A) (i : ℕ) (x : A) → slice_get xs i ≡ Some x
    → take (i + 1) xs ≡ take i xs ++ x ∷ []
place_next {A} xs i x at =
    take_more xs i x (slice_get_within xs i x at)
    ∙ ap (λ (y : A). take i xs ++ y ∷ []) (get_or_from_slice_get xs i x x at)

take-length : {A : Type 0} (xs ys : List A) → take (length xs) (xs ++ ys) ≡ xs
take-length [] ys = refl
take-length (x ∷ xs) ys = ap (λ (l : List _). x ∷ l) (take-length xs ys)

behind : {A : Type 0} (xs : List A) (y : A) → slice_get (xs ++ y ∷ []) (length xs) ≡ Some y
behind [] y = refl
behind (x ∷ xs) y = behind xs y

pub replays-more : (entries : List (List ℕ)) (i : ℕ) (old new : List Fact) → Replays (take i entries) old
    → IsAdded old new entries i → Replays (take (i + 1) entries) new
replays-more entries i old new before step =
    let bs = before.batches in
    let batch = step.batch in
    let was = before.replayed in
    let rs : old ≡ records_in bs = before.records in
    let records : records_in (bs ++ batch ∷ []) ≡ records_in bs ++ batch = records_in-push bs batch in
    let fit : all_fit (records_in bs) batch ≡ true =
    subst (λ (l : List Fact). all_fit l batch ≡ true) rs step.next.fit in
    record {
      batches = bs ++ batch ∷ [];
      replayed = record {
        are = place_next entries i step.entry step.at
            ∙ ap (λ (l : List (List ℕ)). l ++ step.entry ∷ []) was.are
            ∙ ap (λ (e : List ℕ). entries_of bs ++ e ∷ []) step.next.text
            ∙ sym (entries_of-push bs batch);
        each = all_both IsBatch bs (batch ∷ []) was.each (step.next.batch_, tt);
        fit = ap (λ (l : List Fact). all_fit [] l) records ∙ fit_both [] (records_in bs) batch was.fit fit;
        kept = subst (λ (l : List Fact). AllByRecursion KeepsLimits l) (sym records)
            (all_both KeepsLimits (records_in bs) batch was.kept step.next.kept);
      };
      records = step.now ∙ ap (λ (l : List Fact). l ++ batch) rs ∙ sym records;
    }

-- the records of some batches, and then of one more
pub replayed-more : (old new : List Fact) → AreReplayedFrom old → IsMore old new → AreReplayedFrom new
replayed-more old new before step =
    let es = before.entries in
    let at : take (length es) (es ++ step.entry ∷ []) ≡ es = take-length es (step.entry ∷ []) in
    record {
      entries = es ++ step.entry ∷ [];
      replays = subst (λ (l : List (List ℕ)). Replays l new)
          (take_all (length es + 1) (es ++ step.entry ∷ []) (omega (arith, length-append es (step.entry ∷ []))))
          (replays-more (es ++ step.entry ∷ []) (length es) old new
          (subst (λ (l : List (List ℕ)). Replays l old) (sym at) before.replays)
          (record {
            entry = step.entry;
            at = behind es step.entry;
            batch = step.batch;
            next = step.next;
            now = step.now;
          }));
    }

-- ---- where one is stuck there are no batches

-- batches of these entries begin with those that were read
record Goes (done all : List (List Fact)) (entry : List ℕ) : Type 0 where
  batch : List Fact
  more : List (List Fact)
  parts : all ≡ done ++ batch ∷ more
  text : entry ≡ batch_text batch

goes_on : ReadsBack → (done all : List (List Fact)) (entry : List ℕ) (rest : List (List ℕ))
    → AllByRecursion IsBatch done → AllByRecursion IsBatch all → entries_of all ≡ entries_of done ++ entry ∷ rest
    → Goes done all entry
goes_on reads [] [] entry rest are_done are_all e = absurd cc
goes_on reads [] (b ∷ all) entry rest are_done are_all e =
    record { batch = b; more = all; parts = refl; text = cc }
goes_on reads (d ∷ done) [] entry rest are_done are_all e = absurd cc
goes_on reads (d ∷ done) (b ∷ all) entry rest are_done are_all e =
    let text : batch_text b ≡ batch_text d = cc in
    let others : entries_of all ≡ entries_of done ++ entry ∷ rest = cc in
    let first : b ≡ d = some_is b d (sym (reads b are_all.0) ∙ ap batch_at text ∙ reads d are_done.0) in
    let inner = goes_on reads done all entry rest are_done.1 are_all.1 others in
    record {
      batch = inner.batch;
      more = inner.more;
      parts = ap (λ (l : List (List Fact)). b ∷ l) inner.parts
          ∙ ap (λ (x : List Fact). x ∷ (done ++ inner.batch ∷ inner.more)) first;
      text = inner.text;
    }

records_behind : (done : List (List Fact)) (batch : List Fact) (more : List (List Fact))
    → records_in (done ++ batch ∷ more) ≡ records_in done ++ (batch ++ records_in more)
records_behind done batch more = flat_map-append (λ (b : List Fact). b) done (batch ∷ more)

place_parts : {A : Type 0} (xs : List A) (i : ℕ) (x : A) → slice_get xs i ≡ Some x
    → xs ≡ take i xs ++ x ∷ drop (i + 1) xs
place_parts {A} xs i x at =
    sym (take-append-drop i xs)
    ∙ ap (λ (l : List A). take i xs ++ l) (drop_more xs i x (slice_get_within xs i x at)
    ∙ ap (λ (y : A). y ∷ drop (i + 1) xs) (get_or_from_slice_get xs i x x at))

pub none_replayed : ReadsBack → (entries : List (List ℕ)) (i : ℕ) (r : List Fact) → Replays (take i entries) r
    → IsStuck r entries i → (all : List (List Fact)) → AreReplayed all entries → ⊥
none_replayed reads entries i r before stuck all replayed =
    let bs = before.batches in
    let same : entries_of all ≡ entries_of bs ++ stuck.entry ∷ drop (i + 1) entries =
    sym replayed.are ∙ place_parts entries i stuck.entry stuck.at
    ∙ ap (λ (l : List (List ℕ)). l ++ stuck.entry ∷ drop (i + 1) entries) before.replayed.are in
    let on = goes_on reads bs all stuck.entry (drop (i + 1) entries) before.replayed.each replayed.each same in
    let each = subst (λ (l : List (List Fact)). AllByRecursion IsBatch l) on.parts replayed.each in
    let records : records_in all ≡ records_in bs ++ (on.batch ++ records_in on.more) =
    ap records_in on.parts ∙ records_behind bs on.batch on.more in
    let fit = fit_rest [] (records_in bs) (on.batch ++ records_in on.more)
    (subst (λ (l : List Fact). all_fit [] l ≡ true) records replayed.fit) in
    let kept = all_rest KeepsLimits (records_in bs) (on.batch ++ records_in on.more)
    (subst (λ (l : List Fact). AllByRecursion KeepsLimits l) records replayed.kept) in
    let now = fit_front (records_in bs) on.batch (records_in on.more) fit in
    stuck.none on.batch (record {
      text = on.text;
      batch_ = (all_rest IsBatch bs (on.batch ∷ on.more) each).0;
      fit = subst (λ (l : List Fact). all_fit l on.batch ≡ true) (sym before.records) now;
      kept = all_front KeepsLimits on.batch (records_in on.more) kept;
    })
