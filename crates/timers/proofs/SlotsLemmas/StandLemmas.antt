-- What each call makes of a plain list that the timers stand for.
use Rattle.std.proofs.Common.{◌≡◌, ◌≢◌, ℕ, ◌+◌, ◌<◌, ◌≤◌, List, [], ◌∷◌, ◌++◌, length, get_or, set, refl, sym, ap}
use Rattle.std.proofs.Common.{ap₂, subst, ◌∙◌, arith, length-append}
use Rattle.std.specs.Prelude.{All, AllPairs}
use Rattle.std.proofs.lemmas.List.{append-nil}
use Rattle.std.proofs.lemmas.List.Elements.{All-push}
use Rattle.std.proofs.lemmas.List.Quantifiers.{all_pairs_push}
use Rattle.rm_base.specs.Limits.{most_keys}
use Rattle.timers.specs.Slots.Waits.{Entry, Waiting, StandFor, IsLive, Waits, class_at, in_class, put_into, due_in}
use Rattle.timers.specs.Slots.Waits.{at_slot, without, moved_last, begun}
use Rattle.timers.specs.declared.slots.timers.Key.{Key}
use Rattle.timers.specs.Slots.Table.{AreFree}
use Rattle.timers.proofs.SlotsLemmas.PlainLemmas.{All-middle, AllPairs-middle, Differ, one_at, others_at, moved_is}
use Rattle.timers.proofs.SlotsLemmas.PlainLemmas.{moved}
use Rattle.timers.proofs.SlotsLemmas.PlainLemmas.{at_class, plain_waits, plain_taken, plain_put, plain_moved}
use Rattle.timers.proofs.SlotsLemmas.PlainLemmas.{class_place}
use Rattle.timers.proofs.SlotsLemmas.TimedLemmas.{timed_later, among, timed_put}

-- where the entry of a slot stands in a plain list
pub record Placed (w : List Entry) (slot : ℕ) : Type 0 where
  pub left : List Entry
  pub entry : Entry
  pub right : List Entry
  pub is : w ≡ left ++ entry ∷ right
  pub has : entry.slot ≡ slot

pub placed : (timers : Waiting) (w : List Entry) (slot : ℕ) → StandFor timers w → IsLive timers slot → Placed w slot
placed timers w slot st live =
    let within = live.waits.within in
    let seven : length timers.classes ≡ 7 = ap length st.classes in
    let lt : live.entry.class < 7 = omega arith in
    let p = class_place live.entry.class w live.before live.entry live.after
    (sym (at_class w live.entry.class lt) ∙ ap (λ c. class_at c live.entry.class) (sym st.classes)
    ∙ live.waits.split) in
    record { left = p.left; entry = live.entry; right = p.right; is = p.is; has = live.has }

-- so it waits in its class
pub placed_waits : (timers : Waiting) (left : List Entry) (e : Entry) (right : List Entry) →
    StandFor timers (left ++ e ∷ right) → Waits timers.classes (in_class e.class left) e (in_class e.class right)
placed_waits timers left e right st =
    let a = among timers.time left e right st.timed in
    subst (λ (c : List (List Entry)). Waits c (in_class e.class left) e (in_class e.class right)) (sym st.classes)
    (plain_waits left e right a.class)

pub last_is : (change : Entry → Entry) (w : List Entry) (slot : ℕ) (p : Placed w slot) → AllPairs Differ w →
    moved_last change slot w ≡ (p.left ++ p.right) ++ change p.entry ∷ []
last_is change w slot p own =
    ap₂ (λ (s : ℕ) (v : List Entry). moved_last change s v) (sym p.has) p.is
    ∙ moved_is change p.left p.entry p.right (subst (AllPairs Differ) p.is own)

pub rest_is : (w : List Entry) (slot : ℕ) (p : Placed w slot) → AllPairs Differ w → without slot w ≡ p.left ++ p.right
rest_is w slot p own =
    ap₂ (λ (s : ℕ) (v : List Entry). without s v) (sym p.has) p.is
    ∙ others_at p.left p.entry p.right (subst (AllPairs Differ) p.is own)

pub one_is : (w : List Entry) (slot : ℕ) (p : Placed w slot) → AllPairs Differ w → at_slot slot w ≡ p.entry ∷ []
one_is w slot p own =
    ap₂ (λ (s : ℕ) (v : List Entry). at_slot s v) (sym p.has) p.is
    ∙ one_at p.left p.entry p.right (subst (AllPairs Differ) p.is own)

-- an entry moves
pub stand_moved : (old new : Waiting) (left : List Entry) (e : Entry) (right : List Entry) (class : ℕ) →
    StandFor old (left ++ e ∷ right) →
    new.classes ≡ moved old.classes (in_class e.class left) e (in_class e.class right) class (due_in class new.time) →
    class < 7 → old.time ≤ new.time → new.spare ≡ old.spare →
    StandFor new ((left ++ right) ++ put_into class new.time e ∷ [])
stand_moved old new left e right class st shape low later same =
    let a = among old.time left e right st.timed in
    let spare = st.spare in
    let due = due_in class new.time in
    let whole = length-append left (e ∷ right) in
    let rest = length-append left right in
    let more = length-append (left ++ right) (put_into class new.time e ∷ []) in
    record {
      classes = shape
          ∙ ap (λ (c : List (List Entry)). moved c (in_class e.class left) e
          (in_class e.class right) class due) st.classes
          ∙ sym (plain_moved left e right class due a.class low);
      timed = timed_put new.time (left ++ right) (put_into class new.time e)
          (timed_later old.time new.time (left ++ right) a.rest later) low a.slot a.others refl;
      spare = omega arith;
    }

-- an entry goes
pub stand_left : (old new : Waiting) (left : List Entry) (e : Entry) (right : List Entry) → StandFor old
    (left ++ e ∷ right) →
    new.classes ≡ set old.classes e.class (in_class e.class left ++ in_class e.class right) →
    new.time ≡ old.time → new.spare ≡ old.spare + 1 → StandFor new (left ++ right)
stand_left old new left e right st shape same more =
    let a = among old.time left e right st.timed in
    let spare = st.spare in
    let whole = length-append left (e ∷ right) in
    let rest = length-append left right in
    record {
      classes = shape
          ∙ ap (λ (c : List (List Entry)). set c e.class (in_class e.class left ++ in_class e.class right)) st.classes
          ∙ sym (plain_taken left e right a.class);
      timed = timed_later old.time new.time (left ++ right) a.rest (omega arith);
      spare = omega arith;
    }

-- an entry comes
pub stand_begun : (old new : Waiting) (w : List Entry) (slot : ℕ) (key : Key) → StandFor old w →
    new.classes ≡ set old.classes 0 (class_at old.classes 0 ++ record {
      slot = slot;
      key = key;
      class = 0;
      due =
          0;
    } ∷ []) →
    slot < most_keys → All (λ e. e.slot ≢ slot) w → new.time ≡ old.time → new.spare + 1 ≡ old.spare →
    StandFor new (begun slot key w)
stand_begun old new w slot key st shape low free same fewer =
    let x : Entry = record { slot = slot; key = key; class = 0; due = 0 } in
    let spare = st.spare in
    let more = length-append w (x ∷ []) in
    record {
      classes = shape ∙ ap (λ (c : List (List Entry)). set c 0 (class_at c 0 ++ x ∷ [])) st.classes
          ∙ sym (plain_put w x (omega arith));
      timed = timed_put new.time w x (timed_later old.time new.time w st.timed (omega arith))
          (omega arith) low free refl;
      spare = omega arith;
    }

-- only the time goes on
pub stand_later : (old new : Waiting) (w : List Entry) → StandFor old w → new.classes ≡ old.classes →
    old.time ≤ new.time →
    new.spare ≡ old.spare → StandFor new w
stand_later old new w st shape later same =
    let spare = st.spare in
    record { classes = shape ∙ st.classes; timed = timed_later old.time new.time w st.timed later; spare = omega arith }

-- free slots stay free when an entry goes
pub free_left : (free : List ℕ) (left : List Entry) (e : Entry) (right : List Entry) → AreFree free
    (left ++ e ∷ right) →
    AreFree free (left ++ right) × All (λ s. e.slot ≢ s) free
free_left free left e right h = (
  record {
    low = h.low;
    distinct = h.distinct;
    apart = λ k d lt. (All-middle (λ o. o.slot ≢ get_or free k d) left e right (h.apart k d lt)).1;
  },
  λ k d lt. (All-middle (λ o. o.slot ≢ get_or free k d) left e right (h.apart k d lt)).0,
)

-- and when one comes that is apart from them
pub free_put : (free : List ℕ) (w : List Entry) (x : Entry) → AreFree free w → All (λ s. x.slot ≢ s) free →
    AreFree free (w ++ x ∷ [])
free_put free w x h apart = record {
  low = h.low;
  distinct = h.distinct;
  apart = λ k d lt. All-push (λ o. o.slot ≢ get_or free k d) w x (h.apart k d lt) (apart k d lt);
}

-- the last free slot, and those before it
pub record LastFree (xs : List ℕ) (s : ℕ) (w : List Entry) : Type 0 where
  pub rest : AreFree xs w
  pub low : s < most_keys
  pub free : All (λ e. e.slot ≢ s) w
  pub apart : All (λ t. s ≢ t) xs

pub free_last : (xs : List ℕ) (s : ℕ) (w : List Entry) → AreFree (xs ++ s ∷ []) w → LastFree xs s w
free_last xs s w h =
    let low = All-middle (λ t. t < most_keys) xs s [] h.low in
    let own = AllPairs-middle ◌≢◌ xs s [] h.distinct in
    let apart = All-middle (λ t. All (λ e. e.slot ≢ t) w) xs s [] h.apart in
    let nil = append-nil xs in
    record {
      rest = record {
        low = subst (All (λ t. t < most_keys)) nil low.1;
        distinct = subst (AllPairs ◌≢◌) nil own.2;
        apart = subst (All (λ t. All (λ e. e.slot ≢ t) w)) nil apart.1;
      };
      low = low.0;
      free = apart.0;
      apart = λ k d lt same. own.0 k d lt (sym same);
    }

-- one more slot is free
pub free_more : (free : List ℕ) (w : List Entry) (s : ℕ) → AreFree free w → s < most_keys → All (λ e. e.slot ≢ s) w →
    All (λ t. s ≢ t) free → AreFree (free ++ s ∷ []) w
free_more free w s h low none apart = record {
  low = All-push (λ t. t < most_keys) free s h.low low;
  distinct = all_pairs_push ◌≢◌ free s h.distinct (λ k d lt same. apart k d lt (sym same));
  apart = All-push (λ t. All (λ e. e.slot ≢ t) w) free s h.apart none;
}
