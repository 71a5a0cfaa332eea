-- A slot that waits goes on to wait.
use Rattle.std.proofs.Common.{◌≡◌, ◌≢◌, ℕ, suc, ◌<◌, inl, inr, List, [], ◌∷◌, ◌++◌, map, length, Option, Some, None}
use Rattle.std.proofs.Common.{get_or, refl, sym, subst, ◌∙◌}
use Rattle.std.specs.Prelude.{All, take, drop}
use Rattle.std.specs.List.{remove}
use Rattle.std.proofs.lemmas.Bool.{cases_eq, eq-eqb, ne_eqb}
use Rattle.std.proofs.lemmas.List.Elements.{All-append, All-take, All-drop, All-weaker, All-push}
use Rattle.timers.specs.Slots.Waits.{Entry, Waiting, StandFor, IsLive, at_slot, without, moved_last, begun}
use Rattle.timers.specs.Slots.Waits.{with_emitted, emitted}
use Rattle.timers.specs.Slots.Laws.{LiveIsWaiting}
use Rattle.timers.specs.declared.slots.timers.Key.{Key}
use Rattle.base_tests.specs.declared.plain.Plain.{Plain}
use Rattle.base_tests.specs.Twin.{HasSlot, AreTwins}

-- where the slot's entry stands
record SlotAt (slot : ℕ) (w : List Entry) : Type 0 where
  left : List Entry
  entry : Entry
  right : List Entry
  is : w ≡ left ++ entry ∷ right
  has : entry.slot ≡ slot

slot_at : (slot : ℕ) (w : List Entry) → HasSlot slot w → SlotAt slot w
slot_at slot [] h = absurd h
slot_at slot (e ∷ w) h = elim h [
  | inl here ↦ record { left = []; entry = e; right = w; is = refl; has = here }
  | inr there ↦
      let rest = slot_at slot w there in
      record { left = e ∷ rest.left; entry = rest.entry; right = rest.right; is = cc (rest.is); has = rest.has }
]

pub live_of : LiveIsWaiting → (timers : Waiting) (w : List Entry) (slot : ℕ) → StandFor timers w → HasSlot slot w →
    IsLive timers slot
live_of law timers w slot st h =
    let p = slot_at slot w h in
    subst (IsLive timers) p.has (law.live timers p.left p.entry p.right (subst (StandFor timers) p.is st))

Has-left : (slot : ℕ) (v w : List Entry) → HasSlot slot v → HasSlot slot (v ++ w)
Has-left slot [] w h = absurd h
Has-left slot (e ∷ v) w h = elim h [ inl here ↦ inl here | inr there ↦ inr (Has-left slot v w there) ]

Has-right : (slot : ℕ) (v w : List Entry) → HasSlot slot w → HasSlot slot (v ++ w)
Has-right slot [] w h = h
Has-right slot (e ∷ v) w h = inr (Has-right slot v w h)

Has-at : (slot : ℕ) (w : List Entry) → HasSlot slot w → HasSlot slot (at_slot slot w)
Has-at slot [] h = absurd h
Has-at slot (e ∷ w) h = elim (cases_eq e.slot slot) [
  | inl same ↦ rw (eq-eqb e.slot slot same) (inl same)
  | inr other ↦ elim h [
    | inl here ↦ absurd (other here)
    | inr there ↦ rw (ne_eqb e.slot slot other) (Has-at slot w there)
  ]
]

Has-without : (slot gone : ℕ) (w : List Entry) → slot ≢ gone → HasSlot slot w → HasSlot slot (without gone w)
Has-without slot gone [] ne h = absurd h
Has-without slot gone (e ∷ w) ne h = elim (cases_eq e.slot gone) [
  | inl same ↦ elim h [
    | inl here ↦ absurd (ne (sym here ∙ same))
    | inr there ↦ rw (eq-eqb e.slot gone same) (Has-without slot gone w ne there)
  ]
  | inr other ↦ elim h [
    | inl here ↦ rw (ne_eqb e.slot gone other) (inl here)
    | inr there ↦ rw (ne_eqb e.slot gone other) (inr (Has-without slot gone w ne there))
  ]
]

Has-map : (change : Entry → Entry) → ((e : Entry) → (change e).slot ≡ e.slot) → (slot : ℕ) (w : List Entry) →
    HasSlot slot w → HasSlot slot (map change w)
Has-map change keeps slot [] h = absurd h
Has-map change keeps slot (e ∷ w) h = elim h [
  | inl here ↦ inl (keeps e ∙ here)
  | inr there ↦ inr (Has-map change keeps slot w there)
]

-- the slots of one list are slots of another
abbrev pub KeepsSlots : List Entry → List Entry → Type 0
KeepsSlots w next = (slot : ℕ) → HasSlot slot w → HasSlot slot next

pub moved_keeps : (change : Entry → Entry) → ((e : Entry) → (change e).slot ≡ e.slot) → (slot : ℕ) (w : List Entry) →
    KeepsSlots w (moved_last change slot w)
moved_keeps change keeps slot w s h = elim (cases_eq s slot) [
  | inl same ↦
      let at : HasSlot slot (at_slot slot w) = Has-at slot w (subst (λ (j : ℕ). HasSlot j w) same h) in
      subst (λ (j : ℕ). HasSlot j (moved_last change slot w)) (sym same)
      (Has-right slot (without slot w) (map change (at_slot slot w)) (Has-map change keeps slot (at_slot slot w) at))
  | inr other ↦ Has-left s (without slot w) (map change (at_slot slot w)) (Has-without s slot w other h)
]

pub emitted_keeps : (time : ℕ) (o : Option Entry) (w : List Entry) → KeepsSlots w (with_emitted time o w)
emitted_keeps time None w s h = h
emitted_keeps time (Some e) w s h = moved_keeps (emitted time) (λ x. refl) e.slot w s h

pub begun_keeps : (slot : ℕ) (key : Key) (w : List Entry) → KeepsSlots w (begun slot key w)
begun_keeps slot key w s h = Has-left s w (record { slot = slot; key = key; class = 0; due = 0 } ∷ []) h

pub begun_has : (slot : ℕ) (key : Key) (w : List Entry) → HasSlot slot (begun slot key w)
begun_has slot key w = Has-right slot w (record { slot = slot; key = key; class = 0; due = 0 } ∷ []) (inl refl)

-- each plain entry's slot waits
abbrev pub AllLive : List Entry → List Plain → Type 0
AllLive w plain = All (λ p. HasSlot p.slot w) plain

pub live_kept : (w next : List Entry) (plain : List Plain) → KeepsSlots w next → AllLive w plain → AllLive next plain
live_kept w next plain keeps live =
    All-weaker (λ p. HasSlot p.slot w) (λ p. HasSlot p.slot next) (λ p h. keeps p.slot h) plain live

pub live_removed : (w : List Entry) (plain : List Plain) (i : ℕ) → AllLive w plain → AllLive w (remove plain i)
live_removed w plain i live =
    All-append (λ p. HasSlot p.slot w) (take i plain) (drop (suc i) plain)
    (All-take (λ p. HasSlot p.slot w) i plain live)
    (All-drop (λ p. HasSlot p.slot w) (suc i) plain live)

-- the entry that was taken from a place has its slot
pub live_at : (w : List Entry) (plain : List Plain) (i : ℕ) (p : Plain) → AllLive w plain → i < length plain →
    p ≡ get_or plain i p → HasSlot p.slot w
live_at w plain i p live lt is = subst (λ (q : Plain). HasSlot q.slot w) (sym is) (live i p lt)

-- the timers went on, and the plain entries stayed
pub twin_kept : (new : Waiting) (w next : List Entry) (plain items : List Plain) → StandFor new next →
    KeepsSlots w next →
    AllLive w plain → items ≡ plain → AreTwins new items
twin_kept new w next plain items st keeps live is = record {
  waits = next;
  stands = st;
  live = subst (AllLive next) (sym is) (live_kept w next plain keeps live);
}

-- the timers went on, and an entry whose slot waits was put behind the plain entries
pub twin_pushed : (new : Waiting) (w next : List Entry) (plain items : List Plain) (p : Plain) → StandFor new next →
    KeepsSlots w next → AllLive w plain → HasSlot p.slot next → items ≡ plain ++ p ∷ [] → AreTwins new items
twin_pushed new w next plain items p st keeps live has is = record {
  waits = next;
  stands = st;
  live = subst (AllLive next) (sym is)
      (All-push (λ q. HasSlot q.slot next) plain p (live_kept w next plain keeps live) has);
}

-- without a slot, the others wait
pub twin_without : (new : Waiting) (w : List Entry) (slot : ℕ) (plain : List Plain) → StandFor new (without slot w) →
    AllLive w plain → All (λ p. p.slot ≢ slot) plain → AreTwins new plain
twin_without new w slot plain st live apart = record {
  waits = without slot w;
  stands = st;
  live = λ k d lt. Has-without (get_or plain k d).slot slot w (apart k d lt) (live k d lt);
}
