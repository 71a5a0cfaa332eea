-- What waits stays within the limits.
use Rattle.std.proofs.Common.{◌≡◌, ℕ, ◌+◌, ◌<◌, ◌≤◌, cond, List, [], ◌∷◌, ◌++◌, length, refl, ap, subst, ◌∙◌}
use Rattle.std.proofs.Common.{arith, true, false, Bool, length-append}
use Rattle.std.specs.Prelude.{nat_lt, drop}
use Rattle.std.specs.List.{AllByRecursion}
use Rattle.std.specs.Str.{bytes_eq}
use Rattle.std.proofs.lemmas.Bool.Decides.{nat_tests}
use Rattle.std.proofs.lemmas.Slice.Eq.{bytes_eq-Decides}
use Rattle.timers.specs.Pending.Waiting.{Queue, Waiting, has_queue, packets_for, may_wait, with_packet}
use Rattle.timers.specs.Pending.Waiting.{without_first, rest_of, put, polled}
use Rattle.rm_base.specs.Count.{raised_by}
use Rattle.timers.specs.Pending.Laws.{IsQueue, AreApart, IsWithin, StaysWithin}

with-each : {T : Type 0} (qs : List (Queue T)) (u : List ℕ) (p : T) → AllByRecursion IsQueue qs
    → length (packets_for qs u) < 64 → AllByRecursion IsQueue (with_packet qs u p)
with-each [] u p h lt = (record { some_ = omega arith; few = omega arith }, tt)
with-each (q ∷ qs) u p h lt =
    elim (bytes_eq q.address u) as (λ b. length (cond b q.packets (packets_for qs u)) < 64
    → AllByRecursion IsQueue (cond b (record { address = q.address; packets = q.packets ++ p ∷ [] } ∷ qs)
    (q ∷ with_packet qs u p))) [
      | true ↦ λ k.
          let more : length (q.packets ++ p ∷ []) ≡ length q.packets + 1 = length-append q.packets (p ∷ []) in
          (record { some_ = omega arith; few = omega arith }, h.1)
      | false ↦ λ k. (h.0, with-each qs u p h.1 k)
    ] lt

-- the addresses of the queues
with-has : {T : Type 0} (qs : List (Queue T)) (u : List ℕ) (p : T) (a : List ℕ) → bytes_eq u a ≡ false
    → has_queue (with_packet qs u p) a ≡ has_queue qs a
with-has [] u p a ne = ap (λ b. cond b true false) ne
with-has (q ∷ qs) u p a ne =
    elim (bytes_eq q.address u) as (λ b.
    has_queue (cond b (record { address = q.address; packets = q.packets ++ p ∷ [] } ∷ qs)
    (q ∷ with_packet qs u p)) a ≡ cond (bytes_eq q.address a) true (has_queue qs a)) [
      | true ↦ refl
      | false ↦ ap (λ z. cond (bytes_eq q.address a) true z) (with-has qs u p a ne)
    ]

turned : (a b : List ℕ) → bytes_eq a b ≡ false → bytes_eq b a ≡ false
turned a b e = elim (bytes_eq b a) as (λ z. bytes_eq b a ≡ z → z ≡ false) [
  | true ↦ λ f.
      let same : bytes_eq a a ≡ false = subst (λ z. bytes_eq a z ≡ false) ((bytes_eq-Decides b a).0 f) e in
      absurd (cc (same, (bytes_eq-Decides a a).1 refl))
  | false ↦ λ f. refl
] refl

with-apart : {T : Type 0} (qs : List (Queue T)) (u : List ℕ) (p : T) → AreApart qs → AreApart (with_packet qs u p)
with-apart [] u p h = (refl, tt)
with-apart (q ∷ qs) u p h =
    elim (bytes_eq q.address u) as (λ b. bytes_eq q.address u ≡ b
    → AreApart (cond b (record { address = q.address; packets = q.packets ++ p ∷ [] } ∷ qs) (q ∷ with_packet qs u p))) [
      | true ↦ λ e. h
      | false ↦ λ e. (with-has qs u p q.address (turned q.address u e) ∙ h.0, with-apart qs u p h.1)
    ] refl

with-length : {T : Type 0} (qs : List (Queue T)) (u : List ℕ) (p : T)
    → length (with_packet qs u p) ≡ cond (has_queue qs u) (length qs) (length qs + 1)
with-length [] u p = omega arith
with-length (q ∷ qs) u p =
    elim (bytes_eq q.address u) as (λ b.
    length (cond b (record { address = q.address; packets = q.packets ++ p ∷ [] } ∷ qs)
    (q ∷ with_packet qs u p)) ≡ cond (cond b true (has_queue qs u)) (length (q ∷ qs)) (length (q ∷ qs) + 1)) [
      | true ↦ refl
      | false ↦ longer (has_queue qs u) (with-length qs u p)
    ]
  where
    longer : (b : Bool) → length (with_packet qs u p) ≡ cond b (length qs) (length qs + 1)
        → length (q ∷ with_packet qs u p) ≡ cond b (length (q ∷ qs)) (length (q ∷ qs) + 1)
    longer true e = omega arith
    longer false e = omega arith

none-for : {T : Type 0} (qs : List (Queue T)) (u : List ℕ) → has_queue qs u ≡ false → packets_for qs u ≡ []
none-for [] u e = refl
none-for (q ∷ qs) u e =
    elim (bytes_eq q.address u) as (λ b. cond b true (has_queue qs u) ≡ false
    → cond b q.packets (packets_for qs u) ≡ []) [
      | true ↦ λ h. absurd (cc)
      | false ↦ λ h. none-for qs u h
    ] e

put-within : {T : Type 0} (w : Waiting T) (u : List ℕ) (p : T) → IsWithin w → IsWithin (put w u p)
put-within w u p h = chosen (may_wait w.queues u) refl
  where
    room : (b : Bool) → has_queue w.queues u ≡ b
        → cond b (nat_lt (length (packets_for w.queues u)) 64) (nat_lt (length w.queues) 256) ≡ true
        → (length (packets_for w.queues u) < 64) × (cond b (length w.queues) (length w.queues + 1) ≤ 256)
    room true e m = let many = h.many in (grind (arith, nat_tests), omega arith)
    room false e m =
        let none : length (packets_for w.queues u) ≡ 0 = ap length (none-for w.queues u e) in
        (omega arith, grind (arith, nat_tests))

    chosen : (b : Bool) → may_wait w.queues u ≡ b
        → IsWithin (cond b (record { queues = with_packet w.queues u p; dropped = w.dropped })
        (record { queues = w.queues; dropped = raised_by w.dropped 1 }))
    chosen true e =
        let fits = room (has_queue w.queues u) refl e in
        record {
          each = with-each w.queues u p h.each fits.0;
          apart = with-apart w.queues u p h.apart;
          many = rw (with-length w.queues u p) fits.1;
        }
    chosen false e = record { each = h.each; apart = h.apart; many = h.many }

rest-each : {T : Type 0} (a : List ℕ) (ps : List T) (qs : List (Queue T)) → length ps ≤ 64 → AllByRecursion IsQueue qs
    → AllByRecursion IsQueue (rest_of a ps qs)
rest-each a [] qs le h = h
rest-each a (p ∷ ps) qs le h = (record { some_ = omega arith; few = le }, h)

behind-length : {T : Type 0} (ps : List T) → length ps ≤ 64 → length (drop 1 ps) ≤ 64
behind-length [] le = omega arith
behind-length (p ∷ ps) le = omega arith

poll-each : {T : Type 0} (qs : List (Queue T)) (u : List ℕ) → AllByRecursion IsQueue qs
    → AllByRecursion IsQueue (without_first qs u)
poll-each [] u h = tt
poll-each (q ∷ qs) u h =
    elim (bytes_eq q.address u) as (λ b. AllByRecursion IsQueue (cond b (rest_of q.address (drop 1 q.packets) qs)
    (q ∷ without_first qs u))) [
      | true ↦ rest-each q.address (drop 1 q.packets) qs (behind-length q.packets h.0.few) h.1
      | false ↦ (h.0, poll-each qs u h.1)
    ]

rest-has : {T : Type 0} (a : List ℕ) (ps : List T) (qs : List (Queue T)) (u : List ℕ)
    → cond (bytes_eq a u) true (has_queue qs u) ≡ false → has_queue (rest_of a ps qs) u ≡ false
rest-has a [] qs u e = other (bytes_eq a u) e
  where
    other : (b : Bool) → cond b true (has_queue qs u) ≡ false → has_queue qs u ≡ false
    other true f = absurd (cc)
    other false f = f
rest-has a (p ∷ ps) qs u e = e

poll-has : {T : Type 0} (qs : List (Queue T)) (u a : List ℕ) → has_queue qs a ≡ false
    → has_queue (without_first qs u) a ≡ false
poll-has [] u a e = refl
poll-has (q ∷ qs) u a e =
    elim (bytes_eq q.address u) as (λ b. has_queue (cond b (rest_of q.address (drop 1 q.packets) qs)
    (q ∷ without_first qs u)) a ≡ false) [
      | true ↦ rest-has q.address (drop 1 q.packets) qs a e
      | false ↦ later (bytes_eq q.address a) (poll-has qs u a) e
    ]
  where
    later : (b : Bool) → (has_queue qs a ≡ false → has_queue (without_first qs u) a ≡ false)
        → cond b true (has_queue qs a) ≡ false → cond b true (has_queue (without_first qs u) a) ≡ false
    later true k f = absurd (cc)
    later false k f = k f

rest-apart : {T : Type 0} (a : List ℕ) (ps : List T) (qs : List (Queue T)) → has_queue qs a ≡ false → AreApart qs
    → AreApart (rest_of a ps qs)
rest-apart a [] qs e h = h
rest-apart a (p ∷ ps) qs e h = (e, h)

poll-apart : {T : Type 0} (qs : List (Queue T)) (u : List ℕ) → AreApart qs → AreApart (without_first qs u)
poll-apart [] u h = tt
poll-apart (q ∷ qs) u h =
    elim (bytes_eq q.address u) as (λ b. AreApart (cond b (rest_of q.address (drop 1 q.packets) qs)
    (q ∷ without_first qs u))) [
      | true ↦ rest-apart q.address (drop 1 q.packets) qs h.0 h.1
      | false ↦ (poll-has qs u q.address h.0, poll-apart qs u h.1)
    ]

rest-length : {T : Type 0} (a : List ℕ) (ps : List T) (qs : List (Queue T)) → length (rest_of a ps qs) ≤ length qs + 1
rest-length a [] qs = omega arith
rest-length a (p ∷ ps) qs = omega arith

poll-length : {T : Type 0} (qs : List (Queue T)) (u : List ℕ) → length (without_first qs u) ≤ length qs
poll-length [] u = omega arith
poll-length (q ∷ qs) u =
    elim (bytes_eq q.address u) as (λ b. length (cond b (rest_of q.address (drop 1 q.packets) qs)
    (q ∷ without_first qs u)) ≤ length (q ∷ qs)) [
      | true ↦
          let le : length (rest_of q.address (drop 1 q.packets) qs) ≤ length qs + 1 =
          rest-length q.address (drop 1 q.packets) qs in
          omega arith
      | false ↦ let le : length (without_first qs u) ≤ length qs = poll-length qs u in omega arith
    ]

poll-within : {T : Type 0} (w : Waiting T) (u : List ℕ) → IsWithin w → IsWithin (polled w u)
poll-within w u h =
    let less : length (without_first w.queues u) ≤ length w.queues = poll-length w.queues u in
    let many = h.many in
    record { each = poll-each w.queues u h.each; apart = poll-apart w.queues u h.apart; many = omega arith }

pub stays-within : (T : Type 0) → StaysWithin T
stays-within T = record {
  start = record { each = tt; apart = tt; many = omega arith };
  put_ = put-within;
  polled_ = poll-within;
}
