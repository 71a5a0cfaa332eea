-- What holds of the entries that wait goes on to hold.
use Rattle.std.proofs.Common.{◌≡◌, ◌≢◌, ℕ, zero, suc, ◌<◌, ◌≤◌, List, [], ◌∷◌, ◌++◌, get_or, sym, ap, arith}
use Rattle.std.specs.Prelude.{All}
use Rattle.std.proofs.lemmas.List.Elements.{All-nil, All-push, All-append, All-weaker}
use Rattle.std.proofs.lemmas.List.Quantifiers.{all_pairs_push}
use Rattle.rm_base.specs.Limits.{most_keys}
use Rattle.timers.specs.Slots.Waits.{Entry, AreTimed, due_in}
use Rattle.timers.proofs.SlotsLemmas.PlainLemmas.{All-middle, AllPairs-middle, Differ}

-- two entries of one class are due in their order
abbrev pub InOrder : Entry → Entry → Type 0
InOrder one other = one.class ≡ other.class → one.due ≤ other.due

due_in-later : (class s t : ℕ) → s ≤ t → due_in class s ≤ due_in class t
due_in-later zero s t le = omega arith
due_in-later (suc class) s t le = omega arith

pub timed_none : (time : ℕ) → AreTimed time []
timed_none time = record {
  in_classes = All-nil (λ e. e.class < 7);
  in_slots = All-nil (λ e. e.slot < most_keys);
  distinct = λ i j d lt jl. absurd (omega arith);
  bound = All-nil (λ e. e.due ≤ due_in e.class time);
  rising = λ i j d lt jl. absurd (omega arith);
}

-- time goes on
pub timed_later : (s t : ℕ) (w : List Entry) → AreTimed s w → s ≤ t → AreTimed t w
timed_later s t w h le = record {
  in_classes = h.in_classes;
  in_slots = h.in_slots;
  distinct = h.distinct;
  bound = All-weaker (λ e. e.due ≤ due_in e.class s) (λ e. e.due ≤ due_in e.class t)
      (λ e b. let later = due_in-later e.class s t le in omega arith) w h.bound;
  rising = h.rising;
}

-- an entry among others, and those without it
pub record IsAmong (time : ℕ) (before : List Entry) (e : Entry) (after : List Entry) : Type 0 where
  pub class : e.class < 7
  pub slot : e.slot < most_keys
  pub others : All (λ o. o.slot ≢ e.slot) (before ++ after)
  pub rest : AreTimed time (before ++ after)

pub among : (time : ℕ) (before : List Entry) (e : Entry) (after : List Entry) → AreTimed time (before ++ e ∷ after) →
    IsAmong time before e after
among time before e after h =
    let class = All-middle (λ o. o.class < 7) before e after h.in_classes in
    let slot = All-middle (λ o. o.slot < most_keys) before e after h.in_slots in
    let own = AllPairs-middle Differ before e after h.distinct in
    record {
      class = class.0;
      slot = slot.0;
      others = All-append (λ o. o.slot ≢ e.slot) before after own.0 (λ k d lt same. own.1 k d lt (sym same));
      rest = record {
        in_classes = class.1;
        in_slots = slot.1;
        distinct = own.2;
        bound = (All-middle (λ o. o.due ≤ due_in o.class time) before e after h.bound).1;
        rising = (AllPairs-middle InOrder before e after h.rising).2;
      };
    }

-- one more entry is put last
pub timed_put : (time : ℕ) (w : List Entry) (x : Entry) → AreTimed time w → x.class < 7 → x.slot < most_keys →
    All (λ o. o.slot ≢ x.slot) w → x.due ≡ due_in x.class time → AreTimed time (w ++ x ∷ [])
timed_put time w x h class slot free due = record {
  in_classes = All-push (λ e. e.class < 7) w x h.in_classes class;
  in_slots = All-push (λ e. e.slot < most_keys) w x h.in_slots slot;
  distinct = all_pairs_push Differ w x h.distinct free;
  bound = All-push (λ e. e.due ≤ due_in e.class time) w x h.bound (omega arith);
  rising = all_pairs_push InOrder w x h.rising
      (λ k d lt same.
      let bound = h.bound k d lt in
      let as_new : due_in (get_or w k d).class time ≡ due_in x.class time = ap (λ (c : ℕ). due_in c time) same in
      omega arith);
}
