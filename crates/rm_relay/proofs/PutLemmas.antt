-- Packets that are put on a wire of whose packets the senders are kept.
use Rattle.std.proofs.Common.{◌≡◌, ◌∙◌, ◌+◌, ℕ, cond, Bool, true, false, List, [], ◌∷◌, ◌++◌, length, map, take}
use Rattle.std.proofs.Common.{refl, sym, ap, subst}
use Rattle.std.proofs.Math.Seq.{take-append-add}
use Rattle.std.proofs.lemmas.List.{take-map}
use Rattle.std.specs.Prelude.{Option, Some, None}
use Rattle.rm_base.specs.Wire.Wire.{has_room, with_packet}
use Rattle.rm_relay.specs.Putting.{Going, Net, IsPutInPart, with_all, with_any, with_one}
use Rattle.rm_relay.specs.Word.World.{number_of}
use Rattle.rm_relay.specs.declared.word.station.Station.{Station}

-- these packets, and these senders
abbrev pub net : List (ℕ × List ℕ) → List Station → Net
net packets senders = record { packets = packets; senders = senders }

-- one packet more
pub with_all_push : (n : Net) (from : Station) (goings : List Going) (g : Going)
    → with_all n from (goings ++ g ∷ []) ≡ with_any (with_all n from goings) from g.to g.bytes
with_all_push n from [] g = refl
with_all_push n from (h ∷ goings) g = with_all_push (with_any n from h.to h.bytes) from goings g

-- some packets and then others
pub with_all_append : (n : Net) (from : Station) (first second : List Going)
    → with_all n from (first ++ second) ≡ with_all (with_all n from first) from second
with_all_append n from [] second = refl
with_all_append n from (h ∷ first) second = with_all_append (with_any n from h.to h.bytes) from first second

pub put_none : (n new : Net) (from : Station) (goings : List Going) → new ≡ n → IsPutInPart n from goings new
put_none n new from [] same = (0, same)
put_none n new from (g ∷ goings) same = (0, same)

pub put_behind : (n mid new : Net) (from : Station) (first second : List Going) → mid ≡ with_all n from first
    → IsPutInPart mid from second new → IsPutInPart n from (first ++ second) new
put_behind n mid new from first second before (count, part) = (
  length first + count,
  part ∙ ap (λ (m : Net). with_all m from (take count second)) before
      ∙ sym (with_all_append n from first (take count second))
      ∙ ap (λ (goings : List Going). with_all n from goings) (sym (take-append-add first second count)),
)

-- one went to this node
pub put_some : (here new : Net) (from to : Station) (o : Option Station) (b bytes : List ℕ) → o ≡ Some to → b ≡ bytes
    → new ≡ with_one here from to b → new ≡ with_any here from o bytes
put_some here new from to o b bytes is same put =
    put ∙ ap (λ (text : List ℕ). with_one here from to text) same
    ∙ sym (ap (λ (t : Option Station). with_any here from t bytes) is)

-- one went to no node
pub put_nowhere : (here new : Net) (from : Station) (o : Option Station) (bytes : List ℕ) → o ≡ None → new ≡ here
    → new ≡ with_any here from o bytes
put_nowhere here new from o bytes is same = same ∙ sym (ap (λ (t : Option Station). with_any here from t bytes) is)

-- of packets that are put one after the other those so far, where memory was wanting for the next one
pub put_so_far : {A : Type 0} (n here new : Net) (from : Station) (go : A → Going) (outs : List A) (count : ℕ)
    → new ≡ here → here ≡ with_all n from (map go (take count outs)) → IsPutInPart n from (map go outs) new
put_so_far n here new from go outs count same so_far = (
  count,
  same ∙ so_far ∙ ap (λ (goings : List Going). with_all n from goings) (sym (take-map go count outs)),
)

-- there was room, and the sender is kept
pub put_taken : (packets news : List (ℕ × List ℕ)) (senders : List Station) (from to : Station) (bytes : List ℕ)
    → has_room packets (length bytes) ≡ true → news ≡ with_packet packets (number_of to) bytes
    → net news (senders ++ from ∷ []) ≡ with_one (net packets senders) from to bytes
put_taken packets news senders from to bytes room is =
    ap (λ (ps : List (ℕ × List ℕ)). net ps (senders ++ from ∷ []))
    (is ∙ ap (λ (b : Bool). cond b (packets ++ (number_of to, bytes) ∷ []) packets) room)
    ∙ sym (ap (λ (b : Bool). cond b (net (packets ++ (number_of to, bytes) ∷ []) (senders ++ from ∷ []))
    (net packets senders)) room)

-- there was none
pub put_lost : (packets news : List (ℕ × List ℕ)) (senders : List Station) (from to : Station) (bytes : List ℕ)
    → has_room packets (length bytes) ≡ false → news ≡ with_packet packets (number_of to) bytes
    → net news senders ≡ with_one (net packets senders) from to bytes
put_lost packets news senders from to bytes room is =
    ap (λ (ps : List (ℕ × List ℕ)). net ps senders)
    (is ∙ ap (λ (b : Bool). cond b (packets ++ (number_of to, bytes) ∷ []) packets) room)
    ∙ sym (ap (λ (b : Bool). cond b (net (packets ++ (number_of to, bytes) ∷ []) (senders ++ from ∷ []))
    (net packets senders)) room)
