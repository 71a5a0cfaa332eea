-- A message that comes to a node that stands.
use Rattle.std.proofs.Common.{◌||◌, not, suc}
use Rattle.std.proofs.Common.{◌≡◌, ℕ, cond, Bool, true, false, List, [], ◌∷◌, ◌++◌, refl, sym, ap, ◌∙◌, subst}
use Rattle.std.proofs.Common.{append-nil}
use Rattle.std.specs.Prelude.{Option, Some, None, Ok}
use Rattle.std.proofs.lemmas.List.Concat.{flat_map-append}
use Rattle.rm_message.specs.declared.message.Message.{Message}
use Rattle.record_batch.specs.Fact.{Fact}
use Rattle.rm_message.specs.declared.refusal.FaultKind.TheVariants.{StoreFull}
use Rattle.rm_protocol.specs.Calls.{Answer, Judged, adds_and_moves, judged}
use Rattle.rm_protocol.specs.Node.{Answered, call_outcome, outcome_by}
use Rattle.rm_protocol.specs.Node.{Node, after, after_by, burned, goes_down, is_short, node_end, records, records_in}
use Rattle.rm_protocol.specs.Node.{said_after, said_by, said_with, with_batch, written}
use Rattle.rm_protocol.specs.Polls.{awaited, fetches, polls, selected_by}
use Rattle.rm_protocol.specs.Rows.{rows}
use Rattle.rm_protocol.specs.Said.{said}
use Rattle.rm_protocol.specs.Sent.{Called}
use Rattle.rm_protocol.specs.Terms.{Terms}
use Rattle.rm_protocol.specs.Verdict.{has_room, verdict}
use Rattle.rm_protocol.specs.Waiting.{nacked}
use Rattle.rm_protocol.specs.World.{received_by}
use Rattle.rm_base.specs.NumberSet.{has_number}
use Rattle.wsa_headers.specs.declared.endpoint.Epr.{Epr}
use Rattle.record_batch.specs.Sequences.Words.{Text}
use Rattle.record_batch.specs.Sequences.Sources.{out_ident, payload_at}
use Rattle.record_batch.specs.Sequences.Destinations.{held, is_ended}
use Rattle.record_batch.specs.Sequences.Find.{acks_to, find_incoming, find_outgoing, peer}
use Rattle.rm_protocol.specs.Messages.{ack_message, data_at, data_by, data_of}
use Rattle.rm_protocol.specs.Rows.{ack_row, final_row}
use Rattle.rm_protocol.specs.Verdict.{is_invalid}
use Rattle.rm_arrival.specs.Fair.{HadRoom}
use Rattle.rm_arrival.specs.Nodes.{ArrivesAt, HasRoomFor, Stands, Took}
use Rattle.rm_arrival.specs.Round.{CanTake}
use Rattle.rm_arrival.proofs.TakeLemmas.{ack-rows, data-form, held-acked}
use Rattle.rm_arrival.proofs.VerdictLemmas.{ack-taken, data-taken}
use Rattle.rm_arrival.proofs.WaitLemmas.{Has, ack_row-has, has-silent, has-stays}

-- the answer to a message without a verdict
abbrev taken : Terms → Node → Message → Answer
taken terms x m =
    adds_and_moves (records x) (rows terms x.clock x.granted m (records x))
    (record { urged = nacked (records x) m.acks; emitted = []; time = 0 }) (λ r. said r x.clock m)

answer-is : (terms : Terms) (x : Node) (m : Message) → selected_by m.body ≡ None
    → verdict terms (records x) (node_end terms x) x.clock x.granted m ≡ None
    → received_by terms x (Ok m) ≡ taken terms x m
answer-is terms x m asks none =
    ap (λ v. polls x.polled (Ok m) (judged terms (records x) x.clock x.granted m v)) none
    ∙ ap (λ a. fetches (awaited x.polled a) (taken terms x m)) asks

pub batch-there : (entries : List (List Fact)) (d : List Fact)
    → records_in (entries ++ d ∷ []) ≡ records_in entries ++ d
batch-there entries d =
    flat_map-append (λ (batch : List Fact). batch) entries (d ∷ []) ∙ ap (λ z. records_in entries ++ z) (append-nil d)

short-none : (o : Option ℕ) → o ≡ None → is_short 4 o ≡ false
short-none o e = ap (λ z. is_short 4 z) e

written-there : (x : Node) (d : List Fact) → x.fuse ≡ None → records (written x d) ≡ records x ++ d
written-there x [] e = sym (append-nil (records x))
written-there x (rec ∷ d) e =
    ap (λ b. records (cond b (goes_down x (rec ∷ d)) (with_batch x (rec ∷ d)))) (short-none x.fuse e)
    ∙ batch-there x.entries (rec ∷ d)

pub after-there : (x : Node) (a : Answer) → Stands x → records (after x a) ≡ records x ++ a.delta
after-there x a s = ap (λ z. records (after_by x z a)) s.up ∙ written-there x a.delta s.unarmed

written-stands : (x : Node) (d : List Fact) → Stands x → Stands (written x d)
written-stands x [] s = s
written-stands x (rec ∷ d) s =
    subst (λ b. Stands (cond b (goes_down x (rec ∷ d)) (with_batch x (rec ∷ d)))) (sym (short-none x.fuse s.unarmed))
    (record { up = s.up; unarmed = ap (λ z. burned 4 z) s.unarmed })

pub after-stands : (x : Node) (a : Answer) → Stands x → Stands (after x a)
after-stands x a s =
    let it = written-stands x a.delta s in
    subst (λ z. Stands (after_by x z a)) (sym s.up) (record { up = it.up; unarmed = it.unarmed })

said-whole : (x : Node) (d : List Fact) (outs : List Message) → x.fuse ≡ None → said_with x.fuse d outs ≡ outs
said-whole x [] outs e = refl
said-whole x (rec ∷ d) outs e = ap (λ b. cond b [] outs) (short-none x.fuse e)

pub after-says : (x : Node) (a : Answer) → Stands x → said_after x a ≡ a.outs
after-says x a s = ap (λ z. said_by x z a) s.up ∙ said-whole x a.delta a.outs s.unarmed

pub takes-whole : (terms : Terms) (x : Node) (m : Message) → Stands x → selected_by m.body ≡ None
    → verdict terms (records x) (node_end terms x) x.clock x.granted m ≡ None → Took terms x m
takes-whole terms x m s asks none =
    let is = answer-is terms x m asks none in
    record {
      there = ap (λ a. records (after x a)) is ∙ after-there x (taken terms x m) s;
      says = ap (λ a. said_after x a) is ∙ after-says x (taken terms x m) s;
    }

-- ---- where the store had room

-- the verdict of a message against which nothing but want of room can stand
abbrev OnlyRoom : Terms → Node → Message → Type 0
OnlyRoom terms x m =
    verdict terms (records x) (node_end terms x) x.clock x.granted m
    ≡ cond (not (has_room terms (node_end terms x) (rows terms x.clock x.granted m (records x)))) (Some StoreFull) None

full-is : (terms : Terms) (x : Node) (m : Message) → Stands x
    → verdict terms (records x) (node_end terms x) x.clock x.granted m ≡ Some StoreFull
    → call_outcome x (received_by terms x (Ok m)) ≡ Answered (Judged StoreFull)
full-is terms x m s full =
    ap (λ v. call_outcome x (polls x.polled (Ok m) (judged terms (records x) x.clock x.granted m v))) full
    ∙ ap (λ z. outcome_by x z
    (polls x.polled (Ok m) (judged terms (records x) x.clock x.granted m (Some StoreFull)))) s.up

pub no-verdict : (terms : Terms) (x : Node) (m : Message) → Stands x → OnlyRoom terms x m
    → HadRoom (Called (call_outcome x (received_by terms x (Ok m))))
    → verdict terms (records x) (node_end terms x) x.clock x.granted m ≡ None
no-verdict terms x m s only room = by_room (has_room terms (node_end terms x) added) refl
  where
    added : List Fact
    added = rows terms x.clock x.granted m (records x)

    by_room : (b : Bool) → has_room terms (node_end terms x) added ≡ b
        → verdict terms (records x) (node_end terms x) x.clock x.granted m ≡ None
    by_room true e = only ∙ ap (λ b. cond (not b) (Some StoreFull) None) e
    by_room false e =
        let full = full-is terms x m s (only ∙ ap (λ b. cond (not b) (Some StoreFull) None) e) in
        absurd (subst (λ o. HadRoom (Called o)) full room)

-- ---- one message, one round

or-none : (b : Bool) → (b || false) ≡ false → b ≡ false
or-none true e = absurd (cc (e))
or-none false e = refl

arrives-data : (terms : Terms) (b : Node) (s t i : ℕ) (q : Text) (to back : Epr) (p : Text) → Stands b
    → find_incoming (records b) q ≡ Some t → acks_to (records b) t ≡ Some back
    → is_ended (records b) t b.clock ≡ false → CanTake (records b) t (suc i) b.clock
    → HasRoomFor terms b (data_of to q (suc i) p) → ArrivesAt terms b s t i q (data_of to q (suc i) p)
arrives-data terms b s t i q to back p stands found to_back going can room =
    let m = data_of to q (suc i) p in
    let it = held-acked terms (records b) t (suc i) b.clock b.granted q to back p found to_back can in
    let took = takes-whole terms b m stands refl
    (data-taken terms (records b) (node_end terms b) t (suc i) b.clock b.granted q to p found going can room) in
    let answer = ack_message back (it.block ∷ []) in
    record {
      answer = answer;
      has = ap (λ z. has_number (held z t) (suc i)) took.there ∙ it.has;
      says = took.says ∙ it.says;
      ends = λ c up known valid space d.
          let named : find_outgoing (records c) it.block.ident ≡ Some s =
          ap (λ w. find_outgoing (records c) w) it.ident ∙ known in
          let learns = takes-whole terms c answer up refl
          (ack-taken terms (records c) (node_end terms c) s c.clock c.granted back it.block named
          (or-none (is_invalid (records c) it.block) valid) space) in
          let r = records c ++ ack_row it.block (records c) in
          let has : Has (records (after c (received_by terms c (Ok answer)))) s (suc i) =
          subst (λ z. Has z s (suc i))
          (sym (learns.there ∙ ack-rows terms (records c) c.clock c.granted back it.block))
          (has-stays r (final_row it.block r) s (suc i)
          (ack_row-has (records c) it.block s (suc i) named it.names)) in
          has-silent (records (after c (received_by terms c (Ok answer))) ++ d) s i
          (has-stays (records (after c (received_by terms c (Ok answer)))) d s (suc i) has);
    }

pub arrives-at : (terms : Terms) (a : List Fact) (b : Node) (s t i : ℕ) (q : Text) (back : Epr) (m : Message)
    → out_ident a s ≡ Some q → data_at a s (suc i) ≡ Some m
    → Stands b → find_incoming (records b) q ≡ Some t → acks_to (records b) t ≡ Some back
    → is_ended (records b) t b.clock ≡ false → CanTake (records b) t (suc i) b.clock → HasRoomFor terms b m
    → ArrivesAt terms b s t i q m
arrives-at terms a b s t i q back m ident said_ stands found to_back going can room =
    let form = data-form (peer a s) q (suc i) (payload_at a s (suc i)) m
    (subst (λ o. data_by (peer a s) o (suc i) (payload_at a s (suc i)) ≡ Some m) ident said_) in
    subst (λ x. ArrivesAt terms b s t i q x) (sym form.is)
    (arrives-data terms b s t i q form.to back form.text stands found to_back going can
    (subst (λ x. HasRoomFor terms b x) form.is room))
