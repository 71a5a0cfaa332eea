-- A sequence that sends, or is open, at the end of rounds did so before each of them.
use Rattle.std.proofs.Common.{◌≡◌, ℕ, ◌+◌, ◌==◌, not, cond, true, false, List, [], ◌∷◌, ◌++◌, refl, sym, ap}
use Rattle.std.proofs.Common.{◌∙◌, subst, append-nil, append_assoc}
use Rattle.std.specs.Prelude.{Some}
use Rattle.std.specs.List.{flat_map}
use Rattle.std.proofs.lemmas.Bool.{and_parts, eqb-true}
use Rattle.std.proofs.lemmas.List.Concat.{flat_map-append}
use Rattle.rm_sides.specs.declared.source.phase.OutPhase.{OutPhase}
use Rattle.rm_sides.specs.declared.source.phase.OutPhase.TheVariants as out
use Rattle.rm_sides.specs.Destination.Messages.{is_empty}
use Rattle.wsa_headers.specs.declared.endpoint.Epr.{Epr}
use Rattle.record_batch.specs.Fact.{Fact, ClosedOut, Closing, EndedOut, Ending, Failed}
use Rattle.record_batch.specs.Sequences.Words.{Text, at_seq, last_or}
use Rattle.record_batch.specs.Sequences.GatherLemmas.{at_seq-append, last_or-append}
use Rattle.record_batch.specs.Sequences.Makers.{counter, maker}
use Rattle.record_batch.specs.Sequences.Sources.{first_phase, is_sending, mark_of, marks, out_ident, phase}
use Rattle.record_batch.specs.Sequences.Find.{acks_to}
use Rattle.record_batch.specs.Sequences.Fits.{all_fit, fits, follows, follows_at, is_outgoing_side}
use Rattle.rm_protocol.specs.Node.{records}
use Rattle.rm_protocol.specs.Sound.{IsSound}
use Rattle.rm_protocol.specs.Terms.{AreTerms, Terms}
use Rattle.rm_protocol.specs.World.{Event, Packet, Side, World, node, other, run}
use Rattle.rm_arrival.specs.Fair.{BothStand, IsOpen, IsReached}
use Rattle.rm_arrival.specs.Near.{AreRounds}
use Rattle.rm_arrival.specs.Rounds.{AreTurns, run_rounds}
use Rattle.rm_arrival.proofs.BringLemmas.{round-onward}
use Rattle.rm_arrival.proofs.OnwardLemmas.{Onward, StaysSound, onward-refl, onward-then, run-sound}
use Rattle.rm_arrival.proofs.RoundsLemmas.{reached-stays}
use Rattle.rm_arrival.proofs.StayLemmas.{closes-before, deadline-before, out_ident-stays}
use Rattle.rm_arrival.proofs.ValidLemmas.{sees}

-- ---- the phase of a source

marks-join : (r d : List Fact) (s : ℕ) → marks (r ++ d) s ≡ marks r s ++ marks d s
marks-join r d s =
    ap (λ xs. at_seq s xs) (flat_map-append mark_of r d)
    ∙ at_seq-append s (flat_map mark_of r) (flat_map mark_of d)

phase-next : (r d : List Fact) (s : ℕ) (q : Text) → out_ident r s ≡ Some q
    → phase (r ++ d) s ≡ last_or (phase r s) (marks d s)
phase-next r d s q known =
    ap (λ o. last_or (first_phase o) (marks (r ++ d) s)) (out_ident-stays r d s q known)
    ∙ ap (λ z. last_or (first_phase (Some q)) z) (marks-join r d s)
    ∙ last_or-append (first_phase (Some q)) (marks r s) (marks d s)
    ∙ ap (λ o. last_or (last_or (first_phase o) (marks r s)) (marks d s)) (sym known)

-- a close is asked for in phase Open
closing-sends : (p : OutPhase) (n ticket : ℕ) → follows p (Closing n ticket) ≡ true → is_sending p ≡ true
closing-sends out.Open n ticket h = refl
closing-sends out.Closing n ticket h = refl
closing-sends out.Creating n ticket h = absurd (cc (h))
closing-sends out.Closed n ticket h = absurd (cc (h))
closing-sends out.Ending n ticket h = absurd (cc (h))
closing-sends out.Ended n ticket h = absurd (cc (h))
closing-sends out.Failed n ticket h = absurd (cc (h))

-- where it sends after a record, it did so before
sends-one : (r : List Fact) (f : Fact) (s : ℕ) → fits r f ≡ true
    → is_sending (last_or (phase r s) (marks (f ∷ []) s)) ≡ true → is_sending (phase r s) ≡ true
sends-one r f s fit h = by_fact f fit h
  where
    -- the last mark of s is one of no sending phase
    stops : (n : ℕ) (p : OutPhase) → is_sending p ≡ false
        → is_sending (last_or (phase r s) (cond (n == s) (p ∷ []) [])) ≡ true → is_sending (phase r s) ≡ true
    stops n p off k =
        elim (n == s) as (λ b. is_sending (last_or (phase r s) (cond b (p ∷ []) [])) ≡ true
        → is_sending (phase r s) ≡ true) [
          | true ↦ λ e. absurd (cc (sym off ∙ e))
          | false ↦ λ e. e
        ] k

    by_fact : (g : Fact) → fits r g ≡ true → is_sending (last_or (phase r s) (marks (g ∷ []) s)) ≡ true
        → is_sending (phase r s) ≡ true
    by_fact (Closing n ticket) e k =
        elim (n == s) as (λ b. (n == s) ≡ b
        → is_sending (last_or (phase r s) (cond b (out.Closing ∷ []) [])) ≡ true → is_sending (phase r s) ≡ true) [
          | true ↦ λ is i.
              let asked = (and_parts (ticket == counter r + 1) (follows_at r n (Closing n ticket)) e).1 in
              let may = (and_parts (is_outgoing_side (maker r n)) (follows (phase r n) (Closing n ticket)) asked).1 in
              subst (λ z. is_sending (phase r z) ≡ true) (eqb-true n s is) (closing-sends (phase r n) n ticket may)
          | false ↦ λ is i. i
        ] refl k
    by_fact (ClosedOut n) e k = stops n out.Closed refl k
    by_fact (Ending n ticket) e k = stops n out.Ending refl k
    by_fact (EndedOut n) e k = stops n out.Ended refl k
    by_fact (Failed n fault) e k = stops n out.Failed refl k
    by_fact g e k = k

sends-before : (r d : List Fact) (s : ℕ) (q : Text) → all_fit r d ≡ true → out_ident r s ≡ Some q
    → is_sending (phase (r ++ d) s) ≡ true → is_sending (phase r s) ≡ true
sends-before r [] s q fit known h = subst (λ z. is_sending (phase z s) ≡ true) (append-nil r) h
sends-before r (f ∷ d) s q fit known h =
    let parts = and_parts (fits r f) (all_fit (r ++ f ∷ []) d) fit in
    let same : (r ++ f ∷ []) ++ d ≡ r ++ f ∷ d = append_assoc r (f ∷ []) d in
    let next : is_sending (phase (r ++ f ∷ []) s) ≡ true =
    sends-before (r ++ f ∷ []) d s q parts.1 (out_ident-stays r (f ∷ []) s q known)
    (subst (λ z. is_sending (phase z s) ≡ true) (sym same) h) in
    sends-one r f s parts.0 (subst (λ p. is_sending p ≡ true) (phase-next r (f ∷ []) s q known) next)

open-before : (r d : List Fact) (t : ℕ) (back : Epr) → acks_to r t ≡ Some back → IsOpen (r ++ d) t → IsOpen r t
open-before r d t back e h = record {
  open_ = ap (λ z. not (is_empty z)) (closes-before r d t h.open_);
  forever = deadline-before r d t back e h.forever;
}

-- ---- from the end of the rounds to each of them

rounds-on : (terms : Terms) (old : List Packet) (rounds : List (List Event)) (u : World) (side : Side) → BothStand u
    → AreRounds terms old u side rounds → Onward u (run_rounds terms rounds u)
rounds-on terms old [] u side stand rs = onward-refl u stand
rounds-on terms old (round ∷ rounds) u side stand rs =
    let on = round-onward terms u round stand rs.0.fair in
    onward-then u (run terms round u) (run_rounds terms rounds (run terms round u)) on
    (rounds-on terms old rounds (run terms round u) side on.stand rs.1)

fit-behind : (b r d : List Fact) → all_fit b (r ++ d) ≡ true → all_fit (b ++ r) d ≡ true
fit-behind b [] d h = subst (λ z. all_fit z d ≡ true) (sym (append-nil b)) h
fit-behind b (f ∷ r) d h =
    subst (λ z. all_fit z d ≡ true) (append_assoc b (f ∷ []) r)
    (fit-behind (b ++ f ∷ []) r d (and_parts (fits b f) (all_fit (b ++ f ∷ []) (r ++ d)) h).1)

rounds-sound : StaysSound → (terms : Terms) (rounds : List (List Event)) (u : World) → AreTerms terms
    → IsSound terms u → IsSound terms (run_rounds terms rounds u)
rounds-sound law terms [] u t sound = sound
rounds-sound law terms (round ∷ rounds) u t sound =
    rounds-sound law terms rounds (run terms round u) t (run-sound law terms round u t sound)

-- what is so at the end is so in each round
pub turns-from : StaysSound → (terms : Terms) (old : List Packet) (rounds : List (List Event)) (u : World)
    (side : Side) (s t : ℕ) → AreTerms terms → IsSound terms u → BothStand u → IsReached u side s t
    → AreRounds terms old u side rounds
    → is_sending (phase (records (node (run_rounds terms rounds u) side)) s) ≡ true
    → IsOpen (records (node (run_rounds terms rounds u) (other side))) t → AreTurns terms old u side s t rounds
turns-from law terms old [] u side s t are sound stand at rs sends open_ = tt
turns-from law terms old (round ∷ rounds) u side s t are sound stand at rs sends open_ =
    let v = run terms round u in
    let last = run_rounds terms rounds v in
    let on = round-onward terms u round stand rs.0.fair in
    let rest = rounds-on terms old rounds v side on.stand rs.1 in
    let all = onward-then u v last on rest in
    let next = run-sound law terms round u are sound in
    let at_ = reached-stays terms u v side s t sound on at in
    let mine = all.grown side in
    let theirs = rest.grown (other side) in
    let fit : all_fit [] (records (node u side) ++ mine.0) ≡ true =
    subst (λ z. all_fit [] z ≡ true) mine.1
    (sees terms last side (rounds-sound law terms rounds v are next)).stands.fit in (
      record {
        fair = rs.0.fair;
        quiet = rs.0.quiet;
        late = rs.0.late;
        sends = sends-before (records (node u side)) mine.0 s at.ident
            (fit-behind [] (records (node u side)) mine.0 fit) at.known
            (subst (λ z. is_sending (phase z s) ≡ true) mine.1 sends);
        open_ = open-before (records (node v (other side))) theirs.0 t at_.back at_.knows
            (subst (λ z. IsOpen z t) theirs.1 open_);
      },
      turns-from law terms old rounds v side s t are next on.stand at_ rs.1 sends open_,
    )
