-- A node that writes its journal anew, and the protocol's.
use Rattle.std.proofs.Common.{◌≡◌, ◌∙◌, ◌⊎◌, ℕ, Bool, true, false, cond, List, length, Option, Some, None, Ok, Err}
use Rattle.std.proofs.Common.{◌+◌, ◌-◌, ◌^◌, min, Result, refl, sym, ap, subst, inl, inr}
use Rattle.std.specs.Prelude.{IsTrue, MatchBool}
use Rattle.record_batch.specs.Fact.{Fact}
use Rattle.record_batch.specs.Snapshot.Snapshot.{snapshot}
use Rattle.rm_base.specs.declared.failures.Memory.{Memory}
use Rattle.rm_disk.specs.Call.{Call}
use Rattle.rm_disk.specs.ImageLemmas.{left_now}
use Rattle.rm_disk.specs.Told.{Told}
use Rattle.rm_disk.specs.Journal.JournalState.{end_of as journal_end}
use Rattle.rm_protocol.specs.Calls.{Done, Refused as RefusedWith}
use Rattle.rm_protocol.specs.Compact.{compact_cause, compact_outcome_by, compacted_by, fresh_start, may_compact}
use Rattle.rm_protocol.specs.Compact.{stops_compacting, with_list}
use Rattle.rm_protocol.specs.Delivered.{IsWriting}
use Rattle.rm_protocol.specs.Node.{Node, State, Up, Writing, Compacting, Answered, DiskFault, IsDown, alone, burned}
use Rattle.rm_protocol.specs.Node.{fresh_entries, is_short, records}
use Rattle.rm_protocol.specs.Terms.{Terms}
use Rattle.rm_script.specs.declared.report.line.Outcome.{Outcome}
use Rattle.node_store.specs.declared.error.RewriteError.{RewriteError}
use Rattle.node_store.specs.declared.error.RewriteError.TheVariants as error
use Rattle.node_store.specs.Has.{AreOfNode, Has, Holds, StandsForBatchesAt}
use Rattle.node_store.specs.Rewrites.{IsRewritten, IsRewrittenAs, Rewrites as StoreRewrites, fresh, fresh_bank}
use Rattle.node_store.specs.Rewrites.{fresh_batches, fresh_size}
use Rattle.node_store.specs.Stored.{Stored, broken}
use Rattle.rm_node.specs.Called.{Sleeps}
use Rattle.rm_node.specs.Compacted.{Compacts, EndsWith}
use Rattle.rm_node.specs.Ends.{Ended, Handed, Refused, Wanted, Broke, WasDown}
use Rattle.rm_node.specs.Keeping.{Keeps}
use Rattle.rm_node.specs.Noded.{Noded}
use Rattle.rm_node.specs.declared.kept.Kept.{Kept}
use Rattle.rm_replay.specs.Actor.Actored.{Actored}
use Rattle.rm_replay.specs.Actor.Comes.{ComesOutAs}
use Rattle.rm_replay.specs.Actor.Outcomes.{answer_told, call_told, refusal_told}
use Rattle.rm_replay.specs.Actor.Rewrites.{Rewrites, Rewrote}
use Rattle.rm_replay.specs.Actor.Stands.{Stands, StandsBy, StandsFrom, kept_of}
use Rattle.rm_replay.proofs.ActorLemmas.ActLemmas.{actored, awake_of, burns_short, burns_well, count_of, down_of}
use Rattle.rm_replay.proofs.ActorLemmas.ActLemmas.{unchanged}

-- the journal is written anew as the protocol says
abbrev pub AsTheProtocol : Terms → Type 0
AsTheProtocol terms =
    (batches : List (List Fact)) (past : List Call) (stored : Stored) (x : Node) → Holds batches past stored
    → x.entries ≡ batches → x.start ≡ stored.journal.bank.start → IsRewrittenAs terms x stored

-- ---- what the protocol answers

-- by whether the list may be written anew, and whether a device call fails
abbrev node_by : Terms → Node → (may short : Bool) → Node
node_by terms x may short = cond may (cond short (stops_compacting terms x) (with_list terms x)) x

abbrev told_by : Terms → Node → (may short : Bool) → Outcome
told_by terms x may short =
    call_told (cond may (cond short DiskFault (Answered Done)) (Answered (RefusedWith (compact_cause terms x))))

rewrote_by : (terms : Terms) (x : Node) (may short : Bool) (now : Told) (a : Actored) (came : Outcome) → x.state ≡ Up
    → may_compact terms x ≡ may → is_short 5 x.fuse ≡ short → Stands (node_by terms x may short) now a
    → came ≡ told_by terms x may short → Rewrote terms x now a came
rewrote_by terms x may short now a came up m e stands is = record {
  stands = subst (λ (st : State). Stands (compacted_by terms x st) now a) (sym up)
      (subst (λ (b : Bool). Stands (node_by terms x b (is_short 5 x.fuse)) now a) (sym m)
      (subst (λ (b : Bool). Stands (node_by terms x may b) now a) (sym e) stands));
  came_out = subst (λ (st : State). came ≡ call_told (compact_outcome_by terms x st)) (sym up)
      (subst (λ (b : Bool). came ≡ told_by terms x b (is_short 5 x.fuse)) (sym m)
      (subst (λ (b : Bool). came ≡ told_by terms x may b) (sym e) is));
}

-- ---- a node that is up

fresh_same : (x : Node) (r : List Fact) → r ≡ records x → fresh_batches r ≡ fresh_entries x.entries
fresh_same x r is = ap (λ (l : List Fact). alone (snapshot l)) is

-- the fresh list stands
went_well : (terms : Terms) (x : Node) (first now : Told) (old : Actored) (new : Noded) → Stands x first old
    → x.state ≡ Up → IsRewrittenAs terms x old.node.stored → new.kept ≡ old.node.kept
    → new.stored ≡ fresh old.node.stored → StoreRewrites first now old.node.stored new.stored true false
    → AreOfNode (fresh_batches old.node.stored.records) → now.fuse ≡ burned 5 x.fuse
    → Stands (with_list terms x) now (actored new old.clock)
went_well terms x first now old new s up like kept stored rewrites next burnt =
    let awake = awake_of x first old s up in
    let same = fresh_same x old.node.stored.records awake.has.holds.records in
    let has : Has (fresh_batches old.node.stored.records) now.past new.stored =
    record { holds = rewrites.holds x.entries awake.has.holds refl; are = next } in
    record {
      disk = subst (λ (st : State). StandsBy st (fresh_entries x.entries) now.past new.stored) (sym up) (record {
        up = ap (λ (st : Stored). st.journal.is_down) stored;
        has = subst (λ (b : List (List Fact)). Has b now.past new.stored) same has;
      });
      start = ap (λ (st : Stored). st.journal.bank.start) stored ∙ sym like.start;
      fuse = burnt;
      granted = ap (λ (k : Kept). k.granted) kept ∙ s.granted;
      kept = λ still. subst (λ (k : Kept). Keeps k (kept_of x)) (sym kept) (s.kept up);
      rules = s.rules;
      clock = s.clock;
    }

-- whichever list a crash leaves
left_either : (terms : Terms) (x : Node) (old new : Stored) (bytes : List ℕ) → IsRewrittenAs terms x old
    → new ≡ broken old → fresh_batches old.records ≡ fresh_entries x.entries → IsRewritten old x.entries bytes
    → StandsForBatchesAt new.journal.bank x.entries bytes
    ⊎ StandsFrom (fresh_start terms x) (fresh_entries x.entries) bytes
left_either terms x old new bytes like is same (inl before) =
    inl (subst (λ (st : Stored). StandsForBatchesAt st.journal.bank x.entries bytes) (sym is) before)
left_either terms x old new bytes like is same (inr after) = inr (record {
  bank = fresh_bank old;
  begins = sym like.start;
  stands = subst (λ (b : List (List Fact)). StandsForBatchesAt (fresh_bank old) b bytes) same after;
})

-- the disk failed
fell : (terms : Terms) (x : Node) (first now : Told) (old : Actored) (new : Noded) → Stands x first old
    → x.state ≡ Up → IsRewrittenAs terms x old.node.stored → new.kept ≡ old.node.kept
    → new.stored ≡ broken old.node.stored → StoreRewrites first now old.node.stored new.stored false true
    → AreOfNode (fresh_batches old.node.stored.records) → now.fuse ≡ Some 0
    → Stands (stops_compacting terms x) now (actored new old.clock)
fell terms x first now old new s up like kept stored rewrites next spent =
    let awake = awake_of x first old s up in
    let same = fresh_same x old.node.stored.records awake.has.holds.records in
    record {
      disk = record {
        down = ap (λ (st : Stored). st.journal.is_down) stored;
        images = λ bytes may. left_either terms x old.node.stored new.stored bytes like stored same
            ((rewrites.moments x.entries awake.has.holds).each bytes
            (left_now now.past (length first.past) bytes may));
        are = awake.has.are;
        next = subst AreOfNode same next;
        count = ap (λ (st : Stored). length st.journal.gates) stored ∙ count_of x first.past old.node.stored awake;
      };
      start = ap (λ (st : Stored). st.journal.bank.start) stored ∙ s.start;
      fuse = spent;
      granted = ap (λ (k : Kept). k.granted) kept ∙ s.granted;
      kept = λ (still : Compacting (fresh_start terms x) ≡ Up). absurd cc;
      rules = s.rules;
      clock = s.clock;
    }

-- none, or that the journal is full
abbrev refusal_if : Bool → (end needed : ℕ) → Option RewriteError
refusal_if may end needed = cond may None (Some (error.Full end needed))

-- by whether the journal may be written anew, and how the call ended
rewrites_by : (terms : Terms) (tells : Bool) (x : Node) (first now : Told) (old : Actored) (new : Noded)
    (end needed : ℕ) (may : Bool) (ended : Ended) (r : Result Outcome Memory) → IsTrue tells → Stands x first old
    → x.state ≡ Up → IsRewrittenAs terms x old.node.stored → may_compact terms x ≡ may
    → EndsWith (refusal_if may end needed) ended → Compacts tells first now old.node new ended → ComesOutAs ended r
    → Rewrites terms x now (actored new old.clock) r
rewrites_by terms tells x first now old new end needed true (Handed outcome reply outs) (Ok came) t s up like m ends did
    is =
    let awake = awake_of x first old s up in
    let burns = burns_well 5 first.fuse now.fuse ((did.rewrites t).fuse (inl refl)) in
    let well : is_short 5 x.fuse ≡ false = ap (λ (fuse : Option ℕ). is_short 5 fuse) (sym s.fuse) ∙ burns.0 in
    rewrote_by terms x true false now (actored new old.clock) came up m well
    (went_well terms x first now old new s up like did.kept did.stored (did.rewrites t)
    (did.next (inl refl) x.entries awake.has) (burns.1 ∙ ap (λ (fuse : Option ℕ). burned 5 fuse) s.fuse))
    (is ∙ ap answer_told ends.0)
rewrites_by terms tells x first now old new end needed true (Handed outcome reply outs) (Err memory) t s up like m ends
    did is = absurd is
rewrites_by terms tells x first now old new end needed true (Refused cause) r t s up like m ends did is = absurd ends
rewrites_by terms tells x first now old new end needed true Broke (Ok came) t s up like m ends did is =
    let awake = awake_of x first old s up in
    let burns = burns_short 5 first.fuse now.fuse ((did.rewrites t).fuse (inr refl)) in
    let short : is_short 5 x.fuse ≡ true = ap (λ (fuse : Option ℕ). is_short 5 fuse) (sym s.fuse) ∙ burns.0 in
    rewrote_by terms x true true now (actored new old.clock) came up m short
    (fell terms x first now old new s up like did.kept did.stored (did.rewrites t)
    (did.next (inr refl) x.entries awake.has) burns.1) is
rewrites_by terms tells x first now old new end needed true Broke (Err memory) t s up like m ends did is = absurd is
rewrites_by terms tells x first now old new end needed true WasDown r t s up like m ends did is = absurd ends
rewrites_by terms tells x first now old new end needed false (Handed outcome reply outs) r t s up like m ends did is =
    absurd ends
rewrites_by terms tells x first now old new end needed false (Refused cause) (Ok came) t s up like m ends did is =
    rewrote_by terms x false (is_short 5 x.fuse) now (actored new old.clock) came up m refl
    (unchanged x first now old new s did.kept did.stored ((did.rewrites t).untouched refl refl))
    (is ∙ ap refusal_told ends)
rewrites_by terms tells x first now old new end needed false (Refused cause) (Err memory) t s up like m ends did is =
    absurd is
rewrites_by terms tells x first now old new end needed false Broke r t s up like m ends did is = absurd ends
rewrites_by terms tells x first now old new end needed false WasDown r t s up like m ends did is = absurd ends
rewrites_by terms tells x first now old new end needed may Wanted (Ok came) t s up like m ends did is = absurd is
rewrites_by terms tells x first now old new end needed may Wanted (Err memory) t s up like m ends did is =
    unchanged x first now old new s did.kept did.stored ((did.rewrites t).untouched refl refl)

rewrites_up : (terms : Terms) (tells : Bool) (x : Node) (first now : Told) (old : Actored) (new : Noded)
    (ended : Ended) (r : Result Outcome Memory) → AsTheProtocol terms → IsTrue tells → Stands x first old
    → x.state ≡ Up → Compacts tells first now old.node new ended → ComesOutAs ended r
    → Rewrites terms x now (actored new old.clock) r
rewrites_up terms tells x first now old new ended r law t s up did is =
    let awake = awake_of x first old s up in
    let like = law x.entries first.past old.node.stored x awake.has.holds refl (sym s.start) in
    let end = journal_end old.node.stored.journal in
    let needed = min (fresh_size old.node.stored.records + 1) (2 ^ 64 - 1) in
    rewrites_by terms tells x first now old new end needed (may_compact terms x) ended r t s up like refl
    (subst (λ (b : Bool). EndsWith (refusal_if b end needed) ended) (sym like.may) did.ends) did is

-- ---- a node that is down

node_down : (terms : Terms) (x : Node) (st : State) → IsWriting st → compacted_by terms x st ≡ x
node_down terms x Up writing = absurd writing
node_down terms x (Writing delta) writing = refl
node_down terms x (Compacting start) writing = refl

outcome_down : (terms : Terms) (x : Node) (st : State) → IsWriting st → compact_outcome_by terms x st ≡ IsDown
outcome_down terms x Up writing = absurd writing
outcome_down terms x (Writing delta) writing = refl
outcome_down terms x (Compacting start) writing = refl

rewrites_down : (terms : Terms) (x : Node) (first now : Told) (old : Actored) (new : Noded) (r : Result Outcome Memory)
    → Stands x first old → IsWriting x.state → new ≡ old.node → now ≡ first → ComesOutAs WasDown r
    → Rewrites terms x now (actored new old.clock) r
rewrites_down terms x first now old new (Ok came) s down node disk is = record {
  stands = subst (λ (y : Node). Stands y now (actored new old.clock)) (sym (node_down terms x x.state down))
      (unchanged x first now old new s (ap (λ (n : Noded). n.kept) node) (ap (λ (n : Noded). n.stored) node) disk);
  came_out = is ∙ ap call_told (sym (outcome_down terms x x.state down));
}
rewrites_down terms x first now old new (Err memory) s down node disk is = absurd is

-- ---- the call

pub rewrites : (terms : Terms) (tells : Bool) (x : Node) (first now : Told) (old : Actored) (new : Noded)
    (ended : Ended) (r : Result Outcome Memory) → AsTheProtocol terms → IsTrue tells → Stands x first old
    → MatchBool old.node.stored.journal.is_down (Sleeps first now old.node new ended)
    (Compacts tells first now old.node new ended)
    → ComesOutAs ended r → Rewrites terms x now (actored new old.clock) r
rewrites terms tells x first now old new ended r law t s does is =
    let by_down = λ (b : Bool). MatchBool b (Sleeps first now old.node new ended)
    (Compacts tells first now old.node new ended) in
    let rests = λ (down : IsWriting x.state).
    let slept : Sleeps first now old.node new ended =
    subst by_down (down_of x.state x.entries first.past old.node.stored down s.disk) does in
    rewrites_down terms x first now old new r s down slept.node slept.disk
    (subst (λ (e : Ended). ComesOutAs e r) slept.ends is) in
    elim (x.state) as (λ (st : State). x.state ≡ st → Rewrites terms x now (actored new old.clock) r) [
      | Up ↦ λ up. rewrites_up terms tells x first now old new ended r law t s up
          (subst by_down (awake_of x first old s up).up does) is
      | Writing delta ↦ λ down. rests (subst IsWriting (sym down) tt)
      | Compacting start ↦ λ down. rests (subst IsWriting (sym down) tt)
    ] refl
