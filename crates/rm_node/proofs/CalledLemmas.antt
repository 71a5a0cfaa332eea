-- What a call does to a node: it sleeps, or it changes nothing, or the records of its answer are written.
use Rattle.std.proofs.Common.{◌≡◌, inl, inr, ℕ, Bool, true, false, List, [], ◌++◌, Option, refl, sym, ap, subst}
use Rattle.std.proofs.Common.{arith}
use Rattle.std.specs.Prelude.{IsTrue, MatchBool, Err}
use Rattle.std.specs.List.{AllByRecursion}
use Rattle.node_laws.specs.Sizes.Room.{HasRoom}
use Rattle.node_laws.specs.Sizes.Typed.{IsTyped}
use Rattle.record_batch.specs.Fact.{Fact}
use Rattle.rm_disk.specs.Call.{Call}
use Rattle.timers.specs.declared.slots.timers.Key.{Key}
use Rattle.rm_disk.specs.ImageLemmas.{only_from}
use Rattle.rm_disk.specs.Journal.JournalState.{end_of}
use Rattle.record_batch.specs.Sequences.Words.{Text}
use Rattle.timers.specs.Pending.Waiting.{Pended, Waiting}
use Rattle.rm_message.specs.declared.message.Message.{Message}
use Rattle.rm_protocol.specs.Calls.{Answer, Outcome}
use Rattle.node_laws.specs.Records.{IsKept}
use Rattle.rm_disk.specs.Cause.{HasCause}
use Rattle.rm_disk.specs.Told.{Told}
use Rattle.node_store.specs.Changes.{Changes}
use Rattle.node_store.specs.Has.{AreOfNode, Has, IsLeftBy}
use Rattle.node_store.specs.Failed.{is_disk as store_failed}
use Rattle.node_store.specs.Stored.{Stored, stored_after, with_batch}
use Rattle.node_store.specs.declared.error.StoreError.{StoreError}
use Rattle.node_store.specs.declared.error.StoreError.TheVariants as store
use Rattle.rm_node.specs.Called.{Called, Does, EndsBy, Sleeps, StaysANode, Wrote}
use Rattle.rm_node.specs.Ends.{Ended, Handed, Wanted, WasDown, error_end, is_disk}
use Rattle.rm_node.specs.Failed.{stored_error}
use Rattle.rm_node.specs.Noded.{Noded, told}
use Rattle.rm_node.specs.Packets.{outs_of, reply_of}
use Rattle.rm_node.specs.Timed.{MayBeWritten}
use Rattle.rm_node.specs.declared.error.NodeError.{NodeError}
use Rattle.rm_node.specs.declared.error.NodeError.TheVariants as error
use Rattle.rm_node.specs.declared.kept.Kept.{Kept}
use Rattle.rm_node.specs.declared.packets.Out.{Out}

-- a node by what it is made of
abbrev pub noded : Stored → Kept → Noded
noded s k = record { stored = s; kept = told k }

-- ---- nothing happened

still_changes : (first : Told) (s : Stored) (delta : List Fact) → Changes first first s s delta false false
still_changes first s delta = record {
  holds = λ batches h e. absurd cc;
  moments = λ batches h. only_from first.past (IsLeftBy s.journal.bank batches delta) (λ bytes may.
      inl (h.journal.images bytes may));
  untouched = λ e f. refl;
  fuse = λ h. elim h [ inl e ↦ absurd cc | inr e ↦ absurd cc ];
  crashes = refl;
}

-- no fault, no failure
pub unfaulted : (n : ℕ) → HasCause n n false
unfaulted n = record { later = omega arith; cause = refl }

-- room for messages that are to wait is told to nobody
pub untold : (s : Stored) (k : Kept) (p : Pended Message) → p.waits ≡ k.polled.waits
    → noded s (record k { polled = p }) ≡ noded s k
untold s k p e =
    ap (λ (w : Waiting Message). noded s (record k { polled = record { waits = w; ready = [] } })) e

-- a call that changes nothing, whatever its answer
pub still : (tells : Bool) (first : Told) (old : Noded) (answer : Answer)
    → Wrote tells first first old old answer false false
still tells first old answer = record {
  kept = refl;
  stored = refl;
  changes = λ t. still_changes first old.stored answer.delta;
  cause = unfaulted first.faults;
}

-- the batch was not written: no key moves
pub writes-not : (T : Type 0) (tells : Bool) (first now : Told) (old : Noded) (new : Stored) (answer : Answer)
    (e : StoreError)
    → new ≡ stored_after old.stored answer.delta false (store_failed {T = T} (Err e))
    → (IsTrue tells → Changes first now old.stored new answer.delta false (store_failed {T = T} (Err e)))
    → HasCause first.faults now.faults (store_failed {T = T} (Err e))
    → Wrote tells first now old (record { stored = new; kept = old.kept }) answer false
    (is_disk {T = Unit {0}} (Err (stored_error e)))
writes-not T tells first now old new answer store.Memory stored changes cause =
    record { kept = refl; stored = stored; changes = changes; cause = cause }
writes-not T tells first now old new answer store.Disk stored changes cause =
    record { kept = refl; stored = stored; changes = changes; cause = cause }

-- ---- one batch more

-- the batches of a node, with one more that fits, are a node's
abbrev pub OneBatchMore : Type 0
OneBatchMore =
    (batches : List (List Fact)) (past : List Call) (old : Stored) (delta : List Fact) → Has batches past old
    → HasRoom (end_of old.journal) delta → AllByRecursion IsTyped delta → IsKept (old.records ++ delta)
    → AreOfNode (with_batch batches delta)

-- an answer that may be written leaves batches of a node
pub stays : OneBatchMore → (first : Told) (old : Noded) (a : Answer) (begun : Option Key)
    → MayBeWritten old.stored.records (end_of old.stored.journal) a begun → StaysANode first old a
stays law first old a begun may batches has =
    law batches first.past old.stored a.delta has may.stored.room may.stored.typed may.leaves

-- ---- a call

-- where the node is down
pub sleeps : (tells connected : Bool) (first : Told) (old : Noded) (answer : Answer) (ended : Ended)
    → old.stored.journal.is_down ≡ true → ended ≡ WasDown
    → Does tells connected first first old old answer ended
sleeps tells connected first old answer ended down e =
    rw down (record { ends = e; node = refl; disk = refl })

-- where it is up
pub does : (tells connected : Bool) (first now : Told) (old new : Noded) (answer : Answer) (ended : Ended)
    → old.stored.journal.is_down ≡ false → Called tells connected first now old new answer ended
    → Does tells connected first now old new answer ended
does tells connected first now old new answer ended up called =
    subst (λ (b : Bool). MatchBool b (Sleeps first now old new ended)
    (Called tells connected first now old new answer ended)) (sym up) called

wanting : (tells connected : Bool) (first : Told) (old : Noded) (answer : Answer)
    → Called tells connected first first old old answer Wanted
wanting tells connected first old answer = record {
  ends = tt;
  wrote = still tells first old answer;
  next = λ t h. elim h [ inl e ↦ absurd cc | inr e ↦ absurd cc ];
}

-- where it is up, and memory was wanting
pub wants : (tells connected : Bool) (first : Told) (old : Noded) (answer : Answer) (ended : Ended)
    → old.stored.journal.is_down ≡ false → ended ≡ Wanted
    → Does tells connected first first old old answer ended
wants tells connected first old answer ended up e =
    does tells connected first first old old answer ended up
    (subst (λ (x : Ended). Called tells connected first first old old answer x) (sym e)
    (wanting tells connected first old answer))

-- a call of a node that is up, by the answer that the code worked out
by-answer : (tells connected : Bool) (first now : Told) (old new : Noded) (a answer : Answer) (ended : Ended)
    → old.stored.journal.is_down ≡ false → a ≡ answer → Called tells connected first now old new a ended
    → Does tells connected first now old new answer ended
by-answer tells connected first now old new a answer ended up same called =
    does tells connected first now old new answer ended up
    (subst (λ (x : Answer). Called tells connected first now old new x ended) same called)

-- all went well
pub goes-well : (tells connected : Bool) (first now : Told) (old new : Noded) (a answer : Answer) (outcome : Outcome)
    (reply : Option Text) (outs : List Out) → old.stored.journal.is_down ≡ false → a ≡ answer
    → StaysANode first old a → Wrote tells first now old new a true false → outcome ≡ a.outcome
    → reply ≡ reply_of connected a → outs ≡ outs_of a.outs
    → Does tells connected first now old new answer (Handed outcome reply outs)
goes-well tells connected first now old new a answer outcome reply outs up same stays wrote comes back out =
    by-answer tells connected first now old new a answer (Handed outcome reply outs) up same
    (record { ends = (comes, back, out); wrote = wrote; next = λ t h. stays })

fails-by : (tells connected : Bool) (first now : Told) (old new : Noded) (a : Answer) (e : NodeError)
    → EndsBy false a (error_end e) → Wrote tells first now old new a false (is_disk {T = Unit {0}} (Err e))
    → StaysANode first old a → Called tells connected first now old new a (error_end e)
fails-by tells connected first now old new a error.Memory ends wrote node =
    record { ends = ends; wrote = wrote; next = λ t h. node }
fails-by tells connected first now old new a error.Disk ends wrote node =
    record { ends = ends; wrote = wrote; next = λ t h. node }
fails-by tells connected first now old new a error.Down ends wrote node = absurd ends
fails-by tells connected first now old new a (error.Refused cause) ends wrote node =
    record { ends = ends; wrote = wrote; next = λ t h. node }

-- it failed
pub fails : (tells connected : Bool) (first now : Told) (old new : Noded) (a answer : Answer) (e : NodeError)
    (ended : Ended) → ended ≡ error_end e → old.stored.journal.is_down ≡ false → a ≡ answer → StaysANode first old a
    → Wrote tells first now old new a false (is_disk {T = Unit {0}} (Err e)) → EndsBy false a (error_end e)
    → Does tells connected first now old new answer ended
fails tells connected first now old new a answer e ended is up same stays wrote ends =
    by-answer tells connected first now old new a answer ended up same
    (subst (λ (x : Ended). Called tells connected first now old new a x) (sym is)
    (fails-by tells connected first now old new a e ends wrote stays))
