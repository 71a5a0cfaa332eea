-- A disk that crashes, and the node that is mounted again.
use Rattle.std.proofs.Common.{◌≡◌, ◌∙◌, ◌++◌, ℕ, Bool, true, false, List, [], ◌∷◌, None, refl, sym, ap, subst}
use Rattle.std.proofs.Common.{inl, inr}
use Rattle.std.specs.List.{AllByRecursion}
use Rattle.timers.specs.Keys.Keyed.{StandsFor}
use Rattle.record_batch.specs.Fact.{Fact, Made}
use Rattle.record_batch.specs.Writable.{IsBatch}
use Rattle.rm_disk.specs.Call.{Call, Crashed as Crashes, crashes_of, left_by, seen_of, state}
use Rattle.rm_disk.specs.Image.{MayLeave, OnlyLeaves}
use Rattle.rm_disk.specs.ImageLemmas.{crash_leaves_image, left_now, settled_only}
use Rattle.rm_disk.specs.Journal.Entries.{Bank}
use Rattle.rm_disk.specs.Journal.EntryLemmas.{stands_for_one}
use Rattle.rm_protocol.specs.Node.{Node, State, Up, Writing, Compacting, entries_left, records_in, start_left}
use Rattle.rm_protocol.specs.Waiting.{mounted_waits}
use Rattle.rm_protocol.specs.World.{made}
use Rattle.rm_disk.specs.Told.{Told}
use Rattle.node_store.specs.Has.{AreOfNode, Has, StandsForBatches, StandsForBatchesAt, entries_of}
use Rattle.node_store.specs.Mounted.{Finds}
use Rattle.node_store.specs.Stored.{Stored, first_stored}
use Rattle.rm_node.specs.Keeping.{Keeps, first_kept}
use Rattle.rm_node.specs.Noded.{Noded, granting}
use Rattle.rm_replay.specs.Actor.Actored.{Actored}
use Rattle.rm_replay.specs.Actor.Stands.{Crashed, Leaves, Stands, StandsBy, StandsFrom, kept_of}
use Rattle.rm_replay.proofs.ActorLemmas.ActLemmas.{actored}

-- bytes stand for the entries that a crash of the node leaves, where the list begins then, and they are those of a node
pub record Left (start : ℕ) (st : State) (entries : List (List Fact)) (bytes : List ℕ) : Type 0 where
  pub kept : Bool
  pub stands : StandsFrom (start_left st kept start) (entries_left st kept entries) bytes
  pub are : AreOfNode (entries_left st kept entries)

-- where the journal's list begins
from_bank : (stored : Stored) (start : ℕ) (entries : List (List Fact)) (bytes : List ℕ)
    → stored.journal.bank.start ≡ start → StandsForBatchesAt stored.journal.bank entries bytes
    → StandsFrom start entries bytes
from_bank stored start entries bytes begins stands =
    record { bank = stored.journal.bank; begins = begins; stands = stands }

left_with : (st : State) (start : ℕ) (entries : List (List Fact)) (past : List Call) (stored : Stored)
    → stored.journal.bank.start ≡ start → StandsBy st entries past stored → (bytes : List ℕ) → MayLeave past bytes
    → Left start st entries bytes
left_with Up start entries past stored at awake bytes may = record {
  kept = false;
  stands = from_bank stored start entries bytes at (awake.has.holds.journal.images bytes may);
  are = awake.has.are;
}
left_with (Writing []) start entries past stored at asleep bytes may = elim (asleep.images bytes may) [
  | inl before ↦
      record { kept = false; stands = from_bank stored start entries bytes at before; are = asleep.are }
  | inr after ↦
      record { kept = false; stands = from_bank stored start entries bytes at after; are = asleep.are }
]
left_with (Writing (f ∷ delta)) start entries past stored at asleep bytes may = elim (asleep.images bytes may) [
  | inl before ↦
      record { kept = false; stands = from_bank stored start entries bytes at before; are = asleep.are }
  | inr after ↦ record {
    kept = true;
    stands = from_bank stored start (entries ++ (f ∷ delta) ∷ []) bytes at after;
    are = asleep.next;
  }
]
left_with (Compacting place) start entries past stored at asleep bytes may = elim (asleep.images bytes may) [
  | inl before ↦
      record { kept = false; stands = from_bank stored start entries bytes at before; are = asleep.are }
  | inr after ↦ record { kept = true; stands = after; are = asleep.next }
]

-- each image is left by a crash of the node
pub left_of : (x : Node) (now : Told) (a : Actored) → Stands x now a → (bytes : List ℕ) → MayLeave now.past bytes
    → Left x.start x.state x.entries bytes
left_of x now a s bytes may =
    left_with x.state x.start x.entries now.past a.node.stored s.start s.disk bytes may

-- what the disk leaves where nothing happened to it
pub leaves_still : (x : Node) (now : Told) (a : Actored) (past : List Call) → Stands x now a → past ≡ now.past
    → Leaves x past
leaves_still x now a past s same bytes may =
    let left = left_of x now a s bytes (subst (λ (p : List Call). MayLeave p bytes) same may) in
    record { kept = left.kept; stands = left.stands; are = left.are }

-- what a crash left
pub left_crashed : (x : Node) (now : Told) (a : Actored) (choice : ℕ) → Stands x now a
    → Left x.start x.state x.entries (left_by choice (state now.past))
left_crashed x now a choice s =
    left_of x now a s (left_by choice (state now.past)) (crash_leaves_image now.past choice)

-- so there is a node on the disk
pub node_there : (x : Node) (now : Told) (a : Actored) (choice : ℕ) (past : List Call) → Stands x now a
    → past ≡ Crashes choice ∷ now.past
    → (batches : List (List Fact)) × AreOfNode batches × StandsForBatches batches (seen_of past)
node_there x now a choice past s is =
    let left = left_crashed x now a choice s in (
      entries_left x.state left.kept x.entries,
      left.are,
      subst (λ (p : List Call). StandsForBatches (entries_left x.state left.kept x.entries) (seen_of p)) (sym is)
          (record { bank = left.stands.bank; stands = left.stands.stands }),
    )

-- what the disk leaves where it crashed, and the node was not mounted
pub leaves_crashed : (x : Node) (now : Told) (a : Actored) (choice : ℕ) (past later : List Call) → Stands x now a
    → past ≡ Crashes choice ∷ now.past → OnlyLeaves past later (MayLeave past) → Leaves x later
leaves_crashed x now a choice past later s is only bytes may =
    let settled : MayLeave (Crashes choice ∷ now.past) bytes =
    subst (λ (p : List Call). MayLeave p bytes) is (only.each bytes (left_now later _ bytes may)) in
    let same = settled_only (left_by choice (state now.past)) bytes settled in
    let left = left_crashed x now a choice s in
    record {
      kept = left.kept;
      stands = subst (λ (b : List ℕ). StandsFrom (start_left x.state left.kept x.start)
          (entries_left x.state left.kept x.entries) b) (sym same) left.stands;
      are = left.are;
    }

-- bytes stand for one list of batches
abbrev pub OneList : Type 0
OneList =
    (a b : List (List Fact)) (bytes : List ℕ) → AllByRecursion IsBatch a → AllByRecursion IsBatch b
    → StandsForBatches a bytes → StandsForBatches b bytes → a ≡ b

-- the node is mounted
pub crashed : OneList → (x : Node) (first now : Told) (a : Actored) (choice : ℕ) (past : List Call) (node : Noded)
    → Stands x first a → past ≡ Crashes choice ∷ first.past → Finds past now.past node.stored
    → node.stored.journal.is_down ≡ false → Keeps node.kept (first_kept node.stored.records)
    → crashes_of now.past ≡ crashes_of past → now.fuse ≡ None
    → Crashed x choice first now (actored (granting node a.node.kept.granted) a.clock)
crashed one x first now a choice past node s is found up keeps crashes fuse =
    let left = left_crashed x first a choice s in
    let bytes = left_by choice (state first.past) in
    let entries = entries_left x.state left.kept x.entries in
    let bank = left.stands.bank in
    let mounted_bank = node.stored.journal.bank in
    let were : StandsForBatchesAt mounted_bank found.batches bytes =
    subst (λ (p : List Call). StandsForBatchesAt mounted_bank found.batches (seen_of p)) is found.were in
    let at : mounted_bank ≡ bank =
    (stands_for_one mounted_bank bank (entries_of found.batches) (entries_of entries) bytes were
    left.stands.stands).0 in
    let same : found.batches ≡ entries =
    one found.batches entries bytes found.has.are.each left.are.each
    (record { bank = mounted_bank; stands = were }) (record { bank = bank; stands = left.stands.stands }) in
    let records : node.stored.records ≡ records_in entries =
    found.has.holds.records ∙ ap records_in same in
    record {
      kept = left.kept;
      stands = record {
        disk = record { up = up; has = subst (λ (b : List (List Fact)). Has b now.past node.stored) same found.has };
        start = ap (λ (b : Bank). b.start) at ∙ left.stands.begins;
        fuse = fuse;
        granted = s.granted;
        kept = λ again. record {
          granted = s.granted;
          waits = subst (λ (r : List Fact). StandsFor node.kept.timers (mounted_waits r)) records keeps.waits;
          time = keeps.time;
          polled = keeps.polled;
        };
        rules = tt;
        clock = s.clock;
      };
      bytes = bytes;
      crashes = crashes ∙ ap crashes_of is;
      left = left.stands;
    }

-- a node that was made
pub made-stands : (number : ℕ) (address : List ℕ) (now : Told) (node : Noded)
    → node.stored ≡ first_stored number address → Keeps node.kept (first_kept node.stored.records)
    → Has ((Made number address ∷ []) ∷ []) now.past node.stored → now.fuse ≡ None
    → Stands (made number address) now (actored node 0)
made-stands number address now node is keeps has fuse =
    let kept : Keeps node.kept (kept_of (made number address)) =
    subst (λ (s : Stored). Keeps node.kept (first_kept s.records)) is keeps in
    record {
      disk = record { up = ap (λ (s : Stored). s.journal.is_down) is; has = has };
      start = ap (λ (s : Stored). s.journal.bank.start) is;
      fuse = fuse;
      granted = kept.granted;
      kept = λ up. kept;
      rules = tt;
      clock = refl;
    }
