-- What consume answers, by what became of the node.
use Rattle.std.proofs.Common.{◌≡◌, ◌≢◌, ◌∙◌, ◌⊎◌, ℕ, Bool, true, false, List, length, Option, None, Some, refl, sym, ap}
use Rattle.std.proofs.Common.{arith, subst, inl, inr, [], ◌∷◌, ◌++◌, append-nil, cond, nat_lt}
use Rattle.std.specs.List.{flat_map}
use Rattle.std.specs.Prelude.{Result, Ok, Err, IfSome, IsTrue}
use Rattle.std.specs.Io.KnownBytes.{Appends}
use Rattle.std.proofs.lemmas.Grind.{flat_map-append}
use Rattle.std.proofs.lemmas.Option.{none-some}
use Rattle.std.proofs.Math.Seq.{take-length}
use Rattle.node_laws.specs.Answers.Answers.{cause_seen}
use Rattle.node_laws.specs.declared.answers.answer.Cause.{Cause}
use Rattle.node_laws.specs.declared.answers.answer.Cause.TheVariants as cause
use Rattle.node_laws.specs.OwnTerms.{AreOwn, ThereAreOwnTerms}
use Rattle.node_store.specs.Has.{AreOfNode, Holds, IsLeftBy}
use Rattle.node_store.specs.Mounted.{Finds, IsNoNode}
use Rattle.node_store.specs.Stored.{Stored, grown, with_batch}
use Rattle.node_tables.specs.Laws.{IncomingIsAsRecorded}
use Rattle.node_tables.specs.Reads.{incoming_in, incoming_of}
use Rattle.record_batch.specs.Fact.{Fact, Consumed as ConsumedFact}
use Rattle.rm_base.specs.Numbered.{numbered}
use Rattle.rm_base.specs.Outside.{AppendsFront, Stream}
use Rattle.rm_sides.specs.Destination.Incoming.{Receiving, inbox as inbox_in}
use Rattle.rm_disk.specs.Call.{Call, seen_of}
use Rattle.rm_disk.specs.Image.{MayLeave, OnlyLeaves}
use Rattle.rm_disk.specs.Told.{Told}
use Rattle.rm_disk.specs.Journal.Entries.{Bank}
use Rattle.rm_message.specs.declared.message.Message.{Message}
use Rattle.rm_disk.specs.Journal.JournalState.{end_of}
use Rattle.rm_node.specs.Called.{Called, Does, EndsBy, Sleeps}
use Rattle.rm_node.specs.Ends.{Ended, Handed, Refused, Wanted, Broke, error_end}
use Rattle.rm_node.specs.Noded.{Noded}
use Rattle.rm_node.specs.declared.error.NodeError.{NodeError}
use Rattle.rm_node.specs.declared.error.NodeError.TheVariants as node
use Rattle.rm_protocol.specs.Calls.{Answer, Cause as ACause, Done, StoreFull, adds, consume as consume_answer}
use Rattle.rm_protocol.specs.Calls.{consume_in, cursor_to, if_room, on_incoming, refusal, PastInbox}
use Rattle.rm_protocol.specs.Calls.{Refused as RefusedWith}
use Rattle.rm_protocol.specs.Terms.{Terms}
use Rattle.rm_protocol.specs.Verdict.{has_room}
use Rattle.record_batch.specs.Sequences.Destinations.{cursor, inbox}
use Rattle.record_batch.specs.Sequences.Makers.{Maker, Outgoing, Offered, Incoming, Taken, maker, makers, makers_of}
use Rattle.rm_host.specs.Compaction.{failed_end}
use Rattle.rm_host.specs.Consumption.{Consumption, ConsumesItems, MayRecord}
use Rattle.rm_host.specs.Ends.{Prints, is_disk_end, is_link_end, is_of_call, is_of_input_end, is_outer, is_refusal}
use Rattle.rm_host.specs.Sequences.{passed_answer, passed_lines, passed_told}
use Rattle.rm_host.specs.Texts.{consumed_line}
use Rattle.rm_host.specs.declared.end.End.{End}
use Rattle.rm_host.specs.declared.end.End.TheVariants as end
use Rattle.rm_host.proofs.CompactionLemmas.{up-does}

-- ---- the sequence

-- a sequence that receives, whose inbox has so many items
pub record HasItems (r : List Fact) (s upto : ℕ) : Type 0 where
  pub receiving : Receiving
  pub there : incoming_in r s ≡ Some receiving
  pub enough : nat_lt (length (inbox r s)) upto ≡ false

by-receiving : IncomingIsAsRecorded → (r : List Fact) (s upto : ℕ) (lines : List ℕ) (o : Option Receiving)
    → incoming_in r s ≡ o → passed_told s upto o ≡ Ok lines → HasItems r s upto
by-receiving law r s upto lines None there is = absurd cc
by-receiving law r s upto lines (Some f) there is =
    elim (nat_lt (length (inbox_in f)) upto) as (λ b. nat_lt (length (inbox_in f)) upto ≡ b
    → cond b (Err (end.Refused (cause.PastInbox (length (inbox_in f)))))
    (Ok (passed_lines s f.cursor upto (inbox_in f)))
    ≡ Ok lines → HasItems r s upto) [
      | true ↦ λ e h. absurd cc
      | false ↦ λ e h. record {
        receiving = f;
        there = there;
        enough = subst (λ items. nat_lt (length items) upto ≡ false) (law r s f there).inbox_ e;
      }
    ] refl is

-- it is one of whose items lines were told
pub has-items : IncomingIsAsRecorded → (r : List Fact) (s upto : ℕ) (lines : List ℕ) → passed_answer r s upto ≡ Ok lines
    → HasItems r s upto
has-items law r s upto lines is =
    elim (nat_lt (length (makers r)) s) as (λ b.
    cond b (Err (end.Refused cause.NoSequence)) (passed_told s upto (incoming_in r s)) ≡ Ok lines
    → HasItems r s upto) [
      | true ↦ λ h. absurd cc
      | false ↦ λ h. by-receiving law r s upto lines (incoming_in r s) refl h
    ] is

-- what was told
pub told-lines : (lines : List ℕ) (a : Result (List ℕ) End) → (Ok lines ≡ Err end.Memory) ⊎ (Ok lines ≡ a)
    → a ≡ Ok lines
told-lines lines a (inl wants) = absurd cc
told-lines lines a (inr is) = sym is

-- what is told of no items is a refusal
pub no-items : (r : List Fact) (s upto : ℕ) (e : End) → passed_answer r s upto ≡ Err e → is_refusal e ≡ true
no-items r s upto e is =
    elim (nat_lt (length (makers r)) s) as (λ b.
    cond b (Err (end.Refused cause.NoSequence)) (passed_told s upto (incoming_in r s)) ≡ Err e → is_refusal e ≡ true) [
      | true ↦ λ h. same cause.NoSequence e h
      | false ↦ λ h. by (incoming_in r s) h
    ] is
  where
    same : (why : Cause) (e : End) → ◌≡◌ {A = Result (List ℕ) End} (Err (end.Refused why)) (Err e) → is_refusal e ≡ true
    same why e h = let it : end.Refused why ≡ e = cc in subst (λ x. is_refusal x ≡ true) it refl

    by : (o : Option Receiving) → passed_told s upto o ≡ Err e → is_refusal e ≡ true
    by None h = same cause.WrongSide e h
    by (Some f) h =
        elim (nat_lt (length (inbox_in f)) upto) as (λ b.
        cond b (Err (end.Refused (cause.PastInbox (length (inbox_in f)))))
        (Ok (passed_lines s f.cursor upto (inbox_in f))) ≡ Err e → is_refusal e ≡ true) [
          | true ↦ λ k. same (cause.PastInbox (length (inbox_in f))) e k
          | false ↦ λ k. absurd cc
        ] h

-- ---- what the protocol answers

-- a call for a sequence that receives
incoming-so : (r : List Fact) (s : ℕ) (f : Receiving) (m : Option Maker) (a : Answer) → incoming_of r s m ≡ Some f
    → on_incoming m a ≡ a
incoming-so r s f None a e = absurd (none-some f e)
incoming-so r s f (Some (Outgoing ticket to via lapse)) a e = absurd (none-some f e)
incoming-so r s f (Some (Taken message_id ident endpoint)) a e = absurd (none-some f e)
incoming-so r s f (Some (Incoming counter message_id acks_to behaviour deadline lapse)) a e = refl
incoming-so r s f (Some (Offered ticket counter to behaviour)) a e = refl

-- it records how far the cursor goes on, where there is room
pub answers-so : (terms : Terms) (r : List Fact) (place s upto : ℕ) → HasItems r s upto
    → consume_answer terms r place s upto ≡ if_room terms place (adds r (cursor_to r s upto) (λ after. []))
answers-so terms r place s upto has =
    incoming-so r s has.receiving (maker r s) (consume_in terms r place s upto) has.there
    ∙ ap (λ b. cond b (refusal (PastInbox (length (inbox r s))))
    (if_room terms place (adds r (cursor_to r s upto) (λ after. [])))) has.enough

-- there is room, and the records are these; or there isn't, and there are none
pub record IsRoomy (r : List Fact) (s upto : ℕ) (a : Answer) : Type 0 where
  pub done : a.outcome ≡ Done
  pub delta : a.delta ≡ cursor_to r s upto

pub record IsTooFull (a : Answer) : Type 0 where
  pub last : ℕ
  pub needed : ℕ
  pub full : a.outcome ≡ RefusedWith (StoreFull last needed)
  pub none : a.delta ≡ []

room-by : (r : List Fact) (s upto last needed : ℕ) (b : Bool) (a c : Answer) → a.outcome ≡ Done
    → a.delta ≡ cursor_to r s upto → c.outcome ≡ RefusedWith (StoreFull last needed) → c.delta ≡ []
    → IsRoomy r s upto (cond b a c) ⊎ IsTooFull (cond b a c)
room-by r s upto last needed true a c d e f g = inl (record { done = d; delta = e })
room-by r s upto last needed false a c d e f g = inr (record { last = last; needed = needed; full = f; none = g })

pub roomy-or-full : (terms : Terms) (r : List Fact) (place s upto : ℕ) → HasItems r s upto
    → IsRoomy r s upto (consume_answer terms r place s upto) ⊎ IsTooFull (consume_answer terms r place s upto)
roomy-or-full terms r place s upto has =
    subst (λ (a : Answer). IsRoomy r s upto a ⊎ IsTooFull a) (sym (answers-so terms r place s upto has))
    (room-by r s upto _ _ (has_room terms place (cursor_to r s upto)) _ _ refl refl refl refl)

-- ---- what is recorded

-- what a moment leaves, in other words
only-leaves : (old new : List Call) (P Q : List ℕ → Type 0) → ((bytes : List ℕ) → P bytes → Q bytes)
    → OnlyLeaves old new P → OnlyLeaves old new Q
only-leaves old new P Q step leaves =
    record { later = leaves.later; each = λ bytes left. step bytes (leaves.each bytes left) }

none-more : (bank : Bank) (batches : List (List Fact)) (given delta : List Fact) (bytes : List ℕ) → given ≡ []
    → IsLeftBy bank batches given bytes → IsLeftBy bank batches delta bytes
none-more bank batches given delta bytes none left =
    by (subst (λ (d : List Fact). IsLeftBy bank batches d bytes) none left)
  where
    by : IsLeftBy bank batches [] bytes → IsLeftBy bank batches delta bytes
    by (inl stands) = inl stands
    by (inr stands) = inl stands

-- the records of the answer are these, or none
left-by : (r : List Fact) (s upto : ℕ) (a : Answer) (bank : Bank) (batches : List (List Fact)) (bytes : List ℕ)
    → IsRoomy r s upto a ⊎ IsTooFull a → IsLeftBy bank batches a.delta bytes
    → IsLeftBy bank batches (cursor_to r s upto) bytes
left-by r s upto a bank batches bytes (inl roomy) left =
    subst (λ (d : List Fact). IsLeftBy bank batches d bytes) roomy.delta left
left-by r s upto a bank batches bytes (inr full) left =
    none-more bank batches a.delta (cursor_to r s upto) bytes full.none left

-- a crash since the node was found leaves its batches, or these with the record
pub may-record : IncomingIsAsRecorded → (tells : Bool) (first mid now : Told) (old new : Noded) (s upto : ℕ)
    (ended : Ended) → HasItems old.stored.records s upto → (IsTrue tells → Finds first.past mid.past old.stored)
    → ConsumesItems tells mid now old new s upto ended → IsTrue tells
    → MayRecord first now old.stored (cursor_to old.stored.records s upto)
may-record law tells first mid now old new s upto ended has found did t =
    let f = found t in
    let changes = did.2.wrote.changes t in
    let r = old.stored.records in
    let a = consume_answer did.0 r (end_of old.stored.journal) s upto in
    record {
      mounted = mid.past;
      found = f;
      moments = only-leaves mid.past now.past (IsLeftBy old.stored.journal.bank f.batches a.delta)
          (IsLeftBy old.stored.journal.bank f.batches (cursor_to r s upto))
          (λ bytes. left-by r s upto a old.stored.journal.bank f.batches bytes
          (roomy-or-full did.0 r (end_of old.stored.journal) s upto has))
          (changes.moments f.batches f.has.holds);
    }

-- where nothing was written the disk is as it was
pub untouched : (tells : Bool) (mid now : Told) (old new : Noded) (s upto : ℕ) (why : ACause)
    → ConsumesItems tells mid now old new s upto (Refused why) → IsTrue tells → now ≡ mid
untouched tells mid now old new s upto why did t = (did.2.wrote.changes t).untouched refl refl

-- the records that there are then
pub grown-records : (old : Stored) (delta : List Fact) → (grown old delta).records ≡ old.records ++ delta
grown-records old [] = sym (append-nil old.records)
grown-records old (f ∷ delta) = refl

-- the call is done only where there is room
pub is-roomy : (terms : Terms) (r : List Fact) (place s upto : ℕ) → HasItems r s upto
    → Done ≡ (consume_answer terms r place s upto).outcome → IsRoomy r s upto (consume_answer terms r place s upto)
is-roomy terms r place s upto has done =
    by (roomy-or-full terms r place s upto has)
  where
    by : IsRoomy r s upto (consume_answer terms r place s upto) ⊎ IsTooFull (consume_answer terms r place s upto)
        → IsRoomy r s upto (consume_answer terms r place s upto)
    by (inl roomy) = roomy
    by (inr full) = let both : Done ≡ RefusedWith (StoreFull full.last full.needed) = done ∙ full.full in absurd cc

-- ---- the call of a node that is up

-- so it is called
pub called-up : (tells connected : Bool) (first now : Told) (old new : Noded) (a : Answer) (ended : Ended)
    → old.stored.journal.is_down ≡ false → Does tells connected first now old new a ended
    → Called tells connected first now old new a ended
called-up tells connected first now old new a ended up does =
    up-does old.stored.journal.is_down (Sleeps first now old new ended)
    (Called tells connected first now old new a ended) up does

-- a node has terms of its own
pub some-terms : ThereAreOwnTerms → (terms : Terms) × AreOwn terms
some-terms there =
    let own = there (λ (ms : List Message) (m : Message). true) (λ (m : Message). Ok m) in (own.0, own.3)

-- and doesn't answer that it is down
pub called-awake : (tells connected : Bool) (first now : Told) (old new : Noded) (a : Answer) (e : NodeError)
    → Called tells connected first now old new a (error_end e) → e ≢ node.Down
called-awake tells connected first now old new a e did down =
    let ends : EndsBy connected a (error_end node.Down) =
    subst (λ (x : NodeError). EndsBy connected a (error_end x)) down did.ends in
    absurd ends

-- ---- the cursor in the end

-- the record of a cursor makes no sequence
makers-on : (r : List Fact) (s upto : ℕ) → makers (r ++ cursor_to r s upto) ≡ makers r
makers-on r s upto =
    flat_map-append makers_of r (cursor_to r s upto)
    ∙ elim (nat_lt (cursor r s) upto) as
    (λ b. makers r ++ flat_map makers_of (cond b (ConsumedFact s upto ∷ []) []) ≡ makers r) [
      | true ↦ append-nil (makers r)
      | false ↦ append-nil (makers r)
    ]

still-by : (r q : List Fact) (s : ℕ) (f : Receiving) (m : Option Maker) → incoming_of r s m ≡ Some f
    → (g : Receiving) × (incoming_of q s m ≡ Some g)
still-by r q s f None e = absurd (none-some f e)
still-by r q s f (Some (Outgoing ticket to via lapse)) e = absurd (none-some f e)
still-by r q s f (Some (Taken message_id ident endpoint)) e = absurd (none-some f e)
still-by r q s f (Some (Incoming counter message_id acks_to behaviour deadline lapse)) e = (_, refl)
still-by r q s f (Some (Offered ticket counter to behaviour)) e = (_, refl)

-- the sequence receives with that record too, so that its cursor is told
pub cursor-told : (r q : List Fact) (s upto n : ℕ) → HasItems r s upto → q ≡ r ++ cursor_to r s upto
    → IfSome (incoming_in q s) (λ receiving. n ≡ cursor q s) → n ≡ cursor (r ++ cursor_to r s upto) s
cursor-told r q s upto n has is told =
    let same : maker q s ≡ maker r s = ap (λ (x : List Fact). maker x s) is
    ∙ ap (λ (ms : List Maker). numbered ms s) (makers-on r s upto) in
    let still = still-by r q s has.receiving (maker r s) has.there in
    let there : incoming_in q s ≡ Some still.0 = ap (incoming_of q s) same ∙ still.1 in
    let told_ : n ≡ cursor q s =
    subst (λ (o : Option Receiving). IfSome o (λ receiving. n ≡ cursor q s)) there told in
    told_ ∙ ap (λ (x : List Fact). cursor x s) is

-- ---- what is answered

-- no node was found
pub unfound : {T : Type 0} (tells : Bool) (first now : Told) (shown : Stream) (s upto : ℕ) (e : End)
    → (e ≡ end.Memory) ⊎ ((e ≡ end.DiskFault) ⊎ (e ≡ end.NotAJournal))
    → (IsTrue tells → ◌≡◌ {A = Result T End} (Err e) (Err end.NotAJournal) → IsNoNode (seen_of first.past))
    → (IsTrue tells → OnlyLeaves first.past now.past (MayLeave first.past))
    → Consumption tells first now shown shown s upto (Err e)
unfound tells first now shown s upto e (inl wants) none moments =
    subst (λ x. Consumption tells first now shown shown s upto (Err x)) (sym wants) (inl refl, λ t. inl (moments t))
unfound tells first now shown s upto e (inr (inl failed)) none moments =
    subst (λ x. Consumption tells first now shown shown s upto (Err x)) (sym failed) (inl refl, λ t. inl (moments t))
unfound tells first now shown s upto e (inr (inr empty)) none moments =
    subst (λ x. Consumption tells first now shown shown s upto (Err x)) (sym empty)
    (refl, λ t. record { none = none t (ap Err empty); moments = moments t })

-- nothing is there to consume
pub refused-first : (tells : Bool) (first now : Told) (old : Stored) (shown : Stream) (s upto : ℕ) (e : End)
    → (IsTrue tells → Finds first.past now.past old)
    → (IsTrue tells → OnlyLeaves first.past now.past (MayLeave first.past))
    → ◌≡◌ {A = Result (List ℕ) End} (Err e) (Err end.Memory) ⊎ (Err e ≡ passed_answer old.records s upto)
    → Consumption tells first now shown shown s upto (Err e)
refused-first tells first now old shown s upto e found moments (inl wants) =
    let same : e ≡ end.Memory = cc in
    subst (λ x. Consumption tells first now shown shown s upto (Err x)) (sym same) (inl refl, λ t. inl (moments t))
refused-first tells first now old shown s upto e found moments (inr is) =
    by e (no-items old.records s upto e (sym is)) (sym is)
  where
    by : (e : End) → is_refusal e ≡ true → passed_answer old.records s upto ≡ Err e
        → Consumption tells first now shown shown s upto (Err e)
    by (end.Refused why) h is = record { old = old; found = found; which = inl (is, refl) }
    by e h is = absurd cc

-- the items were not printed
pub unprinted : (tells : Bool) (first now : Told) (old : Stored) (shown printed : Stream) (s upto : ℕ) (lines : List ℕ)
    (e : End) → (IsTrue tells → Finds first.past now.past old)
    → (IsTrue tells → OnlyLeaves first.past now.past (MayLeave first.past))
    → passed_answer old.records s upto ≡ Ok lines
    → AppendsFront shown.held printed.held lines → (e ≡ end.Memory) ⊎ (e ≡ end.WriteFault)
    → Consumption tells first now shown printed s upto (Err e)
unprinted tells first now old shown printed s upto lines e found moments is wrote (inl wants) =
    subst (λ x. Consumption tells first now shown printed s upto (Err x)) (sym wants)
    (inr (old, lines, is, wrote, λ t. (now.past, found t)), λ t. inl (moments t))
unprinted tells first now old shown printed s upto lines e found moments is wrote (inr failed) =
    subst (λ x. Consumption tells first now shown printed s upto (Err x)) (sym failed)
    (record { old = old; lines = lines; items = is; wrote = wrote; found = found })

-- all of them are some first bytes of them
whole-is-front : (old new : Option (List ℕ)) (lines : List ℕ) → Appends old new lines → AppendsFront old new lines
whole-is-front old new lines wrote =
    (length lines, omega arith, subst (λ text. Appends old new text) (sym (take-length lines)) wrote)

-- they were, and the node didn't record it
pub unrecorded : IncomingIsAsRecorded → (tells : Bool) (first mid now : Told) (old new : Noded) (shown printed : Stream)
    (s upto : ℕ) (lines : List ℕ) (e : End) → (IsTrue tells → Finds first.past mid.past old.stored)
    → passed_answer old.stored.records s upto ≡ Ok lines → Appends shown.held printed.held lines
    → ConsumesItems tells mid now old new s upto (failed_end e) → is_of_call e ≡ true
    → Consumption tells first now shown printed s upto (Err e)
unrecorded law tells first mid now old new shown printed s upto lines (end.Refused why) found is wrote did of_call =
    record {
      old = old.stored;
      found = λ t. subst (λ (x : Told). Finds first.past x.past old.stored)
          (sym (untouched tells mid now old new s upto (cause_seen why) did t)) (found t);
      which = inr ((did.0, did.1, did.2.ends), (lines, is, wrote));
    }
unrecorded law tells first mid now old new shown printed s upto lines end.Memory found is wrote did of_call = (
  inr (old.stored, lines, is, whole-is-front shown.held printed.held lines wrote, λ t. (mid.past, found t)),
  λ t.
      let has = has-items law old.stored.records s upto lines is in
      inr (old.stored, may-record law tells first mid now old new s upto Wanted has found did t, (lines, is, wrote)),
)
unrecorded law tells first mid now old new shown printed s upto lines end.DiskFault found is wrote did of_call = (
  inr (old.stored, lines, is, wrote, λ t. (mid.past, found t)),
  λ t.
      let has = has-items law old.stored.records s upto lines is in
      inr (old.stored, may-record law tells first mid now old new s upto Broke has found did t, (lines, is, wrote)),
)
unrecorded law tells first mid now old new shown printed s upto lines e found is wrote did of_call = absurd cc

-- there was no memory for the text of the cursor
pub untold : IncomingIsAsRecorded → (tells : Bool) (first mid now : Told) (old new : Noded) (shown printed : Stream)
    (s upto : ℕ) (lines : List ℕ) → (IsTrue tells → Finds first.past mid.past old.stored)
    → passed_answer old.stored.records s upto ≡ Ok lines → Appends shown.held printed.held lines
    → ConsumesItems tells mid now old new s upto (Handed Done None [])
    → Consumption tells first now shown printed s upto (Err end.Memory)
untold law tells first mid now old new shown printed s upto lines found is wrote did = (
  inr (old.stored, lines, is, whole-is-front shown.held printed.held lines wrote, λ t. (mid.past, found t)),
  λ t.
      let has = has-items law old.stored.records s upto lines is in
      inr (
        old.stored,
        may-record law tells first mid now old new s upto (Handed Done None []) has found did t,
        (lines, is, wrote),
      ),
)

-- all went well
pub consumed-so : IncomingIsAsRecorded → (tells : Bool) (first mid now : Told) (old new : Noded)
    (shown printed : Stream) (s upto n : ℕ) (lines text : List ℕ)
    → (IsTrue tells → Finds first.past mid.past old.stored) → passed_answer old.stored.records s upto ≡ Ok lines
    → Appends shown.held printed.held lines → ConsumesItems tells mid now old new s upto (Handed Done None [])
    → IfSome (incoming_in new.stored.records s) (λ receiving. n ≡ cursor new.stored.records s)
    → text ≡ consumed_line s n → Consumption tells first now shown printed s upto (Ok text)
unfolding may-record
consumed-so law tells first mid now old new shown printed s upto n lines text found is wrote did told line =
    let r = old.stored.records in
    let has = has-items law r s upto lines is in
    let place = end_of old.stored.journal in
    let a = consume_answer did.0 r place s upto in
    let roomy = is-roomy did.0 r place s upto has did.2.ends.0 in
    let stored : new.stored ≡ grown old.stored (cursor_to r s upto) =
    did.2.wrote.stored ∙ ap (grown old.stored) roomy.delta in
    let records : new.stored.records ≡ r ++ cursor_to r s upto =
    ap (λ (x : Stored). x.records) stored ∙ grown-records old.stored (cursor_to r s upto) in
    record {
      old = old.stored;
      lines = lines;
      items = is;
      wrote = wrote;
      recorded = λ t.
          let may = may-record law tells first mid now old new s upto (Handed Done None []) has found did t in
          let f = found t in
          record {
            may = may;
            has = record {
              holds = subst (λ (x : Stored). Holds (with_batch f.batches (cursor_to r s upto)) now.past x) stored
                  (subst (λ (d : List Fact). Holds (with_batch f.batches d) now.past new.stored) roomy.delta
                  ((did.2.wrote.changes t).holds f.batches f.has.holds refl));
              are = subst (λ (d : List Fact). AreOfNode (with_batch f.batches d)) roomy.delta
                  (did.2.next t (inl refl) f.batches f.has);
            };
          };
      line = line ∙ ap (consumed_line s) (cursor-told r new.stored.records s upto n has records told);
    }

-- ---- what is printed before

-- a step that prints nothing more, and doesn't fail by it
pub prints-on : {T : Type 0} (o p : Stream) (r : Result T End) → Prints {T = Unit {0}} o p (Ok tt) → is_outer r ≡ false
    → Prints o p r
prints-on o p r prints inner = record {
  later = prints.later;
  fault = λ same. let both : is_outer r ≡ true = subst (λ x. is_outer x ≡ true) (sym same) refl in
      absurd (cc (inner, both));
}

-- an error of printing is handed on
pub prints-so : {T U : Type 0} (o p : Stream) (e : End) → Prints {T = T} o p (Err e) → Prints {T = U} o p (Err e)
prints-so o p e prints = record {
  later = prints.later;
  fault = λ same. prints.fault (let it : e ≡ end.WriteFault = cc (same) in ap Err it);
}

-- it is no fault of the disk or the link, nor of the input
pub record IsOfOutput (e : End) : Type 0 where
  pub disk : is_disk_end e ≡ false
  pub link : is_link_end e ≡ false
  pub inner : is_of_input_end e ≡ false

pub print-inner : (e : End) → (e ≡ end.Memory) ⊎ (e ≡ end.WriteFault) → IsOfOutput e
print-inner e (inl wants) = subst IsOfOutput (sym wants) (record { disk = refl; link = refl; inner = refl })
print-inner e (inr failed) = subst IsOfOutput (sym failed) (record { disk = refl; link = refl; inner = refl })
