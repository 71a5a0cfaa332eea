-- What a report says was sent is what the protocol says.
use Rattle.std.proofs.Common.{◌≡◌, ◌∙◌, ◌+◌, ℕ, cond, Bool, true, false, List, ◌∷◌, ◌++◌, length, refl, sym, ap, []}
use Rattle.std.proofs.Common.{Option, Some, None, append-nil, subst, inl, inr, length-append}
use Rattle.std.proofs.lemmas.List.{length-map}
use Rattle.record_batch.specs.Fact.{Fact}
use Rattle.rm_protocol.specs.Calls.{Cause, NoSequence, WrongSide, PayloadTooLong, BadPayload, NotOpen}
use Rattle.rm_protocol.specs.Calls.{WindowFull, NodeFull, Rollover, TooManySequences, StoreFull, PastInbox, Done}
use Rattle.rm_protocol.specs.Calls.{Refused, Judged}
use Rattle.rm_protocol.specs.AloneLemmas.{records-alone}
use Rattle.rm_protocol.specs.Node.{CallOutcome, Answered, DiskFault, IsDown, Node, State, Up, Writing, Compacting}
use Rattle.rm_protocol.specs.Node.{entries_left, mounted, records, records_in, whole_left}
use Rattle.rm_protocol.specs.Sent.{IsImage, IsLeftAs, Line as Row, counts as counts_in, counts_call}
use Rattle.rm_protocol.specs.Sent.{is_crash as is_crash_in, line_of, lines, next_entries as next_in}
use Rattle.rm_protocol.specs.Sent.{AcceptedIsSent as IsSentInRuns, printed, sent_by as sent_by_in}
use Rattle.rm_protocol.specs.Sent.{sent_in as all_sent_in}
use Rattle.rm_protocol.specs.Terms.{Terms}
use Rattle.rm_protocol.specs.Word.{history}
use Rattle.rm_protocol.specs.World.{Event, Side, One, Two, World, happens, node, run}
use Rattle.rm_script.specs.declared.report.line.Line.{Line}
use Rattle.rm_script.specs.declared.report.line.Outcome.{Outcome}
use Rattle.rm_script.specs.declared.event.Event.{Event as Said}
use Rattle.rm_script.specs.declared.event.Event.TheVariants as said
use Rattle.rm_script.specs.declared.event.Side.{Side as Place}
use Rattle.rm_replay.specs.Actor.LeftLemmas.{records_push}
use Rattle.rm_replay.specs.Actor.Outcomes.{call_told, refusal_told}
use Rattle.node_laws.specs.OwnTerms.{OwnAreTerms}
use Rattle.rm_replay.specs.Meaning.{Means, comes_out, report_of, stepped}
use Rattle.rm_replay.specs.Net.{AreOfNet}
use Rattle.rm_replay.specs.Played.{Played, Story, more, none, start_world, told_on}
use Rattle.rm_replay.specs.Sent.{AcceptedIsSent, Pair, counts, entries_at, is_crash, next_entries, paired}
use Rattle.rm_replay.specs.Sent.{sent_by, sent_in}
use Rattle.rm_replay.specs.Shows.{Holds, Scene, address_one, address_two}
use Rattle.rm_replay.proofs.PlayedLemmas.{RunGoesOn, RunsKeep, headline_whole}

-- ---- a line of the script and its line of the report, and a line of the protocol

-- they say the same
record IsRow (line : Said) (report : Line) (row : Row) : Type 0 where
  pub pairs : (script : List Said) (rest : List Line)
      → paired (line ∷ script) (report ∷ rest) ≡ record { line = line; report = report } ∷ paired script rest
  pub crash : (at : Side) → is_crash at line ≡ is_crash_in at row.event
  pub entries : (at : Side) → entries_at at report ≡ printed at row
  pub sent : (at : Side) (seq now next : ℕ) → sent_by at seq line (counts report.outcome now next)
      ≡ sent_by_in at seq row.event (counts_in row.outcome now next)

-- a report has these lines of the protocol
data AreRows : List Said → List Line → List Row → Type 0 where
  finished : AreRows [] [] []
  says_nothing : (script : List Said) (report : List Line) (rows : List Row) → AreRows script report rows
      → AreRows (said.Nothing ∷ script) report rows
  no_noise : (script : List Said) (report : List Line) (rows : List Row) (at : Place) (bytes : List ℕ) (l : Line)
      → AreRows script report rows → AreRows (said.Noise at bytes ∷ script) (l ∷ report) rows
  has_row : (script : List Said) (report : List Line) (rows : List Row) (line : Said) (l : Line) (r : Row)
      → IsRow line l r → AreRows script report rows → AreRows (line ∷ script) (l ∷ report) (r ∷ rows)

rows_append : (script after : List Said) (report told : List Line) (rows next : List Row) → AreRows script report rows
    → AreRows after told next → AreRows (script ++ after) (report ++ told) (rows ++ next)
rows_append _ after _ told _ next finished are = are
rows_append _ after _ told _ next (says_nothing script report rows before) are =
    says_nothing (script ++ after) (report ++ told) (rows ++ next)
    (rows_append script after report told rows next before are)
rows_append _ after _ told _ next (no_noise script report rows at bytes l before) are =
    no_noise (script ++ after) (report ++ told) (rows ++ next) at bytes l
    (rows_append script after report told rows next before are)
rows_append _ after _ told _ next (has_row script report rows line l r is before) are =
    has_row (script ++ after) (report ++ told) (rows ++ next) line l r is
    (rows_append script after report told rows next before are)

-- ---- what follows, and what was sent

next_same : (script : List Said) (report : List Line) (rows : List Row) → AreRows script report rows
    → (at : Side) (image : ℕ) → next_entries at image (paired script report) ≡ next_in at image rows
next_same _ _ _ finished at image = refl
next_same _ _ _ (says_nothing script report rows are) at image = next_same script report rows are at image
next_same _ _ _ (no_noise script report rows node bytes l are) at image = next_same script report rows are at image
next_same _ _ _ (has_row script report rows line l r is are) at image =
    ap (λ (pairs : List Pair). next_entries at image pairs) (is.pairs script report)
    ∙ ap (λ (b : Bool). cond b (entries_at at l) (next_entries at image (paired script report))) (is.crash at)
    ∙ ap (λ (n : ℕ). cond (is_crash_in at r.event) n (next_entries at image (paired script report))) (is.entries at)
    ∙ ap (λ (n : ℕ). cond (is_crash_in at r.event) (printed at r) n) (next_same script report rows are at image)

sent_same : (script : List Said) (report : List Line) (rows : List Row) → AreRows script report rows
    → (at : Side) (seq image : ℕ) → sent_in at seq image (paired script report) ≡ all_sent_in at seq image rows
sent_same _ _ _ finished at seq image = refl
sent_same _ _ _ (says_nothing script report rows are) at seq image = sent_same script report rows are at seq image
sent_same _ _ _ (no_noise script report rows node bytes l are) at seq image =
    sent_same script report rows are at seq image
sent_same _ _ _ (has_row script report rows line l r is are) at seq image =
    let rest = sent_in at seq image (paired script report) in
    ap (λ (pairs : List Pair). sent_in at seq image pairs) (is.pairs script report)
    ∙ ap (λ (n : ℕ). sent_by at seq line (counts l.outcome n (next_entries at image (paired script report))) ++ rest)
    (is.entries at)
    ∙ ap (λ (n : ℕ). sent_by at seq line (counts l.outcome (printed at r) n) ++ rest)
    (next_same script report rows are at image)
    ∙ ap (λ (texts : List (List ℕ)). texts ++ rest) (is.sent at seq (printed at r) (next_in at image rows))
    ∙ ap (λ (texts : List (List ℕ)).
    sent_by_in at seq r.event (counts_in r.outcome (printed at r) (next_in at image rows)) ++ texts)
    (sent_same script report rows are at seq image)

-- ---- one line

counts_refusal : (cause : Cause) (now next : ℕ) → counts (refusal_told cause) now next ≡ false
counts_refusal NoSequence now next = refl
counts_refusal WrongSide now next = refl
counts_refusal (PayloadTooLong len) now next = refl
counts_refusal BadPayload now next = refl
counts_refusal NotOpen now next = refl
counts_refusal (WindowFull unacked) now next = refl
counts_refusal (NodeFull unacked) now next = refl
counts_refusal Rollover now next = refl
counts_refusal (TooManySequences count) now next = refl
counts_refusal (StoreFull last needed) now next = refl
counts_refusal (PastInbox have) now next = refl

counts_same : (outcome : CallOutcome) (now next : ℕ)
    → counts (call_told outcome) now next ≡ counts_call outcome now next
counts_same (Answered Done) now next = refl
counts_same (Answered (Refused cause)) now next = counts_refusal cause now next
counts_same (Answered (Judged kind)) now next = refl
counts_same DiskFault now next = refl
counts_same IsDown now next = refl

-- the lines of the protocol that a line of a script has
abbrev rows_of : Terms → World → Option Event → List Row
rows_of terms w None = []
rows_of terms w (Some event) = line_of terms w event ∷ []

-- a line with its event has one
abbrev HasRows : Terms → World → ℕ → Said → Option Event → Type 0
HasRows terms w number line event =
    AreRows (line ∷ []) (report_of number (comes_out terms w line event) (stepped terms w event))
    (rows_of terms w event)

entries_same : (terms : Terms) (w : World) (number : ℕ) (outcome : Outcome) (event : Event) (at : Side)
    → entries_at at (record {
      number = number;
      outcome = outcome;
      entries_one = length (happens terms w event).one.entries;
      entries_two = length (happens terms w event).two.entries;
      packets = length (happens terms w event).packets;
    }) ≡ printed at (line_of terms w event)
entries_same terms w number outcome event One = refl
entries_same terms w number outcome event Two = refl

rows_line : (terms : Terms) (w : World) (number : ℕ) (line : Said) (event : Option Event) → Means line event
    → HasRows terms w number line event
rows_line terms w number said.Nothing event means =
    subst (HasRows terms w number said.Nothing) (sym means) (says_nothing [] [] [] finished)
rows_line terms w number (said.Create at expires polled offer) event means =
    subst (HasRows terms w number (said.Create at expires polled offer)) (sym means)
    (has_row [] [] [] _ _ _ (record {
      pairs = λ script rest. refl;
      crash = λ side. refl;
      entries = entries_same terms w number _ _;
      sent = λ side seq now next. refl;
    }) finished)
rows_line terms w number (said.Grant at behaviour) event means =
    subst (HasRows terms w number (said.Grant at behaviour)) (sym means)
    (has_row [] [] [] _ _ _ (record {
      pairs = λ script rest. refl;
      crash = λ side. refl;
      entries = entries_same terms w number _ _;
      sent = λ side seq now next. refl;
    }) finished)
rows_line terms w number (said.Send at s text) event means =
    subst (HasRows terms w number (said.Send at s text)) (sym means)
    (has_row [] [] [] _ _ _ (record {
      pairs = λ script rest. refl;
      crash = λ side. refl;
      entries = entries_same terms w number _ _;
      sent = λ side seq now next. ap (sent_by side seq (said.Send at s text)) (counts_same _ now next);
    }) finished)
rows_line terms w number (said.Tick at now) event means =
    subst (HasRows terms w number (said.Tick at now)) (sym means)
    (has_row [] [] [] _ _ _ (record {
      pairs = λ script rest. refl;
      crash = λ side. refl;
      entries = entries_same terms w number _ _;
      sent = λ side seq now next. refl;
    }) finished)
rows_line terms w number (said.Deliver packet) event means =
    subst (HasRows terms w number (said.Deliver packet)) (sym means)
    (has_row [] [] [] _ _ _ (record {
      pairs = λ script rest. refl;
      crash = λ side. refl;
      entries = entries_same terms w number _ _;
      sent = λ side seq now next. refl;
    }) finished)
rows_line terms w number (said.Close at seq) event means =
    subst (HasRows terms w number (said.Close at seq)) (sym means)
    (has_row [] [] [] _ _ _ (record {
      pairs = λ script rest. refl;
      crash = λ side. refl;
      entries = entries_same terms w number _ _;
      sent = λ side seq now next. refl;
    }) finished)
rows_line terms w number (said.End at seq) event means =
    subst (HasRows terms w number (said.End at seq)) (sym means)
    (has_row [] [] [] _ _ _ (record {
      pairs = λ script rest. refl;
      crash = λ side. refl;
      entries = entries_same terms w number _ _;
      sent = λ side seq now next. refl;
    }) finished)
rows_line terms w number (said.Ask at seq) event means =
    subst (HasRows terms w number (said.Ask at seq)) (sym means)
    (has_row [] [] [] _ _ _ (record {
      pairs = λ script rest. refl;
      crash = λ side. refl;
      entries = entries_same terms w number _ _;
      sent = λ side seq now next. refl;
    }) finished)
rows_line terms w number (said.Nack at seq) event means =
    subst (HasRows terms w number (said.Nack at seq)) (sym means)
    (has_row [] [] [] _ _ _ (record {
      pairs = λ script rest. refl;
      crash = λ side. refl;
      entries = entries_same terms w number _ _;
      sent = λ side seq now next. refl;
    }) finished)
rows_line terms w number (said.Poll at) event means =
    subst (HasRows terms w number (said.Poll at)) (sym means)
    (has_row [] [] [] _ _ _ (record {
      pairs = λ script rest. refl;
      crash = λ side. refl;
      entries = entries_same terms w number _ _;
      sent = λ side seq now next. refl;
    }) finished)
rows_line terms w number (said.Compact at) event means =
    subst (HasRows terms w number (said.Compact at)) (sym means)
    (has_row [] [] [] _ _ _ (record {
      pairs = λ script rest. refl;
      crash = λ side. refl;
      entries = entries_same terms w number _ _;
      sent = λ side seq now next. refl;
    }) finished)
rows_line terms w number (said.Consume at seq upto) event means =
    subst (HasRows terms w number (said.Consume at seq upto)) (sym means)
    (has_row [] [] [] _ _ _ (record {
      pairs = λ script rest. refl;
      crash = λ side. refl;
      entries = entries_same terms w number _ _;
      sent = λ side seq now next. refl;
    }) finished)
rows_line terms w number (said.Arm at calls) event means =
    subst (HasRows terms w number (said.Arm at calls)) (sym means)
    (has_row [] [] [] _ _ _ (record {
      pairs = λ script rest. refl;
      crash = λ side. refl;
      entries = entries_same terms w number _ _;
      sent = λ side seq now next. refl;
    }) finished)
rows_line terms w number (said.Crash at choice) event means =
    subst (HasRows terms w number (said.Crash at choice)) (sym means.1)
    (has_row [] [] [] _ _ _ (record {
      pairs = λ script rest. refl;
      crash = λ side. refl;
      entries = entries_same terms w number _ _;
      sent = λ side seq now next. refl;
    }) finished)
rows_line terms w number (said.Noise at bytes) None means = no_noise [] [] [] at bytes _ finished
rows_line terms w number (said.Noise at bytes) (Some event) means =
    subst (λ (e : Event). HasRows terms w number (said.Noise at bytes) (Some e)) (sym means.2)
    (has_row [] [] [] _ _ _ (record {
      pairs = λ script rest. refl;
      crash = λ side. refl;
      entries = entries_same terms w number _ _;
      sent = λ side seq now next. refl;
    }) finished)

-- ---- a script

-- the lines of two scripts, one behind the other
abbrev pub LinesGoOn : Type 0
LinesGoOn =
    (terms : Terms) (first second : List Event) (w : World)
    → lines terms (first ++ second) w ≡ lines terms first w ++ lines terms second (run terms first w)

-- what was played is a run, and the report has its lines
record IsRowsOfRun (terms : Terms) (script : List Said) (s : Story) : Type 0 where
  pub events : List Event
  pub is : s.world ≡ run terms events start_world
  pub are : AreRows script s.report (lines terms events start_world)

rows_more : RunGoesOn → LinesGoOn → (terms : Terms) (script : List Said) (s : Story) (line : Said)
    (event : Option Event) → Means line event → IsRowsOfRun terms script s
    → IsRowsOfRun terms (script ++ line ∷ []) (told_on terms (length script + 1) s line event)
rows_more goes on terms script s line None means of =
    let these = lines terms of.events start_world in
    record {
      events = of.events;
      is = of.is;
      are = subst (AreRows (script ++ line ∷ []) _) (append-nil these)
          (rows_append script (line ∷ []) s.report _ these [] of.are
          (rows_line terms s.world (length script + 1) line None means));
    }
rows_more goes on terms script s line (Some event) means of =
    let these = lines terms of.events start_world in
    record {
      events = of.events ++ event ∷ [];
      is = ap (λ (v : World). happens terms v event) of.is ∙ sym (goes terms of.events (event ∷ []) start_world);
      are = subst (AreRows (script ++ line ∷ []) _)
          (ap (λ (v : World). these ++ line_of terms v event ∷ []) of.is
          ∙ sym (on terms of.events (event ∷ []) start_world))
          (rows_append script (line ∷ []) s.report _ these (line_of terms s.world event ∷ []) of.are
          (rows_line terms s.world (length script + 1) line (Some event) means));
    }

rows_of_run : RunGoesOn → LinesGoOn → (terms : Terms) (script : List Said) (s : Story) → Played terms script s
    → IsRowsOfRun terms script s
rows_of_run goes on terms _ _ none = record { events = []; is = refl; are = finished }
rows_of_run goes on terms _ _ (more script s line event played means) =
    rows_more goes on terms script s line event means (rows_of_run goes on terms script s played)

-- ---- the disks

length_push : (entries : List (List Fact)) (delta : List Fact)
    → length (entries ++ delta ∷ []) ≡ length entries + 1
length_push entries delta = length-append entries (delta ∷ [])

left_as : (st : State) (kept : Bool) (entries : List (List Fact)) (whole : List Fact)
    → IsLeftAs (records_in entries) whole (length entries) st (records_in (entries_left st kept entries))
    (whole_left st kept whole) (length (entries_left st kept entries))
left_as Up kept entries whole = (refl, refl, refl)
left_as (Writing delta) true entries whole = inr (records_push entries delta, refl, length_push entries delta)
left_as (Writing delta) false entries whole = inl (refl, refl, refl)
left_as (Compacting start) true entries whole = inr (records-alone _, refl, length-map _ _)
left_as (Compacting start) false entries whole = inl (refl, refl, refl)

-- what one more crash leaves is an image
image_of : (x : Node) (kept : Bool)
    → IsImage x (records (mounted x kept)) (mounted x kept).whole (length (mounted x kept).entries)
image_of x kept = left_as x.state kept x.entries x.whole

-- all that a source ever accepted, after one more crash, is what the report says was sent
accepts : RunGoesOn → LinesGoOn → IsSentInRuns → (terms : Terms) (script : List Said) (s : Story)
    → Played terms script s → (at : Side) (kept : Bool) (seq : ℕ)
    → history (mounted (node s.world at) kept).whole seq
    ≡ sent_in at seq (length (mounted (node s.world at) kept).entries) (paired script s.report)
accepts goes on law terms script s played at kept seq =
    let of = rows_of_run goes on terms script s played in
    let x = mounted (node s.world at) kept in
    let there : IsImage (node (run terms of.events start_world) at) (records x) x.whole (length x.entries) =
    subst (λ (w : World). IsImage (node w at) (records x) x.whole (length x.entries)) of.is
    (image_of (node s.world at) kept) in
    law terms address_one address_two of.events at seq (records x) x.whole (length x.entries) there
    ∙ sym (sent_same script s.report (lines terms of.events start_world) of.are at seq (length x.entries))

pub accepted_sent : RunGoesOn → LinesGoOn → IsSentInRuns → RunsKeep → OwnAreTerms → (terms : Terms)
    (script : List Said) (s : Story) → AreOfNet terms → Played terms script s → (scene : Scene) → Holds s.world scene
    → AcceptedIsSent s.world script s.report scene
accepted_sent goes on law keep own terms script s net played scene holds x y may_x may_y = record {
  pair = headline_whole goes keep own terms script s net played scene holds x y may_x may_y;
  one = accepts goes on law terms script s played One (holds.one x may_x).kept;
  two = accepts goes on law terms script s played Two (holds.two y may_y).kept;
}
