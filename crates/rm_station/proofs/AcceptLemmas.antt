-- What was accepted is recorded, and stays.
use Rattle.std.proofs.Common.{◌≡◌, ◌∙◌, ℕ, ◌+◌, ◌<◌, ◌≤◌, ◌&&◌, Bool, true, false, List, [], ◌∷◌, ◌++◌, length, ap}
use Rattle.std.proofs.Common.{refl, append-nil, append_assoc, arith, sym, subst, if◌then◌else◌}
use Rattle.std.specs.Prelude.{◌==◌, MatchBool, Option, Some, None, Result, Ok, Err, flat_map, nat_le, nat_lt, not}
use Rattle.std.specs.Option.{option_to_list}
use Rattle.record_batch.specs.Sequences.Words.{last_or}
use Rattle.std.proofs.lemmas.Bool.{eq-eqb, eqb-true}
use Rattle.std.proofs.lemmas.Grind.{flat_map-append}
use Rattle.std.proofs.lemmas.List.{length-append}
use Rattle.node_laws.specs.OwnTerms.{AreOwn, ThereAreOwnTerms}
use Rattle.node_store.specs.Stored.{Stored, grown, stored_after}
use Rattle.record_batch.specs.Fact.{Fact, Accepted, Dropped}
use Rattle.record_batch.specs.Sequences.Fits.{all_fit, fits, follows_at}
use Rattle.record_batch.specs.Sequences.Makers.{Maker, Outgoing, Taken, maker}
use Rattle.record_batch.specs.Sequences.Sources.{accepted_count, accepted_of, all_unacked, dropped_of, phase}
use Rattle.record_batch.specs.Sequences.Sources.{unacked}
use Rattle.rm_disk.specs.Told.{Told}
use Rattle.rm_node.specs.Asked.{Asked, Send}
use Rattle.rm_node.specs.Called.{Called, Does, Sleeps, answer_of}
use Rattle.rm_node.specs.Ends.{Ended, Handed, WasDown, is_broken, is_handed}
use Rattle.rm_node.specs.Noded.{Noded, Runs}
use Rattle.rm_node.specs.declared.packets.Out.{Out}
use Rattle.rm_base.specs.Limits as limits
use Rattle.rm_base.specs.Message.{max_number}
use Rattle.rm_protocol.specs.Calls.{Answer, BadPayload, Cause, Done, NodeFull, NotOpen, PayloadTooLong, Rollover}
use Rattle.rm_protocol.specs.Calls.{WindowFull, adds, if_room, is_open, on_outgoing, refusal, send, send_out}
use Rattle.rm_protocol.specs.Messages.{data_at}
use Rattle.rm_protocol.specs.Terms.{Terms}
use Rattle.rm_serve.specs.Steps.{Makes, MakesAll, Place, Step, done, is_received, makes, rests}
use Rattle.rm_host.specs.HostSteps.{own_step}
use Rattle.rm_host.specs.Texts.{line_of}
use Rattle.rm_host.specs.declared.end.End.{End}
use Rattle.rm_host.specs.declared.end.End.TheVariants as end
use Rattle.node_laws.specs.declared.answers.answer.Cause.{Cause as Refuses}
use Rattle.service_turns.specs.Traffic.{Scene}
use Rattle.service_turns.specs.Turns.{Turns}
use Rattle.service_turns.specs.declared.turns.Halt.{Halt}
use Rattle.rm_station.specs.Acceptance.{Accepts, IsRecorded, records_at, says_accepted}
use Rattle.rm_station.specs.Reads.{read_answer}
use Rattle.rm_station.specs.Runs.{does_of}
use Rattle.rm_station.specs.Texts.{accepted_line, next_line, opening_line}
use Rattle.rm_station.specs.Works.{Calls, Tells, begins, called, closes, consumes, ends, is_under, lacks}
use Rattle.rm_station.specs.Works.{next_number, only, passes, polls, said_failed, said_of, sends, starves, state_of}
use Rattle.rm_station.specs.Works.{stops, unread, views, waits}
use Rattle.rm_station.specs.declared.ask.Ask.{Ask}
use Rattle.rm_station.specs.declared.ask.Ask.TheVariants.{Offers}
use Rattle.rm_station.specs.declared.ask.Next.{Next}
use Rattle.rm_station.specs.declared.said.Said.{Said}
use Rattle.rm_station.specs.declared.station.Station.{Station}
use Rattle.rm_station.proofs.RunLemmas.{run-leads}

-- a node has terms of its own
pub some-terms : ThereAreOwnTerms → (terms : Terms) × AreOwn terms
some-terms there =
    let own = there (λ ms m. true) (λ m. Ok m) in (own.0, own.3)

-- ---- one call

append-nothing : (a : List Fact) → a ≡ a ++ []
append-nothing a = sym (append-nil a)

-- records with more behind them
abbrev Grows : List Fact → List Fact → Type 0
Grows r z = (more : List Fact) × (z ≡ r ++ more)

grown-records : (old : Stored) (delta : List Fact) → (grown old delta).records ≡ old.records ++ delta
grown-records old [] = append-nothing old.records
grown-records old (f ∷ delta) = refl

after-grows : (old : Stored) (delta : List Fact) (ok failed : Bool)
    → Grows old.records (stored_after old delta ok failed).records
after-grows old delta true failed = (delta, grown-records old delta)
after-grows old delta false true = ([], append-nothing _)
after-grows old delta false false = ([], append-nothing _)

does-grows : (down tells connected : Bool) (first now : Told) (old new : Noded) (a : Answer) (ended : Ended)
    → MatchBool down (Sleeps first now old new ended) (Called tells connected first now old new a ended)
    → Grows old.stored.records new.stored.records
does-grows true tells connected first now old new a ended does =
    subst (λ (n : Noded). Grows old.stored.records n.stored.records) (sym does.node) ([], append-nothing _)
does-grows false tells connected first now old new a ended does =
    subst (λ (s : Stored). Grows old.stored.records s.records) (sym does.wrote.stored)
    (after-grows old.stored a.delta (is_handed ended) (is_broken ended))

grows-on : (r m z : List Fact) → Grows r m → Grows m z → Grows r z
grows-on r m z first after =
    (first.0 ++ after.0, after.1 ∙ ap (λ (l : List Fact). l ++ after.0) first.1 ∙ append_assoc r first.0 after.0)

-- calls only add records
pub makes-grow : (tells : Bool) (terms : Terms) (x z : Place) (steps : List Step) → Makes tells terms x z steps
    → Grows (records_at x) (records_at z)
makes-grow tells terms _ _ _ (done x) = ([], append-nothing _)
makes-grow tells terms _ _ _ (rests x y z steps stays after) =
    subst (λ (n : Noded). Grows n.stored.records (records_at z)) stays.node (makes-grow tells terms y z steps after)
makes-grow tells terms _ _ _ (makes x y z step steps runs does after) =
    grows-on (records_at x) (records_at y) (records_at z)
    (does-grows x.node.stored.journal.is_down tells _ x.told y.told x.node y.node _ step.ended
    (does runs.keeping.0 runs.keeping.1)) (makes-grow tells terms y z steps after)

-- ---- a payload

-- an answer that is done adds these records
record Delta (delta : List Fact) (a : Answer) : Type 0 where
  adds : a.outcome ≡ Done → a.delta ≡ delta

either-way : (P : Answer → Type 0) (b : Bool) (a c : Answer) → P a → P c → P (if b then a else c)
either-way P true a c first later = first
either-way P false a c first later = later

refused : (delta : List Fact) (cause : Cause) → Delta delta (refusal cause)
refused delta cause = record { adds = λ is. absurd cc }

in-room : (terms : Terms) (end : ℕ) (a : Answer) (delta : List Fact) → Delta delta a
    → Delta delta (if_room terms end a)
in-room terms end a delta so = either-way (Delta delta) _ a _ so (refused delta _)

-- behind one test more
tested : (delta : List Fact) (b : Bool) (cause : Cause) (a : Answer) → Delta delta a
    → Delta delta (if b then refusal cause else a)
tested delta b cause a so = either-way (Delta delta) b (refusal cause) a (refused delta cause) so

out-delta : (terms : Terms) (r : List Fact) (end s : ℕ) (payload : List ℕ)
    → Delta (Accepted s payload ∷ []) (send_out terms r end s payload)
out-delta terms r end s payload =
    let d = Accepted s payload ∷ [] in
    let said = adds r d (λ after. option_to_list (data_at after s (accepted_count r s + 1))) in
    let a = if_room terms end said in
    let a1 = if nat_le max_number (accepted_count r s) then refusal Rollover else a in
    let a2 = if nat_le limits.most_unacked (all_unacked r) then refusal (NodeFull (all_unacked r)) else a1 in
    let a3 = if nat_le limits.window (unacked r s) then refusal (WindowFull (unacked r s)) else a2 in
    let a4 = if not (is_open (phase r s)) then refusal NotOpen else a3 in
    let a5 = if not (terms.is_content payload) then refusal BadPayload else a4 in
    let so = in-room terms end said d (record { adds = λ is. refl }) in
    let so1 = tested d (nat_le max_number (accepted_count r s)) Rollover a so in
    let so2 = tested d (nat_le limits.most_unacked (all_unacked r)) (NodeFull (all_unacked r)) a1 so1 in
    let so3 = tested d (nat_le limits.window (unacked r s)) (WindowFull (unacked r s)) a2 so2 in
    let so4 = tested d (not (is_open (phase r s))) NotOpen a3 so3 in
    let so5 = tested d (not (terms.is_content payload)) BadPayload a4 so4 in
    tested d (nat_lt limits.payload_bytes (length payload)) (PayloadTooLong (length payload)) a5 so5

by-maker : (delta : List Fact) (m : Option Maker) (a : Answer) → Delta delta a → Delta delta (on_outgoing m a)
by-maker delta None a so = refused delta _
by-maker delta (Some (Outgoing ticket to via lapse)) a so = so
by-maker delta (Some (Taken message_id ident endpoint)) a so = so
by-maker delta (Some m) a so = refused delta _

sent-delta : (terms : Terms) (r : List Fact) (end s : ℕ) (payload : List ℕ)
    → Delta (Accepted s payload ∷ []) (send terms r end s payload)
sent-delta terms r end s payload =
    by-maker _ (maker r s) (send_out terms r end s payload) (out-delta terms r end s payload)

-- a node that was down hands nothing out
handed-up : (outs : List Out) → ◌≡◌ {A = Ended} (Handed Done None outs) WasDown → ⊥
handed-up outs is = absurd cc

-- a call that went well adds the records of its answer
does-delta : (down tells connected : Bool) (first now : Told) (old new : Noded) (a : Answer) (outs : List Out)
    (delta : List Fact)
    → MatchBool down (Sleeps first now old new (Handed Done None outs))
    (Called tells connected first now old new a (Handed Done None outs))
    → Delta delta a → new.stored.records ≡ old.stored.records ++ delta
does-delta true tells connected first now old new a outs delta does so = absurd (handed-up outs does.ends)
does-delta false tells connected first now old new a outs delta does so =
    ap (λ (s : Stored). s.records) does.wrote.stored ∙ grown-records old.stored a.delta
    ∙ ap (λ (d : List Fact). old.stored.records ++ d) (so.adds (sym does.ends.0))

-- one call: where it leads, and what is known of the node before it
record One (x z : Place) (seq : ℕ) (payload : List ℕ) : Type 0 where
  runs : Runs x.node
  records : records_at z ≡ records_at x ++ Accepted seq payload ∷ []

no-more : (tells : Bool) (terms : Terms) (x z : Place) (steps : List Step) → Makes tells terms x z steps → steps ≡ []
    → z.node ≡ x.node
no-more tells terms _ _ _ (done x) is = refl
no-more tells terms _ _ _ (rests x y z steps stays after) is = no-more tells terms y z steps after is ∙ stays.node
no-more tells terms _ _ _ (makes x y z step steps runs does after) is = absurd cc

one : (tells : Bool) (terms : Terms) (x z : Place) (steps : List Step) (moment seq : ℕ) (payload : List ℕ)
    (outs : List Out) → Makes tells terms x z steps → steps ≡ own_step moment (Send seq payload) (Ok outs) ∷ []
    → One x z seq payload
one tells terms _ _ _ moment seq payload outs (done x) is = absurd cc
one tells terms _ _ _ moment seq payload outs (rests x y z steps stays after) is =
    let same = one tells terms y z steps moment seq payload outs after is in
    record {
      runs = subst (λ (n : Noded). Runs n) stays.node same.runs;
      records = subst (λ (n : Noded). records_at z ≡ n.stored.records ++ Accepted seq payload ∷ []) stays.node
          same.records;
    }
one tells terms _ _ _ moment seq payload outs (makes x y z step steps runs does after) is =
    let kept = runs.keeping in
    let this : step ≡ own_step moment (Send seq payload) (Ok outs) = cc in
    let none : steps ≡ [] = cc in
    let did : Does tells false x.told y.told x.node y.node (answer_of terms x.node 0 kept.0 (Send seq payload))
    (Handed Done None outs) = subst (λ (s : Step). Does tells (is_received s.asked) x.told y.told x.node y.node
    (answer_of terms x.node s.moment kept.0 s.asked) s.ended) this (does kept.0 kept.1) in
    record {
      runs = runs;
      records = ap (λ (n : Noded). n.stored.records) (no-more tells terms y z steps after none)
          ∙ does-delta x.node.stored.journal.is_down tells false x.told y.told x.node y.node _ outs _ did
          (sent-delta terms (records_at x) _ seq payload);
    }

-- ---- how many were accepted

both-last : (b c : Bool) → (b && c) ≡ true → c ≡ true
both-last true c is = is
both-last false c is = absurd cc

both-first : (b c : Bool) → (b && c) ≡ true → b ≡ true
both-first true c is = refl
both-first false c is = absurd cc

-- records that may follow each other, in two parts
fit-behind : (a r d : List Fact) → all_fit a (r ++ d) ≡ true → all_fit (a ++ r) d ≡ true
fit-behind a [] d fit = subst (λ (l : List Fact). all_fit l d ≡ true) (append-nothing a) fit
fit-behind a (f ∷ r) d fit =
    let h : all_fit ((a ++ f ∷ []) ++ r) d ≡ true = fit-behind (a ++ f ∷ []) r d (both-last (fits a f) _ fit) in
    subst (λ (l : List Fact). all_fit l d ≡ true) (append_assoc a (f ∷ []) r) h

-- one record more: none is gone by it
stays-counted : (r : List Fact) (f : Fact) (s : ℕ) → dropped_of s f ≡ []
    → accepted_count (r ++ f ∷ []) s ≡ accepted_count r s + length (accepted_of s f)
stays-counted r f s none =
    let gone : flat_map (dropped_of s) (r ++ f ∷ []) ≡ flat_map (dropped_of s) r =
    flat_map-append (dropped_of s) r (f ∷ [])
    ∙ ap (λ (l : List ℕ). flat_map (dropped_of s) r ++ (l ++ [])) none ∙ append-nil (flat_map (dropped_of s) r) in
    let more : flat_map (accepted_of s) (r ++ f ∷ []) ≡ flat_map (accepted_of s) r ++ accepted_of s f =
    flat_map-append (accepted_of s) r (f ∷ [])
    ∙ ap (λ l. flat_map (accepted_of s) r ++ l) (append-nil (accepted_of s f)) in
    let dropped_same = ap (λ (l : List ℕ). last_or 0 l) gone in
    let longer : length (flat_map (accepted_of s) (r ++ f ∷ []))
    ≡ length (flat_map (accepted_of s) r) + length (accepted_of s f) =
    ap length more ∙ length-append (flat_map (accepted_of s) r) (accepted_of s f) in
    omega (arith, dropped_same, longer)

-- where some are gone by it, none was accepted before
dropped-first : (r : List Fact) (seq upto s : ℕ) → fits r (Dropped seq upto) ≡ true
    → accepted_count r s ≤ accepted_count (r ++ Dropped seq upto ∷ []) s
dropped-first r seq upto s fit =
    elim (seq == s) as (λ b. seq == s ≡ b → accepted_count r s ≤ accepted_count (r ++ Dropped seq upto ∷ []) s) [
      | true ↦ λ is.
          let zero : accepted_count r seq ≡ 0 = eqb-true (accepted_count r seq) 0
          (both-first (accepted_count r seq == 0) _ (both-last (follows_at r seq (Dropped seq upto)) _ fit)) in
          let none : accepted_count r s ≡ 0 = subst (λ (k : ℕ). accepted_count r k ≡ 0) (eqb-true seq s is) zero in
          omega (arith, none)
      | false ↦ λ is.
          let same = stays-counted r (Dropped seq upto) s
          (ap (λ (b : Bool). if b then upto ∷ [] else []) is) in
          omega (arith, same)
    ] refl

one-counted : (r : List Fact) (f : Fact) (s : ℕ) → fits r f ≡ true
    → accepted_count r s ≤ accepted_count (r ++ f ∷ []) s
one-counted r (Dropped seq upto) s fit = dropped-first r seq upto s fit
one-counted r f s fit = let same = stays-counted r f s refl in omega (arith, same)

-- records that may follow only add to what was accepted
counted : (r d : List Fact) (s : ℕ) → all_fit r d ≡ true → accepted_count r s ≤ accepted_count (r ++ d) s
counted r [] s fit = subst (λ (l : List Fact). accepted_count r s ≤ accepted_count l s) (append-nothing r) (omega arith)
counted r (f ∷ d) s fit =
    let h : accepted_count (r ++ f ∷ []) s ≤ accepted_count ((r ++ f ∷ []) ++ d) s =
    counted (r ++ f ∷ []) d s (both-last (fits r f) _ fit) in
    let now : accepted_count (r ++ f ∷ []) s ≤ accepted_count (r ++ f ∷ d) s =
    subst (λ (l : List Fact). accepted_count (r ++ f ∷ []) s ≤ accepted_count l s) (append_assoc r (f ∷ []) d) h in
    omega (arith, one-counted r f s (both-first (fits r f) _ fit), now)

-- ---- what was told

-- the call for a payload whose line says that it was accepted
record Sent (r : List Fact) (next : Option Next) (payload : List ℕ) (asked : Asked) (line : List ℕ) : Type 0 where
  seq : ℕ
  asked_ : asked ≡ Send seq payload
  line_ : line ≡ accepted_line seq (next_number r seq)
  under : is_under seq (next_number r seq) next ≡ true

by-call : (r : List Fact) (ask : Ask) (asked : Asked) (line to payload : List ℕ) (next : Option Next)
    → Calls r ask asked line → ask ≡ Offers to next payload → says_accepted line ≡ true
    → Sent r next payload asked line
by-call r _ _ _ to payload next (sends on more given seq first opened under) is word =
    let same : more ≡ payload = cc in
    let said : given ≡ next = cc in
    record {
      seq = seq;
      asked_ = ap (λ (p : List ℕ). Send seq p) same;
      line_ = refl;
      under = subst (λ (n : Option Next). is_under seq (next_number r seq) n ≡ true) said under;
    }
by-call r _ _ _ to payload next (begins on more given first) is word = absurd cc
by-call r _ _ _ to payload next (consumes seq upto) is word = absurd cc
by-call r _ _ _ to payload next (closes seq) is word = absurd cc
by-call r _ _ _ to payload next (ends seq) is word = absurd cc
by-call r _ _ _ to payload next (polls on) is word = absurd cc

-- what is told of a payload that was accepted
record ToldSo (moment : ℕ) (r : List Fact) (next : Option Next) (payload : List ℕ) (steps : List Step) (said : Said)
    : Type 0 where
  outs : List Out
  seq : ℕ
  steps_ : steps ≡ own_step moment (Send seq payload) (Ok outs) ∷ []
  line_ : said.text ≡ accepted_line seq (next_number r seq)
  under : is_under seq (next_number r seq) next ≡ true

-- the text of what is said
abbrev text_in : Result Said End → List ℕ
text_in (Ok said) = said.text
text_in (Err e) = []

-- a text that begins with another word
not-so : (words said : Said) → ◌≡◌ {A = Result Said End} (Ok words) (Ok said) → says_accepted words.text ≡ false
    → says_accepted said.text ≡ true → ⊥
not-so words said same other word =
    let is : says_accepted words.text ≡ true = subst (λ (x : Result Said End). says_accepted (text_in x) ≡ true)
    (sym same) word in absurd cc

no-line : (cause : Refuses) (said : Said) → ◌≡◌ {A = Result Said End} (said_failed (end.Refused cause)) (Ok said)
    → says_accepted said.text ≡ true → ⊥
no-line cause said same word = not-so (only (line_of (end.Refused cause))) said same refl word

-- for a payload nothing is read
abbrev read_in : (moment : ℕ) → Stored → Result Ask End → Option (Result (List ℕ) End)
read_in moment s (Ok ask) = read_answer moment s ask
read_in moment s (Err e) = None

not-read : (moment : ℕ) (s : Stored) (to payload : List ℕ) (next : Option Next) (answer : Result (List ℕ) End)
    → read_in moment s (Ok (Offers to next payload)) ≡ Some answer → ⊥
not-read moment s to payload next answer is = absurd cc

by-result : (moment : ℕ) (r : List Fact) (ask : Ask) (asked : Asked) (line to payload : List ℕ) (next : Option Next)
    (result : Result (List Out) End) (said : Said) → Calls r ask asked line → ask ≡ Offers to next payload
    → said_of line result ≡ Ok said → says_accepted said.text ≡ true
    → ToldSo moment r next payload (own_step moment asked result ∷ []) said
by-result moment r ask asked line to payload next (Ok outs) said calls is told word =
    let same : said.text ≡ line = ap (λ (x : Result Said End). text_in x) (sym told) in
    let sent = by-call r ask asked line to payload next calls is
    (subst (λ (t : List ℕ). says_accepted t ≡ true) same word) in
    record {
      outs = outs;
      seq = sent.seq;
      steps_ = ap (λ (a : Asked). own_step moment a (Ok outs) ∷ []) sent.asked_;
      line_ = same ∙ sent.line_;
      under = sent.under;
    }
by-result moment r ask asked line to payload next (Err (end.Refused cause)) said calls is told word =
    absurd (no-line cause said told word)
by-result moment r ask asked line to payload next (Err e) said calls is told word = absurd cc

-- of a request for a payload
by-told : (moment : ℕ) (s : Stored) (ask : Result Ask End) (steps : List Step) (result : Result Said End)
    (to payload : List ℕ) (next : Option Next) (said : Said) → Tells moment s ask steps result
    → ask ≡ Ok (Offers to next payload) → result ≡ Ok said → says_accepted said.text ≡ true
    → ToldSo moment s.records next payload steps said
by-told moment s _ _ _ to payload next said stops is told word = absurd cc
by-told moment s _ _ _ to payload next said (unread e known) is told word = absurd cc
by-told moment s _ _ _ to payload next said (views ask answer read) is told word =
    absurd (not-read moment s to payload next answer
    (subst (λ (a : Result Ask End). read_in moment s a ≡ Some answer) is read))
by-told moment s _ _ _ to payload next said (called ask asked line result calls of_call) is told word =
    by-result moment s.records ask asked line to payload next result said calls (cc) told word
by-told moment s _ _ _ to payload next said (waits on more given seq first shut) is told word =
    absurd (not-so (only (opening_line seq)) said told refl word)
by-told moment s _ _ _ to payload next said (passes on more given seq first opened other) is told word =
    absurd (not-so (only (next_line seq (next_number s.records seq))) said told refl word)
by-told moment s _ _ _ to payload next said (starves ask) is told word = absurd cc
by-told moment s _ _ _ to payload next said (lacks ask steps was tells) is told word = absurd cc

-- ---- the laws

told-so : (tells : Bool) (x z : Place) (next : Option Next) (payload text : List ℕ)
    (a : Accepts tells x z next payload text) → ToldSo a.moment (records_at x) next payload a.steps a.said
told-so tells x z next payload text a =
    by-told a.moment x.node.stored _ a.steps _ a.to payload next a.said a.tells_ refl refl
    (subst (λ (t : List ℕ). says_accepted t ≡ true) (sym a.text_) a.word)

pub is-recorded : ThereAreOwnTerms → (tells : Bool) (x z : Place) (next : Option Next) (payload text : List ℕ)
    → Accepts tells x z next payload text → (seq : ℕ) × IsRecorded x z next payload text seq
is-recorded there tells x z next payload text a =
    let own = some-terms there in
    let told = told-so tells x z next payload text a in
    let call = one tells own.0 x z a.steps a.moment told.seq payload told.outs (a.makes own.0 own.1) told.steps_ in (
      told.seq,
      record { text_ = sym a.text_ ∙ told.line_; under = told.under; records = call.records },
    )

-- the records of a node that accepts a payload are those of a node
accepts-runs : ThereAreOwnTerms → (tells : Bool) (x z : Place) (next : Option Next) (payload text : List ℕ)
    → Accepts tells x z next payload text → Runs x.node
accepts-runs there tells x z next payload text a =
    let own = some-terms there in
    let told = told-so tells x z next payload text a in
    (one tells own.0 x z a.steps a.moment told.seq payload told.outs (a.makes own.0 own.1) told.steps_).runs

-- the number that comes next rose
number-rose : (r z u more : List Fact) (seq : ℕ) (payload : List ℕ) → all_fit [] u ≡ true
    → z ≡ r ++ Accepted seq payload ∷ [] → u ≡ z ++ more → next_number r seq < next_number u seq
number-rose r z u more seq payload fit is grown =
    let fit_more : all_fit z more ≡ true = fit-behind [] z more (subst (λ (l : List Fact). all_fit [] l ≡ true) grown
    fit) in
    let most : accepted_count z seq ≤ accepted_count u seq =
    subst (λ (l : List Fact). accepted_count z seq ≤ accepted_count l seq) (sym grown) (counted z more seq fit_more) in
    let here : accepted_of seq (Accepted seq payload) ≡ payload ∷ [] =
    ap (λ (b : Bool). if b then payload ∷ [] else []) (eq-eqb seq seq refl) in
    let one_more : accepted_count z seq ≡ accepted_count r seq + 1 =
    ap (λ (l : List Fact). accepted_count l seq) is ∙ stays-counted r (Accepted seq payload) seq refl
    ∙ ap (λ (l : List (List ℕ)). accepted_count r seq + length l) here in
    omega (arith, most, one_more)

pub stays-recorded : {D C : Type 0} → ThereAreOwnTerms → (tells : Bool) (told : D → Told) (clock : C → Option ℕ)
    (n : ℕ) (s t : Station D C) (old new : Scene) (result : Result (Unit {0}) (Halt End))
    → Turns (does_of tells told clock) (λ (x : Station D C). x.is_stopped) n s t old new result
    → (more : List Fact)
    × (records_at (state_of told clock t).place ≡ records_at (state_of told clock s).place ++ more)
stays-recorded there tells told clock n s t old new result turns =
    let own = some-terms there in
    let leads = run-leads tells told clock n s t old new result turns in
    makes-grow tells own.0 _ _ leads.0 (leads.1 own.0 own.1)

pub accepted-once : {D C : Type 0} → ThereAreOwnTerms → (tells : Bool) (told : D → Told) (clock : C → Option ℕ)
    (n : ℕ) (s t : Station D C) (old new : Scene) (result : Result (Unit {0}) (Halt End)) (x z : Place) (seq : ℕ)
    (first later : Option Next) (payload other text words : List ℕ)
    → Turns (does_of tells told clock) (λ (a : Station D C). a.is_stopped) n s t old new result
    → Accepts tells (state_of told clock t).place z later other words
    → IsRecorded x (state_of told clock s).place first payload text seq
    → next_number (records_at x) seq < next_number (records_at (state_of told clock t).place) seq
accepted-once there tells told clock n s t old new result x z seq first later payload other text words turns a was =
    let more = stays-recorded there tells told clock n s t old new result turns in
    let runs = accepts-runs there tells _ z later other words a in
    number-rose (records_at x) _ _ more.0 seq payload runs.records.node.fit was.records more.1

-- a payload that was accepted under numbers has these
under-number : (seq number : ℕ) (next : Next) → is_under seq number (Some next) ≡ true
    → (next.seq ≡ seq) × (next.number ≡ number)
under-number seq number next is =
    (eqb-true _ _ (both-first _ _ is), eqb-true _ _ (both-last (next.seq == seq) _ is))

pub asked-again : {D C : Type 0} → ThereAreOwnTerms → (tells : Bool) (told : D → Told) (clock : C → Option ℕ)
    (n : ℕ) (s t : Station D C) (old new : Scene) (result : Result (Unit {0}) (Halt End)) (x z : Place) (next : Next)
    (payload other text words : List ℕ)
    → Accepts tells x (state_of told clock s).place (Some next) payload text
    → Turns (does_of tells told clock) (λ (a : Station D C). a.is_stopped) n s t old new result
    → Accepts tells (state_of told clock t).place z (Some next) other words → ⊥
asked-again there tells told clock n s t old new result x z next payload other text words a turns b =
    let first = is-recorded there tells x _ (Some next) payload text a in
    let later = is-recorded there tells _ z (Some next) other words b in
    let this = under-number first.0 _ next first.1.under in
    let that = under-number later.0 _ next later.1.under in
    let same : later.0 ≡ first.0 = sym that.0 ∙ this.0 in
    let rose = accepted-once there tells told clock n s t old new result x z first.0 (Some next) (Some next) payload
    other text words turns b first.1 in
    let number : next.number ≡ next_number (records_at (state_of told clock t).place) first.0 =
    subst (λ (k : ℕ). next.number ≡ next_number (records_at (state_of told clock t).place) k) same that.1 in
    omega (arith, rose, number, this.1)
