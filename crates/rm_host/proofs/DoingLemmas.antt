-- What a run does, and what is printed of how it ended.
use Rattle.std.proofs.Common.{◌≡◌, ◌≢◌, ◌∙◌, ◌⊎◌, ℕ, Bool, true, false, List, inl, inr, refl, sym, subst}
use Rattle.std.specs.Prelude.{Result, Ok, Err, OnErr, OnOk, Option, None, Some, if◌then◌else◌, length, nat_lt}
use Rattle.std.specs.Io.KnownBytes.{Appends}
use Rattle.rm_base.specs.Count.{Rose}
use Rattle.rm_base.specs.Outside.{AppendsFront, Stream}
use Rattle.rm_base.specs.declared.outside.SinkError.{SinkError}
use Rattle.rm_base.specs.declared.outside.SinkError.TheVariants as sink
use Rattle.node_laws.specs.declared.answers.answer.Cause.TheVariants as cause
use Rattle.rm_base.specs.declared.message.Behaviour.TheVariants.{FollowingFirstGap}
use Rattle.rm_sides.specs.Destination.Incoming.{Receiving}
use Rattle.rm_disk.specs.Told.{Told}
use Rattle.rm_node.specs.Asked.{Asked, Close as Closes, End as Finishes, Tick}
use Rattle.rm_serve.specs.Steps.{Place}
use Rattle.rm_host.specs.HostSteps.{Pushes}
use Rattle.rm_host.specs.ServeSteps.{Serves}
use Rattle.http_endpoint.specs.Link.Lines.{Net, is_over}
use Rattle.node_tables.specs.Reads.{incoming_in}
use Rattle.record_batch.specs.Fact.{Fact}
use Rattle.record_batch.specs.Sequences.Makers.{makers}
use Rattle.rm_host.specs.Compaction.{Compaction}
use Rattle.rm_host.specs.Consumption.{Consumption}
use Rattle.rm_host.specs.Doings.{Calls, Does, DoesAsked, IsObeyed, World, Writes, commanded, ended_status}
use Rattle.rm_host.specs.Doings.{unread}
use Rattle.rm_host.specs.Importation.{ImportsBytes}
use Rattle.rm_host.specs.Makings.{EndsMaking, TellsInbox}
use Rattle.rm_host.specs.SendSteps.{IsUnread, SendsRead, SendsTo, read, unread as unread-input}
use Rattle.rm_host.specs.Sequences.{inbox_answer, inbox_told}
use Rattle.rm_host.specs.Words.{Reads, behaviour_of}
use Rattle.rm_host.specs.declared.end.End.{End}
use Rattle.rm_host.specs.declared.end.End.TheVariants as end
use Rattle.rm_host.specs.declared.words.Command.{Command}
use Rattle.rm_host.specs.declared.words.Command.TheVariants.{Make, Serve, Send, Push, Close, Finish, Inbox, Compact}
use Rattle.rm_host.specs.declared.words.Command.TheVariants.{Consume, Import}
use Rattle.rm_host.proofs.SoundLemmas.{commands, pushes, sends-to, serves-left}

-- only a sink whose calls take memory wants some
wanted : (wants : Bool) → (wants ≡ false → ⊥) → wants ≡ true
wanted true not = refl
wanted false not = absurd (not refl)

pub writes : (wants : Bool) (old new : Stream) (text : List ℕ) (w : Result (Unit {0}) SinkError)
    → OnOk w (Appends old.held new.held text) → OnErr w (AppendsFront old.held new.held text)
    → (w ≡ Err sink.Failed → Rose old.faults new.faults) → (wants ≡ false → w ≢ Err sink.Memory)
    → Writes wants old new text w
writes wants old new text (Ok done) ok err failed memory = ok
writes wants old new text (Err sink.Failed) ok err failed memory = (failed refl, err)
writes wants old new text (Err sink.Memory) ok err failed memory = (wanted wants (λ no. memory no refl), err)

-- ---- a sound link

-- no connection is left
abbrev Over : World → Type 0
Over w = is_over w.link.coming ≡ true

abbrev lost-end : Result (List ℕ) End
lost-end = Err end.LinkFault

-- what an inbox answers is no fault of the link
inbox-told : (seq : ℕ) (receiving : Option Receiving) → inbox_told seq receiving ≡ lost-end → ⊥
inbox-told seq None same = absurd cc
inbox-told seq (Some receiving) same = absurd cc

inbox-answer : (records : List Fact) (seq : ℕ) → inbox_answer records seq ≡ lost-end → ⊥
inbox-answer records seq =
    by (nat_lt (length (makers records)) seq) (inbox_told seq (incoming_in records seq))
    (inbox-told seq (incoming_in records seq))
  where
    by : (b : Bool) (answer : Result (List ℕ) End) → (answer ≡ lost-end → ⊥)
        → (if b then Err (end.Refused cause.NoSequence) else answer) ≡ lost-end → ⊥
    by true answer not same = absurd cc
    by false answer not same = not same

inbox : (seq : ℕ) (records : List Fact) (result : Result (List ℕ) End)
    → (result ≡ Err end.Memory) ⊎ (result ≡ inbox_answer records seq) → result ≡ lost-end → ⊥
inbox seq records result (inl is) same = let e = sym is ∙ same in absurd cc
inbox seq records result (inr is) same = inbox-answer records seq (sym is ∙ same)

-- nor is why no payload was read
unread-end : (e : End) → IsUnread e → e ≡ end.LinkFault → ⊥
unread-end e (inl is) same = let e = sym is ∙ same in absurd cc
unread-end e (inr (inl is)) same = let e = sym is ∙ same in absurd cc
unread-end e (inr (inr is)) same = let e = sym is ∙ same in absurd cc

made : EndsMaking lost-end → ⊥
made (inl is) = absurd cc
made (inr (inl is)) = absurd cc
made (inr (inr is)) = absurd cc

of-error : (d e : End) → ◌≡◌ {A = Result (List ℕ) End} (Err d) (Err e) → d ≡ e
of-error d e same = cc

sent : (tells : Bool) (first now : Told) (old new : Net) (to : List ℕ) (shown : Option ℕ) (left : Option (List ℕ))
    (result : Result (List ℕ) End) → SendsRead tells first now old new to shown left result → old.sound ≡ true
    → result ≡ lost-end → is_over new.coming ≡ true
sent tells first now old new to shown left _ (unread-input e why same alike) sound lost =
    absurd (unread-end e why (of-error e end.LinkFault lost))
sent tells first now old new to shown left _ (read payload result whole did) sound lost =
    commands tells first now old new FollowingFirstGap (λ (x z : Place). SendsTo tells x z to payload shown old new)
    result
    (λ x z steps acts. sends-to tells x z to payload shown old new steps result acts sound) did lost

called : (tells : Bool) (old new : World) (asked : ℕ → Asked) (result : Result (List ℕ) End)
    → Calls tells old new asked result → old.link.sound ≡ true → result ≡ lost-end → Over new
called tells old new asked result did sound lost =
    commands tells old.disk new.disk old.link new.link FollowingFirstGap
    (λ (x z : Place). Pushes old.shown asked old.link new.link) result
    (λ x z steps acts over. (pushes old.shown asked old.link new.link steps result acts sound).over over) did lost

-- a command ends by a fault of a sound link only where no connection is left
did-lose : (tells : Bool) (command : Command) (old new : World) (result : Result (List ℕ) End)
    → Does tells command old new result → old.link.sound ≡ true → result ≡ lost-end → Over new
did-lose tells (Make number address) old new result did sound lost = absurd (made (subst EndsMaking lost did.ends))
did-lose tells (Serve media service) old new result did sound lost =
    commands tells old.disk new.disk old.link new.link (behaviour_of service.grant)
    (λ (x z : Place). Serves media old.shown service.port service.count old.link new.link) result
    (λ x z steps acts over. (serves-left media old.shown service.port service.count old.link new.link steps result
    acts sound).over over) did lost
did-lose tells (Send to) old new result did sound lost =
    sent tells old.disk new.disk old.link new.link to old.shown old.input.left result did sound lost
did-lose tells Push old new result did sound lost = called tells old new (λ moment. Tick moment) result did sound lost
did-lose tells (Close seq) old new result did sound lost =
    called tells old new (λ moment. Closes seq) result did sound lost
did-lose tells (Finish seq) old new result did sound lost =
    called tells old new (λ moment. Finishes seq) result did sound lost
did-lose tells (Inbox seq) old new result did sound lost =
    commands tells old.disk new.disk old.link new.link FollowingFirstGap
    (λ (x z : Place). TellsInbox seq x z old.link new.link) result
    (λ x z steps acts over. absurd (inbox seq x.node.stored.records result acts.told over)) did lost
did-lose tells Compact old new result did sound lost =
    absurd (subst (Compaction tells old.disk new.disk) lost did.0)
did-lose tells (Consume seq upto) old new result did sound lost =
    absurd (subst (Consumption tells old.disk new.disk old.out new.out seq upto) lost did.0)
did-lose tells Import old new result did sound lost =
    absurd (subst (ImportsBytes tells old.disk new.disk did.0.bytes) lost did.0.does)

-- nor do words
asked-lose : (tells : Bool) (words : List (List ℕ)) (old new : World) (result : Result (List ℕ) End)
    → DoesAsked tells words old new result → old.link.sound ≡ true → result ≡ lost-end → Over new
asked-lose tells words old new _ (commanded command result asks target did spares) sound lost =
    did-lose tells command old new result did sound lost
asked-lose tells words old new _ (unread e reads same) sound lost =
    absurd (subst (λ d. Reads words (Err d)) (of-error e end.LinkFault lost) reads)

-- the status is that of a fault of the link only where that is the end
link-status : (result : Result (List ℕ) End) (w : Result (Unit {0}) SinkError) → ended_status result w ≡ 7
    → result ≡ lost-end
link-status (Ok text) (Ok done) same = absurd cc
link-status (Ok text) (Err sink.Failed) same = absurd cc
link-status (Ok text) (Err sink.Memory) same = absurd cc
link-status (Err end.LinkFault) w same = refl
link-status (Err e) w same = absurd cc

pub lost : (tells wants : Bool) (words : List (List ℕ)) (old new : World) (status : ℕ)
    → IsObeyed tells wants words old new status → old.link.sound ≡ true → status ≡ 7 → Over new
lost tells wants words old new status did sound same =
    asked-lose tells words old (record new { out = did.printed }) did.result did.does sound
    (link-status did.result did.said.0 (sym did.said.2 ∙ same))
