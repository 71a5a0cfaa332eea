-- A sound link fails a command only where no connection is left.
use Rattle.std.proofs.Common.{◌≡◌, ◌∙◌, ℕ, zero, suc, ◌<◌, ◌==◌, if◌then◌else◌, Bool, true, false, List, []}
use Rattle.std.proofs.Common.{◌∷◌}
use Rattle.std.proofs.Common.{◌++◌, Option, None, Some, refl, sym, ap, subst, arith, inl, inr}
use Rattle.std.specs.Prelude.{Result, Ok, Err, IfOk, is_none}
use Rattle.http_endpoint.specs.Targets.{target_of}
use Rattle.http_endpoint.specs.declared.media.Media.{Media}
use Rattle.http_endpoint.specs.declared.media.Media.TheVariants.{Soap12}
use Rattle.http_endpoint.specs.declared.target.Target.{Target}
use Rattle.node_store.specs.declared.error.MountError.{MountError}
use Rattle.node_store.specs.declared.error.MountError.TheVariants as mount
use Rattle.record_batch.specs.Fact.{Fact}
use Rattle.rm_base.specs.Outside.{Stream}
use Rattle.rm_base.specs.declared.message.Behaviour.{Behaviour}
use Rattle.rm_disk.specs.Told.{Told}
use Rattle.http_endpoint.specs.Link.Lines.{Brings, Connects, Line, Listens, Net, is_over, line_of}
use Rattle.http_endpoint.specs.Link.Posts.{IsBegunAs, IsPostAs}
use Rattle.http_endpoint.specs.declared.link.packet.Fate.{Fate}
use Rattle.http_endpoint.specs.declared.link.packet.Fate.TheVariants.{Answered, Missed, Undialled}
use Rattle.rm_node.specs.Asked.{Asked}
use Rattle.rm_node.specs.declared.error.NodeError.{NodeError}
use Rattle.rm_node.specs.declared.error.NodeError.TheVariants as error
use Rattle.rm_node.specs.declared.packets.Out.{Out}
use Rattle.rm_serve.specs.Limits.{most_posts}
use Rattle.rm_serve.specs.Posts.{Begins, IsPostOf, PostingAs, Sends, begun, broken, down, empty, none_posted}
use Rattle.rm_serve.specs.Posts.{over as all}
use Rattle.rm_serve.specs.Posts.{quiet, taken, unheard, wanting, with_post}
use Rattle.rm_serve.specs.Steps.{Place, Step}
use Rattle.rm_serve.specs.declared.posting.Posted.{Posted}
use Rattle.rm_serve.specs.declared.serving.ConnEnd.{ConnEnd}
use Rattle.rm_serve.specs.declared.serving.Served.{Served}
use Rattle.rm_host.specs.Ends.{is_of_call, mount_end, node_end}
use Rattle.rm_host.specs.HostSteps.{CallsOnce, Commands, IsTold, Posts, Pushes, acted, all_dialled, as_end, fails}
use Rattle.rm_host.specs.HostSteps.{posts}
use Rattle.rm_host.specs.HostSteps.{unfound}
use Rattle.rm_host.specs.SendSteps.{Reached, SendsAfter, SendsOn, SendsTo, at_once, late, line_at}
use Rattle.rm_host.specs.SendSteps.{lost as not-open}
use Rattle.rm_host.specs.SendSteps.{reached_by, sends, sends_not}
use Rattle.rm_host.specs.ServeSteps.{Follows, Serves, ServesOne, Ticks, Turn, Turns, connected, counted, deaf}
use Rattle.rm_host.specs.ServeSteps.{ends_with}
use Rattle.rm_host.specs.ServeSteps.{hears, no_tally, over as served-all, row_fails, row_goes, row_wants, serves}
use Rattle.rm_host.specs.ServeSteps.{tick_fails, turns, unconnected}
use Rattle.rm_host.specs.Texts.{posted_line, served_line}
use Rattle.rm_host.specs.declared.end.End.{End}
use Rattle.rm_host.specs.declared.end.End.TheVariants as end
use Rattle.rm_host.specs.declared.serve.Tally.{Tally}
use Rattle.rm_host.proofs.StepLemmas.{some-undialled}

-- no connection is left
abbrev Over : Net → Type 0
Over net = is_over net.coming ≡ true

-- a sound link stays one, and where no connection was left none is left
pub record Lasts (old new : Net) : Type 0 where
  pub sound : new.sound ≡ true
  pub over : Over old → Over new

pub stays : (old new : Net) → new ≡ old → old.sound ≡ true → Lasts old new
stays old new same sound = record {
  sound = subst (λ (n : Net). n.sound ≡ true) (sym same) sound;
  over = λ over. subst Over (sym same) over;
}

onward : (x y z : Net) → Lasts x y → Lasts y z → Lasts x z
onward x y z first after = record { sound = after.sound; over = λ over. after.over (first.over over) }

-- a call that brings none leaves none, and one that could bring none brings none
over-after : (old new : Option (List Line)) (line : Option Line) → Brings old new line → is_none line ≡ is_over old
    → is_over old ≡ true → is_over new ≡ true
over-after (Some []) new None brings same over = subst (λ n. is_over n ≡ true) (sym brings) refl
over-after (Some []) new (Some line) brings same over = absurd cc
over-after (Some (first ∷ rest)) new line brings same over = absurd cc
over-after None new line brings same over = absurd cc

pub connects : (old new : Net) (line : Option Line) → Connects old new line → old.sound ≡ true → Lasts old new
connects old new line did sound =
    let is = did.sound sound in
    record { sound = is.0; over = λ over. over-after old.coming new.coming line did.brings is.1 over }

-- none was brought, since none is left
pub in-vain : (old new : Net) → Connects old new None → old.sound ≡ true → Over new
in-vain old new did sound =
    let is = did.sound sound in over-after old.coming new.coming None did.brings is.1 (sym is.1)

pub listens : (old new : Net) (port : ℕ) (failed : Bool) → Listens old new port failed → old.sound ≡ true
    → Lasts old new
listens old new port failed did sound =
    record { sound = (did.sound sound).0; over = λ over. subst (λ c. is_over c ≡ true) (sym did.keeps) over }

-- ---- packets

-- what a packet leaves of a sound link
posts-as : (media : Media) (old new : Net) (target : Option Target) (bytes : List ℕ) (fate : Fate)
    → IsPostAs media old new target bytes fate → old.sound ≡ true → Lasts old new × (fate ≡ Undialled → Over new)
posts-as media old new None bytes fate did sound =
    (stays old new did.1 sound, λ lost. let e : Missed ≡ Undialled = sym did.0 ∙ lost in absurd cc)
posts-as media old new (Some target) bytes (Answered body) did sound =
    (connects old new _ did.calls.connects sound, λ lost. absurd cc)
posts-as media old new (Some target) bytes Missed did sound =
    (connects old new _ did.calls.connects sound, λ lost. absurd cc)
posts-as media old new (Some target) bytes Undialled did sound =
    (connects old new None did.connects sound, λ lost. in-vain old new did.connects sound)

posts-of : (media : Media) (old new : Net) (target : Option Target) (told : Option (List ℕ)) (fate : Fate)
    → IsPostOf media old new target told fate → old.sound ≡ true → Lasts old new × (fate ≡ Undialled → Over new)
posts-of media old new target None fate did sound =
    (stays old new did.1 sound, λ lost. let e : Missed ≡ Undialled = sym did.0 ∙ lost in absurd cc)
posts-of media old new target (Some text) fate did sound = posts-as media old new target text fate did sound

-- after one packet more
counts : (old mid : Net) (fate : Fate) (posted : Posted) → Lasts old mid → (fate ≡ Undialled → Over mid)
    → (0 < posted.undialled → Over old) → 0 < (with_post fate posted).undialled → Over mid
counts old mid (Answered body) posted lasts lost before some = lasts.over (before some)
counts old mid Missed posted lasts lost before some = lasts.over (before some)
counts old mid Undialled posted lasts lost before some = lost refl

sends-one : (media : Media) (old mid : Net) (out : Out) (fate : Fate) → Sends media old mid out fate → old.sound ≡ true
    → Lasts old mid × (fate ≡ Undialled → Over mid)
sends-one media old mid out fate did sound =
    posts-of media old mid (target_of out.address) did.told fate did.posted sound

begun-as : (media : Media) (old new : Net) (target : Option Target) (bytes : List ℕ)
    → IsBegunAs media old new target bytes → old.sound ≡ true → Lasts old new
begun-as media old new None bytes did sound = stays old new did sound
begun-as media old new (Some target) bytes (inl same) sound = stays old new same sound
begun-as media old new (Some target) bytes (inr did) sound = connects old new _ did.calls.connects sound

begins : (media : Media) (old new : Net) (out : Out) → Begins media old new out → old.sound ≡ true → Lasts old new
begins media old new out (inl same) sound = stays old new same sound
begins media old new out (inr did) sound = begun-as media old new (target_of out.address) did.0 did.2 sound

abbrev Row : Net → Net → Result Posted NodeError → Type 0
Row old new result = Lasts old new × IfOk result (λ posted. 0 < posted.undialled → Over new)

-- a row of packets, after some that were posted
row : (media : Media) (moment n : ℕ) (queue : List Out) (posted : Posted) (old new : Net) (steps : List Step)
    (result : Result Posted NodeError) → PostingAs media moment n queue posted old new steps result
    → old.sound ≡ true → (0 < posted.undialled → Over old) → Row old new result
row media moment _ _ _ _ _ _ _ (all queue posted net) sound before = (stays net net refl sound, before)
row media moment _ _ _ _ _ _ _ (empty n posted net) sound before = (stays net net refl sound, before)
row media moment _ _ _ _ _ _ _ (wanting n queue posted net) sound before = (stays net net refl sound, tt)
row media moment _ _ _ _ _ _ _ (begun n out queue posted old new did) sound before =
    (begins media old new out did sound, tt)
row media moment _ _ _ _ _ _ _ (quiet n out queue posted old mid new fate steps result did heard after) sound before =
    let s = sends-one media old mid out fate did sound in
    let r = row media moment n queue (with_post fate posted) mid new steps result after s.0.sound
    (counts old mid fate posted s.0 s.1 before) in
    (onward old mid new s.0 r.0, r.1)
row media moment _ _ _ _ _ _ _
    (taken n out queue posted old mid new fate body steps result content verdict reply outs did heard read after) sound
    before =
    let s = sends-one media old mid out fate did sound in
    let r = row media moment n (queue ++ outs) (with_post fate posted) mid new steps result after s.0.sound
    (counts old mid fate posted s.0 s.1 before) in
    (onward old mid new s.0 r.0, r.1)
row media moment _ _ _ _ _ _ _ (broken n out queue posted old new fate body content did heard read) sound before =
    ((sends-one media old new out fate did sound).0, tt)
row media moment _ _ _ _ _ _ _ (unheard n out queue posted old new fate body did heard) sound before =
    ((sends-one media old new out fate did sound).0, tt)
row media moment _ _ _ _ _ _ _ (down n out queue posted old new fate body did heard) sound before =
    ((sends-one media old new out fate did sound).0, tt)

-- the node's own ends are none of the link
never : (e : NodeError) → node_end e ≡ end.LinkFault → ⊥
never error.Memory same = absurd cc
never error.Disk same = absurd cc
never error.Down same = absurd cc
never (error.Refused cause) same = absurd cc

-- what is in an error
of-error : (T : Type 0) (d e : End) → ◌≡◌ {A = Result T End} (Err d) (Err e) → d ≡ e
of-error T d e same = cc

-- what is left of a sound link after a part of a command that came out so
pub record Left (old new : Net) (lost : Type 0) : Type 0 where
  pub lasts : Lasts old new
  pub over : lost → Over new

-- where a packet found no connection that is told
some-lost : (n : ℕ) (well : Result Posted End) (T : Type 0) → (well ≡ Err end.LinkFault → T) → (0 < n → T)
    → (if n == 0 then well else Err end.LinkFault) ≡ Err end.LinkFault → T
some-lost zero well T not some lost = not lost
some-lost (suc n) well T not some lost = some (omega arith)

-- packets are posted in one row
posts-row : (media : Media) (moment : ℕ) (outs : List Out) (old new : Net) (steps : List Step)
    (result : Result Posted End) → Posts media moment outs old new steps result → old.sound ≡ true
    → Left old new (all_dialled result ≡ Err end.LinkFault)
posts-row media moment outs old new steps result (posted, did, is) sound = by posted did is
  where
    by : (posted : Result Posted NodeError)
        → PostingAs media moment most_posts outs none_posted old new steps posted → result ≡ as_end posted
        → Left old new (all_dialled result ≡ Err end.LinkFault)
    by (Ok posted) did is =
        let r = row media moment most_posts outs none_posted old new steps (Ok posted) did sound
        (λ some. absurd (omega (arith, some))) in
        record {
          lasts = r.0;
          over = λ lost. some-lost posted.undialled (Ok posted) (Over new) (λ same. absurd cc) r.1
              (ap all_dialled (sym is) ∙ lost);
        }
    by (Err e) did is =
        let r = row media moment most_posts outs none_posted old new steps (Err e) did sound
        (λ some. absurd (omega (arith, some))) in
        record {
          lasts = r.0;
          over = λ lost. absurd (never e (of-error Posted _ _ (ap all_dialled (sym is) ∙ lost)));
        }

-- another end of a call of the node
not-lost : (e : End) → is_of_call e ≡ true → e ≡ end.LinkFault → ⊥
not-lost e of_call same = let other : is_of_call e ≡ false = subst (λ d. is_of_call d ≡ false) (sym same) refl in
    absurd (cc (of_call, other))

-- one call, whose packets are posted
pub calls-once : (moment later : ℕ) (asked : Asked) (old new : Net) (steps : List Step) (result : Result Posted End)
    → CallsOnce moment later asked old new steps result → old.sound ≡ true
    → Left old new (all_dialled result ≡ Err end.LinkFault)
calls-once moment later asked old new _ _ (fails e of_call same) sound = record {
  lasts = stays old new same sound;
  over = λ lost. absurd (not-lost e of_call (of-error Posted e end.LinkFault lost));
}
calls-once moment later asked old new _ _ (posts outs steps result did) sound =
    posts-row Soap12 later outs old new steps result did sound

-- what is told of a part is a fault of the link only where that was one
told-lost : (T : Type 0) (part : Result T End) (line : T → List ℕ) (result : Result (List ℕ) End)
    → IsTold part line result → result ≡ Err end.LinkFault → part ≡ Err end.LinkFault
told-lost T (Ok value) line result (inl is) lost = let e = sym is ∙ lost in absurd cc
told-lost T (Ok value) line result (inr is) lost = let e = sym is ∙ lost in absurd cc
told-lost T (Err e) line result is lost = ap Err (of-error (List ℕ) e end.LinkFault (sym is ∙ lost))

pub pushes : (shown : Option ℕ) (asked : ℕ → Asked) (old new : Net) (steps : List Step) (result : Result (List ℕ) End)
    → Pushes shown asked old new steps result → old.sound ≡ true → Left old new (result ≡ Err end.LinkFault)
pushes shown asked old new steps result did sound =
    let r = calls-once did.moment did.moment (asked did.moment) old new steps did.posted did.calls sound in
    record {
      lasts = r.lasts;
      over = λ lost. r.over (told-lost Posted (all_dialled did.posted) posted_line result did.told lost);
    }

-- ---- serve

ticks : (media : Media) (moment : ℕ) (served : Served) (old new : Net) (steps : List Step) (result : Result ConnEnd End)
    → Ticks media moment served old new steps result → old.sound ≡ true → Left old new (result ≡ Err end.LinkFault)
ticks media moment served old new _ _ (tick_fails e of_call same) sound = record {
  lasts = stays old new same sound;
  over = λ lost. absurd (not-lost e of_call (of-error ConnEnd e end.LinkFault lost));
}
ticks media moment served old new _ _ (row_wants due same) sound =
    record { lasts = stays old new same sound; over = λ lost. absurd cc }
ticks media moment served old new _ _ (row_fails due steps e did) sound =
    let r = posts-row media moment (served.outs ++ due) old new steps (Err e) did sound in
    record {
      lasts = r.lasts;
      over = λ lost. r.over (ap Err (of-error ConnEnd e end.LinkFault lost));
    }
ticks media moment served old new _ _ (row_goes due steps posted did) sound =
    let r = posts-row media moment (served.outs ++ due) old new steps (Ok posted) did sound in
    record { lasts = r.lasts; over = λ lost. absurd cc }

follows : (media : Media) (shown : Option ℕ) (old new : Net) (came : Result Served NodeError) (steps : List Step)
    (result : Result ConnEnd End) → Follows media shown old new came steps result → old.sound ≡ true
    → Left old new (result ≡ Err end.LinkFault)
follows media shown old new (Ok served) steps result (moment, at, did) sound =
    ticks media moment served old new steps result did sound
follows media shown old new (Err e) steps result (same, none, is) sound = record {
  lasts = stays old new same sound;
  over = λ lost. absurd (never e (of-error ConnEnd (node_end e) end.LinkFault (sym is ∙ lost)));
}

serves-one : (media : Media) (shown : Option ℕ) (first : Stream) (old new : Net) (steps : List Step)
    (result : Result ConnEnd End) → ServesOne media shown first old new steps result → old.sound ≡ true
    → Left old new (result ≡ Err end.LinkFault)
serves-one media shown first old new _ _ (serves moment last steps more came result at serving after) sound =
    follows media shown old new came more result after sound

turn : (media : Media) (shown : Option ℕ) (old new : Net) (steps : List Step) (result : Result ConnEnd End)
    → Turn media shown old new steps result → old.sound ≡ true → Left old new (result ≡ Err end.LinkFault)
turn media shown old new _ _ (unconnected did) sound =
    record { lasts = connects old new None did.connects sound; over = λ lost. in-vain old new did.connects sound }
turn media shown old new _ _ (connected mid first steps result did one) sound =
    let before = connects old mid (Some (line_of first)) did.connects sound in
    let r = serves-one media shown first mid new steps result one before.sound in
    record { lasts = onward old mid new before r.lasts; over = r.over }

turns-left : (media : Media) (shown : Option ℕ) (n : ℕ) (tally : Tally) (old new : Net) (steps : List Step)
    (result : Result Tally End) → Turns media shown n tally old new steps result → old.sound ≡ true
    → Left old new (result ≡ Err end.LinkFault)
turns-left media shown _ _ _ _ _ _ (served-all tally net) sound =
    record { lasts = stays net net refl sound; over = λ lost. absurd cc }
turns-left media shown _ _ _ _ _ _ (ends_with n tally old new steps e did) sound =
    let r = turn media shown old new steps (Err e) did sound in
    record {
      lasts = r.lasts;
      over = λ lost. r.over (ap Err (of-error Tally e end.LinkFault lost));
    }
turns-left media shown _ _ _ _ _ _ (turns n tally old mid new steps more finish result did after) sound =
    let before = turn media shown old mid steps (Ok finish) did sound in
    let r = turns-left media shown n (counted tally finish) mid new more result after before.lasts.sound in
    record { lasts = onward old mid new before.lasts r.lasts; over = r.over }

-- a sound link hears each port
hears-it : (old new : Net) (port : ℕ) → Listens old new port true → old.sound ≡ true → ⊥
hears-it old new port did sound = let no : true ≡ false = (did.sound sound).1 in absurd cc

pub serves-left : (media : Media) (shown : Option ℕ) (port count : ℕ) (old new : Net) (steps : List Step)
    (result : Result (List ℕ) End) → Serves media shown port count old new steps result → old.sound ≡ true
    → Left old new (result ≡ Err end.LinkFault)
serves-left media shown port count old new _ _ (deaf did) sound = absurd (hears-it old new port did sound)
serves-left media shown port count old new _ _ (hears mid steps tally result heard did told) sound =
    let before = listens old mid port false heard sound in
    let r = turns-left media shown count no_tally mid new steps tally did before.sound in
    record {
      lasts = onward old mid new before r.lasts;
      over = λ lost. r.over (told-lost Tally tally (λ (t : Tally). served_line t.done t.dropped) result told lost);
    }

-- the second of two numbers that came
abbrev second : Result (ℕ × ℕ) End → ℕ
second (Ok pair) = pair.1
second (Err e) = 0

two : (s r n m : ℕ) → ◌≡◌ {A = Result (ℕ × ℕ) End} (Ok (s, n)) (Ok (r, m)) → n ≡ m
two s r n m same = ap second same

abbrev pair : ℕ → ℕ → Result (ℕ × ℕ) End
pair seq n = Ok (seq, n)

-- some packets found no connection
undialled : (posted : Posted) (n : ℕ) → posted.undialled ≡ suc n → all_dialled (Ok posted) ≡ Err end.LinkFault
undialled posted n same = sym (some-undialled posted.undialled posted (omega (arith, same)))

-- the sequence was reached: where a packet found no connection none is left
reached : (r : List Fact) (to : List ℕ) (shown : Option ℕ) (old new : Net) (steps : List Step)
    (result : Result (ℕ × ℕ) End) → Reached r to shown old new steps result → old.sound ≡ true
    → Left old new (result ≡ Err end.LinkFault) × ((seq n : ℕ) → result ≡ Ok (seq, suc n) → Over new)
reached r to shown old new steps result did sound = by did.posted did.calls did.is
  where
    by : (posted : Result Posted End) → CallsOnce did.moment did.later did.asked old new steps posted
        → result ≡ reached_by did.seq posted
        → Left old new (result ≡ Err end.LinkFault) × ((seq n : ℕ) → result ≡ Ok (seq, suc n) → Over new)
    by (Ok posted) calls is =
        let left = calls-once did.moment did.later did.asked old new steps (Ok posted) calls sound in (
          record { lasts = left.lasts; over = λ lost. let e = sym is ∙ lost in absurd cc },
          λ seq n same. left.over (undialled posted n (two did.seq seq posted.undialled (suc n) (sym is ∙ same))),
        )
    by (Err e) calls is =
        let left = calls-once did.moment did.later did.asked old new steps (Err e) calls sound in (
          record {
            lasts = left.lasts;
            over = λ lost. left.over (ap Err (of-error (ℕ × ℕ) e end.LinkFault (sym is ∙ lost)));
          },
          λ seq n same. let e = sym is ∙ same in absurd cc,
        )

-- the payload is sent
sends-on : (x z : Place) (seq : ℕ) (payload : List ℕ) (shown : Option ℕ) (old new : Net) (steps : List Step)
    (result : Result (List ℕ) End) → SendsOn x z seq payload shown old new steps result → old.sound ≡ true
    → Left old new (result ≡ Err end.LinkFault)
sends-on x z seq payload shown old new steps result did sound =
    let r = calls-once 0 did.later _ old new steps did.posted did.calls sound in
    record {
      lasts = r.lasts;
      over = λ lost. r.over (told-lost Posted (all_dialled did.posted) (line_at x z seq) result did.told lost);
    }

-- after the first posts, where those that found no connection left none
after : (x z : Place) (seq : ℕ) (payload : List ℕ) (shown : Option ℕ) (old new : Net) (n : ℕ) (steps : List Step)
    (result : Result (List ℕ) End) → SendsAfter x z seq payload shown old new n steps result → old.sound ≡ true
    → ((m : ℕ) → n ≡ suc m → Over old) → result ≡ Err end.LinkFault → Over new
after x z seq payload shown old new _ _ _ (at_once steps result did) sound before over =
    (sends-on x z seq payload shown old new steps result did sound).over over
after x z seq payload shown old new _ _ _ (not-open n closed same) sound before over =
    (stays old new same sound).over (before n refl)
after x z seq payload shown old new _ _ _ (late n steps result opened did) sound before over =
    (sends-on x z seq payload shown old new steps result did sound).lasts.over (before n refl)

pub sends-to : (tells : Bool) (x z : Place) (to payload : List ℕ) (shown : Option ℕ) (old new : Net)
    (steps : List Step) (result : Result (List ℕ) End)
    → SendsTo tells x z to payload shown old new steps result → old.sound ≡ true → result ≡ Err end.LinkFault
    → Over new
sends-to tells x z to payload shown old new _ _ (sends_not steps e did) sound over =
    (reached x.node.stored.records to shown old new steps (Err e) did sound).0.over
    (ap Err (of-error (List ℕ) e end.LinkFault over))
sends-to tells x z to payload shown old new _ _ (sends y mid seq n steps more result made did then_sends) sound over =
    let r = reached x.node.stored.records to shown old mid steps (Ok (seq, n)) did sound in
    after y z seq payload shown mid new n more result then_sends r.0.lasts.sound
    (λ m same. r.1 seq m (ap (pair seq) same)) over

-- ---- commands

-- looking for the node is no matter of the link
never-mount : (e : MountError) → mount_end e ≡ end.LinkFault → ⊥
never-mount mount.Memory same = absurd cc
never-mount mount.Disk same = absurd cc
never-mount mount.NotAJournal same = absurd cc

-- what a command does from the node that it finds leaves no connection where the link is to blame: so does the command
pub commands : (tells : Bool) (first now : Told) (old new : Net) (granted : Behaviour)
    (Acts : Place → Place → List Step → Result (List ℕ) End → Type 0) (result : Result (List ℕ) End)
    → ((x z : Place) (steps : List Step) → Acts x z steps result → result ≡ Err end.LinkFault → Over new)
    → Commands tells first now old new granted Acts result → result ≡ Err end.LinkFault → Over new
commands tells first now old new granted Acts _ left (unfound e none same) over =
    absurd (never-mount e (of-error (List ℕ) (mount_end e) end.LinkFault over))
commands tells first now old new granted Acts _ left (acted x z steps result found told made leaves acts) over =
    left x z steps acts over
