-- Packets that are posted, one after the other.
use Rattle.std.proofs.Common.{◌≡◌, ℕ, suc, Bool, List, [], ◌∷◌, ◌++◌, Option, Some, None, refl, sym, subst, ap, ◌∙◌}
use Rattle.std.proofs.Common.{Result, Ok, Err, IfOk, OnErr, inl, inr, append_assoc, arith, zero, ◌<◌, ◌-◌}
use Rattle.http_endpoint.specs.Targets.{target_of}
use Rattle.http_endpoint.specs.declared.media.Media.{Media}
use Rattle.rm_base.specs.declared.failures.Memory.{Memory}
use Rattle.http_endpoint.specs.Link.Lines.{Net}
use Rattle.http_endpoint.specs.Link.Posts.{IsBegunAs, IsPostAs}
use Rattle.http_endpoint.specs.declared.link.packet.Fate.{Fate}
use Rattle.http_endpoint.specs.declared.link.packet.Fate.TheVariants.{Missed}
use Rattle.rm_node.specs.declared.error.NodeError.{NodeError}
use Rattle.rm_node.specs.declared.error.NodeError.TheVariants as error
use Rattle.rm_node.specs.declared.packets.Out.{Out}
use Rattle.rm_node.specs.declared.step.Reaction.{Reaction}
use Rattle.rm_serve.specs.Limits as limits
use Rattle.rm_serve.specs.Reacts.{Reacts, broke, crashed, reacted, slept, starving, took}
use Rattle.rm_serve.specs.Posts.{Admits, Begins, Goes, Hears, HearsBy, IsHeard, IsHeardOf, PostingAs, Sends, Takes}
use Rattle.rm_serve.specs.Posts.{heard_of, none_posted, with_post}
use Rattle.rm_serve.specs.Posts.{all, asleep, begun, broken, down, empty, failed, given, kept_out, lost, over, quiet}
use Rattle.rm_serve.specs.Posts.{starved, taken, unheard, unread, wanting}
use Rattle.rm_serve.specs.Steps.{MakesAll, Place, Stays, Step}
use Rattle.rm_serve.specs.Versions.{IsTold}
use Rattle.rm_serve.proofs.StepLemmas.{no-step, then-all}
use Rattle.rm_serve.specs.declared.posting.Posted.{Posted}

-- what a response that was heard makes of one packet

goes-taken : (media : Media) (moment : ℕ) (out : Out) (queue more : List Out) (posted : Posted) (old mid : Net)
    (fate : Fate)
    (body : List ℕ) (steps : List Step) (result : Result (Unit {0}) NodeError)
    → Sends media old mid out fate → IsHeard media fate (Some body)
    → Takes moment body queue more steps result → result ≡ Ok tt
    → Goes media moment out queue more posted old mid steps (Ok (with_post fate posted))
goes-taken media moment out queue more posted old mid fate body _ _ is heard
    (all content verdict reply outs reads same) e =
    λ n new rest result after.
    taken n out queue posted old mid new fate body rest result content verdict reply outs is heard reads
    (subst (λ (q : List Out). PostingAs media moment n q (with_post fate posted) mid new rest result) same after)
goes-taken media moment out queue more posted old mid fate body _ _ is heard (lost content verdict reply outs reads) e =
    absurd cc
goes-taken media moment out queue more posted old mid fate body _ _ is heard starved e = absurd cc
goes-taken media moment out queue more posted old mid fate body _ _ is heard (failed content reads) e = absurd cc
goes-taken media moment out queue more posted old mid fate body _ _ is heard asleep e = absurd cc

goes-admitted : (media : Media) (moment : ℕ) (out : Out) (queue more : List Out) (posted : Posted) (old mid : Net)
    (fate : Fate) (body : List ℕ) (steps : List Step) (result : Result (Unit {0}) NodeError)
    → Sends media old mid out fate → heard_of fate ≡ Some body
    → Admits media moment body queue more steps result → result ≡ Ok tt
    → Goes media moment out queue more posted old mid steps (Ok (with_post fate posted))
goes-admitted media moment out queue more posted old mid fate body _ _ is heard (given bytes steps result gives takes)
    e =
    goes-taken media moment out queue more posted old mid fate bytes steps result is
    (subst (λ (h : Option (List ℕ)). IsHeardOf media h (Some bytes)) (sym heard) gives) takes e
goes-admitted media moment out queue more posted old mid fate body _ _ is heard (kept_out refusal kept same) e =
    λ n new rest result after.
    quiet n out queue posted old mid new fate rest result is
    (subst (λ (h : Option (List ℕ)). IsHeardOf media h None) (sym heard) (refusal, kept))
    (subst (λ (q : List Out). PostingAs media moment n q (with_post fate posted) mid new rest result) same after)
goes-admitted media moment out queue more posted old mid fate body _ _ is heard (unread same) e = absurd cc

goes-by : (media : Media) (moment : ℕ) (out : Out) (queue more : List Out) (posted : Posted) (old mid : Net)
    (fate : Fate) (steps : List Step) (h : Option (List ℕ))
    → Sends media old mid out fate → heard_of fate ≡ h
    → HearsBy media moment h queue more steps (Ok tt)
    → Goes media moment out queue more posted old mid steps (Ok (with_post fate posted))
goes-by media moment out queue more posted old mid fate steps None is heard hears = λ n new rest result after.
    let on = subst (λ (q : List Out). PostingAs media moment n q (with_post fate posted) mid new rest result) hears.0
    after in
    subst (λ (s : List Step). PostingAs media moment (suc n) (out ∷ queue) posted old new (s ++ rest) result)
    (sym hears.1) (quiet n out queue posted old mid new fate rest result is
    (subst (λ (h : Option (List ℕ)). IsHeardOf media h None) (sym heard) refl) on)
goes-by media moment out queue more posted old mid fate steps (Some body) is heard hears =
    goes-admitted media moment out queue more posted old mid fate body steps (Ok tt) is heard hears refl

-- it was heard
pub goes-on : (media : Media) (moment : ℕ) (out : Out) (queue more : List Out) (posted : Posted) (old mid : Net)
    (fate : Fate)
    (steps : List Step)
    → Sends media old mid out fate → Hears media moment fate queue more steps (Ok tt)
    → Goes media moment out queue more posted old mid steps (Ok (with_post fate posted))
goes-on media moment out queue more posted old mid fate steps is hears =
    goes-by media moment out queue more posted old mid fate steps (heard_of fate) is refl hears

stops-taken : (media : Media) (moment : ℕ) (out : Out) (queue more : List Out) (posted : Posted) (old mid : Net)
    (fate : Fate) (came body : List ℕ) (steps : List Step) (result : Result (Unit {0}) NodeError) (e : NodeError)
    → Sends media old mid out fate → heard_of fate ≡ Some came → IsHeard media fate (Some body)
    → Takes moment body queue more steps result → result ≡ Err e
    → Goes media moment out queue more posted old mid steps (Err e)
stops-taken media moment out queue more posted old mid fate came body _ _ e is raw heard
    (all content verdict reply outs reads same) f = absurd cc
stops-taken media moment out queue more posted old mid fate came body _ _ e is raw heard
    (lost content verdict reply outs reads) f =
    λ n. let same : e ≡ _ = cc in
    rw same (taken n out queue posted old mid mid fate body [] _ content verdict reply outs is heard reads
    (wanting n (queue ++ outs) (with_post fate posted) mid))
stops-taken media moment out queue more posted old mid fate came body _ _ e is raw heard starved f =
    λ n. let same : e ≡ _ = cc in rw same (unheard n out queue posted old mid fate came is raw)
stops-taken media moment out queue more posted old mid fate came body _ _ e is raw heard (failed content reads) f =
    λ n. let same : e ≡ _ = cc in rw same (broken n out queue posted old mid fate body content is heard reads)
stops-taken media moment out queue more posted old mid fate came body _ _ e is raw heard asleep f =
    λ n. let same : e ≡ _ = cc in rw same (down n out queue posted old mid fate body is heard)

stops-admitted : (media : Media) (moment : ℕ) (out : Out) (queue more : List Out) (posted : Posted) (old mid : Net)
    (fate : Fate) (body : List ℕ) (steps : List Step) (result : Result (Unit {0}) NodeError) (e : NodeError)
    → Sends media old mid out fate → heard_of fate ≡ Some body
    → Admits media moment body queue more steps result → result ≡ Err e
    → Goes media moment out queue more posted old mid steps (Err e)
stops-admitted media moment out queue more posted old mid fate body _ _ e is heard
    (given bytes steps result gives takes)
    f =
    stops-taken media moment out queue more posted old mid fate body bytes steps result e is heard
    (subst (λ (h : Option (List ℕ)). IsHeardOf media h (Some bytes)) (sym heard) gives) takes f
stops-admitted media moment out queue more posted old mid fate body _ _ e is heard (kept_out refusal kept same) f =
    absurd cc
stops-admitted media moment out queue more posted old mid fate body _ _ e is heard (unread same) f =
    λ n. let is_memory : e ≡ _ = cc in rw is_memory (unheard n out queue posted old mid fate body is heard)

stops-by : (media : Media) (moment : ℕ) (out : Out) (queue more : List Out) (posted : Posted) (old mid : Net)
    (fate : Fate) (steps : List Step) (h : Option (List ℕ)) (e : NodeError)
    → Sends media old mid out fate → heard_of fate ≡ h
    → HearsBy media moment h queue more steps (Err e)
    → Goes media moment out queue more posted old mid steps (Err e)
stops-by media moment out queue more posted old mid fate steps None e is heard hears = absurd cc
stops-by media moment out queue more posted old mid fate steps (Some body) e is heard hears =
    stops-admitted media moment out queue more posted old mid fate body steps (Err e) e is heard hears refl

-- it failed
pub goes-no-further : (media : Media) (moment : ℕ) (out : Out) (queue more : List Out) (posted : Posted)
    (old mid : Net) (fate : Fate)
    (steps : List Step) (e : NodeError)
    → Sends media old mid out fate → Hears media moment fate queue more steps (Err e)
    → Goes media moment out queue more posted old mid steps (Err e)
goes-no-further media moment out queue more posted old mid fate steps e is hears =
    stops-by media moment out queue more posted old mid fate steps (heard_of fate) e is refl hears

-- memory was wanting for a packet
pub goes-wanting : (media : Media) (moment : ℕ) (out : Out) (queue : List Out) (posted : Posted) (old mid : Net)
    → Begins media old mid out
    → Goes media moment out queue queue posted old mid [] (Err error.Memory)
goes-wanting media moment out queue posted old mid is = λ n. begun n out queue posted old mid is

-- ---- a packet

-- memory was wanting for what is told of it
pub begins-not : (media : Media) (net : Net) (out : Out) (r : Result Fate Memory) → OnErr r (Begins media net net out)
begins-not media net out (Ok fate) = tt
begins-not media net out (Err want) = inl refl

-- it was posted
pub sends-told : (media : Media) (old new : Net) (out : Out) (text sent : List ℕ) (r : Result Fate Memory)
    → IsTold media out.bytes (Some text) → sent ≡ text
    → IfOk r (IsPostAs media old new (target_of out.address) sent) → IfOk r (Sends media old new out)
sends-told media old new out text sent (Ok fate) tells same posts = record {
  told = Some text;
  is_told = tells;
  posted = subst (λ (b : List ℕ). IsPostAs media old new (target_of out.address) b fate) same posts;
}
sends-told media old new out text sent (Err want) tells same posts = tt

-- memory was wanting then
pub begins-told : (media : Media) (old new : Net) (out : Out) (text sent : List ℕ) (r : Result Fate Memory)
    → IsTold media out.bytes (Some text) → sent ≡ text
    → OnErr r (IsBegunAs media old new (target_of out.address) sent) → OnErr r (Begins media old new out)
begins-told media old new out text sent (Ok fate) tells same began = tt
begins-told media old new out text sent (Err want) tells same began =
    inr (text, tells, subst (λ (b : List ℕ). IsBegunAs media old new (target_of out.address) b) same began)

-- nothing is told
pub sends-not : (media : Media) (net : Net) (out : Out) → IsTold media out.bytes None
    → Sends media net net out Missed
sends-not media net out tells = record { told = None; is_told = tells; posted = (refl, refl) }

-- ---- the whole row

-- what was posted so far, and what is said of the whole by what is posted from here on
pub record Far (media : Media) (tells : Bool) (moment : ℕ) (first now : Place) (outs queue : List Out)
    (posted : Posted) (left : ℕ)
    (old mid : Net) : Type 0 where
  pub steps : List Step
  pub makes : MakesAll tells first now steps
  pub goes : (new : Net) (more : List Step) (result : Result Posted NodeError)
      → PostingAs media moment left queue posted mid new more result
      → PostingAs media moment limits.most_posts outs none_posted old new (steps ++ more) result

-- nothing yet
pub far-first : (media : Media) (tells : Bool) (moment : ℕ) (first now : Place) (outs queue : List Out) (net : Net)
    → Stays tells first now → queue ≡ outs
    → Far media tells moment first now outs queue none_posted limits.most_posts net net
far-first media tells moment first now outs queue net stays same = record {
  steps = [];
  makes = no-step tells first now stays;
  goes = λ new more result after.
      subst (λ (q : List Out). PostingAs media moment limits.most_posts q none_posted net new more result) same after;
}

-- one packet more
pub far-on : (media : Media) (tells : Bool) (moment : ℕ) (first mid now : Place) (outs queue rest more : List Out)
    (out : Out)
    (posted next : Posted) (left less : ℕ) (old was is : Net) (steps : List Step)
    → Far media tells moment first mid outs queue posted left old was → left ≡ suc less → queue ≡ out ∷ rest
    → MakesAll tells mid now steps → Goes media moment out rest more posted was is steps (Ok next)
    → Far media tells moment first now outs more next less old is
far-on media tells moment first mid now outs queue rest more out posted next left less old was is steps far one same
    makes
    goes = record {
      steps = far.steps ++ steps;
      makes = then-all tells first mid now far.steps steps far.makes makes;
      goes = λ new more_steps result after.
          subst (λ (s : List Step). PostingAs media moment limits.most_posts outs none_posted old new s result)
          (sym (append_assoc far.steps steps more_steps))
          (far.goes new (steps ++ more_steps) result
          (subst (λ (n : ℕ). PostingAs media moment n queue posted was new (steps ++ more_steps) result) (sym one)
          (subst (λ (q : List Out). PostingAs media moment (suc less) q posted was new (steps ++ more_steps) result)
          (sym same)
          (goes less new more_steps result after))));
    }

-- a number above 0 is one more than the number before it
pub one-more : (n : ℕ) → 0 < n → n ≡ suc (n - 1)
one-more zero above = absurd (omega (arith, above))
one-more (suc n) above = let e : suc n - 1 ≡ n = omega arith in rw e refl

-- what the whole comes to, by what is posted from here on
abbrev pub Whole : Media → Bool → ℕ → Place → Place → List Out → Net → Net → Result Posted NodeError → Type 0
Whole media tells moment first last outs old new result =
    (steps : List Step) × MakesAll tells first last steps
    × PostingAs media moment limits.most_posts outs none_posted old new steps result

far-end : (media : Media) (tells : Bool) (moment : ℕ) (first now last : Place) (outs queue : List Out)
    (posted : Posted) (left : ℕ)
    (old mid new : Net) (steps : List Step) (result : Result Posted NodeError)
    → Far media tells moment first now outs queue posted left old mid → MakesAll tells now last steps
    → PostingAs media moment left queue posted mid new steps result
    → Whole media tells moment first last outs old new result
far-end media tells moment first now last outs queue posted left old mid new steps result far makes posting = (
  far.steps ++ steps,
  then-all tells first now last far.steps steps far.makes makes,
  far.goes new steps result posting,
)

stands : (tells : Bool) (x : Place) → MakesAll tells x x []
stands tells x = no-step tells x x (record { node = refl; told = λ t. refl })

-- no packet is left
pub far-empty : (media : Media) (tells : Bool) (moment : ℕ) (first now : Place) (outs queue : List Out)
    (posted : Posted) (left : ℕ)
    (old mid : Net) → Far media tells moment first now outs queue posted left old mid → queue ≡ []
    → Whole media tells moment first now outs old mid (Ok posted)
far-empty media tells moment first now outs queue posted left old mid far none =
    far-end media tells moment first now now outs queue posted left old mid mid [] (Ok posted) far (stands tells now)
    (subst (λ (q : List Out). PostingAs media moment left q posted mid mid [] (Ok posted)) (sym none)
    (empty left posted mid))

-- so many were posted as may be
pub far-over : (media : Media) (tells : Bool) (moment : ℕ) (first now : Place) (outs queue : List Out)
    (posted : Posted) (left : ℕ)
    (old mid : Net) → Far media tells moment first now outs queue posted left old mid → left ≡ 0
    → Whole media tells moment first now outs old mid (Ok posted)
far-over media tells moment first now outs queue posted left old mid far none =
    far-end media tells moment first now now outs queue posted left old mid mid [] (Ok posted) far (stands tells now)
    (subst (λ (n : ℕ). PostingAs media moment n queue posted mid mid [] (Ok posted)) (sym none) (over queue posted mid))

-- it stops with a packet
pub far-stop : (media : Media) (tells : Bool) (moment : ℕ) (first now last : Place) (outs queue rest more : List Out)
    (out : Out)
    (posted : Posted) (left less : ℕ) (old was is : Net) (steps : List Step) (e : NodeError)
    (result : Result Posted NodeError)
    → Far media tells moment first now outs queue posted left old was → left ≡ suc less → queue ≡ out ∷ rest
    → MakesAll tells now last steps → Goes media moment out rest more posted was is steps (Err e) → result ≡ Err e
    → Whole media tells moment first last outs old is result
far-stop media tells moment first now last outs queue rest more out posted left less old was is steps e result far one
    same
    makes goes fails =
    subst (λ (r : Result Posted NodeError). Whole media tells moment first last outs old is r) (sym fails)
    (far-end media tells moment first now last outs queue posted left old was is steps (Err e) far makes
    (subst (λ (n : ℕ). PostingAs media moment n queue posted was is steps (Err e)) (sym one)
    (subst (λ (q : List Out). PostingAs media moment (suc less) q posted was is steps (Err e)) (sym same) (goes less))))

-- ---- a body

-- one packet more at the end of the queue
pub queued : (q r rest less whole : List Out) (out : Out) → r ≡ q ++ out ∷ [] → rest ≡ out ∷ less → q ++ rest ≡ whole
    → r ++ less ≡ whole
queued q r rest less whole out pushed came is =
    ap (λ (x : List Out). x ++ less) pushed ∙ (append_assoc q (out ∷ []) less
    ∙ (ap (λ (x : List Out). q ++ x) (sym came) ∙ is))

pub take-failed : (moment : ℕ) (bytes : List ℕ) (queue : List Out) (steps : List Step)
    (r : Result Reaction NodeError) (e : NodeError) (s : Result (Unit {0}) NodeError)
    → Reacts moment bytes steps r → r ≡ Err e → s ≡ Err e → Takes moment bytes queue queue steps s
take-failed moment bytes queue _ _ e s (reacted content verdict reply outs reads) is gives = absurd cc
take-failed moment bytes queue _ _ e s (crashed content reads) is gives =
    let to : s ≡ Err error.Disk = cc in
    subst (λ (x : Result (Unit {0}) NodeError). Takes moment bytes queue queue (broke moment content ∷ []) x) (sym to)
    (failed content reads)
take-failed moment bytes queue _ _ e s slept is gives =
    let to : s ≡ Err error.Down = cc in
    subst (λ (x : Result (Unit {0}) NodeError). Takes moment bytes queue queue [] x) (sym to) asleep
take-failed moment bytes queue _ _ e s starving is gives =
    let to : s ≡ Err error.Memory = cc in
    subst (λ (x : Result (Unit {0}) NodeError). Takes moment bytes queue queue [] x) (sym to) starved

pub take-lost : (moment : ℕ) (bytes : List ℕ) (queue more : List Out) (steps : List Step)
    (r : Result Reaction NodeError) (x : Reaction) (s : Result (Unit {0}) NodeError)
    → Reacts moment bytes steps r → r ≡ Ok x → s ≡ Err error.Memory → Takes moment bytes queue more steps s
take-lost moment bytes queue more _ _ x s (reacted content verdict reply outs reads) is gives =
    subst (λ (y : Result (Unit {0}) NodeError). Takes moment bytes queue more
    (took moment content verdict reply outs ∷ []) y) (sym gives) (lost content verdict reply outs reads)
take-lost moment bytes queue more _ _ x s (crashed content reads) is gives = absurd cc
take-lost moment bytes queue more _ _ x s slept is gives = absurd cc
take-lost moment bytes queue more _ _ x s starving is gives = absurd cc

pub take-done : (moment : ℕ) (bytes : List ℕ) (queue more : List Out) (steps : List Step)
    (r : Result Reaction NodeError) (x : Reaction)
    → Reacts moment bytes steps r → r ≡ Ok x → more ≡ queue ++ x.outs → Takes moment bytes queue more steps (Ok tt)
take-done moment bytes queue more _ _ x (reacted content verdict reply outs reads) is same =
    let to : x ≡ record { verdict = verdict; reply = reply; outs = outs } = cc in
    all content verdict reply outs reads (same ∙ ap (λ (y : Reaction). queue ++ y.outs) to)
take-done moment bytes queue more _ _ x (crashed content reads) is same = absurd cc
take-done moment bytes queue more _ _ x slept is same = absurd cc
take-done moment bytes queue more _ _ x starving is same = absurd cc
