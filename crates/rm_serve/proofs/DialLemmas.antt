-- For each packet that found no connection the link's count of faults rose.
use Rattle.std.proofs.Common.{◌≡◌, ℕ, ◌+◌, ◌≤◌, inl, List, ◌++◌, Option, None, Some, refl, sym, subst, arith}
use Rattle.std.specs.Prelude.{IfOk, Result, Ok, Err}
use Rattle.http_endpoint.specs.Targets.{target_of}
use Rattle.http_endpoint.specs.declared.media.Media.{Media}
use Rattle.http_endpoint.specs.declared.target.Target.{Target}
use Rattle.rm_base.specs.Count.{RoseBy}
use Rattle.rm_base.specs.CountLemmas.{RoseBy-more}
use Rattle.http_endpoint.specs.Link.Lines.{Net}
use Rattle.http_endpoint.specs.Link.Posts.{IsPostAs}
use Rattle.http_endpoint.specs.declared.link.packet.Fate.{Fate}
use Rattle.http_endpoint.specs.declared.link.packet.Fate.TheVariants.{Answered, Missed, Undialled}
use Rattle.rm_node.specs.declared.error.NodeError.{NodeError}
use Rattle.rm_node.specs.declared.packets.Out.{Out}
use Rattle.rm_serve.specs.Posts.{IsPostOf, PostingAs, Sends, with_post}
use Rattle.rm_serve.specs.Posts.{begun, broken, down, empty, over, quiet, taken, unheard, wanting}
use Rattle.rm_serve.specs.Steps.{Step}
use Rattle.rm_serve.specs.declared.posting.Posted.{Posted}

-- so many packets more found no connection, and by so many the count rose at least
pub record Dials (before after : ℕ) (old new : Net) : Type 0 where
  pub more : ℕ
  pub is : after ≡ before + more
  pub rose : RoseBy old.faults new.faults more

none : (n : ℕ) (old new : Net) → old.faults ≤ new.faults → Dials n n old new
none n old new later = record { more = 0; is = omega arith; rose = inl (omega (arith, later)) }

both : (a b c : ℕ) (x y z : Net) → Dials a b x y → Dials b c y z → Dials a c x z
both a b c x y z first after = record {
  more = first.more + after.more;
  is = omega (arith, first.is, after.is);
  rose = RoseBy-more x.faults y.faults z.faults first.more after.more first.rose after.rose;
}

missed : (old mid : Net) (fate : Fate) (posted : Posted) → fate ≡ Missed → mid ≡ old
    → Dials posted.undialled (with_post fate posted).undialled old mid
missed old mid fate posted is same =
    subst (λ f. Dials posted.undialled (with_post f posted).undialled old mid) (sym is)
    (subst (λ n. Dials posted.undialled posted.undialled old n) (sym same)
    (none posted.undialled old old (omega arith)))

one-text : (media : Media) (t : Option Target) (bytes : List ℕ) (old mid : Net) (fate : Fate) (posted : Posted)
    → IsPostAs media old mid t bytes fate
    → Dials posted.undialled (with_post fate posted).undialled old mid
one-text media None bytes old mid fate posted is = missed old mid fate posted is.0 is.1
one-text media (Some target) bytes old mid Undialled posted is =
    record { more = 1; is = refl; rose = is.connects.failed refl }
one-text media (Some target) bytes old mid Missed posted is =
    none posted.undialled old mid is.calls.connects.never_falls
one-text media (Some target) bytes old mid (Answered body) posted is =
    none posted.undialled old mid is.calls.connects.never_falls

one-told : (media : Media) (t : Option Target) (told : Option (List ℕ)) (old mid : Net) (fate : Fate) (posted : Posted)
    → IsPostOf media old mid t told fate → Dials posted.undialled (with_post fate posted).undialled old mid
one-told media t None old mid fate posted is = missed old mid fate posted is.0 is.1
one-told media t (Some text) old mid fate posted is = one-text media t text old mid fate posted is

one : (media : Media) (out : Out) (old mid : Net) (fate : Fate) (posted : Posted) → Sends media old mid out fate
    → Dials posted.undialled (with_post fate posted).undialled old mid
one media out old mid fate posted is = one-told media (target_of out.address) is.told old mid fate posted is.posted

-- a packet more, and those after it
goes-on : (media : Media) (out : Out) (old mid new : Net) (fate : Fate) (posted : Posted)
    (result : Result Posted NodeError) → Sends media old mid out fate
    → IfOk result (λ (last : Posted). Dials (with_post fate posted).undialled last.undialled mid new)
    → IfOk result (λ (last : Posted). Dials posted.undialled last.undialled old new)
goes-on media out old mid new fate posted (Ok last) is after =
    both posted.undialled (with_post fate posted).undialled last.undialled old mid new
    (one media out old mid fate posted is) after
goes-on media out old mid new fate posted (Err e) is after = tt

-- so it is of a row of packets
dials : (media : Media) (moment n : ℕ) (queue : List Out) (posted : Posted) (old new : Net) (steps : List Step)
    (result : Result Posted NodeError) → PostingAs media moment n queue posted old new steps result
    → IfOk result (λ (last : Posted). Dials posted.undialled last.undialled old new)
dials media moment _ _ _ _ _ _ _ (over queue posted net) = none posted.undialled net net (omega arith)
dials media moment _ _ _ _ _ _ _ (empty n posted net) = none posted.undialled net net (omega arith)
dials media moment _ _ _ _ _ _ _ (wanting n queue posted net) = tt
dials media moment _ _ _ _ _ _ _ (begun n out queue posted old new is) = tt
dials media moment _ _ _ _ _ _ _ (quiet n out queue posted old mid new fate steps result is heard after) =
    goes-on media out old mid new fate posted result is
    (dials media moment n queue (with_post fate posted) mid new steps result after)
dials media moment _ _ _ _ _ _ _
    (taken n out queue posted old mid new fate body steps result content verdict reply outs is heard reads after) =
    goes-on media out old mid new fate posted result is
    (dials media moment n (queue ++ outs) (with_post fate posted) mid new steps result after)
dials media moment _ _ _ _ _ _ _ (broken n out queue posted old new fate body content is heard reads) = tt
dials media moment _ _ _ _ _ _ _ (unheard n out queue posted old new fate body is heard) = tt
dials media moment _ _ _ _ _ _ _ (down n out queue posted old new fate body is heard) = tt

rose-from-none : (result : Result Posted NodeError) (old new : Net)
    → IfOk result (λ (last : Posted). Dials 0 last.undialled old new)
    → IfOk result (λ (last : Posted). RoseBy old.faults new.faults last.undialled)
rose-from-none (Ok last) old new is =
    let same : last.undialled ≡ is.more = omega (arith, is.is) in
    subst (RoseBy old.faults new.faults) (sym same) is.rose
rose-from-none (Err e) old new is = tt

-- and of one before which nothing was posted
pub dialled : (media : Media) (moment n : ℕ) (queue : List Out) (posted : Posted) (old new : Net) (steps : List Step)
    (result : Result Posted NodeError) → posted.undialled ≡ 0
    → PostingAs media moment n queue posted old new steps result
    → IfOk result (λ (last : Posted). RoseBy old.faults new.faults last.undialled)
dialled media moment n queue posted old new steps result first is =
    rose-from-none result old new
    (subst (λ (k : ℕ). IfOk result (λ (last : Posted). Dials k last.undialled old new)) first
    (dials media moment n queue posted old new steps result is))
