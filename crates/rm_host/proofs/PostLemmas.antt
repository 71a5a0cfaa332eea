-- Where a packet found no connection the link's count of faults rose.
use Rattle.std.proofs.Common.{◌≡◌, ℕ, ◌≤◌, ◌<◌, true, false, nat_le, List, ◌++◌, Option, None, Some, refl, sym, subst}
use Rattle.std.proofs.Common.{Result, Ok, arith}
use Rattle.std.proofs.lemmas.Bool.{leb-true, leb-false}
use Rattle.http_endpoint.specs.Targets.{target_of}
use Rattle.http_endpoint.specs.declared.media.Media.{Media}
use Rattle.http_endpoint.specs.declared.target.Target.{Target}
use Rattle.rm_base.specs.Count.{Rose}
use Rattle.http_endpoint.specs.Link.Lines.{Net}
use Rattle.http_endpoint.specs.Link.Posts.{IsPostAs}
use Rattle.http_endpoint.specs.declared.link.packet.Fate.{Fate}
use Rattle.http_endpoint.specs.declared.link.packet.Fate.TheVariants.{Answered, Missed, Undialled}
use Rattle.rm_node.specs.declared.error.NodeError.{NodeError}
use Rattle.rm_node.specs.declared.packets.Out.{Out}
use Rattle.rm_serve.specs.Posts.{IsPostOf, PostingAs, Sends}
use Rattle.rm_serve.specs.Posts.{begun, broken, down, empty, over, quiet, taken, unheard, wanting, with_post}
use Rattle.rm_serve.specs.Steps.{Step}
use Rattle.rm_serve.specs.declared.posting.Posted.{Posted}
use Rattle.rm_host.proofs.EndLemmas.{rose-after, rose-before}

-- some packets found no connection, and with the first of these the link's count rose
pub record Dials (before after : ℕ) (old new : Net) : Type 0 where
  pub grows : before ≤ after
  pub later : old.faults ≤ new.faults
  pub rose : before < after → Rose old.faults new.faults

none : (n : ℕ) (net : Net) → Dials n n net net
none n net = record { grows = omega arith; later = omega arith; rose = λ h. absurd (omega (arith, h)) }

both : (a b c : ℕ) (x y z : Net) → Dials a b x y → Dials b c y z → Dials a c x z
both a b c x y z first after = record {
  grows = omega (arith, first.grows, after.grows);
  later = omega (arith, first.later, after.later);
  rose = λ h. elim (nat_le b a) as (λ t. nat_le b a ≡ t → Rose x.faults z.faults) [
    | true ↦ λ e.
        let least : b ≤ a = leb-true b a e in
        rose-before x.faults y.faults z.faults first.later (after.rose (omega (arith, h, least)))
    | false ↦ λ e. rose-after x.faults y.faults z.faults (first.rose (leb-false b a e)) after.later
  ] refl;
}

one-text : (media : Media) (t : Option Target) (bytes : List ℕ) (old mid : Net) (fate : Fate) (posted : Posted)
    → IsPostAs media old mid t bytes fate
    → Dials posted.undialled (with_post fate posted).undialled old mid
one-text media None bytes old mid fate posted is =
    subst (λ f. Dials posted.undialled (with_post f posted).undialled old mid) (sym is.0)
    (subst (λ n. Dials posted.undialled posted.undialled old n) (sym is.1) (none posted.undialled old))
one-text media (Some target) bytes old mid Undialled posted is =
    record { grows = omega arith; later = is.connects.never_falls; rose = λ h. is.connects.failed refl }
one-text media (Some target) bytes old mid Missed posted is =
    record { grows = omega arith; later = is.calls.connects.never_falls; rose = λ h. absurd (omega (arith, h)) }
one-text media (Some target) bytes old mid (Answered body) posted is =
    record { grows = omega arith; later = is.calls.connects.never_falls; rose = λ h. absurd (omega (arith, h)) }

one-told : (media : Media) (t : Option Target) (told : Option (List ℕ)) (old mid : Net) (fate : Fate) (posted : Posted)
    → IsPostOf media old mid t told fate → Dials posted.undialled (with_post fate posted).undialled old mid
one-told media t None old mid fate posted is =
    subst (λ f. Dials posted.undialled (with_post f posted).undialled old mid) (sym is.0)
    (subst (λ n. Dials posted.undialled posted.undialled old n) (sym is.1) (none posted.undialled old))
one-told media t (Some text) old mid fate posted is = one-text media t text old mid fate posted is

one : (media : Media) (out : Out) (old mid : Net) (fate : Fate) (posted : Posted) → Sends media old mid out fate
    → Dials posted.undialled (with_post fate posted).undialled old mid
one media out old mid fate posted is = one-told media (target_of out.address) is.told old mid fate posted is.posted

-- so it is of a row of packets
pub dials : (media : Media) (moment n : ℕ) (queue : List Out) (posted last : Posted) (old new : Net)
    (steps : List Step) (result : Result Posted NodeError) → PostingAs media moment n queue posted old new steps result
    → result ≡ Ok last → Dials posted.undialled last.undialled old new
dials media moment _ _ _ last _ _ _ _ (over queue posted net) e =
    let same : posted ≡ last = cc in
    subst (λ (p : Posted). Dials posted.undialled p.undialled net net) same (none posted.undialled net)
dials media moment _ _ _ last _ _ _ _ (empty n posted net) e =
    let same : posted ≡ last = cc in
    subst (λ (p : Posted). Dials posted.undialled p.undialled net net) same (none posted.undialled net)
dials media moment _ _ _ last _ _ _ _ (wanting n queue posted net) e = absurd cc
dials media moment _ _ _ last _ _ _ _ (begun n out queue posted old new is) e = absurd cc
dials media moment _ _ _ last _ _ _ _ (quiet n out queue posted old mid new fate steps result is heard after) e =
    both posted.undialled (with_post fate posted).undialled last.undialled old mid new
    (one media out old mid fate posted is)
    (dials media moment n queue (with_post fate posted) last mid new steps result after e)
dials media moment _ _ _ last _ _ _ _
    (taken n out queue posted old mid new fate body steps result content verdict reply outs is heard reads after) e =
    both posted.undialled (with_post fate posted).undialled last.undialled old mid new
    (one media out old mid fate posted is)
    (dials media moment n (queue ++ outs) (with_post fate posted) last mid new steps result after e)
dials media moment _ _ _ last _ _ _ _ (broken n out queue posted old new fate body content is heard reads) e = absurd cc
dials media moment _ _ _ last _ _ _ _ (unheard n out queue posted old new fate body is heard) e = absurd cc
dials media moment _ _ _ last _ _ _ _ (down n out queue posted old new fate body is heard) e = absurd cc
