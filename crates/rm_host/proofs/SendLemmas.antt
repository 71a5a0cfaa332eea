-- A payload that is sent, step by step.
use Rattle.std.proofs.Common.{◌≡◌, ◌∙◌, ℕ, zero, suc, ◌<◌, Bool, true, false, List, [], ◌∷◌, refl, sym, subst, ap}
use Rattle.std.proofs.Common.{Option, Result, Ok, Err, arith}
use Rattle.std.specs.Prelude.{MatchBool}
use Rattle.http_endpoint.specs.declared.media.Media.TheVariants.{Soap12}
use Rattle.node_tables.specs.Reads.{outgoing_in}
use Rattle.record_batch.specs.Fact.{Fact}
use Rattle.http_endpoint.specs.Link.Lines.{Net}
use Rattle.rm_node.specs.Asked.{Asked}
use Rattle.rm_node.specs.declared.packets.Out.{Out}
use Rattle.rm_serve.specs.Steps.{Place, Step}
use Rattle.rm_serve.specs.declared.posting.Posted.{Posted}
use Rattle.rm_host.specs.HostSteps.{CallsOnce, Posts, StandsAt, own_step, posts}
use Rattle.rm_host.specs.SendSteps.{Reached, SendsAfter, SendsIfOpen, SendsOn, late, line_at, lost}
use Rattle.rm_host.specs.SendSteps.{next_number, no_text}
use Rattle.rm_host.specs.Sequences.{is_acked, is_open}
use Rattle.rm_host.specs.Texts.{sent_line}
use Rattle.rm_host.specs.declared.end.End.{End}
use Rattle.rm_host.specs.declared.end.End.TheVariants.{LinkFault}
use Rattle.rm_host.proofs.ClockLemmas.{shown-then}

-- the node was called, and what it hands out is posted
pub then-posts : (moment later : ℕ) (asked : Asked) (old mid new : Net) (outs : List Out) (steps : List Step)
    (result : Result Posted End) → mid ≡ old → Posts Soap12 later outs mid new steps result
    → CallsOnce moment later asked old new (own_step moment asked (Ok outs) ∷ steps) result
then-posts moment later asked old mid new outs steps result link did =
    subst (λ (n : Net). CallsOnce moment later asked n new (own_step moment asked (Ok outs) ∷ steps) result) link
    (posts outs steps result did)

-- a sequence is reached from what is alike
pub reached-from : (records : List Fact) (to : List ℕ) (shown later : Option ℕ) (old mid new : Net) (steps : List Step)
    (result : Result (ℕ × ℕ) End) → later ≡ shown → mid ≡ old → Reached records to later mid new steps result
    → Reached records to shown old new steps result
reached-from records to shown later old mid new steps result same link did =
    subst (λ (s : Option ℕ). Reached records to s old new steps result) same
    (subst (λ (n : Net). Reached records to later n new steps result) link did)

-- the payload is sent where this is true, and else nothing happens
abbrev IfOpen : Bool → Place → Place → ℕ → List ℕ → Option ℕ → Net → Net → List Step → Result (Unit {0}) End → Type 0
IfOpen open_ x z seq payload shown old new steps result =
    MatchBool open_
    ((text : Result (List ℕ) End) × SendsOn x z seq payload shown old new steps text × (result ≡ no_text text))
    ((new ≡ old) × (steps ≡ []) × (result ≡ Ok tt))

-- the sequence isn't open
if-shut : (open_ : Bool) (x z : Place) (seq : ℕ) (payload : List ℕ) (shown : Option ℕ) (net : Net) → open_ ≡ false
    → IfOpen open_ x z seq payload shown net net [] (Ok tt)
if-shut true x z seq payload shown net is = absurd cc
if-shut false x z seq payload shown net is = (refl, refl, refl)

pub shut : (x z : Place) (seq : ℕ) (payload : List ℕ) (shown : Option ℕ) (net : Net)
    → is_open (outgoing_in x.node.stored.records seq) ≡ false → SendsIfOpen x z seq payload shown net net [] (Ok tt)
shut x z seq payload shown net is =
    if-shut (is_open (outgoing_in x.node.stored.records seq)) x z seq payload shown net is

-- it is open, and the payload is sent
if-open : (open_ : Bool) (x z : Place) (seq : ℕ) (payload : List ℕ) (shown : Option ℕ) (old new : Net)
    (steps : List Step) (text : Result (List ℕ) End) (result : Result (Unit {0}) End)
    → open_ ≡ true → SendsOn x z seq payload shown old new steps text → result ≡ no_text text
    → IfOpen open_ x z seq payload shown old new steps result
if-open true x z seq payload shown old new steps text result is on same = (text, on, same)
if-open false x z seq payload shown old new steps text result is on same = absurd cc

pub open-ended : (x z : Place) (seq : ℕ) (payload : List ℕ) (shown : Option ℕ) (old new : Net) (steps : List Step)
    (text : Result (List ℕ) End) (result : Result (Unit {0}) End)
    → is_open (outgoing_in x.node.stored.records seq) ≡ true → SendsOn x z seq payload shown old new steps text
    → result ≡ no_text text → SendsIfOpen x z seq payload shown old new steps result
open-ended x z seq payload shown old new steps text result is on same =
    if-open (is_open (outgoing_in x.node.stored.records seq)) x z seq payload shown old new steps text result is on same

-- by a clock that stands where it stood
pub sends-from : (x z : Place) (seq : ℕ) (payload : List ℕ) (shown now : Option ℕ) (old new : Net) (steps : List Step)
    (result : Result (List ℕ) End) → StandsAt shown now → SendsOn x z seq payload now old new steps result
    → SendsOn x z seq payload shown old new steps result
sends-from x z seq payload shown now old new steps result stands did = record {
  later = did.later;
  clock = shown-then shown now did.later stands did.clock;
  posted = did.posted;
  calls = did.calls;
  told = did.told;
}

if-from : (open_ : Bool) (x z : Place) (seq : ℕ) (payload : List ℕ) (shown now : Option ℕ) (old new : Net)
    (steps : List Step) (result : Result (Unit {0}) End) → StandsAt shown now
    → IfOpen open_ x z seq payload now old new steps result → IfOpen open_ x z seq payload shown old new steps result
if-from true x z seq payload shown now old new steps result stands (text, on, same) =
    (text, sends-from x z seq payload shown now old new steps text stands on, same)
if-from false x z seq payload shown now old new steps result stands did = did

pub if-open-from : (x z : Place) (seq : ℕ) (payload : List ℕ) (shown now : Option ℕ) (old new : Net)
    (steps : List Step) (result : Result (Unit {0}) End) → StandsAt shown now
    → SendsIfOpen x z seq payload now old new steps result → SendsIfOpen x z seq payload shown old new steps result
if-open-from x z seq payload shown now old new steps result stands did =
    if-from (is_open (outgoing_in x.node.stored.records seq)) x z seq payload shown now old new steps result stands did

-- a packet before found no connection, and all else was done
after-lost : (x z : Place) (seq n : ℕ) (payload : List ℕ) (shown : Option ℕ) (old new : Net) (steps : List Step)
    (open_ : Bool)
    → is_open (outgoing_in x.node.stored.records seq) ≡ open_
    → IfOpen open_ x z seq payload shown old new steps (Ok tt)
    → SendsAfter x z seq payload shown old new (suc n) steps (Err LinkFault)
after-lost x z seq n payload shown old new steps true is (Ok text, on, same) = late n steps (Ok text) is on
after-lost x z seq n payload shown old new steps true is (Err e, on, same) = absurd cc
after-lost x z seq n payload shown old new steps false is (quiet, none, same) =
    subst (λ (s : List Step). SendsAfter x z seq payload shown old new (suc n) s (Err LinkFault)) (sym none)
    (lost n is quiet)

-- so it is where some packets found none
pub lost-after : (x z : Place) (seq undialled : ℕ) (payload : List ℕ) (shown : Option ℕ) (old new : Net)
    (steps : List Step)
    → 0 < undialled → SendsIfOpen x z seq payload shown old new steps (Ok tt)
    → SendsAfter x z seq payload shown old new undialled steps (Err LinkFault)
lost-after x z seq zero payload shown old new steps some did = absurd (omega (arith, some))
lost-after x z seq (suc n) payload shown old new steps some did =
    after-lost x z seq n payload shown old new steps (is_open (outgoing_in x.node.stored.records seq)) refl did

-- or it failed while it was sent
after-failed : (x z : Place) (seq n : ℕ) (payload : List ℕ) (shown : Option ℕ) (old new : Net) (steps : List Step)
    (e : End) (open_ : Bool)
    → is_open (outgoing_in x.node.stored.records seq) ≡ open_
    → IfOpen open_ x z seq payload shown old new steps (Err e)
    → SendsAfter x z seq payload shown old new (suc n) steps (Err e)
after-failed x z seq n payload shown old new steps e true is (Ok text, on, same) = absurd cc
after-failed x z seq n payload shown old new steps e true is (Err why, on, same) =
    let alike : e ≡ why = cc in
    subst (λ x2. SendsAfter x z seq payload shown old new (suc n) steps (Err x2)) (sym alike)
    (late n steps (Err why) is on)
after-failed x z seq n payload shown old new steps e false is (quiet, none, same) = absurd cc

pub failed-after : (x z : Place) (seq undialled : ℕ) (payload : List ℕ) (shown : Option ℕ) (old new : Net)
    (steps : List Step) (e : End)
    → 0 < undialled → SendsIfOpen x z seq payload shown old new steps (Err e)
    → SendsAfter x z seq payload shown old new undialled steps (Err e)
failed-after x z seq zero payload shown old new steps e some did = absurd (omega (arith, some))
failed-after x z seq (suc n) payload shown old new steps e some did =
    after-failed x z seq n payload shown old new steps e (is_open (outgoing_in x.node.stored.records seq)) refl did

-- the line that is told of a payload
pub told-line : (x z : Place) (seq number : ℕ) (acked : Bool) (records : List Fact) (text : List ℕ) (posted : Posted)
    → text ≡ sent_line seq number acked → acked ≡ is_acked (outgoing_in records seq) number
    → records ≡ z.node.stored.records → number ≡ next_number x seq → text ≡ line_at x z seq posted
told-line x z seq number acked records text posted t a r n =
    t ∙ ap (sent_line seq number) (a ∙ ap (λ (q : List Fact). is_acked (outgoing_in q seq) number) r)
    ∙ ap (λ (k : ℕ). sent_line seq k (is_acked (outgoing_in z.node.stored.records seq) k)) n
