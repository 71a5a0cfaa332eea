-- What is handed out, and a node that is up after it.
use Rattle.std.proofs.Common.{◌≡◌, ◌∙◌, ℕ, true, List, [], ◌∷◌, ◌++◌, ap, append_assoc, inl, inr, refl, subst, sym}
use Rattle.std.specs.Io.KnownBytes.{Appends}
use Rattle.std.specs.Prelude.{Bool, OnErr, OnOk, Result, Ok, Err, is_ok}
use Rattle.rm_base.specs.Count.{Rose}
use Rattle.rm_base.specs.Outside.{AppendsFront, Stream}
use Rattle.rm_base.specs.declared.outside.SinkError.{SinkError}
use Rattle.rm_base.specs.declared.outside.SinkError.TheVariants as sink
use Rattle.rm_node.specs.declared.error.NodeError.{NodeError}
use Rattle.rm_node.specs.declared.packets.Out.{Out}
use Rattle.rm_node.specs.declared.step.Reaction.{Reaction}
use Rattle.rm_serve.specs.Steps.{IsReady, IsUp, Place}
use Rattle.rm_serve.specs.declared.serving.Served.{Served}
use Rattle.rm_host.specs.Doings.{Writes}
use Rattle.rm_host.specs.declared.end.End.{End}
use Rattle.rm_host.specs.declared.end.End.TheVariants as end
use Rattle.service_turns.specs.declared.traffic.Packet.{Packet}
use Rattle.rm_station.specs.Works.{IsPacked, packed, packet_of, reaction_outs, served_outs}
use Rattle.rm_station.specs.declared.said.Said.{Said}

-- what holds where all went well holds of its packets
pub packed-ok : (P : Type 0) (outs : Result (List Out) End) (result : Result (List Packet) End) → IsPacked outs result
    → OnOk outs P → OnOk result P
packed-ok P (Ok outs) result (inl same) holds = subst (λ r. OnOk r P) (sym same) holds
packed-ok P (Ok outs) result (inr none) holds = subst (λ r. OnOk r P) (sym none) tt
packed-ok P (Err e) result same holds = subst (λ r. OnOk r P) (sym same) tt

-- what is handed out is packed, or memory was wanting
pub packs-told : (outs : Result (List Out) End) (list : List Out) (packets : List Packet) → outs ≡ Ok list
    → packets ≡ packed list → IsPacked outs (Ok packets)
packs-told outs list packets is same =
    subst (λ (o : Result (List Out) End). IsPacked o (Ok packets)) (sym is) (inl (ap Ok same))

pub packs-lacks : (outs : Result (List Out) End) (list : List Out) (result : Result (List Packet) End)
    → outs ≡ Ok list → result ≡ Err end.Memory → IsPacked outs result
packs-lacks outs list result is none =
    subst (λ (o : Result (List Out) End). IsPacked o result) (sym is) (inr none)

-- a node that is up is so after it took bytes well
pub up-heard : (tells : Bool) (x z : Place) (came : Result Reaction NodeError) (result : Result (List Out) End)
    → IsUp tells x → IsReady tells z
    → OnOk came (z.node.stored.journal.is_down ≡ x.node.stored.journal.is_down) → result ≡ reaction_outs came
    → OnOk result (IsUp tells z)
up-heard tells x z (Ok reaction) result up ready same is =
    subst (λ r. OnOk r (IsUp tells z)) (sym is) (record { up = same ∙ up.up; ready = ready })
up-heard tells x z (Err e) result up ready same is = subst (λ r. OnOk r (IsUp tells z)) (sym is) tt

-- and after it served a connection well
pub up-served : (tells : Bool) (x z : Place) (came : Result Served NodeError) (result : Result (List Out) End)
    → IsUp tells x → IsReady tells z
    → OnOk came (z.node.stored.journal.is_down ≡ x.node.stored.journal.is_down) → result ≡ served_outs came
    → OnOk result (IsUp tells z)
up-served tells x z (Ok served) result up ready same is =
    subst (λ r. OnOk r (IsUp tells z)) (sym is) (record { up = same ∙ up.up; ready = ready })
up-served tells x z (Err e) result up ready same is = subst (λ r. OnOk r (IsUp tells z)) (sym is) tt

-- and where the text of what it did was written
pub up-answered : (P : Type 0) (said : Result Said End) (result : Result (List Out) End) → OnOk said P
    → OnOk result (is_ok said ≡ true) → OnOk result P
up-answered P said (Err e) up lasts = tt
up-answered P (Ok words) (Ok outs) up lasts = up
up-answered P (Err e) (Ok outs) up lasts = absurd cc

pub on-ok : (P : Type 0) (result : Result (List Out) End) → P → OnOk result P
on-ok P (Ok outs) holds = holds
on-ok P (Err e) holds = tt

-- a text was written, or not
pub writes : (old new : Stream) (text : List ℕ) (result : Result (Unit {0}) SinkError)
    → OnOk result (Appends old.held new.held text) → OnErr result (AppendsFront old.held new.held text)
    → (result ≡ Err sink.Failed → Rose old.faults new.faults) → Writes true old new text result
writes old new text (Ok done) ok err failed = ok
writes old new text (Err sink.Failed) ok err failed = (failed refl, err)
writes old new text (Err sink.Memory) ok err failed = (refl, err)

-- what one side of a connection tells is what both do
pub both-sides : (P : Stream → Stream → Type 0) (a b s t : Stream) → a ≡ s → b ≡ t → P a b → P s t
both-sides P a b s t first later p = subst (λ (x : Stream). P s x) later (subst (λ (x : Stream). P x b) first p)

-- one packet more
pub pushed : (packets new all : List Packet) (before after : List Out) (out : Out) → before ≡ out ∷ after
    → new ≡ packets ++ packet_of out ∷ [] → packets ++ packed before ≡ all → new ++ packed after ≡ all
pushed packets new all before after out is more so_far =
    ap (λ (l : List Packet). l ++ packed after) more
    ∙ append_assoc packets (packet_of out ∷ []) (packed after)
    ∙ ap (λ (b : List Out). packets ++ packed b) (sym is)
    ∙ so_far
