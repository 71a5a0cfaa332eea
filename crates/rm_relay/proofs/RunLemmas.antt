-- A relay's script from three new nodes on.
use Rattle.std.proofs.Common.{◌≡◌, ◌∙◌, ℕ, List, ◌++◌, append_assoc, ap, inl, inr}
use Rattle.std.specs.Prelude.{◌⊎◌, IfOk, OnErr, OnOk, Result, Ok, Err}
use Rattle.rm_base.specs.declared.failures.Memory.{Memory}
use Rattle.rm_protocol.specs.Terms.{Terms}
use Rattle.rm_replay.specs.TaleLemmas.{tells_from}
use Rattle.rm_replay.specs.Net.{AreOfNet}
use Rattle.rm_relay.specs.declared.word.station.Station.{Station}
use Rattle.rm_relay.specs.Headline.{KeepsCut, KeepsPromise, KeepsPromiseIn, KeepsPromiseOf, KeepsShort}
use Rattle.rm_relay.specs.Meaning.{stepped}
use Rattle.rm_relay.specs.Played.{IsUnmade, Played, Ran, RanShort, Story, TellAll, WereSpared}
use Rattle.rm_relay.specs.Playing.{AllPlayed}
use Rattle.rm_relay.specs.Report.{end_text}
use Rattle.rm_relay.specs.Shows.{Holds, IsLeftOfLine, Scene}
use Rattle.rm_relay.specs.declared.event.Event.{Event as Said}
use Rattle.rm_relay.specs.declared.stage.Nodes3.{Nodes3}
use Rattle.rm_relay.proofs.EventLemmas.{EachIsLeft, holds_of}

-- ---- the nodes were made, and nothing befell the disks

tell_from : (s : Story) (old mid now : Scene) → WereSpared old.drives mid.drives → TellAll s mid now
    → TellAll s old now
tell_from s old mid now made tell = record {
  one = tells_from s.one old.drives.one mid.drives.one now.drives.one made.one tell.one;
  two = tells_from s.two old.drives.two mid.drives.two now.drives.two made.two tell.two;
  three = tells_from s.three old.drives.three mid.drives.three now.drives.three made.three tell.three;
}

-- ---- all lines were played

-- two texts behind another one, and a third
pub third_behind : (old a b c one two : List ℕ) → one ≡ old ++ a → two ≡ one ++ b
    → two ++ c ≡ old ++ (a ++ (b ++ c))
third_behind old a b c one two first second =
    let both : two ≡ (old ++ a) ++ b = second ∙ ap (λ (t : List ℕ). t ++ b) first in
    let all : two ++ c ≡ ((old ++ a) ++ b) ++ c = ap (λ (t : List ℕ). t ++ c) both in
    let last : ((old ++ a) ++ b) ++ c ≡ (old ++ a) ++ (b ++ c) = append_assoc (old ++ a) b c in
    let front : (old ++ a) ++ (b ++ c) ≡ old ++ (a ++ (b ++ c)) = append_assoc old a (b ++ c) in
    all ∙ last ∙ front

pub ran_of : EachIsLeft → (terms : Terms) (script : List Said) (first now : Scene) (nodes : Nodes3)
    (senders : List Station) (text longer : List ℕ) → (all : AllPlayed terms script first now nodes senders text)
    → longer ≡ text ++ end_text all.story.world → Ran terms script first now longer
ran_of each terms script first now nodes senders text longer all put = record {
  story = all.story;
  played = all.played;
  holds = holds_of each all.story.world now nodes senders all.shows;
  tell = all.tell;
  printed = put ∙ ap (λ (t : List ℕ). t ++ end_text all.story.world) all.printed;
}

-- after the nodes were made
pub ran_from : (terms : Terms) (script : List Said) (old mid now : Scene) (text : List ℕ)
    → WereSpared old.drives mid.drives → Ran terms script mid now text → Ran terms script old now text
ran_from terms script old mid now text made ran = record {
  story = ran.story;
  played = ran.played;
  holds = ran.holds;
  tell = tell_from ran.story old mid now made ran.tell;
  printed = ran.printed;
}

-- ---- memory was wanting

pub short_from : (terms : Terms) (script : List Said) (old mid now : Scene) → WereSpared old.drives mid.drives
    → RanShort terms script mid now → RanShort terms script old now
short_from terms script old mid now made short = record {
  count = short.count;
  story = short.story;
  played = short.played;
  before = short.before;
  tell = tell_from short.story old mid short.before made short.tell;
  left = short.left;
}

-- ---- the promise

-- what a played script made keeps it
abbrev pub WholeKeeps : Type 0
WholeKeeps =
    (terms : Terms) (script : List Said) (s : Story) → AreOfNet terms → Played terms script s → (scene : Scene)
    → Holds s.world scene → KeepsPromiseOf s.world scene

-- and what stands where memory was wanting in a further line
abbrev pub ShortKeeps : Type 0
ShortKeeps =
    (terms : Terms) (script : List Said) (s : Story) → AreOfNet terms → Played terms script s → (line : Said)
    (scene : Scene) → IsLeftOfLine terms s.world line scene → KeepsPromiseIn terms s.world line scene

short_keeps : WholeKeeps → ShortKeeps → (terms : Terms) (script : List Said) (first now : Scene) → AreOfNet terms
    → (short : RanShort terms script first now) → KeepsShort terms script first now short
short_keeps whole part terms script first now net short =
    elim short.left [
      | inl still ↦ inl (whole terms _ short.story net short.played now still.0)
      | inr line ↦ inr (line.0, line.1, part terms _ short.story net short.played line.0 now line.2.left)
    ]

-- or a node was not made
pub cut_keeps : WholeKeeps → ShortKeeps → (terms : Terms) (script : List Said) (first now : Scene) → AreOfNet terms
    → (cut : IsUnmade first now ⊎ RanShort terms script first now) → KeepsCut terms script first now cut
cut_keeps whole part terms script first now net (inl unmade) = tt
cut_keeps whole part terms script first now net (inr short) = short_keeps whole part terms script first now net short

-- so it is kept by the nodes of some world
short_promise : (terms : Terms) (script : List Said) (first now : Scene) (short : RanShort terms script first now)
    → KeepsShort terms script first now short → KeepsPromise now
short_promise terms script first now short (inl keeps) = (short.story.world, keeps)
short_promise terms script first now short (inr (line, at, inl keeps)) = (short.story.world, keeps)
short_promise terms script first now short (inr (line, at, inr (event, means, keeps))) =
    (stepped terms short.story.world event, keeps)

-- ---- by what was answered

-- a report, or nothing
pub ok_ran : (terms : Terms) (script : List Said) (old mid now : Scene) (result : Result (List ℕ) Memory)
    → WereSpared old.drives mid.drives → IfOk result (λ (text : List ℕ). Ran terms script mid now text)
    → IfOk result (λ (text : List ℕ). Ran terms script old now text)
ok_ran terms script old mid now (Ok text) made ran = ran_from terms script old mid now text made ran
ok_ran terms script old mid now (Err memory) made ran = tt

pub err_ran : (terms : Terms) (script : List Said) (old mid now : Scene) (result : Result (List ℕ) Memory)
    → WereSpared old.drives mid.drives → OnErr result (RanShort terms script mid now)
    → OnErr result (IsUnmade old now ⊎ RanShort terms script old now)
err_ran terms script old mid now (Ok text) made short = tt
err_ran terms script old mid now (Err memory) made short = inr (short_from terms script old mid now made short)

pub ok_keeps : WholeKeeps → (terms : Terms) (script : List Said) (first now : Scene) (result : Result (List ℕ) Memory)
    → AreOfNet terms → IfOk result (λ (text : List ℕ). Ran terms script first now text)
    → OnOk result (KeepsPromise now)
ok_keeps whole terms script first now (Ok text) net ran =
    (ran.story.world, whole terms script ran.story net ran.played now ran.holds)
ok_keeps whole terms script first now (Err memory) net ran = tt

pub err_keeps : WholeKeeps → ShortKeeps → (terms : Terms) (script : List Said) (old first now : Scene)
    (result : Result (List ℕ) Memory) → AreOfNet terms → OnErr result (RanShort terms script first now)
    → OnErr result (IsUnmade old now ⊎ KeepsPromise now)
err_keeps whole part terms script old first now (Ok text) net short = tt
err_keeps whole part terms script old first now (Err memory) net short =
    inr (short_promise terms script first now short (short_keeps whole part terms script first now net short))
