-- A script from two new nodes on.
use Rattle.std.proofs.Common.{◌≡◌, ◌∙◌, ◌+◌, ℕ, List, ◌∷◌, ◌++◌, append_assoc, ap, sym, subst, inl, inr, take, []}
use Rattle.std.proofs.Common.{slice_get, Some}
use Rattle.std.proofs.lemmas.List.{take_more}
use Rattle.std.proofs.lemmas.Option.{get_or_from_slice_get, slice_get_within}
use Rattle.std.specs.Prelude.{◌⊎◌}
use Rattle.rm_protocol.specs.Terms.{Terms}
use Rattle.rm_script.specs.declared.event.Event.{Event as Said}
use Rattle.rm_replay.specs.Asked.{WereSpared}
use Rattle.rm_replay.specs.Headline.{KeepsPairOf}
use Rattle.rm_replay.specs.Net.{AreOfNet}
use Rattle.rm_replay.specs.Played.{KeepsPlayed, KeepsShort, Played, Ran, RanCut, RanShort, Story}
use Rattle.rm_replay.specs.Played.{TellBoth, known_text}
use Rattle.rm_replay.specs.Playing.{AllPlayed}
use Rattle.rm_replay.specs.Sent.{AcceptedIsSent}
use Rattle.rm_replay.specs.Shows.{Holds, IsLeftOfLine, Scene}
use Rattle.rm_replay.specs.TaleLemmas.{tells_from}
use Rattle.rm_replay.specs.declared.stage.Nodes.{Nodes}
use Rattle.rm_replay.proofs.EventLemmas.{EachIsLeft, holds_of}
use Rattle.rm_replay.proofs.StoryLemmas.{short_end}

-- ---- the nodes were made, and nothing befell the disks

tell_from : (s : Story) (old mid now : Scene) → WereSpared old.drives mid.drives → TellBoth s mid now
    → TellBoth s old now
tell_from s old mid now made tell = record {
  one = tells_from s.one old.drives.one mid.drives.one now.drives.one made.one tell.one;
  two = tells_from s.two old.drives.two mid.drives.two now.drives.two made.two tell.two;
}

-- ---- all lines were played

-- what a played script made is what was sent
abbrev pub PlayedIsSent : Type 0
PlayedIsSent =
    (terms : Terms) (script : List Said) (s : Story) → AreOfNet terms → Played terms script s → (scene : Scene)
    → Holds s.world scene → AcceptedIsSent s.world script s.report scene

pub ran_of : EachIsLeft → PlayedIsSent → (terms : Terms) (script : List Said) (old mid now : Scene) (nodes : Nodes)
    (text one two : List ℕ) → AreOfNet terms → WereSpared old.drives mid.drives
    → (all : AllPlayed terms script mid now nodes text)
    → one ≡ text ++ known_text 1 all.story.world.one → two ≡ one ++ known_text 2 all.story.world.two
    → Ran terms script old now two
ran_of each law terms script old mid now nodes text one two net made all first second =
    let w = all.story.world in
    let a = known_text 1 w.one in
    let b = known_text 2 w.two in
    record {
      story = all.story;
      played = all.played;
      holds = holds_of each w now nodes all.shows;
      tell = tell_from all.story old mid now made all.tell;
      printed = second ∙ ap (λ (t : List ℕ). t ++ b) first ∙ append_assoc text a b
          ∙ ap (λ (t : List ℕ). t ++ (a ++ b)) all.printed;
      sent = law terms script all.story net all.played now (holds_of each w now nodes all.shows);
    }

-- ---- memory was wanting

pub short_from : (terms : Terms) (script : List Said) (old mid now : Scene) → WereSpared old.drives mid.drives
    → RanShort terms script mid now → RanShort terms script old now
short_from terms script old mid now made short = record {
  count = short.count;
  story = short.story;
  played = short.played;
  before = short.before;
  tell = tell_from short.story old mid short.before made short.tell;
  left = short.left;
}

pub short_told : EachIsLeft → (terms : Terms) (script : List Said) (old mid now : Scene) (nodes : Nodes)
    (text : List ℕ) → WereSpared old.drives mid.drives → AllPlayed terms script mid now nodes text
    → RanShort terms script old now
short_told each terms script old mid now nodes text made all =
    short_from terms script old mid now made (short_end each terms script mid now nodes text all)

-- ---- the headline

-- what a played script made keeps it
abbrev pub WholeKeeps : Type 0
WholeKeeps =
    (terms : Terms) (script : List Said) (s : Story) → AreOfNet terms → Played terms script s → (scene : Scene)
    → Holds s.world scene → KeepsPairOf s.world scene

-- and what stands where memory was wanting in a further line
abbrev pub ShortKeeps : Type 0
ShortKeeps =
    (terms : Terms) (script : List Said) (s : Story) → AreOfNet terms → Played terms script s → (line : Said)
    (scene : Scene) → IsLeftOfLine terms s.world line scene
    → KeepsPairOf s.world scene ⊎ KeepsPlayed terms (script ++ line ∷ []) scene

-- the first lines of a script, and the next one
take-next : (script : List Said) (count : ℕ) (line : Said) → slice_get script count ≡ Some line
    → take count script ++ line ∷ [] ≡ take (count + 1) script
take-next script count line at =
    sym (take_more script count line (slice_get_within script count line at)
    ∙ ap (λ (x : Said). take count script ++ x ∷ []) (get_or_from_slice_get script count line line at))

short_keeps : WholeKeeps → ShortKeeps → (terms : Terms) (script : List Said) (first now : Scene) → AreOfNet terms
    → (short : RanShort terms script first now) → KeepsShort terms script short.count now
short_keeps whole part terms script first now net short =
    elim short.left [
      | inl still ↦ inl (short.story, short.played, whole terms _ short.story net short.played now still.0)
      | inr line ↦ elim (part terms _ short.story net short.played line.0 now line.2.left) [
        | inl keeps ↦ inl (short.story, short.played, keeps)
        | inr keeps ↦ inr (subst (λ (lines : List Said). KeepsPlayed terms lines now)
            (take-next script short.count line.0 line.1) keeps)
      ]
    ]

-- or a node was not made
pub cut_of : WholeKeeps → ShortKeeps → (terms : Terms) (script : List Said) (first now : Scene) → AreOfNet terms
    → RanShort terms script first now → RanCut terms script first now
cut_of whole part terms script first now net short =
    inr (short, short_keeps whole part terms script first now net short)
