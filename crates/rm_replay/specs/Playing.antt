-- A script while it is played.
use Rattle.std.specs.Prelude.{◌≡◌, ℕ, List, ◌++◌, Option, Result, Ok, Err}
use Rattle.rm_base.specs.declared.failures.Memory.{Memory}
use Rattle.rm_protocol.specs.Terms.{Terms}
use Rattle.rm_protocol.specs.World.{One, Two, World, Event}
use Rattle.rm_script.specs.Report.Report.{lines_text}
use Rattle.rm_script.specs.declared.event.Event.{Event as Said}
use Rattle.rm_replay.specs.Meaning.{Means, comes_out, report_of, stepped}
use Rattle.rm_replay.specs.Played.{Played, RanShort, Story, TellBoth}
use Rattle.rm_replay.specs.Shows.{IsCut, Scene, Shows}
use Rattle.rm_replay.specs.Tales.{Tells, tale_of}
use Rattle.rm_replay.specs.declared.stage.Nodes.{Nodes}

-- a line was played that means this event, and the report has its line
pub record LinePlayed (terms : Terms) (w : World) (number : ℕ) (line : Said) (old new : Scene) (nodes : Nodes)
    (before after : List ℕ) : Type 0 where
  pub event : Option Event
  pub means : Means line event
  pub shows : Shows (stepped terms w event) new nodes
  pub one : Tells (tale_of terms w One line event) old.drives.one new.drives.one
  pub two : Tells (tale_of terms w Two line event) old.drives.two new.drives.two
  pub printed : after
      ≡ before ++ lines_text (report_of number (comes_out terms w line event) (stepped terms w event))

-- Where memory was wanting for the report, the line may have been played all the same.
abbrev pub PlaysLine : Terms → World → ℕ → Said → Scene → Scene → Nodes → List ℕ → List ℕ → Result Unit Memory → Type 0
PlaysLine terms w number line old new nodes before after (Ok done) =
    LinePlayed terms w number line old new nodes before after
PlaysLine terms w number line old new nodes before after (Err memory) = IsCut terms w line old new

-- all lines were played, and this is the report so far
pub record AllPlayed (terms : Terms) (script : List Said) (first now : Scene) (nodes : Nodes) (text : List ℕ) : Type 0
  where
    pub story : Story
    pub played : Played terms script story
    pub shows : Shows story.world now nodes
    pub tell : TellBoth story first now
    pub printed : text ≡ lines_text story.report

-- a script was played
abbrev pub Plays : Terms → List Said → Scene → Scene → Nodes → List ℕ → Result Unit Memory → Type 0
Plays terms script first now nodes text (Ok done) = AllPlayed terms script first now nodes text
Plays terms script first now nodes text (Err memory) = RanShort terms script first now
