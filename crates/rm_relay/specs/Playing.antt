-- A relay's script while it is played.
use Rattle.std.specs.Prelude.{◌≡◌, ℕ, List, ◌++◌, Option, Result, Ok, Err}
use Rattle.rm_base.specs.declared.failures.Memory.{Memory}
use Rattle.rm_protocol.specs.Terms.{Terms}
use Rattle.rm_replay.specs.Tales.{Tells}
use Rattle.rm_relay.specs.Meaning.{Means, comes_out, report_of, stepped}
use Rattle.rm_relay.specs.Played.{IsCut, Played, RanShort, Story, TellAll, tale_of}
use Rattle.rm_relay.specs.Report.{lines_text}
use Rattle.rm_relay.specs.Shows.{Scene, Shows}
use Rattle.rm_relay.specs.Word.World.{Event, World}
use Rattle.rm_relay.specs.declared.event.Event.{Event as Said}
use Rattle.rm_relay.specs.declared.word.station.Station.{Station}
use Rattle.rm_relay.specs.declared.word.station.Station.TheVariants.{One, Two, Three}
use Rattle.rm_relay.specs.declared.stage.Nodes3.{Nodes3}

-- a line was played that means this event, and the report has its line
pub record LinePlayed (terms : Terms) (w : World) (number : ℕ) (line : Said) (old new : Scene) (nodes : Nodes3)
    (senders : List Station) (before after : List ℕ) : Type 0 where
  pub event : Option Event
  pub means : Means line event
  pub shows : Shows (stepped terms w event) new nodes senders
  pub one : Tells (tale_of terms w One line event) old.drives.one new.drives.one
  pub two : Tells (tale_of terms w Two line event) old.drives.two new.drives.two
  pub three : Tells (tale_of terms w Three line event) old.drives.three new.drives.three
  pub printed : after
      ≡ before ++ lines_text (report_of number (comes_out terms w event) (stepped terms w event))

-- Where memory was wanting for the report, the line may have been played all the same.
abbrev pub PlaysLine : Terms → World → ℕ → Said → Scene → Scene → Nodes3 → List Station → List ℕ → List ℕ
    → Result Unit Memory → Type 0
PlaysLine terms w number line old new nodes senders before after (Ok done) =
    LinePlayed terms w number line old new nodes senders before after
PlaysLine terms w number line old new nodes senders before after (Err memory) = IsCut terms w line old new

-- all lines were played, and this is the report so far
pub record AllPlayed (terms : Terms) (script : List Said) (first now : Scene) (nodes : Nodes3)
    (senders : List Station) (text : List ℕ) : Type 0 where
  pub story : Story
  pub played : Played terms script story
  pub shows : Shows story.world now nodes senders
  pub tell : TellAll story first now
  pub printed : text ≡ lines_text story.report

-- a script was played; who sent the packets is of no account then
abbrev pub Plays : Terms → List Said → Scene → Scene → Nodes3 → List ℕ → Result Unit Memory → Type 0
Plays terms script first now nodes text (Ok done) =
    (senders : List Station) × AllPlayed terms script first now nodes senders text
Plays terms script first now nodes text (Err memory) = RanShort terms script first now
