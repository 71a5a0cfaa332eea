-- What it says of a node that an application was told `accepted`.
use Rattle.std.specs.Prelude.{◌≡◌, ℕ, ◌<◌, Bool, true, List, [], ◌∷◌, ◌++◌, Option, Some, Result, Ok, codes, is_some}
use Rattle.record_batch.specs.Fact.{Fact, Accepted}
use Rattle.rm_disk.specs.Told.{Told}
use Rattle.rm_host.specs.declared.end.End.{End}
use Rattle.rm_script.specs.Reading.{behind}
use Rattle.rm_serve.specs.Steps.{MakesAll, Place, Step}
use Rattle.service_turns.specs.Traffic.{Scene}
use Rattle.service_turns.specs.Turns.{Turns}
use Rattle.service_turns.specs.declared.turns.Halt.{Halt}
use Rattle.rm_station.specs.Runs.{does_of}
use Rattle.rm_station.specs.Texts.{accepted_line}
use Rattle.rm_station.specs.Works.{Tells, is_under, next_number, state_of}
use Rattle.rm_station.specs.declared.ask.Ask.TheVariants.{Offers}
use Rattle.rm_station.specs.declared.ask.Next.{Next}
use Rattle.rm_station.specs.declared.said.Said.{Said}
use Rattle.rm_station.specs.declared.station.Station.{Station}

-- the records of a node
abbrev pub records_at : Place → List Fact
records_at x = x.node.stored.records

-- a text that begins with the word accepted
abbrev pub says_accepted : List ℕ → Bool
says_accepted text = is_some (behind (codes "accepted ") text)

-- An application asked that a payload goes to an address, under numbers or without, and was told `accepted`: this was
-- done of it at one place, and led to another.
pub record Accepts (tells : Bool) (x z : Place) (next : Option Next) (payload text : List ℕ) : Type 0 where
  pub moment : ℕ
  pub to : List ℕ
  pub steps : List Step
  pub said : Said
  pub makes : MakesAll tells x z steps
  pub tells_ : Tells moment x.node.stored (Ok (Offers to next payload)) steps (Ok said)
  pub text_ : said.text ≡ text
  pub word : says_accepted text ≡ true

-- The payload is recorded: the text has a sequence, and the number that came next there and that was said with the
-- payload, where one was; and the payload is the next one of that sequence.
pub record IsRecorded (x z : Place) (next : Option Next) (payload text : List ℕ) (seq : ℕ) : Type 0 where
  pub text_ : text ≡ accepted_line seq (next_number (records_at x) seq)
  pub under : is_under seq (next_number (records_at x) seq) next ≡ true
  pub records : records_at z ≡ records_at x ++ Accepted seq payload ∷ []

-- it is, on one of the sequences
abbrev pub AcceptedIsRecorded : Type 0
AcceptedIsRecorded =
    (tells : Bool) (x z : Place) (next : Option Next) (payload text : List ℕ)
    → Accepts tells x z next payload text → (seq : ℕ) × IsRecorded x z next payload text seq

-- records stay where they are, whatever turns come
abbrev pub RecordsStay : {D C : Type 0} → Bool → (D → Told) → (C → Option ℕ) → Type 0
RecordsStay {D} {C} tells told clock =
    (n : ℕ) (s t : Station D C)
    (old new : Scene) (result : Result (Unit {0}) (Halt End))
    → Turns (does_of tells told clock) (λ (x : Station D C). x.is_stopped) n s t old new result
    → (more : List Fact)
    × (records_at (state_of told clock t).place ≡ records_at (state_of told clock s).place ++ more)

-- Two payloads that were accepted on one sequence, with any turns between them, have two numbers: that of the later one
-- is greater.
abbrev pub AcceptedOnce : {D C : Type 0} → Bool → (D → Told) → (C → Option ℕ) → Type 0
AcceptedOnce {D} {C} tells told clock =
    (n : ℕ) (s t : Station D C)
    (old new : Scene) (result : Result (Unit {0}) (Halt End)) (x z : Place) (seq : ℕ)
    (first later : Option Next) (payload other text words : List ℕ)
    → Accepts tells x (state_of told clock s).place first payload text
    → Turns (does_of tells told clock) (λ (a : Station D C). a.is_stopped) n s t old new result
    → Accepts tells (state_of told clock t).place z later other words
    → IsRecorded x (state_of told clock s).place first payload text seq
    → IsRecorded (state_of told clock t).place z later other words seq
    → next_number (records_at x) seq < next_number (records_at (state_of told clock t).place) seq

-- so what was accepted under a sequence and a number is not accepted again, if the same is asked
abbrev pub AskedAgain : {D C : Type 0} → Bool → (D → Told) → (C → Option ℕ) → Type 0
AskedAgain {D} {C} tells told clock =
    (n : ℕ) (s t : Station D C)
    (old new : Scene) (result : Result (Unit {0}) (Halt End)) (x z : Place) (next : Next)
    (payload other text words : List ℕ)
    → Accepts tells x (state_of told clock s).place (Some next) payload text
    → Turns (does_of tells told clock) (λ (a : Station D C). a.is_stopped) n s t old new result
    → Accepts tells (state_of told clock t).place z (Some next) other words → ⊥
