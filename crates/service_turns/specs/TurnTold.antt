-- What a run tells that went well, over a traffic that tells: which things came, and what was given back of each.
use Rattle.std.proofs.Common.{◌≡◌, ◌∙◌, ℕ, Bool, List, [], ◌∷◌, ◌++◌, Option, Some, Result, Ok, Err, ap, append_assoc}
use Rattle.std.proofs.Common.{refl}
use Rattle.std.proofs.Common.{subst, sym}
use Rattle.std.proofs.lemmas.List.{append-nil}
use Rattle.service_turns.specs.Traffic.{Adds, Brings, Came, Comes, Gave, Scene}
use Rattle.service_turns.specs.Turns.{Did, Does, Turn, Turns, answer_of, came, came_for, deaf, done, ends, goes, over}
use Rattle.service_turns.specs.Turns.{posted, stopped, stuck}
use Rattle.service_turns.specs.declared.traffic.Packet.{Packet}
use Rattle.service_turns.specs.declared.turns.Halt.{Halt}

-- what was done in a turn, and the packets of it
pub record Entry : Type 0 where
  pub did : Did
  pub packets : List Packet

-- a desk did these, one after the other
pub data Row {S W : Type 0} (does : S → Did → Result (List Packet) W → S → Type 0) : S → S → List Entry → Type 0 where
  nothing : (s : S) → Row does s s []
  something : (s t u : S) (entry : Entry) (more : List Entry) → does s entry.did (Ok entry.packets) t
      → Row does t u more → Row does s u (entry ∷ more)

-- what came for them, in order
abbrev pub came_of_all : List Entry → List Came
came_of_all [] = []
came_of_all (entry ∷ more) = came_for entry.did ∷ came_of_all more

-- what was given back of them, in order: of each the answer, and then the packets
abbrev pub given_of_all : List Entry → List Gave
given_of_all [] = []
given_of_all (entry ∷ more) = (answer_of entry.did ++ posted entry.packets) ++ given_of_all more

-- these came first of what was to come, where the traffic tells that
abbrev pub Brought : Option (List Came) → Option (List Came) → List Came → Type 0
Brought old new first =
    (all : List Came) → old ≡ Some all → (rest : List Came) × (new ≡ Some rest) × (all ≡ first ++ rest)

-- what was done and told from one scene to another
pub record TellsAll {S W : Type 0} (does : S → Did → Result (List Packet) W → S → Type 0) (s t : S) (old new : Scene)
    : Type 0 where
  pub entries : List Entry
  pub row : Row does s t entries
  pub came : Brought old.coming new.coming (came_of_all entries)
  pub given : Adds old.given new.given (given_of_all entries)

-- ---- the lemma

-- the first of what was to come
first-brought : (old mid new : Option (List Came)) (what : Came) → Brings old mid (Some what) → new ≡ mid
    → Brought old new (what ∷ [])
first-brought old mid new what brings same all is =
    let b = subst (λ (o : Option (List Came)). Brings o mid (Some what)) is brings in
    (b.0, same ∙ b.2, b.1)

-- and others after it
brought-on : (old mid new : Option (List Came)) (what : Came) (more : List Came) → Brought old mid (what ∷ [])
    → Brought mid new more → Brought old new (what ∷ more)
brought-on old mid new what more one two all is =
    let a = one all is in
    let b = two a.0 a.1 in
    (b.0, b.1, a.2 ∙ ap (λ (l : List Came). what ∷ l) b.2)

adds-on : (old mid new : Option (List Gave)) (first last : List Gave) → Adds old mid first → Adds mid new last
    → Adds old new (first ++ last)
adds-on old mid new first last one two all told =
    let b = two all told in
    let a = one b.0 b.1 in
    (a.0, a.1, b.2 ∙ ap (λ (l : List Gave). l ++ last) a.2 ∙ append_assoc a.0 first last)

-- one turn
does-tells : {S W : Type 0} (does : S → Did → Result (List Packet) W → S → Type 0) {s t : S} {old mid new : Scene}
    {what : Came} {result : Result (Unit {0}) (Halt W)} → Comes old mid (Some what)
    → Does does s t mid new what result → result ≡ Ok tt
    → (entry : Entry) × does s entry.did (Ok entry.packets) t × Brought old.coming new.coming (came_for entry.did ∷ [])
    × Adds old.given new.given (answer_of entry.did ++ posted entry.packets)
does-tells does {s} {t} {old} {mid} {new} comes (done did packets one gives) ok = (
  record { did = did; packets = packets },
  one,
  first-brought old.coming mid.coming new.coming (came_for did) comes.brings gives.coming,
  λ all told.
      let b = gives.adds all told in
      (b.0, sym comes.given ∙ b.1, b.2),
)
does-tells does comes (stuck did why same one) ok = absurd cc

turn-tells : {S W : Type 0} (does : S → Did → Result (List Packet) W → S → Type 0) {s t : S} {old new : Scene}
    {result : Result (Unit {0}) (Halt W)} → Turn does s t old new result → result ≡ Ok tt
    → (entry : Entry) × does s entry.did (Ok entry.packets) t × Brought old.coming new.coming (came_for entry.did ∷ [])
    × Adds old.given new.given (answer_of entry.did ++ posted entry.packets)
turn-tells does (deaf is comes) ok = absurd cc
turn-tells does (came mid what result comes did) ok = does-tells does comes did ok

-- one turn, and no more
one-tells : {S W : Type 0} (does : S → Did → Result (List Packet) W → S → Type 0) (s t : S) (old new : Scene)
    (entry : Entry) → does s entry.did (Ok entry.packets) t
    → Brought old.coming new.coming (came_for entry.did ∷ [])
    → Adds old.given new.given (answer_of entry.did ++ posted entry.packets) → TellsAll does s t old new
one-tells does s t old new entry one first gave = record {
  entries = entry ∷ [];
  row = something s t t entry [] one (nothing t);
  came = first;
  given = subst (λ (l : List Gave). Adds old.given new.given l)
      (sym (append-nil (answer_of entry.did ++ posted entry.packets))) gave;
}

-- A run that went well did some things, one after the other. Over a traffic that tells they are those that came, in
-- order, and what was given back is of each the answer, byte for byte, and then the packets.
pub run_tells : {S W : Type 0} (does : S → Did → Result (List Packet) W → S → Type 0) (stops : S → Bool) (n : ℕ)
    (s t : S) (old new : Scene) (result : Result (Unit {0}) (Halt W)) → Turns does stops n s t old new result
    → result ≡ Ok tt → TellsAll does s t old new
run_tells does stops _ _ _ _ _ _ (over s net) ok = record {
  entries = [];
  row = nothing s;
  came = λ all is. (all, is, refl);
  given = λ all told. (all, told, sym (append-nil all));
}
run_tells does stops _ _ _ _ _ _ (ends n s t old new halt turn) ok = absurd cc
run_tells does stops _ _ _ _ _ _ (stopped n s t old new turn stop) ok =
    let e = turn-tells does turn ok in
    one-tells does s t old new e.0 e.1 e.2 e.3
run_tells does stops _ _ _ _ _ _ (goes n s t u old mid new result turn go rest) ok =
    let e = turn-tells does turn refl in
    let more = run_tells does stops n t u mid new result rest ok in
    record {
      entries = e.0 ∷ more.entries;
      row = something s t u e.0 more.entries e.1 more.row;
      came = brought-on old.coming mid.coming new.coming (came_for e.0.did) (came_of_all more.entries) e.2 more.came;
      given = adds-on old.given mid.given new.given (answer_of e.0.did ++ posted e.0.packets)
          (given_of_all more.entries) e.3 more.given;
    }
