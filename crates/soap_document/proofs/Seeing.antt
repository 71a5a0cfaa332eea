-- What a reader stands for, from what its scanner and its stack stand for.
use Rattle.std.proofs.Common.{◌≡◌, ℕ, ◌+◌, ◌-◌, ◌≤◌, length, take, drop, List, Result, Ok, Err, OnOk, IfOk, refl, sym}
use Rattle.std.proofs.Common.{ap, subst, ◌∙◌, arith, length-drop}
use Rattle.soap_document.specs.Machine.{Frame, State, counted, run}
use Rattle.soap_document.specs.Seen.{seen, Holds, IsTold, fed_len, Sees, Taken, TakenBy}
use Rattle.soap_document.proofs.Answer.{take_rest}
use Rattle.soap_document.specs.declared.scan.Scan.{Scan}
use Rattle.soap_document.specs.declared.reader.Reader.{Reader}

module _ {H : Type 0} (stands : H → Frame → List Frame → Type 0) where
  -- what holds of each state of open elements that the stack stands for holds of the reader's own state
  pub seeing : (r : Reader H) (P : State → Type 0)
      → ((top : Frame) (below : List Frame) → Holds stands r.stack top below
      → P (seen r.scan top below)) → (s : State) → Sees stands r s → P s
  seeing r P f s h = subst P h.is (f s.top s.below h.holds)

  -- a reader stands for the state that it is seen to have
  pub sees : (r : Reader H) (top : Frame) (below : List Frame) (s : State) → Holds stands r.stack top below
      → seen r.scan top below ≡ s → Sees stands r s
  sees r top below s h e = subst (λ (x : State). Sees stands r x) e (record { is = refl; holds = h })

  -- a step of a reader, from what it does where these elements are open
  pub steps : (old new : Reader H) (f : State → State) → ((top : Frame) (below : List Frame)
      → Holds stands old.stack top below → Sees stands new (f (seen old.scan top below)))
      → (s : State) → Sees stands old s → Sees stands new (f s)
  steps old new f = seeing old (λ s. Sees stands new (f s))

  -- a step that leaves the open elements as they are
  pub scans : (r : Reader H) (scan : Scan) (f : State → State) → ((top : Frame) (below : List Frame)
      → Holds stands r.stack top below → seen scan top below ≡ f (seen r.scan top below))
      → (s : State) → Sees stands r s → Sees stands (record r { scan = scan }) (f s)
  scans r scan f e = steps r _ f (λ top below h. sees (record r { scan = scan }) top below _ h (e top below h))

  pub scans_ok : {A E : Type 0} (r : Reader H) (scan : Scan) (f : State → State) (answer : Result A E)
      → ((top : Frame) (below : List Frame) → OnOk answer (seen scan top below ≡ f (seen r.scan top below)))
      → (s : State) → Sees stands r s → OnOk answer (Sees stands (record r { scan = scan }) (f s))
  scans_ok r scan f (Ok a) e = scans r scan f (λ top below h. e top below)
  scans_ok r scan f (Err x) e = λ s h. tt

  -- so many bytes are taken, and the open elements are left as they are
  pub takes : (r : Reader H) (scan : Scan) (bytes : List ℕ) (n : ℕ)
      → ((top : Frame) (below : List Frame) → Taken (seen r.scan top below) (seen scan top below) bytes n)
      → (s : State) → Sees stands r s → TakenBy stands s (record r { scan = scan }) bytes n
  takes r scan bytes n e = seeing r (λ s. TakenBy stands s (record r { scan = scan }) bytes n) (λ top below h. record {
    state = seen scan top below;
    sees = record { is = refl; holds = h };
    taken = e top below;
  })

  pub takes_ok : {E : Type 0} (r : Reader H) (scan : Scan) (bytes : List ℕ) (answer : Result ℕ E)
      → ((top : Frame) (below : List Frame) → IfOk answer (Taken (seen r.scan top below) (seen scan top below) bytes))
      → (s : State) → Sees stands r s → IfOk answer (TakenBy stands s (record r { scan = scan }) bytes)
  takes_ok r scan bytes (Ok n) e = takes r scan bytes n e
  takes_ok r scan bytes (Err x) e = λ s h. tt

  -- the byte that a token ended with is counted
  pub counts : (r : Reader H) (s : State) (at : ℕ) → at ≡ s.at → Sees stands r s
      → Sees stands (record r { scan = record r.scan { at = at + 1 } }) (counted s)
  counts r s at e h =
      let place : at ≡ r.scan.at = e ∙ sym (ap (λ x. x.at) h.is) in
      scans r _ counted (λ top below held. ap (λ n. record (seen r.scan top below) { at = n + 1 }) place) s h

  -- a reader stands for what the rest of a piece goes on from
  pub record Goes (s : State) (piece : List ℕ) (r : Reader H) (rest : List ℕ) : Type 0 where
    pub state : State
    pub sees : Sees stands r state
    pub meaning : run state rest ≡ run s piece

  -- so much of a piece was taken by a reader, which is told of the open elements as before
  pub record Going (depth : H → ℕ) (old : Reader H) (piece : List ℕ) (r : Reader H) (rest : List ℕ) : Type 0 where
    pub told : IsTold depth r
    pub place : fed_len r + length rest ≡ fed_len old + length piece
    pub goes : (s : State) → Sees stands old s → Goes s piece r rest

  pub starts : (depth : H → ℕ) (r : Reader H) (piece : List ℕ) → IsTold depth r → Going depth r piece r piece
  starts depth r piece told = record {
    told = told;
    place = refl;
    goes = λ s h. record { state = s; sees = h; meaning = refl };
  }

  pub goes_further : {depth : H → ℕ} {first : Reader H} {piece : List ℕ} {old : Reader H} (new : Reader H)
      {rest : List ℕ} (n : ℕ) → Going depth first piece old rest → IsTold depth new → n ≤ length rest
      → fed_len new ≡ fed_len old + n → ((s : State) → Sees stands old s → TakenBy stands s new rest n)
      → Going depth first piece new (take (length rest - n) (drop n rest))
  goes_further new {rest} n was told high place took = record {
    told = told;
    place = omega (arith, ap (λ (x : List ℕ). length x) (take_rest n rest), length-drop n rest, was.place, place, high);
    goes = λ s h.
        let before = was.goes s h in
        let after = took before.state before.sees in
        record {
          state = after.state;
          sees = after.sees;
          meaning = ap (run after.state) (take_rest n rest) ∙ after.taken.meaning ∙ before.meaning;
        };
  }
