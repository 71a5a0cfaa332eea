-- What an application is told.
use Rattle.std.proofs.Common.{◌≡◌, ◌⊎◌, ℕ, true, false, List, [], ◌∷◌, inl, inr, refl, subst, sym, ap, ◌∙◌}
use Rattle.std.specs.Prelude.{Option, IfErr, IfOk, OnOk, Result, Ok, Err, Some}
use Rattle.node_store.specs.Stored.{Stored}
use Rattle.rm_serve.specs.Steps.{Step}
use Rattle.rm_node.specs.declared.calls.Made.{Made}
use Rattle.rm_node.specs.declared.calls.Sent.{Sent}
use Rattle.rm_node.specs.declared.packets.Out.{Out}
use Rattle.rm_host.specs.Ends.{is_of_call, is_refusal}
use Rattle.rm_host.specs.HostSteps.{outs_in}
use Rattle.rm_host.specs.Texts.{line_of}
use Rattle.rm_host.specs.Words.{ReadsAddress}
use Rattle.rm_host.specs.declared.end.End.{End}
use Rattle.rm_host.specs.declared.end.End.TheVariants as end
use Rattle.rm_station.specs.Asks.{Offered, Polled}
use Rattle.rm_station.specs.Reads.{read_answer}
use Rattle.rm_station.specs.Texts.{accepted_line, opening_line}
use Rattle.rm_station.specs.Works.{Tells, is_memory, is_outlived, lacks, only, said_failed, said_of}
use Rattle.rm_station.specs.Works.{said_read, starves, unread, views}
use Rattle.rm_station.specs.declared.ask.Ask.{Ask}
use Rattle.rm_station.specs.declared.ask.Next.{Next}
use Rattle.rm_station.specs.declared.said.Said.{Said}

-- a word that is no address that can be reached
pub offered-not : (word payload : List ℕ) (next : Option Next) (e : End) → ReadsAddress word (Err e)
    → Offered word payload next (Err e)
offered-not word payload next end.Usage reads = reads
offered-not word payload next end.BadAddress reads = reads
offered-not word payload next end.Memory reads = tt
offered-not word payload next e reads = absurd reads

pub polled-not : (word : List ℕ) (e : End) → ReadsAddress word (Err e) → Polled word (Err e)
polled-not word end.Usage reads = reads
polled-not word end.BadAddress reads = reads
polled-not word end.Memory reads = tt
polled-not word e reads = absurd reads

pub tells-unread : (moment : ℕ) (s : Stored) (e : End) (result : Result Said End)
    → IfOk result (λ said. (is_memory e ≡ false) × (said ≡ only (line_of e))) → IfErr result (λ w. w ≡ end.Memory)
    → Tells moment s (Err e) [] result
tells-unread moment s e (Ok said) ok err =
    subst (λ (x : Said). Tells moment s (Err e) [] (Ok x)) (sym ok.1) (unread e ok.0)
tells-unread moment s e (Err w) ok err =
    subst (λ (x : End). Tells moment s (Err e) [] (Err x)) (sym err) (starves (Err e))

-- what is told, or memory was wanting
pub tells-so : (moment : ℕ) (s : Stored) (ask : Result Ask End) (steps : List Step) (said result : Result Said End)
    → Tells moment s ask steps said → (result ≡ said) ⊎ (result ≡ Err end.Memory) → Tells moment s ask steps result
tells-so moment s ask steps said result tells (inl same) =
    subst (λ (x : Result Said End). Tells moment s ask steps x) (sym same) tells
tells-so moment s ask steps said result tells (inr none) =
    subst (λ (x : Result Said End). Tells moment s ask steps x) (sym none) (lacks ask steps said tells)

-- what is read
pub read-so : (moment : ℕ) (s : Stored) (ask : Ask) (answer read : Result (List ℕ) End) (result : Result Said End)
    → read_answer moment s ask ≡ Some answer → (read ≡ Err end.Memory) ⊎ (read ≡ answer)
    → (result ≡ said_read read) ⊎ (result ≡ Err end.Memory) → Tells moment s (Ok ask) [] result
read-so moment s ask answer read result reading is (inr none) =
    subst (λ (x : Result Said End). Tells moment s (Ok ask) [] x) (sym none) (starves (Ok ask))
read-so moment s ask answer read result reading (inl none) (inl said) =
    subst (λ (x : Result Said End). Tells moment s (Ok ask) [] x) (sym (said ∙ ap said_read none)) (starves (Ok ask))
read-so moment s ask answer read result reading (inr same) (inl said) =
    subst (λ (x : Result Said End). Tells moment s (Ok ask) [] x) (sym (said ∙ ap said_read same))
    (views ask answer reading)

-- memory was wanting before any call
pub tells-none : (moment : ℕ) (s : Stored) (ask : Result Ask End) (result : Result Said End) → result ≡ Err end.Memory
    → Tells moment s ask [] result
tells-none moment s ask result none =
    subst (λ (x : Result Said End). Tells moment s ask [] x) (sym none) (starves ask)

-- what is said of a call, by its line
pub line-said : (text line : List ℕ) (outs : Result (List Out) End) (result : Result Said End) → text ≡ line
    → (result ≡ said_of text outs) ⊎ (result ≡ Err end.Memory)
    → (result ≡ said_of line outs) ⊎ (result ≡ Err end.Memory)
line-said text line outs result same said =
    subst (λ (t : List ℕ). (result ≡ said_of t outs) ⊎ (result ≡ Err end.Memory)) same said

-- what is said of a payload, by the number that it gets
pub sent-said : (seq n : ℕ) (sent : Result Sent End) (result : Result Said End)
    → IfOk sent (λ s. s.number ≡ n)
    → IfOk sent (λ s. (result ≡ said_of (accepted_line seq s.number) (Ok s.outs)) ⊎ (result ≡ Err end.Memory))
    → IfErr sent (λ e. (result ≡ said_failed e) ⊎ (result ≡ Err end.Memory))
    → (result ≡ said_of (accepted_line seq n) (outs_in (λ s. s.outs) sent)) ⊎ (result ≡ Err end.Memory)
sent-said seq n (Ok s) result number ok err =
    subst (λ (k : ℕ). (result ≡ said_of (accepted_line seq k) (Ok s.outs)) ⊎ (result ≡ Err end.Memory)) number ok
sent-said seq n (Err e) result number ok err = err

-- of a sequence that is asked for, by its number
pub made-said : (n : ℕ) (made : Result Made End) (result : Result Said End)
    → IfOk made (λ m. m.seq ≡ n)
    → IfOk made (λ m. (result ≡ said_of (opening_line m.seq) (Ok m.outs)) ⊎ (result ≡ Err end.Memory))
    → IfErr made (λ e. (result ≡ said_failed e) ⊎ (result ≡ Err end.Memory))
    → (result ≡ said_of (opening_line n) (outs_in (λ m. m.outs) made)) ⊎ (result ≡ Err end.Memory)
made-said n (Ok m) result number ok err =
    subst (λ (k : ℕ). (result ≡ said_of (opening_line k) (Ok m.outs)) ⊎ (result ≡ Err end.Memory)) number ok
made-said n (Err e) result number ok err = err

-- a call that failed so
pub of-outs : {T : Type 0} (outs : T → List Out) (r : Result T End) → IfErr r (λ e. is_of_call e ≡ true)
    → IfErr (outs_in outs r) (λ e. is_of_call e ≡ true)
of-outs outs (Ok value) of_call = tt
of-outs outs (Err e) of_call = of_call

-- what is said of a sequence that is asked for: its number, or memory was wanting
abbrev MadeSaid : Result Made End → Result Said End → Type 0
MadeSaid made result =
    IfOk made (λ m. (result ≡ said_of (opening_line m.seq) (Ok m.outs)) ⊎ (result ≡ Err end.Memory))

pub made-told : (made : Result Made End) (m : Made) (text : List ℕ) → made ≡ Ok m → text ≡ opening_line m.seq
    → MadeSaid made (Ok (record { text = text; outs = m.outs; is_stop = false }))
made-told made m text is same =
    subst (λ (x : Result Made End). MadeSaid x (Ok (record { text = text; outs = m.outs; is_stop = false }))) (sym is)
    (inl (ap (λ (t : List ℕ). Ok (record { text = t; outs = m.outs; is_stop = false })) same))

pub made-lacks : (made : Result Made End) (m : Made) (result : Result Said End) → made ≡ Ok m
    → result ≡ Err end.Memory → MadeSaid made result
made-lacks made m result is none = subst (λ (x : Result Made End). MadeSaid x result) (sym is) (inr none)

-- what is said of a payload
abbrev SentSaid : ℕ → Result Sent End → Result Said End → Type 0
SentSaid seq sent result =
    IfOk sent (λ s. (result ≡ said_of (accepted_line seq s.number) (Ok s.outs)) ⊎ (result ≡ Err end.Memory))

pub sent-told : (seq : ℕ) (sent : Result Sent End) (s : Sent) (text : List ℕ) → sent ≡ Ok s
    → text ≡ accepted_line seq s.number
    → SentSaid seq sent (Ok (record { text = text; outs = s.outs; is_stop = false }))
sent-told seq sent s text is same =
    subst (λ (x : Result Sent End). SentSaid seq x (Ok (record { text = text; outs = s.outs; is_stop = false })))
    (sym is) (inl (ap (λ (t : List ℕ). Ok (record { text = t; outs = s.outs; is_stop = false })) same))

pub sent-lacks : (seq : ℕ) (sent : Result Sent End) (s : Sent) (result : Result Said End) → sent ≡ Ok s
    → result ≡ Err end.Memory → SentSaid seq sent result
sent-lacks seq sent s result is none = subst (λ (x : Result Sent End). SentSaid seq x result) (sym is) (inr none)

-- a node that goes on is up
pub up-outlived : {T : Type 0} (P : Type 0) (r : Result T End) (result : Result Said End)
    → (is_outlived r ≡ true → P) → OnOk result (is_outlived r ≡ true) → OnOk result P
up-outlived P r (Ok said) up lasts = up lasts
up-outlived P r (Err e) up lasts = tt

-- a refusal is told, and another end is not
pub failed-refused : (e : End) → is_refusal e ≡ true → Ok (only (line_of e)) ≡ said_failed e
failed-refused (end.Refused cause) is = refl
failed-refused e is = absurd cc

pub failed-else : (e : End) → is_refusal e ≡ false → Err e ≡ said_failed e
failed-else (end.Refused cause) is = absurd cc
failed-else e is = refl

-- memory was wanting
pub memory-only : (e : End) → is_memory e ≡ true → e ≡ end.Memory
memory-only end.Memory is = refl
memory-only e is = absurd cc
