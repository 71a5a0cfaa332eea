-- A line of a relay's script is read exactly as the grammar says.
use Rattle.std.proofs.Common.{◌≡◌, ℕ, ◌==◌, ◌^◌, ◌<◌, Bool, true, false, List, [], ◌∷◌, ◌++◌, refl, sym, ap}
use Rattle.std.proofs.Common.{◌∙◌, arith, subst, inl, inr, codes, Option, None, Some, if◌then◌else◌}
use Rattle.std.proofs.lemmas.Bool.{eqb-true}
use Rattle.std.proofs.lemmas.List.{append-nil}
use Rattle.rm_script.specs.Script.{IsNumber, spaced}
use Rattle.rm_script.specs.Reading.{behind, behind_word, choose, is_blank, is_same, number_in, text_behind, text_in}
use Rattle.rm_script.specs.Reading.{word_of}
use Rattle.rm_script.specs.declared.event.Side.TheVariants as side
use Rattle.rm_script.specs.WordLemmas.{behind-is, is_blank-is, is_same-is, number_in-decimal, number_in-is, said_by}
use Rattle.rm_script.specs.WordLemmas.{some_mapped, some_then, text_behind-text, text_in-is, word_of-behind}
use Rattle.rm_script.specs.WordLemmas.{word_of-number}
use Rattle.rm_relay.specs.Reading.{arm_in, close_in, compact_in, crash_in, create_in, deliver_in, end_in}
use Rattle.rm_relay.specs.Reading.{event_in, mishap_in, numbered_in, request_in, send_in, station_in, tick_in}
use Rattle.rm_relay.specs.Reading.{with_none, word_in}
use Rattle.rm_relay.specs.Script.{Says, station_text}
use Rattle.rm_relay.specs.declared.event.Event.{Event}
use Rattle.rm_relay.specs.declared.event.Event.TheVariants.{Nothing, Create, Send, Forward, Trim, Tick, Deliver, Close}
use Rattle.rm_relay.specs.declared.event.Event.TheVariants.{End, Compact, Arm, Crash}
use Rattle.rm_relay.specs.declared.word.station.Station.{Station}
use Rattle.rm_relay.specs.declared.word.station.Station.TheVariants.{One, Two, Three}

-- ---- what the grammar says is read

station_in-text : (at : Station) (rest : List ℕ) → station_in (station_text at ++ rest) ≡ Some (at, rest)
station_in-text One rest = refl
station_in-text Two rest = refl
station_in-text Three rest = refl

numbered_in-text : (low high n : ℕ) (at : Station) (word : List ℕ) → high < 2 ^ 64 → IsNumber low high word n
    → numbered_in low high (spaced (station_text at) word) ≡ Some (at, n)
numbered_in-text low high n at word small is =
    rw (station_in-text at (32 ∷ word), is.2, number_in-decimal low high n (omega (arith, is.1)) is.0 is.1) refl

pub event_in-said : (line : List ℕ) (event : Event) → Says line event → event_in line ≡ Some event
event_in-said line Nothing (inl h) = rw h refl
event_in-said line Nothing (inr h) = rw h.1 refl
event_in-said line (Create side.One) h = rw h refl
event_in-said line (Create side.Two) h = rw h refl
event_in-said line (Send seq text) h =
    let small : seq < 2 ^ 64 = omega (arith, h.1.1) in
    let number = number_in-decimal 1 256 seq small h.1.0 h.1.1 in
    rw (
      h.3,
      word_of-number h.0 text seq small h.1.2,
      number,
      text_behind-text h.0 text seq small h.1.2 h.2,
    )
    refl
event_in-said line Forward h = rw h refl
event_in-said line Trim h = rw h refl
event_in-said line (Tick at now) h =
    rw (h.2, numbered_in-text 0 200000000000000 now at h.0 (omega arith) h.1) refl
event_in-said line (Deliver packet) h =
    rw (h.2, h.1.2, number_in-decimal 1 65536 packet (omega (arith, h.1.1)) h.1.0 h.1.1) refl
event_in-said line (Close at seq) h = rw (h.2, numbered_in-text 1 256 seq at h.0 (omega arith) h.1) refl
event_in-said line (End at seq) h = rw (h.2, numbered_in-text 1 256 seq at h.0 (omega arith) h.1) refl
event_in-said line (Compact One) h = rw h refl
event_in-said line (Compact Two) h = rw h refl
event_in-said line (Compact Three) h = rw h refl
event_in-said line (Arm at calls) h = rw (h.2, numbered_in-text 1 1000 calls at h.0 (omega arith) h.1) refl
event_in-said line (Crash at choice) h = rw (h.2, numbered_in-text 0 3 choice at h.0 (omega arith) h.1) refl

-- ---- what is read is what the grammar says

station_in-is : (bytes : List ℕ) (n : Station × List ℕ) → station_in bytes ≡ Some n
    → bytes ≡ station_text n.0 ++ n.1
station_in-is [] n h = absurd (cc)
station_in-is (b ∷ bytes) n h = by_tests (b == 49) (b == 50) (b == 51) refl refl refl h
  where
    by_tests : (p q r : Bool) → (b == 49) ≡ p → (b == 50) ≡ q → (b == 51) ≡ r
        → (if p then Some (One, bytes) else if q then Some (Two, bytes) else if r then Some (Three, bytes) else None)
        ≡ Some n → b ∷ bytes ≡ station_text n.0 ++ n.1
    by_tests true q r e f g k =
        let same : (One, bytes) ≡ n = cc in
        subst (λ z. b ∷ bytes ≡ station_text z.0 ++ z.1) same (ap (λ x. x ∷ bytes) (eqb-true b 49 e))
    by_tests false true r e f g k =
        let same : (Two, bytes) ≡ n = cc in
        subst (λ z. b ∷ bytes ≡ station_text z.0 ++ z.1) same (ap (λ x. x ∷ bytes) (eqb-true b 50 f))
    by_tests false false true e f g k =
        let same : (Three, bytes) ≡ n = cc in
        subst (λ z. b ∷ bytes ≡ station_text z.0 ++ z.1) same (ap (λ x. x ∷ bytes) (eqb-true b 51 g))
    by_tests false false false e f g k = absurd (cc)

record IsNumbered (low high : ℕ) (bytes : List ℕ) (n : Station × ℕ) : Type 0 where
  word : List ℕ
  number : IsNumber low high word n.1
  text : bytes ≡ spaced (station_text n.0) word

numbered_in-is : (low high : ℕ) (bytes : List ℕ) (n : Station × ℕ) → numbered_in low high bytes ≡ Some n
    → IsNumbered low high bytes n
numbered_in-is low high bytes n h =
    let node = some_then _ (station_in bytes) n h in
    let space = some_then _ (behind (codes " ") node.0.1) n node.2 in
    let found = some_mapped _ (number_in low high space.0) n space.2 in
    subst (IsNumbered low high bytes) found.2 (record {
      word = space.0;
      number = number_in-is low high space.0 found.0 found.1;
      text = station_in-is bytes node.0 node.1
          ∙ ap (λ l. station_text node.0.0 ++ l) (behind-is (codes " ") node.0.1 space.0 space.1);
    })

create_in-is : (bytes : List ℕ) (event : Event) → create_in bytes ≡ Some event → Says (codes "create " ++ bytes) event
create_in-is bytes event h = by_tests (is_same bytes (codes "1")) (is_same bytes (codes "2")) refl refl h
  where
    by_tests : (p q : Bool) → is_same bytes (codes "1") ≡ p → is_same bytes (codes "2") ≡ q
        → (if p then Some (Create side.One) else if q then Some (Create side.Two) else None) ≡ Some event
        → Says (codes "create " ++ bytes) event
    by_tests true q e f k =
        let same : Create side.One ≡ event = cc in
        subst (λ x. Says (codes "create " ++ bytes) x) same
        (ap (λ l. codes "create " ++ l) (is_same-is bytes (codes "1") e))
    by_tests false true e f k =
        let same : Create side.Two ≡ event = cc in
        subst (λ x. Says (codes "create " ++ bytes) x) same
        (ap (λ l. codes "create " ++ l) (is_same-is bytes (codes "2") f))
    by_tests false false e f k = absurd (cc)

send_in-is : (bytes : List ℕ) (event : Event) → send_in bytes ≡ Some event → Says (codes "send 1 " ++ bytes) event
send_in-is bytes event h =
    let seq = some_then _ (number_in 1 256 (word_of bytes)) event h in
    let text = some_mapped _ (text_behind bytes) event seq.2 in
    let space = some_then text_in (behind (codes " ") (behind_word bytes)) text.0 text.1 in
    let some = text_in-is space.0 text.0 space.2 in
    let rest : behind_word bytes ≡ 32 ∷ text.0 = behind-is (codes " ") (behind_word bytes) space.0 space.1
    ∙ ap (λ l. 32 ∷ l) some.1 in
    let parts : bytes ≡ spaced (word_of bytes) text.0 = word_of-behind bytes
    ∙ ap (λ l. word_of bytes ++ l) rest in
    subst (λ e. Says (codes "send 1 " ++ bytes) e) text.2 (
      word_of bytes,
      number_in-is 1 256 (word_of bytes) seq.0 seq.1,
      some.0,
      ap (λ l. codes "send 1 " ++ l) parts,
    )

tick_in-is : (bytes : List ℕ) (event : Event) → tick_in bytes ≡ Some event → Says (codes "tick " ++ bytes) event
tick_in-is bytes event h =
    let found = some_mapped _ (numbered_in 0 200000000000000 bytes) event h in
    let n = numbered_in-is 0 200000000000000 bytes found.0 found.1 in
    subst (λ e. Says (codes "tick " ++ bytes) e) found.2 (n.word, n.number, ap (λ l. codes "tick " ++ l) n.text)

deliver_in-is : (bytes : List ℕ) (event : Event) → deliver_in bytes ≡ Some event
    → Says (codes "deliver " ++ bytes) event
deliver_in-is bytes event h =
    let found = some_mapped _ (number_in 1 65536 bytes) event h in
    subst (λ e. Says (codes "deliver " ++ bytes) e) found.2 (bytes, number_in-is 1 65536 bytes found.0 found.1, refl)

close_in-is : (bytes : List ℕ) (event : Event) → close_in bytes ≡ Some event → Says (codes "close " ++ bytes) event
close_in-is bytes event h =
    let found = some_mapped _ (numbered_in 1 256 bytes) event h in
    let n = numbered_in-is 1 256 bytes found.0 found.1 in
    subst (λ e. Says (codes "close " ++ bytes) e) found.2 (n.word, n.number, ap (λ l. codes "close " ++ l) n.text)

end_in-is : (bytes : List ℕ) (event : Event) → end_in bytes ≡ Some event → Says (codes "end " ++ bytes) event
end_in-is bytes event h =
    let found = some_mapped _ (numbered_in 1 256 bytes) event h in
    let n = numbered_in-is 1 256 bytes found.0 found.1 in
    subst (λ e. Says (codes "end " ++ bytes) e) found.2 (n.word, n.number, ap (λ l. codes "end " ++ l) n.text)

with_none-is : (at : Station) (rest : List ℕ) (event : Event) → with_none at rest ≡ Some event
    → (rest ≡ []) × (Compact at ≡ event)
with_none-is at [] event h = (refl, cc)
with_none-is at (b ∷ rest) event h = absurd (cc)

compact_in-is : (bytes : List ℕ) (event : Event) → compact_in bytes ≡ Some event
    → Says (codes "compact " ++ bytes) event
compact_in-is bytes event h =
    let node = some_then _ (station_in bytes) event h in
    let none = with_none-is node.0.0 node.0.1 event node.2 in
    subst (λ e. Says (codes "compact " ++ bytes) e) none.1
    (ap (λ l. codes "compact " ++ l) (station_in-is bytes node.0 node.1
    ∙ (ap (λ l. station_text node.0.0 ++ l) none.0 ∙ append-nil (station_text node.0.0))))

arm_in-is : (bytes : List ℕ) (event : Event) → arm_in bytes ≡ Some event → Says (codes "arm " ++ bytes) event
arm_in-is bytes event h =
    let found = some_mapped _ (numbered_in 1 1000 bytes) event h in
    let n = numbered_in-is 1 1000 bytes found.0 found.1 in
    subst (λ e. Says (codes "arm " ++ bytes) e) found.2 (n.word, n.number, ap (λ l. codes "arm " ++ l) n.text)

crash_in-is : (bytes : List ℕ) (event : Event) → crash_in bytes ≡ Some event → Says (codes "crash " ++ bytes) event
crash_in-is bytes event h =
    let found = some_mapped _ (numbered_in 0 3 bytes) event h in
    let n = numbered_in-is 0 3 bytes found.0 found.1 in
    subst (λ e. Says (codes "crash " ++ bytes) e) found.2 (n.word, n.number, ap (λ l. codes "crash " ++ l) n.text)

word_in-is : (line : List ℕ) (event : Event) → word_in line ≡ Some event → Says line event
word_in-is line event h = by_tests (is_same line (codes "forward")) (is_same line (codes "trim")) refl refl h
  where
    by_tests : (p q : Bool) → is_same line (codes "forward") ≡ p → is_same line (codes "trim") ≡ q
        → (if p then Some Forward else if q then Some Trim else None) ≡ Some event → Says line event
    by_tests true q e f k =
        let same : Forward ≡ event = cc in subst (λ x. Says line x) same (is_same-is line (codes "forward") e)
    by_tests false true e f k =
        let same : Trim ≡ event = cc in subst (λ x. Says line x) same (is_same-is line (codes "trim") f)
    by_tests false false e f k = absurd (cc)

mishap_in-is : (line : List ℕ) (event : Event) → mishap_in line ≡ Some event → Says line event
mishap_in-is line event =
    said_by Says (codes "compact ") line compact_in _ event (λ rest. compact_in-is rest event)
    (said_by Says (codes "arm ") line arm_in _ event (λ rest. arm_in-is rest event)
    (said_by Says (codes "crash ") line crash_in _ event (λ rest. crash_in-is rest event) (word_in-is line event)))

request_in-is : (line : List ℕ) (event : Event) → request_in line ≡ Some event → Says line event
request_in-is line event =
    said_by Says (codes "create ") line create_in _ event (λ rest. create_in-is rest event)
    (said_by Says (codes "tick ") line tick_in _ event (λ rest. tick_in-is rest event)
    (said_by Says (codes "deliver ") line deliver_in _ event (λ rest. deliver_in-is rest event)
    (said_by Says (codes "close ") line close_in _ event (λ rest. close_in-is rest event)
    (said_by Says (codes "end ") line end_in _ event (λ rest. end_in-is rest event) (mishap_in-is line event)))))

-- a line that is read says that
pub event_in-is : (line : List ℕ) (event : Event) → event_in line ≡ Some event → Says line event
event_in-is line event h =
    let read : Bool → Option Event = λ t. if t then Some Nothing
    else choose (behind (codes "send 1 ") line) send_in (request_in line) in
    elim (is_blank line) as (λ t. is_blank line ≡ t → read t ≡ Some event → Says line event) [
      | true ↦ λ e h. let same : Nothing ≡ event = cc in subst (λ x. Says line x) same (is_blank-is line e)
      | false ↦ λ e h. said_by Says (codes "send 1 ") line send_in _ event (λ rest. send_in-is rest event)
          (request_in-is line event) h
    ] refl h

-- a line that isn't read says nothing
pub event_in-none : (line : List ℕ) → event_in line ≡ None → (event : Event) → Says line event → ⊥
event_in-none line none event h = let found : None ≡ Some event = sym none ∙ event_in-said line event h in absurd (cc)
