-- A line is read exactly as the grammar says.
use Rattle.std.proofs.Common.{◌≡◌, ◌≢◌, ℕ, ◌^◌, ◌<◌, Bool, true, false, List, [], ◌∷◌, ◌++◌, refl, sym, ap}
use Rattle.std.proofs.Common.{◌∙◌, arith, subst, inl, inr, codes, decimal, Option, None, Some, Ok, Err}
use Rattle.std.proofs.Common.{if◌then◌else◌, Result}
use Rattle.std.specs.Prelude.{option_and_then}
use Rattle.std.proofs.lemmas.List.{append-nil}
use Rattle.hex.specs.Hex.{decode_of}
use Rattle.hex.specs.declared.error.FromHexError.{FromHexError}
use Rattle.rm_base.specs.declared.message.Behaviour.{Behaviour}
use Rattle.rm_base.specs.declared.lapse.Lapse.{Lapse}
use Rattle.rm_message.specs.Elements.Duration.{duration_in}
use Rattle.rm_script.specs.Script.{side_text, spaced, IsExpiry, IsNumber, IsOffer, IsPolled, IsWish, Says}
use Rattle.rm_script.specs.Reading.{behind, word_of, behind_word, number_in, behaviour_in, node_in, call_in}
use Rattle.rm_script.specs.Reading.{numbered_in, offer_in, create_with, create_behind, create_in, grant_in, text_in}
use Rattle.rm_script.specs.Reading.{text_behind, send_in, tick_in, deliver_in, close_in, end_in, arm_in, crash_in}
use Rattle.rm_script.specs.Reading.{ask_in, nack_in, with_none, alone_in, poll_in, compact_in, polled_by, polled_in}
use Rattle.rm_script.specs.Reading.{number_behind, consume_in}
use Rattle.rm_script.specs.Reading.{some_bytes, noise_in, mishap_in, request_in, is_blank, event_in}
use Rattle.rm_script.specs.declared.event.Side.{Side}
use Rattle.rm_script.specs.declared.event.Side.TheVariants.{One, Two}
use Rattle.rm_script.specs.declared.event.Event.{Event}
use Rattle.rm_script.specs.declared.event.Event.TheVariants.{Nothing, Create, Grant, Send, Tick, Deliver, Close, End}
use Rattle.rm_script.specs.declared.event.Event.TheVariants.{Ask, Nack, Poll, Compact, Consume}
use Rattle.rm_script.specs.declared.event.Event.TheVariants.{Arm, Crash, Noise}
use Rattle.rm_script.specs.WordLemmas.{some_then, some_mapped, behind-is, word_of-onto, behind_word-onto}
use Rattle.rm_script.specs.WordLemmas.{word_of-behind, word_of-IsWord, number_in-decimal, number_in-is, decimal-IsWord}
use Rattle.rm_script.specs.WordLemmas.{word_of-number, text_in-some, text_in-is, text_behind-text, behaviour_in-word}
use Rattle.rm_script.specs.WordLemmas.{behaviour_in-is, node_in-text, node_in-is, call_in-text, call_in-is}
use Rattle.rm_script.specs.WordLemmas.{numbered_in-text, numbered_in-is, is_blank-is, said_by}

-- ---- what the grammar says is read

offer_in-offer : (words : List ℕ) (offer : Option Behaviour) → IsOffer words offer → offer_in words ≡ Some offer
offer_in-offer words None h = rw h refl
offer_in-offer words (Some behaviour) h = rw (h.2, behaviour_in-word h.0 behaviour h.1) refl

-- an offer stands behind its space
behind_word-offer : (words : List ℕ) (offer : Option Behaviour) → IsOffer words offer → behind_word words ≡ words
behind_word-offer words None h = rw h refl
behind_word-offer words (Some behaviour) h = rw h.2 refl

word_of-offer : (words : List ℕ) (offer : Option Behaviour) → IsOffer words offer → word_of words ≡ []
word_of-offer words None h = rw h refl
word_of-offer words (Some behaviour) h = rw h.2 refl

-- an offer is no duration
no_expiry : (words : List ℕ) (offer : Option Behaviour) → IsOffer words offer → behind (codes " expires ") words ≡ None
no_expiry words None h = rw h refl
no_expiry words (Some behaviour) h = rw h.2 refl

-- nor does it say that a node is polled
not_polled : (words : List ℕ) (offer : Option Behaviour) → IsOffer words offer → behind (codes " polled") words ≡ None
not_polled words None h = rw h refl
not_polled words (Some behaviour) h = rw h.2 refl

-- the words behind a duration: they begin with a space, and are no duration
record IsBehind (words : List ℕ) : Type 0 where
  rest : behind_word words ≡ words
  word : word_of words ≡ []
  no_expiry_ : behind (codes " expires ") words ≡ None

words-IsBehind : (marked offered : List ℕ) (polled : Bool) (offer : Option Behaviour) → IsPolled marked polled
    → IsOffer offered offer → IsBehind (marked ++ offered)
words-IsBehind marked offered true offer h k = rw h (record { rest = refl; word = refl; no_expiry_ = refl })
words-IsBehind marked offered false offer h k = rw h (record {
  rest = behind_word-offer offered offer k;
  word = word_of-offer offered offer k;
  no_expiry_ = no_expiry offered offer k;
})

create_with-words : (side : Side) (expires : Lapse) (marked offered : List ℕ) (polled : Bool) (offer : Option Behaviour)
    → IsPolled marked polled → IsOffer offered offer
    → create_with side (marked ++ offered) expires ≡ Some (Create side expires polled offer)
create_with-words side expires marked offered true offer h k = rw (h, offer_in-offer offered offer k) refl
create_with-words side expires marked offered false offer h k =
    rw (h, not_polled offered offer k, offer_in-offer offered offer k) refl

create_behind-wish : (side : Side) (words : List ℕ) (expires : Lapse) (polled : Bool) (offer : Option Behaviour)
    → IsWish words expires polled offer
    → create_behind side words (behind (codes " expires ") words) ≡ Some (Create side expires polled offer)
create_behind-wish side words expires polled offer w =
    let more = w.marked ++ w.offered in
    let is = words-IsBehind w.marked w.offered polled offer w.polled_ w.offers_ in
    elim w.expires_ [
      | inl h ↦
          let alone : words ≡ more = w.whole ∙ ap (λ l. l ++ more) h.0 in
          rw (alone, is.no_expiry_)
          (create_with-words side (record { months = 0; ms = 0 }) w.marked w.offered polled offer w.polled_ w.offers_
          ∙ ap (λ l. Some (Create side l polled offer)) (sym h.1))
      | inr h ↦
          let whole : words ≡ (codes " expires " ++ h.0) ++ more = w.whole ∙ ap (λ l. l ++ more) h.3 in
          let word : word_of (h.0 ++ more) ≡ h.0 = word_of-onto h.0 more h.1
          ∙ (ap (λ l. h.0 ++ l) is.word ∙ append-nil h.0) in
          let rest : behind_word (h.0 ++ more) ≡ more = behind_word-onto h.0 more h.1 ∙ is.rest in
          rw (whole, word, h.2, rest)
          (create_with-words side expires w.marked w.offered polled offer w.polled_ w.offers_)
    ]

number_behind-text : (k m : List ℕ) (n upto : ℕ) → n < 2 ^ 64 → k ≡ decimal n → upto < 2 ^ 64
    → IsNumber 1 9223372036854775807 m upto → number_behind (behind_word (spaced k m)) ≡ Some upto
number_behind-text k m n upto small is most number =
    rw (is, behind_word-onto (decimal n) (32 ∷ m) (decimal-IsWord n small), number.2)
    (number_in-decimal 1 9223372036854775807 upto most number.0 number.1)

-- a line that says something is read as that
pub event_in-said : (line : List ℕ) (event : Event) → Says line event → event_in line ≡ Some event
event_in-said line Nothing (inl h) = rw h refl
event_in-said line Nothing (inr h) = rw h.1 refl
event_in-said line (Create side expires polled offer) h =
    rw (h.2, node_in-text side h.0, create_behind-wish side h.0 expires polled offer h.1) refl
event_in-said line (Grant side behaviour) h = rw (h.2, call_in-text side h.0, behaviour_in-word h.0 behaviour h.1) refl
event_in-said line (Send side seq text) h =
    let small : seq < 2 ^ 64 = omega (arith, h.1.1) in
    let arguments = spaced h.0 text in
    let number = number_in-decimal 1 256 seq small h.1.0 h.1.1 in
    rw (
      h.3,
      call_in-text side arguments,
      word_of-number h.0 text seq small h.1.2,
      number,
      text_behind-text h.0 text seq small h.1.2 h.2,
    )
    refl
event_in-said line (Tick side now) h =
    rw (h.2, numbered_in-text 0 200000000000000 now side h.0 (omega arith) h.1) refl
event_in-said line (Deliver packet) h =
    rw (h.2, h.1.2, number_in-decimal 1 65536 packet (omega (arith, h.1.1)) h.1.0 h.1.1) refl
event_in-said line (Close side seq) h = rw (h.2, numbered_in-text 1 256 seq side h.0 (omega arith) h.1) refl
event_in-said line (End side seq) h = rw (h.2, numbered_in-text 1 256 seq side h.0 (omega arith) h.1) refl
event_in-said line (Ask side seq) h = rw (h.2, numbered_in-text 1 256 seq side h.0 (omega arith) h.1) refl
event_in-said line (Nack side seq) h = rw (h.2, numbered_in-text 1 256 seq side h.0 (omega arith) h.1) refl
event_in-said line (Poll One) h = rw h refl
event_in-said line (Poll Two) h = rw h refl
event_in-said line (Compact One) h = rw h refl
event_in-said line (Compact Two) h = rw h refl
event_in-said line (Consume side seq upto) h =
    let k : List ℕ = h.0 in
    let m : List ℕ = h.1 in
    let small : seq < 2 ^ 64 = omega (arith, h.2.1) in
    let most : upto < 2 ^ 64 = omega (arith, h.3.1) in
    let number = number_in-decimal 1 256 seq small h.2.0 h.2.1 in
    rw (
      h.4,
      call_in-text side (spaced k m),
      word_of-number k m seq small h.2.2,
      number,
      number_behind-text k m seq upto small h.2.2 most h.3,
    )
    refl
event_in-said line (Arm side calls) h = rw (h.2, numbered_in-text 1 1000 calls side h.0 (omega arith) h.1) refl
event_in-said line (Crash side choice) h = rw (h.2, numbered_in-text 0 3 choice side h.0 (omega arith) h.1) refl
event_in-said line (Noise side bytes) h =
    rw (h.3, call_in-text side h.0, h.2, text_in-some bytes h.1) refl

-- ---- what is read is what the grammar says

offer_in-is : (words : List ℕ) (offer : Option Behaviour) → offer_in words ≡ Some offer → IsOffer words offer
offer_in-is [] offer h = let same : None ≡ offer = cc in subst (λ o. IsOffer [] o) same refl
offer_in-is (b ∷ words) offer h =
    let found = some_mapped _ (option_and_then behaviour_in (behind (codes " offer ") (b ∷ words))) offer h in
    let word = some_then behaviour_in (behind (codes " offer ") (b ∷ words)) found.0 found.1 in
    subst (λ o. IsOffer (b ∷ words) o) found.2
    (word.0, behaviour_in-is word.0 found.0 word.2, behind-is (codes " offer ") (b ∷ words) word.0 word.1)

-- words that say when a sequence expires and what is offered, and the event that they make
record IsWished (side : Side) (words : List ℕ) (event : Event) : Type 0 where
  expires : Lapse
  polled : Bool
  offer : Option Behaviour
  wish : IsWish words expires polled offer
  made : Create side expires polled offer ≡ event

-- whether a node is polled, and the words behind that
record IsMarked (words : List ℕ) (p : Bool × List ℕ) : Type 0 where
  marked : List ℕ
  polled : IsPolled marked p.0
  whole : words ≡ marked ++ p.1

polled_by-is : (words : List ℕ) (o : Option (List ℕ)) → behind (codes " polled") words ≡ o
    → IsMarked words (polled_by words o)
polled_by-is words None h = record { marked = []; polled = refl; whole = refl }
polled_by-is words (Some rest) h = record {
  marked = codes " polled";
  polled = refl;
  whole = behind-is (codes " polled") words rest h;
}

create_with-is : (side : Side) (expiry words : List ℕ) (expires : Lapse) (event : Event) → IsExpiry expiry expires
    → create_with side words expires ≡ Some event → IsWished side (expiry ++ words) event
create_with-is side expiry words expires event e h =
    let p = polled_in words in
    let mark = polled_by-is words (behind (codes " polled") words) refl in
    let found = some_mapped _ (offer_in p.1) event h in
    record {
      expires = expires;
      polled = p.0;
      offer = found.0;
      wish = record {
        expiry = expiry;
        marked = mark.marked;
        offered = p.1;
        whole = ap (λ l. expiry ++ l) mark.whole;
        expires_ = e;
        polled_ = mark.polled;
        offers_ = offer_in-is p.1 found.0 found.1;
      };
      made = found.2;
    }

create_behind-is : (side : Side) (words : List ℕ) (o : Option (List ℕ)) (event : Event)
    → behind (codes " expires ") words ≡ o → create_behind side words o ≡ Some event → IsWished side words event
create_behind-is side words None event b h = create_with-is side [] words _ event (inl (refl, refl)) h
create_behind-is side words (Some rest) event b h =
    let word = word_of rest in
    let more = behind_word rest in
    let expires = some_then _ (duration_in word) event h in
    let whole : words ≡ (codes " expires " ++ word) ++ more =
    behind-is (codes " expires ") words rest b ∙ ap (λ l. codes " expires " ++ l) (word_of-behind rest) in
    let expiry : IsExpiry (codes " expires " ++ word) expires.0 = inr (word, word_of-IsWord rest, expires.1, refl) in
    subst (λ l. IsWished side l event) (sym whole)
    (create_with-is side (codes " expires " ++ word) more expires.0 event expiry expires.2)

create_in-is : (bytes : List ℕ) (event : Event) → create_in bytes ≡ Some event
    → Says (codes "create " ++ bytes) event
create_in-is bytes event h =
    let node = some_then _ (node_in bytes) event h in
    let side = node.0.0 in
    let words = node.0.1 in
    let w = create_behind-is side words (behind (codes " expires ") words) event refl node.2 in
    subst (λ e. Says (codes "create " ++ bytes) e) w.made
    (words, w.wish, ap (λ l. codes "create " ++ l) (node_in-is bytes node.0 node.1))

grant_in-is : (bytes : List ℕ) (event : Event) → grant_in bytes ≡ Some event → Says (codes "grant " ++ bytes) event
grant_in-is bytes event h =
    let call = some_then _ (call_in bytes) event h in
    let word = some_mapped _ (behaviour_in call.0.1) event call.2 in
    subst (λ e. Says (codes "grant " ++ bytes) e) word.2
    (call.0.1, behaviour_in-is call.0.1 word.0 word.1, ap (λ l. codes "grant " ++ l) (call_in-is bytes call.0 call.1))

send_in-is : (bytes : List ℕ) (event : Event) → send_in bytes ≡ Some event → Says (codes "send " ++ bytes) event
send_in-is bytes event h =
    let call = some_then _ (call_in bytes) event h in
    let arguments = call.0.1 in
    let seq = some_then _ (number_in 1 256 (word_of arguments)) event call.2 in
    let text = some_mapped _ (text_behind arguments) event seq.2 in
    let space = some_then text_in (behind (codes " ") (behind_word arguments)) text.0 text.1 in
    let some = text_in-is space.0 text.0 space.2 in
    let rest : behind_word arguments ≡ 32 ∷ text.0 = behind-is (codes " ") (behind_word arguments) space.0 space.1
    ∙ ap (λ l. 32 ∷ l) some.1 in
    let parts : arguments ≡ spaced (word_of arguments) text.0 = word_of-behind arguments
    ∙ ap (λ l. word_of arguments ++ l) rest in
    subst (λ e. Says (codes "send " ++ bytes) e) text.2 (
      word_of arguments,
      number_in-is 1 256 (word_of arguments) seq.0 seq.1,
      some.0,
      ap (λ l. codes "send " ++ l) (call_in-is bytes call.0 call.1 ∙ ap (λ l. spaced (side_text call.0.0) l) parts),
    )

tick_in-is : (bytes : List ℕ) (event : Event) → tick_in bytes ≡ Some event → Says (codes "tick " ++ bytes) event
tick_in-is bytes event h =
    let found = some_mapped _ (numbered_in 0 200000000000000 bytes) event h in
    let n = numbered_in-is 0 200000000000000 bytes found.0 found.1 in
    subst (λ e. Says (codes "tick " ++ bytes) e) found.2 (n.word, n.number, ap (λ l. codes "tick " ++ l) n.text)

deliver_in-is : (bytes : List ℕ) (event : Event) → deliver_in bytes ≡ Some event
    → Says (codes "deliver " ++ bytes) event
deliver_in-is bytes event h =
    let found = some_mapped _ (number_in 1 65536 bytes) event h in
    subst (λ e. Says (codes "deliver " ++ bytes) e) found.2
    (bytes, number_in-is 1 65536 bytes found.0 found.1, refl)

close_in-is : (bytes : List ℕ) (event : Event) → close_in bytes ≡ Some event → Says (codes "close " ++ bytes) event
close_in-is bytes event h =
    let found = some_mapped _ (numbered_in 1 256 bytes) event h in
    let n = numbered_in-is 1 256 bytes found.0 found.1 in
    subst (λ e. Says (codes "close " ++ bytes) e) found.2 (n.word, n.number, ap (λ l. codes "close " ++ l) n.text)

end_in-is : (bytes : List ℕ) (event : Event) → end_in bytes ≡ Some event → Says (codes "end " ++ bytes) event
end_in-is bytes event h =
    let found = some_mapped _ (numbered_in 1 256 bytes) event h in
    let n = numbered_in-is 1 256 bytes found.0 found.1 in
    subst (λ e. Says (codes "end " ++ bytes) e) found.2 (n.word, n.number, ap (λ l. codes "end " ++ l) n.text)

ask_in-is : (bytes : List ℕ) (event : Event) → ask_in bytes ≡ Some event → Says (codes "ask " ++ bytes) event
ask_in-is bytes event h =
    let found = some_mapped _ (numbered_in 1 256 bytes) event h in
    let n = numbered_in-is 1 256 bytes found.0 found.1 in
    subst (λ e. Says (codes "ask " ++ bytes) e) found.2 (n.word, n.number, ap (λ l. codes "ask " ++ l) n.text)

nack_in-is : (bytes : List ℕ) (event : Event) → nack_in bytes ≡ Some event → Says (codes "nack " ++ bytes) event
nack_in-is bytes event h =
    let found = some_mapped _ (numbered_in 1 256 bytes) event h in
    let n = numbered_in-is 1 256 bytes found.0 found.1 in
    subst (λ e. Says (codes "nack " ++ bytes) e) found.2 (n.word, n.number, ap (λ l. codes "nack " ++ l) n.text)

with_none-is : (side at : Side) (rest : List ℕ) → with_none side rest ≡ Some at → (rest ≡ []) × (side ≡ at)
with_none-is side at [] h = (refl, cc)
with_none-is side at (b ∷ rest) h = absurd (cc)

alone_in-is : (bytes : List ℕ) (side : Side) → alone_in bytes ≡ Some side → bytes ≡ side_text side
alone_in-is bytes side h =
    let node = some_then _ (node_in bytes) side h in
    let none = with_none-is node.0.0 side node.0.1 node.2 in
    node_in-is bytes node.0 node.1
    ∙ (ap (λ l. side_text node.0.0 ++ l) none.0 ∙ (append-nil (side_text node.0.0) ∙ ap side_text none.1))

poll_in-is : (bytes : List ℕ) (event : Event) → poll_in bytes ≡ Some event → Says (codes "poll " ++ bytes) event
poll_in-is bytes event h =
    let found = some_mapped _ (alone_in bytes) event h in
    subst (λ e. Says (codes "poll " ++ bytes) e) found.2
    (ap (λ l. codes "poll " ++ l) (alone_in-is bytes found.0 found.1))

compact_in-is : (bytes : List ℕ) (event : Event) → compact_in bytes ≡ Some event
    → Says (codes "compact " ++ bytes) event
compact_in-is bytes event h =
    let found = some_mapped _ (alone_in bytes) event h in
    subst (λ e. Says (codes "compact " ++ bytes) e) found.2
    (ap (λ l. codes "compact " ++ l) (alone_in-is bytes found.0 found.1))

consume_in-is : (bytes : List ℕ) (event : Event) → consume_in bytes ≡ Some event
    → Says (codes "consume " ++ bytes) event
consume_in-is bytes event h =
    let call = some_then _ (call_in bytes) event h in
    let arguments = call.0.1 in
    let seq = some_then _ (number_in 1 256 (word_of arguments)) event call.2 in
    let upto = some_mapped _ (number_behind (behind_word arguments)) event seq.2 in
    let space = some_then _ (behind (codes " ") (behind_word arguments)) upto.0 upto.1 in
    let rest : behind_word arguments ≡ 32 ∷ space.0 =
    behind-is (codes " ") (behind_word arguments) space.0 space.1 in
    let parts : arguments ≡ spaced (word_of arguments) space.0 = word_of-behind arguments
    ∙ ap (λ l. word_of arguments ++ l) rest in
    subst (λ e. Says (codes "consume " ++ bytes) e) upto.2 (
      word_of arguments,
      space.0,
      number_in-is 1 256 (word_of arguments) seq.0 seq.1,
      number_in-is 1 9223372036854775807 space.0 upto.0 space.2,
      ap (λ l. codes "consume " ++ l) (call_in-is bytes call.0 call.1 ∙ ap (λ l. spaced (side_text call.0.0) l) parts),
    )

arm_in-is : (bytes : List ℕ) (event : Event) → arm_in bytes ≡ Some event → Says (codes "arm " ++ bytes) event
arm_in-is bytes event h =
    let found = some_mapped _ (numbered_in 1 1000 bytes) event h in
    let n = numbered_in-is 1 1000 bytes found.0 found.1 in
    subst (λ e. Says (codes "arm " ++ bytes) e) found.2 (n.word, n.number, ap (λ l. codes "arm " ++ l) n.text)

crash_in-is : (bytes : List ℕ) (event : Event) → crash_in bytes ≡ Some event → Says (codes "crash " ++ bytes) event
crash_in-is bytes event h =
    let found = some_mapped _ (numbered_in 0 3 bytes) event h in
    let n = numbered_in-is 0 3 bytes found.0 found.1 in
    subst (λ e. Says (codes "crash " ++ bytes) e) found.2 (n.word, n.number, ap (λ l. codes "crash " ++ l) n.text)

some_bytes-is : (r : Result (List ℕ) FromHexError) (bytes : List ℕ) → some_bytes r ≡ Some bytes
    → (bytes ≢ []) × (r ≡ Ok bytes)
some_bytes-is (Ok found) bytes h = let is = text_in-is found bytes h in (is.0, ap Ok is.1)
some_bytes-is (Err _) bytes h = absurd (cc)

noise_in-is : (bytes : List ℕ) (event : Event) → noise_in bytes ≡ Some event → Says (codes "noise " ++ bytes) event
noise_in-is bytes event h =
    let call = some_then _ (call_in bytes) event h in
    let found = some_mapped _ (some_bytes (decode_of call.0.1)) event call.2 in
    let is = some_bytes-is (decode_of call.0.1) found.0 found.1 in
    subst (λ e. Says (codes "noise " ++ bytes) e) found.2
    (call.0.1, is.0, is.1, ap (λ l. codes "noise " ++ l) (call_in-is bytes call.0 call.1))

mishap_in-is : (line : List ℕ) (event : Event) → mishap_in line ≡ Some event → Says line event
mishap_in-is line event =
    said_by Says (codes "deliver ") line deliver_in _ event (λ rest. deliver_in-is rest event)
    (said_by Says (codes "arm ") line arm_in _ event (λ rest. arm_in-is rest event)
    (said_by Says (codes "crash ") line crash_in _ event (λ rest. crash_in-is rest event)
    (said_by Says (codes "noise ") line noise_in None event (λ rest. noise_in-is rest event) (λ h. absurd (cc)))))

request_in-is : (line : List ℕ) (event : Event) → request_in line ≡ Some event → Says line event
request_in-is line event =
    said_by Says (codes "create ") line create_in _ event (λ rest. create_in-is rest event)
    (said_by Says (codes "grant ") line grant_in _ event (λ rest. grant_in-is rest event)
    (said_by Says (codes "send ") line send_in _ event (λ rest. send_in-is rest event)
    (said_by Says (codes "tick ") line tick_in _ event (λ rest. tick_in-is rest event)
    (said_by Says (codes "close ") line close_in _ event (λ rest. close_in-is rest event)
    (said_by Says (codes "end ") line end_in _ event (λ rest. end_in-is rest event)
    (said_by Says (codes "ask ") line ask_in _ event (λ rest. ask_in-is rest event)
    (said_by Says (codes "nack ") line nack_in _ event (λ rest. nack_in-is rest event)
    (said_by Says (codes "poll ") line poll_in _ event (λ rest. poll_in-is rest event)
    (said_by Says (codes "compact ") line compact_in _ event (λ rest. compact_in-is rest event)
    (said_by Says (codes "consume ") line consume_in _ event (λ rest. consume_in-is rest event)
    (mishap_in-is line event)))))))))))

-- a line that is read says that
pub event_in-is : (line : List ℕ) (event : Event) → event_in line ≡ Some event → Says line event
event_in-is line event h =
    let read : Bool → Option Event = λ t. if t then Some Nothing else request_in line in
    elim (is_blank line) as (λ t. is_blank line ≡ t → read t ≡ Some event → Says line event) [
      | true ↦ λ e h. let same : Nothing ≡ event = cc in subst (λ x. Says line x) same (is_blank-is line e)
      | false ↦ λ e h. request_in-is line event h
    ] refl h

-- a line that isn't read says nothing
pub event_in-none : (line : List ℕ) → event_in line ≡ None → (event : Event) → Says line event → ⊥
event_in-none line none event h = let found : None ≡ Some event = sym none ∙ event_in-said line event h in absurd (cc)

-- a line says at most one thing
pub Says-one : (line : List ℕ) (a b : Event) → Says line a → Says line b → a ≡ b
Says-one line a b f g =
    let both : Some a ≡ Some b = sym (event_in-said line a f) ∙ event_in-said line b g in cc
