-- The message of an envelope, or the reason that there is none, as it is read.
use Rattle.std.proofs.Common.{◌≡◌, ℕ, Bool, true, false, not, ◌&&◌, ◌||◌, if◌then◌else◌, List, [], ◌∷◌, Option, Some}
use Rattle.std.proofs.Common.{None, Result, Ok, Err, codes, refl, ap, subst, ◌∙◌}
use Rattle.std.specs.Prelude.{IsSome, IfSome, MatchResult, is_some}
use Rattle.std.specs.List.{AllByRecursion, filter, flat_map, list_any}
use Rattle.std.proofs.lemmas.Bool.{or_parts}
use Rattle.rm_base.specs.Text.{IsText}
use Rattle.soap_lex.specs.Facts.{equal}
use Rattle.soap_document.specs.Profile.Tree.{Element, element, name_of, attrs_of}
use Rattle.rm_base.specs.declared.message.Binding.{Binding}
use Rattle.soap_document.specs.declared.profile.name.Expanded.{Expanded}
use Rattle.soap_writer.specs.Writable.{IsNameWritable}
use Rattle.soap_envelope.specs.Envelope.{Envelope}
use Rattle.soap_writer.specs.Stripped.Resolved.{AreInForce, IsResolved}
use Rattle.soap_writer.specs.Values.Children.{name_in, value_among}
use Rattle.soap_writer.specs.Values.Outcome.{◌>>=◌, optional, if_present}
use Rattle.soap_writer.specs.Values.QNames.{within, qname_in}
use Rattle.wsa_headers.specs.Addressing.{addressing_in, uri_header, is_header, blocks_named}
use Rattle.wsa_headers.specs.Endpoint.{wsa, uri_of}
use Rattle.wsa_headers.specs.Writable.{IsAddressingWritable}
use Rattle.wsa_headers.specs.declared.addressing.Addressing.{Addressing}
use Rattle.wsa_headers.specs.declared.error.AddressingError.{AddressingError}
use Rattle.wsa_headers.specs.declared.error.AddressingError.TheVariants as errors
use Rattle.rm_message.specs.Elements.Headers.{header_of}
use Rattle.rm_message.specs.Elements.Outcome.{rm}
use Rattle.rm_message.specs.Elements.Writable.{IsAckWritable}
use Rattle.rm_message.specs.declared.elements.error.ElementError.{ElementError}
use Rattle.rm_message.specs.declared.elements.error.ElementError.TheVariants as flaws
use Rattle.rm_message.specs.declared.elements.header.AckBlock.{AckBlock}
use Rattle.rm_message.specs.declared.elements.header.Header.{Header}
use Rattle.rm_message.specs.declared.elements.header.Header.TheVariants as heads
use Rattle.rm_message.specs.declared.elements.header.SeqHeader.{SeqHeader}
use Rattle.rm_message.specs.Actions.{create_sequence}
use Rattle.rm_message.specs.declared.message.Body.{Body}
use Rattle.rm_message.specs.declared.message.Body.TheVariants as bodies
use Rattle.rm_message.specs.declared.message.Message.{Message}
use Rattle.message_reader.specs.Blocks.{is_block, blocks, has_block, is_not_understood, not_understood}
use Rattle.message_reader.specs.Bodies.{fault_at, body_in}
use Rattle.message_reader.specs.Headers.{ack_from, ask_from, numbered_from, ack_of, ask_of, acks_in, asks_in}
use Rattle.message_reader.specs.Headers.{pending_in, numbered_of, sequence_name, listed, told_name}
use Rattle.message_reader.specs.Headers.{told_names, sequence_fault_in}
use Rattle.message_reader.specs.Faults11.{Told}
use Rattle.soap_envelope.specs.Soap.{is_soap11}
use Rattle.message_reader.specs.Message.{Wrong, NotUnderstood, Cardinality, HeaderMissing, BadHeader, Malformed}
use Rattle.message_reader.specs.Message.{Rollover, is_create, is_numbered, has_fault, lacks_id, unless_lacking}
use Rattle.message_reader.specs.Message.{addressed, payload_of, Lists, lists_in, Marks, marks_in, content_in}
use Rattle.message_reader.specs.Message.{with_content, with_addressing, unless_unknown}
use Rattle.message_reader.specs.Message.{message_in, body_of}
use Rattle.rm_wire.specs.ReadLaws.WasRead.{AreReadTogether, WasRead}
use Rattle.rm_wire.proofs.ReadLawsLemmas.Addressing.{IsAddressed, addressing_is}
use Rattle.rm_wire.proofs.ReadLawsLemmas.Bodies.{GoesTogether, IsBodyOf, CreatesById, body_is}
use Rattle.rm_wire.proofs.ReadLawsLemmas.Envelopes.{AreParts, declares}
use Rattle.rm_wire.proofs.ReadLawsLemmas.Faults11.{IsTold, sequence_fault_is}
use Rattle.rm_wire.proofs.ReadLawsLemmas.Headers.{header_is, rolled_is, IsAny, any_each}
use Rattle.rm_wire.proofs.ReadLawsLemmas.Lists.{all_filter, all_map, all_flat_map, each_is}
use Rattle.rm_wire.proofs.ReadLawsLemmas.Names.{WrittenNames, qname_is}

-- ---- header blocks

ack_at : (r : Result (Option Header) ElementError) (x : AckBlock) → ack_from r ≡ Some x
    → r ≡ Ok (Some (heads.Ack x))
ack_at (Ok (Some (heads.Ack y))) x e = let is : y ≡ x = cc in ap (λ z. Ok (Some (heads.Ack z))) is
ack_at (Ok (Some (heads.Sequence y))) x e = cc
ack_at (Ok (Some (heads.Ask y))) x e = cc
ack_at (Ok (Some (heads.Pending y))) x e = cc
ack_at (Ok None) x e = cc
ack_at (Err wrong) x e = cc

ack_is : (e : Element) (x : AckBlock) → ack_of e ≡ Some x → IsAckWritable x
ack_is e x h = header_is e (heads.Ack x) (ack_at (header_of e) x h)

ask_at : (r : Result (Option Header) ElementError) (x : List ℕ) → ask_from r ≡ Some x → r ≡ Ok (Some (heads.Ask x))
ask_at (Ok (Some (heads.Ask y))) x e = let is : y ≡ x = cc in ap (λ z. Ok (Some (heads.Ask z))) is
ask_at (Ok (Some (heads.Sequence y))) x e = cc
ask_at (Ok (Some (heads.Ack y))) x e = cc
ask_at (Ok (Some (heads.Pending y))) x e = cc
ask_at (Ok None) x e = cc
ask_at (Err wrong) x e = cc

ask_is : (e : Element) (x : List ℕ) → ask_of e ≡ Some x → IsText 512 x
ask_is e x h = header_is e (heads.Ask x) (ask_at (header_of e) x h)

-- what is picked where nothing passes
none_pass : (p : Element → Bool) (xs : List Element) → list_any p xs ≡ false → filter p xs ≡ []
none_pass p [] e = refl
none_pass p (x ∷ xs) e =
    let each = or_parts (p x) (list_any p xs) e in rw each.0 (none_pass p xs each.1)

-- no number, where no block is a Sequence
not_numbered : (headers : List Element) → has_block sequence_name headers ≡ false
    → optional (blocks sequence_name headers) ≡ Some None
not_numbered headers h = ap (λ (xs : List Element). optional xs) (none_pass (is_block sequence_name) headers h)

-- ---- names that a peer did not understand

module _ (names : WrittenNames) (scope : List Binding) (outer : AreInForce scope) where
  told_at : (e : Element) → IsResolved 2 e → (o : Option (List ℕ)) (r : Option Expanded)
      → (o >>= λ bytes. qname_in (within (e ∷ []) scope) bytes) ≡ r → AllByRecursion IsNameWritable (listed r)
  told_at e is o None d = tt
  told_at e is None (Some name) d = cc
  told_at e is (Some bytes) (Some name) d =
      (qname_is names (e ∷ []) scope (declares 2 e is, tt) outer bytes name d, tt)

  told_is : (e : Element) → IsResolved 2 e → AllByRecursion IsNameWritable (listed (told_name scope e))
  told_is e is = told_at e is (value_among (name_in [] (codes "qname")) (attrs_of e)) (told_name scope e) refl

  told_by : (soap : List ℕ) (headers : List Element) → AllByRecursion (IsResolved 2) headers → (t : Bool)
      → AllByRecursion IsNameWritable (if t then [] else flat_map (λ e. listed (told_name scope e))
      (blocks (name_in soap (codes "NotUnderstood")) headers))
  told_by soap headers all true = tt
  told_by soap headers all false =
      let told = blocks (name_in soap (codes "NotUnderstood")) headers in
      all_flat_map (IsResolved 2) IsNameWritable (λ e. listed (told_name scope e)) told_is told
      (all_filter (IsResolved 2) (is_block (name_in soap (codes "NotUnderstood"))) headers all)

  told_are : (soap : List ℕ) (headers : List Element) → AllByRecursion (IsResolved 2) headers
      → AllByRecursion IsNameWritable (told_names soap scope headers)
  told_are soap headers all = told_by soap headers all (is_soap11 soap)

-- ---- what a message has beside its addressing properties

-- lists that may be written
record AreLists (lists : Lists) : Type 0 where
  acks : AllByRecursion IsAckWritable lists.0
  asks : AllByRecursion (IsText 512) lists.1

lists_at : (a : Option (List AckBlock)) (b : Option (List (List ℕ))) (lists : Lists)
    → (a >>= λ acks. (b >>= λ asks. Some (acks, asks))) ≡ Some lists
    → ((xs : List AckBlock) → a ≡ Some xs → AllByRecursion IsAckWritable xs)
    → ((xs : List (List ℕ)) → b ≡ Some xs → AllByRecursion (IsText 512) xs) → AreLists lists
lists_at None b lists e f g = cc
lists_at (Some acks) None lists e f g = cc
lists_at (Some acks) (Some asks) lists e f g =
    let pair : Lists = (acks, asks) in
    let is : pair ≡ lists = cc in
    subst AreLists is (record { acks = f acks refl; asks = g asks refl })

lists_are : (headers : List Element) (lists : Lists) → lists_in headers ≡ Some lists → AreLists lists
unfolding lists_in
lists_are headers lists e =
    let acks = blocks (rm (codes "SequenceAcknowledgement")) headers in
    let asks = blocks (rm (codes "AckRequested")) headers in
    lists_at (acks_in headers) (asks_in headers) lists e
    (each_is IsAny IsAckWritable ack_of (λ x h y d. ack_is x y d) acks (any_each acks))
    (each_is IsAny (IsText 512) ask_of (λ x h y d. ask_is x y d) asks (any_each asks))

-- ---- the identifier of CreateSequence

lacking_at : (block fault create : Bool) → (not block && not fault && create) ≡ false → fault ≡ false
    → create ≡ true → block ≡ true
lacking_at true fault create e f c = refl
lacking_at false fault create e f c = let wrong : true ≡ false = rw (f, c) at e in cc

create_told : (headers : List Element) (action : List ℕ)
    → uri_header (codes "Action") headers ≡ Some (Some action)
    → action ≡ create_sequence → is_create (uri_header (codes "Action") headers) ≡ true
create_told headers action a e =
    ap is_create a ∙ equal action create_sequence e

picked_at : (p : Element → Bool) (x : Element) (xs : List Element) (t : Bool) → (t || list_any p xs) ≡ true
    → (list_any p xs ≡ true → filter p xs ≡ [] → ⊥) → (if t then x ∷ filter p xs else filter p xs) ≡ [] → ⊥
picked_at p x xs true e later d = cc
picked_at p x xs false e later d = later e d

picked : (p : Element → Bool) (xs : List Element) → list_any p xs ≡ true → filter p xs ≡ [] → ⊥
picked p [] e d = cc
picked p (x ∷ xs) e d = picked_at p x xs (p x) e (picked p xs) d

none_read : (o : Option (List ℕ)) → (o >>= λ y. Some (Some y)) ≡ Some None → ⊥
none_read None e = cc
none_read (Some y) e = cc

none_there : (xs : List Element) → (optional xs >>= λ found. if_present uri_of found) ≡ Some None → xs ≡ []
none_there [] e = refl
none_there (x ∷ []) e = absurd (none_read (uri_of x) e)
none_there (x ∷ y ∷ xs) e = cc

id_there : (headers : List Element) (id : Option (List ℕ)) → uri_header (codes "MessageID") headers ≡ Some id
    → has_block (wsa (codes "MessageID")) headers ≡ true → IsSome id
id_there headers (Some id) e h = refl
id_there headers None e h =
    absurd (picked (is_header (codes "MessageID")) headers h (none_there (blocks_named (codes "MessageID") headers) e))

-- ---- the whole

-- what a reason says may be written
abbrev pub IsWrongWritable : Wrong → Type 0
IsWrongWritable (NotUnderstood names) = AllByRecursion IsNameWritable names
IsWrongWritable Cardinality = Unit {0}
IsWrongWritable HeaderMissing = Unit {0}
IsWrongWritable BadHeader = Unit {0}
IsWrongWritable (Malformed a) = IsAddressingWritable a
IsWrongWritable (Rollover a ident) = IsAddressingWritable a × IsText 512 ident

-- a message as it is read, or such a reason
abbrev pub IsAnswer : Result Message Wrong → Type 0
IsAnswer answer = MatchResult answer WasRead IsWrongWritable

together_alone : (a : Addressing) (numbered : Bool) (body : Body)
    → GoesTogether numbered a.action a.message_id body → AreReadTogether a None body
together_alone a numbered bodies.Empty is = (refl, is.1)
together_alone a numbered (bodies.Payload p) is = is
together_alone a numbered (bodies.Lifecycle x) is = (refl, is.1, is.2)
together_alone a numbered (bodies.Fault f) is = refl

together_numbered : (a : Addressing) (s : SeqHeader) (numbered : Bool) (body : Body)
    → GoesTogether numbered a.action a.message_id body → (numbered ≡ false → ⊥) → AreReadTogether a (Some s) body
together_numbered a s numbered bodies.Empty is not = absurd (not is.0)
together_numbered a s numbered (bodies.Payload p) is not = is
together_numbered a s numbered (bodies.Lifecycle x) is not = absurd (not is.0)
together_numbered a s numbered (bodies.Fault f) is not = absurd (not is)

-- what is read where a Sequence may stand among the header blocks, and where this was read of it
abbrev pub answer : Addressing → List Expanded → Option Lists → Option (Option Bool) → Option (Option Element)
    → Option Body
    → Result Message Wrong
answer a told x p o z = with_content a (x >>= λ lists. ((p >>= λ pending. ((o >>= λ found. numbered_of found)
    >>= λ number. let marks : Marks = (pending, number) in Some marks)) >>= λ marks. (z >>= λ body. Some (record {
      numbered = marks.1;
      acks = lists.0;
      asks = lists.1;
      pending = marks.0;
      not_understood = told;
      body = body;
    }))))

abbrev pub numbered_answer : Addressing → List Expanded → Lists → Option Bool → Result (Option Header) ElementError
    → Option Body → Result Message Wrong
numbered_answer a told lists pending r z = with_content a ((numbered_from r >>= λ number.
    let marks : Marks = (pending, number) in Some marks) >>= λ marks. (z >>= λ body. Some (record {
      numbered = marks.1;
      acks = lists.0;
      asks = lists.1;
      pending = marks.0;
      not_understood = told;
      body = body;
    })))

module _ (a : Addressing) (rules : IsAddressingWritable a) (told : List Expanded)
    (all : AllByRecursion IsNameWritable told)
    (numbered : Bool) where
  sequence_is : (lists : Lists) (pending : Option Bool) (e : Element) (r : Result (Option Header) ElementError)
      (z : Option Body) → header_of e ≡ r → AreLists lists → (numbered ≡ false → ⊥)
      → ((body : Body) → z ≡ Some body → IsBodyOf numbered a.action a.message_id body)
      → IsAnswer (numbered_answer a told lists pending r z)
  sequence_is lists pending e (Ok (Some (heads.Sequence s))) None h l not is = rules
  sequence_is lists pending e (Ok (Some (heads.Sequence s))) (Some body) h l not is =
      let body_is = is body refl in
      record {
        addressing = rules;
        sequence = header_is e (heads.Sequence s) h;
        acks = l.acks;
        asks = l.asks;
        not_understood = all;
        body = body_is.read;
        together = together_numbered a s numbered body body_is.together not;
      }
  sequence_is lists pending e (Ok (Some (heads.Ack y))) z h l not is = rules
  sequence_is lists pending e (Ok (Some (heads.Ask y))) z h l not is = rules
  sequence_is lists pending e (Ok (Some (heads.Pending y))) z h l not is = rules
  sequence_is lists pending e (Ok None) z h l not is = rules
  sequence_is lists pending e (Err flaws.Memory) z h l not is = rules
  sequence_is lists pending e (Err (flaws.Malformed name)) z h l not is = rules
  sequence_is lists pending e (Err (flaws.Rollover ident)) None h l not is = rules
  sequence_is lists pending e (Err (flaws.Rollover ident)) (Some body) h l not is = (rules, rolled_is e ident h)

  answer_is : (x : Option Lists) (p : Option (Option Bool)) (o : Option (Option Element)) (z : Option Body)
      → ((lists : Lists) → x ≡ Some lists → AreLists lists) → (numbered ≡ false → o ≡ Some None)
      → ((body : Body) → z ≡ Some body → IsBodyOf numbered a.action a.message_id body)
      → IsAnswer (answer a told x p o z)
  answer_is None p o z lists alone is = rules
  answer_is (Some l) None o z lists alone is = rules
  answer_is (Some l) (Some pending) None z lists alone is = rules
  answer_is (Some l) (Some pending) (Some None) None lists alone is = rules
  answer_is (Some l) (Some pending) (Some None) (Some body) lists alone is =
      let lists_are = lists l refl in
      let body_is = is body refl in
      record {
        addressing = rules;
        sequence = tt;
        acks = lists_are.acks;
        asks = lists_are.asks;
        not_understood = all;
        body = body_is.read;
        together = together_alone a numbered body body_is.together;
      }
  answer_is (Some l) (Some pending) (Some (Some e)) z lists alone is =
      sequence_is l pending e (header_of e) z refl (lists l refl) (λ h. let wrong = alone h in cc) is

unless_is : (lacking : Bool) (r : Result Addressing AddressingError)
    → MatchResult (unless_lacking lacking r) (λ a. (lacking ≡ false) × (r ≡ Ok a)) IsWrongWritable
unless_is lacking (Err (errors.Cardinality name)) = tt
unless_is lacking (Err (errors.HeaderMissing name)) = tt
unless_is true (Err (errors.BadHeader name)) = tt
unless_is false (Err (errors.BadHeader name)) = tt
unless_is true (Err errors.Memory) = tt
unless_is false (Err errors.Memory) = tt
unless_is true (Ok a) = tt
unless_is false (Ok a) = (refl, refl)

name_resolved : (e : Element) → IsResolved 2 e → IsNameWritable (name_of e)
name_resolved (element name decls attrs parts) is = is.writable.0.named

module _ (names : WrittenNames) (soap : List ℕ) (e : Envelope) (parts : AreParts e) where
  creates_by_id : (a : Addressing) → IsAddressed e.headers a → lacks_id soap e ≡ false
      → fault_at soap (is_numbered e) e.body ≡ None → CreatesById a.action a.message_id
  creates_by_id a is lacks fault creates =
      id_there e.headers a.message_id is.known
      (lacking_at (has_block (wsa (codes "MessageID")) e.headers) (has_fault soap e)
      (is_create (uri_header (codes "Action") e.headers)) lacks (ap (λ (o : Option Element). is_some o) fault)
      (create_told e.headers a.action is.acts creates))

  body_at : (a : Addressing) → IsAddressed e.headers a → lacks_id soap e ≡ false → (o : Option (Option Told))
      → ((told : Option Told) → o ≡ Some told → IfSome told IsTold) → (body : Body)
      → (o >>= λ told. body_in soap told a.action (is_numbered e) (payload_of e) e.body) ≡ Some body
      → IsBodyOf (is_numbered e) a.action a.message_id body
  body_at a is lacks None tell body h = cc
  body_at a is lacks (Some told) tell body h =
      body_is names soap told (tell told refl) a.action a.message_id (is_numbered e) (payload_of e) e.body body h
      (creates_by_id a is lacks) parts.scope parts.body

  body_told : (a : Addressing) → IsAddressed e.headers a → lacks_id soap e ≡ false → (body : Body)
      → body_of soap a.action e ≡ Some body → IsBodyOf (is_numbered e) a.action a.message_id body
  unfolding body_of
  body_told a is lacks body h =
      body_at a is lacks (sequence_fault_in soap e.header_scope e.headers)
      (sequence_fault_is names e.header_scope parts.header_scope soap e.headers parts.headers) body h

  content_is : (a : Addressing) → IsAddressed e.headers a → lacks_id soap e ≡ false
      → IsAnswer (with_content a (content_in soap a.action e))
  unfolding content_in marks_in
  content_is a is lacks =
      answer_is a is.rules (told_names soap e.header_scope e.headers)
      (told_are names e.header_scope parts.header_scope soap e.headers parts.headers) (is_numbered e)
      (lists_in e.headers) (pending_in e.headers) (optional (blocks sequence_name e.headers))
      (body_of soap a.action e) (lists_are e.headers) (not_numbered e.headers) (body_told a is lacks)

  with_addressing_is : (r : Result Addressing Wrong)
      → MatchResult r (λ a. (lacks_id soap e ≡ false) × (addressing_in e.headers ≡ Ok a)) IsWrongWritable
      → IsAnswer (with_addressing soap e r)
  with_addressing_is (Err wrong) is = is
  with_addressing_is (Ok a) is =
      let addressed_so = addressing_is e.headers a parts.headers is.1 in
      content_is a addressed_so is.0

  unknown_is : (unknown : List Expanded) → AllByRecursion IsNameWritable unknown
      → IsAnswer (unless_unknown soap e unknown)
  unknown_is [] all = with_addressing_is (addressed soap e) (unless_is (lacks_id soap e) (addressing_in e.headers))
  unknown_is (name ∷ unknown) all = all

  -- what is read of an envelope of a document
  pub message_is : IsAnswer (message_in soap e)
  message_is =
      unknown_is (not_understood soap e.headers)
      (all_map (IsResolved 2) IsNameWritable name_of name_resolved (filter (is_not_understood soap) e.headers)
      (all_filter (IsResolved 2) (is_not_understood soap) e.headers parts.headers))
