-- Header blocks of WS-ReliableMessaging and WS-MakeConnection, as they are read.
use Rattle.std.proofs.Common.{◌≡◌, ◌≤◌, ℕ, Bool, true, false, if◌then◌else◌, List, [], ◌∷◌, Option}
use Rattle.std.proofs.Common.{Some, None, option_map, Ok, Err, codes, refl, subst, arith, nat_lt, nat_eq}
use Rattle.std.specs.Prelude.{is_some}
use Rattle.std.specs.List.{AllByRecursion}
use Rattle.std.proofs.lemmas.Bool.{ltb-false, eqb-false}
use Rattle.rm_base.specs.Text.{IsText}
use Rattle.soap_document.specs.Profile.Tree.{Element, Parts, name_of, attrs_of, parts_of}
use Rattle.soap_document.specs.declared.profile.tree.Attr.{Attr}
use Rattle.soap_writer.specs.Values.Children.{name_in, children_named, value_among}
use Rattle.soap_writer.specs.Values.Outcome.{◌>>=◌, optional, single, each}
use Rattle.soap_writer.specs.Values.Values.{trimmed_text, whole_number}
use Rattle.rm_sides.specs.declared.ranges.range.Range.{Range}
use Rattle.rm_message.specs.Elements.Headers.{ident_of, identifier, counted, number_in, number_of, unless_zero}
use Rattle.rm_message.specs.Elements.Headers.{message_number}
use Rattle.rm_message.specs.Elements.Headers.{numbered_in, unless_rolled, bound_in, range_of, ack_of, ack_in}
use Rattle.rm_message.specs.Elements.Headers.{pending_in, header_name, header_as, header_of}
use Rattle.rm_message.specs.Elements.Outcome.{rm, named}
use Rattle.rm_message.specs.Elements.Writable.{IsNumber, IsRange, IsAckWritable, IsHeaderWritable}
use Rattle.rm_message.specs.declared.elements.error.ElementError.TheVariants.{Rollover}
use Rattle.rm_message.specs.declared.elements.header.AckBlock.{AckBlock}
use Rattle.rm_message.specs.declared.elements.header.AckKind.TheVariants.{Ranges, Nothing, Nack}
use Rattle.rm_message.specs.declared.elements.header.Header.{Header}
use Rattle.rm_message.specs.declared.elements.header.Header.TheVariants.{Sequence, Ack, Ask, Pending}
use Rattle.rm_message.specs.declared.elements.header.SeqHeader.{SeqHeader}
use Rattle.rm_message.specs.declared.elements.read.HeaderName.{HeaderName}
use Rattle.rm_message.specs.declared.elements.read.HeaderName.TheVariants as names
use Rattle.rm_wire.proofs.ReadLawsLemmas.Lists.{each_is}
use Rattle.rm_wire.proofs.ReadLawsLemmas.Texts.{text_read}

-- ---- identifiers and numbers

ident_at : (o : Option Element) (ident : List ℕ) → (o >>= λ e. ident_of e) ≡ Some ident → IsText 512 ident
ident_at None ident h = cc
ident_at (Some e) ident h = text_read 512 (trimmed_text e) ident h

pub identifier_is : (parts : Parts) (ident : List ℕ) → identifier parts ≡ Some ident → IsText 512 ident
unfolding identifier
identifier_is parts ident h = ident_at (single (children_named (rm (codes "Identifier")) parts)) ident h

number_from : (n m : ℕ) (zero above : Bool) → nat_eq n 0 ≡ zero → nat_lt 9223372036854775807 n ≡ above
    → (if zero then None else if above then None else Some n) ≡ Some m → IsNumber m
number_from n m true above z a e = cc
number_from n m false true z a e = cc
number_from n m false false z a e =
    let is : n ≡ m = cc in
    let some : n ≡ 0 → ⊥ = eqb-false n 0 z in
    let few = ltb-false 9223372036854775807 n a in
    subst IsNumber is (record { low = omega (arith, some); high = few })

counted_is : (n m : ℕ) → counted n ≡ Some m → IsNumber m
counted_is n m e = number_from n m (nat_eq n 0) (nat_lt 9223372036854775807 n) refl refl e

number_at : (o : Option ℕ) (m : ℕ) → (o >>= λ n. counted n) ≡ Some m → IsNumber m
number_at None m e = cc
number_at (Some n) m e = counted_is n m e

number_in_at : (o : Option (List ℕ)) (m : ℕ) → (o >>= λ bytes. number_in bytes) ≡ Some m → IsNumber m
number_in_at None m e = cc
number_in_at (Some bytes) m e = number_at (whole_number bytes) m e

pub number_is : (e : Element) (m : ℕ) → number_of e ≡ Some m → IsNumber m
number_is e m h = number_in_at (trimmed_text e) m h

-- ---- Sequence

some_from : (n m : ℕ) (zero : Bool) → nat_eq n 0 ≡ zero → (if zero then None else Some n) ≡ Some m → 1 ≤ m
some_from n m true z e = cc
some_from n m false z e =
    let is : n ≡ m = cc in
    let some : n ≡ 0 → ⊥ = eqb-false n 0 z in
    subst (λ (k : ℕ). 1 ≤ k) is (omega (arith, some))

whole_at : (o : Option ℕ) (m : ℕ) → (o >>= λ n. unless_zero n) ≡ Some m → 1 ≤ m
whole_at None m e = cc
whole_at (Some n) m e = some_from n m (nat_eq n 0) refl e

bytes_at : (o : Option (List ℕ)) (m : ℕ) → (o >>= λ bytes. (whole_number bytes >>= λ n. unless_zero n)) ≡ Some m
    → 1 ≤ m
bytes_at None m e = cc
bytes_at (Some bytes) m e = whole_at (whole_number bytes) m e

child_at : (o : Option Element) (m : ℕ)
    → (o >>= λ e. (trimmed_text e >>= λ bytes. (whole_number bytes >>= λ n. unless_zero n))) ≡ Some m → 1 ≤ m
child_at None m e = cc
child_at (Some x) m e = bytes_at (trimmed_text x) m e

message_number_is : (parts : Parts) (m : ℕ) → message_number parts ≡ Some m → 1 ≤ m
unfolding message_number
message_number_is parts m e = child_at (single (children_named (rm (codes "MessageNumber")) parts)) m e

-- an identifier and a number that is not zero
pub record IsNumbered (s : SeqHeader) : Type 0 where
  pub ident : IsText 512 s.ident
  pub some : 1 ≤ s.number

numbered_at : (a : Option (List ℕ)) (b : Option ℕ) (s : SeqHeader)
    → (a >>= λ ident. (b >>= λ n. Some (record { ident = ident; number = n }))) ≡ Some s
    → ((ident : List ℕ) → a ≡ Some ident → IsText 512 ident) → ((n : ℕ) → b ≡ Some n → 1 ≤ n) → IsNumbered s
numbered_at None b s e f g = cc
numbered_at (Some ident) None s e f g = cc
numbered_at (Some ident) (Some n) s e f g =
    let is : record { ident = ident; number = n } ≡ s = cc in
    subst IsNumbered is (record { ident = f ident refl; some = g n refl })

numbered_is : (parts : Parts) (s : SeqHeader) → numbered_in parts ≡ Some s → IsNumbered s
unfolding numbered_in
numbered_is parts s e =
    numbered_at (identifier parts) (message_number parts) s e (identifier_is parts) (message_number_is parts)

-- ---- SequenceAcknowledgement

bound_is : (local : List ℕ) (e : Element) (m : ℕ) → bound_in local e ≡ Some m → IsNumber m
bound_is local e m h = number_in_at (value_among (name_in [] local) (attrs_of e)) m h

rises_at : (lower upper : ℕ) (x : Range) (t : Bool) → nat_lt upper lower ≡ t
    → (if t then None else Some (record { lower = lower; upper = upper })) ≡ Some x → IsNumber lower → IsNumber upper
    → IsRange x
rises_at lower upper x true d e low high = cc
rises_at lower upper x false d e low high =
    let is : record { lower = lower; upper = upper } ≡ x = cc in
    subst IsRange is (record { lower = low; rises = ltb-false upper lower d; upper = high })

range_at : (a b : Option ℕ) (x : Range) → (a >>= λ lower. (b >>= λ upper. (if nat_lt upper lower then None
    else Some (record { lower = lower; upper = upper })))) ≡ Some x → ((m : ℕ) → a ≡ Some m → IsNumber m)
    → ((m : ℕ) → b ≡ Some m → IsNumber m) → IsRange x
range_at None b x e f g = cc
range_at (Some lower) None x e f g = cc
range_at (Some lower) (Some upper) x e f g =
    rises_at lower upper x (nat_lt upper lower) refl e (f lower refl) (g upper refl)

range_is : (e : Element) (x : Range) → range_of e ≡ Some x → IsRange x
unfolding range_of
range_is e x h =
    range_at (bound_in (codes "Lower") e) (bound_in (codes "Upper") e) x h (bound_is (codes "Lower") e)
    (bound_is (codes "Upper") e)

ack_of_is : (ident : List ℕ) (ranges : List Range) (nothing : Bool) (nacks : List ℕ) (last : Bool) (x : AckBlock)
    → ack_of ident ranges nothing nacks last ≡ Some x → IsText 512 ident → AllByRecursion IsRange ranges
    → AllByRecursion IsNumber nacks → IsAckWritable x
unfolding ack_of
ack_of_is ident [] true [] last x e i r n =
    let is : record { ident = ident; kind = Nothing; last = last } ≡ x = cc in
    subst IsAckWritable is (record { ident = i; kind = tt })
ack_of_is ident [] true (k ∷ nacks) last x e i r n = cc
ack_of_is ident (y ∷ ranges) true nacks last x e i r n = cc
ack_of_is ident [] false [] last x e i r n = cc
ack_of_is ident (y ∷ ranges) false [] last x e i r n =
    let is : record { ident = ident; kind = Ranges (y ∷ ranges); last = last } ≡ x = cc in
    subst IsAckWritable is (record { ident = i; kind = (λ d. cc, r) })
ack_of_is ident [] false (k ∷ nacks) true x e i r n = cc
ack_of_is ident [] false (k ∷ nacks) false x e i r n =
    let is : record { ident = ident; kind = Nack (k ∷ nacks); last = false } ≡ x = cc in
    subst IsAckWritable is (record { ident = i; kind = (λ d. cc, n, refl) })
ack_of_is ident (y ∷ ranges) false (k ∷ nacks) last x e i r n = cc

ack_at : (a : Option (List ℕ)) (b : Option (List Range)) (c : Option (Option Element)) (d : Option (List ℕ))
    (f : Option (Option Element)) (x : AckBlock)
    → (a >>= λ ident. (b >>= λ ranges. (c >>= λ nothing. (d >>= λ nacks. (f >>= λ final. ack_of ident ranges
    (is_some nothing) nacks (is_some final)))))) ≡ Some x
    → ((ident : List ℕ) → a ≡ Some ident → IsText 512 ident)
    → ((ranges : List Range) → b ≡ Some ranges → AllByRecursion IsRange ranges)
    → ((nacks : List ℕ) → d ≡ Some nacks → AllByRecursion IsNumber nacks) → IsAckWritable x
ack_at None b c d f x e i r n = cc
ack_at (Some ident) None c d f x e i r n = cc
ack_at (Some ident) (Some ranges) None d f x e i r n = cc
ack_at (Some ident) (Some ranges) (Some nothing) None f x e i r n = cc
ack_at (Some ident) (Some ranges) (Some nothing) (Some nacks) None x e i r n = cc
ack_at (Some ident) (Some ranges) (Some nothing) (Some nacks) (Some final) x e i r n =
    ack_of_is ident ranges (is_some nothing) nacks (is_some final) x e (i ident refl) (r ranges refl) (n nacks refl)

-- whatever it is
abbrev pub IsAny : Element → Type 0
IsAny e = Unit {0}

pub any_each : (es : List Element) → AllByRecursion IsAny es
any_each [] = tt
any_each (e ∷ es) = (tt, any_each es)

ack_is : (parts : Parts) (x : AckBlock) → ack_in parts ≡ Some x → IsAckWritable x
unfolding ack_in
ack_is parts x e =
    let ranges = children_named (rm (codes "AcknowledgementRange")) parts in
    let nacks = children_named (rm (codes "Nack")) parts in
    ack_at (identifier parts) (each range_of ranges) (optional (children_named (rm (codes "None")) parts))
    (each number_of nacks) (optional (children_named (rm (codes "Final")) parts)) x e (identifier_is parts)
    (each_is IsAny IsRange range_of (λ r h y d. range_is r y d) ranges (any_each ranges))
    (each_is IsAny IsNumber number_of (λ r h y d. number_is r y d) nacks (any_each nacks))

-- ---- all of them

named_is : {A : Type 0} (local : List ℕ) (f : A → Header) (o : Option A) (h : Header)
    → named local (option_map f o) ≡ Ok (Some h) → ((x : A) → o ≡ Some x → IsHeaderWritable (f x))
    → IsHeaderWritable h
named_is local f None h e step = cc
named_is local f (Some x) h e step = let is : f x ≡ h = cc in subst IsHeaderWritable is (step x refl)

not_rolled : {A : Type 0} (local : List ℕ) (o : Option A) (ident : List ℕ) → named local o ≡ Err (Rollover ident) → ⊥
not_rolled local None ident e = cc
not_rolled local (Some x) ident e = cc

rolled_at : (s : SeqHeader) (h : Header) (t : Bool) → nat_lt 9223372036854775807 s.number ≡ t
    → (if t then Err (Rollover s.ident) else Ok (Some (Sequence s))) ≡ Ok (Some h) → IsNumbered s → IsHeaderWritable h
rolled_at s h true d e is = cc
rolled_at s h false d e is =
    let same : Sequence s ≡ h = cc in
    subst IsHeaderWritable same (record {
      ident = is.ident;
      number = record { low = is.some; high = ltb-false 9223372036854775807 s.number d };
    })

sequence_at : (o : Option SeqHeader) (h : Header) → unless_rolled o ≡ Ok (Some h)
    → ((s : SeqHeader) → o ≡ Some s → IsNumbered s) → IsHeaderWritable h
sequence_at None h e is = cc
sequence_at (Some s) h e is = rolled_at s h (nat_lt 9223372036854775807 s.number) refl e (is s refl)

header_at : (name : Option HeaderName) (attrs : List Attr) (parts : Parts) (h : Header)
    → header_as name attrs parts ≡ Ok (Some h) → IsHeaderWritable h
header_at None attrs parts h e = cc
header_at (Some names.SequenceName) attrs parts h e = sequence_at (numbered_in parts) h e (numbered_is parts)
header_at (Some names.AckName) attrs parts h e =
    named_is (codes "SequenceAcknowledgement") Ack (ack_in parts) h e (ack_is parts)
header_at (Some names.AskName) attrs parts h e =
    named_is (codes "AckRequested") Ask (identifier parts) h e (identifier_is parts)
header_at (Some names.PendingName) attrs parts h e =
    named_is (codes "MessagePending") Pending (pending_in attrs) h e (λ x d. tt)

-- a header block that was read
pub header_is : (e : Element) (h : Header) → header_of e ≡ Ok (Some h) → IsHeaderWritable h
header_is e h d = header_at (header_name (name_of e)) (attrs_of e) (parts_of e) h d

passed_at : (s : SeqHeader) (ident : List ℕ) (t : Bool)
    → (if t then Err (Rollover s.ident) else Ok (Some (Sequence s))) ≡ Err (Rollover ident) → IsNumbered s
    → IsText 512 ident
passed_at s ident true e is = let same : s.ident ≡ ident = cc in subst (IsText 512) same is.ident
passed_at s ident false e is = cc

rolled_sequence : (o : Option SeqHeader) (ident : List ℕ) → unless_rolled o ≡ Err (Rollover ident)
    → ((s : SeqHeader) → o ≡ Some s → IsNumbered s) → IsText 512 ident
rolled_sequence None ident e is = cc
rolled_sequence (Some s) ident e is = passed_at s ident (nat_lt 9223372036854775807 s.number) e (is s refl)

rolled_as : (name : Option HeaderName) (attrs : List Attr) (parts : Parts) (ident : List ℕ)
    → header_as name attrs parts ≡ Err (Rollover ident) → IsText 512 ident
rolled_as None attrs parts ident e = cc
rolled_as (Some names.SequenceName) attrs parts ident e =
    rolled_sequence (numbered_in parts) ident e (numbered_is parts)
rolled_as (Some names.AckName) attrs parts ident e =
    absurd (not_rolled (codes "SequenceAcknowledgement") (option_map Ack (ack_in parts)) ident e)
rolled_as (Some names.AskName) attrs parts ident e =
    absurd (not_rolled (codes "AckRequested") (option_map Ask (identifier parts)) ident e)
rolled_as (Some names.PendingName) attrs parts ident e =
    absurd (not_rolled (codes "MessagePending") (option_map Pending (pending_in attrs)) ident e)

-- the identifier of a Sequence whose number is above the greatest
pub rolled_is : (e : Element) (ident : List ℕ) → header_of e ≡ Err (Rollover ident) → IsText 512 ident
rolled_is e ident d = rolled_as (header_name (name_of e)) (attrs_of e) (parts_of e) ident d
