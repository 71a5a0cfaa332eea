-- Bytes with which no document begins, or no envelope.
use Rattle.std.proofs.Common.{◌≡◌, ℕ, ◌+◌, ◌<◌, ◌≤◌, List, [], ◌++◌, Some, None, length, take, drop, true, refl}
use Rattle.std.proofs.Common.{sym, ap}
use Rattle.std.proofs.Common.{subst, ◌∙◌, arith, length-append, append-nil, Bool, false, nat_le}
use Rattle.std.proofs.lemmas.Bool.Decides.{nat_tests}
use Rattle.std.proofs.lemmas.List.{append_assoc, take_at, take-append-le, take-append-drop}
use Rattle.rm_base.specs.Limits.{envelope_bytes}
use Rattle.soap_document.specs.Grammar.{IsDocument}
use Rattle.soap_document.specs.Machine.{State, start, run, is_refused, root_of}
use Rattle.soap_document.specs.Tree as written
use Rattle.soap_envelope.specs.Envelope.{Envelope, IsEnvelope}
use Rattle.soap_envelope.specs.Soap.{soap_space}
use Rattle.soap_document.specs.Profile.Document.{Document}
use Rattle.soap_document.specs.Profile.Tree.{Element}
use Rattle.soap_pieces.specs.Hopeless.{BeginsNone, BeginsOther, IsHopeless, too_long, refused, none, other}
use Rattle.soap_pieces.proofs.Behind.{Joins, IsRead}
use Rattle.soap_pieces.proofs.Envelopes.{Stands, envelope_on, envelope_back}

-- what is refused stays so
abbrev pub Stays : Type 0
Stays = (s : State) (bytes : List ℕ) → is_refused s.mode ≡ true → is_refused (run s bytes).mode ≡ true

-- and is no document
abbrev pub IsNone : Type 0
IsNone = (s : State) (bytes : List ℕ) → is_refused s.mode ≡ true → root_of (run s bytes) ≡ None

-- ---- it stays so

pub refused_more : Joins → Stays → (bytes more : List ℕ) → is_refused (run start bytes).mode ≡ true
    → is_refused (run start (bytes ++ more)).mode ≡ true
refused_more joins stays bytes more r =
    ap (λ (s : State). is_refused s.mode) (joins start bytes more) ∙ stays (run start bytes) more r

longer : (bytes more : List ℕ) → envelope_bytes < length bytes → envelope_bytes < length (bytes ++ more)
longer bytes more l = let e : length (bytes ++ more) ≡ length bytes + length more = length-append bytes more in
    omega (arith, l, e)

none_more : Joins → Stays → (bytes more : List ℕ) → BeginsNone bytes → BeginsNone (bytes ++ more)
none_more joins stays bytes more (too_long l) = too_long (longer bytes more l)
none_more joins stays bytes more (refused r) = refused (refused_more joins stays bytes more r)

pub stays_hopeless : Joins → Stays → (bytes more : List ℕ) → IsHopeless bytes → IsHopeless (bytes ++ more)
stays_hopeless joins stays bytes more (none n) = none (none_more joins stays bytes more n)
stays_hopeless joins stays bytes more (other o) = other (record {
  front = o.front;
  more = o.more ++ more;
  is = ap (λ b. b ++ more) o.is ∙ append_assoc o.front o.more more;
  root = o.root;
  document = o.document;
  other = o.other;
})

-- ---- no document, and no envelope

no_written : Joins → IsNone → IsRead → (bytes more : List ℕ) (root : written.Element) → BeginsNone bytes
    → length (bytes ++ more) ≤ envelope_bytes → ¬ (IsDocument (bytes ++ more) root)
no_written joins nothing read bytes more root (too_long l) fits d =
    let long : envelope_bytes < length (bytes ++ more) = longer bytes more l in omega (arith, long, fits)
no_written joins nothing read bytes more root (refused r) fits d =
    let found : root_of (run start (bytes ++ more)) ≡ Some root = (read (bytes ++ more) root).0 d in
    let missing : root_of (run start (bytes ++ more)) ≡ None =
    ap root_of (joins start bytes more) ∙ nothing (run start bytes) more r in
    let wrong = sym missing ∙ found in cc

pub no_document : Joins → IsNone → IsRead → (bytes more : List ℕ) (tree : Element) → BeginsNone bytes
    → length (bytes ++ more) ≤ envelope_bytes → ¬ (Document (bytes ++ more) tree)
no_document joins nothing read bytes more tree n fits d =
    no_written joins nothing read bytes more d.raw n fits d.is

pub no_envelope : Joins → IsNone → IsRead → Stands → (bytes more : List ℕ) (envelope : Envelope) → IsHopeless bytes
    → length (bytes ++ more) ≤ envelope_bytes → ¬ (IsEnvelope soap_space (bytes ++ more) envelope)
no_envelope joins nothing read stands bytes more envelope (none n) fits h =
    no_written joins nothing read bytes more h.raw n fits h.document
no_envelope joins nothing read stands bytes more envelope (other o) fits h =
    let is : bytes ++ more ≡ o.front ++ (o.more ++ more) =
    ap (λ b. b ++ more) o.is ∙ append_assoc o.front o.more more in
    o.other envelope (envelope_back joins read stands o.front (o.more ++ more) o.root envelope soap_space o.document
    (subst (λ b. IsEnvelope soap_space b envelope) is h))

pub refused_no_tree : IsNone → IsRead → (bytes : List ℕ) → is_refused (run start bytes).mode ≡ true → (tree : Element)
    → ¬ (Document bytes tree)
refused_no_tree nothing read bytes r tree d =
    let found : root_of (run start bytes) ≡ Some d.raw = (read bytes d.raw).0 d.is in
    let missing : root_of (run start bytes) ≡ None = nothing (run start bytes) [] r in
    let wrong = sym missing ∙ found in cc

-- ---- where an envelope begins them, no other document does

-- of two fronts of bytes one begins with the other
shorter_front : (front more longest rest : List ℕ) → front ++ more ≡ longest ++ rest → length front ≤ length longest
    → longest ≡ front ++ drop (length front) longest
shorter_front front more longest rest e l =
    let n = length front in
    let same : take n longest ≡ front = sym (take-append-le n longest rest l) ∙ ap (take n) (sym e)
    ∙ take_at front more n refl in
    sym (take-append-drop n longest) ∙ ap (λ x. x ++ drop n longest) same

one_front_by : Joins → IsRead → Stands → (front more : List ℕ) (envelope : Envelope) (o : BeginsOther (front ++ more))
    → IsEnvelope soap_space front envelope → (b : Bool) → nat_le (length front) (length o.front) ≡ b → ⊥
one_front_by joins read stands front more envelope o h true e =
    let l : length front ≤ length o.front = grind (arith, nat_tests) in
    let behind = drop (length front) o.front in
    let is : o.front ≡ front ++ behind = shorter_front front more o.front o.more o.is l in
    o.other envelope (subst (λ b. IsEnvelope soap_space b envelope) (sym is) (envelope_on joins read stands front behind
    o.root envelope soap_space (subst (λ b. IsDocument b o.root) is o.document) h))
one_front_by joins read stands front more envelope o h false e =
    let l : length o.front ≤ length front = grind (arith, nat_tests) in
    let behind = drop (length o.front) front in
    let is : front ≡ o.front ++ behind = shorter_front o.front o.more front more (sym o.is) l in
    o.other envelope (envelope_back joins read stands o.front behind o.root envelope soap_space o.document
    (subst (λ b. IsEnvelope soap_space b envelope) is h))

pub one_front : Joins → IsRead → Stands → (front more : List ℕ) (envelope : Envelope)
    → IsEnvelope soap_space front envelope → ¬ (BeginsOther (front ++ more))
one_front joins read stands front more envelope h o =
    one_front_by joins read stands front more envelope o h (nat_le (length front) (length o.front)) refl
