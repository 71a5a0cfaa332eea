-- What is known once a root has ended.
use Rattle.std.proofs.Common.{◌≡◌, ◌≢◌, ◌↔◌, ℕ, ◌+◌, ◌-◌, ◌<◌, ◌≤◌, List, [], ◌++◌, Bool, true, false, Option, Some}
use Rattle.std.proofs.Common.{None, Result}
use Rattle.std.proofs.Common.{Ok, Err, length, take, drop, refl, sym, ap, subst, ◌∙◌, arith, append-nil, length-take}
use Rattle.std.proofs.Common.{length-append, length-drop}
use Rattle.std.proofs.lemmas.List.{append_assoc, take_all}
use Rattle.std.specs.Prelude.{IfOk}
use Rattle.std.specs.Str.{IsUtf8}
use Rattle.rm_base.specs.Limits.{envelope_bytes}
use Rattle.soap_document.specs.Grammar.{IsDocument}
use Rattle.soap_document.specs.Machine.{State, start, run, root_of, is_refused}
use Rattle.soap_document.specs.Seen.{Sees}
use Rattle.soap_document.specs.Tree as written
use Rattle.soap_envelope.specs.Envelope.{Envelope, IsEnvelope, bytes_within}
use Rattle.soap_envelope.specs.Refusals.{WrongVersion, NotEnvelope}
use Rattle.soap_envelope.specs.Soap.{soap_space}
use Rattle.soap_envelope.specs.Steps.{Answers}
use Rattle.soap_envelope.specs.View.{envelope_view}
use Rattle.soap_envelope.specs.declared.envelope.Envelope.{Envelope as CodeEnvelope}
use Rattle.soap_document.specs.Profile.Document.{Document, IsReadable, IsTextUpTo, IsLongestText}
use Rattle.soap_document.specs.Profile.Tree.{Element}
use Rattle.soap_document.specs.declared.profile.error.EnvelopeError.{EnvelopeError}
use Rattle.soap_document.specs.declared.profile.error.EnvelopeError.TheVariants as Error
use Rattle.soap_pieces.specs.Answer.{Reads}
use Rattle.soap_pieces.specs.Behind.{IsAlike, least}
use Rattle.soap_pieces.specs.Depth.{IsDepth}
use Rattle.soap_pieces.specs.Front.{IsFront}
use Rattle.soap_pieces.specs.Hopeless.{BeginsNone, BeginsOther, IsHopeless, too_long, refused, none, other}
use Rattle.soap_pieces.specs.Stage.{HasEnded, HasRoot, IsKnown, said_root, told, read as asked, IsRefused, payload_len}
use Rattle.soap_pieces.specs.declared.ended.Ended.{Ended}
use Rattle.soap_pieces.specs.declared.front.Front.{Front}
use Rattle.soap_pieces.proofs.Behind.{Joins, IsRead, alike_run, alike_rooted, alike_missing, begins_alike, root_goes}
use Rattle.soap_pieces.proofs.Envelopes.{Stands, envelope_on, tree_on, tree_back}
use Rattle.soap_pieces.proofs.Fronts.{longest_front}
use Rattle.soap_pieces.proofs.Hopeless.{one_front}

-- a document is UTF-8
abbrev pub IsText : Type 0
IsText = (bytes : List ℕ) (root : written.Element) → IsDocument bytes root → IsUtf8 bytes

-- what is answered of bytes
abbrev Answer : Type 0
Answer = Result CodeEnvelope EnvelopeError

-- memory was wanting
abbrev pub out : Answer
out = Err Error.Memory

-- ---- UTF-8

longest_whole : (bytes : List ℕ) (n : ℕ) → IsUtf8 bytes → IsLongestText bytes n → length bytes ≤ n
longest_whole bytes n utf8 l =
    l.longest (length bytes) (omega arith) (subst IsUtf8 (sym (take_all (length bytes) bytes (omega arith))) utf8)

not_up_to : (bytes : List ℕ) (place : ℕ) → IsUtf8 bytes → ¬ (IsTextUpTo bytes place)
not_up_to bytes place utf8 h =
    let l : length bytes ≤ place = longest_whole bytes place utf8 h.2 in omega (arith, l, h.1)

-- of UTF-8 all bytes count
pub front_whole : (f : Front) (bytes : List ℕ) → IsFront f bytes → IsUtf8 bytes → length bytes ≤ f.valid
front_whole f bytes h utf8 =
    let l : length bytes ≤ length h.text =
    longest_whole bytes (length h.text) utf8 (longest_front bytes h.text h.rest h.is h.valid h.stuck) in
    omega (arith, l, h.count)

-- ---- what was answered of the document is answered with more behind it

ok_on : (front bytes : List ℕ) (answer : Answer)
    → ((e : Envelope) → IsEnvelope soap_space front e → IsEnvelope soap_space bytes e)
    → IfOk answer (λ e. IsEnvelope soap_space front (envelope_view e))
    → IfOk answer (λ e. IsEnvelope soap_space bytes (envelope_view e))
ok_on front bytes (Ok e) f h = f (envelope_view e) h
ok_on front bytes (Err e) f h = tt

fits_on : (bytes : List ℕ) (answer : Answer) → IsReadable bytes → IfOk answer (λ _. IsReadable bytes)
fits_on bytes (Ok e) h = h
fits_on bytes (Err e) h = tt

pub reads_on : Joins → IsRead → Stands → IsText → (front more : List ℕ) (root last : written.Element) (answer : Answer)
    → IsDocument front root → IsDocument (front ++ more) last → length front ≤ envelope_bytes
    → length (front ++ more) ≤ envelope_bytes → Reads front answer → Reads (front ++ more) answer
reads_on joins read stands text front more root last answer d e short fits h =
    let utf8 : IsUtf8 (front ++ more) = text (front ++ more) last e in
    let before : IsUtf8 front = text front root d in
    let readable : IsReadable (front ++ more) = (fits, utf8) in record {
      ok = ok_on front (front ++ more) answer
          (λ envelope is. envelope_on joins read stands front more last envelope soap_space e is) h.ok;
      fits = fits_on (front ++ more) answer readable;
      too_long = λ len. (
        λ is. let k = (h.too_long len).0 is in absurd (omega (arith, short, k.0)),
        λ k. absurd (omega (arith, fits, k.0)),
      );
      not_utf8 = λ place. (
        λ is. absurd (not_up_to front place before ((h.not_utf8 place).0 is)),
        λ k. absurd (not_up_to (front ++ more) place utf8 k),
      );
      not_profile = λ is.
          let k = h.not_profile is in
          (fits, utf8, λ tree t. k.2 tree (tree_back joins read front more root tree d t));
      wrong_version = λ is.
          let k = (h.wrong_version is).1 in (
            readable,
            record {
              root = k.root;
              document = tree_on joins read front more last k.root e k.document;
              version = k.version;
            },
          );
      not_envelope = λ is.
          let k = (h.not_envelope is).1 in (
            readable,
            record {
              root = k.root;
              document = tree_on joins read front more last k.root e k.document;
              other = k.other;
            },
          );
    }

-- ---- what an envelope or the lack of one answers

ok_of : (bytes : List ℕ) (answer : Answer) → Answers soap_space bytes answer
    → IfOk answer (λ e. IsEnvelope soap_space bytes (envelope_view e))
ok_of bytes (Ok e) h = h
ok_of bytes (Err e) h = tt

pub reads_by : (bytes : List ℕ) (answer : Answer) → IsReadable bytes → Answers soap_space bytes answer
    → Reads bytes answer
reads_by bytes answer readable h = record {
  ok = ok_of bytes answer h;
  fits = fits_on bytes answer readable;
  too_long = λ len. (
    λ is. absurd (subst (Answers soap_space bytes) is h),
    λ k. absurd (omega (arith, readable.0, k.0)),
  );
  not_utf8 = λ place. (
    λ is. absurd (subst (Answers soap_space bytes) is h),
    λ k. absurd (not_up_to bytes place readable.1 k),
  );
  not_profile = λ is. absurd (subst (Answers soap_space bytes) is h);
  wrong_version = λ is. (readable, subst (Answers soap_space bytes) is h);
  not_envelope = λ is. (readable, subst (Answers soap_space bytes) is h);
}

-- ---- where a document is refused, it is no envelope

-- no bytes are an envelope and another document
pub record OneAnswer : Type 0 where
  pub version : (soap bytes : List ℕ) (envelope : Envelope) → IsEnvelope soap bytes envelope
      → ¬ (WrongVersion soap bytes)
  pub outline : (soap bytes : List ℕ) (envelope : Envelope) → IsEnvelope soap bytes envelope
      → ¬ (NotEnvelope soap bytes)

refusal_other : IsText → OneAnswer → (front : List ℕ) (root : written.Element) (error : EnvelopeError)
    → IsDocument front root → length front ≤ envelope_bytes → Reads front (Err error) → Err error ≢ out
    → (envelope : Envelope) → ¬ (IsEnvelope soap_space front envelope)
refusal_other text one front root Error.Memory d fits h known envelope is = known refl
refusal_other text one front root (Error.TooLong len) d fits h known envelope is =
    let k = (h.too_long len).0 refl in omega (arith, fits, k.0)
refusal_other text one front root (Error.NotUtf8 place) d fits h known envelope is =
    not_up_to front place (text front root d) ((h.not_utf8 place).0 refl)
refusal_other text one front root Error.NotProfile d fits h known envelope is =
    (h.not_profile refl).2 _ (record { raw = is.raw; is = is.document; resolved = is.resolved })
refusal_other text one front root Error.WrongVersion d fits h known envelope is =
    one.version soap_space front envelope is (h.wrong_version refl).1
refusal_other text one front root Error.NotEnvelope d fits h known envelope is =
    one.outline soap_space front envelope is (h.not_envelope refl).1

-- ---- what a reader knows then

front_fits : (e : Ended) (bytes : List ℕ) → (h : HasEnded e bytes) → length h.front ≤ envelope_bytes
front_fits e bytes h =
    let size : length bytes ≡ length h.front + length h.more = ap length h.is ∙ length-append h.front h.more in
    omega (arith, size, h.fits)

pub not_none : (bytes : List ℕ) → length bytes ≤ envelope_bytes → is_refused (run start bytes).mode ≡ false
    → ¬ (BeginsNone bytes)
not_none bytes fits going (too_long l) = omega (arith, fits, l)
not_none bytes fits going (refused r) = let wrong = sym going ∙ r in cc

pub ended_dead : IsText → OneAnswer → (e : Ended) (bytes : List ℕ) (h : HasEnded e bytes) (error : EnvelopeError)
    → e.answer ≡ Err error → IsHopeless bytes
ended_dead text one e bytes h error is = other (record {
  front = h.front;
  more = h.more;
  is = h.is;
  root = h.root;
  document = h.document;
  other = refusal_other text one h.front h.root error h.document (front_fits e bytes h) (subst (Reads h.front) is
      h.answer) (subst (λ a. a ≢ out) is h.known);
})

pub ended_alive : Joins → IsRead → Stands → (e : Ended) (bytes : List ℕ) (h : HasEnded e bytes)
    (envelope : CodeEnvelope) → e.answer ≡ Ok envelope → ¬ (IsHopeless bytes)
ended_alive joins read stands e bytes h envelope is (none n) = not_none bytes h.fits h.going n
ended_alive joins read stands e bytes h envelope is (other o) =
    let found = subst (Reads h.front) is h.answer in
    one_front joins read stands h.front h.more (envelope_view envelope) found.ok (subst BeginsOther h.is o)

-- ---- at the end of the root

pub the_root : (o : Option written.Element) → o ≢ None → (root : written.Element) × (o ≡ Some root)
the_root None h = absurd (h refl)
the_root (Some root) h = (root, refl)

pub found_some : IsRead → (bytes : List ℕ) (root : written.Element) → IsDocument bytes root
    → root_of (run start bytes) ≢ None
found_some read bytes root d = λ missing.
    let found : root_of (run start bytes) ≡ Some root = (read bytes root).0 d in
    let wrong = sym missing ∙ found in cc

-- a document is UTF-8
pub known_utf8 : IsRead → IsText → (bytes : List ℕ) → root_of (run start bytes) ≢ None → IsUtf8 bytes
known_utf8 read text bytes some =
    let found = the_root (root_of (run start bytes)) some in text bytes found.0 ((read bytes found.0).1 found.1)

pub known_by : IsRead → (bytes : List ℕ) (answer : Answer) → Reads bytes answer → HasRoot answer bytes
    → IsKnown answer bytes
known_by read bytes (Ok envelope) h root =
    record { some = found_some read bytes h.ok.raw h.ok.document; known = λ e. cc }
known_by read bytes (Err Error.WrongVersion) h root =
    let k = (h.wrong_version refl).1.document in
    record { some = found_some read bytes k.raw k.is; known = λ e. cc }
known_by read bytes (Err Error.NotEnvelope) h root =
    let k = (h.not_envelope refl).1.document in
    record { some = found_some read bytes k.raw k.is; known = λ e. cc }
known_by read bytes (Err Error.NotProfile) h (asked e some) = record { some = some; known = λ e. cc }
known_by read bytes (Err Error.NotProfile) h (told e) = absurd (cc)
known_by read bytes (Err (Error.NotUtf8 place)) h (told e) = absurd (cc)
known_by read bytes (Err (Error.NotUtf8 place)) h (asked e some) = absurd (cc)
known_by read bytes (Err (Error.TooLong len)) h (told e) = absurd (cc)
known_by read bytes (Err (Error.TooLong len)) h (asked e some) = absurd (cc)
known_by read bytes (Err Error.Memory) h (told e) = absurd (cc)
known_by read bytes (Err Error.Memory) h (asked e some) = absurd (cc)

-- what the machine says, where the answer leaves it open
pub asked_by : {E : Type 0} (answer : Answer) (bytes : List ℕ) (r : Result Bool E) → said_root answer ≡ None
    → IfOk r (λ is. is ≡ true → root_of (run start bytes) ≢ None) → IfOk r (λ is. is ≡ true → HasRoot answer bytes)
asked_by answer bytes (Ok is) unsaid h = λ e. asked unsaid (h e)
asked_by answer bytes (Err e) unsaid h = tt

pub ends_at : IsRead → (e : Ended) (bytes : List ℕ) → root_of (run start bytes) ≢ None → length bytes ≤ envelope_bytes
    → Reads bytes e.answer → e.answer ≢ out → Sees IsDepth e.tail (run start least) → IsFront e.front bytes
    → HasEnded e bytes
ends_at read e bytes some fits answer known sees utf8 =
    let found = the_root (root_of (run start bytes)) some in record {
      front = bytes;
      more = [];
      is = sym (append-nil bytes);
      root = found.0;
      document = (read bytes found.0).1 found.1;
      answer = answer;
      known = known;
      tail = run start least;
      sees = sees;
      alike = begins_alike read bytes found.0 found.1;
      going = root_goes (run start bytes) found.0 found.1;
      utf8 = utf8;
      fits = fits;
    }

within_len : (bytes : List ℕ) (body : written.Element) → length (bytes_within bytes body) ≤ length bytes
within_len bytes (written.element name attributes low high parts) =
    let cut = length-take (high - low) (drop low bytes) in
    let dropped = length-drop low bytes in omega (arith, cut, dropped)

-- a payload is no longer than the bytes
pub payload_fits : (f : Front) (bytes : List ℕ) (answer : Answer) → Reads bytes answer → IsFront f bytes
    → payload_len answer ≤ f.valid
payload_fits f bytes (Ok envelope) h front =
    let whole : length bytes ≤ f.valid = front_whole f bytes front h.fits.1 in
    let size : length envelope.payload.bytes ≡ length (bytes_within bytes h.ok.written_body) =
    ap length h.ok.payload in
    omega (arith, whole, size, within_len bytes h.ok.written_body)
payload_fits f bytes (Err error) h front = omega arith

-- ---- behind it

pub ends_on : Joins → (e next : Ended) (bytes piece : List ℕ) (h : HasEnded e bytes) → next.answer ≡ e.answer
    → Sees IsDepth next.tail (run h.tail piece) → is_refused (run h.tail piece).mode ≡ false
    → IsFront next.front (bytes ++ piece) → length (bytes ++ piece) ≤ envelope_bytes
    → HasEnded next (bytes ++ piece)
ends_on joins e next bytes piece h same sees going utf8 fits =
    let alike : IsAlike (run h.tail piece) (run start (bytes ++ piece)) =
    subst (IsAlike (run h.tail piece)) (sym (joins start bytes piece))
    (alike_run h.tail (run start bytes) piece h.alike) in record {
      front = h.front;
      more = h.more ++ piece;
      is = ap (λ b. b ++ piece) h.is ∙ append_assoc h.front h.more piece;
      root = h.root;
      document = h.document;
      answer = subst (Reads h.front) (sym same) h.answer;
      known = subst (λ a. a ≢ out) (sym same) h.known;
      tail = run h.tail piece;
      sees = sees;
      alike = alike;
      going = ap is_refused (sym alike.mode) ∙ going;
      utf8 = utf8;
      fits = fits;
    }

pub refused_on : Joins → (e : Ended) (f : Front) (bytes piece : List ℕ) (h : HasEnded e bytes)
    → is_refused (run h.tail piece).mode ≡ true → IsFront f (bytes ++ piece) → length (bytes ++ piece) ≤ envelope_bytes
    → IsRefused f (bytes ++ piece)
refused_on joins e f bytes piece h r utf8 fits =
    let alike : IsAlike (run h.tail piece) (run start (bytes ++ piece)) =
    subst (IsAlike (run h.tail piece)) (sym (joins start bytes piece))
    (alike_run h.tail (run start bytes) piece h.alike) in
    record { refuses = ap is_refused (sym alike.mode) ∙ r; utf8 = utf8; fits = fits }

-- ---- what is answered of all bytes

pub answer_whole : Joins → IsRead → Stands → IsText → (e : Ended) (bytes : List ℕ) (h : HasEnded e bytes)
    → root_of h.tail ≢ None → Reads bytes e.answer
answer_whole joins read stands text e bytes h some =
    let found : root_of (run start bytes) ≡ Some h.alike.other_root =
    alike_rooted h.tail (run start bytes) h.alike some in
    let d : IsDocument bytes h.alike.other_root = (read bytes h.alike.other_root).1 found in
    subst (λ b. Reads b e.answer) (sym h.is) (reads_on joins read stands text h.front h.more h.root h.alike.other_root
    e.answer h.document (subst (λ b. IsDocument b h.alike.other_root) h.is d) (front_fits e bytes h)
    (subst (λ b. length b ≤ envelope_bytes) h.is h.fits) h.answer)

pub no_tree_by : IsRead → (bytes : List ℕ) → root_of (run start bytes) ≡ None → (tree : Element)
    → ¬ (Document bytes tree)
no_tree_by read bytes missing tree d =
    let found : root_of (run start bytes) ≡ Some d.raw = (read bytes d.raw).0 d.is in
    let wrong = sym missing ∙ found in cc

pub no_tree : IsRead → (e : Ended) (bytes : List ℕ) (h : HasEnded e bytes) → root_of h.tail ≡ None → (tree : Element)
    → ¬ (Document bytes tree)
no_tree read e bytes h missing = no_tree_by read bytes (alike_missing h.tail (run start bytes) h.alike missing)
