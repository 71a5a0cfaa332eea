-- Which status comes of how a run ended.
use Rattle.std.proofs.Common.{◌≡◌, ◌∙◌, ℕ, ◌≤◌, ◌<◌, ◌==◌, ◌||◌, ◌⊎◌, true, false, List, [], ◌∷◌, drop, length}
use Rattle.std.proofs.Common.{bytes_eq}
use Rattle.std.proofs.Common.{Option, None, Some, refl, sym, ap, subst, inl, inr, arith}
use Rattle.std.specs.Prelude.{Result, Ok, Err, IfSome}
use Rattle.std.proofs.lemmas.Bool.{eqb-true}
use Rattle.std.proofs.lemmas.Option.{none-some}
use Rattle.http_endpoint.specs.declared.media.Media.TheVariants.{Soap12, Soap11}
use Rattle.rm_base.specs.Count.{Rose}
use Rattle.rm_base.specs.Limits as limits
use Rattle.rm_base.specs.NumberSet.{has_number}
use Rattle.rm_base.specs.Outside.{Stream}
use Rattle.rm_disk.specs.Cause.{HasCause}
use Rattle.rm_host.specs.Ends.{Faults, HasReason, Prints, Reason, Took, is_disk_end, is_disk_fault, is_link_end}
use Rattle.rm_host.specs.Ends.{is_link_fault, is_of_input, is_outer, status_of}
use Rattle.rm_host.specs.Runs.{IsStatusOf, NoneFailed, Obeys, Outside, PrintsAt, Uses, most_read, sound_statuses}
use Rattle.rm_host.specs.Runs.{statuses}
use Rattle.rm_host.specs.Words.{Asks, HasTarget, IsReachable, IsWithin, Reads, Takes, name_of}
use Rattle.rm_host.specs.declared.end.End.{End}
use Rattle.rm_host.specs.declared.end.End.TheVariants as end
use Rattle.rm_host.specs.declared.words.Command.{Command}
use Rattle.rm_host.specs.declared.words.Command.TheVariants.{Consume, Import, Make, Send, Serve}
use Rattle.rm_host.proofs.EndLemmas.{rose-after, rose-before}

-- ---- what may be told

each : (left : Option (List ℕ)) (P : List ℕ → Type 0) → ((bytes : List ℕ) → P bytes) → IfSome left P
each None P all = tt
each (Some bytes) P all = all bytes

each-by : (left : Option (List ℕ)) (P Q : List ℕ → Type 0) → ((bytes : List ℕ) → P bytes → Q bytes) → IfSome left P
    → IfSome left Q
each-by None P Q step told = tt
each-by (Some bytes) P Q step told = step bytes told

-- no more than so many were there
each-short : (limit : ℕ) (left : Option (List ℕ)) (P : List ℕ → Type 0) → IfSome left (λ all. length all ≤ limit)
    → IfSome left (λ bytes. limit < length bytes → P bytes)
each-short limit left P told = each-by left _ _ (λ bytes few over. absurd (omega (arith, few, over))) told

-- ---- words

-- names are themselves
itself : (c : Command) → bytes_eq (name_of c) (name_of c) ≡ true
itself (Make number address) = refl
itself (Serve Soap12 service) = refl
itself (Serve Soap11 service) = refl
itself c = refl

-- words that ask for two commands have one address at most
reaches : (words : List (List ℕ)) (c d : Command) → Asks words c → HasTarget c → Asks words d → HasTarget d
reaches words c d asks target other = by-names c d asks.0 named asks.2 taken target
  where
    named : bytes_eq (name_of c) (name_of d) ≡ true
    named = let same : name_of d ≡ name_of c = cc (asks.1, other.1) in
        subst (λ n. bytes_eq (name_of c) n ≡ true) (sym same) (itself c)

    taken : Takes d asks.0
    taken = let same : other.0 ≡ asks.0 = cc (asks.1, other.1) in subst (Takes d) same other.2

    by-names : (c d : Command) (more : List (List ℕ)) → bytes_eq (name_of c) (name_of d) ≡ true → Takes c more
        → Takes d more → HasTarget c → HasTarget d
    by-names (Make n a) (Make m b) more e t u target =
        let same : a ≡ b = cc (t.3, u.3) in subst IsReachable same target
    by-names (Send a) (Send b) more e t u target = let same : a ≡ b = cc (t.1, u.1) in subst IsReachable same target
    by-names (Serve Soap12 service) (Make m b) more e t u target = absurd (cc (e))
    by-names (Serve Soap11 service) (Make m b) more e t u target = absurd (cc (e))
    by-names (Serve Soap12 service) (Send b) more e t u target = absurd (cc (e))
    by-names (Serve Soap11 service) (Send b) more e t u target = absurd (cc (e))
    by-names c (Make m b) more e t u target = absurd (cc (e))
    by-names c (Send b) more e t u target = absurd (cc (e))
    by-names c d more e t u target = tt

-- words that ask for two commands have one name, which says how much is read
one-limit : (words : List (List ℕ)) (c d : Command) → Asks words c → Asks words d → most_read c ≡ most_read d
one-limit words c d asks other = by-names c d named
  where
    named : bytes_eq (name_of c) (name_of d) ≡ true
    named = let same : name_of d ≡ name_of c = cc (asks.1, other.1) in
        subst (λ n. bytes_eq (name_of c) n ≡ true) (sym same) (itself c)

    by-names : (c d : Command) → bytes_eq (name_of c) (name_of d) ≡ true → most_read c ≡ most_read d
    by-names (Send a) (Send b) e = refl
    by-names Import Import e = refl
    by-names (Send a) (Serve Soap12 service) e = absurd (cc (e))
    by-names (Send a) (Serve Soap11 service) e = absurd (cc (e))
    by-names Import (Serve Soap12 service) e = absurd (cc (e))
    by-names Import (Serve Soap11 service) e = absurd (cc (e))
    by-names (Serve Soap12 service) (Send b) e = absurd (cc (e))
    by-names (Serve Soap11 service) (Send b) e = absurd (cc (e))
    by-names (Serve Soap12 service) Import e = absurd (cc (e))
    by-names (Serve Soap11 service) Import e = absurd (cc (e))
    by-names (Send a) d e = absurd (cc (e))
    by-names Import d e = absurd (cc (e))
    by-names c (Send b) e = absurd (cc (e))
    by-names c Import e = absurd (cc (e))
    by-names c d e = refl

-- the number of a node is within its bounds
pub within : (words : List (List ℕ)) (c : Command) → Asks words c → IsWithin c
within words (Make number address) asks =
    let n = asks.2.1 in (omega (arith, n.0), omega (arith, n.1))
within words c asks = tt

-- ---- what comes of words

-- nothing is printed before the end
pub silent : {T : Type 0} (o : Stream) (r : Result T End) → (r ≡ Err end.WriteFault → ⊥) → Prints o o r
silent o r other = record { later = omega arith; fault = λ h. absurd (other h) }

-- they are no command, or their address is none
pub unread : {T : Type 0} (words : List (List ℕ)) (i o : Stream) (e : End) → Reads words (Err e)
    → Obeys {T = T} words i i o o (Err e)
unread words i o end.Usage none = record {
  usage = (λ h. none, λ h. refl);
  address = λ lost. absurd (none (lost.0, lost.1));
  read = λ h. absurd cc;
  prints = silent o _ (λ h. absurd cc);
  long = λ h. absurd cc;
  short = λ limit reads. absurd (none (reads.0, reads.1));
}
unread words i o end.BadAddress c = record {
  usage = (λ h. absurd cc, λ none. absurd (none (c.0, c.1)));
  address = λ lost. inl refl;
  read = λ h. absurd cc;
  prints = silent o _ (λ h. absurd cc);
  long = λ h. absurd cc;
  short = λ limit reads. absurd (c.2 (reaches words reads.0 c.0 reads.1 reads.2 c.1));
}
unread words i o end.Memory c = record {
  usage = (λ h. absurd cc, λ none. absurd (none c));
  address = λ lost. inr refl;
  read = λ h. absurd cc;
  prints = silent o _ (λ h. absurd cc);
  long = λ h. absurd cc;
  short = λ limit reads. each i.left _ (λ bytes over. inr (inr refl));
}
unread words i o e read = absurd read

-- and nothing has failed
pub unread-reason : (f : Faults) (words : List (List ℕ)) (e : End) → Reads words (Err e)
    → Reason f f (is_disk_end e) (is_link_end e) false
unread-reason f words end.Usage read =
    record { disk = record { later = omega arith; cause = refl }; link = λ h. absurd cc; later = λ h. absurd cc }
unread-reason f words end.BadAddress read =
    record { disk = record { later = omega arith; cause = refl }; link = λ h. absurd cc; later = λ h. absurd cc }
unread-reason f words end.Memory read =
    record { disk = record { later = omega arith; cause = refl }; link = λ h. absurd cc; later = λ h. absurd cc }
unread-reason f words e read = absurd read

-- of an error that isn't outside
inside : {T : Type 0} (r : Result T End) (e : End) → is_of_input r ≡ false → is_of_input {T = T} (Err e) ≡ true
    → r ≡ Err e → ⊥
inside r e inner outer same =
    let both : is_of_input r ≡ true = subst (λ x. is_of_input x ≡ true) (sym same) outer in absurd (cc (inner, both))

-- what isn't outside isn't of the input
pub of-inner : {T : Type 0} (r : Result T End) → is_outer r ≡ false → is_of_input r ≡ false
of-inner (Ok x) inner = refl
of-inner (Err end.WriteFault) inner = refl
of-inner (Err e) inner = inner

-- nor a fault of writing, so that nothing is printed before the end
pub silent-inner : {T : Type 0} (o : Stream) (r : Result T End) → is_outer r ≡ false → Prints o o r
silent-inner o r inner =
    silent o r (λ same. let both : is_outer r ≡ true = subst (λ x. is_outer x ≡ true) (sym same) refl in
    absurd (cc (inner, both)))

-- so is what comes of what was read
pub silent-took : {T : Type 0} (limit : ℕ) (i j o : Stream) (r : Result T End) → Took limit i j r → Prints o o r
silent-took limit i j o r took = silent o r (λ same. subst (Took limit i j) same took)

-- a command that reads nothing was asked for
quiet : {T : Type 0} (words : List (List ℕ)) (c : Command) (i j o p : Stream) (r : Result T End) → Asks words c
    → HasTarget c → is_of_input r ≡ false → Prints o p r → most_read c ≡ None → Obeys words i j o p r
quiet words c i j o p r asks target inner prints none_read = record {
  usage = (λ h. absurd (inside r end.Usage inner refl h), λ none. absurd (none (c, asks)));
  address = λ lost. absurd (lost.2 (reaches words c lost.0 asks target lost.1));
  read = λ h. absurd (inside r end.ReadFault inner refl h);
  prints = prints;
  long = λ h. absurd (inside r end.TooLong inner refl h);
  short = λ limit reads.
      let same : most_read c ≡ Some limit = one-limit words c reads.0 asks reads.1 ∙ reads.3 in
      absurd (none-some limit (sym none_read ∙ same));
}

-- more was there than is read at most
too-long : {T : Type 0} (limit : ℕ) (i j : Stream) (r : Result T End) → Took limit i j r
    → IfSome i.left (λ bytes. limit < length bytes
    → (r ≡ Err end.TooLong) ⊎ ((r ≡ Err end.ReadFault) ⊎ (r ≡ Err end.Memory)))
too-long limit i j (Err end.TooLong) took = each i.left _ (λ bytes over. inl refl)
too-long limit i j (Err end.ReadFault) took = each i.left _ (λ bytes over. inr (inl refl))
too-long limit i j (Err end.Memory) took = each i.left _ (λ bytes over. inr (inr refl))
too-long limit i j (Err end.Usage) took = absurd took
too-long limit i j (Err end.WriteFault) took = absurd took
too-long limit i j (Err end.BadAddress) took = absurd took
too-long limit i j (Err e) took = each-short limit i.left _ took
too-long limit i j (Ok x) took = each-short limit i.left _ took

-- an input was read whole, so no more was there
pub whole : (limit : ℕ) (left : Option (List ℕ)) (bytes : List ℕ) → length bytes ≤ limit
    → IfSome left (λ all. bytes ≡ all) → IfSome left (λ all. length all ≤ limit)
whole limit left bytes few told = each-by left _ _ (λ all same. subst (λ b. length b ≤ limit) same few) told

-- what came of it then
pub took-inner : {T : Type 0} (limit : ℕ) (i j : Stream) (r : Result T End)
    → IfSome i.left (λ all. length all ≤ limit) → is_outer r ≡ false → Took limit i j r
took-inner limit i j (Err end.Usage) told inner = absurd cc
took-inner limit i j (Err end.ReadFault) told inner = absurd cc
took-inner limit i j (Err end.WriteFault) told inner = absurd cc
took-inner limit i j (Err end.TooLong) told inner = absurd cc
took-inner limit i j (Err end.BadAddress) told inner = absurd cc
took-inner limit i j (Err end.Memory) told inner = tt
took-inner limit i j (Err e) told inner = told
took-inner limit i j (Ok x) told inner = told

-- a command that reads was asked for
reading : {T : Type 0} (limit : ℕ) (words : List (List ℕ)) (c : Command) (i j o p : Stream) (r : Result T End)
    → Asks words c → HasTarget c → most_read c ≡ Some limit → Took limit i j r → Prints o p r → Obeys words i j o p r
reading limit words c i j o p r asks target reads took prints = record {
  usage = (λ h. absurd (subst (Took limit i j) h took), λ none. absurd (none (c, asks)));
  address = λ lost. absurd (lost.2 (reaches words c lost.0 asks target lost.1));
  read = λ h. ((limit, (c, asks, target, reads)), subst (Took limit i j) h took);
  prints = prints;
  long = λ h. (limit, (c, asks, target, reads), subst (Took limit i j) h took);
  short = λ other also.
      let both : Some limit ≡ Some other = sym reads ∙ one-limit words c also.0 asks also.1 ∙ also.3 in
      let same : limit ≡ other = cc (both) in
      subst (λ n. IfSome i.left (λ bytes. n < length bytes
      → (r ≡ Err end.TooLong) ⊎ ((r ≡ Err end.ReadFault) ⊎ (r ≡ Err end.Memory)))) same (too-long limit i j r took);
}

-- a command was asked for
pub obeys : {T : Type 0} (words : List (List ℕ)) (c : Command) (i j o p : Stream) (r : Result T End) → Asks words c
    → HasTarget c → Uses c i j r → Prints o p r → Obeys words i j o p r
obeys words (Send to) i j o p r asks target uses prints =
    reading limits.payload_bytes words (Send to) i j o p r asks target refl uses prints
obeys words Import i j o p r asks target uses prints =
    reading limits.journal_bytes words Import i j o p r asks target refl uses prints
obeys words (Consume seq upto) i j o p r asks target uses prints =
    quiet words (Consume seq upto) i j o p r asks target uses prints refl
obeys words c i j o p r asks target uses prints = quiet words c i j o p r asks target (of-inner r uses) prints refl

-- ---- statuses

is-usage : (e : End) → status_of e ≡ 2 → e ≡ end.Usage
is-usage end.Usage h = refl
is-usage e h = absurd cc

is-read : (e : End) → status_of e ≡ 4 → e ≡ end.ReadFault
is-read end.ReadFault h = refl
is-read e h = absurd cc

is-write : (e : End) → status_of e ≡ 5 → e ≡ end.WriteFault
is-write end.WriteFault h = refl
is-write e h = absurd cc

is-link : (e : End) → status_of e ≡ 7 → is_link_fault {T = Unit {0}} (Err e) ≡ true
is-link end.LinkFault h = refl
is-link e h = absurd cc

is-long : (e : End) → status_of e ≡ 8 → e ≡ end.TooLong
is-long end.TooLong h = refl
is-long e h = absurd cc

is-disk : (e : End) → is_disk_fault {T = Unit {0}} (Err e) ≡ (status_of e == 6)
is-disk end.DiskFault = refl
is-disk e = refl

is-one : (e : End) → has_number statuses (status_of e) ≡ true
is-one end.Usage = refl
is-one e = refl

-- what is in an error
inner : (T : Type 0) (d e : End) → ◌≡◌ {A = Result T End} (Err d) (Err e) → d ≡ e
inner T d e h = cc

-- the status of an error
pub refused : {T : Type 0} (words : List (List ℕ)) (x y : Outside) (p : Stream) (e : End)
    → Obeys {T = T} words x.input y.input x.out p (Err e) → p.faults ≤ y.out.faults
    → HasReason {T = T} x.faults y.faults (Err e) → IsStatusOf words x y (status_of e)
refused words x y p e o later reason = record {
  usage = (λ h. o.usage.0 (ap Err (is-usage e h)), λ none. ap status_of (inner _ e end.Usage (o.usage.1 none)));
  address = λ lost. elim (o.address lost) [
    | inl h ↦ inl (ap status_of (inner _ e end.BadAddress h))
    | inr h ↦ inr (ap status_of (inner _ e end.Memory h))
  ];
  read = λ h. o.read (ap Err (is-read e h));
  written = λ h. rose-after x.out.faults p.faults y.out.faults (o.prints.fault (ap Err (is-write e h))) later;
  disk = subst (λ b. HasCause x.faults.disk y.faults.disk b) (is-disk e) reason.disk;
  link = λ h. reason.link (is-link e h);
  long = λ h. o.long (ap Err (is-long e h));
  short = λ limit reads. each-by x.input.left _ _ (λ bytes why over. elim (why over) [
    | inl h ↦ inl (ap status_of (inner _ e end.TooLong h))
    | inr h ↦ elim h [
      | inl h ↦ inr (inl (ap status_of (inner _ e end.ReadFault h)))
      | inr h ↦ inr (inr (ap status_of (inner _ e end.Memory h)))
    ]
  ]) (o.short limit reads);
  one = is-one e;
}

-- a status that is no other than 0, 5 and 10
well : {T : Type 0} (words : List (List ℕ)) (x y : Outside) (p : Stream) (text : T) (n : ℕ)
    → Obeys words x.input y.input x.out p (Ok text) → HasReason x.faults y.faults (Ok text)
    → (n ≡ 5 → Rose x.out.faults y.out.faults) → has_number (2 ∷ 4 ∷ 6 ∷ 7 ∷ 8 ∷ []) n ≡ false
    → has_number statuses n ≡ true → IsStatusOf words x y n
well words x y p text n o reason rose other one = record {
  usage = (λ h. absurd (other-than 2 refl h), λ none. let e = o.usage.1 none in absurd cc);
  address = λ lost. elim (o.address lost) [ inl h ↦ absurd cc | inr h ↦ absurd cc ];
  read = λ h. absurd (other-than 4 refl h);
  written = rose;
  disk = subst (λ b. HasCause x.faults.disk y.faults.disk b) (sym six) reason.disk;
  link = λ h. absurd (other-than 7 refl h);
  long = λ h. absurd (other-than 8 refl h);
  short = λ limit reads.
      each-by x.input.left _ _ (λ bytes why over. absurd (no-error (why over))) (o.short limit reads);
  one = one;
}
  where
    other-than : (m : ℕ) → has_number (2 ∷ 4 ∷ 6 ∷ 7 ∷ 8 ∷ []) m ≡ true → n ≡ m → ⊥
    other-than m is same =
        let both : has_number (2 ∷ 4 ∷ 6 ∷ 7 ∷ 8 ∷ []) n ≡ true =
        subst (λ k. has_number (2 ∷ 4 ∷ 6 ∷ 7 ∷ 8 ∷ []) k ≡ true) (sym same) is in
        absurd (cc (both, other))

    six : (n == 6) ≡ false
    six = elim (n == 6) as (λ b. (n == 6) ≡ b → b ≡ false) [
      | true ↦ λ e. absurd (other-than 6 refl (eqb-true n 6 e))
      | false ↦ λ e. refl
    ] refl

    no-error : (Ok text ≡ Err end.TooLong) ⊎ ((Ok text ≡ Err end.ReadFault) ⊎ (Ok text ≡ Err end.Memory)) → ⊥
    no-error (inl h) = absurd cc
    no-error (inr (inl h)) = absurd cc
    no-error (inr (inr h)) = absurd cc

-- the status where a text was to be printed
pub printed : {T : Type 0} (words : List (List ℕ)) (x y : Outside) (p : Stream) (text : T) (status : ℕ)
    → Obeys words x.input y.input x.out p (Ok text) → HasReason x.faults y.faults (Ok text) → PrintsAt p y.out status
    → IsStatusOf words x y status
printed words x y p text status o reason (inl e) =
    subst (λ n. IsStatusOf words x y n) (sym e) (well words x y p text 0 o reason (λ h. absurd cc) refl refl)
printed words x y p text status o reason (inr (inl e)) =
    subst (λ n. IsStatusOf words x y n) (sym e.0)
    (well words x y p text 5 o reason
    (λ h. rose-before x.out.faults p.faults y.out.faults o.prints.later e.1) refl refl)
printed words x y p text status o reason (inr (inr e)) =
    subst (λ n. IsStatusOf words x y n) (sym e) (well words x y p text 10 o reason (λ h. absurd cc) refl refl)

-- ---- where nothing failed

-- a number is one of some: the first, or one of the others
one-of : (a : ℕ) (others : List ℕ) (n : ℕ) (P : Type 0) → has_number (a ∷ others) n ≡ true → (n ≡ a → P)
    → (has_number others n ≡ true → P) → P
one-of a others n P is first later = elim (a == n) as (λ b. (a == n) ≡ b → P) [
  | true ↦ λ e. first (sym (eqb-true a n e))
  | false ↦ λ e. later (subst (λ b. (b || has_number others n) ≡ true) e is)
] refl

none-of : (n : ℕ) (P : Type 0) → has_number [] n ≡ true → P
none-of n P there = absurd cc

-- a status that is none of a fault
pub complete : (words : List (List ℕ)) (x y : Outside) (status : ℕ) → IsStatusOf words x y status → NoneFailed x y
    → has_number sound_statuses status ≡ true
complete words x y n is none =
    let P = has_number sound_statuses n ≡ true in
    one-of 0 (drop 1 statuses) n P is.one (λ e. yes 0 e refl) (λ r2.
    one-of 2 (drop 2 statuses) n P r2 (λ e. yes 2 e refl) (λ r4.
    one-of 4 (drop 3 statuses) n P r4 (λ e. absurd (none.input (is.read e).1)) (λ r5.
    one-of 5 (drop 4 statuses) n P r5 (λ e. absurd (none.out (is.written e))) (λ r6.
    one-of 6 (drop 5 statuses) n P r6 (λ e. absurd (none.disk (rose e))) (λ r7.
    one-of 7 (drop 6 statuses) n P r7 (λ e. absurd (none.link (is.link e))) (λ r8.
    one-of 8 (drop 7 statuses) n P r8 (λ e. yes 8 e refl) (λ r9.
    one-of 9 (drop 8 statuses) n P r9 (λ e. yes 9 e refl) (λ r10.
    one-of 10 (drop 9 statuses) n P r10 (λ e. yes 10 e refl) (λ r11.
    one-of 11 [] n P r11 (λ e. yes 11 e refl) (λ there. none-of n P there))))))))))
  where
    yes : (m : ℕ) → n ≡ m → has_number sound_statuses m ≡ true → has_number sound_statuses n ≡ true
    yes m same there = subst (λ k. has_number sound_statuses k ≡ true) (sym same) there

    rose : n ≡ 6 → Rose x.faults.disk y.faults.disk
    rose e =
        (subst (λ k. HasCause x.faults.disk y.faults.disk (k == 6)) e is.disk).cause
