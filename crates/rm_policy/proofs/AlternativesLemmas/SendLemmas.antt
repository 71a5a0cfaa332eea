-- Text that goes to an output in blocks, piece by piece.
use Rattle.std.proofs.Common.{◌≡◌, ◌≢◌, ℕ, ◌+◌, ◌≤◌, Bool, false, List, [], ◌++◌, length, take, Option, None, Some}
use Rattle.std.proofs.Common.{Result, Ok, Err, inl, inr, refl, sym, ap, subst, ◌∙◌, append_assoc, append-nil, arith}
use Rattle.std.proofs.Common.{length-append}
use Rattle.std.proofs.lemmas.List.{take-append-le}
use Rattle.std.proofs.Math.Seq.{take-append-add}
use Rattle.std.specs.Prelude.{OnErr, OnOk}
use Rattle.std.specs.Io.KnownBytes.{Appends}
use Rattle.rm_base.specs.Count.{Rose}
use Rattle.rm_base.specs.Outside.{AppendsFront, Lasts, Stream}
use Rattle.rm_base.specs.StreamLemmas.{Lasts-more}
use Rattle.rm_base.specs.declared.outside.SinkError.{SinkError}
use Rattle.rm_base.specs.declared.outside.SinkError.TheVariants.{Failed, Memory}
use Rattle.rm_policy.specs.Alternatives.Sending.{Sent, Goes}

-- ---- what an output holds

appends_none : (held : Option (List ℕ)) → Appends held held []
appends_none None = tt
appends_none (Some x) = sym (append-nil x)

-- one piece behind another
pub appends_both : (old mid new : Option (List ℕ)) (a b : List ℕ) → Appends old mid a → Appends mid new b
    → Appends old new (a ++ b)
appends_both None mid new a b x y = tt
appends_both (Some o) None new a b x y = absurd x
appends_both (Some o) (Some m) None a b x y = absurd y
appends_both (Some o) (Some m) (Some n) a b x y = y ∙ (ap (λ l. l ++ b) x ∙ append_assoc o a b)

-- a front of a piece behind another
pub appends_front : (old mid new : Option (List ℕ)) (a b : List ℕ) → Appends old mid a → AppendsFront mid new b
    → AppendsFront old new (a ++ b)
appends_front old mid new a b x y =
    let both : Appends old new (a ++ take y.0 b) = appends_both old mid new a (take y.0 b) x y.2 in
    (length a + y.0, omega (arith, y.1, length-append a b), rw (take-append-add a b y.0) both)

-- a front of what may be longer
front_more : (old new : Option (List ℕ)) (a b : List ℕ) → AppendsFront old new a → AppendsFront old new (a ++ b)
front_more old new a b x = (
  x.0,
  omega (arith, x.1, length-append a b),
  subst (Appends old new) (sym (take-append-le x.0 a b x.1)) x.2,
)

-- a count that rose, after one that never falls
rose_after : (old mid new : ℕ) → old ≤ mid → Rose mid new → Rose old new
rose_after old mid new falls (inl risen) = inl (omega (arith, falls, risen))
rose_after old mid new falls (inr full) = inr full

-- ---- one text behind another

along : (before text more waiting written : List ℕ) → before ++ text ≡ written ++ waiting
    → before ++ (text ++ more) ≡ written ++ (waiting ++ more)
along before text more waiting written e =
    sym (append_assoc before text more) ∙ (ap (λ l. l ++ more) e ∙ append_assoc written waiting more)

sent_more : (old mid new : Option (List ℕ)) (before text more waiting after : List ℕ)
    → Sent old mid (before ++ text) waiting → Sent mid new (waiting ++ more) after
    → Sent old new (before ++ (text ++ more)) after
sent_more old mid new before text more waiting after s n = record {
  written = s.written ++ n.written;
  appends = appends_both old mid new s.written n.written s.appends n.appends;
  parts = along before text more waiting s.written s.parts
      ∙ (ap (λ l. s.written ++ l) n.parts ∙ sym (append_assoc s.written n.written after));
}

sent_front : (old mid new : Option (List ℕ)) (before text more waiting : List ℕ)
    → Sent old mid (before ++ text) waiting → AppendsFront mid new (waiting ++ more)
    → AppendsFront old new (before ++ (text ++ more))
sent_front old mid new before text more waiting s x =
    subst (AppendsFront old new) (sym (along before text more waiting s.written s.parts))
    (appends_front old mid new s.written (waiting ++ more) s.appends x)

goes_ok : (old mid new : Stream) (before text more waiting after : List ℕ) (r : Result (Unit {0}) SinkError)
    → Sent old.held mid.held (before ++ text) waiting → OnOk r (Sent mid.held new.held (waiting ++ more) after)
    → OnOk r (Sent old.held new.held (before ++ (text ++ more)) after)
goes_ok old mid new before text more waiting after (Ok u) s n =
    sent_more old.held mid.held new.held before text more waiting after s n
goes_ok old mid new before text more waiting after (Err e) s n = tt

goes_err : (old mid new : Stream) (before text more waiting : List ℕ) (r : Result (Unit {0}) SinkError)
    → Sent old.held mid.held (before ++ text) waiting → OnErr r (AppendsFront mid.held new.held (waiting ++ more))
    → OnErr r (AppendsFront old.held new.held (before ++ (text ++ more)))
goes_err old mid new before text more waiting (Ok u) s n = tt
goes_err old mid new before text more waiting (Err e) s n =
    sent_front old.held mid.held new.held before text more waiting s n

pub goes_more : (wants : Bool) (old mid new : Stream) (before text more waiting after : List ℕ)
    (r : Result (Unit {0}) SinkError) → Goes wants old mid before text waiting (Ok tt)
    → Goes wants mid new waiting more after r → Goes wants old new before (text ++ more) after r
goes_more wants old mid new before text more waiting after r s n = record {
  ok = goes_ok old mid new before text more waiting after r s.ok n.ok;
  err = goes_err old mid new before text more waiting r s.ok n.err;
  failed = λ e. rose_after old.faults mid.faults new.faults s.lasts.never_falls (n.failed e);
  memory = n.memory;
  lasts = Lasts-more old mid new s.lasts n.lasts;
}

-- ---- single steps

lasts_same : (s : Stream) → Lasts s s
lasts_same s = record { never_falls = omega arith; sound = λ e. (e, refl) }

-- nothing is written, and the text waits
pub goes_waits : (wants : Bool) (s : Stream) (before text after : List ℕ) → after ≡ before ++ text
    → Goes wants s s before text after (Ok tt)
goes_waits wants s before text after e = record {
  ok = record { written = []; appends = appends_none s.held; parts = sym e };
  err = tt;
  failed = λ w. cc;
  memory = λ w f. cc;
  lasts = lasts_same s;
}

written_ok : (old new : Stream) (before : List ℕ) (r : Result (Unit {0}) SinkError)
    → OnOk r (Appends old.held new.held before) → OnOk r (Sent old.held new.held before [])
written_ok old new before (Ok u) w = record { written = before; appends = w; parts = sym (append-nil before) }
written_ok old new before (Err e) w = tt

-- a text is written at once, where none waits
pub goes_written : (wants : Bool) (old new : Stream) (text : List ℕ) (r : Result (Unit {0}) SinkError)
    → OnOk r (Appends old.held new.held text) → OnErr r (AppendsFront old.held new.held text)
    → (r ≡ Err Failed → Rose old.faults new.faults) → (wants ≡ false → r ≢ Err Memory) → Lasts old new
    → Goes wants old new [] text [] r
goes_written wants old new text r ok err failed memory lasts = record {
  ok = written_ok old new text r ok;
  err = err;
  failed = failed;
  memory = memory;
  lasts = lasts;
}

-- what waits is written, and nothing put behind it
pub goes_flushed : (wants : Bool) (old new : Stream) (before : List ℕ) → Appends old.held new.held before
    → Lasts old new → Goes wants old new before [] [] (Ok tt)
goes_flushed wants old new before w lasts = record {
  ok = record { written = before; appends = w; parts = refl };
  err = tt;
  failed = λ e. cc;
  memory = λ e f. cc;
  lasts = lasts;
}

-- ---- loops

-- some of a text went, and some is left
pub record Going (wants : Bool) (old now : Stream) (before whole left waiting : List ℕ) : Type 0 where
  pub gone : List ℕ
  pub goes : Goes wants old now before gone waiting (Ok tt)
  pub parts : gone ++ left ≡ whole

pub going_first : (wants : Bool) (s : Stream) (before whole : List ℕ) → Going wants s s before whole whole before
going_first wants s before whole = record {
  gone = [];
  goes = goes_waits wants s before [] before (sym (append-nil before));
  parts = refl;
}

-- a piece more
pub going_more : (wants : Bool) (old mid new : Stream) (before whole left waiting piece rest after : List ℕ)
    → Going wants old mid before whole left waiting → Goes wants mid new waiting piece after (Ok tt)
    → left ≡ piece ++ rest → Going wants old new before whole rest after
going_more wants old mid new before whole left waiting piece rest after s n e = record {
  gone = s.gone ++ piece;
  goes = goes_more wants old mid new before s.gone piece waiting after (Ok tt) s.goes n;
  parts = append_assoc s.gone piece rest ∙ (ap (λ l. s.gone ++ l) (sym e) ∙ s.parts);
}

-- a piece at which a write failed
pub going_cut : (wants : Bool) (old mid new : Stream) (before whole left waiting piece rest after last : List ℕ)
    (e : SinkError) → Going wants old mid before whole left waiting → Goes wants mid new waiting piece after (Err e)
    → left ≡ piece ++ rest → Goes wants old new before whole last (Err e)
going_cut wants old mid new before whole left waiting piece rest after last e s n is =
    let cut = goes_more wants old mid new before s.gone piece waiting after (Err e) s.goes n in
    let all : (before ++ (s.gone ++ piece)) ++ rest ≡ before ++ whole =
    append_assoc before (s.gone ++ piece) rest ∙ ap (λ l. before ++ l)
    (append_assoc s.gone piece rest ∙ (ap (λ l. s.gone ++ l) (sym is) ∙ s.parts)) in
    record {
      ok = tt;
      err = subst (AppendsFront old.held new.held) all
          (front_more old.held new.held (before ++ (s.gone ++ piece)) rest cut.err);
      failed = cut.failed;
      memory = cut.memory;
      lasts = cut.lasts;
    }

-- all of it
pub going_last : (wants : Bool) (old now : Stream) (before whole left waiting : List ℕ)
    → Going wants old now before whole left waiting → left ≡ [] → Goes wants old now before whole waiting (Ok tt)
going_last wants old now before whole left waiting s e =
    let all : s.gone ≡ whole = sym (append-nil s.gone) ∙ (ap (λ l. s.gone ++ l) (sym e) ∙ s.parts) in
    subst (λ (l : List ℕ). Goes wants old now before l waiting (Ok tt)) all s.goes

-- ---- the end

-- what waits is written last
pub sent_whole : (old mid new : Stream) (text waiting : List ℕ) (r : Result (Unit {0}) SinkError)
    → Sent old.held mid.held text waiting → OnOk r (Appends mid.held new.held waiting)
    → OnOk r (Appends old.held new.held text)
sent_whole old mid new text waiting (Ok u) s w =
    subst (Appends old.held new.held) (sym s.parts)
    (appends_both old.held mid.held new.held s.written waiting s.appends w)
sent_whole old mid new text waiting (Err e) s w = tt

-- or some of it
pub sent_begun : (old mid new : Stream) (text waiting : List ℕ) (r : Result (Unit {0}) SinkError)
    → Sent old.held mid.held text waiting → OnErr r (AppendsFront mid.held new.held waiting)
    → OnErr r (AppendsFront old.held new.held text)
sent_begun old mid new text waiting (Ok u) s w = tt
sent_begun old mid new text waiting (Err e) s w =
    subst (AppendsFront old.held new.held) (sym s.parts)
    (appends_front old.held mid.held new.held s.written waiting s.appends w)

pub rose_later : (old mid new : Stream) → Lasts old mid → Rose mid.faults new.faults → Rose old.faults new.faults
rose_later old mid new lasts rose = rose_after old.faults mid.faults new.faults lasts.never_falls rose
