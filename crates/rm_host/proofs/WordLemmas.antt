-- Words that are no command.
use Rattle.std.proofs.Common.{◌≡◌, ℕ, ◌≤◌, ◌<◌, ◌-◌, ◌^◌, List, [], ◌∷◌, length, get_or, codes, bytes_eq, refl}
use Rattle.std.proofs.Common.{arith, subst, sym, true}
use Rattle.std.specs.Prelude.{Err}
use Rattle.rm_script.specs.Script.{IsNumber}
use Rattle.rm_host.specs.Words.{Asks, HasTarget, IsAddress, IsCommand, IsReachable, IsSequence, IsService, Reads}
use Rattle.rm_host.specs.Words.{ReadsAddress, Takes, name_of, serve_word}
use Rattle.rm_host.specs.declared.end.End.{End}
use Rattle.rm_host.specs.declared.end.End.TheVariants as end
use Rattle.rm_host.specs.declared.words.Command.{Command}
use Rattle.rm_host.specs.declared.words.Service.{Service}
use Rattle.http_endpoint.specs.declared.media.Media.{Media}
use Rattle.http_endpoint.specs.declared.media.Media.TheVariants.{Soap12, Soap11}
use Rattle.rm_host.specs.declared.words.Command.TheVariants.{Make, Serve, Send, Close, Finish, Inbox}

-- the words behind a name are those of no command with this name
only-by : (name : List ℕ) (words : List (List ℕ)) → bytes_eq name name ≡ true
    → ((c : Command) → bytes_eq (name_of c) name ≡ true → ¬ (Takes c words)) → ¬ (IsCommand (name ∷ words))
only-by name words is none h =
    let same : name_of h.0 ≡ name = cc in
    let rest : h.1.0 ≡ words = cc in
    none h.0 (subst (λ n. bytes_eq n name ≡ true) (sym same) is) (subst (Takes h.0) rest h.1.2)

pub no-close : (words : List (List ℕ)) → ((seq : ℕ) → ¬ (IsSequence words seq))
    → ¬ (IsCommand (codes "close" ∷ words))
no-close words none = only-by (codes "close") words refl by-name
  where
    by-name : (c : Command) → bytes_eq (name_of c) (codes "close") ≡ true → ¬ (Takes c words)
    by-name (Close seq) e = none seq
    by-name (Serve Soap12 service) e = absurd cc
    by-name (Serve Soap11 service) e = absurd cc
    by-name c e = absurd cc

pub no-end : (words : List (List ℕ)) → ((seq : ℕ) → ¬ (IsSequence words seq))
    → ¬ (IsCommand (codes "end" ∷ words))
no-end words none = only-by (codes "end") words refl by-name
  where
    by-name : (c : Command) → bytes_eq (name_of c) (codes "end") ≡ true → ¬ (Takes c words)
    by-name (Finish seq) e = none seq
    by-name (Serve Soap12 service) e = absurd cc
    by-name (Serve Soap11 service) e = absurd cc
    by-name c e = absurd cc

pub no-inbox : (words : List (List ℕ)) → ((seq : ℕ) → ¬ (IsSequence words seq))
    → ¬ (IsCommand (codes "inbox" ∷ words))
no-inbox words none = only-by (codes "inbox") words refl by-name
  where
    by-name : (c : Command) → bytes_eq (name_of c) (codes "inbox") ≡ true → ¬ (Takes c words)
    by-name (Inbox seq) e = none seq
    by-name (Serve Soap12 service) e = absurd cc
    by-name (Serve Soap11 service) e = absurd cc
    by-name c e = absurd cc

pub no-serve : (media : Media) (words : List (List ℕ)) → ((service : Service) → ¬ (IsService words service))
    → ¬ (IsCommand (serve_word media ∷ words))
no-serve Soap12 words none = only-by (codes "serve") words refl by-name
  where
    by-name : (c : Command) → bytes_eq (name_of c) (codes "serve") ≡ true → ¬ (Takes c words)
    by-name (Serve media service) e = none service
    by-name c e = absurd cc
no-serve Soap11 words none = only-by (codes "serve11") words refl by-name
  where
    by-name : (c : Command) → bytes_eq (name_of c) (codes "serve11") ≡ true → ¬ (Takes c words)
    by-name (Serve media service) e = none service
    by-name c e = absurd cc

-- an address that can't be read ends the reading of a command that takes it
fails : (words : List (List ℕ)) (a : List ℕ) (e : End) → ReadsAddress a (Err e)
    → (IsAddress a → (c : Command) × Asks words c × (HasTarget c → IsReachable a))
    → (¬ (IsAddress a) → ¬ (IsCommand words)) → Reads words (Err e)
fails words a end.Usage read some none = none read
fails words a end.BadAddress read some none =
    let c = some read.0 in (c.0, c.1, λ t. read.1 (c.2 t))
fails words a end.Memory read some none = let c = some read in (c.0, c.1)
fails words a end.ReadFault read some none = absurd read
fails words a end.WriteFault read some none = absurd read
fails words a end.DiskFault read some none = absurd read
fails words a end.LinkFault read some none = absurd read
fails words a end.TooLong read some none = absurd read
fails words a end.NotEmpty read some none = absurd read
fails words a (end.Refused cause) read some none = absurd read
fails words a end.NotAJournal read some none = absurd read

no-make : (words : List (List ℕ)) (w a : List ℕ) → words ≡ w ∷ a ∷ [] → ¬ (IsAddress a)
    → ¬ (IsCommand (codes "make" ∷ words))
no-make words w a two not = only-by (codes "make") words refl by-name
  where
    by-name : (c : Command) → bytes_eq (name_of c) (codes "make") ≡ true → ¬ (Takes c words)
    by-name (Make number address) e = λ t. let same : address ≡ a = cc in not (subst IsAddress same t.2)
    by-name (Serve Soap12 service) e = absurd cc
    by-name (Serve Soap11 service) e = absurd cc
    by-name c e = absurd cc

no-send : (words : List (List ℕ)) (a : List ℕ) → words ≡ a ∷ [] → ¬ (IsAddress a)
    → ¬ (IsCommand (codes "send" ∷ words))
no-send words a one not = only-by (codes "send") words refl by-name
  where
    by-name : (c : Command) → bytes_eq (name_of c) (codes "send") ≡ true → ¬ (Takes c words)
    by-name (Send to) e = λ t. let same : to ≡ a = cc in not (subst IsAddress same t.0)
    by-name (Serve Soap12 service) e = absurd cc
    by-name (Serve Soap11 service) e = absurd cc
    by-name c e = absurd cc

-- that of make
pub make-fails : (words : List (List ℕ)) (w a : List ℕ) (n : ℕ) (e : End) → words ≡ w ∷ a ∷ []
    → IsNumber 1 (2 ^ 60 - 1) w n → ReadsAddress a (Err e) → Reads (codes "make" ∷ words) (Err e)
make-fails words w a n e two number read =
    fails (codes "make" ∷ words) a e read
    (λ is. (Make n a, (words, refl, (w, number, is, two)), λ t. t)) (no-make words w a two)

-- that of send
pub send-fails : (words : List (List ℕ)) (a : List ℕ) (e : End) → words ≡ a ∷ [] → ReadsAddress a (Err e)
    → Reads (codes "send" ∷ words) (Err e)
send-fails words a e one read =
    fails (codes "send" ∷ words) a e read (λ is. (Send a, (words, refl, (is, one)), λ t. t)) (no-send words a one)

-- ---- lists of words

-- the one item of a list of one
pub single : (items : List (List ℕ)) (x : List ℕ) → 1 ≤ length items → length items < 2 → x ≡ get_or items 0 x
    → items ≡ x ∷ []
single [] x some few e = absurd (omega arith)
single (y ∷ []) x some few e = cc
single (y ∷ z ∷ items) x some few e = absurd (omega arith)

-- the two of a list of two
pub pair : (items : List (List ℕ)) (x y : List ℕ) → 2 ≤ length items → length items < 3 → x ≡ get_or items 0 x
    → y ≡ get_or items 1 y → items ≡ x ∷ y ∷ []
pair [] x y some few e f = absurd (omega arith)
pair (u ∷ []) x y some few e f = absurd (omega arith)
pair (u ∷ v ∷ []) x y some few e f = cc
pair (u ∷ v ∷ w ∷ items) x y some few e f = absurd (omega arith)
