-- The words of a node's commands.
use Rattle.std.specs.Prelude.{◌≡◌, ◌≢◌, ℕ, ◌-◌, ◌<◌, ◌^◌, Bool, false, ◌||◌, List, [], ◌∷◌, ◌++◌, bytes_eq, codes}
use Rattle.std.specs.Prelude.{None, Result, Ok, Err}
use Rattle.std.specs.Str.{IsUtf8}
use Rattle.http_endpoint.specs.Targets.{target_of}
use Rattle.http_endpoint.specs.declared.media.Media.{Media}
use Rattle.http_endpoint.specs.declared.media.Media.TheVariants.{Soap12, Soap11}
use Rattle.rm_base.specs.Limits as limits
use Rattle.rm_base.specs.Message.{max_number}
use Rattle.rm_base.specs.Text.{IsText}
use Rattle.rm_base.specs.declared.message.Behaviour.{Behaviour}
use Rattle.rm_base.specs.declared.message.Behaviour.TheVariants.{EntireSequence, FollowingFirstGap, NoDiscard}
use Rattle.rm_script.specs.Script.{IsNumber}
use Rattle.rm_host.specs.declared.end.End.{End}
use Rattle.rm_host.specs.declared.end.End.TheVariants as end
use Rattle.rm_host.specs.declared.words.Command.{Command}
use Rattle.rm_host.specs.declared.words.Command.TheVariants.{Make, Serve, Send, Push, Close, Finish, Inbox, Compact}
use Rattle.rm_host.specs.declared.words.Command.TheVariants.{Consume, Import}
use Rattle.rm_host.specs.declared.words.Grant.{Grant}
use Rattle.rm_host.specs.declared.words.Grant.TheVariants.{DropsFollowing, DropsEntire, Loose}
use Rattle.rm_host.specs.declared.words.Service.{Service}

-- the name of a command of a node
abbrev pub is_node_name : List ℕ → Bool
is_node_name name =
    bytes_eq name (codes "make") || (bytes_eq name (codes "serve") || (bytes_eq name (codes "serve11")
    || (bytes_eq name (codes "send")
    || (bytes_eq name (codes "push") || (bytes_eq name (codes "close") || (bytes_eq name (codes "end")
    || (bytes_eq name (codes "inbox") || (bytes_eq name (codes "compact") || (bytes_eq name (codes "consume")
    || bytes_eq name (codes "import"))))))))))

-- the first word is one
abbrev pub is_of_node : List (List ℕ) → Bool
is_of_node [] = false
is_of_node (name ∷ words) = is_node_name name

-- a word that may stand for an address: UTF-8 that does not begin with -
pub record IsAddress (word : List ℕ) : Type 0 where
  pub utf8 : IsUtf8 word
  pub undashed : (rest : List ℕ) → word ≢ codes "-" ++ rest

-- one word, the number of a sequence
abbrev pub IsSequence : List (List ℕ) → ℕ → Type 0
IsSequence words seq = (k : List ℕ) × IsNumber 1 limits.most_sequences k seq × (words ≡ k ∷ [])

-- the word for what a node that serves announces
abbrev pub grant_word : Grant → List ℕ
grant_word DropsFollowing = codes "dfg"
grant_word DropsEntire = codes "des"
grant_word Loose = codes "loose"

-- what is announced by it (WS-ReliableMessaging 1.2, section 3.4: IncompleteSequenceBehavior)
abbrev pub behaviour_of : Grant → Behaviour
behaviour_of DropsFollowing = FollowingFirstGap
behaviour_of DropsEntire = EntireSequence
behaviour_of Loose = NoDiscard

-- three words, what is served
abbrev pub IsService : List (List ℕ) → Service → Type 0
IsService words service =
    (p c : List ℕ) × IsNumber 1 65535 p service.port × IsNumber 1 65535 c service.count
    × (words ≡ p ∷ c ∷ grant_word service.grant ∷ [])

-- the word for serving peers that speak this version of SOAP
abbrev pub serve_word : Media → List ℕ
serve_word Soap12 = codes "serve"
serve_word Soap11 = codes "serve11"

-- the first word of a command
abbrev pub name_of : Command → List ℕ
name_of (Make number address) = codes "make"
name_of (Serve media service) = serve_word media
name_of (Send to) = codes "send"
name_of Push = codes "push"
name_of (Close seq) = codes "close"
name_of (Finish seq) = codes "end"
name_of (Inbox seq) = codes "inbox"
name_of Compact = codes "compact"
name_of (Consume seq upto) = codes "consume"
name_of Import = codes "import"

-- the words behind it
abbrev pub Takes : Command → List (List ℕ) → Type 0
Takes (Make number address) words =
    (n : List ℕ) × IsNumber 1 (2 ^ 60 - 1) n number × IsAddress address × (words ≡ n ∷ address ∷ [])
Takes (Serve media service) words = IsService words service
Takes (Send to) words = IsAddress to × (words ≡ to ∷ [])
Takes Push words = words ≡ []
Takes (Close seq) words = IsSequence words seq
Takes (Finish seq) words = IsSequence words seq
Takes (Inbox seq) words = IsSequence words seq
Takes Compact words = words ≡ []
Takes (Consume seq upto) words =
    (k m : List ℕ) × IsNumber 1 limits.most_sequences k seq × IsNumber 1 max_number m upto × (words ≡ k ∷ m ∷ [])
Takes Import words = words ≡ []

-- the words ask for a command
abbrev pub Asks : List (List ℕ) → Command → Type 0
Asks words command = (more : List (List ℕ)) × (words ≡ name_of command ∷ more) × Takes command more

-- for some command
abbrev pub IsCommand : List (List ℕ) → Type 0
IsCommand words = (command : Command) × Asks words command

-- an address that a packet can be posted to
pub record IsReachable (address : List ℕ) : Type 0 where
  pub text : IsText 2048 address
  pub target : target_of address ≢ None

-- that of a command, where it has one
abbrev pub HasTarget : Command → Type 0
HasTarget (Make number address) = IsReachable address
HasTarget (Send to) = IsReachable to
HasTarget _ = Unit {0}

-- the words ask for a command whose address can't be reached
abbrev pub IsLost : List (List ℕ) → Type 0
IsLost words = (command : Command) × Asks words command × ¬ (HasTarget command)

-- the number of a node that is to be made has at most 60 bits, and is not 0
abbrev pub IsWithin : Command → Type 0
IsWithin (Make number address) = (0 < number) × (number < 2 ^ 60)
IsWithin _ = Unit {0}

-- what words are read as: a command whose address can be reached, where it has one; or why not. Memory is wanted for
-- a command alone
abbrev pub Reads : List (List ℕ) → Result Command End → Type 0
Reads words (Ok command) = Asks words command × HasTarget command
Reads words (Err end.Usage) = ¬ (IsCommand words)
Reads words (Err end.BadAddress) = IsLost words
Reads words (Err end.Memory) = IsCommand words
Reads words (Err e) = ⊥

-- what one word is read as that is to be an address
abbrev pub ReadsAddress : List ℕ → Result (List ℕ) End → Type 0
ReadsAddress word (Ok address) = (address ≡ word) × IsAddress word × IsReachable word
ReadsAddress word (Err end.Usage) = ¬ (IsAddress word)
ReadsAddress word (Err end.BadAddress) = IsAddress word × ¬ (IsReachable word)
ReadsAddress word (Err end.Memory) = IsAddress word
ReadsAddress word (Err e) = ⊥
