-- The elements that mean something in an assertion, by name: WS-RM Policy 1.2, section 2, and WS-Policy 1.5.
use Rattle.std.specs.Prelude.{ℕ, List, Bool, ◌||◌, if◌then◌else◌, Option, Some, None, is_some, codes}
use Rattle.std.specs.List.{list_any}
use Rattle.std.specs.Str.{bytes_eq}
use Rattle.soap_document.specs.declared.profile.name.Expanded.{Expanded}
use Rattle.soap_writer.specs.Values.Children.{name_in, is_same}
use Rattle.rm_policy.specs.declared.assertion.Assurance.{Assurance}
use Rattle.rm_policy.specs.declared.assertion.Assurance.TheVariants as assurances
use Rattle.rm_policy.specs.declared.word.Word.{Word}
use Rattle.rm_policy.specs.declared.word.Word.TheVariants as words

-- the namespace of WS-RM Policy 1.2
abbrev pub assertion_space : List ℕ
assertion_space = codes "http://docs.oasis-open.org/ws-rx/wsrmp/200702"

-- that of WS-Policy 1.5
abbrev pub policy_space : List ℕ
policy_space = codes "http://www.w3.org/ns/ws-policy"

-- and that of WS-Policy 1.2
abbrev pub older_policy_space : List ℕ
older_policy_space = codes "http://schemas.xmlsoap.org/ws/2004/09/policy"

-- a name of WS-RM Policy
abbrev pub rmp : List ℕ → Expanded
rmp local = name_in assertion_space local

-- which assurance a name is of
abbrev pub assurance_named : Expanded → Option Assurance
assurance_named name =
    if is_same name (rmp (codes "ExactlyOnce")) then Some assurances.ExactlyOnce
    else if is_same name (rmp (codes "AtLeastOnce")) then Some assurances.AtLeastOnce
    else if is_same name (rmp (codes "AtMostOnce")) then Some assurances.AtMostOnce else None

-- whether an element of this name is a policy of either namespace, a DeliveryAssurance, one of the three assurances,
-- InOrder, or one of the two that ask for security of sequences
abbrev pub is_called : Word → Expanded → Bool
is_called words.Policy name =
    is_same name (name_in policy_space (codes "Policy")) || is_same name (name_in older_policy_space (codes "Policy"))
is_called words.DeliveryAssurance name = is_same name (rmp (codes "DeliveryAssurance"))
is_called words.Assurance name = is_some (assurance_named name)
is_called words.InOrder name = is_same name (rmp (codes "InOrder"))
is_called words.Security name =
    is_same name (rmp (codes "SequenceSTR")) || is_same name (rmp (codes "SequenceTransportSecurity"))

-- whether it is one of several
abbrev pub is_one_of : List Word → Expanded → Bool
is_one_of words name = list_any (λ word. is_called word name) words

-- whether a name is in one of the three namespaces
abbrev pub is_ours : Expanded → Bool
is_ours name =
    bytes_eq name.space assertion_space || bytes_eq name.space policy_space || bytes_eq name.space older_policy_space
