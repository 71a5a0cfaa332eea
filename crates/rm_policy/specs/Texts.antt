-- Assertions as they are written, WS-RM Policy 1.2, section 2, and the words that are printed of them.
use Rattle.std.specs.Prelude.{ℕ, List, [], ◌++◌, Bool, true, false, codes}
use Rattle.rm_policy.specs.Words.{assertion_space, policy_space}
use Rattle.rm_policy.specs.declared.assertion.Assertion.{Assertion}
use Rattle.rm_policy.specs.declared.assertion.Assurance.{Assurance}
use Rattle.rm_policy.specs.declared.assertion.Assurance.TheVariants.{Unsaid, ExactlyOnce, AtLeastOnce, AtMostOnce}

-- Optional, where the assertion is
abbrev pub optional_text : Bool → List ℕ
optional_text true = codes " w:Optional=\"true\""
optional_text false = []

-- the start of a DeliveryAssurance, with its assurance, where one is said
abbrev pub assurance_text : Assurance → List ℕ
assurance_text Unsaid = []
assurance_text ExactlyOnce = codes "<p:DeliveryAssurance><w:Policy><p:ExactlyOnce/>"
assurance_text AtLeastOnce = codes "<p:DeliveryAssurance><w:Policy><p:AtLeastOnce/>"
assurance_text AtMostOnce = codes "<p:DeliveryAssurance><w:Policy><p:AtMostOnce/>"

-- InOrder, where it is asked for
abbrev pub order_text : Bool → List ℕ
order_text true = codes "<p:InOrder/>"
order_text false = []

-- its end
abbrev pub end_text : Assurance → List ℕ
end_text Unsaid = []
end_text assurance = codes "</w:Policy></p:DeliveryAssurance>"

-- an assertion
abbrev pub assertion_text : Assertion → List ℕ
assertion_text a =
    codes "<p:RMAssertion xmlns:p=\"" ++ assertion_space ++ codes "\" xmlns:w=\"" ++ policy_space ++ codes "\""
    ++ optional_text a.optional ++ codes "><w:Policy>" ++ assurance_text a.assurance ++ order_text a.in_order
    ++ end_text a.assurance ++ codes "</w:Policy></p:RMAssertion>"

-- the word for an assurance, where it is printed
abbrev pub assurance_word : Assurance → List ℕ
assurance_word Unsaid = codes "unsaid"
assurance_word ExactlyOnce = codes "exactly-once"
assurance_word AtLeastOnce = codes "at-least-once"
assurance_word AtMostOnce = codes "at-most-once"
