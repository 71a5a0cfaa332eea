-- What is written of an assertion is read back: there are fourteen texts, and the reader of documents computes on each.
use Rattle.std.proofs.Common.{◌≡◌, ℕ, ◌≤◌, List, [], Result, Ok, Option, Some, None, Bool, true, false, ◌↔◌}
use Rattle.std.proofs.Common.{option_map, length, nat_le, refl}
use Rattle.std.proofs.lemmas.Bool.{leb-true, true≢false}
use Rattle.std.specs.Str.{IsUtf8, is_utf8, chars}
use lib.Utf8.{encode}
use Rattle.soap_document.specs.Grammar.{IsDocument}
use Rattle.soap_document.specs.Machine.{start, run, root_of}
use Rattle.soap_document.specs.Tokens.{is_name, is_qname}
use Rattle.soap_document.specs.Tree as written
use Rattle.soap_lex.specs.Tests.{is_plain, is_chars, is_char_data}
use Rattle.soap_document.specs.Profile.Namespaces.{resolve}
use Rattle.soap_document.specs.Profile.Tree.{Element}
use Rattle.rm_policy.specs.Assertion.{IsWritable, assertion_of, assertion_in, delivery_in, delivery_of, said_by}
use Rattle.rm_policy.specs.Assertion.{optional_in}
use Rattle.rm_policy.specs.Reading.{ReadsAs}
use Rattle.rm_policy.specs.Texts.{assertion_text}
use Rattle.rm_policy.specs.declared.assertion.Assertion.{Assertion}
use Rattle.rm_policy.specs.declared.assertion.Assurance.{Assurance}
use Rattle.rm_policy.specs.declared.assertion.Assurance.TheVariants.{Unsaid, ExactlyOnce, AtLeastOnce, AtMostOnce}
use Rattle.rm_policy.specs.declared.error.PolicyError.{PolicyError}

-- what is read of a root
abbrev answer_of : Option written.Element → Option (Result Assertion PolicyError)
answer_of None = None
answer_of (Some raw) = option_map assertion_of (resolve [] raw)

-- a text that is short, and of which the reader of documents reads this assertion
record Computes (text : List ℕ) (a : Assertion) : Type 0 where
  short : nat_le (length text) 2097152 ≡ true
  answer : answer_of (root_of (run start text)) ≡ Some (Ok a)

abbrev said : Assurance → Bool → Bool → Assertion
said assurance in_order is_optional =
    record { assurance = assurance; in_order = in_order; optional = is_optional }

each : (assurance : Assurance) (in_order is_optional : Bool) → IsWritable (said assurance in_order is_optional)
    → Computes (assertion_text (said assurance in_order is_optional)) (said assurance in_order is_optional)
unfolding is_utf8 chars encode is_name is_qname is_plain is_chars is_char_data
    assertion_in delivery_in delivery_of said_by optional_in
each Unsaid true is_optional is = absurd (true≢false (is refl))
each Unsaid false true is = record { short = refl; answer = refl }
each Unsaid false false is = record { short = refl; answer = refl }
each ExactlyOnce true true is = record { short = refl; answer = refl }
each ExactlyOnce true false is = record { short = refl; answer = refl }
each ExactlyOnce false true is = record { short = refl; answer = refl }
each ExactlyOnce false false is = record { short = refl; answer = refl }
each AtLeastOnce true true is = record { short = refl; answer = refl }
each AtLeastOnce true false is = record { short = refl; answer = refl }
each AtLeastOnce false true is = record { short = refl; answer = refl }
each AtLeastOnce false false is = record { short = refl; answer = refl }
each AtMostOnce true true is = record { short = refl; answer = refl }
each AtMostOnce true false is = record { short = refl; answer = refl }
each AtMostOnce false true is = record { short = refl; answer = refl }
each AtMostOnce false false is = record { short = refl; answer = refl }

module _ (is_read : (bytes : List ℕ) (root : written.Element) → IsDocument bytes root
    ↔ (root_of (run start bytes) ≡ Some root)) (utf8 : (bytes : List ℕ) (root : written.Element)
    → IsDocument bytes root → IsUtf8 bytes) (text : List ℕ) (a : Assertion) (short : length text ≤ 2097152) where
  from_tree : (raw : written.Element) (tree : Option Element) → root_of (run start text) ≡ Some raw
      → resolve [] raw ≡ tree → option_map assertion_of tree ≡ Some (Ok a) → ReadsAs text (Ok a)
  from_tree raw None read resolved e = cc
  from_tree raw (Some root) read resolved e =
      let is = (is_read text raw).1 read in
      let same : assertion_of root ≡ Ok a = cc in
      record {
        root = root;
        document = record { raw = raw; is = is; resolved = resolved };
        fits = (short, utf8 text raw is);
        read = same;
      }

  from_root : (root : Option written.Element) → root_of (run start text) ≡ root → answer_of root ≡ Some (Ok a)
      → ReadsAs text (Ok a)
  from_root None read e = cc
  from_root (Some raw) read e = from_tree raw (resolve [] raw) read refl e

pub read_back : ((bytes : List ℕ) (root : written.Element) → IsDocument bytes root
    ↔ (root_of (run start bytes) ≡ Some root))
    → ((bytes : List ℕ) (root : written.Element) → IsDocument bytes root → IsUtf8 bytes)
    → (a : Assertion) → IsWritable a → ReadsAs (assertion_text a) (Ok a)
read_back is_read utf8 a is =
    let text = assertion_text a in
    let computes = each a.assurance a.in_order a.optional is in
    from_root is_read utf8 text a (leb-true (length text) 2097152 computes.short) (root_of (run start text)) refl
    computes.answer
