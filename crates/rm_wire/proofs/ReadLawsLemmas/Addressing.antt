-- Message addressing properties, as they are read.
use Rattle.std.proofs.Common.{◌≡◌, ℕ, Bool, true, false, if◌then◌else◌, List, Option, Some, None, Ok}
use Rattle.std.proofs.Common.{Err, codes, refl, ap, subst, arith}
use Rattle.std.specs.Prelude.{IfSome}
use Rattle.std.specs.List.{AllByRecursion, filter}
use Rattle.rm_base.specs.Text.{IsText}
use Rattle.soap_document.specs.Profile.Tree.{Element}
use Rattle.soap_writer.specs.Stripped.Resolved.{IsResolved}
use Rattle.soap_writer.specs.Values.Outcome.{◌>>=◌, optional, each, if_present}
use Rattle.soap_writer.specs.Values.TextLaws.{literal_is_text}
use Rattle.wsa_headers.specs.Addressing.{is_header, is_marked, blocks_named, repeated, uri_header, epr_header}
use Rattle.wsa_headers.specs.Addressing.{is_reply}
use Rattle.wsa_headers.specs.Addressing.{first_of, relates_in, or_anonymous, params_of, Replies, replies_in}
use Rattle.wsa_headers.specs.Addressing.{properties_in, is_missing, read_or_bad, read_unless, addressing_in}
use Rattle.wsa_headers.specs.Endpoint.{uri_of, epr_of, param}
use Rattle.wsa_headers.specs.Writable.{IsParamWritable, IsEprWritable, IsAddressingWritable}
use Rattle.wsa_headers.specs.declared.addressing.Addressing.{Addressing}
use Rattle.wsa_headers.specs.declared.endpoint.Epr.{Epr}
use Rattle.wsa_headers.specs.declared.error.AddressingError.TheVariants as errors
use Rattle.rm_wire.proofs.ReadLawsLemmas.Lists.{all_filter, all_map, first_is, present_is, found_is}
use Rattle.rm_wire.proofs.ReadLawsLemmas.Params.{param_is, epr_is}
use Rattle.rm_wire.proofs.ReadLawsLemmas.Texts.{uri_is}

pub anonymous_is : IsText 2048 (or_anonymous None)
anonymous_is = literal_is_text 2048 (or_anonymous None) refl refl refl refl refl refl

or_anonymous_is : (o : Option (List ℕ)) → IfSome o (IsText 2048) → IsText 2048 (or_anonymous o)
or_anonymous_is None is = anonymous_is
or_anonymous_is (Some uri) is = is

-- both may be written
record AreReplies (replies : Replies) : Type 0 where
  reply_to : IfSome replies.0 IsEprWritable
  fault_to : IfSome replies.1 IsEprWritable

replies_at : (a b : Option (Option Epr)) (replies : Replies)
    → (a >>= λ reply_to. (b >>= λ fault_to. Some (reply_to, fault_to))) ≡ Some replies
    → ((x : Option Epr) → a ≡ Some x → IfSome x IsEprWritable)
    → ((x : Option Epr) → b ≡ Some x → IfSome x IsEprWritable) → AreReplies replies
replies_at None b replies e f g = cc
replies_at (Some x) None replies e f g = cc
replies_at (Some x) (Some y) replies e f g =
    let pair : Replies = (x, y) in
    let is : pair ≡ replies = cc in
    subst AreReplies is (record { reply_to = f x refl; fault_to = g y refl })

-- properties that may be written, where this was read of Action and of MessageID
record AreProperties (action id : Option (Option (List ℕ))) (a : Addressing) : Type 0 where
  rules : IsAddressingWritable a
  acts : action ≡ Some (Some a.action)
  known : id ≡ Some a.message_id

module _ (headers : List Element) (all : AllByRecursion (IsResolved 2) headers) where
  named_resolved : (local : List ℕ) → AllByRecursion (IsResolved 2) (blocks_named local headers)
  named_resolved local = all_filter (IsResolved 2) (is_header local) headers all

  pub uri_header_is : (local : List ℕ) (uri : Option (List ℕ)) → uri_header local headers ≡ Some uri
      → IfSome uri (IsText 2048)
  uri_header_is local uri e =
      found_is (IsResolved 2) (IsText 2048) uri_of (λ x is y h. uri_is x y h) (blocks_named local headers)
      (named_resolved local) (optional (blocks_named local headers)) refl uri e

  epr_header_is : (local : List ℕ) (x : Option Epr) → epr_header local headers ≡ Some x → IfSome x IsEprWritable
  epr_header_is local x e =
      found_is (IsResolved 2) IsEprWritable epr_of (epr_is 2) (blocks_named local headers) (named_resolved local)
      (optional (blocks_named local headers)) refl x e

  relates_at : (uris : Option (List (List ℕ))) (first : Option Element) (uri : Option (List ℕ))
      → (uris >>= λ found. if_present uri_of first) ≡ Some uri → IfSome first (IsResolved 2) → IfSome uri (IsText 2048)
  relates_at None first uri e is = cc
  relates_at (Some found) first uri e is =
      present_is (IsResolved 2) (IsText 2048) uri_of (λ x h y d. uri_is x y d) first is uri e

  relates_is : (uri : Option (List ℕ)) → relates_in headers ≡ Some uri → IfSome uri (IsText 2048)
  relates_is uri e =
      let blocks = blocks_named (codes "RelatesTo") headers in
      let replies = filter is_reply blocks in
      relates_at (each uri_of blocks) (first_of replies) uri e
      (first_is (IsResolved 2) replies (first_of replies) refl
      (all_filter (IsResolved 2) is_reply blocks (named_resolved (codes "RelatesTo"))))

  replies_are : (replies : Replies) → replies_in headers ≡ Some replies → AreReplies replies
  unfolding replies_in
  replies_are replies e =
      replies_at (epr_header (codes "ReplyTo") headers) (epr_header (codes "FaultTo") headers) replies e
      (epr_header_is (codes "ReplyTo")) (epr_header_is (codes "FaultTo"))

  params_are : AllByRecursion (IsParamWritable 98) (params_of headers)
  params_are =
      all_map (IsResolved 2) (IsParamWritable 98) param (param_is 2 98 (omega arith)) (filter is_marked headers)
      (all_filter (IsResolved 2) is_marked headers all)

  properties_at : (to action id relates : Option (Option (List ℕ))) (replies : Option Replies) (a : Addressing)
      → (to >>= λ to. (action >>= λ found. (found >>= λ action. (id >>= λ message_id. (relates >>= λ relates.
      (replies >>= λ replies. Some (record {
        to = or_anonymous to;
        action = action;
        message_id = message_id;
        relates = relates;
        reply_to = replies.0;
        fault_to = replies.1;
        params = params_of headers;
      }))))))) ≡ Some a
      → ((uri : Option (List ℕ)) → to ≡ Some uri → IfSome uri (IsText 2048))
      → ((uri : Option (List ℕ)) → action ≡ Some uri → IfSome uri (IsText 2048))
      → ((uri : Option (List ℕ)) → id ≡ Some uri → IfSome uri (IsText 2048))
      → ((uri : Option (List ℕ)) → relates ≡ Some uri → IfSome uri (IsText 2048))
      → ((x : Replies) → replies ≡ Some x → AreReplies x) → AreProperties action id a
  properties_at None action id relates replies a e f g h k l = cc
  properties_at (Some to) None id relates replies a e f g h k l = cc
  properties_at (Some to) (Some None) id relates replies a e f g h k l = cc
  properties_at (Some to) (Some (Some action)) None relates replies a e f g h k l = cc
  properties_at (Some to) (Some (Some action)) (Some id) None replies a e f g h k l = cc
  properties_at (Some to) (Some (Some action)) (Some id) (Some relates) None a e f g h k l = cc
  properties_at (Some to) (Some (Some action)) (Some id) (Some relates) (Some replies) a e f g h k l =
      let read : Addressing = record {
        to = or_anonymous to;
        action = action;
        message_id = id;
        relates = relates;
        reply_to = replies.0;
        fault_to = replies.1;
        params = params_of headers;
      } in
      let is : read ≡ a = cc in
      let both = l replies refl in
      subst (AreProperties (Some (Some action)) (Some id)) is (record {
        rules = record {
          to = or_anonymous_is to (f to refl);
          action = g (Some action) refl;
          message_id = h id refl;
          relates = k relates refl;
          reply_to = both.reply_to;
          fault_to = both.fault_to;
          each = params_are;
        };
        acts = refl;
        known = refl;
      })

  properties_are : (a : Addressing) → properties_in headers ≡ Some a → AreProperties
      (uri_header (codes "Action") headers) (uri_header (codes "MessageID") headers) a
  unfolding properties_in
  properties_are a e =
      properties_at (uri_header (codes "To") headers) (uri_header (codes "Action") headers)
      (uri_header (codes "MessageID") headers) (relates_in headers) (replies_in headers) a e
      (uri_header_is (codes "To")) (uri_header_is (codes "Action")) (uri_header_is (codes "MessageID")) relates_is
      replies_are

  bad_at : (o : Option Addressing) (a : Addressing) → read_or_bad headers o ≡ Ok a → o ≡ Some a
  bad_at None a e = cc
  bad_at (Some x) a e = let is : x ≡ a = cc in ap (λ z. Some z) is

  missing_at : (t : Bool) (a : Addressing) → (if t then Err (errors.HeaderMissing (codes "Action"))
      else read_or_bad headers (properties_in headers)) ≡ Ok a → properties_in headers ≡ Some a
  missing_at true a e = cc
  missing_at false a e = bad_at (properties_in headers) a e

  unless_at : (o : Option (List ℕ)) (a : Addressing) → read_unless headers o ≡ Ok a → properties_in headers ≡ Some a
  unless_at None a e = missing_at (is_missing (codes "Action") headers) a e
  unless_at (Some name) a e = cc

-- properties that are read of header blocks of a document
pub record IsAddressed (headers : List Element) (a : Addressing) : Type 0 where
  pub rules : IsAddressingWritable a
  pub acts : uri_header (codes "Action") headers ≡ Some (Some a.action)
  pub known : uri_header (codes "MessageID") headers ≡ Some a.message_id

pub addressing_is : (headers : List Element) (a : Addressing) → AllByRecursion (IsResolved 2) headers
    → addressing_in headers ≡ Ok a → IsAddressed headers a
addressing_is headers a all e =
    let is = properties_are headers all a (unless_at headers all (repeated headers) a e) in
    record { rules = is.rules; acts = is.acts; known = is.known }
