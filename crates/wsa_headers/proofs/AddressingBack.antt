-- Addressing properties are read back as they were written, among the blocks of a header.
use Rattle.std.proofs.Common.{◌≡◌, ℕ, Bool, true, false, not, ◌&&◌, List, [], ◌∷◌, ◌++◌, refl, ap, ◌∙◌, inl, inr}
use Rattle.std.proofs.Common.{Option, Some, None, Ok, codes, map}
use Rattle.std.specs.List.{AllByRecursion, filter}
use Rattle.std.specs.Prelude.{IfSome}
use Rattle.std.specs.Str.{bytes_eq}
use Rattle.rm_base.specs.Text.{IsText}
use Rattle.soap_document.specs.Profile.Tree.{Element, element, none, text, name_of, children_of}
use Rattle.soap_writer.specs.Frame.{addressing_space}
use Rattle.soap_writer.specs.ReadBack.{written_tree}
use Rattle.soap_writer.specs.Nodes.Node.{Nodes, nodes_tree}
use Rattle.wsa_headers.specs.Addressing.{is_marked, is_header, blocks_named, is_repeated, repeated, uri_header}
use Rattle.wsa_headers.specs.Addressing.{epr_header, relates_in, params_of, replies_in, properties_in, addressing_in}
use Rattle.wsa_headers.specs.Endpoint.{wsa, param}
use Rattle.wsa_headers.specs.TextLaws.{uri_back}
use Rattle.wsa_headers.specs.Texts.{local_of, params_nodes, epr_nodes, uri_before, epr_before}
use Rattle.wsa_headers.specs.Writable.{IsEprWritable, IsAddressingWritable, addressing_blocks, IsAddressingBlock}
use Rattle.wsa_headers.specs.Writable.{IsForeign}
use Rattle.wsa_headers.specs.declared.addressing.Addressing.{Addressing}
use Rattle.wsa_headers.specs.declared.endpoint.Epr.{Epr}
use Rattle.wsa_headers.specs.declared.tag.Tag.{Tag}
use Rattle.wsa_headers.specs.declared.tag.Tag.TheVariants as tags
use Rattle.wsa_headers.proofs.EprBack.{Known, params_again, epr_again}

-- the blocks that nodes are, before others
abbrev blocks : List ℕ → Nodes → List Element → List Element
blocks soap ns others = children_of (nodes_tree soap ns) ++ others

-- a header of an address, and one of an endpoint reference
abbrev uri_block : Tag → List ℕ → Element
uri_block t uri = element (wsa (local_of t)) [] [] (text uri none)

abbrev epr_block : List ℕ → Tag → Epr → Element
epr_block soap t x = element (wsa (local_of t)) [] [] (nodes_tree soap (epr_nodes x))

-- the header, where there is one
abbrev if_there : {A : Type 0} → (A → Element) → Option A → List Element
if_there block None = []
if_there block (Some x) = block x ∷ []

-- ---- parameters and blocks of others

neither : (a b c : Bool) → b ≡ false → ((a && b) && c) ≡ false
neither true b c h = rw h refl
neither false b c h = refl

last_not : (a : Bool) → (a && false) ≡ false
last_not true = refl
last_not false = refl

pub marked_block : (e : Element) → is_marked (written_tree true e) ≡ true
marked_block (element name decls attrs parts) = refl

no_header : (local : List ℕ) (e : Element) → is_marked e ≡ true → is_header local e ≡ false
no_header local e is = rw is (last_not _)

foreign_passed : (local : List ℕ) (others : List Element) → AllByRecursion IsForeign others
    → blocks_named local others ≡ []
foreign_passed local [] all = refl
foreign_passed local (e ∷ others) all =
    let other : is_header local e ≡ false =
    neither (bytes_eq (name_of e).local local) (bytes_eq (name_of e).space addressing_space) (not (is_marked e))
    all.0.space in
    rw other (foreign_passed local others all.1)

params_passed : (soap local : List ℕ) (ps others : List Element) → AllByRecursion IsForeign others
    → blocks_named local (blocks soap (params_nodes true ps) others) ≡ []
params_passed soap local [] others all = foreign_passed local others all
params_passed soap local (p ∷ ps) others all =
    let other = no_header local (written_tree true p) (marked_block p) in
    rw other (params_passed soap local ps others all)

none_marked : (others : List Element) → AllByRecursion IsForeign others → filter is_marked others ≡ []
none_marked [] all = refl
none_marked (e ∷ others) all = let other = all.0.unmarked in rw other (none_marked others all.1)

params_marked : (soap : List ℕ) (ps others : List Element) → AllByRecursion IsForeign others
    → filter is_marked (blocks soap (params_nodes true ps) others) ≡ map (written_tree true) ps
params_marked soap [] others all = none_marked others all
params_marked soap (p ∷ ps) others all =
    let here = marked_block p in
    rw here (ap (λ l. written_tree true p ∷ l) (params_marked soap ps others all))

-- ---- headers by name

uri_passed : (soap local : List ℕ) (t : Tag) (uri : Option (List ℕ)) (ns : Nodes) (others : List Element)
    → bytes_eq (local_of t) local ≡ false
    → blocks_named local (blocks soap (uri_before t uri ns) others) ≡ blocks_named local (blocks soap ns others)
uri_passed soap local t None ns others differs = refl
uri_passed soap local t (Some uri) ns others differs = rw differs refl

epr_passed : (soap local : List ℕ) (t : Tag) (x : Option Epr) (ns : Nodes) (others : List Element)
    → bytes_eq (local_of t) local ≡ false
    → blocks_named local (blocks soap (epr_before t x ns) others) ≡ blocks_named local (blocks soap ns others)
epr_passed soap local t None ns others differs = refl
epr_passed soap local t (Some x) ns others differs = rw differs refl

uri_kept : (soap local : List ℕ) (t : Tag) (uri : Option (List ℕ)) (ns : Nodes) (others : List Element)
    → bytes_eq (local_of t) local ≡ true → blocks_named local (blocks soap ns others) ≡ []
    → blocks_named local (blocks soap (uri_before t uri ns) others) ≡ if_there (uri_block t) uri
uri_kept soap local t None ns others same later = later
uri_kept soap local t (Some uri) ns others same later = rw same (ap (λ l. uri_block t uri ∷ l) later)

epr_kept : (soap local : List ℕ) (t : Tag) (x : Option Epr) (ns : Nodes) (others : List Element)
    → bytes_eq (local_of t) local ≡ true → blocks_named local (blocks soap ns others) ≡ []
    → blocks_named local (blocks soap (epr_before t x ns) others) ≡ if_there (epr_block soap t) x
epr_kept soap local t None ns others same later = later
epr_kept soap local t (Some x) ns others same later = rw same (ap (λ l. epr_block soap t x ∷ l) later)

uri_unmarked : (soap : List ℕ) (t : Tag) (uri : Option (List ℕ)) (ns : Nodes) (others : List Element)
    → filter is_marked (blocks soap (uri_before t uri ns) others) ≡ filter is_marked (blocks soap ns others)
uri_unmarked soap t None ns others = refl
uri_unmarked soap t (Some uri) ns others = refl

epr_unmarked : (soap : List ℕ) (t : Tag) (x : Option Epr) (ns : Nodes) (others : List Element)
    → filter is_marked (blocks soap (epr_before t x ns) others) ≡ filter is_marked (blocks soap ns others)
epr_unmarked soap t None ns others = refl
epr_unmarked soap t (Some x) ns others = refl

-- which blocks are headers of each name, and which are parameters
record Found (soap : List ℕ) (a : Addressing) (bs : List Element) : Type 0 where
  to : blocks_named (codes "To") bs ≡ uri_block tags.To a.to ∷ []
  action : blocks_named (codes "Action") bs ≡ uri_block tags.Action a.action ∷ []
  message_id : blocks_named (codes "MessageID") bs ≡ if_there (uri_block tags.MessageID) a.message_id
  relates : blocks_named (codes "RelatesTo") bs ≡ if_there (uri_block tags.RelatesTo) a.relates
  reply_to : blocks_named (codes "ReplyTo") bs ≡ if_there (epr_block soap tags.ReplyTo) a.reply_to
  fault_to : blocks_named (codes "FaultTo") bs ≡ if_there (epr_block soap tags.FaultTo) a.fault_to
  params : filter is_marked bs ≡ map (written_tree true) a.params

found : (soap : List ℕ) (a : Addressing) (others : List Element) → AllByRecursion IsForeign others
    → Found soap a (addressing_blocks soap a ++ others)
found soap a others all =
    let params = params_nodes true a.params in
    let faults = epr_before tags.FaultTo a.fault_to params in
    let replies = epr_before tags.ReplyTo a.reply_to faults in
    let relates = uri_before tags.RelatesTo a.relates replies in
    record {
      to = ap (λ l. uri_block tags.To a.to ∷ l)
          (uri_passed soap (codes "To") tags.MessageID a.message_id relates others refl
          ∙ uri_passed soap (codes "To") tags.RelatesTo a.relates replies others refl
          ∙ epr_passed soap (codes "To") tags.ReplyTo a.reply_to faults others refl
          ∙ epr_passed soap (codes "To") tags.FaultTo a.fault_to params others refl
          ∙ params_passed soap (codes "To") a.params others all);
      action = ap (λ l. uri_block tags.Action a.action ∷ l)
          (uri_passed soap (codes "Action") tags.MessageID a.message_id relates others refl
          ∙ uri_passed soap (codes "Action") tags.RelatesTo a.relates replies others refl
          ∙ epr_passed soap (codes "Action") tags.ReplyTo a.reply_to faults others refl
          ∙ epr_passed soap (codes "Action") tags.FaultTo a.fault_to params others refl
          ∙ params_passed soap (codes "Action") a.params others all);
      message_id = uri_kept soap (codes "MessageID") tags.MessageID a.message_id relates others refl
          (uri_passed soap (codes "MessageID") tags.RelatesTo a.relates replies others refl
          ∙ epr_passed soap (codes "MessageID") tags.ReplyTo a.reply_to faults others refl
          ∙ epr_passed soap (codes "MessageID") tags.FaultTo a.fault_to params others refl
          ∙ params_passed soap (codes "MessageID") a.params others all);
      relates = uri_passed soap (codes "RelatesTo") tags.MessageID a.message_id relates others refl
          ∙ uri_kept soap (codes "RelatesTo") tags.RelatesTo a.relates replies others refl
          (epr_passed soap (codes "RelatesTo") tags.ReplyTo a.reply_to faults others refl
          ∙ epr_passed soap (codes "RelatesTo") tags.FaultTo a.fault_to params others refl
          ∙ params_passed soap (codes "RelatesTo") a.params others all);
      reply_to = uri_passed soap (codes "ReplyTo") tags.MessageID a.message_id relates others refl
          ∙ uri_passed soap (codes "ReplyTo") tags.RelatesTo a.relates replies others refl
          ∙ epr_kept soap (codes "ReplyTo") tags.ReplyTo a.reply_to faults others refl
          (epr_passed soap (codes "ReplyTo") tags.FaultTo a.fault_to params others refl
          ∙ params_passed soap (codes "ReplyTo") a.params others all);
      fault_to = uri_passed soap (codes "FaultTo") tags.MessageID a.message_id relates others refl
          ∙ uri_passed soap (codes "FaultTo") tags.RelatesTo a.relates replies others refl
          ∙ epr_passed soap (codes "FaultTo") tags.ReplyTo a.reply_to faults others refl
          ∙ epr_kept soap (codes "FaultTo") tags.FaultTo a.fault_to params others refl
          (params_passed soap (codes "FaultTo") a.params others all);
      params = uri_unmarked soap tags.MessageID a.message_id relates others
          ∙ uri_unmarked soap tags.RelatesTo a.relates replies others
          ∙ epr_unmarked soap tags.ReplyTo a.reply_to faults others
          ∙ epr_unmarked soap tags.FaultTo a.fault_to params others
          ∙ params_marked soap a.params others all;
    }

-- ---- values

uri_header_again : (local : List ℕ) (bs : List Element) (t : Tag) (uri : Option (List ℕ))
    → blocks_named local bs ≡ if_there (uri_block t) uri → IfSome uri (IsText 2048) → uri_header local bs ≡ Some uri
uri_header_again local bs t None at is = rw at refl
uri_header_again local bs t (Some uri) at is = let one = uri_back (uri_block t uri) uri is refl in rw (at, one) refl

epr_header_again : Known → (soap local : List ℕ) (bs : List Element) (t : Tag) (x : Option Epr)
    → blocks_named local bs ≡ if_there (epr_block soap t) x → IfSome x IsEprWritable → epr_header local bs ≡ Some x
epr_header_again known soap local bs t None at is = rw at refl
epr_header_again known soap local bs t (Some x) at is = let one = epr_again known soap x is in rw (at, one) refl

relates_again : (bs : List Element) (uri : Option (List ℕ))
    → blocks_named (codes "RelatesTo") bs ≡ if_there (uri_block tags.RelatesTo) uri → IfSome uri (IsText 2048)
    → relates_in bs ≡ Some uri
relates_again bs None at is = rw at refl
relates_again bs (Some uri) at is =
    let one = uri_back (uri_block tags.RelatesTo uri) uri is refl in
    rw (at, one) refl

replies_from : (bs : List Element) (x y : Option Epr) → epr_header (codes "ReplyTo") bs ≡ Some x
    → epr_header (codes "FaultTo") bs ≡ Some y → replies_in bs ≡ Some (x, y)
unfolding replies_in
replies_from bs x y e f = rw (e, f) refl

properties_from : (bs : List Element) (a : Addressing) → uri_header (codes "To") bs ≡ Some (Some a.to)
    → uri_header (codes "Action") bs ≡ Some (Some a.action) → uri_header (codes "MessageID") bs ≡ Some a.message_id
    → relates_in bs ≡ Some a.relates → replies_in bs ≡ Some (a.reply_to, a.fault_to) → params_of bs ≡ a.params
    → properties_in bs ≡ Some a
unfolding properties_in
properties_from bs a to action message_id relates replies params =
    rw (to, action, message_id, relates, replies, params) refl

properties_again : Known → (soap : List ℕ) (a : Addressing) (bs : List Element) → IsAddressingWritable a
    → Found soap a bs → properties_in bs ≡ Some a
properties_again known soap a bs is at =
    properties_from bs a (uri_header_again (codes "To") bs tags.To (Some a.to) at.to is.to)
    (uri_header_again (codes "Action") bs tags.Action (Some a.action) at.action is.action)
    (uri_header_again (codes "MessageID") bs tags.MessageID a.message_id at.message_id is.message_id)
    (relates_again bs a.relates at.relates is.relates)
    (replies_from bs a.reply_to a.fault_to
    (epr_header_again known soap (codes "ReplyTo") bs tags.ReplyTo a.reply_to at.reply_to is.reply_to)
    (epr_header_again known soap (codes "FaultTo") bs tags.FaultTo a.fault_to at.fault_to is.fault_to))
    (ap (map param) at.params ∙ params_again known true 98 a.params is.each)

once : {A : Type 0} (local : List ℕ) (bs : List Element) (block : A → Element) (x : Option A)
    → blocks_named local bs ≡ if_there block x → is_repeated local bs ≡ false
once local bs block None at = rw at refl
once local bs block (Some x) at = rw at refl

none_repeated : (soap : List ℕ) (a : Addressing) (bs : List Element) → Found soap a bs → repeated bs ≡ None
none_repeated soap a bs at =
    let to = once (codes "To") bs (uri_block tags.To) (Some a.to) at.to in
    let action = once (codes "Action") bs (uri_block tags.Action) (Some a.action) at.action in
    let message_id = once (codes "MessageID") bs (uri_block tags.MessageID) a.message_id at.message_id in
    let reply_to = once (codes "ReplyTo") bs (epr_block soap tags.ReplyTo) a.reply_to at.reply_to in
    let fault_to = once (codes "FaultTo") bs (epr_block soap tags.FaultTo) a.fault_to at.fault_to in
    rw (to, action, message_id, reply_to, fault_to) refl

pub addressing_again : Known → (soap : List ℕ) (a : Addressing) (others : List Element) → IsAddressingWritable a
    → AllByRecursion IsForeign others → addressing_in (addressing_blocks soap a ++ others) ≡ Ok a
addressing_again known soap a others is all =
    let bs = addressing_blocks soap a ++ others in
    let at = found soap a others all in
    let none_twice = none_repeated soap a bs at in
    let properties = properties_again known soap a bs is at in
    rw (none_twice, properties) refl

-- ---- each block is one of addressing

uri_own : (soap : List ℕ) (t : Tag) (uri : Option (List ℕ)) (ns : Nodes)
    → AllByRecursion IsAddressingBlock (children_of (nodes_tree soap ns))
    → AllByRecursion IsAddressingBlock (children_of (nodes_tree soap (uri_before t uri ns)))
uri_own soap t None ns all = all
uri_own soap t (Some uri) ns all = (inr (refl, refl), all)

epr_own : (soap : List ℕ) (t : Tag) (x : Option Epr) (ns : Nodes)
    → AllByRecursion IsAddressingBlock (children_of (nodes_tree soap ns))
    → AllByRecursion IsAddressingBlock (children_of (nodes_tree soap (epr_before t x ns)))
epr_own soap t None ns all = all
epr_own soap t (Some x) ns all = (inr (refl, refl), all)

params_own : (soap : List ℕ) (ps : List Element)
    → AllByRecursion IsAddressingBlock (children_of (nodes_tree soap (params_nodes true ps)))
params_own soap [] = tt
params_own soap (p ∷ ps) = (inl (marked_block p), params_own soap ps)

pub blocks_own : (soap : List ℕ) (a : Addressing) → AllByRecursion IsAddressingBlock (addressing_blocks soap a)
blocks_own soap a =
    let params = params_nodes true a.params in
    let faults = epr_before tags.FaultTo a.fault_to params in
    let replies = epr_before tags.ReplyTo a.reply_to faults in
    let relates = uri_before tags.RelatesTo a.relates replies in (
      inr (refl, refl),
      (
        inr (refl, refl),
        uri_own soap tags.MessageID a.message_id relates (uri_own soap tags.RelatesTo a.relates replies
            (epr_own soap tags.ReplyTo a.reply_to faults (epr_own soap tags.FaultTo a.fault_to params
            (params_own soap a.params)))),
      ),
    )
