-- Endpoint references and header blocks of addressing are nodes that may stand in a frame.
use Rattle.std.proofs.Common.{ℕ, suc, ◌+◌, ◌≤◌, Bool, true, false, List, [], ◌∷◌, refl, arith, Option, Some, None}
use Rattle.std.specs.List.{AllByRecursion}
use Rattle.std.specs.Prelude.{IfSome}
use Rattle.rm_base.specs.Text.{IsText}
use Rattle.soap_document.specs.Profile.Tree.{Element}
use Rattle.soap_writer.specs.Frame.{frame_scope}
use Rattle.soap_writer.specs.ReadBack.{MarkFits}
use Rattle.soap_writer.specs.Nodes.Good.{IsTagGood, IsGood, AreGood}
use Rattle.soap_writer.specs.Nodes.Node.{tag_name, Nodes, leaf}
use Rattle.wsa_headers.specs.TextLaws.{text_writable}
use Rattle.wsa_headers.specs.Texts.{tag_of, params_nodes, holder_nodes, epr_nodes, uri_before, epr_before}
use Rattle.wsa_headers.specs.Texts.{addressing_nodes}
use Rattle.wsa_headers.specs.Writable.{IsParamWritable, IsEprWritable, IsAddressingWritable}
use Rattle.wsa_headers.specs.declared.addressing.Addressing.{Addressing}
use Rattle.wsa_headers.specs.declared.endpoint.Epr.{Epr}
use Rattle.wsa_headers.specs.declared.tag.Tag.{Tag}
use Rattle.wsa_headers.specs.declared.tag.Tag.TheVariants as tags

plain_tag : (soap : List ℕ) (t : Tag) → IsTagGood soap (frame_scope soap) (tag_of t) []
unfolding tag_name
plain_tag soap tags.To = record { named = refl; each = tt; resolved = refl }
plain_tag soap tags.Action = record { named = refl; each = tt; resolved = refl }
plain_tag soap tags.MessageID = record { named = refl; each = tt; resolved = refl }
plain_tag soap tags.RelatesTo = record { named = refl; each = tt; resolved = refl }
plain_tag soap tags.ReplyTo = record { named = refl; each = tt; resolved = refl }
plain_tag soap tags.FaultTo = record { named = refl; each = tt; resolved = refl }
plain_tag soap tags.Address = record { named = refl; each = tt; resolved = refl }
plain_tag soap tags.ReferenceParameters = record { named = refl; each = tt; resolved = refl }

leaf_good : (soap : List ℕ) (depth : ℕ) (t : Tag) (uri : List ℕ) → depth ≤ 9 → IsText 2048 uri
    → IsGood soap depth (frame_scope soap) (leaf (tag_of t) uri)
leaf_good soap depth t uri low is = (plain_tag soap t, omega (arith, low), text_writable 2048 uri is)

-- ---- parameters

mark_fits : (soap : List ℕ) (marked : Bool) (levels : ℕ) (e : Element) → IsParamWritable levels e
    → MarkFits marked (frame_scope soap) e
mark_fits soap true levels e is = record { prefix = refl; unmarked = is.unmarked }
mark_fits soap false levels e is = tt

params_good : (soap : List ℕ) (marked : Bool) (depth levels : ℕ) (ps : List Element) → depth + levels ≤ 100
    → AllByRecursion (IsParamWritable levels) ps → AreGood soap depth (frame_scope soap) (params_nodes marked ps)
params_good soap marked depth levels [] fits all = tt
params_good soap marked depth levels (p ∷ ps) fits all = (
  record {
    writable = all.0.writable;
    shallow = omega (arith, fits, all.0.shallow);
    no_default = refl;
    mark = mark_fits soap marked levels p all.0;
  },
  params_good soap marked depth levels ps fits all.1,
)

-- ---- endpoint references

pub epr_good : (soap : List ℕ) (x : Epr) (depth : ℕ) → IsEprWritable x → depth ≤ 9
    → AreGood soap depth (frame_scope soap) (epr_nodes x)
epr_good soap x depth is low = (leaf_good soap depth tags.Address x.address low is.address, held x.params is.each)
  where
    held : (ps : List Element) → AllByRecursion (IsParamWritable 90) ps
        → AreGood soap depth (frame_scope soap) (holder_nodes ps)
    held [] all = tt
    held (p ∷ ps) all = (
      (
        plain_tag soap tags.ReferenceParameters,
        omega (arith, low),
        params_good soap false (suc depth) 90 (p ∷ ps) (omega (arith, low)) all,
      ),
      tt,
    )

-- ---- header blocks

uri_good : (soap : List ℕ) (t : Tag) (uri : Option (List ℕ)) (others : Nodes) → IfSome uri (IsText 2048)
    → AreGood soap 2 (frame_scope soap) others → AreGood soap 2 (frame_scope soap) (uri_before t uri others)
uri_good soap t None others is good = good
uri_good soap t (Some uri) others is good = (leaf_good soap 2 t uri (omega arith) is, good)

reference_good : (soap : List ℕ) (t : Tag) (x : Option Epr) (others : Nodes) → IfSome x IsEprWritable
    → AreGood soap 2 (frame_scope soap) others → AreGood soap 2 (frame_scope soap) (epr_before t x others)
reference_good soap t None others is good = good
reference_good soap t (Some x) others is good =
    ((plain_tag soap t, omega arith, epr_good soap x 3 is (omega arith)), good)

pub addressing_good : (soap : List ℕ) (a : Addressing) → IsAddressingWritable a
    → AreGood soap 2 (frame_scope soap) (addressing_nodes a)
addressing_good soap a is =
    let params = params_nodes true a.params in
    let faults = epr_before tags.FaultTo a.fault_to params in
    let replies = epr_before tags.ReplyTo a.reply_to faults in
    let relates = uri_before tags.RelatesTo a.relates replies in (
      leaf_good soap 2 tags.To a.to (omega arith) is.to,
      (
        leaf_good soap 2 tags.Action a.action (omega arith) is.action,
        uri_good soap tags.MessageID a.message_id relates is.message_id
            (uri_good soap tags.RelatesTo a.relates replies is.relates
            (reference_good soap tags.ReplyTo a.reply_to faults is.reply_to
            (reference_good soap tags.FaultTo a.fault_to params is.fault_to
            (params_good soap true 2 98 a.params (omega arith) is.each)))),
      ),
    )
