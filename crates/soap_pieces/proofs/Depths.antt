-- What counts of open elements stand for.
use Rattle.std.proofs.Common.{◌≡◌, ◌≢◌, ℕ, ◌+◌, ◌<◌, List, [], ◌∷◌, true, false, None, Some, length, refl, sym, ap, ◌∙◌}
use Rattle.std.proofs.Common.{arith}
use Rattle.soap_document.specs.Machine.{Frame, with_parts, join, nothing_open, only_child}
use Rattle.soap_document.specs.Tree.{Element, Parts, none, child}
use Rattle.soap_pieces.specs.Depth.{HasNoRoot, HasOneRoot, IsDepth}
use Rattle.soap_pieces.specs.declared.depth.Depth.{Depth}

pub nothing_counted : (d : Depth) → d.open ≡ 0 → d.ended ≡ false → IsDepth d nothing_open []
nothing_counted d o e = record { count = o; before = λ f. refl; after = λ f. let wrong = sym e ∙ f in absurd (cc) }

pub grown_depth : (d : Depth) (top : Frame) (below : List Frame) (more : Parts) → 0 < d.open → IsDepth d top below
    → IsDepth d (with_parts top more) below
grown_depth d top [] more some h = absurd (omega (arith, some, h.count))
grown_depth d top (frame ∷ frames) more some h = record { count = h.count; before = h.before; after = h.after }

pub entered_depth : (d next : Depth) (top inner : Frame) (below : List Frame) → next.open ≡ d.open + 1
    → next.ended ≡ d.ended → IsDepth d top below → IsDepth next inner (top ∷ below)
entered_depth d next top inner below e same h = record {
  count = omega (arith, e, h.count);
  before = λ f. h.before (sym same ∙ f);
  after = λ f. h.after (sym same ∙ f);
}

pub left_depth : (d next : Depth) (top outer : Frame) (below : List Frame) (more : Parts) → next.open + 1 ≡ d.open
    → 0 < next.open → next.ended ≡ d.ended → IsDepth d top (outer ∷ below) → IsDepth next (with_parts outer more) below
left_depth d next top outer [] more e some same h = absurd (omega (arith, e, some, h.count))
left_depth d next top outer (frame ∷ frames) more e some same h = record {
  count = omega (arith, e, h.count);
  before = λ f. h.before (sym same ∙ f);
  after = λ f. h.after (sym same ∙ f);
}

one_child : (parts : Parts) (first : Element) → parts ≡ none → only_child (join parts (child first none)) ≢ None
one_child parts first e = λ f.
    let here : only_child (join parts (child first none)) ≡ Some first =
    ap (λ p. only_child (join p (child first none))) e in
    let wrong = sym f ∙ here in cc

root_ended : (next : Depth) (frame : Frame) (below : List Frame) (first : Element) → next.open ≡ length below
    → next.open ≡ 0 → next.ended ≡ true → HasNoRoot frame below
    → IsDepth next (with_parts frame (child first none)) below
root_ended next frame [] first count zero done h = record {
  count = count;
  before = λ f. let wrong = sym done ∙ f in absurd (cc);
  after = λ f. one_child frame.parts first h;
}
root_ended next frame (outer ∷ frames) first count zero done h = absurd (omega (arith, count, zero))

-- the root is an empty element
pub empty_root : (d next : Depth) (top : Frame) (below : List Frame) (first : Element) → d.open ≡ 0
    → next.open ≡ d.open → d.ended ≡ false → next.ended ≡ true → IsDepth d top below
    → IsDepth next (with_parts top (child first none)) below
empty_root d next top below first zero same was done h =
    root_ended next top below first (same ∙ h.count) (same ∙ zero) done (h.before was)

-- the root is over
pub closed_root : (d next : Depth) (top outer : Frame) (below : List Frame) (first : Element) → next.open + 1 ≡ d.open
    → next.open ≡ 0 → d.ended ≡ false → next.ended ≡ true → IsDepth d top (outer ∷ below)
    → IsDepth next (with_parts outer (child first none)) below
closed_root d next top outer below first e zero was done h =
    root_ended next outer below first (omega (arith, e, h.count)) zero done (h.before was)
