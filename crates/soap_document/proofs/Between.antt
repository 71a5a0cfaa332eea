-- What stands between the places of an element is its content.
use Rattle.std.proofs.Common.{◌≡◌, ℕ, suc, ◌+◌, ◌-◌, ◌⊎◌, inl, inr, List, [], ◌∷◌, ◌++◌, length, take, drop, refl, sym}
use Rattle.std.proofs.Common.{ap, subst, ◌∙◌, arith, append_assoc, append-nil, length-append}
use Rattle.std.proofs.Math.Seq.{drop-append_seam, take-append_seam}
use Rattle.soap_lex.specs.Text.{run}
use Rattle.soap_lex.specs.Characters.{Holds}
use Rattle.soap_document.specs.Tree.{Attribute, Element, element, Parts, none, child, onto}
use Rattle.soap_document.specs.Grammar.{IsElement, full, empty, IsContent, last, more, start_tag, end_tag, empty_tag}
use Rattle.soap_document.specs.Grammar.{IsDocument, document}
use Rattle.soap_document.specs.Within.{IsWithin, root, deeper, IsAmong, here, behind_child, behind_text, between}
use Rattle.soap_document.specs.Within.{HasContent, StandsBetween}

-- ---- the parts of the bytes around content

pub between-append : (front content after : List ℕ) → between (length front) (length front + length content) (front ++
    (content ++ after)) ≡ content
between-append front content after =
    let size : length front + length content - length front ≡ length content = omega arith in
    ap (λ n. take n (drop (length front) (front ++ (content ++ after)))) size
    ∙ ap (take (length content)) (drop-append_seam front (content ++ after)) ∙ take-append_seam content after

-- bytes stand in others, at a place
record Stands (whole : List ℕ) (at : ℕ) (bytes : List ℕ) : Type 0 where
  front : List ℕ
  after : List ℕ
  there : whole ≡ front ++ (bytes ++ after)
  place : length front ≡ at

first : (a d : List ℕ) {whole : List ℕ} {at : ℕ} → Stands whole at (a ++ d) → Stands whole at a
first a d s = record {
  front = s.front;
  after = d ++ s.after;
  there = s.there ∙ ap (λ (x : List ℕ). s.front ++ x) (append_assoc a d s.after);
  place = s.place;
}

second : (a d : List ℕ) {whole : List ℕ} {at : ℕ} → Stands whole at (a ++ d) → Stands whole (at + length a) d
second a d s = record {
  front = s.front ++ a;
  after = s.after;
  there = s.there ∙ simp append_assoc;
  place = length-append s.front a ∙ ap (λ n. n + length a) s.place;
}

-- content between two places, within this many elements
record ContentAt (depth : ℕ) (bytes : List ℕ) (start end : ℕ) (parts : Parts) : Type 0 where
  has : HasContent bytes start end parts
  deep : has.depth ≡ depth

abbrev ContentOf : ℕ → List ℕ → Element → Type 0
ContentOf depth bytes (element name attributes start end parts) = ContentAt depth bytes start end parts

content_at : {depth start : ℕ} {whole content : List ℕ} {parts : Parts} → IsContent depth start content parts
    → Stands whole start content → (end : ℕ) → start + length content ≡ end → ContentAt depth whole start end parts
content_at {depth} {start} {whole} {content} {parts} is s end e =
    let here_is : between start end whole ≡ content =
    ap (λ n. between start n whole) (sym e) ∙ rw (s.there, ← s.place) (between-append s.front content s.after) in
    record {
      has = record {
        low = omega arith;
        high = rw s.there (omega (
          arith,
          s.place,
          length-append s.front (content ++ s.after),
          length-append content
              s.after,
        ));
        depth = depth;
        is = subst (λ (b : List ℕ). IsContent depth start b parts) (sym here_is) is;
      };
      deep = refl;
    }

-- no bytes are content without parts
lacks_all : (k : ℕ) (word : List ℕ) → ¬ (Holds [] (k ∷ word))
lacks_all k word h =
    omega (arith, ap (λ (x : List ℕ). length x) h.there, length-append h.before (k ∷ (word ++ h.after)))

no_content : (depth at : ℕ) → IsContent depth at [] none
no_content depth at = last depth at [] [] (run [] (record {
  chars = record { characters = []; each = tt; coded = refl };
  no_less = lacks_all 60 [];
  no_ampersand = lacks_all 38 [];
  no_close = lacks_all 93 (93 ∷ 62 ∷ []);
}))

-- ---- an element and those in it

among_child : (first : Element) (parts : Parts) (e : Element) → IsAmong (child first parts) e
    → IsWithin first e ⊎ IsAmong parts e
among_child first parts e (here _ _ _ h) = inl h
among_child first parts e (behind_child _ _ _ h) = inr h

among_onto : (meaning : List ℕ) (parts : Parts) (e : Element) → IsAmong (onto meaning parts) e → IsAmong parts e
among_onto [] parts e h = h
among_onto (b ∷ meaning) parts e (behind_text _ _ _ h) = h

-- the content of an element itself, one deeper than it
element_content : {depth at : ℕ} {bytes : List ℕ} {e : Element} → IsElement depth at bytes e → {whole : List ℕ}
    → Stands whole at bytes → ContentOf (suc depth) whole e
element_content (full depth at name tag attributes content parts space d q h c w) s =
    content_at c (first content (end_tag name space) (second (start_tag name tag) (content ++ end_tag name space) s)) _
    refl
element_content (empty depth at name tag attributes d q h) {whole} s =
    let tagged = empty_tag name tag in
    content_at (no_content (suc depth) (at + length tagged)) (second tagged [] (subst (λ (b : List ℕ). Stands whole at
    b) (sym (append-nil tagged)) s)) _ (omega arith)

mutual
  element_within : {depth at : ℕ} {bytes : List ℕ} {outer : Element} → IsElement depth at bytes outer
      → (e : Element) → IsWithin outer e → {whole : List ℕ} → Stands whole at bytes → StandsBetween whole e
  element_within (full depth at name tag attributes content parts space d q h c w) _ (root _) s =
      (element_content (full depth at name tag attributes content parts space d q h c w) s).has
  element_within (full depth at name tag attributes content parts space d q h c w) e (deeper _ _ _ _ _ _ among) s =
      content_within c e among (first content (end_tag name space) (second (start_tag name tag) (content
      ++ end_tag name space) s))
  element_within (empty depth at name tag attributes d q h) _ (root _) s =
      (element_content (empty depth at name tag attributes d q h) s).has
  element_within (empty depth at name tag attributes d q h) e (deeper _ _ _ _ _ _ among) s = elim among [ ]

  content_within : {depth at : ℕ} {bytes : List ℕ} {parts : Parts} → IsContent depth at bytes parts
      → (e : Element) → IsAmong parts e → {whole : List ℕ} → Stands whole at bytes → StandsBetween whole e
  content_within (last depth at bytes meaning t) e among s = elim (among_onto meaning none e among) [ ]
  content_within (more depth at bytes meaning inner first_one rest parts t i c) e among {whole} s =
      let behind = second bytes (inner ++ rest) s in
      elim (among_child first_one parts e (among_onto meaning (child first_one parts) e among)) as (λ _. StandsBetween
      whole e) [
        | inl within ↦ element_within i e within (first inner rest behind)
        | inr later ↦ content_within c e later (second inner rest behind)
      ]

-- ---- documents

root_stands : (mark declaration before bytes after : List ℕ) → Stands (mark ++ (declaration ++ (before ++ (bytes ++
    after)))) (length mark + length declaration + length before) bytes
root_stands mark declaration before bytes after = record {
  front = mark ++ (declaration ++ before);
  after = after;
  there = simp append_assoc;
  place = omega (arith, length-append mark (declaration ++ before), length-append declaration before);
}

pub content_stands_between : (bytes : List ℕ) (outer e : Element) → IsDocument bytes outer → IsWithin outer e
    → StandsBetween bytes e
content_stands_between bytes outer e (document mark declaration before inner _ after m d b i a) within =
    element_within i e within (root_stands mark declaration before inner after)

-- the content of the root
pub root_content : (bytes name : List ℕ) (attributes : List Attribute) (start end : ℕ) (parts : Parts)
    → IsDocument bytes (element name attributes start end parts) → IsContent 1 start (between start end bytes) parts
root_content bytes name attributes start end parts (document mark declaration before inner _ after m d b i a) =
    let h : ContentAt 1 bytes start end parts = element_content i (root_stands mark declaration before inner after) in
    subst (λ n. IsContent n start (between start end bytes) parts) h.deep h.has.is
