-- What the machine does behind the end of a root.
use Rattle.std.proofs.Common.{◌≡◌, ◌≢◌, ◌↔◌, ℕ, ◌+◌, ◌-◌, List, [], ◌∷◌, ◌++◌, Bool, true, false, not, ◌&&◌, ◌||◌}
use Rattle.std.proofs.Common.{Option, Some, None, refl, sym, ap, subst, ◌∙◌, lit<}
use Rattle.std.proofs.Math.Utf8.{encode}
use Rattle.std.proofs.lemmas.Bool.{and_parts}
use Rattle.std.proofs.lemmas.List.Folds.{list_all-append}
use Rattle.std.specs.List.{list_all}
use Rattle.std.specs.Prelude.{if◌then◌else◌, codes, ◌==◌}
use Rattle.std.specs.Str.{bytes_eq}
use Rattle.xml_chars.specs.Classes.{is_space}
use Rattle.soap_lex.specs.Bytes.{less_than, greater_than, double_quote, single_quote, slash, equals_sign}
use Rattle.soap_lex.specs.Bytes.{exclamation_mark, question_mark}
use Rattle.soap_lex.specs.TextMachine.{begun as begun_text, halts as text_halts, is_less, step as text_step}
use Rattle.soap_lex.specs.TextMachine.{is_refused as text_refused}
use Rattle.soap_lex.specs.ValueMachine.{begun as begun_value, halts as value_halts, is_closed, step as value_step}
use Rattle.soap_lex.specs.ValueMachine.{is_refused as value_refused}
use Rattle.soap_lex.specs.Tests.{is_nil, is_comment, without as before}
use Rattle.soap_document.specs.Machine.{Mode, beginning, declaring, outside, marking, commenting, chars, less}
use Rattle.soap_document.specs.Machine.{tagging, naming, named, valuing, value_inner, slashed, ending, refused}
use Rattle.soap_document.specs.Machine.{Frame, State, start, run, step, root_of, only_child, is_outside_mode}
use Rattle.soap_document.specs.Machine.{is_refused}
use Rattle.soap_document.specs.Machine.{after_token, stops, counted, refuse, calm, settle, opened, emptied, closed}
use Rattle.soap_document.specs.Machine.{at_beginning, at_declaring, at_outside, at_marking, at_commenting, at_chars}
use Rattle.soap_document.specs.Machine.{at_less, in_less, at_tagging, at_naming, at_named, at_valuing, at_value}
use Rattle.soap_document.specs.Machine.{after_text, after_value, is_mark, is_none, has_room, is_end, is_name_end}
use Rattle.soap_document.specs.Machine.{no_value, with_parts}
use Rattle.soap_document.specs.Declaration.{is_declaration}
use Rattle.soap_document.specs.Seen.{is_ended}
use Rattle.soap_document.specs.Grammar.{IsDocument, document, IsQName, unprefixed, end as no_attributes, empty, white}
use Rattle.soap_document.specs.Grammar.{unmarked, without}
use Rattle.soap_document.specs.Tokens.{is_white, is_qname}
use Rattle.soap_document.specs.Tree.{Element, element, Parts, none, text, child}
use Rattle.soap_pieces.specs.Behind.{IsAlike, IsBehind, is_behind, least}

-- the machine on joined pieces
abbrev pub Joins : Type 0
Joins = (s : State) (bytes more : List ℕ) → run s (bytes ++ more) ≡ run (run s bytes) more

-- the root that the machine reads
abbrev pub IsRead : Type 0
IsRead = (bytes : List ℕ) (root : Element) → IsDocument bytes root ↔ (root_of (run start bytes) ≡ Some root)

-- ---- outside of markup something was read

record IsStale (s : State) : Type 0 where
  is : is_outside_mode s.mode ≡ true → s.fresh ≡ false

stale_if : (t : Bool) (x y : State) → IsStale x → IsStale y → IsStale (if t then x else y)
stale_if true x y h k = h
stale_if false x y h k = k

stale_not : (s : State) → is_outside_mode s.mode ≡ false → IsStale s
stale_not s e = record { is = λ f. let wrong = sym e ∙ f in absurd (cc) }

stale_refuse : (s : State) → IsStale (refuse s)
stale_refuse s = record { is = λ e. cc }

stale_calm : (s : State) → IsStale (calm s)
stale_calm s = record { is = λ e. refl }

stale_tagging : (s : State) (c : ℕ) → IsStale (at_tagging s c)
stale_tagging s c =
    let next : State = record s { mode = naming; token = [] } in
    let last : State = record s { mode = slashed; token = [] } in
    let on : State = opened s in
    stale_if (is_space c) next (if c == greater_than then on else if c == slash then last else refuse s)
    (stale_not next refl)
    (stale_if (c == greater_than) on (if c == slash then last else refuse s)
    (record { is = λ e. refl }) (stale_if (c == slash) last (refuse s) (stale_not last refl) (stale_refuse s)))

stale_markup : (s : State) (c : ℕ)
    → IsStale (if (c == slash) && not (is_nil s.below) then record (settle s) { mode = ending }
    else if c == exclamation_mark then record s { mode = marking }
    else if (c == question_mark) && s.fresh then record s { mode = declaring }
    else refuse s)
stale_markup s c =
    stale_if ((c == slash) && not (is_nil s.below)) (record (settle s) { mode = ending })
    (if c == exclamation_mark then record s { mode = marking }
    else if (c == question_mark) && s.fresh then record s { mode = declaring }
    else refuse s) (stale_not (record (settle s) { mode = ending }) refl)
    (stale_if (c == exclamation_mark) (record s { mode = marking })
    (if (c == question_mark) && s.fresh then record s { mode = declaring } else refuse s)
    (stale_not (record s { mode = marking }) refl)
    (stale_if ((c == question_mark) && s.fresh) (record s { mode = declaring }) (refuse s)
    (stale_not (record s { mode = declaring }) refl) (stale_refuse s)))

-- where it stands behind a <
abbrev tagged : State → State
tagged s = record (settle s) { name = s.token }

stale_less : (s : State) (c : ℕ) → IsStale (at_less s c)
stale_less s c =
    stale_if (is_nil s.token)
    (if (c == slash) && not (is_nil s.below) then record (settle s) { mode = ending }
    else if c == exclamation_mark then record s { mode = marking }
    else if (c == question_mark) && s.fresh then record s { mode = declaring }
    else refuse s)
    (if is_qname s.token && has_room s.below s.top.parts then at_tagging (tagged s) c else refuse s)
    (stale_markup s c) (stale_if (is_qname s.token && has_room s.below s.top.parts) (at_tagging (tagged s) c) (refuse s)
    (stale_tagging (tagged s) c) (stale_refuse s))

stale_in_less : (s : State) (c : ℕ) → IsStale s → IsStale (in_less s c)
stale_in_less s c h =
    stale_if (is_name_end c) (at_less s c) (record s { token = s.token ++ c ∷ [] }) (stale_less s c)
    (record { is = h.is })

stale_named : (s : State) (c : ℕ) → IsStale (at_named s c)
stale_named s c =
    stale_if (is_space c) (record s { mode = named })
    (if c == equals_sign then record s { mode = valuing } else refuse s)
    (stale_not (record s { mode = named }) refl)
    (stale_if (c == equals_sign) (record s { mode = valuing }) (refuse s) (stale_not (record s { mode = valuing }) refl)
    (stale_refuse s))

stale_commenting : (s : State) (o : Option (List ℕ)) → IsStale s → IsStale (at_commenting s o)
stale_commenting s None h = record { is = h.is }
stale_commenting s (Some comment) h =
    stale_if (is_comment comment) (calm s) (refuse s) (stale_calm s) (stale_refuse s)

stale_closed : (frames : List Frame) (s : State) → IsStale (closed frames s)
stale_closed [] s = stale_refuse s
stale_closed (frame ∷ frames) s =
    let inner : State = record s {
      top = with_parts frame (child (element s.top.name s.top.attributes s.top.start s.markup s.top.parts) none);
      below = frames;
    } in
    stale_if (is_end s.top.name s.token) (calm inner) (refuse s) (stale_calm inner) (stale_refuse s)

stale_text : (s : State) → IsStale s → IsStale (after_text s)
stale_text s h = stale_if (text_refused s.words.mode) (refuse s) s (stale_refuse s) h

stale_value : (s : State) → IsStale s → IsStale (after_value s)
stale_value s h =
    let ended : State = record s {
      mode = tagging;
      token = [];
      attribute = [];
      value = no_value;
      attributes = s.attributes ++ record { name = s.attribute; value = s.value.value } ∷ [];
    } in
    stale_if (is_closed s.value.mode) ended (if value_refused s.value.mode then refuse s else s) (stale_not ended refl)
    (stale_if (value_refused s.value.mode) (refuse s) s (stale_refuse s) h)

stale_beginning : (s : State) (c : ℕ) → IsStale (at_beginning s c)
stale_beginning s c =
    let next : State = record s { mode = less; markup = s.at; token = [] } in
    stale_if (is_mark s.token) (if c == less_than then next else calm s) (refuse s)
    (stale_if (c == less_than) next (calm s) (stale_not next refl) (stale_calm s)) (stale_refuse s)

stale_outside : (s : State) (c : ℕ) → IsStale (at_outside s c)
stale_outside s c =
    let next : State = record s { mode = less; markup = s.at; token = [] } in
    stale_if (is_white s.token && (c == less_than)) next (refuse s) (stale_not next refl) (stale_refuse s)

stale_marking : (s : State) (token : List ℕ) → IsStale s → IsStale (at_marking s token)
stale_marking s token h =
    let next : State = record s { mode = commenting; token = [] } in
    stale_if (bytes_eq token (codes "-")) (record s { token = token })
    (if bytes_eq token (codes "--") then next else refuse s) (record { is = h.is })
    (stale_if (bytes_eq token (codes "--")) next (refuse s) (stale_not next refl) (stale_refuse s))

stale_chars : (s : State) (c : ℕ) → IsStale s → IsStale (at_chars s c)
stale_chars s c h =
    let next : State = record s { mode = less; markup = s.at - 1; token = []; words = begun_text s.words.text } in
    let on : State = record s { words = text_step s.words c } in
    stale_if (text_halts s.words c) (if is_less s.words then in_less next c else refuse s) (after_text on)
    (stale_if (is_less s.words) (in_less next c) (refuse s) (stale_in_less next c (stale_not next refl))
    (stale_refuse s)) (stale_text on (record { is = h.is }))

stale_naming : (s : State) (c : ℕ) → IsStale (at_naming s c)
stale_naming s c =
    let next : State = record s { attribute = s.token; token = [] } in
    stale_if (is_nil s.token) (at_tagging s c) (if is_qname s.token then at_named next c else refuse s)
    (stale_tagging s c) (stale_if (is_qname s.token) (at_named next c) (refuse s) (stale_named next c) (stale_refuse s))

stale_valuing : (s : State) (c : ℕ) → IsStale s → IsStale (at_valuing s c)
stale_valuing s c h =
    let next : State = record s { mode = value_inner; value = begun_value c [] } in
    stale_if (is_space c) s (if (c == double_quote) || (c == single_quote) then next else refuse s) h
    (stale_if ((c == double_quote) || (c == single_quote)) next (refuse s) (stale_not next refl) (stale_refuse s))

stale_inner : (s : State) (c : ℕ) → IsStale s → IsStale (at_value s c)
stale_inner s c h =
    let on : State = record s { value = value_step s.value c } in
    stale_if (value_halts s.value.mode) (refuse s) (after_value on) (stale_refuse s)
    (stale_value on (record { is = h.is }))

stale_after : (m : Mode) (s : State) (c : ℕ) → IsStale s → IsStale (after_token m s c)
stale_after beginning s c h = stale_beginning s c
stale_after declaring s c h =
    stale_if (is_declaration s.token) (calm s) (refuse s) (stale_calm s) (stale_refuse s)
stale_after outside s c h = stale_outside s c
stale_after marking s c h = stale_marking s (s.token ++ c ∷ []) h
stale_after commenting s c h = stale_commenting s (before (codes "--") s.token) h
stale_after chars s c h = stale_chars s c h
stale_after less s c h = stale_less s c
stale_after tagging s c h = stale_tagging s c
stale_after naming s c h = stale_naming s c
stale_after named s c h = stale_named s c
stale_after valuing s c h = stale_valuing s c h
stale_after value_inner s c h = stale_inner s c h
stale_after slashed s c h =
    stale_if (c == greater_than) (emptied s) (refuse s) (record { is = λ e. refl }) (stale_refuse s)
stale_after ending s c h = stale_closed s.below s
stale_after refused s c h = h

stale_counted : (s : State) → IsStale s → IsStale (counted s)
stale_counted s h = record { is = h.is }

stale_run : (s : State) (bytes : List ℕ) → IsStale s → IsStale (run s bytes)
stale_run s [] h = h
stale_run s (c ∷ bytes) h =
    stale_run (step s c) bytes (stale_counted _ (stale_if (stops s.mode c) _ _ (stale_after s.mode s c h)
    (record { is = h.is })))

pub not_fresh : (bytes : List ℕ) → is_outside_mode (run start bytes).mode ≡ true → (run start bytes).fresh ≡ false
not_fresh bytes = (stale_run start bytes (record { is = λ e. cc })).is

-- ---- a root that has ended is the root

and_false : (a b : Bool) → b ≡ false → (a && b) ≡ false
and_false true b e = e
and_false false b e = refl

behind_if : (root : Element) (t : Bool) (x y : State) → IsBehind root x → IsBehind root y
    → IsBehind root (if t then x else y)
behind_if root true x y h k = h
behind_if root false x y h k = k

behind_else : (root : Element) (t : Bool) (x y : State) → t ≡ false → IsBehind root y
    → IsBehind root (if t then x else y)
behind_else root t x y e h = rw e h

not_none : (parts : Parts) (root : Element) → only_child parts ≡ Some root → is_none parts ≡ false
not_none none root e = cc
not_none (text bytes parts) root e = refl
not_none (child first parts) root e = refl

behind_refuse : (root : Element) (s : State) → IsBehind root s → IsBehind root (refuse s)
behind_refuse root s h = record { mode = refl; fresh = h.fresh; below = h.below; ended = h.ended }

behind_calm : (root : Element) (s : State) → IsBehind root s → IsBehind root (calm s)
behind_calm root s h = record { mode = rw h.below; fresh = refl; below = h.below; ended = h.ended }

no_child_below : (s : State) → s.below ≡ [] → not (is_nil s.below) ≡ false
no_child_below s e = rw e

no_room : (root : Element) (s : State) → IsBehind root s → has_room s.below s.top.parts ≡ false
no_room root s h = rw h.below (not_none s.top.parts root h.ended)

behind_markup : (root : Element) (s : State) (c : ℕ) → IsBehind root s
    → IsBehind root (if (c == slash) && not (is_nil s.below) then record (settle s) { mode = ending }
    else if c == exclamation_mark then record s { mode = marking }
    else if (c == question_mark) && s.fresh then record s { mode = declaring }
    else refuse s)
behind_markup root s c h =
    behind_else root ((c == slash) && not (is_nil s.below)) (record (settle s) { mode = ending })
    (if c == exclamation_mark then record s { mode = marking }
    else if (c == question_mark) && s.fresh then record s { mode = declaring }
    else refuse s) (and_false (c == slash) _ (no_child_below s h.below))
    (behind_if root (c == exclamation_mark) (record s { mode = marking })
    (if (c == question_mark) && s.fresh then record s { mode = declaring } else refuse s)
    (record { mode = refl; fresh = h.fresh; below = h.below; ended = h.ended })
    (behind_else root ((c == question_mark) && s.fresh) (record s { mode = declaring }) (refuse s)
    (and_false (c == question_mark) s.fresh h.fresh) (behind_refuse root s h)))

behind_less : (root : Element) (s : State) (c : ℕ) → IsBehind root s → IsBehind root (at_less s c)
behind_less root s c h =
    behind_if root (is_nil s.token) _ _ (behind_markup root s c h)
    (behind_else root (is_qname s.token && has_room s.below s.top.parts) (at_tagging (record (settle s) {
      name = s.token;
    }) c) (refuse s) (and_false (is_qname s.token) _ (no_room root s h)) (behind_refuse root s h))

behind_commenting : (root : Element) (s : State) (o : Option (List ℕ)) → IsBehind root s
    → IsBehind root (at_commenting s o)
behind_commenting root s None h = record { mode = h.mode; fresh = h.fresh; below = h.below; ended = h.ended }
behind_commenting root s (Some comment) h =
    behind_if root (is_comment comment) (calm s) (refuse s) (behind_calm root s h) (behind_refuse root s h)

behind_marking : (root : Element) (s : State) (token : List ℕ) → IsBehind root s → IsBehind root (at_marking s token)
behind_marking root s token h =
    behind_if root (bytes_eq token (codes "-")) (record s { token = token })
    (if bytes_eq token (codes "--") then record s { mode = commenting; token = [] } else refuse s)
    (record { mode = h.mode; fresh = h.fresh; below = h.below; ended = h.ended })
    (behind_if root (bytes_eq token (codes "--")) (record s { mode = commenting; token = [] }) (refuse s)
    (record { mode = refl; fresh = h.fresh; below = h.below; ended = h.ended }) (behind_refuse root s h))

behind_after : (root : Element) (m : Mode) (s : State) (c : ℕ) → is_behind m ≡ true → IsBehind root s
    → IsBehind root (after_token m s c)
behind_after root outside s c m h =
    behind_if root (is_white s.token && (c == less_than)) (record s { mode = less; markup = s.at; token = [] })
    (refuse s)
    (record { mode = refl; fresh = h.fresh; below = h.below; ended = h.ended }) (behind_refuse root s h)
behind_after root less s c m h = behind_less root s c h
behind_after root marking s c m h = behind_marking root s (s.token ++ c ∷ []) h
behind_after root commenting s c m h = behind_commenting root s _ h
behind_after root refused s c m h = h
behind_after root beginning s c m h = absurd (cc)
behind_after root declaring s c m h = absurd (cc)
behind_after root chars s c m h = absurd (cc)
behind_after root tagging s c m h = absurd (cc)
behind_after root naming s c m h = absurd (cc)
behind_after root named s c m h = absurd (cc)
behind_after root valuing s c m h = absurd (cc)
behind_after root value_inner s c m h = absurd (cc)
behind_after root slashed s c m h = absurd (cc)
behind_after root ending s c m h = absurd (cc)

behind_step : (root : Element) (s : State) (c : ℕ) → IsBehind root s → IsBehind root (step s c)
behind_step root s c h =
    let k : IsBehind root (if stops s.mode c then after_token s.mode s c else record s { token = s.token ++ c ∷ [] }) =
    behind_if root (stops s.mode c) _ _ (behind_after root s.mode s c h.mode h)
    (record { mode = h.mode; fresh = h.fresh; below = h.below; ended = h.ended }) in
    record { mode = k.mode; fresh = k.fresh; below = k.below; ended = k.ended }

pub behind_run : (root : Element) (s : State) (bytes : List ℕ) → IsBehind root s → IsBehind root (run s bytes)
behind_run root s [] h = h
behind_run root s (c ∷ bytes) h = behind_run root (step s c) bytes (behind_step root s c h)

-- ---- the same follows the ends of two roots

record IsSame (s other : State) : Type 0 where
  mode : s.mode ≡ other.mode
  white : is_white s.token ≡ is_white other.token
  token : is_outside_mode s.mode ≡ false → s.token ≡ other.token

same_if : (t u : Bool) (x y other another : State) → t ≡ u → IsSame x other → IsSame y another
    → IsSame (if t then x else y) (if u then other else another)
same_if true true x y other another e h k = h
same_if false false x y other another e h k = k
same_if true false x y other another e h k = absurd (cc)
same_if false true x y other another e h k = absurd (cc)

same_else : (t u : Bool) (x y other another : State) → t ≡ false → u ≡ false → IsSame y another
    → IsSame (if t then x else y) (if u then other else another)
same_else t u x y other another e f k = rw (e, f) k

same_refuse : (s other : State) → IsSame (refuse s) (refuse other)
same_refuse s other = record { mode = refl; white = refl; token = λ e. refl }

-- tokens that are the same, in the same mode
same_by : (s other : State) → s.mode ≡ other.mode → s.token ≡ other.token → IsSame s other
same_by s other m t = record { mode = m; white = ap is_white t; token = λ e. t }

same_calm : (s other : State) → s.below ≡ [] → other.below ≡ [] → IsSame (calm s) (calm other)
same_calm s other e f = record { mode = rw (e, f); white = refl; token = λ e. refl }

same_less : (root other_root : Element) (s other : State) (c : ℕ) → IsBehind root s → IsBehind other_root other
    → s.token ≡ other.token → IsSame (at_less s c) (at_less other c)
same_less root other_root s other c h k t =
    same_if (is_nil s.token) (is_nil other.token) _ _ _ _ (ap is_nil t)
    (same_else _ _ _ _ _ _ (and_false (c == slash) _ (no_child_below s h.below)) (and_false (c == slash) _
    (no_child_below other k.below)) (same_if (c == exclamation_mark) (c == exclamation_mark) _ _ _ _ refl
    (same_by _ _ refl t) (same_else _ _ _ _ _ _ (and_false (c == question_mark) s.fresh h.fresh)
    (and_false (c == question_mark) other.fresh k.fresh) (same_refuse s other))))
    (same_else _ _ _ _ _ _ (and_false (is_qname s.token) _ (no_room root s h)) (and_false (is_qname other.token) _
    (no_room other_root other k)) (same_refuse s other))

same_commenting : (s other : State) (o : Option (List ℕ)) → s.mode ≡ other.mode → s.token ≡ other.token
    → s.below ≡ [] → other.below ≡ [] → IsSame (at_commenting s o) (at_commenting other o)
same_commenting s other None m t e f = same_by _ _ m (ap (λ (x : List ℕ). x ++ greater_than ∷ []) t)
same_commenting s other (Some comment) m t e f =
    same_if (is_comment comment) (is_comment comment) _ _ _ _ refl (same_calm s other e f) (same_refuse s other)

same_after : (m : Mode) (s other : State) (c : ℕ) → s.mode ≡ m → is_behind m ≡ true → (h : IsAlike s other)
    → IsSame (after_token m s c) (after_token m other c)
same_after outside s other c m b h =
    same_if _ _ _ _ _ _ (ap (λ w. w && (c == less_than)) h.white) (same_by _ _ refl refl) (same_refuse s other)
same_after less s other c m b h =
    let t : s.token ≡ other.token = h.token (ap is_outside_mode m) in
    same_less h.root h.other_root s other c h.behind h.other_behind t
same_after marking s other c m b h =
    let t : s.token ++ c ∷ [] ≡ other.token ++ c ∷ [] =
    ap (λ (x : List ℕ). x ++ c ∷ []) (h.token (ap is_outside_mode m)) in
    same_if _ _ _ _ _ _ (ap (λ x. bytes_eq x (codes "-")) t) (same_by _ _ h.mode t)
    (same_if _ _ _ _ _ _ (ap (λ x. bytes_eq x (codes "--")) t) (same_by _ _ refl refl) (same_refuse s other))
same_after commenting s other c m b h =
    let t : s.token ≡ other.token = h.token (ap is_outside_mode m) in
    subst (λ x. IsSame (at_commenting s (before (codes "--") s.token)) (at_commenting other x))
    (ap (before (codes "--")) t)
    (same_commenting s other _ h.mode t h.behind.below h.other_behind.below)
same_after refused s other c m b h = record { mode = h.mode; white = h.white; token = h.token }
same_after beginning s other c m b h = absurd (cc)
same_after declaring s other c m b h = absurd (cc)
same_after chars s other c m b h = absurd (cc)
same_after tagging s other c m b h = absurd (cc)
same_after naming s other c m b h = absurd (cc)
same_after named s other c m b h = absurd (cc)
same_after valuing s other c m b h = absurd (cc)
same_after value_inner s other c m b h = absurd (cc)
same_after slashed s other c m b h = absurd (cc)
same_after ending s other c m b h = absurd (cc)

white_more : (a b : List ℕ) (c : ℕ) → is_white a ≡ is_white b → is_white (a ++ c ∷ []) ≡ is_white (b ++ c ∷ [])
white_more a b c e =
    list_all-append is_space a (c ∷ []) ∙ ap (λ w. w && list_all is_space (c ∷ [])) e
    ∙ sym (list_all-append is_space b (c ∷ []))

same_step : (s other : State) (c : ℕ) → IsAlike s other → IsSame (step s c) (step other c)
same_step s other c h =
    let after : IsSame (after_token s.mode s c) (after_token other.mode other c) =
    subst (λ m. IsSame (after_token s.mode s c) (after_token m other c)) h.mode
    (same_after s.mode s other c refl h.behind.mode h) in
    let k : IsSame (if stops s.mode c then after_token s.mode s c else record s { token = s.token ++ c ∷ [] })
    (if stops other.mode c then after_token other.mode other c else record other { token = other.token ++ c ∷ [] }) =
    same_if (stops s.mode c) (stops other.mode c) _ _ _ _ (ap (λ m. stops m c) h.mode) after (record {
      mode = h.mode;
      white = white_more s.token other.token c h.white;
      token = λ e. ap (λ (x : List ℕ). x ++ c ∷ []) (h.token e);
    }) in
    record { mode = k.mode; white = k.white; token = k.token }

alike_step : (s other : State) (c : ℕ) → IsAlike s other → IsAlike (step s c) (step other c)
alike_step s other c h =
    let k = same_step s other c h in record {
      root = h.root;
      other_root = h.other_root;
      behind = behind_step h.root s c h.behind;
      other_behind = behind_step h.other_root other c h.other_behind;
      mode = k.mode;
      white = k.white;
      token = k.token;
    }

pub alike_run : (s other : State) (bytes : List ℕ) → IsAlike s other → IsAlike (run s bytes) (run other bytes)
alike_run s other [] h = h
alike_run s other (c ∷ bytes) h = alike_run (step s c) (step other c) bytes (alike_step s other c h)

-- ---- from a document on

root_if : (t : Bool) (parts : Parts) (root : Element) → (if t then only_child parts else None) ≡ Some root
    → (t ≡ true) × (only_child parts ≡ Some root)
root_if true parts root e = (refl, e)
root_if false parts root e = absurd (cc)

nil_is : (frames : List Frame) → is_nil frames ≡ true → frames ≡ []
nil_is [] e = refl
nil_is (frame ∷ frames) e = cc

outside_is : (m : Mode) → is_outside_mode m ≡ true → m ≡ outside
outside_is outside e = refl
outside_is beginning e = cc
outside_is declaring e = cc
outside_is marking e = cc
outside_is commenting e = cc
outside_is chars e = cc
outside_is less e = cc
outside_is tagging e = cc
outside_is naming e = cc
outside_is named e = cc
outside_is valuing e = cc
outside_is value_inner e = cc
outside_is slashed e = cc
outside_is ending e = cc
outside_is refused e = cc

-- what a state with a root is
record IsRooted (root : Element) (s : State) : Type 0 where
  outside : is_outside_mode s.mode ≡ true
  below : is_nil s.below ≡ true
  white : is_white s.token ≡ true
  ended : only_child s.top.parts ≡ Some root

rooted_is : (s : State) (root : Element) → root_of s ≡ Some root → IsRooted root s
rooted_is s root e =
    let k = root_if (is_outside_mode s.mode && (is_nil s.below && is_white s.token)) s.top.parts root e in
    let both = and_parts (is_outside_mode s.mode) _ k.0 in
    let inner = and_parts (is_nil s.below) (is_white s.token) both.1 in
    record { outside = both.0; below = inner.0; white = inner.1; ended = k.1 }

pub root_goes : (s : State) (root : Element) → root_of s ≡ Some root → is_refused s.mode ≡ false
root_goes s root e = ap is_refused (outside_is s.mode (rooted_is s root e).outside)

-- where the bytes are a document, its root has ended
pub root_ends : (bytes : List ℕ) (root : Element) → root_of (run start bytes) ≡ Some root
    → IsBehind root (run start bytes)
root_ends bytes root e =
    let s = run start bytes in
    let k = rooted_is s root e in record {
      mode = ap is_behind (outside_is s.mode k.outside);
      fresh = not_fresh bytes k.outside;
      below = nil_is s.below k.below;
      ended = k.ended;
    }

pub ended_is : (root other : Element) (s : State) → IsBehind root s → root_of s ≡ Some other → root ≡ other
ended_is root other s h e = let k = rooted_is s other e in let same = sym h.ended ∙ k.ended in cc

-- ---- which of two states is a document

-- what is read may be a document
abbrev is_whole : State → Bool
is_whole s = is_outside_mode s.mode && (is_nil s.below && is_white s.token)

same_whole : (s other : State) → IsAlike s other → is_whole s ≡ is_whole other
same_whole s other h =
    let m : is_outside_mode s.mode ≡ is_outside_mode other.mode = ap is_outside_mode h.mode in
    let b : is_nil s.below ≡ is_nil other.below = ap is_nil (h.behind.below ∙ sym h.other_behind.below) in
    rw (m, b, h.white)

whole_root : (root : Element) (s : State) → IsBehind root s → is_whole s ≡ true → root_of s ≡ Some root
whole_root root s h e = rw e h.ended

no_root : (s : State) → is_whole s ≡ false → root_of s ≡ None
no_root s e = rw e

rooted_by : (s other : State) (h : IsAlike s other) (t : Bool) → is_whole s ≡ t → root_of s ≢ None
    → root_of other ≡ Some h.other_root
rooted_by s other h true e some = whole_root h.other_root other h.other_behind (sym (same_whole s other h) ∙ e)
rooted_by s other h false e some = absurd (some (no_root s e))

missing_by : (s other : State) → IsAlike s other → (t : Bool) → is_whole s ≡ t → root_of s ≡ None
    → root_of other ≡ None
missing_by s other h true e missing =
    let found = whole_root h.root s h.behind e in let wrong = sym missing ∙ found in absurd (cc)
missing_by s other h false e missing = no_root other (sym (same_whole s other h) ∙ e)

-- of two states behind roots both are documents, or none is
pub alike_rooted : (s other : State) → (h : IsAlike s other) → root_of s ≢ None → root_of other ≡ Some h.other_root
alike_rooted s other h some = rooted_by s other h (is_whole s) refl some

pub alike_missing : (s other : State) → IsAlike s other → root_of s ≡ None → root_of other ≡ None
alike_missing s other h missing = missing_by s other h (is_whole s) refl missing

-- ---- behind a document the same may follow as behind the least

least_root : Element
least_root = element (codes "a") [] 4 4 none

a_name : IsQName (codes "a")
unfolding encode
a_name = unprefixed (codes "a") (record { first = 97; others = []; starts = refl; each = tt; coded = refl })

least_document : IsDocument least least_root
unfolding least_root
least_document =
    document [] [] [] least least_root [] unmarked without (white [] tt)
    (empty 0 0 (codes "a") [] [] (lit< tt) a_name (no_attributes [] tt)) (white [] tt)

pub begins_alike : IsRead → (bytes : List ℕ) (root : Element) → root_of (run start bytes) ≡ Some root
    → IsAlike (run start least) (run start bytes)
begins_alike read bytes root e =
    let first : root_of (run start least) ≡ Some least_root = (read least least_root).0 least_document in
    let l = rooted_is (run start least) least_root first in
    let k = rooted_is (run start bytes) root e in
    let here : (run start least).mode ≡ outside = outside_is (run start least).mode l.outside in
    let there : (run start bytes).mode ≡ outside = outside_is (run start bytes).mode k.outside in record {
      root = least_root;
      other_root = root;
      behind = root_ends least least_root first;
      other_behind = root_ends bytes root e;
      mode = here ∙ sym there;
      white = l.white ∙ sym k.white;
      token = λ f. let wrong = sym l.outside ∙ f in absurd (cc);
    }

-- ---- within a root

behind_ended : (root : Element) (s : State) → IsBehind root s → is_ended s.top s.below ≡ true
behind_ended root s h = rw h.below (ap not (not_none s.top.parts root h.ended))

-- what no root has ended in begins with no document
pub no_front : Joins → (front more : List ℕ) (root : Element) → root_of (run start front) ≡ Some root
    → is_ended (run start (front ++ more)).top (run start (front ++ more)).below ≡ false → ⊥
no_front joins front more root e h =
    let behind : IsBehind root (run start (front ++ more)) =
    subst (IsBehind root) (sym (joins start front more))
    (behind_run root (run start front) more (root_ends front root e)) in
    let wrong = sym (behind_ended root (run start (front ++ more)) behind) ∙ h in cc

-- and is none
pub no_whole : (bytes : List ℕ) (root : Element) → root_of (run start bytes) ≡ Some root
    → is_ended (run start bytes).top (run start bytes).below ≡ false → ⊥
no_whole bytes root e h =
    let wrong = sym (behind_ended root (run start bytes) (root_ends bytes root e)) ∙ h in cc
