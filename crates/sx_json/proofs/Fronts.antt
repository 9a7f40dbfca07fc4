-- A string at the front of a text, and of the bytes in UTF-8 that the text begins with.
use Rattle.std.proofs.Common.{◌≡◌, ℕ, ◌+◌, ◌-◌, ◌≤◌, ◌<◌, ◌⊎◌, inl, inr, List, [], ◌∷◌, ◌++◌, refl, ap, sym, ◌∙◌, subst, arith, append_assoc, length, take, drop, get_or, IsUtf8, encode_utf8}
use Rattle.std.proofs.lemmas.Bool.{cases_lt}
use Rattle.std.proofs.lemmas.List.{append-nil, length-append, take-append-drop}
use Rattle.std.proofs.lemmas.Str.{length-encode, len_utf8_bounds, IsUtf8-append, IsUtf8-take, IsUtf8-drop, IsUtf8-encode, IsUtf8-nil, IsCharBoundary-start, IsCharBoundary-from_take}
use Rattle.std.proofs.Math.Seq.{take-append_seam, take-append-add, drop-append_seam, get_or-append_seam}
use Rattle.std.specs.Char.{IsScalar}
use Rattle.std.specs.Str.{IsValidUpTo, IsCharBoundary}
use Rattle.sx_model.specs.Strings.{UnitAt, StringAt, TextAt, closing}
use Rattle.sx_model.specs.StringFaults.{UnicodeAt, EscapeAt, PieceAt, FrontFault}
use Rattle.sx_model.specs.Front.{IsStringFront}
use Rattle.sx_tree.specs.declared.json_fault.JsonFault.{JsonFault}
use Rattle.sx_tree.proofs.NumberTexts.{ascii_then}
use Rattle.sx_model.proofs.StringShapes.{heads, short_small, piece_then}
use Rattle.sx_json.proofs.StringTexts.{hex_small, escape_scalar}
use Rattle.sx_json.proofs.OneStringFault.{quote_not_fault}
use Rattle.sx_model.proofs.OneString.{Chain, ends, goes, chain_of, string_same}

-- A text with a character in it is a text before and behind it.
split_char : (xs ys : List ℕ) (c : ℕ) → IsScalar c → IsUtf8 (xs ++ (encode_utf8 c ++ ys)) → IsUtf8 xs × IsUtf8 ys
split_char xs ys c scalar u = by_list (encode_utf8 c) (IsUtf8-encode c scalar) (omega (arith, length-encode c, (len_utf8_bounds c).0)) u
  where
    by_list : (e : List ℕ) → IsUtf8 e → 0 < length e → IsUtf8 (xs ++ (e ++ ys)) → IsUtf8 xs × IsUtf8 ys
    by_list [] whole some t = absurd (omega (arith, some))
    by_list (b ∷ es) whole some t =
        let at : get_or (xs ++ (b ∷ es ++ ys)) (length xs) 0 ≡ b = get_or-append_seam xs b (es ++ ys) 0 in
        let boundary : IsCharBoundary (xs ++ (b ∷ es ++ ys)) (length xs)
        = (omega (arith, length-append xs (b ∷ es ++ ys)), λ l big. subst (λ x. 192 ≤ x) (sym at) ((IsCharBoundary-start (b ∷ es) whole).1 some (subst (λ x. 128 ≤ x) at big))) in
        let rest : IsUtf8 (b ∷ es ++ ys) = subst IsUtf8 (drop-append_seam xs (b ∷ es ++ ys)) (IsUtf8-drop (xs ++ (b ∷ es ++ ys)) (length xs) t boundary) in
        let inner : IsCharBoundary (b ∷ es ++ ys) (length (b ∷ es))
        = IsCharBoundary-from_take (b ∷ es ++ ys) (length (b ∷ es)) rest (omega (arith, length-append (b ∷ es) ys)) (subst IsUtf8 (sym (take-append_seam (b ∷ es) ys)) whole) in (
          subst IsUtf8 (take-append_seam xs (b ∷ es ++ ys)) (IsUtf8-take (xs ++ (b ∷ es ++ ys)) (length xs) t boundary),
          subst IsUtf8 (drop-append_seam (b ∷ es) ys) (IsUtf8-drop (b ∷ es ++ ys) (length (b ∷ es)) rest inner),
        )

-- The bytes that R reads there are ASCII, and R reads them whatever follows.
abbrev Raw : (List ℕ → List ℕ → Type 0) → List ℕ → List ℕ → Type 0
Raw R bytes after = (raw : List ℕ) × (bytes ≡ raw ++ after) × ((tail : List ℕ) → R (raw ++ tail) tail) × ((tail : List ℕ) → IsUtf8 tail → IsUtf8 (raw ++ tail))

unit_raw : (bytes : List ℕ) (unit : ℕ) (after : List ℕ) → UnitAt bytes unit after → Raw (λ b a. UnitAt b unit a) bytes after
unit_raw bytes unit after u = (
  u.a ∷ u.b ∷ u.c ∷ u.d ∷ [],
  u.bytes_are,
  λ tail. record {
    a = u.a;
    b = u.b;
    c = u.c;
    d = u.d;
    x = u.x;
    y = u.y;
    z = u.z;
    w = u.w;
    a_is = u.a_is;
    b_is = u.b_is;
    c_is = u.c_is;
    d_is = u.d_is;
    unit_is = u.unit_is;
    bytes_are = refl;
  },
  λ tail t. ascii_then u.a _ (hex_small u.a u.x u.a_is) (ascii_then u.b _ (hex_small u.b u.y u.b_is) (ascii_then u.c _ (hex_small u.c u.z u.c_is) (ascii_then u.d tail (hex_small u.d u.w u.d_is) t))),
)

unicode_raw : (bytes : List ℕ) (character : ℕ) (after : List ℕ) → UnicodeAt bytes character after → Raw (λ b a. UnicodeAt b character a) bytes after
unicode_raw bytes character after (inl p) =
    let r = unit_raw bytes character after p.0 in (r.0, r.1, λ tail. inl (r.2 tail, p.1), r.3)
unicode_raw bytes character after (inr (high, middle, low, unit, is_high, at, is)) =
    let r = unit_raw bytes high middle unit in
    let q = unit_raw at.0 low after at.2 in (
      r.0 ++ 92 ∷ 117 ∷ q.0,
      r.1 ∙ ap (λ l. r.0 ++ l) (at.1 ∙ ap (λ l. 92 ∷ 117 ∷ l) q.1) ∙ sym (append_assoc r.0 (92 ∷ 117 ∷ q.0) after),
      λ tail. inr
          (high, 92 ∷ 117 ∷ (q.0 ++ tail), low, subst (λ b. UnitAt b high (92 ∷ 117 ∷ (q.0 ++ tail))) (sym (append_assoc r.0 (92 ∷ 117 ∷ q.0) tail)) (r.2 (92 ∷ 117 ∷ (q.0 ++ tail))), is_high, (q.0 ++ tail, refl, q.2 tail, at.3), is),
      λ tail t. subst IsUtf8 (sym (append_assoc r.0 (92 ∷ 117 ∷ q.0) tail)) (r.3 (92 ∷ 117 ∷ (q.0 ++ tail)) (ascii_then 92 (117 ∷ (q.0 ++ tail)) (omega arith) (ascii_then 117 (q.0 ++ tail) (omega arith) (q.3 tail t)))),
    )

escape_raw : (bytes : List ℕ) (character : ℕ) (after : List ℕ) → EscapeAt bytes character after → Raw (λ b a. EscapeAt b character a) bytes after
escape_raw [] character after h = absurd h
escape_raw (letter ∷ bytes) character after (inl p) = (letter ∷ [], ap (λ l. letter ∷ l) p.1, λ tail. inl (p.0, refl), λ tail t. ascii_then letter tail (short_small letter character p.0).0 t)
escape_raw (letter ∷ bytes) character after (inr p) =
    let r = unicode_raw bytes character after p.1 in (letter ∷ r.0, ap (λ l. letter ∷ l) r.1, λ tail. inr (p.0, r.2 tail), λ tail t. ascii_then letter (r.0 ++ tail) (omega (arith, p.0)) (r.3 tail t))

-- what is in UTF-8 with the first stays so with the second
abbrev Serves : List ℕ → List ℕ → Type 0
Serves got done = (t : List ℕ) → IsUtf8 (got ++ t) → IsUtf8 (done ++ t)

piece_raw : (bytes x after : List ℕ) → PieceAt bytes x after → (raw : List ℕ) × (bytes ≡ raw ++ after) × ((tail : List ℕ) → PieceAt (raw ++ tail) x tail) × ((got done : List ℕ) → Serves got done → Serves (got ++ x) (done ++ raw))
piece_raw [] x after h = absurd h
piece_raw (byte ∷ bytes) x after (inl p) = (
  byte ∷ [],
  ap (λ l. byte ∷ l) p.2,
  λ tail. inl (p.0, p.1, refl),
  λ got done serves t u. rw append_assoc (serves (byte ∷ t) (subst IsUtf8 (ap (λ y. (got ++ y) ++ t) p.1 ∙ append_assoc got (byte ∷ []) t) u)),
)
piece_raw (byte ∷ bytes) x after (inr (is, character, escape, stands)) =
    let r = escape_raw bytes character after escape in (
      byte ∷ r.0,
      ap (λ l. byte ∷ l) r.1,
      λ tail. inr (is, character, r.2 tail, stands),
      λ got done serves t u.
          let parts = split_char got t character (escape_scalar bytes character after escape) (subst IsUtf8 (ap (λ y. (got ++ y) ++ t) stands ∙ append_assoc got (encode_utf8 character) t) u) in
          let before : IsUtf8 done = subst IsUtf8 (append-nil done) (serves [] (subst IsUtf8 (sym (append-nil got)) parts.0)) in
          subst IsUtf8 (sym (append_assoc done (byte ∷ r.0) t)) (IsUtf8-append done (byte ∷ (r.0 ++ t)) before (ascii_then byte (r.0 ++ t) (omega (arith, is)) (r.3 t parts.1))),
    )

-- What stands for the content, and whatever follows it.
string_raw : (bytes content left : List ℕ) → Chain bytes content left
    → (raw : List ℕ) × (bytes ≡ raw ++ 34 ∷ left) × ((tail : List ℕ) → StringAt (raw ++ 34 ∷ tail) content tail) × ((got done : List ℕ) → Serves got done → IsUtf8 (got ++ content) → IsUtf8 (done ++ raw))
string_raw bytes content left (ends b c l is none) = ([], is, λ tail. subst (λ c. StringAt (34 ∷ tail) c tail) (sym none) (closing tail), λ got done serves u. serves [] (subst (λ c. IsUtf8 (got ++ c)) none u))
string_raw bytes content left (goes b c l x after more p s is) =
    let piece = piece_raw bytes x after p in
    let rest = string_raw after more left s in (
      piece.0 ++ rest.0,
      piece.1 ∙ ap (λ l. piece.0 ++ l) rest.1 ∙ sym (append_assoc piece.0 rest.0 (34 ∷ left)),
      λ tail. subst (λ b. StringAt b content tail) (sym (append_assoc piece.0 rest.0 (34 ∷ tail)))
          (subst (λ c. StringAt (piece.0 ++ (rest.0 ++ 34 ∷ tail)) c tail) (sym is) (piece_then (piece.0 ++ (rest.0 ++ 34 ∷ tail)) x (rest.0 ++ 34 ∷ tail) more tail (piece.2 (rest.0 ++ 34 ∷ tail)) (rest.2 tail))),
      λ got done serves u. subst IsUtf8 (append_assoc done piece.0 rest.0) (rest.3 (got ++ x) (done ++ piece.0) (piece.3 got done serves) (subst IsUtf8 (ap (λ c. got ++ c) is ∙ sym (append_assoc got x more)) u)),
    )

-- A string at the front of what is in UTF-8 stands at the front of the whole.
pub front_extends : (text content : List ℕ) (used valid : ℕ) → IsStringFront (take valid text) content used → IsStringFront text content used
front_extends text content used valid (inside, left, at, s, counted) =
    let more = drop valid text in
    let r = string_raw inside content left (chain_of inside content left s.0) in
    let whole : text ≡ 34 ∷ (r.0 ++ 34 ∷ (left ++ more))
    = sym (take-append-drop valid text) ∙ ap (λ l. l ++ more) (at ∙ ap (λ l. 34 ∷ l) r.1) ∙ ap (λ l. 34 ∷ l) (append_assoc r.0 (34 ∷ left) more) in
    let longer : length (take valid text) + length more ≡ length text = sym (length-append (take valid text) more) ∙ ap length (take-append-drop valid text) in
    (r.0 ++ 34 ∷ (left ++ more), left ++ more, whole, (r.2 (left ++ more), s.1), omega (arith, counted, longer, length-append left more))

-- It ends before the first bytes that are not.
front_within : (text content : List ℕ) (used valid : ℕ) → IsValidUpTo text valid → IsStringFront text content used → (inside : List ℕ) × (left : List ℕ) × (take valid text ≡ 34 ∷ inside) × TextAt inside content left
front_within text content used valid up (inside, left, at, s, counted) =
    let r = string_raw inside content left (chain_of inside content left s.0) in
    let raw : IsUtf8 r.0 = r.3 [] [] (λ t u. u) s.1.0 in
    let front : IsUtf8 ((34 ∷ r.0) ++ 34 ∷ []) = ascii_then 34 (r.0 ++ 34 ∷ []) (omega arith) (IsUtf8-append r.0 (34 ∷ []) raw (ascii_then 34 [] (omega arith) IsUtf8-nil)) in
    let whole : text ≡ ((34 ∷ r.0) ++ 34 ∷ []) ++ left = at ∙ ap (λ l. 34 ∷ l) (r.1 ∙ sym (append_assoc r.0 (34 ∷ []) left)) in
    by_cases r.0 ((34 ∷ r.0) ++ 34 ∷ []) refl front whole (r.2 (take (valid - length ((34 ∷ r.0) ++ 34 ∷ [])) left)) (cases_lt valid (length ((34 ∷ r.0) ++ 34 ∷ [])))
  where
    by_cases : (raw front : List ℕ) → front ≡ (34 ∷ raw) ++ 34 ∷ [] → IsUtf8 front → text ≡ front ++ left → StringAt (raw ++ 34 ∷ take (valid - length front) left) content (take (valid - length front) left) → (valid < length front) ⊎ (length front ≤ valid)
        → (i : List ℕ) × (l : List ℕ) × (take valid text ≡ 34 ∷ i) × TextAt i content l
    by_cases raw front is utf8 whole again (inl lt) = absurd (up.longest (length front) lt (subst IsUtf8 (sym (ap (take (length front)) whole ∙ take-append_seam front left)) utf8))
    by_cases raw front is utf8 whole again (inr le) =
        let n = valid - length front in
        let sum : valid ≡ length front + n = omega (arith, le) in
        let cut : take valid text ≡ front ++ take n left = ap (take valid) whole ∙ ap (λ m. take m (front ++ left)) sum ∙ take-append-add front left n in
        (raw ++ 34 ∷ take n left, take n left, cut ∙ ap (λ l. l ++ take n left) is ∙ ap (λ l. 34 ∷ l) (append_assoc raw (34 ∷ []) (take n left)), (again, s.1))

pub front_not_fault : (text content : List ℕ) (used : ℕ) (f : JsonFault) → FrontFault text f → IsStringFront text content used → ⊥
front_not_fault text content used f (inl h) s = quote_not_fault (length text) text s.0 content s.1 f s.2 s.3 h.1
front_not_fault text content used f (inr (none, valid, known, up, h, is)) s =
    let p = front_within text content used valid up s in quote_not_fault valid (take valid text) p.0 content p.1 known p.2 p.3 h

pub front_one : (text c d : List ℕ) (u w : ℕ) → IsStringFront text c u → IsStringFront text d w → (c ≡ d) × (u ≡ w)
front_one text c d u w (i, l, is, s, n) (j, m, at, t, k) =
    let inside : j ≡ i = (heads 34 34 j i (sym at ∙ is)).1 in
    let same = string_same i c d l m s.0 (subst (λ x. StringAt x d m) inside t.0) in
    (same.0, omega (arith, n, k, ap length same.1))
