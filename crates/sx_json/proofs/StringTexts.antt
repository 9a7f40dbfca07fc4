-- A string in a text in UTF-8 stands for a text in UTF-8.
use Rattle.std.proofs.Common.{tests, rules, ◌≡◌, ℕ, ◌+◌, ◌-◌, ◌≤◌, ◌<◌, inl, inr, List, [], ◌∷◌, ◌++◌, refl, ap, sym, ◌∙◌, subst, arith, append_assoc, length, take, get_or, IsUtf8, encode_utf8}
use Rattle.std.proofs.lemmas.List.{length-append, length-take-le}
use Rattle.std.proofs.Math.Seq.{take-append_seam, drop-append-add, get_or-append_seam}
use Rattle.std.proofs.lemmas.Str.{IsUtf8-append, IsUtf8-take, IsUtf8-drop, IsUtf8-encode, IsCharBoundary-after_ascii}
use Rattle.std.proofs.Math.Utf8.{low_scalar}
use Rattle.std.specs.Char.{IsScalar}
use Rattle.std.specs.Str.{IsValidUpTo}
use Rattle.sx_model.specs.Strings.{IsHexDigit, UnitAt, pair_char}
use Rattle.sx_json.proofs.Results.{unless_map}
use Rattle.sx_model.proofs.StringShapes.{short_small}
use Rattle.sx_json.specs.Reading.{UnlessMemory}
use Rattle.sx_model.specs.StringFaults.{UnicodeAt, EscapeAt, PieceAt, StringFault, QuotedFault, QuoteFault, FrontFault, cut}
use Rattle.sx_tree.specs.declared.json_fault.JsonFault.{JsonFault}

pub split_ascii : (xs ys : List ℕ) (b : ℕ) → b < 128 → IsUtf8 (xs ++ b ∷ ys) → IsUtf8 xs × IsUtf8 ys
split_ascii xs ys b small u =
    let at : get_or (xs ++ b ∷ ys) (length xs) 0 ≡ b = get_or-append_seam xs b ys 0 in
    let within : length xs < length (xs ++ b ∷ ys) = omega (arith, length-append xs (b ∷ ys)) in (
      subst IsUtf8 (take-append_seam xs (b ∷ ys)) (IsUtf8-take (xs ++ b ∷ ys) (length xs) u (omega arith, λ l big. absurd (omega (arith, at, big, small)))),
      subst IsUtf8 (drop-append-add xs (b ∷ ys) 1) (IsUtf8-drop (xs ++ b ∷ ys) (length xs + 1) u (IsCharBoundary-after_ascii (xs ++ b ∷ ys) (length xs) u within (omega arith))),
    )

pub tail_ascii : (b : ℕ) (rest : List ℕ) → b < 128 → IsUtf8 (b ∷ rest) → IsUtf8 rest
tail_ascii b rest small u = (split_ascii [] rest b small u).1

pub utf8_behind : (b : ℕ) (bytes rest : List ℕ) → b < 128 → bytes ≡ b ∷ rest → IsUtf8 bytes → IsUtf8 rest
utf8_behind b bytes rest small is u = tail_ascii b rest small (subst IsUtf8 is u)

pub hex_small : (byte digit : ℕ) → IsHexDigit byte digit → byte < 128
hex_small byte digit (inl p) = omega (arith, p.1)
hex_small byte digit (inr (inl p)) = omega (arith, p.1)
hex_small byte digit (inr (inr p)) = omega (arith, p.1)

unit_keeps : (bytes : List ℕ) (unit : ℕ) (after : List ℕ) → UnitAt bytes unit after → IsUtf8 bytes → IsUtf8 after
unit_keeps bytes unit after u t =
    tail_ascii u.d after (hex_small u.d u.w u.d_is) (tail_ascii u.c _ (hex_small u.c u.z u.c_is) (tail_ascii u.b _ (hex_small u.b u.y u.b_is) (tail_ascii u.a _ (hex_small u.a u.x u.a_is) (subst IsUtf8 u.bytes_are t))))

scalar_above : (c : ℕ) → 0xE000 ≤ c → c ≤ 0x10FFFF → IsScalar c
scalar_above c least most = search (tests, rules)

pub unicode_scalar : (bytes : List ℕ) (character : ℕ) (after : List ℕ) → UnicodeAt bytes character after → IsScalar character
unicode_scalar bytes character after (inl (unit, scalar)) = scalar
unicode_scalar bytes character after (inr (high, middle, low, unit, is_high, at, is)) =
    let most : pair_char high low ≤ 0x10FFFF = omega (arith, is_high.0, is_high.1, at.3.0, at.3.1) in
    let least : 0xE000 ≤ pair_char high low = omega (arith, is_high.0, is_high.1, at.3.0, at.3.1) in
    rw is (scalar_above (pair_char high low) least most)

unicode_keeps : (bytes : List ℕ) (character : ℕ) (after : List ℕ) → UnicodeAt bytes character after → IsUtf8 bytes → IsUtf8 after
unicode_keeps bytes character after (inl (unit, scalar)) t = unit_keeps bytes character after unit t
unicode_keeps bytes character after (inr (high, middle, low, unit, is_high, at, is)) t =
    unit_keeps at.0 low after at.2 (tail_ascii 117 at.0 (omega arith) (tail_ascii 92 (117 ∷ at.0) (omega arith) (subst IsUtf8 at.1 (unit_keeps bytes high middle unit t))))

pub escape_scalar : (bytes : List ℕ) (character : ℕ) (after : List ℕ) → EscapeAt bytes character after → IsScalar character
escape_scalar [] character after h = absurd h
escape_scalar (letter ∷ bytes) character after (inl (short, same)) = low_scalar character (omega (arith, (short_small letter character short).1))
escape_scalar (letter ∷ bytes) character after (inr (is, unicode)) = unicode_scalar bytes character after unicode

escape_keeps : (bytes : List ℕ) (character : ℕ) (after : List ℕ) → EscapeAt bytes character after → IsUtf8 bytes → IsUtf8 after
escape_keeps [] character after h t = absurd h
escape_keeps (letter ∷ bytes) character after (inl (short, same)) t = subst IsUtf8 same (tail_ascii letter bytes (short_small letter character short).0 t)
escape_keeps (letter ∷ bytes) character after (inr (is, unicode)) t = unicode_keeps bytes character after unicode (tail_ascii letter bytes (omega (arith, is)) t)

-- What a piece stands for takes its place.
pub piece_keeps : (content bytes begun after : List ℕ) → PieceAt bytes begun after → IsUtf8 (content ++ bytes) → IsUtf8 ((content ++ begun) ++ after)
piece_keeps content [] begun after h t = absurd h
piece_keeps content (byte ∷ bytes) begun after (inl (plain, is, same)) t =
    rw (is, ← same) (subst IsUtf8 (sym (append_assoc content (byte ∷ []) bytes)) t)
piece_keeps content (byte ∷ bytes) begun after (inr (is, character, escape, stands)) t =
    let parts = split_ascii content bytes byte (omega (arith, is)) t in
    let kept = escape_keeps bytes character after escape parts.1 in
    rw stands (IsUtf8-append (content ++ encode_utf8 character) after (IsUtf8-append content (encode_utf8 character) parts.0 (IsUtf8-encode character (escape_scalar bytes character after escape))) kept)

-- The place of the opening quote.
pub from_quote : (end start place count : ℕ) (bytes : List ℕ) (f : JsonFault) → place ≡ end - length bytes → start ≡ place - 1 → StringFault end start count bytes f → StringFault end (end - length bytes - 1) count bytes f
from_quote end start place count bytes f at before h = subst (λ s. StringFault end s count bytes f) (before ∙ ap (λ p. p - 1) at) h

-- The string behind its opening quote.
pub quoted_fault : (end : ℕ) (bytes inside : List ℕ) (f : JsonFault) → bytes ≡ 34 ∷ inside → UnlessMemory (StringFault end (end - length inside - 1) 0 inside) f → UnlessMemory (QuotedFault end bytes) f
quoted_fault end bytes inside f is h =
    let start : end - length inside - 1 ≡ end - length bytes = omega (arith, ap length is) in
    unless_map (StringFault end (end - length inside - 1) 0 inside) (QuotedFault end bytes) f (λ p. (inside, is, subst (λ s. StringFault end s 0 inside f) start p)) h

pub cut_known : (text : List ℕ) (valid : ℕ) (f : JsonFault) → (IsUtf8 text → ⊥) → IsValidUpTo text valid → UnlessMemory (QuoteFault (length (take valid text)) (take valid text)) f → UnlessMemory (FrontFault text) (cut valid f)
cut_known text valid f none at (inl e) = inl (ap (cut valid) e)
cut_known text valid f none at (inr h) =
    let counted : length (take valid text) ≡ valid = length-take-le valid text (omega (arith, at.short)) in inr (inr (none, valid, f, at, subst (λ n. QuoteFault n (take valid text) f) counted h, refl))
