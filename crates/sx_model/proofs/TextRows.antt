-- Rows of the definitions of JSON texts.
use Rattle.std.proofs.Common.{◌≡◌, ℕ, zero, suc, ◌-◌, inl, inr, List, [], ◌∷◌, ◌++◌, refl, true, false, arith, length, codes}
use Rattle.std.proofs.lemmas.Option.{slice_get_within}
use Rattle.std.proofs.lemmas.Str.{IsUtf8-nil}
use lib.Utf8.{encode}
use Rattle.sx_tree.specs.declared.json.Scalar.TheVariants.{Str, Number, Bool, Null}
use Rattle.sx_tree.specs.declared.json_fault.JsonFault.TheVariants.{BadByte, Ended, LoneSurrogate, StringTooLong}
use Rattle.sx_tree.specs.Names.{AreDistinct}
use Rattle.sx_tree.specs.Number.{IsNumber}
use Rattle.sx_tree.specs.Value.{Value, scalar, array, object, no_values, value_then, no_fields, field_then, depth}
use Rattle.sx_model.specs.Canonical.{text}
use Rattle.sx_model.specs.Grammar.{Spells}
use Rattle.sx_model.specs.Limits.{KeepsLimits}
use Rattle.sx_model.specs.Strings.{UnitAt, pair_char, closing, plain}
use Rattle.sx_model.specs.StringFaults.{StringFault, in_piece, too_long, unexpected, cut}
use Rattle.sx_model.proofs.WrittenStrings.{utf8_of_ascii}
use Rattle.sx_model.proofs.Spelled.{text_spelled}
use Rattle.sx_model.proofs.Within.{spells_within}

-- ---- canonical texts

number_row : text (scalar (Number (codes "1.50e+3"))) ≡ codes "1.50e+3"
number_row = refl

-- the quote, the backslash, the slash, each short escape, two other control characters, a delete, and é
escapes_row : text (scalar (Str (34 ∷ 92 ∷ 47 ∷ 8 ∷ 12 ∷ 10 ∷ 13 ∷ 9 ∷ 0 ∷ 31 ∷ 127 ∷ 195 ∷ 169 ∷ []))) ≡ codes "\"\\\"\\\\/\\b\\f\\n\\r\\t\\u0000\\u001f" ++ 127 ∷ 195 ∷ 169 ∷ 34 ∷ []
escapes_row = refl

nested_row : text (object (field_then (codes "b") (scalar Null) (field_then [] (object no_fields) (field_then (codes "c\n") (array (value_then (array no_values) (value_then (scalar (Bool true)) (value_then (scalar (Bool false)) no_values)))) no_fields))))
    ≡ codes "{\"b\":null,\"\":{},\"c\\n\":[[],true,false]}"
nested_row = refl

-- ---- a text with white space around its tokens

one_number : IsNumber (codes "1")
one_number = record {
  minus = [];
  int = codes "1";
  frac = [];
  exp = [];
  is_minus = inl refl;
  is_int = inr (omega arith, omega arith, tt);
  is_frac = tt;
  is_exp = tt;
  whole = refl;
}

one_name : AreDistinct (codes "a" ∷ [])
one_name i j name p q = omega (arith, slice_get_within (codes "a" ∷ []) i name p, slice_get_within (codes "a" ∷ []) j name q)

spelled_row : Spells (codes " {\"a\" : [1 ,\"\"]}\n") (object (field_then (codes "a") (array (value_then (scalar (Number (codes "1"))) (value_then (scalar (Str [])) no_values))) no_fields))
spelled_row =
    let inner : List ℕ = codes "1 ,\"\"]}\n" in
    let behind_name : List ℕ = codes " : [1 ,\"\"]}\n" in
    let last : List ℕ = codes "]}\n" in (
      utf8_of_ascii (codes " {\"a\" : [1 ,\"\"]}\n") refl,
      10 ∷ [],
      inr (
        inl refl,
        inl (
          255,
          codes "\"a\" : [1 ,\"\"]}\n",
          refl,
          refl,
          one_name,
          inl (
            97 ∷ 34 ∷ behind_name,
            behind_name,
            refl,
            (plain 97 (34 ∷ behind_name) [] behind_name (omega arith, λ e. omega (arith, e), λ e. omega (arith, e)) (closing behind_name), (utf8_of_ascii (codes "a") refl, omega arith)),
            inr (
              inl refl,
              inl (
                32 ∷ 91 ∷ inner,
                refl,
                inr (
                  inl refl,
                  inl (
                    codes "}\n",
                    (
                      254,
                      inner,
                      refl,
                      refl,
                      inl (
                        codes " ,\"\"]}\n",
                        ((one_number, omega arith), refl),
                        inr (inl refl, inl (34 ∷ 34 ∷ last, refl, inl (last, (34 ∷ last, refl, (closing last, (IsUtf8-nil, omega arith))), inl refl))),
                      ),
                    ),
                    inl refl,
                  ),
                ),
              ),
            ),
          ),
        ),
      ),
      (inr (inr (inl refl)), tt),
    )

-- ---- nesting

-- so many arrays around an empty one
abbrev nested : ℕ → Value
nested zero = array no_values
nested (suc n) = array (value_then (nested n) no_values)

deepest_row : depth (nested 255) ≡ 256
deepest_row = refl

deeper_row : depth (nested 256) ≡ 257
deeper_row = refl

nested_limits : (n : ℕ) → KeepsLimits (nested n)
nested_limits zero = tt
nested_limits (suc n) = (nested_limits n, tt)

deepest_spelled : Spells (text (nested 255)) (nested 255)
deepest_spelled = text_spelled (nested 255) (nested_limits 255) (omega arith)

deeper_not_spelled : (bytes : List ℕ) → Spells bytes (nested 256) → ⊥
deeper_not_spelled bytes s = omega (arith, (spells_within bytes (nested 256) s).1)

-- ---- surrogates

pair_row : encode (pair_char 0xD83D 0xDE00) ≡ 240 ∷ 159 ∷ 152 ∷ 128 ∷ []
unfolding encode
pair_row = refl

-- ---- behind a string of the greatest length

full_then_letter : (end start : ℕ) (rest : List ℕ) → StringFault end start 1_048_576 (97 ∷ rest) (StringTooLong start)
full_then_letter end start rest = too_long 1_048_576 (97 ∷ rest) (97 ∷ []) rest (StringTooLong start) (inl ((omega arith, λ e. omega (arith, e), λ e. omega (arith, e)), refl, refl)) (omega arith) refl

-- the digits d, c, 0 and 0
low_unit : (rest : List ℕ) → UnitAt (codes "dc00" ++ rest) 0xDC00 rest
low_unit rest = record {
  a = 100;
  b = 99;
  c = 48;
  d = 48;
  x = 13;
  y = 12;
  z = 0;
  w = 0;
  a_is = inr (inr (omega arith, omega arith, refl));
  b_is = inr (inr (omega arith, omega arith, refl));
  c_is = inl (omega arith, omega arith, refl);
  d_is = inl (omega arith, omega arith, refl);
  unit_is = refl;
  bytes_are = refl;
}

-- A lone surrogate stands for nothing, so that the string is not too long.
full_then_lone : (end start : ℕ) (rest : List ℕ) → StringFault end start 1_048_576 (codes "\\udc00" ++ rest) (LoneSurrogate (end - length (codes "\\udc00" ++ rest)))
full_then_lone end start rest =
    let bytes : List ℕ = codes "\\udc00" ++ rest in
    in_piece 1_048_576 bytes (LoneSurrogate (end - length bytes)) (inr (refl, inr (refl, inr (0xDC00, rest, low_unit rest, inl ((omega arith, omega arith), refl)))))

-- ---- the end of a text, and of what is in UTF-8

ended_row : unexpected 5 [] ≡ Ended
ended_row = refl

bad_row : unexpected 5 (codes "x,") ≡ BadByte 3
bad_row = refl

cut_row : cut 2 Ended ≡ BadByte 2
cut_row = refl
