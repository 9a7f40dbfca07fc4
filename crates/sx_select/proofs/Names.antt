-- Names at the front of bytes.
use Rattle.std.proofs.Common.{◌≡◌, ◌≤◌, ◌<◌, ◌-◌, inl, inr, ℕ, zero, suc, List, [], ◌∷◌, ◌++◌, take, drop, length, length-append, refl, sym, ap, subst, ◌∙◌, arith, take-append-drop}
use Rattle.std.specs.Prelude.{IsUtf8, slice_index, Option, None, Some, IfNone}
use Rattle.sx_json.specs.Reading.{Refuses}
use Rattle.sx_tree.specs.declared.json_fault.JsonFault.{JsonFault}
use Rattle.sx_tree.specs.declared.json_fault.JsonFault.TheVariants as json
use Rattle.sx_tree.specs.TextFault.{ExplainsText}
use Rattle.sx_tree.specs.declared.text.TextFault.{TextFault}
use Rattle.sx_tree.specs.declared.text.TextFault.TheVariants.{NotUtf8, TooLong, OutOfMemory}
use Rattle.sx_model.specs.Front.{IsStringFront, NoStringFront}
use Rattle.sx_model.specs.PathText.{IsLetter, IsWordByte, AreWordBytes, IsWord, BeginsWord, EndsWord, WordAt, QuotedAt, NameAt}
use Rattle.sx_model.proofs.OneString.{string_same}
use Rattle.sx_model.specs.Strings.{StringAt, closing, plain, short, unicode, pair}

-- what is left behind a string ends the bytes
string_ends : (bytes content left : List ℕ) → StringAt bytes content left → (front : List ℕ) × (bytes ≡ front ++ left)
string_ends bytes content left (closing l) = (34 ∷ [], refl)
string_ends bytes content left (plain byte rest c l p s) = let more = string_ends rest c l s in (byte ∷ more.0, ap (λ (t : List ℕ). byte ∷ t) more.1)
string_ends bytes content left (short letter byte rest c l p s) =
    let more = string_ends rest c l s in (92 ∷ letter ∷ more.0, ap (λ (t : List ℕ). 92 ∷ letter ∷ t) more.1)
string_ends bytes content left (unicode rest unit after c l u p s) =
    let more = string_ends after c l s in (
      92 ∷ 117 ∷ u.a ∷ u.b ∷ u.c ∷ u.d ∷ more.0,
      ap (λ (t : List ℕ). 92 ∷ 117 ∷ t) u.bytes_are ∙ ap (λ (t : List ℕ). 92 ∷ 117 ∷ u.a ∷ u.b ∷ u.c ∷ u.d ∷ t) more.1,
    )
string_ends bytes content left (pair rest high middle low after c l u p v q s) =
    let more = string_ends after c l s in (
      92 ∷ 117 ∷ u.a ∷ u.b ∷ u.c ∷ u.d ∷ 92 ∷ 117 ∷ v.a ∷ v.b ∷ v.c ∷ v.d ∷ more.0,
      ap (λ (t : List ℕ). 92 ∷ 117 ∷ t) u.bytes_are ∙ ap (λ (t : List ℕ). 92 ∷ 117 ∷ u.a ∷ u.b ∷ u.c ∷ u.d ∷ 92 ∷ 117 ∷ t) v.bytes_are
          ∙ ap (λ (t : List ℕ). 92 ∷ 117 ∷ u.a ∷ u.b ∷ u.c ∷ u.d ∷ 92 ∷ 117 ∷ v.a ∷ v.b ∷ v.c ∷ v.d ∷ t) more.1,
    )

dropped : (front left : List ℕ) → drop (length front) (front ++ left) ≡ left
dropped [] left = refl
dropped (x ∷ front) left = dropped front left

-- the string that was read of a text, with what is behind it
pub quoted_front : (text content : List ℕ) (used : ℕ) → IsStringFront text content used → QuotedAt text content (drop used text)
quoted_front text content used front =
    let ends = string_ends front.0 content front.1 front.3.0 in
    let whole : text ≡ (34 ∷ ends.0) ++ front.1 = front.2 ∙ ap (λ (t : List ℕ). 34 ∷ t) ends.1 in
    let long = ap (λ (t : List ℕ). length t) whole in
    let count : used ≡ length (34 ∷ ends.0) = omega (arith, long, length-append (34 ∷ ends.0) front.1, front.4) in
    let left : drop used text ≡ front.1 = ap (λ (n : ℕ). drop n text) count ∙ ap (λ (t : List ℕ). drop (length (34 ∷ ends.0)) t) whole ∙ dropped (34 ∷ ends.0) front.1 in
    subst (λ (l : List ℕ). QuotedAt text content l) (sym left) (front.0, front.2, front.3)

-- a text at whose front no string stands
pub no_quoted : (text content left : List ℕ) → NoStringFront text → QuotedAt text content left → ⊥
no_quoted text content left none quoted =
    let ends = string_ends quoted.0 content left quoted.2.0 in
    let long = ap (λ (t : List ℕ). length t) ends.1 in
    none content (length text - length left) (quoted.0, left, quoted.1, quoted.2, omega (arith, ap (λ (t : List ℕ). length t) quoted.1, long, length-append ends.0 left))

-- ---- words

letter_in_word : (byte : ℕ) → IsLetter byte → IsWordByte byte
letter_in_word byte is = inl is

word_bytes : (word : List ℕ) → IsWord word → AreWordBytes word
word_bytes [] is = elim is [ ]
word_bytes (byte ∷ word) is = (letter_in_word byte is.0, is.1)

-- bytes of a word, as far as they go, are cut in one way
pub one_word : (a b x y : List ℕ) → AreWordBytes a → EndsWord x → AreWordBytes b → EndsWord y → a ++ x ≡ b ++ y → (a ≡ b) × (x ≡ y)
one_word [] [] x y word ends other stops same = (refl, same)
one_word [] (byte ∷ b) [] y word ends other stops same = cc same
one_word [] (byte ∷ b) (z ∷ x) y word ends other stops same = let is : z ≡ byte = cc same in absurd (ends (subst IsWordByte (sym is) other.0))
one_word (byte ∷ a) [] x [] word ends other stops same = cc same
one_word (byte ∷ a) [] x (z ∷ y) word ends other stops same = let is : z ≡ byte = cc same in absurd (stops (subst IsWordByte (sym is) word.0))
one_word (byte ∷ a) (other_byte ∷ b) x y word ends other stops same =
    let first : byte ≡ other_byte = cc same in
    let rest : a ++ x ≡ b ++ y = cc same in
    let more = one_word a b x y word.1 ends other.1 stops rest in
    (λ i. first i ∷ more.0 i, more.1)

-- the bytes of a word, to its end, are one where they begin with a letter
pub whole_word : (bytes : List ℕ) (n : ℕ) → BeginsWord bytes → AreWordBytes (take n bytes) → EndsWord (drop n bytes) → IsWord (take n bytes)
whole_word [] n begins word ends = absurd begins
whole_word (byte ∷ bytes) zero begins word ends = absurd (ends (letter_in_word byte begins))
whole_word (byte ∷ bytes) (suc n) begins word ends = (begins, word.1)

-- a word at the front is that of these bytes
pub same_word : (bytes name left : List ℕ) (n : ℕ) → AreWordBytes (take n bytes) → EndsWord (drop n bytes) → WordAt bytes name left → take n bytes ≡ name
same_word bytes name left n word ends at =
    (one_word (take n bytes) name (drop n bytes) left word ends (word_bytes name at.0) at.2 (take-append-drop n bytes ∙ at.3)).0

-- where they are no text there is no word
pub no_word : (bytes name left : List ℕ) (n : ℕ) (fault : TextFault) → AreWordBytes (take n bytes) → EndsWord (drop n bytes)
    → ExplainsText (take n bytes) fault → (fault ≡ OutOfMemory → ⊥) → WordAt bytes name left → ⊥
no_word bytes name left n (NotUtf8 place) word ends is other at = is.0 (subst IsUtf8 (sym (same_word bytes name left n word ends at)) at.1.0)
no_word bytes name left n (TooLong count) word ends is other at =
    let short = subst (λ (w : List ℕ). length w ≤ 1_048_576) (sym (same_word bytes name left n word ends at)) at.1.1 in omega (arith, is.1)
no_word bytes name left n OutOfMemory word ends is other at = other refl

-- ---- a name is told by its first byte

letter_is_no_quote : (byte : ℕ) → IsLetter byte → byte ≡ 34 → ⊥
letter_is_no_quote byte (inl upper) is = omega (arith, upper.0)
letter_is_no_quote byte (inr (inl lower)) is = omega (arith, lower.0)
letter_is_no_quote byte (inr (inr line)) is = omega (arith, line)

-- behind a letter there is no string
pub no_string : (bytes name left : List ℕ) → BeginsWord bytes → QuotedAt bytes name left → ⊥
no_string [] name left begins at = begins
no_string (byte ∷ bytes) name left begins at = let is : byte ≡ 34 = cc (at.1) in letter_is_no_quote byte begins is

-- behind no letter there is no word
pub begins_word : (bytes name left : List ℕ) → WordAt bytes name left → BeginsWord bytes
begins_word bytes [] left at = absurd at.0
begins_word [] (byte ∷ name) left at = cc (at.3)
begins_word (other ∷ bytes) (byte ∷ name) left at = let is : byte ≡ other = cc (at.3) in subst IsLetter is at.0.0

-- no name begins with a slash
pub no_name : (rest name left : List ℕ) → NameAt (47 ∷ rest) name left → ⊥
no_name rest name left (inl word) = slash (begins_word (47 ∷ rest) name left word)
  where
    slash : IsLetter 47 → ⊥
    slash (inl upper) = omega (arith, upper.0)
    slash (inr (inl lower)) = omega (arith, lower.0)
    slash (inr (inr line)) = omega (arith, line)
no_name rest name left (inr quoted) = let first = ap (λ (l : List ℕ). slice_index l 0) quoted.1 in omega (arith, first)

-- a fault that is not want of memory tells that nothing stands there
pub unless_memory : (P : Type 0) (fault : JsonFault) → (fault ≡ json.OutOfMemory → ⊥) → Refuses P fault → P
unless_memory P (json.BadByte place) other is = is
unless_memory P (json.TooDeep place) other is = is
unless_memory P (json.DuplicateName place) other is = is
unless_memory P (json.LoneSurrogate place) other is = is
unless_memory P (json.NumberTooLong place) other is = is
unless_memory P (json.StringTooLong place) other is = is
unless_memory P json.Ended other is = is
unless_memory P json.OutOfMemory other is = absurd (other refl)

-- where no word begins a name is a string
pub no_word_there : (bytes name left : List ℕ) → (BeginsWord bytes → ⊥) → (QuotedAt bytes name left → ⊥) → NameAt bytes name left → ⊥
no_word_there bytes name left none never (inl word) = none (begins_word bytes name left word)
no_word_there bytes name left none never (inr quoted) = never quoted

pub if_none : {X : Type 0} (o : Option X) (P Q : Type 0) → (P → Q) → IfNone o P → IfNone o Q
if_none None P Q step is = step is
if_none (Some x) P Q step is = is

pub none_told : {X : Type 0} (o : Option X) (P : Type 0) → o ≡ None → IfNone o P → P
none_told None P is holds = holds
none_told (Some x) P is holds = cc is

-- ---- one name at most

pub name_same : (bytes a b x y : List ℕ) → NameAt bytes a x → NameAt bytes b y → (a ≡ b) × (x ≡ y)
name_same bytes a b x y (inl one) (inl other) = one_word a b x y (word_bytes a one.0) one.2 (word_bytes b other.0) other.2 (sym one.3 ∙ other.3)
name_same bytes a b x y (inl one) (inr other) = absurd (no_string bytes b y (begins_word bytes a x one) other)
name_same bytes a b x y (inr one) (inl other) = absurd (no_string bytes a x (begins_word bytes b y other) one)
name_same bytes a b x y (inr one) (inr other) =
    let inside : one.0 ≡ other.0 = cc (sym one.1 ∙ other.1) in
    string_same one.0 a b x y one.2.0 (subst (λ (l : List ℕ). StringAt l b y) (sym inside) other.2.0)

-- a name takes bytes
pub name_shorter : (bytes name left : List ℕ) → NameAt bytes name left → length left < length bytes
name_shorter bytes [] left (inl word) = absurd word.0
name_shorter bytes (byte ∷ name) left (inl word) = omega (arith, ap (λ (l : List ℕ). length l) word.3, length-append (byte ∷ name) left)
name_shorter bytes name left (inr quoted) =
    let ends = string_ends quoted.0 name left quoted.2.0 in
    omega (arith, ap (λ (l : List ℕ). length l) quoted.1, ap (λ (l : List ℕ). length l) ends.1, length-append ends.0 left)
