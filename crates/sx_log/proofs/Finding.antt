-- What is found at the front of a volume.
use Rattle.std.specs.Prelude.{◌↔◌, IsTrue}
use Rattle.std.proofs.Common.{Bool, true, false, ◌≡◌, ◌≢◌, ◌∙◌, ℕ, suc, ◌<◌, ◌≤◌, inl, inr, List, [], ◌∷◌, ◌++◌, length, take, drop, slice_get, slice_index_or, Option, None, Some, IfSome, IfNone, MatchOption, refl, ap, sym, length-append, arith}
use Rattle.std.proofs.lemmas.List.{take-append-drop, take-append-le, length-drop}
use Rattle.sx_layout.proofs.Births.{birth_told, fields_again, length-part_bytes, part_of_birth}
use Rattle.sx_layout.specs.Birth.{AreFields, Birth, BirthFields, IsBorn, IsNotOurs, IsUnborn, birth_part, birth_rules, magic, part_bytes}
use Rattle.sx_layout.specs.Rule.{first_broken}
use Rattle.sx_log.specs.Finding.{HasFront, IsWhole, fields_in}
use Rattle.sx_log.specs.declared.reading.GivenFields.{GivenFields}

-- what holds of the bytes where they are told
pub if_told : (bytes : Option (List ℕ)) (P Q : List ℕ → Type 0) → ((all : List ℕ) → bytes ≡ Some all → P all → Q all) → IfSome bytes P → IfSome bytes Q
if_told None P Q map holds = tt
if_told (Some all) P Q map holds = map all refl holds

pub all_told : (bytes : Option (List ℕ)) (Q : List ℕ → Type 0) → ((all : List ℕ) → bytes ≡ Some all → Q all) → IfSome bytes Q
all_told None Q map = tt
all_told (Some all) Q map = map all refl

same_number : (a b : ℕ) → Some a ≡ Some b → a ≡ b
same_number a b is = cc is

first_same : (a b : ℕ) (xs ys : List ℕ) → a ∷ xs ≡ b ∷ ys → a ≡ b
first_same a b xs ys is = cc is

rest_same : (a b : ℕ) (xs ys : List ℕ) → a ∷ xs ≡ b ∷ ys → xs ≡ ys
rest_same a b xs ys is = cc is

-- the element behind a front
pub behind_front : (front rest : List ℕ) (byte : ℕ) → slice_get (front ++ rest) (length front) ≡ Some byte → (behind : List ℕ) × (rest ≡ byte ∷ behind)
behind_front [] [] byte at = absurd (cc at)
behind_front [] (x ∷ rest) byte at = let same : x ≡ byte = cc at in (rest, ap (λ (b : ℕ). b ∷ rest) same)
behind_front (x ∷ front) rest byte at = behind_front front rest byte at

pub get_behind : (front rest : List ℕ) (byte : ℕ) → slice_get (front ++ byte ∷ rest) (length front) ≡ Some byte
get_behind [] rest byte = refl
get_behind (x ∷ front) rest byte = get_behind front rest byte

module _ (all : List ℕ) (first : ℕ) where
  -- fewer bytes than a birth part has
  pub short_found : 1 < length all → length all < 174 → slice_get all 0 ≡ Some first → first ≢ 0 → IsNotOurs all first
  short_found more fewer at no_zero = record {
    not_unborn = λ unborn. elim unborn [
      | inl short ↦ omega (arith, short, more)
      | inr (inl closed) ↦ no_zero (same_number first 0 (sym at ∙ closed))
      | inr (inr whole) ↦ by_length whole.1 whole.0 (part_of_birth whole.1 whole.4) whole.5
    ];
    not_born = λ born. omega (arith, born.long, fewer);
    first_is = at;
  }
    where
      by_length : (birth : Birth) (byte : ℕ) → (fields : BirthFields) × AreFields fields × (first_broken (birth_rules fields) ≡ None) × (birth_part birth ≡ part_bytes fields) → all ≡ byte ∷ (birth_part birth ++ 0 ∷ []) → ⊥
      by_length birth byte part is =
          omega (arith, fewer, ap length is, length-append (birth_part birth) (0 ∷ []), ap length part.3, length-part_bytes part.0 part.1)

  -- another magic
  pub other_found : 174 ≤ length all → slice_get all 0 ≡ Some first → first ≢ 0 → take 8 (drop 1 all) ≢ magic → IsNotOurs all first
  unfolding birth_part
  other_found long at no_zero other = record {
    not_unborn = λ unborn. elim unborn [
      | inl short ↦ omega (arith, short, long)
      | inr (inl closed) ↦ no_zero (same_number first 0 (sym at ∙ closed))
      | inr (inr whole) ↦ other (ap (λ (b : List ℕ). take 8 (drop 1 b)) whole.5)
    ];
    not_born = λ born. other born.magic_is;
    first_is = at;
  }

  module _ (fields : BirthFields) (are : AreFields fields) (rest : List ℕ) (is : all ≡ first ∷ (part_bytes fields ++ rest)) where
    at_front : slice_get all 0 ≡ Some first
    at_front = ap (λ (b : List ℕ). slice_get b 0) is

    pub born_found : 174 ≤ length all → first ≡ 1 → IsBorn all × ((more : List ℕ) × (all ≡ 1 ∷ (part_bytes fields ++ more)))
    born_found long no_zero =
        let one : all ≡ 1 ∷ (part_bytes fields ++ rest) = is ∙ ap (λ n. n ∷ (part_bytes fields ++ rest)) no_zero in
        (record { gate = ap (λ (b : List ℕ). slice_get b 0) one; long = long; magic_is = ap (λ (b : List ℕ). take 8 (drop 1 b)) one }, (rest, one))

    -- the whole of a birth part, behind another byte than 0 and 1
    pub whole_found : first ≢ 0 → first ≢ 1 → IsWhole all fields → IsUnborn all
    whole_found no_zero no_one whole =
        let told = birth_told fields are whole.rules in
        let size : length rest ≡ 1 = omega (arith, whole.long, ap length is, length-append (part_bytes fields) rest, length-part_bytes fields are) in
        let place : length (first ∷ part_bytes fields) ≡ 173 = omega (arith, length-part_bytes fields are) in
        let at : slice_get ((first ∷ part_bytes fields) ++ rest) (length (first ∷ part_bytes fields)) ≡ Some 0 =
        ap (λ n. slice_get ((first ∷ part_bytes fields) ++ rest) n) place ∙ ap (λ (b : List ℕ). slice_get b 173) (sym is) ∙ whole.gate in
        let gate = behind_front (first ∷ part_bytes fields) rest 0 at in
        let none : gate.0 ≡ [] = nothing gate.0 (omega (arith, size, ap length gate.1)) in
        inr (inr (first, _, no_zero, no_one, told.0, is ∙ ap (λ (b : List ℕ). first ∷ (part_bytes fields ++ b)) (gate.1 ∙ ap (λ (b : List ℕ). 0 ∷ b) none) ∙ ap (λ (b : List ℕ). first ∷ (b ++ 0 ∷ [])) told.1))
      where
        nothing : (b : List ℕ) → length b ≡ 0 → b ≡ []
        nothing [] long = refl
        nothing (x ∷ b) long = absurd (omega (arith, long))

    -- and anything else is none of ours
    pub odd_found : 174 ≤ length all → first ≢ 0 → first ≢ 1 → (IsWhole all fields → ⊥) → IsNotOurs all first
    odd_found long no_zero no_one not_whole = record {
      not_unborn = λ unborn. elim unborn [
        | inl short ↦ omega (arith, short, long)
        | inr (inl closed) ↦ no_zero (same_number first 0 (sym at_front ∙ closed))
        | inr (inr whole) ↦ not_whole (is_whole whole.1 whole.0 (part_of_birth whole.1 whole.4) whole.5)
      ];
      not_born = λ born. no_one (same_number first 1 (sym at_front ∙ born.gate));
      first_is = at_front;
    }
      where
        is_whole : (birth : Birth) (byte : ℕ) → (part : BirthFields) × AreFields part × (first_broken (birth_rules part) ≡ None) × (birth_part birth ≡ part_bytes part) → all ≡ byte ∷ (birth_part birth ++ 0 ∷ []) → IsWhole all fields
        is_whole birth byte part whole =
            let same = fields_again fields part.0 rest (0 ∷ []) are part.1 (rest_same first byte _ _ (sym is ∙ whole) ∙ ap (λ (b : List ℕ). b ++ 0 ∷ []) part.3) in
            let all_is : all ≡ (first ∷ part_bytes fields) ++ 0 ∷ [] = is ∙ ap (λ (b : List ℕ). first ∷ (part_bytes fields ++ b)) same.1 in
            let place : length (first ∷ part_bytes fields) ≡ 173 = omega (arith, length-part_bytes fields are) in
            record {
              long = omega (arith, ap length all_is, length-append (part_bytes fields) (0 ∷ []), length-part_bytes fields are);
              gate = ap (λ (b : List ℕ). slice_get b 173) all_is ∙ ap (λ n. slice_get ((first ∷ part_bytes fields) ++ 0 ∷ []) n) (sym place) ∙ get_behind (first ∷ part_bytes fields) [] 0;
              rules = ap (λ (f : BirthFields). first_broken (birth_rules f)) same.0 ∙ part.2;
            }

-- the first bytes that were read, and those behind them
pub front_read : (all room : List ℕ) (count : ℕ) → room ≡ take (suc count) (drop 0 all) → suc count ≤ length all → all ≡ slice_index_or room 0 0 ∷ (drop 1 room ++ drop (suc count) all)
front_read [] room count read long = absurd (omega (arith, long))
front_read (x ∷ all) room count read long =
    let room_is : room ≡ x ∷ take count all = read in
    ap (λ (b : List ℕ). x ∷ b) (sym (take-append-drop count all)) ∙ ap (λ (r : List ℕ). slice_index_or r 0 0 ∷ (drop 1 r ++ drop count all)) (sym room_is)

-- the magic, or another
pub no_magic : (all : List ℕ) (first : ℕ) (part rest : List ℕ) → all ≡ first ∷ (part ++ rest) → length part ≡ 172 → take 8 part ≢ magic → (slice_get all 0 ≡ Some first) × (take 8 (drop 1 all) ≢ magic)
no_magic all first part rest is long other = (
  ap (λ (b : List ℕ). slice_get b 0) is,
  λ same. other (sym (take-append-le 8 part rest (omega (arith, long))) ∙ ap (λ (b : List ℕ). take 8 (drop 1 b)) (sym is) ∙ same),
)

-- the first byte and the fields, as they were read
pub front_found : (all room : List ℕ) (given : Option GivenFields) → room ≡ take 173 (drop 0 all) → 173 ≤ length all → length room ≡ 173 → MatchOption given (take 8 (drop 1 room) ≢ magic) (λ f. drop 1 room ≡ part_bytes (fields_in f))
    → HasFront all (slice_index_or room 0 0) given
front_found all room None read long size other = no_magic all (slice_index_or room 0 0) (drop 1 room) (drop 173 all) (front_read all room 172 read long) (omega (arith, length-drop 1 room, size)) other
front_found all room (Some given) read long size told =
    (drop 173 all, front_read all room 172 read long ∙ ap (λ (b : List ℕ). slice_index_or room 0 0 ∷ (b ++ drop 173 all)) told)

-- what was read of the bytes that are told
pub front_told : (bytes : Option (List ℕ)) (size : ℕ) (room : List ℕ) (given : Option GivenFields) → ((all : List ℕ) → bytes ≡ Some all → length all ≡ size) → 174 ≤ size → length room ≡ 173
    → IfSome bytes (λ all. room ≡ take 173 (drop 0 all)) → MatchOption given (take 8 (drop 1 room) ≢ magic) (λ f. drop 1 room ≡ part_bytes (fields_in f)) → IfSome bytes (λ all. HasFront all (slice_index_or room 0 0) given)
front_told None size room given told long room_long read is = tt
front_told (Some all) size room given told long room_long read is = let whole = told all refl in front_found all room given read (omega (arith, whole, long)) room_long is

-- what a reader of the fields gives of them
pub fields_told : (part : List ℕ) (given : Option GivenFields) → IfSome given (λ f. AreFields (fields_in f) × (part ≡ part_bytes (fields_in f))) → IfNone given (take 8 part ≢ magic)
    → MatchOption given (take 8 part ≢ magic) (λ f. part ≡ part_bytes (fields_in f))
fields_told part None found none = none
fields_told part (Some f) found none = found.1

-- the same where the bytes are told
pub short_told : (bytes : Option (List ℕ)) (size first : ℕ) → ((all : List ℕ) → bytes ≡ Some all → length all ≡ size) → 1 < size → size < 174 → IfSome bytes (λ all. slice_get all 0 ≡ Some first) → first ≢ 0
    → IfSome bytes (λ all. IsNotOurs all first)
short_told bytes size first told more fewer at no_zero = if_told bytes _ _ (λ all is here. let long = told all is in short_found all first (omega (arith, long, more)) (omega (arith, long, fewer)) here no_zero) at

pub other_told : (bytes : Option (List ℕ)) (size first : ℕ) (given : Option GivenFields) → ((all : List ℕ) → bytes ≡ Some all → length all ≡ size) → 174 ≤ size → first ≢ 0 → ((f : GivenFields) → given ≡ Some f → ⊥)
    → IfSome bytes (λ all. HasFront all first given) → IfSome bytes (λ all. IsNotOurs all first)
other_told bytes size first (Some f) told long no_zero none front = absurd (none f refl)
other_told bytes size first None told long no_zero none front = if_told bytes _ _ (λ all is here. let whole = told all is in other_found all first (omega (arith, whole, long)) here.0 no_zero here.1) front

pub born_told : (bytes : Option (List ℕ)) (size first : ℕ) (given : GivenFields) → AreFields (fields_in given) → ((all : List ℕ) → bytes ≡ Some all → length all ≡ size) → 174 ≤ size → first ≡ 1
    → IfSome bytes (λ all. HasFront all first (Some given)) → IfSome bytes (λ all. IsBorn all × ((rest : List ℕ) × (all ≡ 1 ∷ (part_bytes (fields_in given) ++ rest))))
born_told bytes size first given are told long one front = if_told bytes _ _ (λ all is here. let whole = told all is in born_found all first (fields_in given) are here.0 here.1 (omega (arith, whole, long)) one) front

pub whole_told : (bytes : Option (List ℕ)) (first : ℕ) (given : GivenFields) (test : Bool) → AreFields (fields_in given) → first ≢ 0 → first ≢ 1 → test ≡ true → IfSome bytes (λ all. IsTrue test ↔ IsWhole all (fields_in given))
    → IfSome bytes (λ all. HasFront all first (Some given)) → IfSome bytes IsUnborn
whole_told None first given test are no_zero no_one is whole front = tt
whole_told (Some all) first given test are no_zero no_one is whole front = whole_found all first (fields_in given) are front.0 front.1 no_zero no_one (whole.0 is)

pub odd_told : (bytes : Option (List ℕ)) (size first : ℕ) (given : GivenFields) (test : Bool) → AreFields (fields_in given) → ((all : List ℕ) → bytes ≡ Some all → length all ≡ size) → 174 ≤ size → first ≢ 0 → first ≢ 1 → test ≡ false
    → IfSome bytes (λ all. IsTrue test ↔ IsWhole all (fields_in given)) → IfSome bytes (λ all. HasFront all first (Some given)) → IfSome bytes (λ all. IsNotOurs all first)
odd_told None size first given test are told long no_zero no_one is whole front = tt
odd_told (Some all) size first given test are told long no_zero no_one is whole front =
    let size_is = told all refl in
    odd_found all first (fields_in given) are front.0 front.1 (omega (arith, size_is, long)) no_zero no_one (λ holds. let never : test ≡ true = whole.1 holds in cc)
