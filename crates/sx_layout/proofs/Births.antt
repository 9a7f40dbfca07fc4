-- The birth part: fields that keep its rules are those of a birth, and those of a birth keep them.
use Rattle.std.proofs.Common.{◌≡◌, ◌≢◌, ◌∙◌, ℕ, ◌-◌, ◌≤◌, ◌==◌, ◌&&◌, ◌||◌, Bool, true, false, not, List, [], ◌∷◌, ◌++◌, length, take, drop, replicate, Option, None, refl, ap, sym, append_assoc, length-append, arith, nat_lt}
use Rattle.std.specs.Str.{bytes_eq, is_utf8}
use Rattle.std.proofs.lemmas.Bool.Decides.{nat_tests}
use Rattle.std.proofs.lemmas.List.{take_at, drop_at, take-append-drop, length-replicate, length-take}
use Rattle.std.proofs.lemmas.Str.{is_utf8-from_IsUtf8, IsUtf8-from_is_utf8}
use Rattle.std.proofs.lemmas.Slice.Eq.{bytes_eq-Decides}
use Rattle.sha2.proofs.Facts256.{length-sha256}
use Rattle.sha2.specs.Sha256.{sha256}
use Rattle.sx_frame.specs.Violation.{Violation, tell}
use Rattle.sx_layout.proofs.Broken.{unbroken}
use Rattle.sx_layout.proofs.Fronts.{same_front}
use Rattle.sx_layout.specs.Birth.{AreFields, Birth, BirthFields, IsBirth, IsName, are_names, birth_part, birth_rules, fields_bytes, fields_of, is_name, magic, padded, part_bytes, told_birth, undigested, whole_format}
use Rattle.sx_layout.specs.Rule.{first_broken}

length-padded : (name : List ℕ) → length name ≤ 64 → length (padded name) ≡ 64
length-padded name most = omega (arith, length-append name (replicate (64 - length name) 0), length-replicate {A = ℕ} (64 - length name) 0)

both : (a b : Bool) → a ≡ true → b ≡ true → (a && b) ≡ true
both true true first second = refl
both true false first second = second
both false b first second = first

first_of : (a b : Bool) → (a && b) ≡ true → a ≡ true
first_of true b holds = refl
first_of false b holds = holds

second_of : (a b : Bool) → (a && b) ≡ true → b ≡ true
second_of true b holds = holds
second_of false b holds = cc

not_less : (a b : ℕ) → b ≤ a → not (nat_lt a b) ≡ true
not_less a b le = grind (arith, nat_tests)

is_less : (a b : ℕ) → not (nat_lt a b) ≡ true → b ≤ a
is_less a b holds = grind (arith, nat_tests)

opposite : (a : Bool) → not a ≡ false → a ≡ true
opposite true is = refl
opposite false is = cc

-- ---- the fields of a birth keep the rules

name_kept : (name : List ℕ) → IsName name → is_name (length name) (padded name) ≡ true
name_kept name is =
    let zeros = replicate (64 - length name) 0 in
    let text : is_utf8 (take (length name) (padded name)) ≡ true = ap is_utf8 (take_at name zeros (length name) refl) ∙ is_utf8-from_IsUtf8 name is.utf8 in
    let behind : bytes_eq (drop (length name) (padded name)) zeros ≡ true = (bytes_eq-Decides (drop (length name) (padded name)) zeros).1 (drop_at name zeros (length name) refl) in
    both _ _ (both _ _ (both _ _ (not_less (length name) 1 is.least) (not_less 64 (length name) is.most)) text) behind

pub told_again : (birth : Birth) → told_birth (fields_of birth) ≡ birth
told_again birth =
    ap (λ (name : List ℕ). record { window = birth.window; from = name; to = take (length birth.to) (padded birth.to) }) (take_at birth.from (replicate (64 - length birth.from) 0) (length birth.from) refl)
    ∙ ap (λ (name : List ℕ). record { window = birth.window; from = birth.from; to = name }) (take_at birth.to (replicate (64 - length birth.to) 0) (length birth.to) refl)

names_differ : (birth : Birth) → birth.from ≢ birth.to → not (bytes_eq (told_birth (fields_of birth)).from (told_birth (fields_of birth)).to) ≡ true
names_differ birth differ = by (bytes_eq (told_birth (fields_of birth)).from (told_birth (fields_of birth)).to) refl
  where
    by : (test : Bool) → bytes_eq (told_birth (fields_of birth)).from (told_birth (fields_of birth)).to ≡ test → not test ≡ true
    by false is = refl
    by true is =
        let same = (bytes_eq-Decides (told_birth (fields_of birth)).from (told_birth (fields_of birth)).to).0 is in
        absurd (differ (sym (ap (λ (b : Birth). b.from) (told_again birth)) ∙ same ∙ ap (λ (b : Birth). b.to) (told_again birth)))

window_kept : (window : ℕ) → 1 ≤ window → window ≤ 8 → (nat_lt window 1 || nat_lt 8 window) ≡ false
window_kept window least most = grind (arith, nat_tests)

are_fields : (birth : Birth) → IsBirth birth → AreFields (fields_of birth)
are_fields birth is = record {
  from = length-padded birth.from is.from.most;
  to = length-padded birth.to is.to.most;
  digest = length-sha256 (fields_bytes (undigested birth []));
}

pub birth_kept : (birth : Birth) → IsBirth birth → first_broken (birth_rules (fields_of birth)) ≡ None
birth_kept birth is =
    let fields = fields_of birth in
    let digest : not (bytes_eq fields.digest (sha256 (fields_bytes fields))) ≡ false = ap not ((bytes_eq-Decides fields.digest (sha256 (fields_bytes fields))).1 refl) in
    let names : not (are_names fields) ≡ false = ap not (both _ _ (both _ _ (name_kept birth.from is.from) (name_kept birth.to is.to)) (names_differ birth is.differ)) in
    let window = window_kept birth.window is.least is.most in
    let at_names = (not (are_names fields), tell 4 0 fields.from_length) ∷ [] in
    let at_window = (nat_lt fields.window 1 || nat_lt 8 fields.window, tell 3 8 fields.window) ∷ at_names in
    unbroken (not (bytes_eq fields.digest (sha256 (fields_bytes fields)))) (record { rule = 1; kept = fields.digest; found = sha256 (fields_bytes fields) })
    ((not (fields.format == whole_format), tell 2 whole_format fields.format) ∷ at_window) digest
    ∙ unbroken (nat_lt fields.window 1 || nat_lt 8 fields.window) (tell 3 8 fields.window) at_names window
    ∙ unbroken (not (are_names fields)) (tell 4 0 fields.from_length) [] names

-- ---- fields that keep the rules are those of a birth

abbrev broken_at : Bool → Violation → List (Bool × Violation) → Option Violation
broken_at test here rules = first_broken ((test, here) ∷ rules)

passes : (test : Bool) (here : Violation) (rules : List (Bool × Violation)) → broken_at test here rules ≡ None → (test ≡ false) × (first_broken rules ≡ None)
passes true here rules none = cc
passes false here rules none = (refl, none)

name_told : (count : ℕ) (bytes : List ℕ) → length bytes ≡ 64 → is_name count bytes ≡ true → IsName (take count bytes) × (count ≡ length (take count bytes)) × (bytes ≡ padded (take count bytes))
name_told count bytes long holds =
    let three = first_of (not (nat_lt count 1) && not (nat_lt 64 count) && is_utf8 (take count bytes)) (bytes_eq (drop count bytes) (replicate (64 - count) 0)) holds in
    let two = first_of (not (nat_lt count 1) && not (nat_lt 64 count)) (is_utf8 (take count bytes)) three in
    let least = is_less count 1 (first_of (not (nat_lt count 1)) (not (nat_lt 64 count)) two) in
    let most = is_less 64 count (second_of (not (nat_lt count 1)) (not (nat_lt 64 count)) two) in
    let text = second_of (not (nat_lt count 1) && not (nat_lt 64 count)) (is_utf8 (take count bytes)) three in
    let zeros = (bytes_eq-Decides (drop count bytes) (replicate (64 - count) 0)).0 (second_of (not (nat_lt count 1) && not (nat_lt 64 count) && is_utf8 (take count bytes)) (bytes_eq (drop count bytes) (replicate (64 - count) 0)) holds) in
    let size : count ≡ length (take count bytes) = omega (arith, length-take count bytes, long, most) in (
      record { least = omega (arith, size, least); most = omega (arith, size, most); utf8 = IsUtf8-from_is_utf8 (take count bytes) text },
      size,
      sym (take-append-drop count bytes) ∙ ap (λ (rest : List ℕ). take count bytes ++ rest) (zeros ∙ ap (λ n. replicate (64 - n) 0) size),
    )

window_told : (window : ℕ) → (nat_lt window 1 || nat_lt 8 window) ≡ false → (1 ≤ window) × (window ≤ 8)
window_told window holds = (grind (arith, nat_tests), grind (arith, nat_tests))

format_told : (format : ℕ) → not (format == whole_format) ≡ false → format ≡ whole_format
format_told format holds = grind (arith, nat_tests)

names_told : (a b : List ℕ) → not (bytes_eq a b) ≡ true → a ≢ b
names_told a b holds same = let equal = (bytes_eq-Decides a b).1 same in let never : not true ≡ true = ap not (sym equal) ∙ holds in cc never

fields_told : (fields : BirthFields) → fields.format ≡ whole_format → fields.digest ≡ sha256 (fields_bytes fields) → fields.from_length ≡ length (told_birth fields).from → fields.from ≡ padded (told_birth fields).from
    → fields.to_length ≡ length (told_birth fields).to → fields.to ≡ padded (told_birth fields).to → fields ≡ fields_of (told_birth fields)
fields_told fields format digest from_length from to_length to =
    let birth = told_birth fields in
    let undone : fields ≡ undigested birth fields.digest =
    ap (λ n. record fields { format = n }) format ∙ ap (λ n. record (undigested birth fields.digest) { from_length = n; from = fields.from; to_length = fields.to_length; to = fields.to }) from_length
    ∙ ap (λ (b : List ℕ). record (undigested birth fields.digest) { from = b; to_length = fields.to_length; to = fields.to }) from
    ∙ ap (λ n. record (undigested birth fields.digest) { to_length = n; to = fields.to }) to_length ∙ ap (λ (b : List ℕ). record (undigested birth fields.digest) { to = b }) to in
    undone ∙ ap (λ (d : List ℕ). undigested birth d) (digest ∙ ap (λ (f : BirthFields). sha256 (fields_bytes f)) undone)

pub birth_told : (fields : BirthFields) → AreFields fields → first_broken (birth_rules fields) ≡ None → IsBirth (told_birth fields) × (part_bytes fields ≡ birth_part (told_birth fields))
unfolding birth_part
birth_told fields are none =
    let at_names = (not (are_names fields), tell 4 0 fields.from_length) ∷ [] in
    let at_window = (nat_lt fields.window 1 || nat_lt 8 fields.window, tell 3 8 fields.window) ∷ at_names in
    let at_format = (not (fields.format == whole_format), tell 2 whole_format fields.format) ∷ at_window in
    let one = passes (not (bytes_eq fields.digest (sha256 (fields_bytes fields)))) (record { rule = 1; kept = fields.digest; found = sha256 (fields_bytes fields) }) at_format none in
    let two = passes (not (fields.format == whole_format)) (tell 2 whole_format fields.format) at_window one.1 in
    let three = passes (nat_lt fields.window 1 || nat_lt 8 fields.window) (tell 3 8 fields.window) at_names two.1 in
    let four = passes (not (are_names fields)) (tell 4 0 fields.from_length) [] three.1 in
    let window = window_told fields.window three.0 in
    let from_ok = is_name fields.from_length fields.from in
    let to_ok = is_name fields.to_length fields.to in
    let other = not (bytes_eq (told_birth fields).from (told_birth fields).to) in
    let all = opposite (from_ok && to_ok && other) four.0 in
    let names = first_of (from_ok && to_ok) other all in
    let from = name_told fields.from_length fields.from are.from (first_of from_ok to_ok names) in
    let to = name_told fields.to_length fields.to are.to (second_of from_ok to_ok names) in
    let digest = (bytes_eq-Decides fields.digest (sha256 (fields_bytes fields))).0 (opposite (bytes_eq fields.digest (sha256 (fields_bytes fields))) one.0) in (
      record { least = window.0; most = window.1; from = from.0; to = to.0; differ = names_told (told_birth fields).from (told_birth fields).to (second_of (from_ok && to_ok) other all) },
      ap part_bytes (fields_told fields (format_told fields.format two.0) digest from.1 from.2 to.1 to.2),
    )

-- ---- one spelling

length-fields_bytes : (fields : BirthFields) → AreFields fields → length (fields_bytes fields) ≡ 140
length-fields_bytes fields are = omega (arith, length-append fields.from (fields.to_length ∷ fields.to), are.from, are.to)

pub length-part_bytes : (fields : BirthFields) → AreFields fields → length (part_bytes fields) ≡ 172
length-part_bytes fields are = omega (arith, length-append (fields_bytes fields) fields.digest, length-fields_bytes fields are, are.digest)

pub length-birth_part : (birth : Birth) → IsBirth birth → length (birth_part birth) ≡ 172
unfolding birth_part
length-birth_part birth is = length-part_bytes (fields_of birth) (are_fields birth is)

heads_of : (a b : ℕ) (xs ys : List ℕ) → a ∷ xs ≡ b ∷ ys → (a ≡ b) × (xs ≡ ys)
heads_of a b xs ys same = let h : a ≡ b = cc same in let t : xs ≡ ys = cc same in (h, t)

pub fields_again : (a b : BirthFields) (x y : List ℕ) → AreFields a → AreFields b → part_bytes a ++ x ≡ part_bytes b ++ y → (a ≡ b) × (x ≡ y)
fields_again a b x y are also same =
    let regrouped = append_assoc (fields_bytes a) a.digest x in
    let regrouped_b = append_assoc (fields_bytes b) b.digest y in
    let whole = same_front (fields_bytes a) (fields_bytes b) (a.digest ++ x) (b.digest ++ y) (length-fields_bytes a are ∙ sym (length-fields_bytes b also)) (sym regrouped ∙ same ∙ regrouped_b) in
    let digests = same_front a.digest b.digest x y (are.digest ∙ sym also.digest) whole.1 in
    let fields = same_front magic magic _ _ refl whole.0 in
    let formats = heads_of a.format b.format _ _ fields.1 in
    let windows = heads_of a.window b.window _ _ formats.1 in
    let from_lengths = heads_of a.from_length b.from_length _ _ windows.1 in
    let froms = same_front a.from b.from (a.to_length ∷ a.to) (b.to_length ∷ b.to) (are.from ∙ sym also.from) from_lengths.1 in
    let to_lengths = heads_of a.to_length b.to_length _ _ froms.1 in (
      λ i. record { format = formats.0 i; window = windows.0 i; from_length = from_lengths.0 i; from = froms.0 i; to_length = to_lengths.0 i; to = to_lengths.1 i; digest = digests.0 i },
      digests.1,
    )

-- two births in front of the same bytes are one
pub birth_again : (a b : Birth) (x y : List ℕ) → IsBirth a → IsBirth b → birth_part a ++ x ≡ birth_part b ++ y → (a ≡ b) × (x ≡ y)
unfolding birth_part
birth_again a b x y is also same =
    let both_fields = fields_again (fields_of a) (fields_of b) x y (are_fields a is) (are_fields b also) same in
    (sym (told_again a) ∙ ap told_birth both_fields.0 ∙ told_again b, both_fields.1)

-- the birth part of a birth has fields that keep the rules
pub part_of_birth : (birth : Birth) → IsBirth birth → (fields : BirthFields) × AreFields fields × (first_broken (birth_rules fields) ≡ None) × (birth_part birth ≡ part_bytes fields)
unfolding birth_part
part_of_birth birth is = (fields_of birth, are_fields birth is, birth_kept birth is, refl)
