-- The names of a birth part that keeps the rules.
use Rattle.std.proofs.Common.{◌≡◌, ℕ, ◌==◌, ◌&&◌, ◌||◌, Bool, true, false, not, List, [], ◌∷◌, take, None, refl, nat_lt}
use Rattle.std.specs.Prelude.{IsUtf8}
use Rattle.std.specs.Str.{bytes_eq, is_utf8}
use Rattle.std.proofs.lemmas.Str.{IsUtf8-from_is_utf8}
use Rattle.sha2.specs.Sha256.{sha256}
use Rattle.sx_frame.specs.Violation.{tell}
use Rattle.sx_layout.specs.Birth.{BirthFields, are_names, birth_rules, fields_bytes, is_name, whole_format}
use Rattle.sx_layout.specs.Rule.{first_broken}
use Rattle.sx_log.proofs.Ruled.{passes}

both_hold : (a b : Bool) → (a && b) ≡ true → (a ≡ true) × (b ≡ true)
both_hold true b holds = (refl, holds)
both_hold false b holds = absurd (cc holds)

holds_not : (a : Bool) → not a ≡ false → a ≡ true
holds_not true is = refl
holds_not false is = cc

-- both names are names
pub names_kept : (fields : BirthFields) → first_broken (birth_rules fields) ≡ None → (is_name fields.from_length fields.from ≡ true) × (is_name fields.to_length fields.to ≡ true)
names_kept fields none =
    let at_names = (not (are_names fields), tell 4 0 fields.from_length) ∷ [] in
    let at_window = (nat_lt fields.window 1 || nat_lt 8 fields.window, tell 3 8 fields.window) ∷ at_names in
    let at_format = (not (fields.format == whole_format), tell 2 whole_format fields.format) ∷ at_window in
    let one = passes (not (bytes_eq fields.digest (sha256 (fields_bytes fields)))) (record { rule = 1; kept = fields.digest; found = sha256 (fields_bytes fields) }) at_format none in
    let two = passes (not (fields.format == whole_format)) (tell 2 whole_format fields.format) at_window one.1 in
    let three = passes (nat_lt fields.window 1 || nat_lt 8 fields.window) (tell 3 8 fields.window) at_names two.1 in
    let four = passes (not (are_names fields)) (tell 4 0 fields.from_length) [] three.1 in
    let all = holds_not (are_names fields) four.0 in
    let names = both_hold (is_name fields.from_length fields.from && is_name fields.to_length fields.to) _ all in
    both_hold (is_name fields.from_length fields.from) (is_name fields.to_length fields.to) names.0

-- the bytes of a name are a text
pub name_text : (count : ℕ) (bytes : List ℕ) → is_name count bytes ≡ true → IsUtf8 (take count bytes)
name_text count bytes holds =
    let three = both_hold (not (nat_lt count 1) && not (nat_lt 64 count) && is_utf8 (take count bytes)) _ holds in
    let text = both_hold (not (nat_lt count 1) && not (nat_lt 64 count)) (is_utf8 (take count bytes)) three.0 in
    IsUtf8-from_is_utf8 (take count bytes) text.1
