-- The fields of a birth part, as they are read and tested.
use Rattle.std.proofs.Common.{◌≡◌, ◌∙◌, ℕ, ◌-◌, ◌≤◌, ◌==◌, ◌&&◌, ◌||◌, Bool, true, false, not, List, [], ◌∷◌, ◌++◌, length, take, drop, replicate, None, Some, refl, ap, sym, append_assoc, length-append, arith, nat_lt}
use Rattle.std.proofs.lemmas.Bool.Decides.{nat_tests}
use Rattle.std.proofs.lemmas.List.{append-nil, nil_from_length, drop-replicate}
use Rattle.std.specs.Str.{bytes_eq, is_utf8}
use Rattle.sha2.specs.Sha256.{sha256}
use Rattle.sx_frame.specs.Violation.{tell}
use Rattle.sx_layout.proofs.Broken.{broken_here, unbroken}
use Rattle.sx_layout.specs.Birth.{Birth, BirthFields, are_names, birth_part, birth_rules, fields_bytes, is_name, magic, padded, part_bytes, undigested, whole_format}
use Rattle.sx_layout.specs.Rule.{first_broken}

-- fields read one behind another from 172 bytes are all there is
pub part_told : (f : BirthFields) (b0 b1 b2 b3 b4 b5 b6 b7 b8 : List ℕ) → length b0 ≡ 172 → length f.from ≡ 64 → length f.to ≡ 64 → length f.digest ≡ 32 → b0 ≡ magic ++ b1 → b1 ≡ f.format ∷ b2
    → b2 ≡ f.window ∷ b3 → b3 ≡ f.from_length ∷ b4 → b4 ≡ f.from ++ b5 → b5 ≡ f.to_length ∷ b6 → b6 ≡ f.to ++ b7 → b7 ≡ f.digest ++ b8 → b0 ≡ part_bytes f
part_told f b0 b1 b2 b3 b4 b5 b6 b7 b8 long from to digest e0 e1 e2 e3 e4 e5 e6 e7 =
    let none : b8 ≡ [] =
    nil_from_length b8 (omega (
      arith,
      long,
      from,
      to,
      digest,
      ap length e0,
      ap length e1,
      ap length e2,
      ap length e3,
      ap length e4 ∙ length-append f.from b5,
      ap length e5,
      ap length e6 ∙ length-append f.to b7,
      ap length e7 ∙ length-append f.digest b8,
    )) in
    let last : b7 ≡ f.digest = e7 ∙ ap (λ (b : List ℕ). f.digest ++ b) none ∙ append-nil f.digest in
    let to_on : b4 ≡ (f.from ++ f.to_length ∷ f.to) ++ f.digest =
    e4 ∙ ap (λ (b : List ℕ). f.from ++ b) (e5 ∙ ap (λ (b : List ℕ). f.to_length ∷ b) (e6 ∙ ap (λ (b : List ℕ). f.to ++ b) last)) ∙ sym (append_assoc f.from (f.to_length ∷ f.to) f.digest) in
    e0 ∙ ap (λ (b : List ℕ). magic ++ b) (e1 ∙ ap (λ (b : List ℕ). f.format ∷ b) (e2 ∙ ap (λ (b : List ℕ). f.window ∷ b) (e3 ∙ ap (λ (b : List ℕ). f.from_length ∷ b) to_on)))

-- the digest of the fields in pieces
pub pieces_told : (f : BirthFields) → (((([] ++ magic) ++ (f.format ∷ f.window ∷ f.from_length ∷ [])) ++ f.from) ++ (f.to_length ∷ [])) ++ f.to ≡ fields_bytes f
pieces_told f = ap (λ (b : List ℕ). magic ++ (f.format ∷ f.window ∷ f.from_length ∷ b)) (append_assoc f.from (f.to_length ∷ []) f.to)

-- the rules 1 to 3 are kept, and rule 4 is left
first_three : (f : BirthFields) (found : List ℕ) (test : Bool) → found ≡ sha256 (fields_bytes f) → test ≡ not (bytes_eq f.digest found) → test ≡ false → f.format ≡ whole_format → 1 ≤ f.window → f.window ≤ 8
    → first_broken (birth_rules f) ≡ first_broken ((not (are_names f), tell 4 0 f.from_length) ∷ [])
first_three f found test is tested holds format least most =
    let digest : not (bytes_eq f.digest (sha256 (fields_bytes f))) ≡ false = ap (λ (d : List ℕ). not (bytes_eq f.digest d)) (sym is) ∙ sym tested ∙ holds in
    let at_names = (not (are_names f), tell 4 0 f.from_length) ∷ [] in
    let at_window = (nat_lt f.window 1 || nat_lt 8 f.window, tell 3 8 f.window) ∷ at_names in
    let at_format = (not (f.format == whole_format), tell 2 whole_format f.format) ∷ at_window in
    unbroken (not (bytes_eq f.digest (sha256 (fields_bytes f)))) (record { rule = 1; kept = f.digest; found = sha256 (fields_bytes f) }) at_format digest
    ∙ unbroken (not (f.format == whole_format)) (tell 2 whole_format f.format) at_window (one_format f.format format)
    ∙ unbroken (nat_lt f.window 1 || nat_lt 8 f.window) (tell 3 8 f.window) at_names (in_window f.window least most)
  where
    one_format : (n : ℕ) → n ≡ whole_format → not (n == whole_format) ≡ false
    one_format n is = grind (arith, nat_tests)

    in_window : (n : ℕ) → 1 ≤ n → n ≤ 8 → (nat_lt n 1 || nat_lt 8 n) ≡ false
    in_window n least most = grind (arith, nat_tests)

pub names_broken : (f : BirthFields) (found : List ℕ) (test names : Bool) → found ≡ sha256 (fields_bytes f) → test ≡ not (bytes_eq f.digest found) → test ≡ false → f.format ≡ whole_format → 1 ≤ f.window → f.window ≤ 8
    → names ≡ are_names f → names ≡ false → first_broken (birth_rules f) ≡ Some (tell 4 0 f.from_length)
names_broken f found test names is tested holds format least most told none =
    first_three f found test is tested holds format least most ∙ broken_here (not (are_names f)) (tell 4 0 f.from_length) [] (ap not (sym told ∙ none))

pub none_broken : (f : BirthFields) (found : List ℕ) (test names : Bool) → found ≡ sha256 (fields_bytes f) → test ≡ not (bytes_eq f.digest found) → test ≡ false → f.format ≡ whole_format → 1 ≤ f.window → f.window ≤ 8
    → names ≡ are_names f → names ≡ true → first_broken (birth_rules f) ≡ None
none_broken f found test names is tested holds format least most told all =
    first_three f found test is tested holds format least most ∙ unbroken (not (are_names f)) (tell 4 0 f.from_length) [] (ap not (sym told ∙ all))

-- a name with what stands behind it
pub name_tested : (count : ℕ) (bytes name zeros : List ℕ) (text behind : Bool) → 1 ≤ count → count ≤ 64 → name ≡ take count bytes → zeros ≡ drop count bytes → text ≡ is_utf8 name
    → behind ≡ bytes_eq zeros (drop count (replicate 64 0)) → is_name count bytes ≡ (text && behind)
name_tested count bytes name zeros text behind least most name_is zeros_are text_is behind_is =
    let of_text : is_utf8 (take count bytes) ≡ text = ap is_utf8 (sym name_is) ∙ sym text_is in
    let of_zeros : bytes_eq (drop count bytes) (replicate (64 - count) 0) ≡ behind =
    ap (λ (z : List ℕ). bytes_eq z (replicate (64 - count) 0)) (sym zeros_are) ∙ ap (λ (z : List ℕ). bytes_eq zeros z) (sym (drop-replicate {X = ℕ} count 64 0)) ∙ sym behind_is in
    ap (λ (t : Bool). t && bytes_eq (drop count bytes) (replicate (64 - count) 0)) (in_range (nat_lt count 1) (nat_lt 64 count) (is_utf8 (take count bytes)) (not_less count 1 least) (not_less 64 count most) ∙ of_text) ∙ ap (λ (t : Bool). text && t) of_zeros
  where
    not_less : (a b : ℕ) → b ≤ a → nat_lt a b ≡ false
    not_less a b le = grind (arith, nat_tests)

    in_range : (a b t : Bool) → a ≡ false → b ≡ false → (not a && not b && t) ≡ t
    in_range true b t one other = cc
    in_range false true t one other = cc
    in_range false false t one other = refl

-- a name that was appended in pieces
pub name_put : (o0 o1 o2 o3 bytes name zeros : List ℕ) (n m : ℕ) → o1 ≡ o0 ++ n ∷ [] → o2 ≡ o1 ++ bytes → o3 ≡ o2 ++ zeros → n ≡ length name → bytes ≡ name → zeros ≡ drop m (replicate 64 0) → m ≡ length name
    → o3 ≡ o0 ++ (length name ∷ padded name)
name_put o0 o1 o2 o3 bytes name zeros n m e1 e2 e3 count is zeros_are long =
    let behind : zeros ≡ replicate (64 - length name) 0 = zeros_are ∙ drop-replicate {X = ℕ} m 64 0 ∙ ap (λ k. replicate (64 - k) 0) long in
    e3 ∙ (λ i. e2 i ++ behind i) ∙ (λ i. (e1 i ++ is i) ++ replicate (64 - length name) 0) ∙ ap (λ k. ((o0 ++ k ∷ []) ++ name) ++ replicate (64 - length name) 0) count
    ∙ append_assoc (o0 ++ length name ∷ []) name (replicate (64 - length name) 0) ∙ append_assoc o0 (length name ∷ []) (padded name)

-- a birth part that was appended in pieces
pub part_put : (birth : Birth) (p1 p2 p3 p4 p5 p6 p7 digest : List ℕ) → p1 ≡ [] ++ magic → p2 ≡ p1 ++ whole_format ∷ [] → p3 ≡ p2 ++ birth.window ∷ [] → p4 ≡ p3 ++ (length birth.from ∷ padded birth.from)
    → p5 ≡ p4 ++ (length birth.to ∷ padded birth.to) → digest ≡ sha256 p5 → p6 ≡ p5 ++ digest → p7 ≡ p6 ++ 0 ∷ [] → p7 ≡ birth_part birth ++ 0 ∷ []
unfolding birth_part
part_put birth p1 p2 p3 p4 p5 p6 p7 digest e1 e2 e3 e4 e5 digested e6 e7 =
    let first : p4 ≡ magic ++ (whole_format ∷ birth.window ∷ (length birth.from ∷ padded birth.from)) = e4 ∙ ap (λ (p : List ℕ). p ++ (length birth.from ∷ padded birth.from)) (e3 ∙ ap (λ (p : List ℕ). p ++ birth.window ∷ []) (e2 ∙ ap (λ (p : List ℕ). p ++ whole_format ∷ []) e1)) in
    let all : p5 ≡ fields_bytes (undigested birth []) = e5 ∙ ap (λ (p : List ℕ). p ++ (length birth.to ∷ padded birth.to)) first in
    e7 ∙ ap (λ (p : List ℕ). p ++ 0 ∷ []) (e6 ∙ (λ i. all i ++ digested i) ∙ ap (λ (d : List ℕ). fields_bytes (undigested birth []) ++ sha256 d) all)
