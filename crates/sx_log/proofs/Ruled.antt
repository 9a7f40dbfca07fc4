-- The rules on a group, as they are tested.
use Rattle.std.proofs.Common.{◌≡◌, ◌∙◌, ℕ, ◌+◌, ◌-◌, ◌<◌, ◌≤◌, ◌==◌, Bool, true, false, not, List, [], ◌∷◌, ◌++◌, length, take, drop, map, Option, None, Some, Result, Ok, Err, refl, ap, sym, append_assoc, length-append, arith, nat_lt}
use Rattle.std.proofs.lemmas.Bool.Decides.{nat_tests}
use Rattle.std.proofs.lemmas.List.{take_all, take_at, drop_all, drop_at, take-append-drop, length-take, length-drop}
use Rattle.std.specs.Option.{option_map}
use Rattle.std.specs.Prelude.{OnErr}
use Rattle.std.specs.Str.{bytes_eq}
use Rattle.sha2.specs.Sha256.{sha256}
use Rattle.sx_bytes.specs.declared.damage.Damage.{Damage}
use Rattle.sx_frame.specs.Violation.{Violation, damage_at, tell}
use Rattle.sx_frame.specs.declared.table.FrameRow.{FrameRow}
use Rattle.sx_layout.proofs.Broken.{broken_behind, broken_here, broken_there, unbroken}
use Rattle.sx_layout.specs.Rule.{first_broken}
use Rattle.sx_layout.specs.Rules.{digest_rule, frames_size, least_frame, length_rule, table_rules}
use Rattle.sx_root.specs.declared.root.RevisionRoot.{RevisionRoot}

-- what holds at any answer
pub on_err : {T E : Type 0} (result : Result T E) (P : Type 0) → P → OnErr result P
on_err (Ok x) P holds = tt
on_err (Err e) P holds = holds

pub on_err_map : {T E : Type 0} (result : Result T E) (P Q : Type 0) → (P → Q) → OnErr result P → OnErr result Q
on_err_map (Ok x) P Q map holds = tt
on_err_map (Err e) P Q map holds = map holds

-- ---- what is told of the first rule

abbrev pub told : ℕ → List (Bool × Violation) → Option Damage
told place rules = option_map (damage_at place) (first_broken rules)

told_some : (place : ℕ) (found : Option Violation) (damage : Damage) → option_map (damage_at place) found ≡ Some damage → (v : Violation) × (found ≡ Some v) × (damage ≡ damage_at place v)
told_some place None damage is = absurd (cc is)
told_some place (Some v) damage is = (v, refl, cc is)

pub told_none : (place : ℕ) (found : Option Violation) → option_map (damage_at place) found ≡ None → found ≡ None
told_none place None is = refl
told_none place (Some v) is = absurd (cc is)

-- what is found by a test that answers nothing
pub nothing_found : (found : Option Damage) → ((damage : Damage) → found ≡ Some damage → ⊥) → found ≡ None
nothing_found None never = refl
nothing_found (Some damage) never = absurd (never damage refl)

-- the violation that is told
pub violation_of : (place : ℕ) (rules : List (Bool × Violation)) (damage : Damage) → told place rules ≡ Some damage → (v : Violation) × (first_broken rules ≡ Some v) × (damage ≡ damage_at place v)
violation_of place rules damage is = told_some place (first_broken rules) damage is

-- of two lists of rules: one of the first is broken, or none is and the others count
pub told_there : (place : ℕ) (rules more : List (Bool × Violation)) (damage : Damage) → told place rules ≡ Some damage → told place (rules ++ more) ≡ Some damage
told_there place rules more damage is =
    let v = violation_of place rules damage is in
    ap (option_map (damage_at place)) (broken_there rules more v.0 v.1) ∙ ap Some (sym v.2)

pub told_behind : (place : ℕ) (rules more : List (Bool × Violation)) → told place rules ≡ None → told place (rules ++ more) ≡ told place more
told_behind place rules more none = ap (option_map (damage_at place)) (broken_behind rules more (told_none place (first_broken rules) none))

-- the same where the first of all is one rule, then others, and then the rest
pub told_second : (place : ℕ) (first : List (Bool × Violation)) (rules more : List (Bool × Violation)) (damage : Damage) → told place first ≡ None → told place rules ≡ Some damage
    → Some damage ≡ told place (first ++ (rules ++ more))
told_second place first rules more damage none is = sym (told_behind place first (rules ++ more) none ∙ told_there place rules more damage is)

pub told_third : (place : ℕ) (first second rules more : List (Bool × Violation)) (damage : Damage) → told place first ≡ None → told place second ≡ None → told place rules ≡ Some damage
    → Some damage ≡ told place (first ++ (second ++ (rules ++ more)))
told_third place first second rules more damage none nor is = told_second place second rules more damage nor is ∙ sym (told_behind place first (second ++ (rules ++ more)) none)

pub told_last : (place : ℕ) (first second third rules : List (Bool × Violation)) → told place first ≡ None → told place second ≡ None → told place third ≡ None
    → told place rules ≡ told place (first ++ (second ++ (third ++ rules)))
told_last place first second third rules none nor neither =
    sym (told_behind place first (second ++ (third ++ rules)) none ∙ told_behind place second (third ++ rules) nor ∙ told_behind place third rules neither)

-- ---- the digest

-- of a group in two pieces, the second with the digest at its end
pub digest_told : (head behind table kept found : List ℕ) → length head ≡ 48 → 32 ≤ length behind → table ≡ take (length behind - 32) behind → kept ≡ drop (length behind - 32) behind → found ≡ sha256 (head ++ table)
    → digest_rule (head ++ behind) (16 + length behind) ≡ (not (bytes_eq kept found), record { rule = 1; kept = kept; found = found })
digest_told head behind table kept found head_long long table_is kept_is found_is =
    let whole : behind ≡ table ++ kept = sym (take-append-drop (length behind - 32) behind) ∙ (λ i. sym table_is i ++ sym kept_is i) in
    let bytes : head ++ behind ≡ (head ++ table) ++ kept = ap (λ (b : List ℕ). head ++ b) whole ∙ sym (append_assoc head table kept) in
    let table_long : length table ≡ length behind - 32 = ap length table_is ∙ length-take (length behind - 32) behind ∙ omega (arith, long) in
    let kept_long : length kept ≡ 32 = omega (arith, ap length kept_is, length-drop (length behind - 32) behind, long) in
    let place : length (head ++ table) ≡ 16 + length behind = omega (arith, length-append head table, head_long, table_long, long) in
    let stored : take 32 (drop (16 + length behind) (head ++ behind)) ≡ kept =
    ap (λ (b : List ℕ). take 32 (drop (16 + length behind) b)) bytes ∙ ap (λ (b : List ℕ). take 32 b) (drop_at (head ++ table) kept (16 + length behind) place) ∙ take_all 32 kept (omega (arith, kept_long)) in
    let computed : sha256 (take (16 + length behind) (head ++ behind)) ≡ found =
    ap sha256 (ap (λ (b : List ℕ). take (16 + length behind) b) bytes ∙ take_at (head ++ table) kept (16 + length behind) place) ∙ sym found_is in
    λ i. (not (bytes_eq (stored i) (computed i)), record { rule = 1; kept = stored i; found = computed i })

-- ---- the lengths of the frames

-- the rules on the rows that are left, where the others have so many bytes together
abbrev pub left_rules : RevisionRoot → ℕ → List FrameRow → List (Bool × Violation)
left_rules root sum rows = map length_rule rows ++ (not (root.body == frames_size rows + sum), tell 15 (frames_size rows + sum) root.body) ∷ []

pub all_left : (root : RevisionRoot) (rows : List FrameRow) → first_broken (table_rules root rows) ≡ first_broken (left_rules root 0 rows)
all_left root rows = ap (λ n. first_broken (map length_rule rows ++ (not (root.body == n), tell 15 n root.body) ∷ [])) (omega arith)

pub one_less : (root : RevisionRoot) (sum : ℕ) (row : FrameRow) (rows : List FrameRow) → 5 ≤ row.bytes → first_broken (left_rules root sum (row ∷ rows)) ≡ first_broken (left_rules root (sum + row.bytes) rows)
one_less root sum row rows long =
    let least : nat_lt row.bytes 5 ≡ false = grind (arith, nat_tests) in
    unbroken (nat_lt row.bytes least_frame) (tell 15 least_frame row.bytes) (map length_rule rows ++ (not (root.body == (row.bytes + frames_size rows) + sum), tell 15 ((row.bytes + frames_size rows) + sum) root.body) ∷ []) least
    ∙ ap (λ n. first_broken (map length_rule rows ++ (not (root.body == n), tell 15 n root.body) ∷ [])) (omega arith)

pub short_row : (root : RevisionRoot) (sum : ℕ) (row : FrameRow) (rows : List FrameRow) → row.bytes < 5 → first_broken (left_rules root sum (row ∷ rows)) ≡ Some (tell 15 5 row.bytes)
short_row root sum row rows short =
    broken_here (nat_lt row.bytes least_frame) (tell 15 least_frame row.bytes) (map length_rule rows ++ (not (root.body == (row.bytes + frames_size rows) + sum), tell 15 ((row.bytes + frames_size rows) + sum) root.body) ∷ []) (grind (arith, nat_tests))

-- no row is left
all_read : (root : RevisionRoot) (sum : ℕ) (rows : List FrameRow) (i : ℕ) → length rows ≤ i → first_broken (table_rules root rows) ≡ first_broken (left_rules root sum (drop i rows))
    → first_broken (table_rules root rows) ≡ first_broken ((not (root.body == sum), tell 15 sum root.body) ∷ [])
all_read root sum rows i past so_far =
    so_far ∙ ap (λ (l : List FrameRow). first_broken (left_rules root sum l)) (drop_all i rows past)
    ∙ ap (λ n. first_broken ((not (root.body == n), tell 15 n root.body) ∷ [])) (omega arith)

pub sum_differs : (place : ℕ) (root : RevisionRoot) (sum : ℕ) (rows : List FrameRow) (i : ℕ) → length rows ≤ i → first_broken (table_rules root rows) ≡ first_broken (left_rules root sum (drop i rows))
    → (root.body ≡ sum → ⊥) → Some (damage_at place (tell 15 sum root.body)) ≡ told place (table_rules root rows)
sum_differs place root sum rows i past so_far differs =
    let test : not (root.body == sum) ≡ true = grind (arith, nat_tests) in
    sym (ap (option_map (damage_at place)) (all_read root sum rows i past so_far ∙ broken_here (not (root.body == sum)) (tell 15 sum root.body) [] test))

pub sum_same : (place : ℕ) (root : RevisionRoot) (sum : ℕ) (rows : List FrameRow) (i : ℕ) → length rows ≤ i → first_broken (table_rules root rows) ≡ first_broken (left_rules root sum (drop i rows))
    → root.body ≡ sum → None ≡ told place (table_rules root rows)
sum_same place root sum rows i past so_far same =
    let test : not (root.body == sum) ≡ false = grind (arith, nat_tests) in
    sym (ap (option_map (damage_at place)) (all_read root sum rows i past so_far ∙ unbroken (not (root.body == sum)) (tell 15 sum root.body) [] test))

-- ---- where no rule is broken

pub passes : (test : Bool) (here : Violation) (rules : List (Bool × Violation)) → first_broken ((test, here) ∷ rules) ≡ None → (test ≡ false) × (first_broken rules ≡ None)
passes true here rules is = absurd (cc is)
passes false here rules is = (refl, is)

-- none of a list, and then none of the others
pub none_parts : (rules more : List (Bool × Violation)) → first_broken (rules ++ more) ≡ None → (first_broken rules ≡ None) × (first_broken more ≡ None)
none_parts [] more none = (refl, none)
none_parts (rule ∷ rules) more none =
    let here = passes rule.0 rule.1 (rules ++ more) none in
    let rest = none_parts rules more here.1 in
    (unbroken rule.0 rule.1 rules here.0 ∙ rest.0, rest.1)

pub not_broken : (test : Bool) (here : Violation) → first_broken ((test, here) ∷ []) ≡ None → test ≡ false
not_broken true here is = absurd (cc is)
not_broken false here is = refl
