-- An image with a birth is read in one way.
use Rattle.std.proofs.Common.{◌≡◌, ◌∙◌, ℕ, ◌+◌, ◌<◌, ◌≤◌, ◌⊎◌, inl, inr, List, [], ◌∷◌, ◌++◌, length, take, drop, slice_get, None, Some, refl, ap, sym, subst, append_assoc, length-append, arith}
use Rattle.sx_bytes.specs.declared.damage.Damage.{Damage}
use Rattle.sx_frame.specs.Violation.{Violation, damage_at}
use Rattle.sx_layout.proofs.Births.{birth_again, fields_again, length-birth_part, part_of_birth}
use Rattle.sx_layout.proofs.FrameGroups.{frame_group_again, none_broken}
use Rattle.sx_layout.specs.Birth.{Birth, BirthFields, IsBirth, IsBorn, IsNotOurs, IsUnborn, birth_part, birth_rules}
use Rattle.sx_layout.specs.Born.{HasLog, IsBirthDamaged, IsGroupDamaged, Reading, Reads, Log, Unborn, NotOurs, Damaged}
use Rattle.sx_layout.specs.FrameGroup.{FrameGroup, IsFrameGroup, behind_gates, first_root, frame_group_bytes, gate_behind, last_root}
use Rattle.sx_layout.specs.Rule.{first_broken}
use Rattle.sx_layout.specs.Rules.{Follow, KeepCounts, count_rules, group_violation, order_rules, table_rules}
use Rattle.sx_root.specs.declared.root.RevisionRoot.{RevisionRoot}

first_same : (a b : ℕ) (xs ys : List ℕ) → a ∷ xs ≡ b ∷ ys → a ≡ b
first_same a b xs ys is = cc is

rest_same : (a b : ℕ) (xs ys : List ℕ) → a ∷ xs ≡ b ∷ ys → xs ≡ ys
rest_same a b xs ys is = cc is

same_violation : (a b : Violation) → Some a ≡ Some b → a ≡ b
same_violation a b is = cc is

same_number : (a b : ℕ) → Some a ≡ Some b → a ≡ b
same_number a b is = cc is

no_violation : (a : Violation) → None ≡ Some a → ⊥
no_violation a is = cc is

-- ---- groups at the front

-- the same groups, or some go on where the others ended
abbrev Fronts : List FrameGroup → List ℕ → List FrameGroup → List ℕ → Type 0
Fronts gs a hs b =
    ((gs ≡ hs) × (a ≡ b))
    ⊎ ((g : FrameGroup) × (more : List FrameGroup) × (gs ≡ hs ++ g ∷ more) × (b ≡ behind_gates (g ∷ more) ++ a))
    ⊎ ((h : FrameGroup) × (more : List FrameGroup) × (hs ≡ gs ++ h ∷ more) × (a ≡ behind_gates (h ∷ more) ++ b))

fronts_then : (g : FrameGroup) (gs : List FrameGroup) (a : List ℕ) (hs : List FrameGroup) (b : List ℕ) → Fronts gs a hs b → Fronts (g ∷ gs) a (g ∷ hs) b
fronts_then g gs a hs b (inl same) = inl (ap (λ (list : List FrameGroup). g ∷ list) same.0, same.1)
fronts_then g gs a hs b (inr (inl more)) = inr (inl (more.0, more.1, ap (λ (list : List FrameGroup). g ∷ list) more.2, more.3))
fronts_then g gs a hs b (inr (inr more)) = inr (inr (more.0, more.1, ap (λ (list : List FrameGroup). g ∷ list) more.2, more.3))

fronts : (last : RevisionRoot) (gs : List FrameGroup) (a : List ℕ) (hs : List FrameGroup) (b : List ℕ) → Follow last gs → Follow last hs → behind_gates gs ++ a ≡ behind_gates hs ++ b → Fronts gs a hs b
fronts last [] a [] b follow also is = inl (refl, is)
fronts last [] a (h ∷ hs) b follow also is = inr (inr (h, hs, refl, is))
fronts last (g ∷ gs) a [] b follow also is = inr (inl (g, gs, refl, sym is))
fronts last (g ∷ gs) a (h ∷ hs) b follow also is =
    let one = append_assoc (frame_group_bytes g) (behind_gates gs) a in
    let other = append_assoc (frame_group_bytes h) (behind_gates hs) b in
    let tails : (frame_group_bytes g ++ behind_gates gs) ++ a ≡ (frame_group_bytes h ++ behind_gates hs) ++ b = cc is in
    let groups = frame_group_again g h (behind_gates gs ++ a) (behind_gates hs ++ b) follow.0 also.0 (sym one ∙ tails ∙ other) in
    let more : Follow g.root hs = subst (λ (x : FrameGroup). Follow x.root hs) (sym groups.0) also.2 in
    subst (λ (x : FrameGroup). Fronts (g ∷ gs) a (x ∷ hs) b) groups.0 (fronts_then g gs a hs b (fronts g.root gs a hs b follow.2 more groups.1))

follow_first : (last : RevisionRoot) (groups : List FrameGroup) (group : FrameGroup) (more : List FrameGroup) → Follow last (groups ++ group ∷ more)
    → IsFrameGroup group × (first_broken (order_rules (last_root last groups) group.root) ≡ None)
follow_first last [] group more follow = (follow.0, follow.1)
follow_first last (first ∷ groups) group more follow = follow_first first.root groups group more follow.2

keep_first : (last : RevisionRoot) (groups : List FrameGroup) (group : FrameGroup) (more : List FrameGroup) → KeepCounts last (groups ++ group ∷ more)
    → (first_broken (count_rules (last_root last groups) group.root) ≡ None) × (first_broken (table_rules group.root group.table) ≡ None)
keep_first last [] group more keep = (keep.0, keep.1)
keep_first last (first ∷ groups) group more keep = keep_first first.root groups group more keep.2

-- where one reading stops at a broken rule, the other has no group
stops : (groups : List FrameGroup) (group : FrameGroup) (more all : List FrameGroup) (rest bytes : List ℕ) (violation : Violation) → Follow first_root all → KeepCounts first_root all
    → all ≡ groups ++ group ∷ more → 0 < length rest → 1 ∷ bytes ≡ behind_gates (group ∷ more) ++ rest → group_violation (last_root first_root groups) bytes ≡ Some violation → ⊥
stops groups group more all rest bytes violation follow keep are some behind breaks =
    let here = follow_first first_root groups group more (subst (Follow first_root) are follow) in
    let kept = keep_first first_root groups group more (subst (KeepCounts first_root) are keep) in
    let at = append_assoc (frame_group_bytes group) (behind_gates more) rest in
    let long = length-append (behind_gates more) rest in
    let none = none_broken (last_root first_root groups) group (behind_gates more ++ rest) bytes here.0 here.1 kept.0 kept.1 (omega (arith, long, some)) (rest_same 1 1 bytes _ behind ∙ at) in
    no_violation violation (sym none ∙ breaks)

module _ (image : List ℕ) where
  module _ (birth : Birth) (is : IsBirth birth) (rest : List ℕ) (some : 0 < length rest) (are : image ≡ 1 ∷ (birth_part birth ++ rest)) where
    long : 174 ≤ length image
    long = omega (arith, ap length are, length-append (birth_part birth) rest, length-birth_part birth is, some)

    -- a birth part behind its open gate
    pub is_born : IsBorn image
    unfolding birth_part
    is_born = record { gate = ap (λ (b : List ℕ). slice_get b 0) are; long = long; magic_is = ap (λ (b : List ℕ). take 8 (drop 1 b)) are }

  -- no volume is both
  pub not_both : IsUnborn image → IsBorn image → ⊥
  not_both (inl short) born = omega (arith, born.long, short)
  not_both (inr (inl closed)) born = let never = same_number 0 1 (sym closed ∙ born.gate) in omega (arith, never)
  not_both (inr (inr whole)) born = whole.3 (same_number whole.0 1 (sym (ap (λ (b : List ℕ). slice_get b 0) whole.5) ∙ born.gate))

  born_log : (birth : Birth) (groups : List FrameGroup) → HasLog image birth groups → IsBorn image
  born_log birth groups has = is_born birth has.is_birth (behind_gates groups ++ has.gate ∷ has.behind) (omega (arith, length-append (behind_gates groups) (has.gate ∷ has.behind))) has.bytes_are

  born_damaged : (damage : Damage) → IsGroupDamaged image damage → IsBorn image
  born_damaged damage d = is_born d.birth d.is_birth (behind_gates d.groups ++ 1 ∷ d.bytes) (omega (arith, length-append (behind_gates d.groups) (1 ∷ d.bytes))) d.image_is

  -- one log
  one_log : (a b : Birth) (gs hs : List FrameGroup) → HasLog image a gs → HasLog image b hs → (a ≡ b) × (gs ≡ hs)
  one_log a b gs hs has also =
      let births = birth_again a b (behind_gates gs ++ has.gate ∷ has.behind) (behind_gates hs ++ also.gate ∷ also.behind) has.is_birth also.is_birth (rest_same 1 1 _ _ (sym has.bytes_are ∙ also.bytes_are)) in
      elim (fronts first_root gs (has.gate ∷ has.behind) hs (also.gate ∷ also.behind) has.follow also.follow births.1) [
        | inl same ↦ (births.0, same.0)
        | inr (inl more) ↦ absurd (also.closed (first_same also.gate 1 also.behind _ more.3))
        | inr (inr more) ↦ absurd (has.closed (first_same has.gate 1 has.behind _ more.3))
      ]

  -- a log or damage of a group
  no_damage : (a : Birth) (gs : List FrameGroup) (damage : Damage) → HasLog image a gs → KeepCounts first_root gs → IsGroupDamaged image damage → ⊥
  no_damage a gs damage has keep d =
      let births = birth_again a d.birth (behind_gates gs ++ has.gate ∷ has.behind) (behind_gates d.groups ++ 1 ∷ d.bytes) has.is_birth d.is_birth (rest_same 1 1 _ _ (sym has.bytes_are ∙ d.image_is)) in
      elim (fronts first_root gs (has.gate ∷ has.behind) d.groups (1 ∷ d.bytes) has.follow d.follow births.1) [
        | inl same ↦ has.closed (first_same has.gate 1 has.behind d.bytes same.1)
        | inr (inl more) ↦ stops d.groups more.0 more.1 gs (has.gate ∷ has.behind) d.bytes d.violation has.follow keep more.2 (omega arith) more.3 d.breaks
        | inr (inr more) ↦ has.closed (first_same has.gate 1 has.behind _ more.3)
      ]

  one_damage : (a b : Damage) → IsGroupDamaged image a → IsGroupDamaged image b → a ≡ b
  one_damage a b d e =
      let births = birth_again d.birth e.birth (behind_gates d.groups ++ 1 ∷ d.bytes) (behind_gates e.groups ++ 1 ∷ e.bytes) d.is_birth e.is_birth (rest_same 1 1 _ _ (sym d.image_is ∙ e.image_is)) in
      elim (fronts first_root d.groups (1 ∷ d.bytes) e.groups (1 ∷ e.bytes) d.follow e.follow births.1) [
        | inl same ↦
            let bytes = rest_same 1 1 d.bytes e.bytes same.1 in
            let violations : d.violation ≡ e.violation =
            same_violation d.violation e.violation
            (sym d.breaks ∙ ap (λ (g : List FrameGroup). group_violation (last_root first_root g) d.bytes) same.0 ∙ ap (λ (b : List ℕ). group_violation (last_root first_root e.groups) b) bytes ∙ e.breaks) in
            d.damage_is ∙ ap (λ (g : List FrameGroup). damage_at (gate_behind g + 1) d.violation) same.0 ∙ ap (λ (v : Violation). damage_at (gate_behind e.groups + 1) v) violations ∙ sym e.damage_is
        | inr (inl more) ↦ absurd (stops e.groups more.0 more.1 d.groups (1 ∷ d.bytes) e.bytes e.violation d.follow d.keep more.2 (omega arith) more.3 e.breaks)
        | inr (inr more) ↦ absurd (stops d.groups more.0 more.1 e.groups (1 ∷ e.bytes) d.bytes d.violation e.follow e.keep more.2 (omega arith) more.3 d.breaks)
      ]

  -- damage of the birth part leaves nothing else
  no_birth : (birth : Birth) (rest : List ℕ) (damage : Damage) → IsBirth birth → image ≡ 1 ∷ (birth_part birth ++ rest) → IsBirthDamaged image damage → ⊥
  no_birth birth rest damage is are d =
      let part = part_of_birth birth is in
      let same = fields_again d.fields part.0 d.rest rest d.are part.1 (rest_same 1 1 _ _ (sym d.image_is ∙ are ∙ ap (λ (b : List ℕ). 1 ∷ (b ++ rest)) part.3)) in
      no_violation d.violation (sym part.2 ∙ ap (λ (f : BirthFields). first_broken (birth_rules f)) (sym same.0) ∙ d.breaks)

  one_birth : (a b : Damage) → IsBirthDamaged image a → IsBirthDamaged image b → a ≡ b
  one_birth a b d e =
      let same = fields_again d.fields e.fields d.rest e.rest d.are e.are (rest_same 1 1 _ _ (sym d.image_is ∙ e.image_is)) in
      let violations = same_violation d.violation e.violation (sym d.breaks ∙ ap (λ (f : BirthFields). first_broken (birth_rules f)) same.0 ∙ e.breaks) in
      d.damage_is ∙ ap (damage_at 1) violations ∙ sym e.damage_is

  born_any : (damage : Damage) → IsBirthDamaged image damage ⊎ IsGroupDamaged image damage → IsBorn image
  born_any damage (inl d) = d.born
  born_any damage (inr d) = born_damaged damage d

  log_or_damage : (a : Birth) (gs : List FrameGroup) (damage : Damage) → HasLog image a gs → KeepCounts first_root gs → IsBirthDamaged image damage ⊎ IsGroupDamaged image damage → ⊥
  log_or_damage a gs damage has keep (inl d) = no_birth a (behind_gates gs ++ has.gate ∷ has.behind) damage has.is_birth has.bytes_are d
  log_or_damage a gs damage has keep (inr d) = no_damage a gs damage has keep d

  damages : (a b : Damage) → IsBirthDamaged image a ⊎ IsGroupDamaged image a → IsBirthDamaged image b ⊎ IsGroupDamaged image b → a ≡ b
  damages a b (inl d) (inl e) = one_birth a b d e
  damages a b (inl d) (inr e) = absurd (no_birth e.birth (behind_gates e.groups ++ 1 ∷ e.bytes) a e.is_birth e.image_is d)
  damages a b (inr d) (inl e) = absurd (no_birth d.birth (behind_gates d.groups ++ 1 ∷ d.bytes) b d.is_birth d.image_is e)
  damages a b (inr d) (inr e) = one_damage a b d e

  first_is : (a b : ℕ) → IsNotOurs image a → IsNotOurs image b → a ≡ b
  first_is a b is also = same_number a b (sym is.first_is ∙ also.first_is)

  -- an image has one reading
  pub reads_one : (a b : Reading) → Reads image a → Reads image b → a ≡ b
  reads_one (Log a gs) (Log b hs) one other = let same = one_log a b gs hs one.0 other.0 in λ i. Log (same.0 i) (same.1 i)
  reads_one (Log a gs) Unborn one other = absurd (not_both other (born_log a gs one.0))
  reads_one (Log a gs) (NotOurs f) one other = absurd (other.not_born (born_log a gs one.0))
  reads_one (Log a gs) (Damaged d) one other = absurd (log_or_damage a gs d one.0 one.1 other)
  reads_one Unborn (Log b hs) one other = absurd (not_both one (born_log b hs other.0))
  reads_one Unborn Unborn one other = refl
  reads_one Unborn (NotOurs f) one other = absurd (other.not_unborn one)
  reads_one Unborn (Damaged d) one other = absurd (not_both one (born_any d other))
  reads_one (NotOurs f) (Log b hs) one other = absurd (one.not_born (born_log b hs other.0))
  reads_one (NotOurs f) Unborn one other = absurd (one.not_unborn other)
  reads_one (NotOurs f) (NotOurs g) one other = ap NotOurs (first_is f g one other)
  reads_one (NotOurs f) (Damaged d) one other = absurd (one.not_born (born_any d other))
  reads_one (Damaged d) (Log b hs) one other = absurd (log_or_damage b hs d other.0 other.1 one)
  reads_one (Damaged d) Unborn one other = absurd (not_both other (born_any d one))
  reads_one (Damaged d) (NotOurs f) one other = absurd (other.not_born (born_any d one))
  reads_one (Damaged d) (Damaged e) one other = ap Damaged (damages d e one other)
