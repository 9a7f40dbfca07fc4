-- A group that comes behind the gate that ends a list of groups.
use Rattle.std.proofs.Common.{◌≡◌, ◌∙◌, ◌⊎◌, inl, inr, ℕ, ◌+◌, ◌<◌, List, [], ◌∷◌, ◌++◌, length, take, drop, slice_set, None, refl, ap, sym, arith, length-append, append_assoc, take-append-drop}
use Rattle.std.proofs.Math.Seq.{set-append_seam}
use Rattle.std.proofs.lemmas.Bool.{cases_eq}
use Rattle.std.proofs.lemmas.List.{take_at, set-set}
use Rattle.sx_layout.proofs.Births.{length-birth_part}
use Rattle.sx_layout.specs.Birth.{Birth, IsBirth, birth_part}
use Rattle.sx_layout.specs.Born.{HasLog}
use Rattle.sx_layout.specs.FrameGroup.{FrameGroup, IsFrameGroup, behind_gates, first_root, gate_behind, last_root}
use Rattle.sx_layout.specs.Rule.{first_broken}
use Rattle.sx_layout.specs.Rules.{Follow, order_rules}
use Rattle.sx_log.specs.Committing.{IsBehind, sealed_bytes, with_staged}
use Rattle.sx_log.proofs.OpenedGroups.{behind_gates-append, follow-append, length-behind_gates}
use Rattle.sx_volume.specs.Images.{Puts}

-- the bytes up to the gate that ends the groups
abbrev front_of : Birth → List FrameGroup → List ℕ
front_of birth groups = 1 ∷ (birth_part birth ++ behind_gates groups)

length-front : (birth : Birth) (groups : List FrameGroup) → IsBirth birth → Follow first_root groups → length (front_of birth groups) ≡ gate_behind groups
length-front birth groups is follow = omega (arith, length-append (birth_part birth) (behind_gates groups), length-birth_part birth is, length-behind_gates first_root groups follow)

front_then : (birth : Birth) (groups : List FrameGroup) (rest : List ℕ) → 1 ∷ (birth_part birth ++ (behind_gates groups ++ rest)) ≡ front_of birth groups ++ rest
front_then birth groups rest = ap (λ (b : List ℕ). 1 ∷ b) (sym (append_assoc (birth_part birth) (behind_gates groups) rest))

module _ (birth : Birth) (groups : List FrameGroup) (all : List ℕ) (has : HasLog all birth groups) where
  parts : all ≡ front_of birth groups ++ has.gate ∷ has.behind
  parts = has.bytes_are ∙ front_then birth groups (has.gate ∷ has.behind)

  long : gate_behind groups < length all
  long = omega (arith, ap length parts, length-append (front_of birth groups) (has.gate ∷ has.behind), length-front birth groups has.is_birth has.follow)

  seam : length (front_of birth groups ++ has.gate ∷ []) ≡ gate_behind groups + 1
  seam = omega (arith, length-append (front_of birth groups) (has.gate ∷ []), length-front birth groups has.is_birth has.follow)

  regrouped : (rest : List ℕ) → (front_of birth groups ++ has.gate ∷ []) ++ rest ≡ front_of birth groups ++ has.gate ∷ rest
  regrouped rest = append_assoc (front_of birth groups) (has.gate ∷ []) rest

  -- the groups and the gate that ends them are all that is read
  upto : take (gate_behind groups + 1) all ≡ front_of birth groups ++ has.gate ∷ []
  upto = ap (λ (b : List ℕ). take (gate_behind groups + 1) b) (parts ∙ sym (regrouped has.behind)) ∙ take_at (front_of birth groups ++ has.gate ∷ []) has.behind (gate_behind groups + 1) seam

  same_front : (rest c : List ℕ) → c ≡ take (gate_behind groups + 1) all ++ rest → HasLog c birth groups
  same_front rest c is = record {
    is_birth = has.is_birth;
    follow = has.follow;
    gate = has.gate;
    behind = rest;
    closed = has.closed;
    bytes_are = is ∙ ap (λ (b : List ℕ). b ++ rest) upto ∙ regrouped rest ∙ sym (front_then birth groups (has.gate ∷ rest));
  }

  -- what is written behind the gate changes no group
  pub behind : (c : List ℕ) → IsBehind (gate_behind groups) all c → HasLog c birth groups
  behind c same =
      same_front (drop (gate_behind groups + 1) c) c (sym (take-append-drop (gate_behind groups + 1) c) ∙ ap (λ (b : List ℕ). b ++ drop (gate_behind groups + 1) c) (same long))

  module _ (group : FrameGroup) where
    pub with_staged_group : HasLog (with_staged (gate_behind groups) group all) birth groups
    with_staged_group = same_front (sealed_bytes group) (with_staged (gate_behind groups) group all) refl

    module _ (is : IsFrameGroup group) (keeps : first_broken (order_rules (last_root first_root groups) group.root) ≡ None) (staged : drop (gate_behind groups + 1) all ≡ sealed_bytes group) where
      all_is : all ≡ front_of birth groups ++ has.gate ∷ sealed_bytes group
      all_is = sym (take-append-drop (gate_behind groups + 1) all) ∙ (λ i. upto i ++ staged i) ∙ regrouped (sealed_bytes group)

      -- the group counts behind an open gate, and not behind another one
      open_gate : (gate : ℕ) (c : List ℕ) → c ≡ front_of birth groups ++ gate ∷ sealed_bytes group → gate ≡ 1 → HasLog c birth (groups ++ group ∷ [])
      open_gate gate c are open_is = record {
        is_birth = has.is_birth;
        follow = follow-append first_root groups group has.follow is keeps;
        gate = 0;
        behind = [];
        closed = λ same. omega (arith, same);
        bytes_are =
            are ∙ ap (λ n. front_of birth groups ++ n ∷ sealed_bytes group) open_is ∙ sym (front_then birth groups (1 ∷ sealed_bytes group))
            ∙ ap (λ (b : List ℕ). 1 ∷ (birth_part birth ++ b)) (sym (behind_gates-append groups group (0 ∷ [])));
      }

      gate_cases : (gate : ℕ) (c : List ℕ) → c ≡ front_of birth groups ++ gate ∷ sealed_bytes group → HasLog c birth groups ⊎ HasLog c birth (groups ++ group ∷ [])
      gate_cases gate c are = elim (cases_eq gate 1) [
        | inl open_is ↦ inr (open_gate gate c are open_is)
        | inr shut ↦ inl (record { is_birth = has.is_birth; follow = has.follow; gate = gate; behind = sealed_bytes group; closed = shut; bytes_are = are ∙ sym (front_then birth groups (gate ∷ sealed_bytes group)) })
      ]

      put : (byte : ℕ) → slice_set all (gate_behind groups) byte ≡ front_of birth groups ++ byte ∷ sealed_bytes group
      put byte =
          ap (λ (b : List ℕ). slice_set b (gate_behind groups) byte) all_is
          ∙ ap (λ n. slice_set (front_of birth groups ++ has.gate ∷ sealed_bytes group) n byte) (sym (length-front birth groups has.is_birth has.follow))
          ∙ set-append_seam (front_of birth groups) has.gate (sealed_bytes group) byte

      -- the gate is written over with the group behind it
      pub puts : (c : List ℕ) → Puts (gate_behind groups) all c → HasLog c birth groups ⊎ HasLog c birth (groups ++ group ∷ [])
      puts c (inl same) = gate_cases has.gate c (same ∙ all_is)
      puts c (inr changed) = gate_cases changed.0 c (changed.2 ∙ put changed.0)

      -- and once it is opened the group counts
      pub opened : (c : List ℕ) → Puts (gate_behind groups) all c → HasLog (slice_set c (gate_behind groups) 1) birth (groups ++ group ∷ [])
      opened c (inl same) = open_gate 1 _ (ap (λ (b : List ℕ). slice_set b (gate_behind groups) 1) same ∙ put 1) refl
      opened c (inr changed) =
          open_gate 1 _ (ap (λ (b : List ℕ). slice_set b (gate_behind groups) 1) changed.2 ∙ set-set all (gate_behind groups) changed.0 1 ∙ put 1) refl
