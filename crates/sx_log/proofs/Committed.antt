-- What the calls of a commit leave of the log that a volume keeps.
use Rattle.std.proofs.Common.{◌≡◌, ◌∙◌, ◌⊎◌, inl, ℕ, zero, suc, ◌+◌, ◌<◌, ◌≤◌, List, [], ◌∷◌, ◌++◌, length, take, drop, slice_set, Option, None, Some, IfSome, refl, ap, sym, subst, arith, add-one, length-append}
use Rattle.std.proofs.lemmas.List.{drop_at, length-take}
use Rattle.std.specs.Option.{option_map}
use Rattle.sx_layout.specs.Birth.{Birth}
use Rattle.sx_layout.specs.Born.{HasLog}
use Rattle.sx_layout.proofs.FrameGroups.{length-group}
use Rattle.sx_layout.specs.FrameGroup.{FrameGroup, first_root, frame_group_bytes, gate_behind, groups_size, last_root}
use Rattle.sx_layout.specs.Rule.{first_broken}
use Rattle.sx_layout.specs.Rules.{order_rules}
use Rattle.sx_log.proofs.Finding.{all_told, if_told}
use Rattle.sx_log.proofs.Grown.{behind, opened, puts, with_staged_group}
use Rattle.sx_log.proofs.OpenedGroups.{follow-append, groups_size-append, same_root, rows_from-append}
use Rattle.sx_log.proofs.Made.{read_images, step_images}
use Rattle.sx_log.specs.Calls.{IsSettled}
use Rattle.sx_log.specs.Committing.{HasStaged, HoldsNext, IsBehind, KeepsLog, OnlyHolds, SameLog, sealed_bytes, with_sealed, with_staged}
use Rattle.sx_log.specs.Creating.{birth_of}
use Rattle.sx_log.specs.Kept.{IsLogOf, first_place, listed, root_behind, row_at}
use Rattle.sx_log.specs.declared.birth.Birth.{Birth as Names}
use Rattle.sx_log.specs.declared.log.GroupRow.{GroupRow}
use Rattle.sx_log.specs.declared.log.Log.{Log}
use Rattle.sx_root.specs.declared.root.RevisionRoot.{RevisionRoot}
use Rattle.sx_volume.specs.Held.{held_piece}
use Rattle.sx_volume.specs.Images.{Follows, Puts}
use Rattle.sx_volume.specs.declared.volume.Volume.{Ghosts}

-- what holds of bytes that were made of those before
pub if_made : (bytes now : Option (List ℕ)) (f : List ℕ → List ℕ) (P : List ℕ → Type 0) → now ≡ option_map f bytes → IfSome bytes (λ all. P (f all)) → IfSome now P
if_made None now f P is holds = subst (λ (b : Option (List ℕ)). IfSome b P) (sym is) tt
if_made (Some all) now f P is holds = subst (λ (b : Option (List ℕ)). IfSome b P) (sym is) holds

both_told : (bytes : Option (List ℕ)) (P Q R : List ℕ → Type 0) → ((all : List ℕ) → P all → Q all → R all) → IfSome bytes P → IfSome bytes Q → IfSome bytes R
both_told None P Q R map one other = tt
both_told (Some all) P Q R map one other = map all one other

-- the same images, or fewer, of told bytes
fewer_images : (bytes now : Option (List ℕ)) (P : List ℕ → Type 0) (old new : List ℕ → Type 0) → now ≡ bytes → ((c : List ℕ) → new c → old c) → IfSome bytes (λ _. (c : List ℕ) → old c → P c) → IfSome now (λ _. (c : List ℕ) → new c → P c)
fewer_images bytes now P old new same less holds =
    subst (λ (b : Option (List ℕ)). IfSome b (λ _. (c : List ℕ) → new c → P c)) (sym same) (if_told bytes (λ _. (c : List ℕ) → old c → P c) (λ _. (c : List ℕ) → new c → P c) (λ all is here c left. here c (less c left)) holds)

map_same : (bytes : Option (List ℕ)) (f h : List ℕ → List ℕ) → IfSome bytes (λ all. f all ≡ h all) → option_map f bytes ≡ option_map h bytes
map_same None f h same = refl
map_same (Some all) f h same = ap Some same

-- the bytes up to an opened gate
set_gate : (gate : ℕ) (all piece : List ℕ) → gate < length all → drop (suc gate) all ≡ piece → slice_set all gate 1 ≡ take gate all ++ 1 ∷ piece
set_gate gate [] piece below is = absurd (omega (arith, below))
set_gate zero (x ∷ all) piece below is = ap (λ (b : List ℕ). 1 ∷ b) is
set_gate (suc gate) (x ∷ all) piece below is = ap (λ (b : List ℕ). x ∷ b) (set_gate gate all piece (omega (arith, below)) is)

-- a log that begins as before, on a volume that was changed
module _ {V Spot End : Type 0} (g : Ghosts V Spot End) (log new_log : Log) (volume new : V) where
  module _ (same : SameLog log new_log) where
    still : (groups : List FrameGroup) → IsLogOf log groups → IsLogOf new_log groups
    still groups is = record { rows = same.rows ∙ is.rows; end = same.end ∙ is.end }

    -- the group that comes next is held, or not
    pub keeps_held : (groups : List FrameGroup) → ((t : ℕ) (c : List ℕ) → t ≤ g.moment new → g.is_image new c → g.was_image new t c) → OnlyHolds g volume new → KeepsLog g log volume groups → KeepsLog g new_log new groups
    keeps_held groups counts_now only keeps = record {
      is_log = still groups keeps.is_log;
      follow = keeps.follow;
      gate = omega (arith, keeps.gate, same.end, only.same_size);
      bytes =
          subst (λ (b : Names). IfSome (g.bytes new) (λ all. HasLog all (birth_of b) groups)) (sym same.birth)
          (subst (λ (b : Option (List ℕ)). IfSome b (λ all. HasLog all (birth_of log.birth) groups)) (sym only.same_bytes) keeps.bytes);
      images =
          subst (λ (b : Names). IfSome (g.bytes new) (λ _. (c : List ℕ) → g.is_image new c → HasLog c (birth_of b) groups)) (sym same.birth)
          (fewer_images (g.bytes volume) (g.bytes new) (λ c. HasLog c (birth_of log.birth) groups) (g.is_image volume) (g.is_image new) only.same_bytes (λ c image. only.no_image_more c (counts_now (g.moment volume) c only.time.later image)) keeps.images);
    }

    -- the group was put behind the closed gate
    pub keeps_staged : (groups : List FrameGroup) (group : FrameGroup) → g.bytes new ≡ option_map (with_staged log.end group) (g.bytes volume) → g.size new ≡ log.end + 1 + length (sealed_bytes group) → IsSettled g new
        → KeepsLog g log volume groups → KeepsLog g new_log new groups
    keeps_staged groups group bytes size settled keeps =
        let birth = birth_of log.birth in
        let staged : IfSome (g.bytes new) (λ all. HasLog all birth groups) =
        if_made (g.bytes volume) (g.bytes new) (with_staged log.end group) (λ all. HasLog all birth groups) bytes
        (if_told (g.bytes volume) (λ all. HasLog all birth groups) (λ all. HasLog (with_staged log.end group all) birth groups)
        (λ all is has. subst (λ n. HasLog (with_staged n group all) birth groups) (sym keeps.is_log.end) (with_staged_group birth groups all has group)) keeps.bytes) in
        record {
          is_log = still groups keeps.is_log;
          follow = keeps.follow;
          gate = omega (arith, same.end, size);
          bytes = subst (λ (b : Names). IfSome (g.bytes new) (λ all. HasLog all (birth_of b) groups)) (sym same.birth) staged;
          images =
              subst (λ (b : Names). IfSome (g.bytes new) (λ _. (c : List ℕ) → g.is_image new c → HasLog c (birth_of b) groups)) (sym same.birth)
              (read_images (λ c. HasLog c birth groups) (g.bytes new) (g.is_image new) (g.is_image new) settled staged (λ c left. left));
        }

  -- what was held stands behind the closed gate
  pub held_staged : (group : FrameGroup) → HoldsNext g log volume group → g.bytes new ≡ option_map (λ all. take (log.end + 1) all ++ held_piece (g.held volume)) (g.bytes volume) → g.bytes new ≡ option_map (with_staged log.end group) (g.bytes volume)
  held_staged group holds bytes = bytes ∙ ap (λ (held : Option (ℕ × List ℕ)). option_map (λ all. take (log.end + 1) all ++ held_piece held) (g.bytes volume)) holds.held

  pub bytes_staged : (group : FrameGroup) → new_log.end ≡ log.end → log.end < g.size volume → ((all : List ℕ) → g.bytes volume ≡ Some all → length all ≡ g.size volume)
      → g.bytes new ≡ option_map (with_staged log.end group) (g.bytes volume) → IfSome (g.bytes new) (λ all. drop (new_log.end + 1) all ≡ sealed_bytes group)
  bytes_staged group end below told bytes =
      if_made (g.bytes volume) (g.bytes new) (with_staged log.end group) (λ all. drop (new_log.end + 1) all ≡ sealed_bytes group) bytes
      (all_told (g.bytes volume) (λ all. drop (new_log.end + 1) (with_staged log.end group all) ≡ sealed_bytes group)
      (λ all is. let long = told all is in drop_at (take (log.end + 1) all) (sealed_bytes group) (new_log.end + 1) (omega (arith, length-take (log.end + 1) all, long, below, end))))

  module _ (groups : List FrameGroup) (keeps : KeepsLog g log volume groups) where
    abbrev birth : Birth
    birth = birth_of log.birth

    -- what a crash leaves while the group is put behind the gate
    pub during_stage : (since : List ℕ → Type 0) → Follows (IsBehind log.end) (g.is_image volume) since → IfSome (g.bytes volume) (λ _. (c : List ℕ) → since c → HasLog c (birth_of log.birth) groups)
    during_stage since follows =
        if_told (g.bytes volume) (λ _. (c : List ℕ) → g.is_image volume c → HasLog c birth groups) (λ _. (c : List ℕ) → since c → HasLog c birth groups)
        (λ all is images c left.
        let from = follows c left in behind birth groups from.0 (images from.0 from.1) c (subst (λ n. IsBehind n from.0 c) keeps.is_log.end from.2)) keeps.images

    module _ (group : FrameGroup) (staged : HasStaged g log volume group) where
      order : first_broken (order_rules (last_root first_root groups) group.root) ≡ None
      order = subst (λ (r : RevisionRoot). first_broken (order_rules r group.root) ≡ None) (ap (λ (rows : List GroupRow). root_behind first_root rows) keeps.is_log.rows ∙ same_root first_root first_place groups) staged.follows

      -- each byte that is put on the gate
      each : (P : ℕ → List ℕ → Type 0)
          → ((all : List ℕ) → HasLog all birth groups → drop (gate_behind groups + 1) all ≡ sealed_bytes group → (c : List ℕ) → Puts (gate_behind groups) all c → P (gate_behind groups) c)
          → IfSome (g.bytes volume) (λ all. (c : List ℕ) → Puts log.end all c → P log.end c)
      each P map =
          both_told (g.bytes volume) (λ all. HasLog all birth groups) (λ all. drop (log.end + 1) all ≡ sealed_bytes group) (λ all. (c : List ℕ) → Puts log.end all c → P log.end c)
          (λ all has at. subst (λ n. (c : List ℕ) → Puts n all c → P n c) (sym keeps.is_log.end) (map all has (subst (λ n. drop (n + 1) all ≡ sealed_bytes group) keeps.is_log.end at))) keeps.bytes staged.bytes

      -- what a crash leaves while the gate is opened
      pub during_seal : (since : List ℕ → Type 0) → Follows (Puts log.end) (g.is_image volume) since
          → IfSome (g.bytes volume) (λ _. (c : List ℕ) → since c → HasLog c (birth_of log.birth) groups ⊎ HasLog c (birth_of log.birth) (groups ++ group ∷ []))
      during_seal since follows =
          step_images (Puts log.end) (λ c. HasLog c birth groups ⊎ HasLog c birth (groups ++ group ∷ [])) (g.bytes volume) (g.is_image volume) since staged.settled
          (each (λ _ c. HasLog c birth groups ⊎ HasLog c birth (groups ++ group ∷ [])) (λ all has at c put. puts birth groups all has group staged.is_group order at c put)) follows

      gate_opened : IfSome (g.bytes volume) (λ all. (c : List ℕ) → Puts log.end all c → HasLog (slice_set c log.end 1) birth (groups ++ group ∷ []))
      gate_opened = each (λ n c. HasLog (slice_set c n 1) birth (groups ++ group ∷ [])) (λ all has at c put. opened birth groups all has group staged.is_group order at c put)

      pub opened_seal : (since : List ℕ → Type 0) → Follows (Puts log.end) (g.is_image volume) since
          → IfSome (g.bytes volume) (λ _. (c : List ℕ) → since c → HasLog (slice_set c log.end 1) (birth_of log.birth) (groups ++ group ∷ []))
      opened_seal since follows =
          step_images (Puts log.end) (λ c. HasLog (slice_set c log.end 1) birth (groups ++ group ∷ [])) (g.bytes volume) (g.is_image volume) since staged.settled gate_opened follows

      -- the gate is open, and the log has the group
      pub keeps_sealed : new_log.birth ≡ log.birth → listed new_log.groups ≡ listed log.groups ++ row_at (log.end + 1) group ∷ [] → new_log.end + 1 ≡ g.size volume → g.size new ≡ g.size volume
          → g.bytes new ≡ option_map (λ all. slice_set all log.end 1) (g.bytes volume) → IsSettled g new → KeepsLog g new_log new (groups ++ group ∷ [])
      keeps_sealed same rows end size bytes settled =
          let more = groups ++ group ∷ [] in
          let place : log.end + 1 ≡ first_place + groups_size groups = omega (arith, keeps.is_log.end) in
          let sealed : IfSome (g.bytes new) (λ all. HasLog all birth more) =
          if_made (g.bytes volume) (g.bytes new) (λ all. slice_set all log.end 1) (λ all. HasLog all birth more) bytes
          (if_told (g.bytes volume) (λ all. (c : List ℕ) → Puts log.end all c → HasLog (slice_set c log.end 1) birth more) (λ all. HasLog (slice_set all log.end 1) birth more) (λ all is put. put all (inl refl)) gate_opened) in
          record {
            is_log = record {
              rows = rows ∙ (λ i. keeps.is_log.rows i ++ row_at (place i) group ∷ []) ∙ sym (rows_from-append first_place groups group);
              end = omega (arith, end, staged.size, keeps.is_log.end, length-append (frame_group_bytes group) (0 ∷ []), length-group group staged.is_group, groups_size-append groups group);
            };
            follow = follow-append first_root groups group keeps.follow staged.is_group order;
            gate = omega (arith, end, size);
            bytes = subst (λ (b : Names). IfSome (g.bytes new) (λ all. HasLog all (birth_of b) more)) (sym same) sealed;
            images =
                subst (λ (b : Names). IfSome (g.bytes new) (λ _. (c : List ℕ) → g.is_image new c → HasLog c (birth_of b) more)) (sym same)
                (read_images (λ c. HasLog c birth more) (g.bytes new) (g.is_image new) (g.is_image new) settled sealed (λ c left. left));
          }

  -- the gate of a staged group is open
  pub bytes_sealed : (group : FrameGroup) → HasStaged g log volume group → ((all : List ℕ) → g.bytes volume ≡ Some all → length all ≡ g.size volume)
      → g.bytes new ≡ option_map (λ all. slice_set all log.end 1) (g.bytes volume) → g.bytes new ≡ option_map (with_sealed log.end group) (g.bytes volume)
  bytes_sealed group staged told bytes =
      bytes
      ∙ map_same (g.bytes volume) (λ all. slice_set all log.end 1) (with_sealed log.end group)
      (if_told (g.bytes volume) (λ all. drop (log.end + 1) all ≡ sealed_bytes group) (λ all. slice_set all log.end 1 ≡ with_sealed log.end group all)
      (λ all is at.
      let long = told all is in
      set_gate log.end all (sealed_bytes group) (omega (arith, long, staged.size)) (subst (λ n. drop n all ≡ sealed_bytes group) (add-one log.end) at)) staged.bytes)
