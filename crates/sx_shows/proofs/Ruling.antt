-- The groups that show commits keep the rules that opening tests.
use Rattle.std.proofs.Common.{◌≡◌, ◌∙◌, ℕ, ℤ, zero, suc, ◌+◌, ◌-◌, ◌^◌, ◌<◌, ◌≤◌, Bool, true, false, not, nat_lt, List, [], ◌∷◌, ◌++◌, length, take, None, refl, ap, sym, subst, arith, length-append}
use Rattle.std.specs.Prelude.{◌==◌, ◌≤ℤ◌, FitsSigned, int_lt, map}
use Rattle.std.specs.Int.{to_be_bytes, w32, w64}
use Rattle.std.specs.Int.Signed.{≤ℤ_refl}
use Rattle.std.specs.List.{range_with_len}
use Rattle.std.proofs.lemmas.Bool.Decides.{nat_tests}
use Rattle.std.proofs.lemmas.Int.{ints}
use Rattle.sha2.proofs.Facts256.{length-sha256}
use Rattle.sx_frame.specs.Frame.{frame_bytes}
use Rattle.sx_frame.specs.Violation.{Violation}
use Rattle.sx_frame.specs.declared.frame.Frame.{Frame}
use Rattle.sx_layout.specs.Birth.{Birth}
use Rattle.sx_layout.specs.FrameGroup.{AreRows, FrameGroup, IsFrameGroup, first_root, frames_after, joined, row_of}
use Rattle.sx_layout.specs.Rule.{first_broken}
use Rattle.sx_layout.specs.Rules.{Follow, KeepCounts, count_rules, frames_size, least_frame, length_rule, log_limit, order_rules, path_limit, table_rules}
use Rattle.sx_layout.proofs.Broken.{unbroken}
use Rattle.sx_model.specs.Commit.{AreLegal, Commit, IsLegal, first_time, last_time, state_of}
use Rattle.sx_model.specs.Edit.{after, number_limit}
use Rattle.sx_model.specs.State.{State, empty_document}
use Rattle.sx_model.proofs.Revisions.{few_nodes, revision-sound, revision_grows, some_node}
use Rattle.sx_root.specs.declared.root.RevisionRoot.{RevisionRoot}
use Rattle.sx_shows.specs.Leads.{Descend}
use Rattle.sx_shows.specs.Seats.{Nodes, Paths, Seat, Side, frames_up_to, made, references, root_reference, top_seat}
use Rattle.sx_shows.specs.Shows.{AreWithin, IsWithin, Shows, frame_of, frames_of, group_of, new_seats, root_of}
use Rattle.sx_shows.proofs.Leading.{length_map}
use Rattle.sx_shows.proofs.Numbers.{descend_take, descends}

-- ---- tests

equal : (a b : ℕ) → a ≡ b → not (a == b) ≡ false
equal a b is = grind (arith, nat_tests)

least : (a b : ℕ) → b ≤ a → nat_lt a b ≡ false
least a b is = grind (arith, nat_tests)

not_before : (a b : ℤ) → b ≤ℤ a → int_lt a b ≡ false
not_before a b is = by (int_lt a b) refl
  where
    by : (t : Bool) → int_lt a b ≡ t → t ≡ false
    by true less = absurd (omega (arith, ints, is, less))
    by false less = refl

abbrev NoneBroken : List (Bool × Violation) → Type 0
NoneBroken [] = Unit {0}
NoneBroken (rule ∷ rules) = (rule.0 ≡ false) × NoneBroken rules

none_of : (rules : List (Bool × Violation)) → NoneBroken rules → first_broken rules ≡ None
none_of [] none = refl
none_of (rule ∷ rules) none = unbroken rule.0 rule.1 rules none.0 ∙ none_of rules none.1

-- ---- times

times_grow : (r : ℕ) (commits : List Commit) (time : ℤ) (state : State) → AreLegal time state commits → last_time time (take r commits) ≤ℤ last_time time (take (suc r) commits)
times_grow zero [] time state legal = ≤ℤ_refl time
times_grow zero (c ∷ commits) time state legal = legal.1
times_grow (suc r) [] time state legal = ≤ℤ_refl time
times_grow (suc r) (c ∷ commits) time state legal = times_grow r commits c.time (after c.edits state) legal.3

times_fit : (r : ℕ) (commits : List Commit) (time : ℤ) (state : State) → FitsSigned w64 time → AreLegal time state commits → FitsSigned w64 (last_time time (take r commits))
times_fit zero commits time state fits legal = fits
times_fit (suc r) [] time state fits legal = fits
times_fit (suc r) (c ∷ commits) time state fits legal = times_fit r commits c.time (after c.edits state) legal.0 legal.3

-- ---- tables

joined_size : (frames : List (List ℕ)) → frames_size (map row_of frames) ≡ length (joined frames)
joined_size [] = refl
joined_size (f ∷ frames) = omega (arith, length-append f (joined frames), joined_size frames)

length_frame : (frame : Frame) → least_frame ≤ length (frame_bytes frame)
length_frame frame = omega (arith, length-append (to_be_bytes w32 (length frame.body)) frame.body)

long_frames : (make : Seat → Frame) (seats : List Seat) (more : List (Bool × Violation)) → NoneBroken more
    → NoneBroken (map length_rule (map row_of (map (λ seat. frame_bytes (make seat)) seats)) ++ more)
long_frames make [] more none = none
long_frames make (seat ∷ seats) more none = (least (length (frame_bytes (make seat))) least_frame (length_frame (make seat)), long_frames make seats more none)

short_rows : (frames : List (List ℕ)) → length (joined frames) < 2 ^ 32 → AreRows (map row_of frames)
short_rows [] short = tt
short_rows (f ∷ frames) short =
    let sum = length-append f (joined frames) in
    ((omega arith, length-sha256 f), short_rows frames (omega arith))

-- ---- one group behind another

reference_le : (bound : ℕ) (frames : List ℕ) → Descend bound frames → root_reference frames ≤ bound
reference_le bound [] all = omega arith
reference_le bound (n ∷ ns) all = let below = all.0 in omega arith

-- the root is that of a revision of the commits, as far as the next one looks at it
record IsBefore (commits : List Commit) (last : RevisionRoot) (r : ℕ) : Type 0 where
  revision : last.revision ≡ r
  time : last.time ≡ last_time first_time (take r commits)
  frames : frames_after last ≡ frames_up_to (new_seats commits) r
  next : last.next ≡ (state_of commits r).next
  paths : last.paths ≡ length (state_of commits r).paths

module _ (commits : List Commit) (w : ℕ) (legal : IsLegal commits) where
  first_before : IsBefore commits first_root 0
  first_before = record { revision = refl; time = refl; frames = refl; next = refl; paths = refl }

  frames_before : (r : ℕ) → frames_up_to (new_seats commits) (suc r - 1) ≡ frames_up_to (new_seats commits) r
  frames_before r = let less : suc r - 1 ≡ r = omega arith in ap (frames_up_to (new_seats commits)) less

  frames_at : (r : ℕ) → frames_after (group_of commits w (suc r)).root ≡ frames_up_to (new_seats commits) (suc r)
  frames_at r = ap (λ (n : ℕ). n + length (new_seats commits (suc r))) (frames_before r)

  group_before : (r : ℕ) → IsBefore commits (group_of commits w (suc r)).root (suc r)
  group_before r = record { revision = refl; time = refl; frames = frames_at r; next = refl; paths = refl }

  counts_kept : (last : RevisionRoot) (r : ℕ) → IsBefore commits last r → first_broken (count_rules last (group_of commits w (suc r)).root) ≡ None
  counts_kept last r before =
      let sound = revision-sound commits (suc r) legal in
      let grows = revision_grows commits r in
      let next_grows = grows.next in
      let paths_grow = grows.paths in
      let last_next = before.next in
      let last_paths = before.paths in
      let next_small = sound.next in
      let paths_small = sound.paths in
      let some = some_node (state_of commits (suc r)) sound in
      let few = few_nodes (state_of commits (suc r)) sound in
      let root = (group_of commits w (suc r)).root in
      none_of (count_rules last root) (
        least root.next last.next (omega arith),
        (least number_limit root.next (omega arith), (least root.nodes 1 (omega arith), (least root.next root.nodes (omega arith), (least root.paths last.paths (omega arith), (least path_limit root.paths (omega arith), tt))))),
      )

  table_kept : (r : ℕ) → first_broken (table_rules (group_of commits w r).root (group_of commits w r).table) ≡ None
  table_kept r =
      none_of (table_rules (group_of commits w r).root (group_of commits w r).table)
      (long_frames (frame_of commits w r) (new_seats commits r) _ (equal (length (joined (frames_of commits w r))) (frames_size (map row_of (frames_of commits w r))) (sym (joined_size (frames_of commits w r))), tt))

  again : (r n : ℕ) → range_with_len (suc r + 1) n ≡ range_with_len (suc (suc r)) n
  again r n = let same : suc r + 1 ≡ suc (suc r) = omega arith in ap (λ (k : ℕ). range_with_len k n) same

  counts_from : (r n : ℕ) (last : RevisionRoot) → IsBefore commits last r → KeepCounts last (map (group_of commits w) (range_with_len (suc r) n))
  counts_from r zero last before = tt
  counts_from r (suc n) last before =
      let rest = counts_from (suc r) n (group_of commits w (suc r)).root (group_before r) in (
        counts_kept last r before,
        table_kept (suc r),
        subst (λ (rs : List ℕ). KeepCounts (group_of commits w (suc r)).root (map (group_of commits w) rs)) (sym (again r n)) rest,
      )

  root_le : (side : Side) (r : ℕ) → root_of commits w r side ≤ frames_up_to (new_seats commits) r
  root_le side r =
      reference_le (frames_up_to (new_seats commits) r) (references (new_seats commits) w r (top_seat side))
      (descend_take 1 (frames_up_to (new_seats commits) r) (made (new_seats commits) r (top_seat side)) (descends (new_seats commits) r (top_seat side)))

  order_kept : (last : RevisionRoot) (r : ℕ) → IsBefore commits last r → IsWithin (group_of commits w (suc r)) → first_broken (order_rules last (group_of commits w (suc r)).root) ≡ None
  order_kept last r before within =
      let root = (group_of commits w (suc r)).root in
      let revision = before.revision in
      let last_frames = before.frames in
      let first = frames_before r in
      let all = frames_at r in
      let node = root_le Nodes (suc r) in
      let path = root_le Paths (suc r) in
      let time : last.time ≤ℤ root.time = subst (λ (t : ℤ). t ≤ℤ root.time) (sym before.time) (times_grow r commits first_time empty_document legal) in
      none_of (order_rules last root) (
        equal root.revision (last.revision + 1) (omega arith),
        (
          not_before root.time last.time time,
          (
            equal root.first_frame (frames_after last) (first ∙ sym last_frames),
            (
              least log_limit (frames_after root) within.frames,
              (least log_limit root.revision within.revisions, (least (frames_after root) root.node_root (omega arith), (least (frames_after root) root.path_root (omega arith), tt))),
            ),
          ),
        ),
      )

  is_group : (r : ℕ) → IsWithin (group_of commits w (suc r)) → IsFrameGroup (group_of commits w (suc r))
  is_group r within =
      let sound = revision-sound commits (suc r) legal in
      let all = frames_at r in
      let node = root_le Nodes (suc r) in
      let path = root_le Paths (suc r) in
      let few = few_nodes (state_of commits (suc r)) sound in
      let next_small = sound.next in
      let paths_small = sound.paths in
      let revisions = within.revisions in
      let frames = within.frames in
      let bytes = within.bytes in
      record {
        root = record {
          revision = omega arith;
          time = times_fit (suc r) commits first_time empty_document (record { sfits = omega arith }) legal;
          first_frame = omega arith;
          frames = omega arith;
          node_root = omega arith;
          path_root = omega arith;
          next = omega arith;
          nodes = omega arith;
          paths = omega arith;
          body = omega arith;
        };
        rows = short_rows (frames_of commits w (suc r)) (omega arith);
        frames = length_map row_of (frames_of commits w (suc r)) ∙ length_map (λ seat. frame_bytes (frame_of commits w (suc r) seat)) (new_seats commits (suc r));
        body = refl;
        size = bytes;
      }

  follow_from : (r n : ℕ) (last : RevisionRoot) → IsBefore commits last r → AreWithin (map (group_of commits w) (range_with_len (suc r) n)) → Follow last (map (group_of commits w) (range_with_len (suc r) n))
  follow_from r zero last before within = tt
  follow_from r (suc n) last before within =
      let others = subst (λ (rs : List ℕ). AreWithin (map (group_of commits w) rs)) (again r n) within.1 in
      let rest = follow_from (suc r) n (group_of commits w (suc r)).root (group_before r) others in (
        is_group r within.0,
        order_kept last r before within.0,
        subst (λ (rs : List ℕ). Follow (group_of commits w (suc r)).root (map (group_of commits w) rs)) (sym (again r n)) rest,
      )

-- ---- all groups

pub counts_keep : (birth : Birth) (groups : List FrameGroup) (commits : List Commit) → Shows birth groups commits → KeepCounts first_root groups
counts_keep birth groups commits shows =
    subst (λ (g : List FrameGroup). KeepCounts first_root g) (sym shows.groups_are)
    (counts_from commits birth.window shows.legal 0 (length commits) first_root (first_before commits birth.window shows.legal))

pub order_keeps : (birth : Birth) (groups : List FrameGroup) (commits : List Commit) → Shows birth groups commits → AreWithin groups → Follow first_root groups
order_keeps birth groups commits shows within =
    subst (λ (g : List FrameGroup). Follow first_root g) (sym shows.groups_are)
    (follow_from commits birth.window shows.legal 0 (length commits) first_root (first_before commits birth.window shows.legal)
    (subst (λ (g : List FrameGroup). AreWithin g) shows.groups_are within))
