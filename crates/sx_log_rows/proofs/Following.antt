-- The groups that the rows commit follow one another.
use Rattle.std.proofs.Common.{◌≡◌, ◌∙◌, ℕ, List, [], ◌∷◌, ◌++◌, Result, Ok, Err, OnOk, refl, ap, sym, subst, lit<, lit≤, rules, FitsSigned, w64, pos}
use Rattle.sha2.proofs.Facts256.{length-sha256}
use Rattle.sx_layout.specs.FrameGroup.{FrameGroup, IsFrameGroup}
use Rattle.sx_log.specs.Committing.{FollowsRows, IsNext, sealed_bytes}
use Rattle.sx_log.specs.Kept.{row_at}
use Rattle.sx_log.specs.declared.log.GroupRow.{GroupRow}
use Rattle.sx_log_rows.specs.Commits.{empty_frame, first_group, leaf_frame, second_group}

time_fits : FitsSigned w64 (pos 1000)
time_fits = search rules

first_is : IsFrameGroup first_group
first_is = record {
  root = record { revision = lit< tt; time = time_fits; first_frame = lit< tt; frames = lit< tt; node_root = lit< tt; path_root = lit< tt; next = lit< tt; nodes = lit< tt; paths = lit< tt; body = lit< tt };
  rows = ((lit< tt, length-sha256 leaf_frame), tt);
  frames = refl;
  body = refl;
  size = lit≤ tt;
}

second_is : IsFrameGroup second_group
second_is = record {
  root = record { revision = lit< tt; time = time_fits; first_frame = lit< tt; frames = lit< tt; node_root = lit< tt; path_root = lit< tt; next = lit< tt; nodes = lit< tt; paths = lit< tt; body = lit< tt };
  rows = ((lit< tt, length-sha256 empty_frame), ((lit< tt, length-sha256 leaf_frame), tt));
  frames = refl;
  body = refl;
  size = lit≤ tt;
}

pub first_next : (rows : List GroupRow) (bytes : List ℕ) → rows ≡ [] → bytes ≡ sealed_bytes first_group → IsNext rows bytes first_group
first_next rows bytes none are = record { is_group = first_is; follows = subst (λ (r : List GroupRow). FollowsRows r first_group) (sym none) refl; bytes_are = are }

pub second_next : (rows : List GroupRow) (bytes : List ℕ) (place : ℕ) → rows ≡ row_at place first_group ∷ [] → bytes ≡ sealed_bytes second_group → IsNext rows bytes second_group
second_next rows bytes place first are = record { is_group = second_is; follows = subst (λ (r : List GroupRow). FollowsRows r second_group) (sym first) refl; bytes_are = are }

-- the first group is entered in a log without groups
pub entered_first : {E : Type 0} (result : Result (Unit {0}) E) (rows new : List GroupRow) (bytes : List ℕ) (place : ℕ) → rows ≡ [] → bytes ≡ sealed_bytes first_group
    → OnOk result ((group : FrameGroup) → IsNext rows bytes group → new ≡ rows ++ row_at place group ∷ []) → OnOk result (new ≡ row_at place first_group ∷ [])
entered_first (Err e) rows new bytes place none are entered = tt
entered_first (Ok u) rows new bytes place none are entered = entered first_group (first_next rows bytes none are) ∙ ap (λ (r : List GroupRow). r ++ row_at place first_group ∷ []) none
