-- What is kept of a group is read from its bytes.
use Rattle.std.proofs.Common.{◌≡◌, ◌∙◌, ℕ, ◌+◌, ◌*◌, ◌≤◌, List, [], ◌∷◌, ◌++◌, length, take, Some, ap, sym, arith, length-append}
use Rattle.std.proofs.Math.Seq.{take-append-add}
use Rattle.sha2.proofs.Facts256.{length-sha256}
use Rattle.sha2.specs.Sha256.{sha256}
use Rattle.sx_frame.specs.declared.table.FrameRow.{FrameRow}
use Rattle.sx_layout.proofs.FrameGroups.{group_parts}
use Rattle.sx_layout.proofs.Tables.{length-table_bytes, rows_again}
use Rattle.sx_layout.specs.FrameGroup.{AreRows, FrameGroup, IsFrameGroup, head_part, rows_at, table_bytes}
use Rattle.sx_log.specs.Committing.{sealed_bytes}
use Rattle.sx_log.specs.Kept.{row_at}
use Rattle.sx_log.specs.declared.log.GroupRow.{GroupRow}
use Rattle.sx_root.specs.Root.{IsRoot, root_bytes}
use Rattle.sx_root.specs.declared.root.RevisionRoot.{RevisionRoot}

-- how the head of a group is read
abbrev pub ReadsHead : List ℕ → RevisionRoot → List ℕ → Type 0
ReadsHead bytes given left = (root : RevisionRoot) (rest : List ℕ) → IsRoot root → bytes ≡ root_bytes root ++ rest → (Some given ≡ Some root) × (left ≡ rest)

module _ (bytes left : List ℕ) (given : RevisionRoot) (group : FrameGroup) (reads : ReadsHead bytes given left) (is : IsFrameGroup group) (are : bytes ≡ sealed_bytes group) where
  behind_table : List ℕ
  behind_table = sha256 (head_part group.root group.table) ++ (group.body ++ 0 ∷ [])

  head_told : (given ≡ group.root) × (left ≡ table_bytes group.table ++ behind_table)
  unfolding behind_table
  head_told =
      let both = reads group.root (table_bytes group.table ++ behind_table) is.root (are ∙ group_parts group (0 ∷ [])) in
      let same : given ≡ group.root = cc both.0 in
      (same, both.1)

  digest_long : 32 ≤ length behind_table
  unfolding behind_table
  digest_long = omega (arith, length-append (sha256 (head_part group.root group.table)) (group.body ++ 0 ∷ []), length-sha256 (head_part group.root group.table))

  frames_are : given.frames ≡ length group.table
  frames_are = ap (λ (r : RevisionRoot). r.frames) head_told.0 ∙ sym is.frames

  -- the table and the digest are there whole
  pub table_long : 36 * given.frames + 32 ≤ length left
  table_long = omega (arith, frames_are, ap length head_told.1, length-append (table_bytes group.table) behind_table, length-table_bytes group.table is.rows, digest_long)

  pub row_read : (place : ℕ) (table : List FrameRow) (part rest : List ℕ) → part ≡ take (36 * given.frames + 32) left → part ≡ table_bytes table ++ rest → AreRows table → length table ≡ given.frames
      → record { root = given; place = place; table = table } ≡ row_at place group
  row_read place table part rest read written rows count =
      let size : 36 * given.frames + 32 ≡ length (table_bytes group.table) + 32 = omega (arith, frames_are, length-table_bytes group.table is.rows) in
      let front : part ≡ table_bytes group.table ++ take 32 behind_table = read ∙ (λ i. take (size i) (head_told.1 i)) ∙ take-append-add (table_bytes group.table) behind_table 32 in
      let same : table ≡ group.table =
      sym (rows_again table rest rows) ∙ ap (λ n. rows_at n (table_bytes table ++ rest)) (count ∙ frames_are) ∙ ap (λ (b : List ℕ). rows_at (length group.table) b) (sym written ∙ front)
      ∙ rows_again group.table (take 32 behind_table) is.rows in
      let row : RevisionRoot → List FrameRow → GroupRow = λ root list. record { root = root; place = place; table = list } in
      λ i. row (head_told.0 i) (same i)
