use Rattle.std.proofs.Common.{◌≡◌, ◌∙◌, ◌+◌, ◌<◌, ◌≤◌, Some, ap, sym, suc, arith, drop, length, slice_index_or, [], ◌∷◌, List, ℕ}
use Rattle.std.proofs.Math.Seq.{drop-cons}
use Rattle.std.specs.Option.{option_map}
use Rattle.sx_frame.specs.Violation.{damage_at, tell}
use Rattle.sx_frame.specs.declared.table.FrameRow.{FrameRow}
use Rattle.sx_layout.specs.Rule.{first_broken}
use Rattle.sx_log.proofs.Ruled.{left_rules, one_less, short_row, sum_differs, sum_same}
use Rattle.sx_log.proofs.rules.table_damage.Goals as goal

-- the row that is tested, and those behind it
next : (rows : List FrameRow) (i : ℕ) → i < length rows → drop i rows ≡ slice_index_or rows i (record { bytes = 0; digest = [] }) ∷ drop (i + 1) rows
next rows i below =
    let one : suc i ≡ i + 1 = omega arith in drop-cons rows i (record { bytes = 0; digest = [] }) below ∙ ap (λ n. slice_index_or rows i (record { bytes = 0; digest = [] }) ∷ drop n rows) one

pub overflow_add-sum : goal.overflow_add-sum
overflow_add-sum c =
    omega (arith, c.requires, c.loop-row-test.true, c.loop-row.invariant.small, c.bytes_of-bytes.ensures.small)

pub loop-row-preserved : goal.loop-row-preserved
loop-row-preserved c =
    let rows : List FrameRow = c.args.table.now in
    let root = c.args.root.now in
    let i : ℕ = c.loop-row.row-index in
    let row : FrameRow = slice_index_or rows i (record { bytes = 0; digest = [] }) in
    let bytes : c.bytes_of-bytes.result ≡ row.bytes = c.bytes_of-bytes.ensures.value in
    let least : 5 ≤ row.bytes = omega (arith, bytes, c.if-bytes-lt-LEAST_FRAME.false) in
    record {
      so_far = c.loop-row.invariant.so_far ∙ ap (λ (l : List FrameRow). first_broken (left_rules root c.loop-row.sum l)) (next rows i c.loop-row-test.true)
          ∙ one_less root c.loop-row.sum row (drop (i + 1) rows) least ∙ ap (λ n. first_broken (left_rules root (c.loop-row.sum + n) (drop (i + 1) rows))) (sym bytes);
      small = omega (arith, c.bytes_of-bytes.ensures.small, c.loop-row.invariant.small);
    }

pub returns-then-bytes-lt-LEAST_FRAME : goal.returns-then-bytes-lt-LEAST_FRAME
returns-then-bytes-lt-LEAST_FRAME c =
    let rows : List FrameRow = c.args.table.now in
    let root = c.args.root.now in
    let i : ℕ = c.loop-row.row-index in
    let row : FrameRow = slice_index_or rows i (record { bytes = 0; digest = [] }) in
    let bytes : c.bytes_of-bytes.result ≡ row.bytes = c.bytes_of-bytes.ensures.value in
    let broken = c.loop-row.invariant.so_far ∙ ap (λ (l : List FrameRow). first_broken (left_rules root c.loop-row.sum l)) (next rows i c.loop-row-test.true)
    ∙ short_row root c.loop-row.sum row (drop (i + 1) rows) (omega (arith, bytes, c.if-bytes-lt-LEAST_FRAME.true)) in
    ap Some c.number_damage.ensures ∙ ap (λ n. Some (damage_at c.args.place (tell 15 5 n))) bytes ∙ ap (option_map (damage_at c.args.place)) (sym broken)

pub returns-then-from-sum : goal.returns-then-from-sum
returns-then-from-sum c =
    let body : c.from.result ≡ c.args.root.now.body = c.from.ensures in
    ap Some c.number_damage-then-from-sum.ensures ∙ ap (λ n. Some (damage_at c.args.place (tell 15 c.loop-row.sum n))) c.from-then-from-sum.ensures
    ∙ sum_differs c.args.place c.args.root.now c.loop-row.sum c.args.table.now c.loop-row.row-index c.loop-row-test.false c.loop-row.invariant.so_far (λ same. c.if-from-sum.true (body ∙ same))

pub returns : goal.returns
returns c = sum_same c.args.place c.args.root.now c.loop-row.sum c.args.table.now c.loop-row.row-index c.loop-row-test.false c.loop-row.invariant.so_far (sym c.from.ensures ∙ c.if-from-sum.false)
