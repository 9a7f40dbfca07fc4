use Rattle.std.proofs.Common.{◌≡◌, ◌-◌, length, arith, List, [], ◌∷◌, ℕ, refl}
use Rattle.sx_script.proofs.Trimmed.{without_return-at, without_return-other}
use Rattle.sx_run.specs.Line.{without_return}
use Rattle.sx_script.proofs.commands.trimmed.Goals as goal
use Rattle.sx_script.proofs.commands.trimmed.Goals.{else-len-gt0-via-then-len-gt0+else-line-len-eq13, else-len-gt0-via-else-len-gt0}

pub returns-then-line-len-eq13 : goal.returns-then-line-len-eq13
returns-then-line-len-eq13 c = without_return-at c.args.line.now (length c.args.line.now - 1) (omega arith) c.if-line-len-eq13.true

empty_line : (line : List ℕ) → length line ≡ 0 → line ≡ without_return line
empty_line [] none = refl
empty_line (byte ∷ line) none = absurd (omega (arith, none))

pub returns-else-len-gt0 : goal.returns-else-len-gt0
returns-else-len-gt0 c =
    elim c.else-len-gt0.branch [
      | else-len-gt0-via-then-len-gt0+else-line-len-eq13 w ↦ without_return-other c.args.line.now (length c.args.line.now - 1) (omega arith) w.if-line-len-eq13.false
      | else-len-gt0-via-else-len-gt0 w ↦ empty_line c.args.line.now (omega arith)
    ]
