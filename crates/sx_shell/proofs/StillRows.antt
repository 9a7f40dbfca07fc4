-- Lines of `show` and `check`, and how commands are due to end.
use Rattle.std.proofs.Common.{◌≡◌, ◌++◌, ℕ, pos, List, [], ◌∷◌, codes, None, Some, refl, ap, arith}
use Rattle.std.proofs.lemmas.Fmt.{decimal_digit}
use Rattle.sx_layout.specs.Birth.{Birth}
use Rattle.sx_model.specs.Commit.{Commit}
use Rattle.sx_shell.specs.Still.{checked_line, due_status, shown_line}
use Rattle.sx_shell.specs.declared.command.Wanted.TheVariants.{Create, Show, Check}
use Rattle.sx_shell.specs.declared.status.Status.TheVariants.{Done, Unborn, Born, Missing}

checked : checked_line 2 2 ≡ codes "ok 2 2\n"
checked = ap (λ (digits : List ℕ). codes "ok " ++ (digits ++ (32 ∷ (digits ++ 10 ∷ [])))) (decimal_digit 2 (omega arith))

shown : shown_line [] 0 ≡ codes "empty\n"
shown = refl

birth : Birth
birth = record { window = 1; from = codes "validFrom"; to = codes "validTo" }

commit : Commit
commit = record { time = pos 1000; edits = [] }

due_missing : due_status (Show (codes "f") 2) (Some birth) (commit ∷ []) ≡ Missing 2 1
due_missing = refl

due_shown : due_status (Show (codes "f") 1) (Some birth) (commit ∷ []) ≡ Done
due_shown = refl

due_unborn : due_status (Check (codes "f")) None [] ≡ Unborn
due_unborn = refl

due_born : due_status (Create (codes "f") 1 (codes "a") (codes "b")) (Some birth) [] ≡ Born
due_born = refl
