-- The text of a revision is that of its Document.
use Rattle.std.proofs.Common.{◌≡◌, ◌∙◌, ℕ, ℤ, zero, suc, nat_eq, Bool, true, false, cond, List, [], ◌∷◌, ◌++◌, take, Option, Some, option_map, Result, Ok, Err, refl, ap, arith}
use Rattle.std.specs.Global.{Vec}
use Rattle.std.specs.Prelude.{IfOk}
use Rattle.std.proofs.lemmas.Bool.{false≢true}
use Rattle.sx_bytes.proofs.Fronts.{some_is}
use Rattle.sx_bytes.specs.declared.damage.Damage.{Damage}
use Rattle.sx_model.proofs.Sound.{legal-sound}
use Rattle.sx_model.specs.Commit.{AreLegal, Commit, IsLegal, first_time, state_of}
use Rattle.sx_model.specs.Edit.{after}
use Rattle.sx_model.specs.State.{State, empty_document}
use Rattle.sx_model.specs.Tree.{Forest, IsWellFormed, Spot, no_trees, tree_then}
use Rattle.sx_model.specs.TreeText.{document_text, text_at, texts}
use Rattle.sx_query.specs.Gives.{Gives}
use Rattle.sx_run.specs.Answers.{ValidNames, text_said}
use Rattle.sx_run.specs.declared.reply.Said.TheVariants as said
use Rattle.sx_shell.specs.Still.{answered_line, shown_line, shown_text, unanswered_status}
use Rattle.sx_shell.specs.declared.status.Status.{Status}
use Rattle.sx_shell.specs.declared.status.Status.TheVariants.{Damaged}
use Rattle.sx_tree.specs.declared.query.Answer.{Answer}
use Rattle.sx_tree.specs.declared.query.Answer.TheVariants as answers
use Rattle.sx_tree.specs.declared.query.Query.TheVariants.{Text}
use Rattle.sx_view.specs.declared.fault.QueryFault.{QueryFault}
use Rattle.sx_view.specs.declared.fault.QueryFault.TheVariants as questions

-- ---- revisions of legal commits

legal-take : (r : ℕ) (commits : List Commit) (time : ℤ) (state : State) → AreLegal time state commits → AreLegal time state (take r commits)
legal-take zero commits time state legal = tt
legal-take (suc r) [] time state legal = tt
legal-take (suc r) (commit ∷ commits) time state legal =
    (legal.0, legal.1, legal.2, legal-take r commits commit.time (after commit.edits state) legal.3)

well-formed : (commits : List Commit) (r : ℕ) → IsLegal commits → IsWellFormed (state_of commits r).trees
well-formed commits r legal = (legal-sound (take r commits) (legal-take r commits first_time empty_document legal)).well_formed

-- ---- the text of node 0

spot-is : (s : Spot) (other : Option Spot) (t : Bool) → t ≡ true
    → option_map (λ (s : Spot). texts false (tree_then s.node s.below no_trees)) (cond t (Some s) other) ≡ Some (texts false (tree_then s.node s.below no_trees))
spot-is s other true is = refl
spot-is s other false is = absurd (false≢true is)

at_top : (trees : Forest) → IsWellFormed trees → text_at 0 trees ≡ Some (document_text trees)
at_top no_trees is = absurd (omega (arith, is.one))
at_top (tree_then n below no_trees) is =
    let number : n.number ≡ 0 = some_is n.number 0 is.zero in
    let here : nat_eq 0 n.number ≡ true = ap (λ (k : ℕ). nat_eq 0 k) number in
    spot-is (record { above = []; siblings = tree_then n below no_trees; node = n; below = below }) _ (nat_eq 0 n.number) here
at_top (tree_then n below (tree_then m more rest)) is = absurd (omega (arith, is.one))

pub document-text : (commits : List Commit) (r : ℕ) → IsLegal commits → text_at 0 (state_of commits r).trees ≡ Some (document_text (state_of commits r).trees)
document-text commits r legal = at_top (state_of commits r).trees (well-formed commits r legal)

-- ---- its line

answer_is : (answer other : Answer) → said.Answer answer ≡ said.Answer other → answer ≡ other
answer_is answer other is = cc

pub answered-text : (answer : Answer) (text : List ℕ) → said.Answer answer ≡ text_said 0 (Some text) → answered_line answer ≡ shown_text text ++ 10 ∷ []
answered-text answer [] is = ap answered_line (answer_is answer answers.Empty is)
answered-text answer (byte ∷ bytes) is = ap answered_line (answer_is answer (answers.Text (byte ∷ bytes)) is)

pub never_absent : (node : ℕ) (text : List ℕ) → said.NoNode node ≡ text_said 0 (Some text) → ⊥
never_absent node [] is = absurd cc
never_absent node (byte ∷ bytes) is = absurd cc

never_path : (path : ℕ) (text : List ℕ) → said.NoPath path ≡ text_said 0 (Some text) → ⊥
never_path path [] is = absurd cc
never_path path (byte ∷ bytes) is = absurd cc

-- the line of the answer is that of the revision
pub line-is : (names : ValidNames) (commits : List Commit) (r : ℕ) (answer : Answer) (line : Result (Vec ℕ) Status) → IsLegal commits → Gives names (state_of commits r) (Text 0) (Ok answer)
    → IfOk line (λ v. v.items ≡ answered_line answer) → IfOk line (λ v. v.items ≡ shown_line commits r)
line-is names commits r answer (Err status) legal gives is = tt
line-is names commits r answer (Ok v) legal gives is =
    is ∙ answered-text answer (document_text (state_of commits r).trees) (gives ∙ ap (text_said 0) (document-text commits r legal))

-- the question is answered, unless a read failed or memory ran out
pub undamaged-text : (names : ValidNames) (commits : List Commit) (r : ℕ) (fault : QueryFault) (damage : Damage) → IsLegal commits → Gives names (state_of commits r) (Text 0) (Err fault)
    → unanswered_status fault ≡ Damaged damage → ⊥
undamaged-text names commits r (questions.Missing asked seen) damage legal gives is = gives
undamaged-text names commits r (questions.NoNode node) damage legal gives is = never_absent node (document_text (state_of commits r).trees) (gives ∙ ap (text_said 0) (document-text commits r legal))
undamaged-text names commits r (questions.NoPath path) damage legal gives is = never_path path (document_text (state_of commits r).trees) (gives ∙ ap (text_said 0) (document-text commits r legal))
undamaged-text names commits r questions.Failed damage legal gives is = absurd cc
undamaged-text names commits r (questions.Damaged found) damage legal gives is = gives
undamaged-text names commits r questions.OutOfMemory damage legal gives is = absurd cc
