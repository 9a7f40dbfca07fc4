-- Items that come one behind another, and runs that go on.
use Rattle.std.proofs.Common.{◌≡◌, ◌∙◌, ℕ, List, [], ◌∷◌, ◌++◌, refl, ap, sym, subst, append_assoc, append-nil}
use Rattle.sx_run.specs.Item.{Item, single, quit, IsItem, AreSingles, AreItems, EndsInQuit}
use Rattle.sx_run.specs.Run.{Terms, Course, Gives, Run}
use Rattle.sx_run.specs.declared.line.Line.{Line}

-- one more line that does not end the run
pub AreSingles-append : (lines : List (List ℕ)) (items : List Item) (line : List ℕ) (said : Line) → AreSingles lines items → IsItem line (single said) → AreSingles (lines ++ line ∷ []) (items ++ single said ∷ [])
AreSingles-append [] [] line said are is = (is, tt)
AreSingles-append [] (item ∷ items) line said are is = absurd are
AreSingles-append (first ∷ lines) [] line said are is = absurd are
AreSingles-append (first ∷ lines) (single one ∷ items) line said are is = (are.0, AreSingles-append lines items line said are.1 is)
AreSingles-append (first ∷ lines) (quit ∷ items) line said are is = absurd are

-- lines none of which ends the run, and no other
pub AreItems-all : (lines : List (List ℕ)) (items : List Item) → AreSingles lines items → AreItems lines items
AreItems-all [] [] are = refl
AreItems-all [] (item ∷ items) are = absurd are
AreItems-all (line ∷ lines) [] are = absurd are
AreItems-all (line ∷ lines) (single said ∷ items) are = (are.0, AreItems-all lines items are.1)
AreItems-all (line ∷ lines) (quit ∷ items) are = absurd are

-- and then one that does
pub AreItems-quit : (lines : List (List ℕ)) (items : List Item) (line : List ℕ) (more : List (List ℕ)) → AreSingles lines items → IsItem line quit → AreItems (lines ++ line ∷ more) (items ++ quit ∷ [])
AreItems-quit [] [] line more are is = (is, refl)
AreItems-quit [] (item ∷ items) line more are is = absurd are
AreItems-quit (first ∷ lines) [] line more are is = absurd are
AreItems-quit (first ∷ lines) (single said ∷ items) line more are is = (are.0, AreItems-quit lines items line more are.1 is)
AreItems-quit (first ∷ lines) (quit ∷ items) line more are is = absurd are

pub EndsInQuit-append : (items : List Item) → EndsInQuit (items ++ quit ∷ [])
EndsInQuit-append [] = tt
EndsInQuit-append (single said ∷ items) = EndsInQuit-append items
EndsInQuit-append (quit ∷ items) = tt

-- a run goes on by one item
pub Run-append : (terms : Terms) (old mid new : Course) (items : List Item) (item : Item) (out more : List ℕ)
    → Run terms old items out mid → Gives terms mid item more new → Run terms old (items ++ item ∷ []) (out ++ more) new
Run-append terms old mid new [] item out more run gives =
    let first = subst (λ (course : Course). Gives terms course item more new) run.1 gives in
    let bytes : out ++ more ≡ more ++ [] = ap (λ (b : List ℕ). b ++ more) run.0 ∙ sym (append-nil more) in
    (new, more, [], first, (refl, refl), bytes)
Run-append terms old mid new (first ∷ items) item out more run gives = (
  run.0,
  run.1,
  run.2 ++ more,
  run.3,
  Run-append terms run.0 mid new items item run.2 more run.4 gives,
  ap (λ (b : List ℕ). b ++ more) run.5 ∙ append_assoc run.1 run.2 more,
)
