-- How far a run over a script came, by the status that the program answered.
use Rattle.std.specs.Prelude.{ℕ, ◌≡◌, ◌⊎◌, List, [], ◌∷◌, ◌++◌, None, IsSome}
use Rattle.sx_run.specs.Item.{Item, IsItem, AreSingles, AreItems, EndsInQuit}
use Rattle.sx_run.specs.Lines.{lines_of, ended_lines_of}
use Rattle.sx_run.specs.Run.{Course, Gives, Run, Terms}
use Rattle.sx_shell.specs.declared.status.Status.{Status}
use Rattle.sx_shell.specs.declared.status.Status.TheVariants.{Done, Usage, ReadFault, WriteFault, VolumeFault, Damaged, NotOurs, Unborn, Born, Missing, OutOfMemory}

-- the bytes that the source had at the start, those that it has left, and those that were written
pub record Told : Type 0 where
  pub input : List ℕ
  pub left : List ℕ
  pub written : List ℕ

-- All items were run, and their replies are whole. Nothing behind `quit` was run.
pub record RanAll (terms : Terms) (start : Course) (told : Told) (end : Course) : Type 0 where
  pub items : List Item
  pub items_are : AreItems (lines_of told.input) items
  pub ran : Run terms start items told.written end
  pub read : (told.left ≡ []) ⊎ EndsInQuit items

-- all items that had ended in what was taken were run, and their replies are whole
pub record RanEnded (terms : Terms) (start : Course) (told : Told) (end : Course) : Type 0 where
  pub taken : List ℕ
  pub input_is : told.input ≡ taken ++ told.left
  pub items : List Item
  pub items_are : AreSingles (ended_lines_of taken) items
  pub ran : Run terms start items told.written end

-- The first lines were run, and their replies are whole.
pub record RanFirst (terms : Terms) (start : Course) (input written : List ℕ) (end : Course) : Type 0 where
  pub lines : List (List ℕ)
  pub more : List (List ℕ)
  pub lines_are : lines_of input ≡ lines ++ more
  pub items : List Item
  pub items_are : AreSingles lines items
  pub ran : Run terms start items written end

-- the item that comes first in these lines, what it is to write, and what it leaves
pub record Next (terms : Terms) (mid : Course) (lines : List (List ℕ)) (out : List ℕ) (end : Course) : Type 0 where
  pub line : List ℕ
  pub more : List (List ℕ)
  pub comes : lines ≡ line ∷ more
  pub item : Item
  pub item_is : IsItem line item
  pub gives : Gives terms mid item out end

-- The replies of the items before the last one that was run are whole. Its own may be cut.
pub record IsCut (terms : Terms) (start : Course) (told : Told) (end : Course) : Type 0 where
  pub mid : Course
  pub before : List ℕ
  pub front : List ℕ
  pub rest : List ℕ
  pub first : RanFirst terms start told.input before mid
  pub next : Next terms mid first.more (front ++ rest) end
  pub written_is : told.written ≡ before ++ front

-- The replies of the items before the one in which memory ran out are whole. That one wrote nothing, and may have been run.
pub record IsShort (terms : Terms) (start : Course) (told : Told) (end : Course) : Type 0 where
  pub mid : Course
  pub first : RanFirst terms start told.input told.written mid
  pub last : (end ≡ mid) ⊎ ((out : List ℕ) × Next terms mid first.more out end)

-- nothing was taken from the source, and nothing was written
abbrev pub IsNothing : Course → Told → Course → Type 0
IsNothing start told end = (told.written ≡ []) × (told.left ≡ told.input) × (end ≡ start)

-- From its start the run came to this end.
abbrev pub Outcome : Terms → Course → Told → Status → Course → Type 0
Outcome terms start told Done end = RanAll terms start told end × (end.book.stopped ≡ None)
Outcome terms start told ReadFault end = RanEnded terms start told end
Outcome terms start told WriteFault end = IsCut terms start told end
-- At opening nothing was run. Else all items were, and a commit had failed.
Outcome terms start told VolumeFault end = IsNothing start told end ⊎ (RanAll terms start told end × IsSome end.book.stopped)
Outcome terms start told OutOfMemory end = IsShort terms start told end
Outcome terms start told Usage end = IsNothing start told end
-- The volume stood for commits, so that no rule was broken.
Outcome terms start told (Damaged damage) end = ⊥
-- and it had a birth
Outcome terms start told (NotOurs first) end = ⊥
Outcome terms start told Unborn end = ⊥
Outcome terms start told Born end = ⊥
Outcome terms start told (Missing asked seen) end = ⊥
