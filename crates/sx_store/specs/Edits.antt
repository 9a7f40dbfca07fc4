-- What an edit does to a book.
use Rattle.std.specs.Prelude.{◌≡◌, [], ◌∷◌, ◌++◌, Result, Ok, Err}
use Rattle.sx_model.specs.Edit.{Edit, apply, told_of}
use Rattle.sx_model.specs.State.{State}
use Rattle.sx_run.specs.Run.{Book, current}
use Rattle.sx_store.specs.Shows.{Shows}
use Rattle.sx_store.specs.declared.fault.WriterFault.{WriterFault}
use Rattle.sx_store.specs.declared.fault.WriterFault.TheVariants as faults
use Rattle.sx_store.specs.declared.ledger.Ledger.{Ledger}
use Rattle.sx_tree.specs.declared.edit.Edited.{Edited}
use Rattle.sx_volume.specs.declared.spot.Spot.{Ghosts}

-- the book with one more open edit
abbrev pub with_edit : Book → Edit → Book
with_edit book edit = record book { edits = book.edits ++ edit ∷ [] }

-- An accepted edit joins the open ones. A refused one has its refusal, and leaves the open ones as they are.
abbrev pub Edits : {S : Type 0} → Ghosts S → Book → Edit → Result Edited WriterFault → Ledger S → Type 0
Edits g book edit (Ok edited) new =
    (state : State) × (apply edit (current book) ≡ Ok state) × (edited ≡ told_of edit (current book) state) × Shows g new (with_edit book edit)
Edits g book edit (Err (faults.Stopped stage)) new = ⊥
Edits g book edit (Err (faults.Refused refusal)) new = (apply edit (current book) ≡ Err refusal) × Shows g new book
Edits g book edit (Err faults.Failed) new = Shows g new book
Edits g book edit (Err (faults.Damaged damage)) new = ⊥
Edits g book edit (Err faults.OutOfMemory) new = Shows g new book
