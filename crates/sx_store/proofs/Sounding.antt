-- Over the frames of commits no check tells damage.
use Rattle.std.proofs.Common.{◌≡◌, ◌∙◌, ℕ, suc, inl, inr, Bool, true, false, List, [], ◌∷◌, refl, ap, sym, subst, Option, Some, Result, Ok, Err, IfSome}
use Rattle.std.specs.Prelude.{slice_get, IfErr, IsErrOf}
use Rattle.std.specs.FinMap as fin
use Rattle.sha2.specs.Sha256.{sha256}
use Rattle.sx_bytes.specs.declared.damage.Damage.{Damage}
use Rattle.sx_model.specs.State.{State}
use Rattle.sx_paths.specs.OfState.{path_rows}
use Rattle.sx_reader.specs.Asked.{BreaksAsking, ExplainsEach}
use Rattle.sx_reader.specs.Documents.{TellsState}
use Rattle.sx_reader.specs.Frames.{BreaksFrame, ExplainsRead}
use Rattle.sx_reader.specs.declared.cell.Cell.{Cell}
use Rattle.sx_reader.proofs.Keeping.{whole-keeps}
use Rattle.sx_view.specs.declared.fault.Fault.{Fault}
use Rattle.sx_view.specs.declared.fault.Fault.TheVariants.{Damaged}
use Rattle.sx_volume.specs.declared.spot.Spot.{Ghosts}
use Rattle.sx_whole.specs.Stands.{whole_frame}

as-frame : (whole : Bool) (place : ℕ) (digest bytes : List ℕ) (damage : Damage) → BreaksAsking whole place digest bytes damage → BreaksFrame place digest bytes damage
as-frame true place digest bytes damage is = is
as-frame false place digest bytes damage is = inl is

sound-cell : {S : Type 0} (g : Ghosts S) (tells rose : Type 0) (cell : Cell S) (whole : Bool) (damage : Damage) → (state : State) × TellsState g state cell → tells
    → ExplainsRead g tells rose cell (BreaksAsking whole) (Damaged damage) → ⊥
sound-cell g tells rose cell whole damage (state, told) now (bytes, read, broken) =
    let is : bytes ≡ whole_frame told.body = subst (λ (o : Option (List ℕ)). IfSome o (λ all. bytes ≡ all)) told.content (read.told now) in
    let body = told.is_body in
    whole-keeps cell.place cell.row.digest bytes (fin.entries body.records) (path_rows state) damage (ap sha256 is ∙ sym told.digest) (is ∙ ap whole_frame body.body_is) body.whole read.fits
    (as-frame whole cell.place cell.row.digest bytes damage broken)

sound-each : {S : Type 0} (g : Ghosts S) (tells rose : Type 0) (asked : List Bool) (cells : List (Cell S)) (damage : Damage)
    → ((k : ℕ) (cell : Cell S) → slice_get cells k ≡ Some cell → (state : State) × TellsState g state cell) → tells → ExplainsEach g tells rose asked cells (Damaged damage) → ⊥
sound-each g tells rose [] cells damage told now explains = explains
sound-each g tells rose (whole ∷ asked) [] damage told now explains = explains
sound-each g tells rose (whole ∷ asked) (cell ∷ cells) damage told now (inl is) = sound-cell g tells rose cell whole damage (told 0 cell refl) now is
sound-each g tells rose (whole ∷ asked) (cell ∷ cells) damage told now (inr is) = sound-each g tells rose asked cells damage (λ k. told (suc k)) now is

pub sound-check : {S : Type 0} (g : Ghosts S) (tells rose : Type 0) (asked : List Bool) (cells : List (Cell S)) (r : Result (Unit {0}) Fault) (damage : Damage)
    → ((k : ℕ) (cell : Cell S) → slice_get cells k ≡ Some cell → (state : State) × TellsState g state cell) → tells → IfErr r (ExplainsEach g tells rose asked cells) → IsErrOf r (Damaged damage) → ⊥
sound-check g tells rose asked cells (Ok x) damage told now explains is = cc is
sound-check g tells rose asked cells (Err fault) damage told now explains is =
    let same : fault ≡ Damaged damage = cc is in
    sound-each g tells rose asked cells damage told now (subst (ExplainsEach g tells rose asked cells) same explains)
