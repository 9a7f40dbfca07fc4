-- What a volume, its spots and its ends tell, and what a run asks of the ends.
use Rattle.std.specs.Prelude.{ℕ, ◌≡◌, ◌≤◌, ◌+◌, ◌-◌, ◌^◌, min, List, [], ◌∷◌}
use Rattle.sx_layout.specs.Birth.{Birth}
use Rattle.sx_outside.specs.Faults.{Rose}
use Rattle.sx_run.specs.Run.{Client, Terms}
use Rattle.sx_store.specs.Room.{room}
use Rattle.sx_volume.specs.declared.end.ReadEnd as end
use Rattle.sx_volume.specs.declared.spot.Spot as spot
use Rattle.sx_volume.specs.declared.volume.Volume as volume

-- what is told of a volume, of its spots and of its ends; and the birth that the volume has
pub record Medium (V S E : Type 0) : Type 1 where
  pub birth : Birth
  pub volume : volume.Ghosts V S E
  pub spot : spot.Ghosts S
  pub end : end.Ghosts E S

abbrev pub medium : {V S E : Type 0} → Birth → volume.Ghosts V S E → spot.Ghosts S → end.Ghosts E S → Medium V S E
medium birth v s e = record { birth = birth; volume = v; spot = s; end = e }

-- what a run needs to know of a volume with this birth
abbrev pub terms_of : Birth → Terms
terms_of birth = record { room = room; names = record { from = birth.from; to = birth.to } }

-- ---- ends

-- each end tells what it reads
abbrev pub AllTell : {S E : Type 0} → end.Ghosts E S → List E → Type 0
AllTell e [] = Unit {0}
AllTell e (one ∷ ends) = e.tells one × AllTell e ends

-- No end's count of faults falls, and one that tells what it reads goes on to tell it.
abbrev pub EndsGoOn : {S E : Type 0} → end.Ghosts E S → List E → List E → Type 0
EndsGoOn e [] [] = Unit {0}
EndsGoOn e [] (new ∷ news) = ⊥
EndsGoOn e (old ∷ olds) [] = ⊥
EndsGoOn e (old ∷ olds) (new ∷ news) = (e.faults old ≤ e.faults new) × (e.tells old → e.tells new) × EndsGoOn e olds news

-- the count rose so often, or stands at the last value of its type
abbrev pub RoseBy : ℕ → ℕ → ℕ → Type 0
RoseBy n before now = min (before + n) (2 ^ 64 - 1) ≤ now

-- Since the first the faults of each client's end rose as often as a failed read has ended a command of the client.
abbrev pub HaveRisen : {S E : Type 0} → end.Ghosts E S → List E → List Client → List E → Type 0
HaveRisen e [] [] [] = Unit {0}
HaveRisen e [] [] (end ∷ ends) = ⊥
HaveRisen e [] (client ∷ clients) ends = ⊥
HaveRisen e (first ∷ firsts) [] ends = ⊥
HaveRisen e (first ∷ firsts) (client ∷ clients) [] = ⊥
HaveRisen e (first ∷ firsts) (client ∷ clients) (end ∷ ends) = RoseBy client.failed (e.faults first) (e.faults end) × HaveRisen e firsts clients ends

-- the faults rise with the reads that failed for clients
abbrev pub Rises : {S E : Type 0} → end.Ghosts E S → List E → List E → List Client → List Client → Type 0
Rises {E = E} e old new before after = (firsts : List E) → HaveRisen e firsts before old → HaveRisen e firsts after new

-- no end's faults rose
abbrev pub NoneRose : {S E : Type 0} → end.Ghosts E S → List E → List E → Type 0
NoneRose e [] news = Unit {0}
NoneRose e (old ∷ olds) [] = Unit {0}
NoneRose e (old ∷ olds) (new ∷ news) = (Rose (e.faults old) (e.faults new) → ⊥) × NoneRose e olds news

-- no failed read has ended a command
abbrev pub NoneFailed : List Client → Type 0
NoneFailed [] = Unit {0}
NoneFailed (client ∷ clients) = (client.failed ≡ 0) × NoneFailed clients
