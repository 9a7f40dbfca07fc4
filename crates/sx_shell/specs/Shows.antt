-- What the shell's desk stands for.
use Rattle.std.specs.Prelude.{ℕ, ℤ, ◌≡◌, ◌≤◌, List, length, map, get_or, Option}
use Rattle.sx_run.specs.Client.{client_count}
use Rattle.sx_run.specs.Run.{Client, Course}
use Rattle.sx_shell.specs.Medium.{AllTell, Medium}
use Rattle.sx_store.specs.Shows as store
use Rattle.sx_store.specs.Shows.{birth_in, count_of}
use Rattle.sx_store.specs.Sound.{IsSound}
use Rattle.sx_store.specs.declared.ledger.Ledger.{Ledger}
use Rattle.sx_volume.specs.declared.spot.Spot as spot
use Rattle.sx_volume.specs.declared.volume.Volume as volume

abbrev pub revisions_of : List Client → List ℕ
revisions_of clients = map (λ client. client.revision) clients

-- The ledger shows the course's book, over a volume of this birth; the clients have these revisions open, and their ends tell what they read.
pub record Shows {V S E : Type 0} (g : Medium V S E) (ledger : Ledger S) (ends : List E) (revisions : List ℕ) (moments : Option (List ℤ)) (course : Course) : Type 0 where
  pub book : store.Shows g.spot ledger course.book
  pub birth : birth_in ledger ≡ g.birth
  pub tell : AllTell g.end ends
  pub clients : revisions ≡ revisions_of course.clients
  pub count : length course.clients ≡ client_count
  pub moments_are : course.moments ≡ moments

-- Whatever the volume stands for: it has what the ledger has, each client's revision is there, and each has an end.
pub record IsReady {V S E : Type 0} (g : volume.Ghosts V S E) (s : spot.Ghosts S) (volume : V) (ledger : Ledger S) (ends : List E) (revisions : List ℕ) : Type 0 where
  pub sound : IsSound g s volume ledger
  pub there : (client : ℕ) → get_or revisions client 0 ≤ count_of ledger
  pub each : length ends ≡ client_count
