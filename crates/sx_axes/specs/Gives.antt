-- What each step of a walk gives.
use Rattle.std.specs.Prelude.{◌≡◌, ◌+◌, ◌<◌, ℕ, List, [], ◌∷◌, ◌++◌, Option, None, Some, Result, Ok, Err}
use Rattle.sx_tree.specs.declared.record.NodeRecord.{NodeRecord}
use Rattle.sx_view.specs.Records.{IsDamaged, RecordMap}
use Rattle.sx_view.specs.declared.fault.Fault.{Fault}
use Rattle.sx_axes.specs.Course.{HasEnded, IsLeft, reads_left}
use Rattle.sx_axes.specs.declared.course.Course.{Course}
use Rattle.sx_axes.specs.declared.course.Passage.{Passage}
use Rattle.sx_axes.specs.declared.course.Passage.TheVariants.{Comes, Passed, Ended}

-- What was left begins with these numbers, the others are left now, and each visit is counted.
unfoldable pub Passes : Option (RecordMap NodeRecord) → Course → List ℕ → Course → Type 0
Passes o old these new =
    (m : RecordMap NodeRecord) → o ≡ Some m → (listed : List ℕ) (visits : ℕ) → IsLeft m old listed visits
    → (rest : List ℕ) × ((more : ℕ) × ((listed ≡ these ++ rest) × IsLeft m new rest more × (more + old.left ≡ visits + new.left)))

-- Nothing was left.
unfoldable pub Ends : Option (RecordMap NodeRecord) → Course → Type 0
Ends o course = (m : RecordMap NodeRecord) → o ≡ Some m → (listed : List ℕ) (visits : ℕ) → IsLeft m course listed visits → listed ≡ []

-- What was left takes more visits than are left.
unfoldable pub TakesMore : Option (RecordMap NodeRecord) → Course → Type 0
TakesMore o course = (m : RecordMap NodeRecord) → o ≡ Some m → (listed : List ℕ) (visits : ℕ) → IsLeft m course listed visits → course.left < visits

-- one read on: to a node that is listed, past one that is not, or to the end
abbrev pub Advances : Option (RecordMap NodeRecord) → Course → Passage → Course → Type 0
Advances o old (Comes k) new = Passes o old (k ∷ []) new
Advances o old Passed new = Passes o old [] new
Advances o old Ended new = Ends o old

-- a node that is listed, or the end
abbrev pub Follows : Option (RecordMap NodeRecord) → Course → Option ℕ → Course → Type 0
Follows o old None new = Ends o old
Follows o old (Some k) new = Passes o old (k ∷ []) new

-- A step of a walk: a node that is listed, the end, or a fault, after which the walk has ended. Damage tells that what was left takes
-- more visits than are left.
abbrev pub Gives : Option (RecordMap NodeRecord) → Course → Option (Result ℕ Fault) → Course → Type 0
Gives o old None new = Ends o old × HasEnded new
Gives o old (Some (Ok k)) new = Passes o old (k ∷ []) new
Gives o old (Some (Err fault)) new = (IsDamaged fault → TakesMore o old) × HasEnded new

-- why a step is a fault
abbrev pub IfFault : (Fault → Type 0) → Option (Result ℕ Fault) → Type 0
IfFault P None = Unit {0}
IfFault P (Some (Ok k)) = Unit {0}
IfFault P (Some (Err fault)) = P fault

-- fewer reads are left, but at the end
abbrev pub GetsNearer : Course → Passage → Course → Type 0
GetsNearer old (Comes k) new = reads_left new < reads_left old
GetsNearer old Passed new = reads_left new < reads_left old
GetsNearer old Ended new = Unit {0}
