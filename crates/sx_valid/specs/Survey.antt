-- How far the search for valid objects has come, and what is left of it.
use Rattle.std.specs.Prelude.{◌≡◌, ◌+◌, ◌<◌, ◌≤◌, ◌⊎◌, ◌&&◌, ℕ, Bool, true, false, if◌then◌else◌, List, [], ◌∷◌, ◌++◌, reverse, Option, None, Some}
use Rattle.sx_tree.specs.declared.record.Kind.{Kind}
use Rattle.sx_tree.specs.declared.record.NodeRecord.{NodeRecord}
use Rattle.sx_view.specs.Records.{RecordMap}
use Rattle.sx_model.specs.Tree.{Forest, is_object, no_trees, size, tree_then}
use Rattle.sx_model.specs.Valid.{field, has_begun, has_not_ended, valid}
use Rattle.sx_cursor.specs.Damage.{IsLinked}
use Rattle.sx_valid.specs.Fields.{IsRow, reach}
use Rattle.sx_valid.specs.declared.asked.Asked.{Asked}
use Rattle.sx_valid.specs.declared.survey.Link.{Link}
use Rattle.sx_valid.specs.declared.survey.Survey.{Survey}

-- ---- one node

-- the node is an object, and with these children it is valid
abbrev pub is_valid : Asked → Kind → Forest → Bool
is_valid asked kind keys = is_object kind && (has_begun asked.time (field asked.from.now keys) && has_not_ended asked.time (field asked.to.now keys))

-- how many looks that takes
abbrev pub cost : Kind → Forest → ℕ
cost kind keys = if is_object kind then reach keys else 0

-- the answer of a node of this kind whose first child is this one, and the looks that are left of so many
unfoldable pub IsJudged : Option (RecordMap NodeRecord) → Asked → Kind → Option ℕ → ℕ → (Bool × ℕ) → Type 0
IsJudged o asked kind first looks answer =
    (m : RecordMap NodeRecord) → o ≡ Some m → (above : Option Kind) (keys : Forest) → IsRow m above first keys
    → (answer.0 ≡ is_valid asked kind keys) × (looks ≤ answer.1 + cost kind keys)

-- so many looks are too few
unfoldable pub AreTooFew : Option (RecordMap NodeRecord) → Kind → Option ℕ → ℕ → Type 0
AreTooFew o kind first looks =
    (m : RecordMap NodeRecord) → o ≡ Some m → (above : Option Kind) (keys : Forest) → IsRow m above first keys → looks < cost kind keys

-- ---- all of them

-- the links of a node
abbrev pub links_of : ℕ → Option ℕ → List Link
links_of from None = []
links_of from (Some to) = record { from = from; to = to } ∷ []

abbrev pub AreLinked : Option (RecordMap NodeRecord) → List Link → Type 0
AreLinked o [] = Unit {0}
AreLinked o (link ∷ links) = IsLinked o link.from link.to × AreLinked o links

-- how many looks it takes to judge all objects of these trees
abbrev pub need : Forest → ℕ
need no_trees = 0
need (tree_then n below rest) = cost n.kind below + (need below + need rest)

-- what is left of a search: these objects, which take so many visits and so many looks
pub record Rest : Type 0 where
  pub objects : List ℕ
  pub visits : ℕ
  pub looks : ℕ

abbrev pub rest_of : Asked → Forest → Rest → Rest
rest_of asked trees more = record {
  objects = valid asked.from.now asked.to.now asked.time trees ++ more.objects;
  visits = size trees + more.visits;
  looks = need trees + more.looks;
}

-- To each of these links stand trees side by side whose rows are told, and this is left of the search in them.
abbrev pub AreLeft : Asked → RecordMap NodeRecord → List Link → Rest → Type 0
AreLeft asked m [] rest = rest ≡ record { objects = []; visits = 0; looks = 0 }
AreLeft asked m (link ∷ links) rest =
    (above : Option Kind) × ((trees : Forest) × ((more : Rest) × (IsRow m above (Some link.to) trees × AreLeft asked m links more × (rest ≡ rest_of asked trees more))))

-- what searching comes to: these objects, or more visits or looks than were left
pub data Outcome : Type 0 where
  done : List ℕ → Outcome
  overrun : Outcome

abbrev pub IsOutcome : Survey → Outcome → Rest → Type 0
IsOutcome survey (done found) rest = found ≡ survey.found ++ rest.objects
IsOutcome survey overrun rest = (survey.left < rest.visits) ⊎ (survey.looks < rest.looks)

-- The outcome is that of searching behind all links.
unfoldable pub Searches : Option (RecordMap NodeRecord) → Asked → Survey → Outcome → Type 0
Searches o asked survey outcome =
    (m : RecordMap NodeRecord) → o ≡ Some m → (rest : Rest) → AreLeft asked m (reverse survey.pending.items) rest → IsOutcome survey outcome rest

-- The same, and before that from the node of this number on.
unfoldable pub SearchesFrom : Option (RecordMap NodeRecord) → Asked → ℕ → Survey → Outcome → Type 0
SearchesFrom o asked k survey outcome =
    (m : RecordMap NodeRecord) → o ≡ Some m → (above : Option Kind) (trees : Forest) → IsRow m above (Some k) trees
    → (rest : Rest) → AreLeft asked m (reverse survey.pending.items) rest → IsOutcome survey outcome (rest_of asked trees rest)

-- what comes from the new place comes from this node on
abbrev pub GoesInto : Option (RecordMap NodeRecord) → Asked → ℕ → Survey → Survey → Type 0
GoesInto o asked k old new = (outcome : Outcome) → Searches o asked new outcome → SearchesFrom o asked k old outcome

-- True: what comes from the new place comes from the old one. False: nothing was left.
abbrev pub GoesOn : Option (RecordMap NodeRecord) → Asked → Survey → Survey → Bool → Type 0
GoesOn o asked old new true = (outcome : Outcome) → Searches o asked new outcome → Searches o asked old outcome
GoesOn o asked old new false = Searches o asked old (done new.found)
