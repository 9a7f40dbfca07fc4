-- What is left of a walk along an axis, over records that tell the rows of a document.
use Rattle.std.specs.Prelude.{◌≡◌, ◌+◌, ◌≤◌, ℕ, zero, suc, Bool, true, false, List, [], ◌∷◌, ◌++◌, length, reverse, Option, None, Some, option_map}
use Rattle.sx_tree.specs.declared.query.Axis.{Axis}
use Rattle.sx_tree.specs.declared.query.Axis.TheVariants.{Child, Descendant, Ancestor, Following, Preceding, FollowingSibling, PrecedingSibling}
use Rattle.sx_tree.specs.declared.record.Kind.{Kind}
use Rattle.sx_tree.specs.declared.record.NodeRecord.{NodeRecord}
use Rattle.sx_tree.specs.declared.record.Step.{Step}
use Rattle.sx_view.specs.Records.{RecordMap}
use Rattle.sx_model.specs.Holes.{Frame, plug, around_hole}
use Rattle.sx_model.specs.Records.{NodeRow, at_top, first_of, last_of, rows}
use Rattle.sx_model.specs.Tree.{Forest, beside, numbers}
use Rattle.sx_cursor.specs.Told.{Tells, TellsAll}
use Rattle.sx_axes.specs.declared.course.Course.{Course}

-- Where a walk goes on: with this node and those beside it, then around the node above. So many nodes above were visited on the
-- way down.
pub record Onward : Type 0 where
  pub next : Option ℕ
  pub up : Option ℕ
  pub levels : ℕ

abbrev pub onward_of : Course → Onward
onward_of course = record { next = course.next; up = course.up; levels = course.levels }

-- ---- along one link

-- the link of each node along which an axis goes on; those that go through trees have none alone
abbrev pub link_of : Axis → NodeRow → Option ℕ
link_of Child w = w.right
link_of Descendant w = None
link_of Ancestor w = w.parent
link_of Following w = None
link_of Preceding w = None
link_of FollowingSibling w = w.right
link_of PrecedingSibling w = w.left

-- these nodes are told one after the other, each by the link of the one before
abbrev pub IsChain : (NodeRow → Option ℕ) → RecordMap NodeRecord → Option ℕ → List ℕ → Type 0
IsChain link m next [] = next ≡ None
IsChain link m next (k ∷ ks) = (w : NodeRow) × ((next ≡ Some k) × Tells (Some m) k (Some w) × IsChain link m (link w) ks)

abbrev pub IsAlong : (NodeRow → Option ℕ) → RecordMap NodeRecord → Onward → List ℕ → ℕ → Type 0
IsAlong link m on listed visits = IsChain link m on.next listed × (visits ≡ length listed)

-- ---- through trees

-- the number of the node above a hole
abbrev pub above_hole : List Frame → Option ℕ
above_hole frames = option_map (λ n. n.number) (around_hole frames).above

-- the numbers in preorder behind a hole, no further than so many frames up, or to the end of the document
abbrev pub behind_hole : Bool → ℕ → List Frame → List ℕ
behind_hole to_end levels [] = []
behind_hole false zero (frame ∷ frames) = []
behind_hole true zero (frame ∷ frames) = numbers frame.behind ++ behind_hole true zero frames
behind_hole to_end (suc levels) (frame ∷ frames) = numbers frame.behind ++ behind_hole to_end levels frames

-- the numbers before a hole, the nearest first: with the nodes of so many frames, and without those of the others
abbrev pub before_hole : ℕ → List Frame → List ℕ
before_hole levels [] = []
before_hole zero (frame ∷ frames) = reverse (numbers frame.before) ++ before_hole zero frames
before_hole (suc levels) (frame ∷ frames) = frame.node.number ∷ (reverse (numbers frame.before) ++ before_hole levels frames)

-- how many visits it takes to list these, where each node above that was not visited on the way down takes one if they go to the end
abbrev pub Takes : Bool → ℕ → List ℕ → List Frame → ℕ → Type 0
Takes false levels listed frames visits = visits ≡ length listed
Takes true levels listed frames visits = visits + levels ≡ length listed + length frames

-- In preorder from the first of these trees on, which stand in a hole of trees whose rows are told.
pub record IsAhead (to_end : Bool) (m : RecordMap NodeRecord) (on : Onward) (listed : List ℕ) (visits : ℕ) : Type 0 where
  pub local : Kind → List ℕ → ℕ
  pub number : List Step → ℕ
  pub frames : List Frame
  pub before : Forest
  pub trees : Forest
  pub tells : TellsAll (Some m) (rows local number at_top (plug frames (beside before trees)))
  pub starts : first_of trees ≡ on.next
  pub up : on.next ≡ None → (on.levels ≡ 0 → to_end ≡ true) → above_hole frames ≡ on.up
  pub within : on.levels ≤ length frames
  pub lists : listed ≡ numbers trees ++ behind_hole to_end on.levels frames
  pub takes : Takes to_end on.levels listed frames visits

-- Back from the last of these trees on. The nodes above that were visited on the way down are listed on the way up.
pub record IsBack (m : RecordMap NodeRecord) (on : Onward) (listed : List ℕ) (visits : ℕ) : Type 0 where
  pub local : Kind → List ℕ → ℕ
  pub number : List Step → ℕ
  pub frames : List Frame
  pub trees : Forest
  pub behind : Forest
  pub tells : TellsAll (Some m) (rows local number at_top (plug frames (beside trees behind)))
  pub starts : last_of trees ≡ on.next
  pub up : on.next ≡ None → above_hole frames ≡ on.up
  pub within : on.levels ≤ length frames
  pub lists : listed ≡ reverse (numbers trees) ++ before_hole on.levels frames
  pub takes : visits + on.levels + on.levels ≡ length listed + length frames

-- ---- along an axis

abbrev pub IsLeftOf : Axis → RecordMap NodeRecord → Onward → List ℕ → ℕ → Type 0
IsLeftOf Child m on listed visits = IsAlong (link_of Child) m on listed visits
IsLeftOf Descendant m on listed visits = IsAhead false m on listed visits
IsLeftOf Ancestor m on listed visits = IsAlong (link_of Ancestor) m on listed visits
IsLeftOf Following m on listed visits = IsAhead true m on listed visits
IsLeftOf Preceding m on listed visits = IsBack m on listed visits
IsLeftOf FollowingSibling m on listed visits = IsAlong (link_of FollowingSibling) m on listed visits
IsLeftOf PrecedingSibling m on listed visits = IsAlong (link_of PrecedingSibling) m on listed visits

-- These numbers are left of the walk, and take so many visits.
unfoldable pub IsLeft : RecordMap NodeRecord → Course → List ℕ → ℕ → Type 0
IsLeft m course listed visits = IsLeftOf course.axis m (onward_of course) listed visits

-- How many reads so many visits may take: one each along one link; through trees each node that was visited on the way down is
-- read once more on the way up.
abbrev pub reads_of : Axis → ℕ → ℕ → ℕ
reads_of Child levels visits = visits
reads_of Descendant levels visits = levels + visits + visits
reads_of Ancestor levels visits = visits
reads_of Following levels visits = levels + visits + visits
reads_of Preceding levels visits = levels + visits + visits
reads_of FollowingSibling levels visits = visits
reads_of PrecedingSibling levels visits = visits

abbrev pub reads_left : Course → ℕ
reads_left course = reads_of course.axis course.levels course.left

-- ---- ways

-- the axis lists the nodes along one link
abbrev pub GoesAlong : Axis → Type 0
GoesAlong Child = Unit {0}
GoesAlong Descendant = ⊥
GoesAlong Ancestor = Unit {0}
GoesAlong Following = ⊥
GoesAlong Preceding = ⊥
GoesAlong FollowingSibling = Unit {0}
GoesAlong PrecedingSibling = Unit {0}

-- it lists them in preorder through trees
abbrev pub GoesAhead : Axis → Type 0
GoesAhead Child = ⊥
GoesAhead Descendant = Unit {0}
GoesAhead Ancestor = ⊥
GoesAhead Following = Unit {0}
GoesAhead Preceding = ⊥
GoesAhead FollowingSibling = ⊥
GoesAhead PrecedingSibling = ⊥

-- it goes on to the end of the document
abbrev pub goes_to_end : Axis → Bool
goes_to_end Child = false
goes_to_end Descendant = false
goes_to_end Ancestor = false
goes_to_end Following = true
goes_to_end Preceding = false
goes_to_end FollowingSibling = false
goes_to_end PrecedingSibling = false

-- ---- the start

-- the link of the node along which its axis begins
abbrev pub first_link : Axis → NodeRow → Option ℕ
first_link Child w = w.first
first_link Descendant w = w.first
first_link Ancestor w = w.parent
first_link Following w = w.right
first_link Preceding w = w.left
first_link FollowingSibling w = w.right
first_link PrecedingSibling w = w.left

-- how many visits the axis of a node takes that has these above it
abbrev pub visits_on : Axis → List ℕ → List ℕ → ℕ
visits_on Child listed above = length listed
visits_on Descendant listed above = length listed
visits_on Ancestor listed above = length listed
visits_on Following listed above = length listed + length above
visits_on Preceding listed above = length listed + length above
visits_on FollowingSibling listed above = length listed
visits_on PrecedingSibling listed above = length listed

-- nothing is left
abbrev pub HasEnded : Course → Type 0
HasEnded course = (course.next ≡ None) × (course.up ≡ None)

abbrev pub turns_of : Option ℕ → Option ℕ → ℕ → ℕ
turns_of None None reads = 0
turns_of None (Some p) reads = suc reads
turns_of (Some k) up reads = suc reads

-- how many steps are left, at most
abbrev pub turns_left : Course → ℕ
turns_left course = turns_of course.next course.up (reads_left course)
