-- The group that a commit makes.
use Rattle.std.proofs.Common.{◌≡◌, ◌∙◌, ℕ, ℤ, suc, ◌+◌, ◌^◌, ◌<◌, ◌≤◌, Bool, true, false, not, ◌||◌, List, [], ◌∷◌, ◌++◌, length, refl, ap, sym, subst, arith, append-nil, length-append, Option, Some, None, Result, Ok, Err, nat_lt}
use Rattle.std.specs.Prelude.{◌==◌, ◌≤ℤ◌, int_lt, IfErr, IsErrAnd, if◌then◌else◌}
use Rattle.std.specs.Int.{w32, to_be_bytes}
use Rattle.std.specs.Option.{option_map, option_or}
use Rattle.std.specs.Ordering.{nat_cmp}
use Rattle.std.specs.FinMap as fin
use Rattle.std.specs.FinMap.{find}
use Rattle.std.proofs.lemmas.Bool.Decides.{nat_tests}
use Rattle.std.proofs.lemmas.Int.{ints}
use Rattle.std.proofs.lemmas.List.{length-map}
use Rattle.sha2.proofs.Facts256.{length-sha256}
use Rattle.sx_edit.proofs.Looking.{shows-state}
use Rattle.sx_edit.specs.Edited.{rows_in}
use Rattle.sx_frame.specs.declared.table.FrameRow.{FrameRow}
use Rattle.sx_layout.specs.FrameGroup.{FrameGroup, frame_group_bytes, frames_after, group_limit, group_size, row_of}
use Rattle.sx_layout.specs.Rule.{first_broken}
use Rattle.sx_layout.specs.Rules.{log_limit, order_rules}
use Rattle.sx_log.specs.Committing.{sealed_bytes}
use Rattle.sx_log.specs.Room.{room_for}
use Rattle.sx_log.specs.declared.fault.RoomFault.{RoomFault}
use Rattle.sx_log.specs.declared.fault.RoomFault.TheVariants as rooms
use Rattle.sx_model.specs.Paths.{number_of}
use Rattle.sx_model.specs.Records.{NodeRow, around_children, at_top, first_of, row, rows}
use Rattle.sx_model.specs.Hash.{local_hash}
use Rattle.sx_tree.specs.declared.record.Step.{Step}
use Rattle.sx_model.specs.State.{State}
use Rattle.sx_model.specs.Tree.{Forest, IsWellFormed, no_trees, tree_then, size, tops}
use Rattle.sx_paths.specs.OfState.{path_rows}
use Rattle.sx_root.specs.Root.{IsRoot}
use Rattle.sx_root.specs.declared.root.RevisionRoot.{RevisionRoot}
use Rattle.sx_store.specs.Drafts.{IsReached, ShowsDraft}
use Rattle.sx_bytes.specs.Damage.{number_damage}
use Rattle.sx_store.specs.Groups.{HasTooMany, IsGroupAfter, IsGroupFault, IsRoomFor, count_in}
use Rattle.sx_store.specs.declared.group.TheConstants.{TOO_MANY_NODES}
use Rattle.sx_store.specs.Shows.{records_of}
use Rattle.sx_store.specs.declared.draft.Draft.{Draft}
use Rattle.sx_store.specs.declared.fault.CommitFault.{CommitFault}
use Rattle.sx_store.specs.declared.fault.CommitFault.TheVariants as faults
use Rattle.sx_store.specs.declared.group.NewGroup.{NewGroup}
use Rattle.sx_store.proofs.Counting.{none-of}
use Rattle.sx_store.proofs.SizeLaws.{length-body, records-below}
use Rattle.sx_tree.specs.declared.record.NodeRecord.{NodeRecord}
use Rattle.sx_view.specs.Rows as views
use Rattle.sx_whole.specs.Body.{AreBelow, AreWhole, body_bytes}
use Rattle.sx_whole.specs.Stands.{IsBodyOf, ShowsState, body_size, root_of, whole_frame}

-- ---- how it follows the last one

equal : (a b : ℕ) → a ≡ b → not (a == b) ≡ false
equal a b is = grind (arith, nat_tests)

least : (a b : ℕ) → b ≤ a → nat_lt a b ≡ false
least a b is = grind (arith, nat_tests)

not-before : (a b : ℤ) → b ≤ℤ a → int_lt a b ≡ false
not-before a b is = by (int_lt a b) refl
  where
    by : (t : Bool) → int_lt a b ≡ t → t ≡ false
    by true less = absurd (omega (arith, ints, is, less))
    by false less = refl

-- its numbers follow those of the last root
pub record Following (last root : RevisionRoot) : Type 0 where
  pub revision : root.revision ≡ last.revision + 1
  pub time : last.time ≤ℤ root.time
  pub first : root.first_frame ≡ frames_after last
  pub frames : frames_after root ≤ log_limit
  pub revisions : root.revision ≤ log_limit
  pub node_root : root.node_root ≤ frames_after root
  pub path_root : root.path_root ≤ frames_after root

pub follows : (last root : RevisionRoot) → Following last root → first_broken (order_rules last root) ≡ None
follows last root is =
    none-of (order_rules last root) (
      equal root.revision (last.revision + 1) is.revision,
      (
        not-before root.time last.time is.time,
        (
          equal root.first_frame (frames_after last) is.first,
          (
            least log_limit (frames_after root) is.frames,
            (
              least log_limit root.revision is.revisions,
              (
                least (frames_after root) root.node_root is.node_root,
                (least (frames_after root) root.path_root is.path_root, tt),
              ),
            ),
          ),
        ),
      ),
    )

-- ---- room

-- what is known where there is room
pub record Fits (frames revisions bytes : ℕ) : Type 0 where
  pub few_frames : frames + 1 ≤ log_limit
  pub few_revisions : revisions + 1 ≤ log_limit
  pub small : group_size 1 bytes ≤ group_limit

none-over : (a b c : Bool) (full large : RoomFault) (n x : ℕ) → (if a || b then Err full else if c then Err large else Ok n) ≡ Ok x → (a ≡ false) × (b ≡ false) × (c ≡ false)
none-over true b c full large n x is = absurd (cc is)
none-over false true c full large n x is = absurd (cc is)
none-over false false true full large n x is = absurd (cc is)
none-over false false false full large n x is = (refl, refl, refl)

at-most : (a b : ℕ) → nat_lt a b ≡ false → b ≤ a
at-most a b is = grind (arith, nat_tests)

pub fits : (frames revisions bytes : ℕ) (x : ℕ) → room_for frames revisions (bytes ∷ []) ≡ Ok x → Fits frames revisions bytes
fits frames revisions bytes x is =
    let size : ℕ = group_size 1 (0 + bytes) in
    let parts = none-over (nat_lt log_limit (frames + 1)) (nat_lt log_limit (revisions + 1)) (nat_lt group_limit size) (rooms.LogFull frames revisions) (rooms.CommitTooLarge size) size x is in
    let one = at-most log_limit (frames + 1) parts.0 in
    let two = at-most log_limit (revisions + 1) parts.1 in
    let three = at-most group_limit size parts.2 in
    record { few_frames = one; few_revisions = two; small = omega (arith, three) }

-- ---- the body of the state

rows-table : (state : State) (draft : Draft) → ShowsDraft state draft → draft.paths.paths ≡ path_rows state
rows-table state draft shows = shows.table.lists.rows_are

-- The body is as long as the state's.
pub long : (state : State) (draft : Draft) (body : List ℕ) → ShowsDraft state draft → body ≡ body_bytes (fin.entries (records_of draft)) draft.paths.paths → length body ≡ body_size state
long state draft body shows is =
    ap length (is ∙ ap (λ (l : List _). body_bytes (fin.entries (records_of draft)) l) (rows-table state draft shows))
    ∙ length-body state (records_of draft) (shows-state state draft.next (Some (records_of draft)) shows.records)

-- It is the state's.
pub is-body : (state : State) (draft : Draft) (body : List ℕ) → IsReached state → ShowsDraft state draft → body ≡ body_bytes (fin.entries (records_of draft)) draft.paths.paths
    → (AreBelow (fin.entries (records_of draft)) → AreWhole (fin.entries (records_of draft)) draft.paths.paths) → IsBodyOf state body
is-body state draft body reached shows is whole =
    let table = rows-table state draft shows in
    let below = records-below state (records_of draft) state.next 1_073_741_824 (shows-state state draft.next (Some (records_of draft)) shows.records) reached.sound.given reached.sound.next in
    record {
      records = records_of draft;
      nodes = shows.records.holds;
      whole = subst (AreWhole (fin.entries (records_of draft))) table (whole below);
      body_is = is ∙ ap (λ (l : List _). body_bytes (fin.entries (records_of draft)) l) table;
    }

-- ---- how many nodes there are

counted : (o : Option NodeRecord) (w : NodeRow) (count : ℕ) → option_map views.row_of o ≡ Some w → count ≡ w.descendants + 1 → count ≤ 2 ^ 30 → count_in o ≡ count
counted None w count is same within = absurd (cc is)
counted (Some r) w count is same within =
    let shown : views.row_of r ≡ w = cc is in
    let nodes : r.descendants ≡ w.descendants = ap (λ (v : NodeRow). v.descendants) shown in
    omega (arith, nodes, same, within)

alone : (rest : Forest) → suc (length (tops rest)) ≡ 1 → rest ≡ no_trees
alone no_trees one = refl
alone (tree_then n below rest) one = absurd (omega (arith, one))

head-found : (k : ℕ) (w : NodeRow) (es : List (ℕ × NodeRow)) → k ≡ 0 → find nat_cmp 0 ((k, w) ∷ es) ≡ Some w
head-found k w es is = ap (λ (n : ℕ). find nat_cmp 0 ((n, w) ∷ es)) is

nodes-of : (number : List Step → ℕ) (trees : Forest) (o : Option NodeRecord) → IsWellFormed trees → size trees ≤ 2 ^ 30 → option_map views.row_of o ≡ find nat_cmp 0 (rows_in number trees)
    → count_in o ≡ size trees
nodes-of number no_trees o well within is = absurd (omega (arith, well.one))
nodes-of number (tree_then n below rest) o well within is =
    let none : rest ≡ no_trees = alone rest well.one in
    let first : n.number ≡ 0 = cc well.zero in
    let size-is : size (tree_then n below rest) ≡ size below + 1 = ap (λ (f : Forest). suc (size below) + size f) none ∙ omega arith in
    let inner = rows local_hash number (around_children at_top n) below ++ rows local_hash number (record at_top { left = Some n.number }) rest in
    let top = row local_hash number (record at_top { right = option_or (first_of rest) at_top.right }) n below in
    counted o top (size (tree_then n below rest)) (is ∙ head-found n.number top inner first) size-is within

pub nodes-are : (state : State) (draft : Draft) → IsReached state → ShowsDraft state draft → count_in (fin.get (records_of draft) 0) ≡ size state.trees
nodes-are state draft reached shows =
    let few = reached.few in
    let next : state.next ≤ 2 ^ 30 = reached.sound.next in
    nodes-of (number_of state.paths) state.trees (fin.get (records_of draft) 0) reached.sound.well_formed (omega (arith, few, next)) (shows.records.holds 0)

-- they are no more than the next number
pub few-nodes : (state : State) (draft : Draft) → IsReached state → ShowsDraft state draft → count_in (fin.get (records_of draft) 0) ≤ draft.next
few-nodes state draft reached shows =
    let count = nodes-are state draft reached shows in
    let few = reached.few in
    let next = shows.records.next_is in
    omega (arith, count, few, next)

-- what is told of more nodes is told of the draft
pub too-many : (place : ℕ) (draft : Draft) (next nodes : ℕ) (r : Result NewGroup CommitFault) (fault : CommitFault) → IsErrAnd r (λ e. e ≡ fault) → next ≡ draft.next → nodes ≡ count_in (fin.get (records_of draft) 0)
    → (next < nodes) × (fault ≡ faults.Damaged (number_damage place TOO_MANY_NODES next nodes)) → IfErr r (IsGroupFault place draft)
too-many place draft next nodes (Ok made) fault is next_is nodes_is told = tt
too-many place draft next nodes (Err e) fault is next_is nodes_is told =
    let here : HasTooMany place (records_of draft) draft.next (number_damage place TOO_MANY_NODES next nodes) = (
      omega (arith, told.0, next_is, nodes_is),
      ap (λ (n : ℕ). number_damage place TOO_MANY_NODES n nodes) next_is ∙ ap (λ (n : ℕ). number_damage place TOO_MANY_NODES draft.next n) nodes_is,
    ) in
    subst (IsGroupFault place draft) (sym (is ∙ told.1)) here

-- ---- the group

length-frame : (body : List ℕ) → length (whole_frame body) ≡ 5 + length body
length-frame body = omega (arith, length-append (to_be_bytes w32 (length body)) body)

-- The root follows the last one, with the draft's numbers and one frame.
pub record IsNextRoot (last : RevisionRoot) (time : ℤ) (draft : Draft) (bytes : ℕ) (root : RevisionRoot) : Type 0 where
  pub revision : root.revision ≡ last.revision + 1
  pub time_is : root.time ≡ time
  pub first_frame : root.first_frame ≡ frames_after last
  pub frames : root.frames ≡ 1
  pub node_root : root.node_root ≡ frames_after last + 1
  pub path_root : root.path_root ≡ 0
  pub next : root.next ≡ draft.next
  pub nodes : root.nodes ≡ count_in (fin.get (records_of draft) 0)
  pub paths : root.paths ≡ length draft.paths.paths
  pub body : root.body ≡ bytes

-- the group is of this frame
pub record IsMade (body frame : List ℕ) (made : NewGroup) : Type 0 where
  pub frame_is : frame ≡ whole_frame body
  pub row_is : made.row ≡ row_of (whole_frame body)
  pub bytes_are : made.bytes.items ≡ frame_group_bytes (record { root = made.root; table = made.row ∷ []; body = frame }) ++ 0 ∷ []

group-of : List ℕ → NewGroup → FrameGroup
group-of frame made = record { root = made.root; table = made.row ∷ []; body = frame }

following : (last root : RevisionRoot) (time : ℤ) (draft : Draft) (bytes length : ℕ) → IsNextRoot last time draft bytes root → Fits (frames_after last) last.revision length → last.time ≤ℤ time → Following last root
following last root time draft bytes length is fits later = record {
  revision = is.revision;
  time = subst (λ (t : ℤ). last.time ≤ℤ t) (sym is.time_is) later;
  first = is.first_frame;
  frames = omega (arith, is.first_frame, is.frames, fits.few_frames);
  revisions = omega (arith, is.revision, fits.few_revisions);
  node_root = omega (arith, is.node_root, is.first_frame, is.frames);
  path_root = omega (arith, is.path_root);
}

-- It is one that follows the last root.
pub group-after : (last : RevisionRoot) (time : ℤ) (draft : Draft) (body frame : List ℕ) (made : NewGroup) → IsNextRoot last time draft made.row.bytes made.root → IsMade body frame made
    → Fits (frames_after last) last.revision (5 + length body) → last.time ≤ℤ time → IsRoot made.root → IsGroupAfter last made
unfolding group-of
group-after last time draft body frame made is parts fits later root =
    let long : made.row.bytes ≡ 5 + length body = ap (λ (row : FrameRow). row.bytes) parts.row_is ∙ length-frame body in
    let all : length frame ≡ 5 + length body = ap length parts.frame_is ∙ length-frame body in
    let digest : length made.row.digest ≡ 32 = ap (λ (row : FrameRow). length row.digest) parts.row_is ∙ length-sha256 (whole_frame body) in
    record {
      group = group-of frame made;
      is_group = record {
        root = root;
        rows = ((omega (arith, long, fits.small), digest), tt);
        frames = sym is.frames;
        body = omega (arith, all, long, is.body);
        size = omega (arith, is.frames, is.body, long, fits.small);
      };
      follows = follows last made.root (following last made.root time draft made.row.bytes (5 + length body) is fits later);
      root_is = refl;
      table = refl;
      sizes = omega (arith, is.body);
      least = omega (arith, long);
      bytes_are = parts.bytes_are;
    }

root-same : (a b : RevisionRoot) → a.revision ≡ b.revision → a.time ≡ b.time → a.first_frame ≡ b.first_frame → a.frames ≡ b.frames → a.node_root ≡ b.node_root → a.path_root ≡ b.path_root
    → a.next ≡ b.next → a.nodes ≡ b.nodes → a.paths ≡ b.paths → a.body ≡ b.body → a ≡ b
root-same a b revision time first_frame frames node_root path_root next nodes paths body = λ i. record {
  revision = revision i;
  time = time i;
  first_frame = first_frame i;
  frames = frames i;
  node_root = node_root i;
  path_root = path_root i;
  next = next i;
  nodes = nodes i;
  paths = paths i;
  body = body i;
}

-- It shows the state of the draft, where each revision before it has one frame.
pub group-shows : (last : RevisionRoot) (time : ℤ) (state : State) (draft : Draft) (body frame : List ℕ) (made : NewGroup) → IsReached state → ShowsDraft state draft → frames_after last ≡ last.revision
    → IsNextRoot last time draft made.row.bytes made.root → IsMade body frame made → IsBodyOf state body
    → (group : FrameGroup) × ShowsState (last.revision + 1) time state group × (made.root ≡ group.root) × (made.bytes.items ≡ sealed_bytes group) × (made.row ∷ [] ≡ group.table)
unfolding group-of
group-shows last time state draft body frame made reached shows one is parts is_body =
    let root : made.root ≡ root_of (last.revision + 1) time state (length (whole_frame body)) =
    root-same made.root (root_of (last.revision + 1) time state (length (whole_frame body))) is.revision is.time_is (omega (arith, is.first_frame, one)) is.frames (omega (arith, is.node_root, one)) is.path_root
    (is.next ∙ sym shows.records.next_is) (is.nodes ∙ nodes-are state draft reached shows)
    (is.paths ∙ ap length (rows-table state draft shows) ∙ length-map state.paths _)
    (is.body ∙ ap (λ (row : FrameRow). row.bytes) parts.row_is) in (
      group-of frame made,
      record {
        body = body;
        is_body = is_body;
        group_is = λ i. record { root = root i; table = parts.row_is i ∷ []; body = (parts.frame_is ∙ sym (append-nil (whole_frame body))) i };
      },
      refl,
      parts.bytes_are,
      refl,
    )

-- ---- what is told of room

pub room-ok : (frames revisions a b : ℕ) → a ≡ b → (x : ℕ) × (room_for frames revisions ((5 + a) ∷ []) ≡ Ok x) → (x : ℕ) × (room_for frames revisions ((5 + b) ∷ []) ≡ Ok x)
room-ok frames revisions a b same is = subst (λ (n : ℕ). (x : ℕ) × (room_for frames revisions ((5 + n) ∷ []) ≡ Ok x)) same is

moved : (X Y : Type 0) (room : Result ℕ RoomFault) (fault : CommitFault) → IsRoomFor {X = X} room (Err fault) → IsRoomFor {X = Y} room (Err fault)
moved X Y room (faults.Stopped stage) is = absurd is
moved X Y room faults.ReadFailed is = absurd is
moved X Y room (faults.Damaged damage) is = absurd is
moved X Y room (faults.LogFull frames revisions) is = is
moved X Y room (faults.CommitTooLarge bytes) is = is
moved X Y room faults.OutOfMemory is = tt
moved X Y room (faults.Failed stage) is = absurd is

pub room-err : (X Y : Type 0) (frames revisions a b : ℕ) (r : Result Y CommitFault) (fault : CommitFault) → a ≡ b → IsErrAnd r (λ e. e ≡ fault)
    → IsRoomFor {X = X} (room_for frames revisions ((5 + a) ∷ [])) (Err fault) → IsRoomFor {X = Y} (room_for frames revisions ((5 + b) ∷ [])) r
room-err X Y frames revisions a b (Ok y) fault same given is = absurd given
room-err X Y frames revisions a b (Err e) fault same given is =
    subst (λ (e : CommitFault). IsRoomFor {X = Y} (room_for frames revisions ((5 + b) ∷ [])) (Err e)) (sym given)
    (moved X Y (room_for frames revisions ((5 + b) ∷ [])) fault (subst (λ (n : ℕ). IsRoomFor {X = X} (room_for frames revisions ((5 + n) ∷ [])) (Err fault)) same is))
