-- The groups that show commits lead to each leaf of each revision.
use Rattle.std.proofs.Common.{◌≡◌, ◌∙◌, ℕ, zero, suc, ◌+◌, ◌-◌, ◌<◌, ◌≤◌, List, [], ◌∷◌, length, Some, refl, ap, sym, subst, arith}
use Rattle.std.specs.Prelude.{map, slice_get}
use Rattle.std.specs.List.{range_with_len}
use Rattle.std.proofs.lemmas.List.{length-take}
use Rattle.sx_layout.specs.Birth.{Birth}
use Rattle.sx_layout.specs.FrameGroup.{FrameGroup}
use Rattle.sx_model.specs.Commit.{Commit, IsLegal}
use Rattle.sx_shows.specs.Leads.{AreReferences, FrameStore, LeadTo, Leads, LeavesLead, frames_in, index_above, leaf_limit, referred, seat_over, store_at}
use Rattle.sx_shows.specs.Leaves.{node_fragments, node_leaf, path_fragments, path_leaf}
use Rattle.sx_shows.specs.Pages.{node_spelling, path_spelling}
use Rattle.sx_shows.specs.Rows.{same_node, same_path_row}
use Rattle.sx_shows.specs.Seats.{Nodes, Paths, Side, frames_up_to, made, references, root_reference, top_seat}
use Rattle.sx_shows.specs.Shows.{Shows, group_of, new_seats, root_of}
use Rattle.sx_shows.proofs.Leading.{all_up_to, are_fragments, are_references, frame_there, frames_are, lead}
use Rattle.sx_shows.proofs.Touched.{node_is_new, path_is_new}

-- ---- the groups of commits

pub get_group : (f : ℕ → FrameGroup) (a n q : ℕ) (group : FrameGroup) → slice_get (map f (range_with_len a n)) q ≡ Some group → (q < n) × (group ≡ f (a + q))
get_group f a zero q group is = cc is
get_group f a (suc n) zero group is = let same : a ≡ a + 0 = omega arith in let first : f a ≡ group = cc in (omega arith, sym first ∙ ap f same)
get_group f a (suc n) (suc q) group is =
    let rest = get_group f (a + 1) n q group is in
    let low = rest.0 in
    let same : a + 1 + q ≡ a + suc q = omega arith in
    (omega arith, rest.1 ∙ ap f same)

referred_again : (frames : List ℕ) → length frames ≤ 1 → referred (root_reference frames) ≡ frames
referred_again [] few = refl
referred_again (n ∷ []) few = let same : n + 1 ≡ suc n = omega arith in ap referred same
referred_again (n ∷ m ∷ frames) few = absurd (omega arith)

top_index : (l : ℕ) → l < leaf_limit → index_above l 4 ≡ 0
top_index l low = omega arith

suc_less : (q : ℕ) → suc q - 1 ≡ q
suc_less q = omega arith

module _ (commits : List Commit) (w n q : ℕ) where
  -- what is read at revision q + 1
  abbrev store : FrameStore
  store = record { frames = all_up_to commits w n; window = w; count = frames_up_to (new_seats commits) (suc q) }

  top_is : (side : Side) (l : ℕ) → l < leaf_limit → referred (root_of commits w (suc q) side) ≡ references (new_seats commits) w (suc q) (seat_over side l 4)
  top_is side l low =
      referred_again (references (new_seats commits) w (suc q) (top_seat side)) (let few = length-take 1 (made (new_seats commits) (suc q) (top_seat side)) in omega arith)
      ∙ ap (λ (i : ℕ). references (new_seats commits) w (suc q) (record { side = side; level = 4; index = i })) (sym (top_index l low))

  root_led : (side : Side) (l : ℕ) → suc q ≤ n → l < leaf_limit → LeadTo store side l 4 (referred (root_of commits w (suc q) side)) (references (new_seats commits) w (suc q) (seat_over side l 0))
  root_led side l up low =
      subst (λ (f : List ℕ). LeadTo store side l 4 f (references (new_seats commits) w (suc q) (seat_over side l 0))) (sym (top_is side l low)) (lead commits w (suc q) n side l 4 up (omega arith))

  root_are : (side : Side) (l : ℕ) → l < leaf_limit → AreReferences store 4 (referred (root_of commits w (suc q) side))
  root_are side l low = subst (λ (f : List ℕ). AreReferences store 4 f) (sym (top_is side l low)) (are_references commits w (suc q) (all_up_to commits w n) (suc q) (seat_over side l 4) (omega arith))

  pub nodes_lead : (l : ℕ) → IsLegal commits → 1 ≤ w → suc q ≤ n → l < leaf_limit
      → Leads store (seat_over Nodes l 0) node_spelling (root_of commits w (suc q) Nodes) (node_fragments commits w l (suc q))
  nodes_lead l legal some up low = record {
    found = references (new_seats commits) w (suc q) (seat_over Nodes l 0);
    root_is = root_are Nodes l low;
    lead = root_led Nodes l up low;
    references = are_references commits w (suc q) (all_up_to commits w n) (suc q) (seat_over Nodes l 0) (omega arith);
    are = are_fragments same_node (node_leaf commits l) w node_spelling (new_seats commits) (seat_over Nodes l 0) store (suc q) some
        (λ k le. (node_is_new commits k l legal, λ new. frame_there commits w n k (seat_over Nodes l 0) (omega arith) new));
  }

  pub paths_lead : (l : ℕ) → 1 ≤ w → suc q ≤ n → l < leaf_limit
      → Leads store (seat_over Paths l 0) path_spelling (root_of commits w (suc q) Paths) (path_fragments commits w l (suc q))
  paths_lead l some up low = record {
    found = references (new_seats commits) w (suc q) (seat_over Paths l 0);
    root_is = root_are Paths l low;
    lead = root_led Paths l up low;
    references = are_references commits w (suc q) (all_up_to commits w n) (suc q) (seat_over Paths l 0) (omega arith);
    are = are_fragments same_path_row (path_leaf commits l) w path_spelling (new_seats commits) (seat_over Paths l 0) store (suc q) some
        (λ k le. (path_is_new commits k l, λ new. frame_there commits w n k (seat_over Paths l 0) (omega arith) new));
  }

-- the store of a group of the commits is the one of its revision
store_is : (commits : List Commit) (w n q : ℕ) (groups : List FrameGroup) → groups ≡ map (group_of commits w) (range_with_len 1 n) → store_at w groups (group_of commits w (suc q)) ≡ store commits w n q
store_is commits w n q groups are =
    let frames : frames_in groups ≡ all_up_to commits w n = ap frames_in are ∙ frames_are commits w n in
    let count : frames_up_to (new_seats commits) (suc q - 1) + length (new_seats commits (suc q)) ≡ frames_up_to (new_seats commits) (suc q) =
    ap (λ (k : ℕ). frames_up_to (new_seats commits) k + length (new_seats commits (suc q))) (suc_less q) in
    λ i. record { frames = frames i; window = w; count = count i }

pub leaves_lead : (birth : Birth) (groups : List FrameGroup) (commits : List Commit) (q : ℕ) (group : FrameGroup) → Shows birth groups commits → 1 ≤ birth.window
    → slice_get groups q ≡ Some group → LeavesLead birth.window groups commits (q + 1) group
leaves_lead birth groups commits q group shows some at =
    let w = birth.window in
    let found = get_group (group_of commits w) 1 (length commits) q group (ap (λ (g : List FrameGroup). slice_get g q) (sym shows.groups_are) ∙ at) in
    let low = found.0 in
    let one : 1 + q ≡ suc q = omega arith in
    let revision : suc q ≡ q + 1 = omega arith in
    let group_is : group_of commits w (suc q) ≡ group = sym (found.1 ∙ ap (group_of commits w) one) in
    let same = sym (store_is commits w (length commits) q groups shows.groups_are) in
    let lead : LeavesLead w groups commits (suc q) (group_of commits w (suc q)) = record {
      nodes = λ l below. subst (λ (s : FrameStore). Leads s (seat_over Nodes l 0) node_spelling (root_of commits w (suc q) Nodes) (node_fragments commits w l (suc q))) same
          (nodes_lead commits w (length commits) q l shows.legal some (omega arith) below);
      paths = λ l below. subst (λ (s : FrameStore). Leads s (seat_over Paths l 0) path_spelling (root_of commits w (suc q) Paths) (path_fragments commits w l (suc q))) same
          (paths_lead commits w (length commits) q l some (omega arith) below);
    } in
    subst (λ (r : ℕ). LeavesLead w groups commits r group) revision (subst (λ (g : FrameGroup). LeavesLead w groups commits (suc q) g) group_is lead)

-- the groups of commits under a birth are one list
pub one_list : (birth : Birth) (groups others : List FrameGroup) (commits : List Commit) → Shows birth groups commits → Shows birth others commits → groups ≡ others
one_list birth groups others commits shows also = shows.groups_are ∙ sym also.groups_are
