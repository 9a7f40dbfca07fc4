-- In the groups that show commits the pages lead from each root to the fragments of each leaf.
use Rattle.std.proofs.Common.{◌≡◌, ◌∙◌, ◌⊎◌, ℕ, zero, suc, ◌+◌, ◌*◌, ◌-◌, ◌/◌, ◌%◌, ◌<◌, ◌≤◌, Bool, true, false, if◌then◌else◌, List, [], ◌∷◌, ◌++◌, length, take, drop, Option, Some, inl, inr, refl, ap, sym, subst, arith, append_assoc, length-append}
use Rattle.std.specs.Prelude.{map, slice_get}
use Rattle.std.specs.List.{range_with_len}
use Rattle.std.proofs.lemmas.List.{length-take, take_at, drop_at}
use Rattle.std.proofs.lemmas.List.FromFn.{map-range_with_len_more}
use Rattle.sx_frame.specs.Frame.{frame_bytes}
use Rattle.sx_layout.specs.FrameGroup.{FrameGroup, joined, row_of}
use Rattle.sx_model.specs.Commit.{Commit}
use Rattle.sx_shows.specs.Fragments.{Fragment, fragments, new_slot, touched}
use Rattle.sx_shows.specs.Leads.{AreFragments, AreReferences, FrameStore, IsFrameAt, LeadTo, cut, frames_in, index_above, seat_over}
use Rattle.sx_shows.specs.Pages.{newest_body}
use Rattle.sx_shows.specs.Seats.{Seat, Side, frames_up_to, is_new, made, most, number, place_in, references, seat_below}
use Rattle.sx_shows.specs.Shows.{frame_of, frames_of, group_of, new_seats, node_leaves, path_leaves}
use Rattle.sx_shows.proofs.Above.{not_true, page_is_new}
use Rattle.sx_shows.proofs.Numbers.{IsNewest, descend_more, descend_take, descends, get_place, last_cases, made_is, made_still, up_to_le}

-- ---- frames by their numbers

get_front : {X : Type 0} (xs ys : List X) (i : ℕ) (x : X) → slice_get xs i ≡ Some x → slice_get (xs ++ ys) i ≡ Some x
get_front [] ys i x is = cc is
get_front (y ∷ xs) ys zero x is = is
get_front (y ∷ xs) ys (suc i) x is = get_front xs ys i x is

get_behind : {X : Type 0} (xs ys : List X) (i : ℕ) (x : X) → slice_get ys i ≡ Some x → slice_get (xs ++ ys) (length xs + i) ≡ Some x
get_behind [] ys i x is = let same : 0 + i ≡ i = omega arith in ap (slice_get ys) same ∙ is
get_behind (y ∷ xs) ys i x is =
    let same : length (y ∷ xs) + i ≡ suc (length xs + i) = omega arith in ap (slice_get (y ∷ (xs ++ ys))) same ∙ get_behind xs ys i x is

taken_none : (k : ℕ) (xs : List ℕ) → xs ≡ [] → take k xs ≡ []
taken_none zero [] is = refl
taken_none (suc k) [] is = refl
taken_none k (x ∷ xs) is = cc is

pub length_map : {X Y : Type 0} (f : X → Y) (xs : List X) → length (map f xs) ≡ length xs
length_map f [] = refl
length_map f (x ∷ xs) = ap suc (length_map f xs)

cut_again : (frames : List (List ℕ)) → cut (map row_of frames) (joined frames) ≡ frames
cut_again [] = refl
cut_again (frame ∷ frames) =
    ap (λ (f : List ℕ). f ∷ cut (map row_of frames) (drop (length frame) (frame ++ joined frames))) (take_at frame (joined frames) (length frame) refl)
    ∙ ap (λ (b : List ℕ). frame ∷ cut (map row_of frames) b) (drop_at frame (joined frames) (length frame) refl)
    ∙ ap (λ (l : List (List ℕ)). frame ∷ l) (cut_again frames)

frames_in-append : (xs ys : List FrameGroup) → frames_in (xs ++ ys) ≡ frames_in xs ++ frames_in ys
frames_in-append [] ys = refl
frames_in-append (x ∷ xs) ys = ap (λ (l : List (List ℕ)). cut x.table x.body ++ l) (frames_in-append xs ys) ∙ sym (append_assoc (cut x.table x.body) (frames_in xs) (frames_in ys))

module _ (commits : List Commit) (w : ℕ) where
  -- the frames of all revisions up to one
  abbrev pub all_up_to : ℕ → List (List ℕ)
  all_up_to zero = []
  all_up_to (suc r) = all_up_to r ++ frames_of commits w (suc r)

  pub length_all : (r : ℕ) → length (all_up_to r) ≡ frames_up_to (new_seats commits) r
  length_all zero = refl
  length_all (suc r) =
      omega (arith, length-append (all_up_to r) (frames_of commits w (suc r)), length_map (λ seat. frame_bytes (frame_of commits w (suc r) seat)) (new_seats commits (suc r)), length_all r)

  pub frames_are : (n : ℕ) → frames_in (map (group_of commits w) (range_with_len 1 n)) ≡ all_up_to n
  frames_are zero = refl
  frames_are (suc n) =
      let one_more : suc n ≡ n + 1 = omega arith in
      ap (λ (k : ℕ). frames_in (map (group_of commits w) (range_with_len 1 k))) one_more
      ∙ ap frames_in (map-range_with_len_more (group_of commits w) 1 n (suc n) (omega arith))
      ∙ frames_in-append (map (group_of commits w) (range_with_len 1 n)) (group_of commits w (suc n) ∷ [])
      ∙ ap (λ (l : List (List ℕ)). l ++ (cut (map row_of (frames_of commits w (suc n))) (joined (frames_of commits w (suc n))) ++ [])) (frames_are n)
      ∙ ap (λ (l : List (List ℕ)). all_up_to n ++ (l ++ [])) (cut_again (frames_of commits w (suc n)))
      ∙ ap (λ (l : List (List ℕ)). all_up_to n ++ l) (nothing_behind (frames_of commits w (suc n)))
    where
      nothing_behind : (xs : List (List ℕ)) → xs ++ [] ≡ xs
      nothing_behind [] = refl
      nothing_behind (x ∷ xs) = ap (λ (l : List (List ℕ)). x ∷ l) (nothing_behind xs)

  -- the frame that a revision makes for a seat has its number
  there_by : (r m : ℕ) (seat : Seat) → (suc m ≡ suc r) ⊎ (suc m ≤ r) → is_new (new_seats commits) (suc m) seat ≡ true
      → (suc m ≤ r → slice_get (all_up_to r) (number (new_seats commits) (suc m) seat) ≡ Some (frame_bytes (frame_of commits w (suc m) seat)))
      → slice_get (all_up_to (suc r)) (number (new_seats commits) (suc m) seat) ≡ Some (frame_bytes (frame_of commits w (suc m) seat))
  there_by r m seat (inr less) new below = get_front (all_up_to r) (frames_of commits w (suc r)) (number (new_seats commits) (suc m) seat) (frame_bytes (frame_of commits w (suc m) seat)) (below less)
  there_by r m seat (inl same) new below =
      let is : r ≡ m = omega arith in
      subst (λ (q : ℕ). slice_get (all_up_to (suc r)) (number (new_seats commits) (suc q) seat) ≡ Some (frame_bytes (frame_of commits w (suc q) seat))) is
      (ap (λ (k : ℕ). slice_get (all_up_to (suc r)) (k + place_in (new_seats commits (suc r)) seat)) (sym (length_all r))
      ∙ get_behind (all_up_to r) (frames_of commits w (suc r)) (place_in (new_seats commits (suc r)) seat) (frame_bytes (frame_of commits w (suc r) seat))
      (get_place (λ seat. frame_bytes (frame_of commits w (suc r) seat)) (new_seats commits (suc r)) seat (subst (λ (q : ℕ). is_new (new_seats commits) (suc q) seat ≡ true) (sym is) new)))

  pub frame_there : (r m : ℕ) (seat : Seat) → suc m ≤ r → is_new (new_seats commits) (suc m) seat ≡ true
      → slice_get (all_up_to r) (number (new_seats commits) (suc m) seat) ≡ Some (frame_bytes (frame_of commits w (suc m) seat))
  frame_there zero m seat le new = absurd (omega arith)
  frame_there (suc r) m seat le new = there_by r m seat (last_cases (suc m) r le) new (λ less. frame_there r m seat less new)

-- ---- the descent

module _ (commits : List Commit) (w r : ℕ) where
  -- what is read at the revision
  abbrev pub reading : List (List ℕ) → FrameStore
  reading frames = record { frames = frames; window = w; count = frames_up_to (new_seats commits) r }

  pub are_references : (frames : List (List ℕ)) (q : ℕ) (seat : Seat) → q ≤ r → AreReferences (reading frames) seat.level (references (new_seats commits) w q seat)
  are_references frames q seat le = record {
    few = (let e = length-take (most w seat.level) (made (new_seats commits) q seat) in omega arith);
    descend = descend_more (frames_up_to (new_seats commits) q) (frames_up_to (new_seats commits) r) (references (new_seats commits) w q seat)
        (up_to_le (new_seats commits) q r le) (descend_take (most w seat.level) (frames_up_to (new_seats commits) q) (made (new_seats commits) q seat) (descends (new_seats commits) q seat));
  }

  -- a leaf's seat of a level stands below the next
  seat_is_below : (side : Side) (l level : ℕ) → seat_below side level (index_above l (suc level)) (index_above l level % 64) ≡ seat_over side l level
  seat_is_below side l level = ap (λ (i : ℕ). record { side = side; level = level; index = i }) (again (index_above l level))
    where
      again : (i : ℕ) → 64 * (i / 64) + i % 64 ≡ i
      again i = omega arith

  not_new_below : (side : Side) (l level q : ℕ) → level < 4 → is_new (new_seats commits) q (seat_over side l (suc level)) ≡ false → is_new (new_seats commits) q (seat_over side l level) ≡ false
  not_new_below side l level q low none =
      not_true (is_new (new_seats commits) q (seat_over side l level)) (is_new (new_seats commits) q (seat_over side l (suc level)))
      (λ new. page_is_new (node_leaves commits q) (path_leaves commits q) side level (index_above l (suc level)) (index_above l level % 64) low (small (index_above l level))
      (ap (is_new (new_seats commits) q) (seat_is_below side l level) ∙ new))
      none
    where
      small : (i : ℕ) → i % 64 < 64
      small i = omega arith

  never_new : (side : Side) (l level q : ℕ) → level ≤ 4 → is_new (new_seats commits) q (seat_over side l level) ≡ false → is_new (new_seats commits) q (seat_over side l 0) ≡ false
  never_new side l zero q low none = none
  never_new side l (suc level) q low none = never_new side l level q (omega arith) (not_new_below side l level q (omega arith) none)

  nothing_led : (side : Side) (l level : ℕ) → level ≤ 4 → ((q : ℕ) → suc q ≤ r → is_new (new_seats commits) (suc q) (seat_over side l level) ≡ false)
      → references (new_seats commits) w r (seat_over side l 0) ≡ []
  nothing_led side l level low none =
      taken_none w (made (new_seats commits) r (seat_over side l 0))
      (made_still (new_seats commits) 0 r (seat_over side l 0) (omega arith) (λ q first le. never_new side l level (suc q) low (none q le)))

  lead_step : (n : ℕ) (side : Side) (l level : ℕ) → r ≤ n → level < 4 → (frames : List ℕ) → ((frames ≡ []) × ((q : ℕ) → suc q ≤ r → is_new (new_seats commits) (suc q) (seat_over side l (suc level)) ≡ false))
      ⊎ IsNewest (new_seats commits) r (seat_over side l (suc level)) frames
      → LeadTo (reading (all_up_to commits w n)) side l level (references (new_seats commits) w r (seat_over side l level)) (references (new_seats commits) w r (seat_over side l 0))
      → LeadTo (reading (all_up_to commits w n)) side l (suc level) (take 1 frames) (references (new_seats commits) w r (seat_over side l 0))
  lead_step n side l level up low frames (inl none) below =
      subst (λ (f : List ℕ). LeadTo (reading (all_up_to commits w n)) side l (suc level) (take 1 f) (references (new_seats commits) w r (seat_over side l 0))) (sym none.0)
      (nothing_led side l (suc level) (omega arith) none.1)
  lead_step n side l level up low frames (inr newest) below =
      let page = seat_over side l (suc level) in
      let m = newest.before in
      let by_then = newest.by_then in
      let still : references (new_seats commits) w (suc m) (seat_over side l level) ≡ references (new_seats commits) w r (seat_over side l level) =
      ap (take (most w level)) (sym (made_still (new_seats commits) (suc m) r (seat_over side l level) by_then (λ q first le. not_new_below side l level (suc q) low (newest.since q first le)))) in
      let child : references (new_seats commits) w (suc m) (seat_below side level (index_above l (suc level)) (index_above l level % 64)) ≡ references (new_seats commits) w r (seat_over side l level) =
      ap (references (new_seats commits) w (suc m)) (seat_is_below side l level) ∙ still in
      subst (λ (f : List ℕ). LeadTo (reading (all_up_to commits w n)) side l (suc level) (take 1 f) (references (new_seats commits) w r (seat_over side l 0))) (sym newest.frames_are) (
        λ s. references (new_seats commits) w (suc m) (seat_below side level (index_above l (suc level)) s),
        frame_there commits w n m page (omega arith) newest.new,
        λ s low. are_references (all_up_to commits w n) (suc m) (seat_below side level (index_above l (suc level)) s) by_then,
        subst (λ (f : List ℕ). LeadTo (reading (all_up_to commits w n)) side l level f (references (new_seats commits) w r (seat_over side l 0))) (sym child) below,
      )

  -- from the references to a seat over a leaf the pages lead to those of the leaf
  pub lead : (n : ℕ) (side : Side) (l level : ℕ) → r ≤ n → level ≤ 4
      → LeadTo (reading (all_up_to commits w n)) side l level (references (new_seats commits) w r (seat_over side l level)) (references (new_seats commits) w r (seat_over side l 0))
  lead n side l zero up low = refl
  lead n side l (suc level) up low =
      lead_step n side l level up (omega arith) (made (new_seats commits) r (seat_over side l (suc level))) (made_is (new_seats commits) r (seat_over side l (suc level))) (lead n side l level up (omega arith))

-- ---- the fragments

take_cons : {X : Type 0} (w : ℕ) (x : X) (xs : List X) → 1 ≤ w → take w (x ∷ xs) ≡ x ∷ take (w - 1) xs
take_cons zero x xs some = absurd (omega arith)
take_cons (suc v) x xs some = let same : v ≡ suc v - 1 = omega arith in ap (λ (k : ℕ). x ∷ take k xs) same

take_less : {X : Type 0} (k w : ℕ) (xs : List X) → k ≤ w → take k (take w xs) ≡ take k xs
take_less zero w xs le = refl
take_less (suc k) zero xs le = absurd (omega arith)
take_less (suc k) (suc w) [] le = refl
take_less (suc k) (suc w) (x ∷ xs) le = ap (λ (l : List _). x ∷ l) (take_less k w xs (omega arith))

module _ {Row : Type 0} (same : Row → Row → Bool) (leaf : ℕ → ℕ → Option Row) (w : ℕ) (spelling : Row → List ℕ) (seats : ℕ → List Seat) (seat : Seat) (store : FrameStore) where
  are_taken : (k : ℕ) (frames : List ℕ) (fs : List (Fragment Row)) → AreFragments store seat spelling frames fs → AreFragments store seat spelling (take k frames) (take k fs)
  are_taken zero frames fs are = tt
  are_taken (suc k) [] [] are = tt
  are_taken (suc k) [] (f ∷ fs) are = absurd are
  are_taken (suc k) (n ∷ ns) [] are = absurd are
  are_taken (suc k) (n ∷ ns) (f ∷ fs) are = (are.0, are_taken k ns fs are.1)

  -- each revision that touches the leaf makes a frame for it, and this frame is its newest fragment
  abbrev pub AreMade : ℕ → Type 0
  AreMade r =
      (q : ℕ) → suc q ≤ r → (is_new seats (suc q) seat ≡ touched same leaf (suc q))
      × (is_new seats (suc q) seat ≡ true → IsFrameAt store (number seats (suc q) seat) seat (newest_body spelling seat.index (fragments same leaf w (suc q))))

  are_step : (q : ℕ) (b : Bool) → 1 ≤ w → touched same leaf (suc q) ≡ b
      → (b ≡ true → IsFrameAt store (number seats (suc q) seat) seat
      (newest_body spelling seat.index (if b then new_slot same leaf w (suc q) (fragments same leaf w q) ∷ take (w - 1) (fragments same leaf w q) else fragments same leaf w q)))
      → AreFragments store seat spelling (take w (made seats q seat)) (fragments same leaf w q)
      → AreFragments store seat spelling (take w (if b then number seats (suc q) seat ∷ made seats q seat else made seats q seat))
      (if b then new_slot same leaf w (suc q) (fragments same leaf w q) ∷ take (w - 1) (fragments same leaf w q) else fragments same leaf w q)
  are_step q false some is here are = are
  are_step q true some is here are =
      let older = subst (λ (f : List ℕ). AreFragments store seat spelling f (take (w - 1) (fragments same leaf w q))) (take_less (w - 1) w (made seats q seat) (omega arith))
      (are_taken (w - 1) (take w (made seats q seat)) (fragments same leaf w q) are) in
      subst (λ (f : List ℕ). AreFragments store seat spelling f (new_slot same leaf w (suc q) (fragments same leaf w q) ∷ take (w - 1) (fragments same leaf w q)))
      (sym (take_cons w (number seats (suc q) seat) (made seats q seat) some)) (here refl, older)

  pub are_fragments : (r : ℕ) → 1 ≤ w → AreMade r → AreFragments store seat spelling (take w (made seats r seat)) (fragments same leaf w r)
  are_fragments zero some all = subst (λ (f : List ℕ). AreFragments store seat spelling f []) (sym (taken_none w [] refl)) tt
  are_fragments (suc q) some all =
      let is = (all q (omega arith)).0 in
      let here = (all q (omega arith)).1 in
      subst (λ (b : Bool). AreFragments store seat spelling (take w (if b then number seats (suc q) seat ∷ made seats q seat else made seats q seat)) (fragments same leaf w (suc q))) (sym is)
      (are_step q (touched same leaf (suc q)) some refl (λ new. here (is ∙ new)) (are_fragments q some (λ k le. all k (omega arith))))
