-- The numbers of frames: each revision's follow those before it, and a seat's frame has the number that its place tells.
use Rattle.std.proofs.Common.{◌≡◌, ◌⊎◌, ℕ, zero, suc, ◌<◌, ◌≤◌, Bool, true, false, if◌then◌else◌, List, [], ◌∷◌, length, take, Some, inl, inr, refl, ap, sym, subst, arith}
use Rattle.std.specs.Prelude.{◌&&◌, ◌||◌, ◌==◌, map, slice_get}
use Rattle.std.specs.List.{list_any}
use Rattle.std.proofs.lemmas.Bool.Decides.{Decides-eqb}
use Rattle.sx_shows.specs.Leads.{Descend}
use Rattle.sx_shows.specs.Seats.{Nodes, Paths, Seat, Side, frames_up_to, is_new, made, number, place_in, same_seat, same_side}

-- ---- seats

pub both : (a b : Bool) → (a && b) ≡ true → (a ≡ true) × (b ≡ true)
both true b is = (refl, is)
both false b is = cc is

pub side_is : (a b : Side) → same_side a b ≡ true → a ≡ b
side_is Nodes Nodes is = refl
side_is Nodes Paths is = cc is
side_is Paths Nodes is = cc is
side_is Paths Paths is = refl

pub seat_is : (a b : Seat) → same_seat a b ≡ true → a ≡ b
seat_is a b is =
    let all = both (same_side a.side b.side && a.level == b.level) (a.index == b.index) is in
    let most = both (same_side a.side b.side) (a.level == b.level) all.0 in
    let side = side_is a.side b.side most.0 in
    let level = (Decides-eqb a.level b.level).0 most.1 in
    let index = (Decides-eqb a.index b.index).0 all.1 in
    λ i. record { side = side i; level = level i; index = index i }

-- ---- places

place_step : (b rest : Bool) (place more : ℕ) → (b || rest) ≡ true → (rest ≡ true → place < more) → (if b then 0 else suc place) < suc more
place_step true rest place more there below = omega arith
place_step false rest place more there below = let short = below there in omega arith

pub place_within : (seats : List Seat) (seat : Seat) → list_any (same_seat seat) seats ≡ true → place_in seats seat < length seats
place_within [] seat there = cc there
place_within (other ∷ seats) seat there =
    place_step (same_seat seat other) (list_any (same_seat seat) seats) (place_in seats seat) (length seats) there (place_within seats seat)

get_step : {X : Type 0} (b rest : Bool) (place : ℕ) (here x : X) (more : List X) → (b || rest) ≡ true → (b ≡ true → here ≡ x) → (rest ≡ true → slice_get more place ≡ Some x)
    → slice_get (here ∷ more) (if b then 0 else suc place) ≡ Some x
get_step true rest place here x more there is below = ap Some (is refl)
get_step false rest place here x more there is below = below there

pub get_place : {X : Type 0} (g : Seat → X) (seats : List Seat) (seat : Seat) → list_any (same_seat seat) seats ≡ true → slice_get (map g seats) (place_in seats seat) ≡ Some (g seat)
get_place g [] seat there = cc there
get_place g (other ∷ seats) seat there =
    get_step (same_seat seat other) (list_any (same_seat seat) seats) (place_in seats seat) (g other) (g seat) (map g seats) there
    (λ is. ap g (sym (seat_is seat other is))) (get_place g seats seat)

-- ---- numbers that descend

pub descend_more : (a b : ℕ) (ns : List ℕ) → a ≤ b → Descend a ns → Descend b ns
descend_more a b [] le all = tt
descend_more a b (n ∷ ns) le all = let below = all.0 in (omega arith, all.1)

pub descend_take : (k bound : ℕ) (ns : List ℕ) → Descend bound ns → Descend bound (take k ns)
descend_take zero bound ns all = tt
descend_take (suc k) bound [] all = tt
descend_take (suc k) bound (n ∷ ns) all = (all.0, descend_take k n ns all.1)

-- ---- revisions

-- the frames that are made for a seat are empty, or the newest is of a revision since which none was made
pub record IsNewest (seats : ℕ → List Seat) (r : ℕ) (seat : Seat) (frames : List ℕ) : Type 0 where
  pub before : ℕ
  pub by_then : suc before ≤ r
  pub new : is_new seats (suc before) seat ≡ true
  pub frames_are : frames ≡ number seats (suc before) seat ∷ made seats before seat
  pub since : (q : ℕ) → suc before ≤ q → suc q ≤ r → is_new seats (suc q) seat ≡ false

abbrev pub IsMade : (ℕ → List Seat) → ℕ → Seat → List ℕ → Type 0
IsMade seats r seat frames = ((frames ≡ []) × ((q : ℕ) → suc q ≤ r → is_new seats (suc q) seat ≡ false)) ⊎ IsNewest seats r seat frames

pub last_cases : (m r : ℕ) → m ≤ suc r → (m ≡ suc r) ⊎ (m ≤ r)
last_cases m r le = grind arith

at_last : (P : ℕ → Type 0) (r : ℕ) → P r → ((q : ℕ) → suc q ≤ r → P q) → (q : ℕ) → suc q ≤ suc r → P q
at_last P r here below q le = by (le_cases q r (omega arith))
  where
    le_cases : (a b : ℕ) → a ≤ b → (a ≡ b) ⊎ (suc a ≤ b)
    le_cases a b le = grind arith

    by : (q ≡ r) ⊎ (suc q ≤ r) → P q
    by (inl is) = subst P (sym is) here
    by (inr less) = below q less

module _ (seats : ℕ → List Seat) where
  up_to_by : (m r : ℕ) → (m ≡ suc r) ⊎ (m ≤ r) → (m ≤ r → frames_up_to seats m ≤ frames_up_to seats r) → frames_up_to seats m ≤ frames_up_to seats (suc r)
  up_to_by m r (inl is) below = subst (λ (k : ℕ). frames_up_to seats k ≤ frames_up_to seats (suc r)) (sym is) (omega arith)
  up_to_by m r (inr less) below = let rest = below less in omega arith

  pub up_to_le : (m r : ℕ) → m ≤ r → frames_up_to seats m ≤ frames_up_to seats r
  up_to_le m zero le = let is : m ≡ 0 = omega arith in subst (λ (k : ℕ). frames_up_to seats k ≤ 0) (sym is) (omega arith)
  up_to_le m (suc r) le = up_to_by m r (last_cases m r le) (up_to_le m r)

  pub number_below : (r : ℕ) (seat : Seat) → is_new seats (suc r) seat ≡ true → number seats (suc r) seat < frames_up_to seats (suc r)
  number_below r seat new = let place = place_within (seats (suc r)) seat new in omega arith

  descends_step : (r : ℕ) (seat : Seat) (b : Bool) → is_new seats (suc r) seat ≡ b → Descend (frames_up_to seats r) (made seats r seat)
      → Descend (frames_up_to seats (suc r)) (if b then number seats (suc r) seat ∷ made seats r seat else made seats r seat)
  descends_step r seat true new all = (number_below r seat new, descend_more (frames_up_to seats r) (number seats (suc r) seat) (made seats r seat) (omega arith) all)
  descends_step r seat false new all = descend_more (frames_up_to seats r) (frames_up_to seats (suc r)) (made seats r seat) (omega arith) all

  -- each frame of a seat is older than the one before it
  pub descends : (r : ℕ) (seat : Seat) → Descend (frames_up_to seats r) (made seats r seat)
  descends zero seat = tt
  descends (suc r) seat = descends_step r seat (is_new seats (suc r) seat) refl (descends r seat)

  made_step : (r : ℕ) (seat : Seat) (b : Bool) → is_new seats (suc r) seat ≡ b → IsMade seats r seat (made seats r seat)
      → IsMade seats (suc r) seat (if b then number seats (suc r) seat ∷ made seats r seat else made seats r seat)
  made_step r seat true new was = inr (record { before = r; by_then = omega arith; new = new; frames_are = refl; since = λ q low high. absurd (omega arith) })
  made_step r seat false new (inl none) = inl (none.0, at_last (λ q. is_new seats (suc q) seat ≡ false) r new none.1)
  made_step r seat false new (inr newest) =
      let le = newest.by_then in
      inr (record {
        before = newest.before;
        by_then = omega arith;
        new = newest.new;
        frames_are = newest.frames_are;
        since = λ q low high. at_last (λ k. suc newest.before ≤ k → is_new seats (suc k) seat ≡ false) r (λ low. new) (λ k less above. newest.since k above less) q high low;
      })

  pub made_is : (r : ℕ) (seat : Seat) → IsMade seats r seat (made seats r seat)
  made_is zero seat = inl (refl, λ q le. absurd (omega arith))
  made_is (suc r) seat = made_step r seat (is_new seats (suc r) seat) refl (made_is r seat)

  still_step : (r : ℕ) (seat : Seat) (frames : List ℕ) (b : Bool) → b ≡ false → made seats r seat ≡ frames → (if b then number seats (suc r) seat ∷ made seats r seat else made seats r seat) ≡ frames
  still_step r seat frames true new is = cc new
  still_step r seat frames false new is = is

  still_by : (m r : ℕ) (seat : Seat) → (m ≡ suc r) ⊎ (m ≤ r) → (m ≤ r → is_new seats (suc r) seat ≡ false) → (m ≤ r → made seats r seat ≡ made seats m seat)
      → made seats (suc r) seat ≡ made seats m seat
  still_by m r seat (inl is) none below = ap (λ (k : ℕ). made seats k seat) (sym is)
  still_by m r seat (inr less) none below = still_step r seat (made seats m seat) (is_new seats (suc r) seat) (none less) (below less)

  -- where a seat has no new frame since a revision, its frames are those of then
  pub made_still : (m r : ℕ) (seat : Seat) → m ≤ r → ((q : ℕ) → m ≤ q → suc q ≤ r → is_new seats (suc q) seat ≡ false) → made seats r seat ≡ made seats m seat
  made_still m zero seat le none = let is : 0 ≡ m = omega arith in ap (λ (k : ℕ). made seats k seat) is
  made_still m (suc r) seat le none =
      still_by m r seat (last_cases m r le) (λ less. none r less (omega arith)) (λ less. made_still m r seat less (λ q low high. none q low (omega arith)))
