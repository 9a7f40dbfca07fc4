-- The order by last use, computed on rows.
use Rattle.std.proofs.Common.{◌≡◌, ℕ, List, [], ◌∷◌, Some, None, inl, inr, refl, arith}
use Rattle.std.specs.Map.{lookup}
use Rattle.lru.specs.LruCache.{promoted}
use Rattle.sx_cell.specs.declared.name.Name.{Name}
use Rattle.sx_cache.specs.ByUse.{is_leaf, with_newest}
use Rattle.sx_cache.specs.OfferEnds.{OfferEnds}
use Rattle.sx_cache.specs.ResidentList.{ResidentList}
use Rattle.sx_cache.specs.declared.offer.Offer.TheVariants.{Evicted, Kept, KeptOut}

-- three leaves, of which two have one number
abbrev pub leaves : List ((ℕ × ℕ) × ℕ)
leaves = ((2, 5), 25) ∷ ((1, 5), 15) ∷ ((1, 7), 17) ∷ []

pub looks_up_one_of_two_revisions : lookup (is_leaf 1 5) leaves ≡ Some 15
looks_up_one_of_two_revisions = refl

pub looks_up_none : lookup (is_leaf 2 7) leaves ≡ None
looks_up_none = refl

pub a_leaf_looked_up_goes_first : promoted (is_leaf 1 5) leaves ≡ ((1, 5), 15) ∷ ((2, 5), 25) ∷ ((1, 7), 17) ∷ []
a_leaf_looked_up_goes_first = refl

pub none_looked_up_changes_nothing : promoted (is_leaf 2 7) leaves ≡ leaves
none_looked_up_changes_nothing = refl

pub one_in_place_of_another : with_newest 3 (is_leaf 1 7) (1, 7) 18 leaves ≡ ((1, 7), 18) ∷ ((2, 5), 25) ∷ ((1, 5), 15) ∷ []
one_in_place_of_another = refl

pub the_eldest_goes : with_newest 3 (is_leaf 3 0) (3, 0) 30 leaves ≡ ((3, 0), 30) ∷ ((2, 5), 25) ∷ ((1, 5), 15) ∷ []
the_eldest_goes = refl

pub there_is_a_place : with_newest 4 (is_leaf 3 0) (3, 0) 30 leaves ≡ ((3, 0), 30) ∷ ((2, 5), 25) ∷ ((1, 5), 15) ∷ ((1, 7), 17) ∷ []
there_is_a_place = refl

-- names of frames that differ by their places
abbrev pub name : ℕ → Name ℕ
name place = record { spot = 0; digest = []; place = place }

-- frame 9 was offered last, then frame 4, and both places are taken
abbrev pub full : ResidentList ℕ
full = record { list = (9, name 90) ∷ (4, name 40) ∷ []; places = 2 }

pub a_frame_that_is_there_is_kept : OfferEnds 4 (name 41) Kept full (record { list = (4, name 41) ∷ (9, name 90) ∷ []; places = 2 })
a_frame_that_is_there_is_kept = (inl refl, refl)

pub the_eldest_is_evicted : OfferEnds 7 (name 70) (Evicted 4) full (record { list = (7, name 70) ∷ (9, name 90) ∷ []; places = 2 })
the_eldest_is_evicted = ((refl, refl), refl, refl)

pub or_the_offered_one_is_kept_out : OfferEnds 7 (name 70) (KeptOut 4) full full
or_the_offered_one_is_kept_out = ((refl, refl), refl, refl)

pub kept_is_no_answer_where_full : OfferEnds 7 (name 70) Kept full (record { list = (7, name 70) ∷ (9, name 90) ∷ []; places = 2 }) → ⊥
kept_is_no_answer_where_full h = elim h.0 [
  | inl e ↦ cc
  | inr less ↦ omega arith
]
