-- How an offer of a frame to a list of residents ends.
use Rattle.std.specs.Prelude.{ℕ, ◌≡◌, ◌<◌, ◌⊎◌, IsSome, None, Some, length, nat_eq, option_map}
use Rattle.std.specs.Map.{lookup}
use Rattle.lru.specs.LruCache.{last_entry}
use Rattle.sx_cell.specs.declared.name.Name.{Name}
use Rattle.sx_cache.specs.ByUse.{with_newest}
use Rattle.sx_cache.specs.ResidentList.{ResidentList}
use Rattle.sx_cache.specs.declared.offer.Offer.{Offer}
use Rattle.sx_cache.specs.declared.offer.Offer.TheVariants.{Evicted, Kept, KeptOut}

-- e is the number of the eldest
abbrev pub IsEldest : {S : Type 0} → ResidentList S → ℕ → Type 0
IsEldest old e = option_map (λ x. x.0) (last_entry old.list) ≡ Some e

module _ {S : Type 0} (k : ℕ) (old : ResidentList S) where
  -- frame k is there, or there is room for it
  abbrev pub HasRoom : Type 0
  HasRoom = IsSome (lookup (nat_eq k) old.list) ⊎ (length old.list < old.places)

  -- frame k is not there, and each place is taken
  abbrev pub HasNoPlace : Type 0
  HasNoPlace = (lookup (nat_eq k) old.list ≡ None) × (length old.list ≡ old.places)

  -- frame k is the newest, and the others follow as far as there are places
  abbrev pub IsNewest : Name S → ResidentList S → Type 0
  IsNewest cell new = new ≡ record old { list = with_newest old.places (nat_eq k) k cell old.list }

-- By cases. Which of the last two comes is free, since whether a cell was emptied is.
abbrev pub OfferEnds : {S : Type 0} → ℕ → Name S → Offer → ResidentList S → ResidentList S → Type 0
OfferEnds k cell Kept old new = HasRoom k old × IsNewest k old cell new
OfferEnds k cell (Evicted e) old new = HasNoPlace k old × IsEldest old e × IsNewest k old cell new
OfferEnds k cell (KeptOut e) old new = HasNoPlace k old × IsEldest old e × (new ≡ old)
