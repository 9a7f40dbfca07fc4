-- What is read at a place.
use Rattle.std.proofs.Common.{◌≡◌, ◌∙◌, ℕ, zero, suc, ◌<◌, ◌≤◌, List, [], ◌∷◌, length, take, drop, slice_get, slice_index_or, Option, None, Some, IfSome, refl, ap, sym, arith, ⊎_elim}
use Rattle.sx_log.specs.Calls.{OnlyReads}
use Rattle.sx_volume.specs.declared.volume.Volume.{Ghosts}
use Rattle.sx_volume.proofs.Images.{elapses_then, elapses_same}

byte_there : (all : List ℕ) (place : ℕ) → place < length all → slice_get all place ≡ Some (slice_index_or (take 1 (drop place all)) 0 0)
byte_there [] place below = absurd (omega (arith, below))
byte_there (x ∷ xs) zero below = refl
byte_there (x ∷ xs) (suc place) below = byte_there xs place (omega (arith, below))

-- the byte that was read is the one at the place
pub byte_read : (bytes : Option (List ℕ)) (size place : ℕ) (room : List ℕ) → ((all : List ℕ) → bytes ≡ Some all → length all ≡ size) → place < size
    → IfSome bytes (λ all. room ≡ take 1 (drop place all)) → IfSome bytes (λ all. slice_get all place ≡ Some (slice_index_or room 0 0))
byte_read None size place room told below read = tt
byte_read (Some all) size place room told below read =
    let long = told all refl in byte_there all place (omega (arith, long, below)) ∙ ap (λ (list : List ℕ). Some (slice_index_or list 0 0)) (sym read)

module _ {V Spot End : Type 0} (g : Ghosts V Spot End) where
  -- two calls that only read
  pub reads_then : (old now new : V) → ((t : ℕ) (c : List ℕ) → t ≤ g.moment now → g.is_image now c → g.was_image now t c) → OnlyReads g old now → OnlyReads g now new → OnlyReads g old new
  reads_then old now new counts_now a b = record {
    same_bytes = b.same_bytes ∙ a.same_bytes;
    same_size = b.same_size ∙ a.same_size;
    same_held = b.same_held ∙ a.same_held;
    spare = omega (arith, a.spare, b.spare);
    calm = λ calm. b.calm (a.calm calm);
    never_falls = omega (arith, a.never_falls, b.never_falls);
    no_image_more = λ c left.
        ⊎_elim (λ (before : g.was_image now (g.moment old) c). a.no_image_more c before) (λ (during : g.was_image new (g.moment now) c). a.no_image_more c (counts_now (g.moment old) c a.time.later (b.no_image_more c during)))
        (b.time.nothing_else (g.moment old) c a.time.later left);
    no_image_less = λ c image. b.no_image_less c (a.no_image_less c image);
    no_sync = λ t sync. a.no_sync t (b.no_sync t sync);
    time = elapses_then (g.moment old) (g.moment now) (g.moment new) (g.was_image old) (g.was_image now) (g.was_image new) (g.synced old) (g.synced now) (g.synced new) a.time b.time;
  }

  -- no call
  pub reads_none : (volume : V) → ((t : ℕ) (c : List ℕ) → t ≤ g.moment volume → g.is_image volume c → g.was_image volume t c) → ((c : List ℕ) → g.was_image volume (g.moment volume) c → g.is_image volume c)
      → OnlyReads g volume volume
  reads_none volume counts_now only_now = record {
    same_bytes = refl;
    same_size = refl;
    same_held = refl;
    spare = omega arith;
    calm = λ calm. calm;
    never_falls = omega arith;
    no_image_more = only_now;
    no_image_less = λ c image. image;
    no_sync = λ t sync. sync;
    time = elapses_same (g.moment volume) (g.was_image volume) (g.synced volume) (g.is_image volume) counts_now only_now;
  }
