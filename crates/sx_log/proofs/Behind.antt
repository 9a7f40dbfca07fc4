-- Calls that change nothing up to a gate.
use Rattle.std.proofs.Common.{⊎_elim, ◌≡◌, ◌∙◌, ℕ, ◌+◌, ◌<◌, ◌≤◌, List, length, take, refl, sym, ap, subst, arith}
use Rattle.std.proofs.lemmas.List.{length-take, take-take}
use Rattle.sx_log.specs.Committing.{IsBehind, OnlyHolds}
use Rattle.sx_volume.proofs.Images.{elapses_then}
use Rattle.sx_volume.specs.Images.{Appends, Elapses, Follows, IsWithin}
use Rattle.sx_volume.specs.declared.volume.Volume.{Ghosts}

-- a list that has the same front with the gate is as long
longer : (gate : ℕ) (a b : List ℕ) → gate < length a → take (gate + 1) b ≡ take (gate + 1) a → gate < length b
longer gate a b below same = omega (arith, ap length same, length-take (gate + 1) a, length-take (gate + 1) b)

behind_append : (gate end : ℕ) (a b c : List ℕ) → IsBehind gate a b → Appends end b c → IsBehind gate a c
behind_append gate end a b c first append below =
    let same = first below in
    let more = longer gate a b below same in
    sym (take-take (gate + 1) (length b) c (omega arith)) ∙ ap (λ (list : List ℕ). take (gate + 1) list) append.front ∙ same

-- each image since the start came by what was written behind the gate, up to now
module _ {V Spot End : Type 0} (g : Ghosts V Spot End) (gate : ℕ) (old now new : V) (later : g.moment old ≤ g.moment now) (counts_now : (t : ℕ) (c : List ℕ) → t ≤ g.moment now → g.is_image now c → g.was_image now t c)
    (so_far : Follows (IsBehind gate) (g.is_image old) (g.was_image now (g.moment old)))
    (time : Elapses (g.moment now) (g.moment new) (g.was_image now) (g.was_image new) (g.synced now) (g.synced new)) where
  then_step : (next : List ℕ → List ℕ → Type 0) → ((a b c : List ℕ) → IsBehind gate a b → next b c → IsBehind gate a c) → Follows next (g.is_image now) (g.was_image new (g.moment now))
      → Follows (IsBehind gate) (g.is_image old) (g.was_image new (g.moment old))
  then_step next chain here c left =
      ⊎_elim (so_far c)
      (λ (during : g.was_image new (g.moment now) c).
      let mid = here c during in
      let from = so_far mid.0 (counts_now (g.moment old) mid.0 later mid.1) in (from.0, from.1, chain from.0 mid.0 c from.2 mid.2))
      (time.nothing_else (g.moment old) c later left)

  -- and then a piece is appended
  pub then_appends : (end : ℕ) → Follows (Appends end) (g.is_image now) (g.was_image new (g.moment now)) → Follows (IsBehind gate) (g.is_image old) (g.was_image new (g.moment old))
  then_appends end here = then_step (Appends end) (behind_append gate end) here

  -- and then comes a call that leaves no image more
  pub then_within : IsWithin (g.is_image now) (g.was_image new (g.moment now)) → Follows (IsBehind gate) (g.is_image old) (g.was_image new (g.moment old))
  then_within within = then_step (λ (b c : List ℕ). c ≡ b) (λ a b c first same. subst (IsBehind gate a) (sym same) first) (λ c left. (c, within c left, refl))

-- two calls that take memory
pub holds_then : {V Spot End : Type 0} (g : Ghosts V Spot End) (old now new : V) → ((t : ℕ) (c : List ℕ) → t ≤ g.moment now → g.is_image now c → g.was_image now t c) → OnlyHolds g old now → OnlyHolds g now new → OnlyHolds g old new
holds_then g old now new counts_now a b = record {
  same_bytes = b.same_bytes ∙ a.same_bytes;
  same_size = b.same_size ∙ a.same_size;
  same_read = b.same_read ∙ a.same_read;
  spare = omega (arith, a.spare, b.spare);
  calm = λ calm. b.calm (a.calm calm);
  no_fault = b.no_fault ∙ a.no_fault;
  never_falls = omega (arith, a.never_falls, b.never_falls);
  no_image_more = λ c left.
      ⊎_elim (λ (before : g.was_image now (g.moment old) c). a.no_image_more c before) (λ (during : g.was_image new (g.moment now) c). a.no_image_more c (counts_now (g.moment old) c a.time.later (b.no_image_more c during)))
      (b.time.nothing_else (g.moment old) c a.time.later left);
  no_image_less = λ c image. b.no_image_less c (a.no_image_less c image);
  no_sync = λ t sync. a.no_sync t (b.no_sync t sync);
  time = elapses_then (g.moment old) (g.moment now) (g.moment new) (g.was_image old) (g.was_image now) (g.was_image new) (g.synced old) (g.synced now) (g.synced new) a.time b.time;
}
