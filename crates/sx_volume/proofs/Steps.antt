-- What each change adds to the images.
use Rattle.std.proofs.Common.{◌≡◌, ◌≢◌, ◌⊎◌, inl, inr, ⊎_elim, ℕ, zero, suc, ◌+◌, ◌-◌, ◌≤◌, ◌<◌, min, List, [], ◌∷◌, ◌++◌, length, take, drop, get_or, refl, sym, ◌∙◌, ap, subst, arith, length-append}
use Rattle.std.specs.Prelude.{set, replicate, Contains}
use Rattle.std.proofs.lemmas.Bool.{cases_lt, cases_eq}
use Rattle.std.proofs.lemmas.List.{ext_get_or, take_at, length-take, length-drop, length-set, length-replicate, get_or-take, get_or-drop, get_or-set_same, get_or-set_other, get_or-append_right, get_or_append_left, get_or-replicate, set-set, set-get_or, set_past}
use Rattle.std.proofs.lemmas.Grind.{get_or-set_at}
use Rattle.std.proofs.lemmas.List.Elements.{Contains-append_cases}
use Rattle.sx_volume.specs.Change.{Appended, Put, Cut, Synced, Pending, settled, after_change, IsFree, IsImage}
use Rattle.sx_volume.specs.Change.{AreBytes}
use Rattle.sx_volume.specs.Images.{Appends, Puts, Cuts}
use Rattle.sx_volume.specs.Replay.{IsSound, is_image-bytes}

-- the number there is as it is read, or stands at a free place
abbrev pub MayStand : Pending → List ℕ → ℕ → Type 0
MayStand p c i = ((i < length p.bytes) × (get_or c i 0 ≡ get_or p.bytes i 0)) ⊎ (IsFree p i × (get_or c i 0 < 256))

take_front : (n : ℕ) (c : List ℕ) → take (length (take n c)) c ≡ take n c
take_front zero c = refl
take_front (suc n) [] = refl
take_front (suc n) (x ∷ c) = ap (λ (l : List ℕ). x ∷ l) (take_front n c)

pub below : (a b : ℕ) → a ≡ b → b < 256 → a < 256
below a b e lt = omega arith

no_place : (i : ℕ) → Contains {X = ℕ} [] i → ⊥
no_place i has = absurd (omega (arith, has.1))

only_place : (at i : ℕ) → Contains (at ∷ []) i → i ≡ at
only_place at i (zero, lt, is) = sym is
only_place at i (suc k, lt, is) = absurd (omega (arith, lt))

module _ (p : Pending) (sound : IsSound p) where
  module _ (piece : List ℕ) (bytes : AreBytes piece) (c : List ℕ) (image : IsImage (after_change p (Appended piece)) c) where
    abbrev front : List ℕ
    front = take p.greatest c

    long : length front ≡ min p.greatest (length c)
    long = length-take p.greatest c

    past : (i : ℕ) → length p.bytes ≤ i → i < length (p.bytes ++ piece) → get_or c i 0 ≡ get_or (p.bytes ++ piece) i 0 → get_or c i 0 < 256
    past i le lt is =
        let inside : i - length p.bytes < length piece = omega (arith, le, lt, length-append p.bytes piece) in
        below _ _ (is ∙ get_or-append_right p.bytes piece (length p.bytes) i 0 refl le) (bytes (i - length p.bytes) inside)

    each : (i : ℕ) → i < length front → MayStand p front i
    each i lt =
        let same : get_or front i 0 ≡ get_or c i 0 = get_or-take p.greatest c i 0 (omega (arith, lt, long)) in
        elim (image.bytes i (omega (arith, lt, long))) [
          | inl read ↦
              elim (cases_lt i (length p.bytes)) [
                | inl before ↦ inl (before, same ∙ read.1 ∙ get_or_append_left p.bytes piece 0 i before)
                | inr behind ↦ inr (inl (omega (arith, behind, sound.least)), below _ _ same (past i behind read.0 read.1))
              ]
          | inr any ↦ inr (any.0, below _ _ same any.1)
        ]

    pub appended_image : (d : List ℕ) × IsImage p d × Appends (length p.bytes + length piece) d c
    appended_image = (
      front,
      record { no_shorter = omega (arith, long, sound.least, sound.greatest, image.no_shorter); no_longer = omega (arith, long); bytes = each },
      record { front = take_front p.greatest c; no_longer = omega (arith, long, image.no_longer) },
    )

  module _ (at byte : ℕ) (place : at < length p.bytes) (is_byte : byte < 256) (c : List ℕ) (image : IsImage (after_change p (Put at byte)) c) where
    abbrev was : ℕ
    was = get_or p.bytes at 0

    abbrev unput : List ℕ
    unput = set c at was

    elsewhere : (i : ℕ) → i ≢ at → i < length c → MayStand p unput i
    elsewhere i ne lt =
        let same : get_or unput i 0 ≡ get_or c i 0 = get_or-set_other c at i was 0 ne in
        elim (image.bytes i lt) [
          | inl read ↦ inl (omega (arith, read.0, length-set p.bytes at byte), same ∙ read.1 ∙ get_or-set_other p.bytes at i byte 0 ne)
          | inr any ↦ inr (
            ⊎_elim (λ high. inl high) (λ has. inr (⊎_elim (λ earlier. earlier) (λ here. absurd (ne (only_place at i here))) (Contains-append_cases p.places (at ∷ []) i has))) any.0,
            below _ _ same any.1,
          )
        ]

    each_put : (i : ℕ) → i < length unput → MayStand p unput i
    each_put i lt =
        let inside : i < length c = omega (arith, lt, length-set c at was) in
        elim (cases_eq i at) [
          | inl is ↦ inl (omega (arith, is, place), get_or-set_at c at i was 0 is (omega (arith, is, inside)) ∙ ap (λ (n : ℕ). get_or p.bytes n 0) (sym is))
          | inr ne ↦ elsewhere i ne inside
        ]

    bound : at < length c → get_or c at 0 < 256
    bound inside = elim (image.bytes at inside) [
      | inl read ↦ below _ _ (read.1 ∙ get_or-set_same p.bytes at byte 0 place) is_byte
      | inr any ↦ any.1
    ]

    pub put_image : (d : List ℕ) × IsImage p d × Puts at d c
    put_image = (
      unput,
      record { no_shorter = omega (arith, length-set c at was, image.no_shorter); no_longer = omega (arith, length-set c at was, image.no_longer); bytes = each_put },
      elim (cases_lt at (length c)) [
        | inl inside ↦ inr (get_or c at 0, bound inside, sym (set-set c at was (get_or c at 0) ∙ set-get_or c at 0))
        | inr behind ↦ inl (sym (set_past c at was behind))
      ],
    )

  module _ (len : ℕ) (place : len ≤ length p.bytes) (c : List ℕ) (image : IsImage (after_change p (Cut len)) c) where
    -- the cut left no byte free that was not
    high : p.least ≤ len → (i : ℕ) → i < length c → MayStand p c i
    high le i lt = elim (image.bytes i lt) [
      | inl read ↦
          let inside : i < len = omega (arith, read.0, length-take len p.bytes) in
          inl (omega (arith, inside, place), read.1 ∙ get_or-take len p.bytes i 0 inside)
      | inr any ↦ inr (⊎_elim (λ free. inl (omega (arith, free, le))) (λ has. inr has) any.0, any.1)
    ]

    abbrev padding : ℕ
    padding = p.greatest - length p.bytes

    abbrev base : List ℕ
    base = p.bytes ++ replicate padding 0

    abbrev uncut : List ℕ
    uncut = take len c ++ drop len base

    module _ (low : len < p.least) where
      kept : length (take len c) ≡ len
      kept = omega (arith, length-take len c, image.no_shorter, low)

      long_base : length base ≡ p.greatest
      long_base = omega (arith, length-append p.bytes (replicate padding 0), length-replicate {A = ℕ} padding 0, sound.greatest)

      whole_uncut : length uncut ≡ p.greatest
      whole_uncut = omega (arith, length-append (take len c) (drop len base), kept, length-drop len base, long_base, place, sound.greatest)

      before : (i : ℕ) → i < len → MayStand p uncut i
      before i lt =
          let same : get_or uncut i 0 ≡ get_or c i 0 = get_or_append_left (take len c) (drop len base) 0 i (omega (arith, kept, lt)) ∙ get_or-take len c i 0 lt in
          elim (image.bytes i (omega (arith, lt, low, image.no_shorter))) [
            | inl read ↦ inl (omega (arith, lt, place), same ∙ read.1 ∙ get_or-take len p.bytes i 0 lt)
            | inr any ↦ inr (⊎_elim (λ free. absurd (omega (arith, free, lt, low))) (λ has. inr has) any.0, below _ _ same any.1)
          ]

      behind : (i : ℕ) → len ≤ i → i < p.greatest → MayStand p uncut i
      behind i le lt =
          let back : len + (i - len) ≡ i = omega (arith, le) in
          let same : get_or uncut i 0 ≡ get_or base i 0 = get_or-append_right (take len c) (drop len base) len i 0 kept le ∙ get_or-drop len base (i - len) 0 ∙ ap (λ (n : ℕ). get_or base n 0) back in
          elim (cases_lt i (length p.bytes)) [
            | inl inside ↦ inl (inside, same ∙ get_or_append_left p.bytes (replicate padding 0) 0 i inside)
            | inr padded ↦
                let zeros : get_or base i 0 ≡ 0 =
                get_or-append_right p.bytes (replicate padding 0) (length p.bytes) i 0 refl padded ∙ get_or-replicate padding (i - length p.bytes) 0 0 (omega (arith, padded, lt)) in
                inr (inl (omega (arith, padded, sound.least)), below _ _ (same ∙ zeros) (omega arith))
          ]

      each_cut : (i : ℕ) → i < length uncut → MayStand p uncut i
      each_cut i lt = elim (cases_lt i len) [ inl front ↦ before i front | inr back ↦ behind i back (omega (arith, lt, whole_uncut)) ]

      low_image : (d : List ℕ) × IsImage p d × Cuts len d c
      low_image = (
        uncut,
        record { no_shorter = omega (arith, whole_uncut, sound.least, sound.greatest); no_longer = omega (arith, whole_uncut); bytes = each_cut },
        record { front = sym (take_at (take len c) (drop len base) len kept); no_longer = omega (arith, whole_uncut, image.no_longer) },
      )

    pub cut_image : (d : List ℕ) × IsImage p d × Cuts len d c
    cut_image = elim (cases_lt len p.least) [
      | inl low ↦ low_image low
      | inr le ↦ (c, record { no_shorter = omega (arith, image.no_shorter, le); no_longer = image.no_longer; bytes = high le }, record { front = refl; no_longer = omega arith })
    ]

-- after a sync there is one image
pub settled_image : (bytes : List ℕ) (c : List ℕ) → IsImage (settled bytes) c → c ≡ bytes
settled_image bytes c image = ext_get_or 0 c bytes (omega (arith, image.no_shorter, image.no_longer)) each
  where
    each : (i : ℕ) → i < length c → get_or c i 0 ≡ get_or bytes i 0
    each i lt = elim (image.bytes i lt) [
      | inl read ↦ read.1
      | inr any ↦ absurd (⊎_elim (λ free. omega (arith, free, lt, image.no_longer)) (λ has. no_place i has) any.0)
    ]

pub synced_image : (p : Pending) → IsSound p → (c : List ℕ) → IsImage (after_change p Synced) c → IsImage p c
synced_image p sound c image = subst (IsImage p) (sym (settled_image p.bytes c image)) (is_image-bytes p sound)
