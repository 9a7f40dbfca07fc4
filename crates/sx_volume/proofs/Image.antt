-- The image that a tail and a gate choose is one that a crash may leave.
use Rattle.std.proofs.Common.{◌≡◌, ◌⊎◌, inl, inr, ℕ, zero, suc, ◌+◌, ◌-◌, ◌<◌, List, [], ◌∷◌, ◌++◌, length, take, get_or, refl, sym, ◌∙◌, ap, subst, arith, length-append, IfOk}
use Rattle.std.specs.Prelude.{Result, Ok, Err, set, Contains}
use Rattle.std.proofs.lemmas.Bool.{cases_lt, cases_eq}
use Rattle.std.proofs.lemmas.Grind.{get_or-set_at}
use Rattle.std.proofs.lemmas.List.{length-take, length-set, get_or-take, get_or-set_other, get_or-append_right, get_or_append_left}
use Rattle.sx_volume.specs.Change.{AreBytes, Pending, IsImage, with_byte_at, image_of}
use Rattle.sx_volume.specs.Replay.{IsSound}
use Rattle.sx_volume.proofs.Steps.{MayStand, below}

length-with_byte_at : (byte : ℕ) (places bytes : List ℕ) → length (with_byte_at byte places bytes) ≡ length bytes
length-with_byte_at byte [] bytes = refl
length-with_byte_at byte (at ∷ places) bytes = length-with_byte_at byte places (set bytes at byte) ∙ length-set bytes at byte

-- a number is the byte at one of the places, or as it was
put_or_same : (byte : ℕ) (places bytes : List ℕ) (i : ℕ) → i < length bytes → (Contains places i × (get_or (with_byte_at byte places bytes) i 0 ≡ byte)) ⊎ (get_or (with_byte_at byte places bytes) i 0 ≡ get_or bytes i 0)
put_or_same byte [] bytes i lt = inr refl
put_or_same byte (at ∷ places) bytes i lt = elim (put_or_same byte places (set bytes at byte) i (omega (arith, lt, length-set bytes at byte))) [
  | inl put ↦ inl ((suc put.0.0, omega (arith, put.0.1), put.0.2), put.1)
  | inr same ↦ elim (cases_eq i at) [
    | inl is ↦ inl ((zero, omega arith, sym is), same ∙ get_or-set_at bytes at i byte 0 is (omega (arith, is, lt)))
    | inr ne ↦ inr (same ∙ get_or-set_other bytes at i byte 0 ne)
  ]
]

module _ (p : Pending) (sound : IsSound p) (tail : List ℕ) (bytes : AreBytes tail) (gate : ℕ) (is_byte : gate < 256) where
  abbrev room : ℕ
  room = p.greatest - p.least

  abbrev base : List ℕ
  base = take p.least p.bytes ++ take room tail

  kept : length (take p.least p.bytes) ≡ p.least
  kept = omega (arith, length-take p.least p.bytes, sound.least)

  long : length base ≡ p.least + length (take room tail)
  long = omega (arith, length-append (take p.least p.bytes) (take room tail), kept)

  whole : length (image_of p tail gate) ≡ length base
  whole = length-with_byte_at gate p.places base

  stands : (i : ℕ) → i < length base → get_or (image_of p tail gate) i 0 ≡ get_or base i 0 → MayStand p (image_of p tail gate) i
  stands i lt same = elim (cases_lt i p.least) [
    | inl low ↦
        inl (omega (arith, low, sound.least), same ∙ get_or_append_left (take p.least p.bytes) (take room tail) 0 i (omega (arith, kept, low)) ∙ get_or-take p.least p.bytes i 0 low)
    | inr high ↦
        let at = i - p.least in
        let inside : at < room = omega (arith, high, lt, long, length-take room tail) in
        let in_tail : at < length tail = omega (arith, high, lt, long, length-take room tail) in
        inr (
          inl high,
          below _ _ (same ∙ get_or-append_right (take p.least p.bytes) (take room tail) p.least i 0 kept high ∙ get_or-take room tail at 0 inside) (bytes at in_tail),
        )
  ]

  each : (i : ℕ) → i < length (image_of p tail gate) → MayStand p (image_of p tail gate) i
  each i lt = elim (put_or_same gate p.places base i (omega (arith, lt, whole))) [
    | inl put ↦ inr (inr put.0, below _ _ put.1 is_byte)
    | inr same ↦ stands i (omega (arith, lt, whole)) same
  ]

  pub image_is_left : IsImage p (image_of p tail gate)
  image_is_left = record {
    no_shorter = omega (arith, whole, long);
    no_longer = omega (arith, whole, long, length-take room tail, sound.least, sound.greatest);
    bytes = each;
  }

pub images_are_left : {A E : Type 0} (items : A → List ℕ) (result : Result A E) (p q : Pending) (tail : List ℕ) (gate : ℕ) → p ≡ q → IsSound q → AreBytes tail → gate < 256
    → IfOk result (λ image. items image ≡ image_of p tail gate) → IfOk result (λ image. IsImage q (items image))
images_are_left items (Ok image) p q tail gate same sound bytes is_byte is =
    subst (IsImage q) (sym (is ∙ ap (λ (r : Pending). image_of r tail gate) same)) (image_is_left q sound tail bytes gate is_byte)
images_are_left items (Err e) p q tail gate same sound bytes is_byte is = tt
