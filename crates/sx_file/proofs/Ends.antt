-- A write at a file's end, or of one byte within it, is what a volume calls an append or a put.
use Rattle.std.proofs.Common.{◌≡◌, inl, inr, ⊎_elim, ℕ, zero, suc, ◌+◌, ◌<◌, ◌≤◌, List, [], ◌∷◌, ◌++◌, length, take, drop, get_or, Option, None, Some, refl, sym, ◌∙◌, ap, subst, arith, Result, Ok, Err, OnOk, OnErr}
use Rattle.std.specs.Prelude.{slice_set, set}
use Rattle.std.specs.Option.{ForSome, option_map}
use Rattle.std.proofs.lemmas.Bool.{cases_lt, cases_eq}
use Rattle.std.proofs.lemmas.List.{ext_get_or, length-take, get_or-take, length-set, get_or-set_same, get_or-set_other, set-get_or}
use Rattle.sx_volume.specs.Images.{IsWithin, Follows, Appends, Puts, Elapses}
use Rattle.sx_volume.proofs.Images.{appends_same, puts_same}
use Rattle.sx_file.specs.Length.{length_in}
use Rattle.sx_file.specs.Writes.{with_piece, IsInPart, Writes}

pub with_byte : (at byte : ℕ) (all : List ℕ) → at < length all → with_piece at (byte ∷ []) all ≡ set all at byte
with_byte at byte [] lt = absurd (omega (arith, lt))
with_byte zero byte (x ∷ all) lt = refl
with_byte (suc at) byte (x ∷ all) lt =
    let next : suc at + 1 ≡ suc (at + 1) = omega arith in
    let behind : drop (suc at + 1) (x ∷ all) ≡ drop (at + 1) all = ap (λ (n : ℕ). drop n (x ∷ all)) next in
    let front : with_piece (suc at) (byte ∷ []) (x ∷ all) ≡ x ∷ with_piece at (byte ∷ []) all = ap (λ (l : List ℕ). x ∷ (take at all ++ byte ∷ [] ++ l)) behind in
    let rest : x ∷ with_piece at (byte ∷ []) all ≡ x ∷ set all at byte = ap (λ (l : List ℕ). x ∷ l) (with_byte at byte all (omega (arith, lt))) in
    front ∙ rest

-- a write that begins at the file's end
appends : (long end : ℕ) (d c : List ℕ) → Writes long long end d c → Appends end d c
appends long end d c writes = record {
  front = ext_get_or 0 (take (length d) c) d (omega (arith, whole)) each;
  no_longer = ⊎_elim (λ same. omega (arith, same)) (λ more. omega (arith, more.2)) writes.grows;
}
  where
    long_enough : length d ≤ length c
    long_enough = ⊎_elim (λ same. omega (arith, same)) (λ more. more.1) writes.grows

    whole : length (take (length d) c) ≡ length d
    whole = omega (arith, length-take (length d) c, long_enough)

    each : (i : ℕ) → i < length (take (length d) c) → get_or (take (length d) c) i 0 ≡ get_or d i 0
    each i lt =
        let inside : i < length d = omega (arith, lt, whole) in
        get_or-take (length d) c i 0 inside ∙ ⊎_elim (λ same. same) (λ over. absurd (omega (arith, over.0, over.1))) (writes.bytes i inside)

-- a write of one byte within the file
module _ (at long : ℕ) (within : at < long) (d c : List ℕ) (writes : Writes at long (at + 1) d c) where
  same_length : length c ≡ length d
  same_length = ⊎_elim (λ same. same) (λ more. absurd (omega (arith, within, more.0))) writes.grows

  elsewhere : (i : ℕ) → i < length d → (i ≡ at → ⊥) → get_or c i 0 ≡ get_or d i 0
  elsewhere i lt other = ⊎_elim (λ same. same) (λ over. absurd (other (omega (arith, over.0, over.1)))) (writes.bytes i lt)

  put : (byte : ℕ) → at < length d → get_or c at 0 ≡ byte → c ≡ set d at byte
  put byte inside is = ext_get_or 0 c (set d at byte) (omega (arith, same_length, length-set d at byte)) each
    where
      each : (i : ℕ) → i < length c → get_or c i 0 ≡ get_or (set d at byte) i 0
      each i lt = elim (cases_eq i at) [
        | inl here ↦ ap (λ (n : ℕ). get_or c n 0) here ∙ is ∙ sym (get_or-set_same d at byte 0 inside) ∙ ap (λ (n : ℕ). get_or (set d at byte) n 0) (sym here)
        | inr other ↦ elsewhere i (omega (arith, lt, same_length)) other ∙ sym (get_or-set_other d at i byte 0 other)
      ]

  puts : Puts at d c
  puts = elim (cases_lt at (length d)) [
    | inl inside ↦
        elim (writes.bytes at inside) [
          | inl same ↦ inl (put (get_or d at 0) inside same ∙ set-get_or d at 0)
          | inr over ↦ inr (get_or c at 0, over.2, put (get_or c at 0) inside refl)
        ]
    | inr behind ↦ inl (ext_get_or 0 c d same_length (λ i lt. elsewhere i (omega (arith, lt, same_length)) (λ here. omega (arith, here, lt, same_length, behind))))
  ]

module _ (bytes : Option (List ℕ)) (is was : List ℕ → Type 0) (nothing_known : (c : List ℕ) → bytes ≡ None → is c) where
  pub follows_append : (asked count : ℕ) → length_in bytes asked ≡ asked → ForSome bytes (λ all. Follows (Writes asked (length all) (asked + count)) is was) → Follows (Appends (length_in bytes asked + count)) is was
  follows_append asked count measured images c left = go bytes refl
    where
      go : (told : Option (List ℕ)) → told ≡ bytes → (d : List ℕ) × is d × Appends (length_in bytes asked + count) d c
      go None told = (c, nothing_known c (sym told), appends_same (length_in bytes asked + count) c)
      go (Some all) told =
          let size : length all ≡ asked = ap (λ (b : Option (List ℕ)). length_in b asked) told ∙ measured in
          let before : (d : List ℕ) × is d × Writes asked (length all) (asked + count) d c = images all (sym told) c left in
          let at_end : Writes asked asked (asked + count) before.0 c = subst (λ (n : ℕ). Writes asked n (asked + count) before.0 c) size before.2 in
          (before.0, before.1, subst (λ (n : ℕ). Appends (n + count) before.0 c) (sym measured) (appends asked (asked + count) before.0 c at_end))

  pub follows_put : (asked at : ℕ) → at < length_in bytes asked → ForSome bytes (λ all. Follows (Writes at (length all) (at + 1)) is was) → Follows (Puts at) is was
  follows_put asked at place images c left = go bytes refl
    where
      go : (told : Option (List ℕ)) → told ≡ bytes → (d : List ℕ) × is d × Puts at d c
      go None told = (c, nothing_known c (sym told), puts_same at c)
      go (Some all) told =
          let inside : at < length all = subst (λ (b : Option (List ℕ)). at < length_in b asked) (sym told) place in
          let before : (d : List ℕ) × is d × Writes at (length all) (at + 1) d c = images all (sym told) c left in
          (before.0, before.1, puts at (length all) inside before.0 c before.2)

-- the file is as long as before a byte was written
pub put_length : {E : Type 0} (result : Result (Unit {0}) E) (old new : Option (List ℕ)) (asked at byte : ℕ) → at < length_in old asked → OnOk result (new ≡ option_map (with_piece at (byte ∷ [])) old)
    → OnErr result (IsInPart at (at + 1) old new) → length_in new asked ≡ length_in old asked
put_length (Ok done) old new asked at byte place written in_part = ap (λ (b : Option (List ℕ)). length_in b asked) written ∙ kept old place
  where
    kept : (old : Option (List ℕ)) → at < length_in old asked → length_in (option_map (with_piece at (byte ∷ [])) old) asked ≡ length_in old asked
    kept None place = refl
    kept (Some all) place = ap length (with_byte at byte all place) ∙ length-set all at byte
put_length (Err failed) None new asked at byte place written in_part = ap (λ (b : Option (List ℕ)). length_in b asked) in_part
put_length (Err failed) (Some all) None asked at byte place written in_part = absurd in_part
put_length (Err failed) (Some all) (Some now) asked at byte place written in_part =
    ⊎_elim (λ same. same) (λ more. absurd (omega (arith, place, more.0))) in_part.grows

-- the bytes after one of them was written
pub told_put : {E : Type 0} (result : Result (Unit {0}) E) (old new : Option (List ℕ)) (asked at byte : ℕ) → at < length_in old asked → OnOk result (new ≡ option_map (with_piece at (byte ∷ [])) old)
    → OnOk result (new ≡ option_map (λ all. slice_set all at byte) old)
told_put (Ok done) None new asked at byte place written = written
told_put (Ok done) (Some all) new asked at byte place written = written ∙ ap Some (with_byte at byte all place)
told_put (Err failed) old new asked at byte place written = tt

-- a look at the file adds nothing to what a crash may have left since an earlier moment
pub since_look : (start end t : ℕ) (was is : ℕ → List ℕ → Type 0) (had has : ℕ → Type 0) (image : List ℕ → Type 0) → Elapses start end was is had has → IsWithin image (is start)
    → ((c : List ℕ) → image c → was t c) → t ≤ start → IsWithin (was t) (is t)
since_look start end t was is had has image time no_more counts_now le c left =
    ⊎_elim (λ earlier. earlier) (λ during. counts_now c (no_more c during)) (time.nothing_else t c le left)
