-- A write into a file in memory, as the changes that it makes one after another.
use Rattle.std.proofs.Common.{◌≡◌, ◌⊎◌, inl, inr, ⊎_elim, ℕ, zero, suc, ◌+◌, ◌-◌, ◌<◌, ◌≤◌, min, List, [], ◌∷◌, ◌++◌, length, take, drop, get_or, refl, sym, ◌∙◌, ap, subst, arith, append-nil, append_assoc, Some}
use Rattle.std.specs.Prelude.{set}
use Rattle.std.proofs.lemmas.Bool.{cases_lt, cases_eq}
use Rattle.std.proofs.lemmas.List.{take_all, take_more_set, drop-set-lt, drop_all, length-take, length-drop, length-set, get_or-take, get_or-drop, get_or-set_other, take-append-drop}
use Rattle.std.proofs.lemmas.Grind.{get_or-set_at}
use Rattle.std.proofs.Math.Seq.{take-append-add}
use Rattle.sx_volume.specs.Change.{AreBytes, Change, Appended, Put, Pending, settled, after_change, after_changes, IsFree, IsImage}
use Rattle.sx_volume.specs.Images.{Follows, Appends, Puts, NoSync, Elapses}
use Rattle.sx_volume.specs.Replay.{IsSound, WasImage, SyncAt, pending_after, pending_is_sound, sound_change}
use Rattle.sx_volume.specs.Stored.{Stored, pending_of, bytes_in, puts_of, changes_by}
use Rattle.sx_volume.proofs.Grown.{after_changes-append, elapses_grown, no_sync_grown}
use Rattle.sx_volume.proofs.Steps.{appended_image, below, put_image}
use Rattle.sx_file.specs.Writes.{with_piece, Writes}

writes_same : (at long end : ℕ) (c : List ℕ) → Writes at long end c c
writes_same at long end c = record { bytes = λ i lt. inl refl; grows = inl refl }

-- what is appended to a file, where there is something, is written at its end
appends_written : (long end : ℕ) (d c : List ℕ) → long < end → Appends end d c → Writes long long end d c
appends_written long end d c more appends = record { bytes = λ i lt. inl (same i lt); grows = grows }
  where
    whole : length d ≤ length c
    whole = omega (arith, ap length appends.front, length-take (length d) c)

    same : (i : ℕ) → i < length d → get_or c i 0 ≡ get_or d i 0
    same i lt = sym (get_or-take (length d) c i 0 lt) ∙ ap (λ (l : List ℕ). get_or l i 0) appends.front

    grows : (length c ≡ length d) ⊎ ((long < end) × (length d ≤ length c) × (length c ≤ end))
    grows = elim (cases_lt (length d) (length c)) [
      | inl longer ↦ inr (more, whole, omega (arith, longer, appends.no_longer))
      | inr not ↦ inl (omega (arith, not, whole))
    ]

-- one byte is put, and then the rest is written
module _ (at long end : ℕ) (d e c : List ℕ) (inside : at < long) (before : at < end) (puts : Puts at d e) (writes : Writes (at + 1) long end e c) where
  same_length : length e ≡ length d
  same_length = ⊎_elim (λ same. ap length same) (λ put. ap length put.2 ∙ length-set d at put.0) puts

  each : (i : ℕ) → i < length d → (get_or c i 0 ≡ get_or d i 0) ⊎ ((at ≤ i) × (i < min long end) × (get_or c i 0 < 256))
  each i lt = elim (writes.bytes i (omega (arith, lt, same_length))) [
    | inl stays ↦
        elim puts [
          | inl same ↦ inl (stays ∙ ap (λ (l : List ℕ). get_or l i 0) same)
          | inr put ↦
              elim (cases_eq i at) [
                | inl here ↦ inr (omega (arith, here), omega (arith, here, inside, before), below _ _ (stays ∙ ap (λ (l : List ℕ). get_or l i 0) put.2 ∙ get_or-set_at d at i put.0 0 here (omega (arith, here, lt))) put.1)
                | inr other ↦ inl (stays ∙ ap (λ (l : List ℕ). get_or l i 0) put.2 ∙ get_or-set_other d at i put.0 0 other)
              ]
        ]
    | inr over ↦ inr (omega (arith, over.0), over.1, over.2)
  ]

  put_then : Writes at long end d c
  put_then = record { bytes = each; grows = ⊎_elim (λ same. inl (same ∙ same_length)) (λ more. inr (more.0, omega (arith, more.1, same_length), more.2)) writes.grows }

-- nothing was appended
none_appended : (p : Pending) → IsSound p → (c : List ℕ) → IsImage (after_change p (Appended [])) c → IsImage p c
none_appended p sound c image = record {
  no_shorter = image.no_shorter;
  no_longer = omega (arith, image.no_longer, sound.greatest);
  bytes = λ i lt. subst (λ (l : List ℕ). ((i < length l) × (get_or c i 0 ≡ get_or l i 0)) ⊎ (IsFree p i × (get_or c i 0 < 256))) (append-nil p.bytes) (image.bytes i lt);
}

take_none : (k : ℕ) → take {A = Change} k [] ≡ []
take_none zero = refl
take_none (suc k) = refl

-- Bytes are written over one after another, and the rest is appended, where there is something only behind the end. What
-- a crash leaves on the way comes by the write from what it could leave before.
pub on_the_way : (p : Pending) → IsSound p → (at : ℕ) (over rest : List ℕ) → at + length over ≤ length p.bytes → (rest ≡ []) ⊎ (at + length over ≡ length p.bytes) → AreBytes over → AreBytes rest
    → (k : ℕ) (c : List ℕ) → IsImage (after_changes p (take k (puts_of at over ++ Appended rest ∷ []))) c
    → (d : List ℕ) × IsImage p d × Writes at (length p.bytes) (at + length over + length rest) d c
on_the_way p sound at over rest within behind are are_too zero c image = (c, image, writes_same at (length p.bytes) (at + length over + length rest) c)
on_the_way p sound at [] [] within behind are are_too (suc k) c image =
    let appended : IsImage (after_change p (Appended [])) c = subst (λ (more : List Change). IsImage (after_changes p (Appended [] ∷ more)) c) (take_none k) image in
    (c, none_appended p sound c appended, writes_same at (length p.bytes) (at + 0 + 0) c)
on_the_way p sound at [] (byte ∷ rest) within (inl none) are are_too (suc k) c image = absurd (cc none)
on_the_way p sound at [] (byte ∷ rest) within (inr whole) are are_too (suc k) c image =
    let appended : IsImage (after_change p (Appended (byte ∷ rest))) c = subst (λ (more : List Change). IsImage (after_changes p (Appended (byte ∷ rest) ∷ more)) c) (take_none k) image in
    let before = appended_image p sound (byte ∷ rest) are_too c appended in
    let long = length p.bytes in
    let end = long + length (byte ∷ rest) in
    let written : Writes long long end before.0 c = appends_written long end before.0 c (omega arith) before.2 in
    let place : long ≡ at = omega (arith, whole) in
    let ends : end ≡ at + 0 + length (byte ∷ rest) = omega (arith, whole) in
    (before.0, before.1, subst (λ (n : ℕ). Writes n long (at + 0 + length (byte ∷ rest)) before.0 c) place (subst (λ (n : ℕ). Writes long long n before.0 c) ends written))
on_the_way p sound at (byte ∷ over) rest within behind are are_too (suc k) c image =
    let q = after_change p (Put at byte) in
    let long : length q.bytes ≡ length p.bytes = length-set p.bytes at byte in
    let end = at + length (byte ∷ over) + length rest in
    let behind_too : (rest ≡ []) ⊎ (at + 1 + length over ≡ length q.bytes) = ⊎_elim (λ none. inl none) (λ whole. inr (omega (arith, whole, long))) behind in
    let later = on_the_way q (sound_change p (Put at byte) sound) (at + 1) over rest (omega (arith, within, long)) behind_too (λ i lt. are (suc i) (omega (arith, lt))) are_too k c image in
    let before = put_image p sound at byte (omega (arith, within)) (are 0 (omega arith)) later.0 later.1 in
    let ends : at + 1 + length over + length rest ≡ end = omega arith in
    let written : Writes (at + 1) (length p.bytes) end later.0 c =
    subst (λ (n : ℕ). Writes (at + 1) (length p.bytes) n later.0 c) ends (subst (λ (n : ℕ). Writes (at + 1) n (at + 1 + length over + length rest) later.0 c) long later.2) in
    (before.0, before.1, put_then at (length p.bytes) end before.0 later.0 c (omega (arith, within)) (omega arith) before.2 written)

take_behind : (k : ℕ) (changes more : List Change) → length changes ≤ k → take k (changes ++ more) ≡ changes ++ take (k - length changes) more
take_behind k changes more le =
    let back : k ≡ length changes + (k - length changes) = omega (arith, le) in
    ap (λ (n : ℕ). take n (changes ++ more)) back ∙ take-append-add changes more (k - length changes)

never_syncs : (at : ℕ) (over rest : List ℕ) (changes : List Change) → NoSync (SyncAt changes) (SyncAt (changes ++ (puts_of at over ++ Appended rest ∷ [])))
never_syncs at [] rest changes t sync = no_sync_grown changes (Appended rest) (λ same. cc same) t sync
never_syncs at (byte ∷ over) rest changes t sync =
    let more = puts_of (at + 1) over ++ Appended rest ∷ [] in
    let grown : changes ++ (Put at byte ∷ more) ≡ (changes ++ Put at byte ∷ []) ++ more = sym (append_assoc changes (Put at byte ∷ []) more) in
    no_sync_grown changes (Put at byte) (λ same. cc same) t (never_syncs (at + 1) over rest (changes ++ Put at byte ∷ []) t (subst (λ (all : List Change). SyncAt all t) grown sync))

puts_bytes : (p : Pending) (at : ℕ) (over : List ℕ) → at + length over ≤ length p.bytes → (after_changes p (puts_of at over)).bytes ≡ with_piece at over p.bytes
puts_bytes p at [] within =
    let place : at ≡ at + 0 = omega arith in
    sym (ap (λ (l : List ℕ). l ++ drop (at + 0) p.bytes) (append-nil (take at p.bytes)) ∙ ap (λ (n : ℕ). take n p.bytes ++ drop (at + 0) p.bytes) place ∙ take-append-drop (at + 0) p.bytes)
puts_bytes p at (byte ∷ over) within =
    let put = set p.bytes at byte in
    let place : at + 1 + length over ≡ at + length (byte ∷ over) = omega arith in
    let rest : (after_changes (after_change p (Put at byte)) (puts_of (at + 1) over)).bytes ≡ with_piece (at + 1) over put = puts_bytes (after_change p (Put at byte)) (at + 1) over (omega (arith, within, length-set p.bytes at byte)) in
    let front : take (at + 1) put ≡ take at p.bytes ++ byte ∷ [] = take_more_set p.bytes at byte (omega (arith, within)) in
    let behind : drop (at + 1 + length over) put ≡ drop (at + length (byte ∷ over)) p.bytes = drop-set-lt (at + 1 + length over) p.bytes at byte (omega arith) ∙ ap (λ (n : ℕ). drop n p.bytes) place in
    let joined : (take at p.bytes ++ byte ∷ []) ++ over ≡ take at p.bytes ++ byte ∷ over = append_assoc (take at p.bytes) (byte ∷ []) over in
    rest ∙ ap (λ (l : List ℕ). l ++ over ++ drop (at + 1 + length over) put) front ∙ ap (λ (l : List ℕ). l ++ drop (at + 1 + length over) put) joined ∙ ap (λ (l : List ℕ). (take at p.bytes ++ byte ∷ over) ++ l) behind

module _ (old new : Stored) (at : ℕ) (piece : List ℕ) (place : at ≤ length (bytes_in old)) (same : new.first ≡ old.first) (grown : new.changes ≡ old.changes ++ changes_by (length (bytes_in old)) at piece) where
  abbrev long : ℕ
  long = length (bytes_in old)

  abbrev over : List ℕ
  over = take (long - at) piece

  abbrev rest : List ℕ
  rest = drop (long - at) piece

  abbrev more : List Change
  more = changes_by long at piece

  sound : IsSound (pending_of old)
  sound = pending_is_sound old.first old.changes

  over_count : length over ≡ min (long - at) (length piece)
  over_count = length-take (long - at) piece

  rest_count : length rest ≡ length piece - (long - at)
  rest_count = length-drop (long - at) piece

  behind : (rest ≡ []) ⊎ (at + length over ≡ long)
  behind = elim (cases_lt (long - at) (length piece)) [
    | inl longer ↦ inr (omega (arith, longer, over_count, place))
    | inr within ↦ inl (drop_all (long - at) piece within)
  ]

  now : pending_of new ≡ after_changes (pending_of old) more
  now = ap (λ (first : List ℕ). pending_after first new.changes) same ∙ ap (pending_after old.first) grown ∙ after_changes-append (settled old.first) old.changes more

  whole : with_piece at over (bytes_in old) ++ rest ≡ with_piece at piece (bytes_in old)
  whole = elim (cases_lt (long - at) (length piece)) [
    | inl longer ↦
        let none : drop (at + length over) (bytes_in old) ≡ [] = drop_all (at + length over) (bytes_in old) (omega (arith, longer, over_count, place)) in
        let none_too : drop (at + length piece) (bytes_in old) ≡ [] = drop_all (at + length piece) (bytes_in old) (omega (arith, longer, place)) in
        ap (λ (l : List ℕ). take at (bytes_in old) ++ over ++ l ++ rest) none ∙ ap (λ (l : List ℕ). l ++ rest) (append-nil (take at (bytes_in old) ++ over))
        ∙ append_assoc (take at (bytes_in old)) over rest ∙ ap (λ (l : List ℕ). take at (bytes_in old) ++ l) (take-append-drop (long - at) piece)
        ∙ sym (append-nil (take at (bytes_in old) ++ piece)) ∙ ap (λ (l : List ℕ). take at (bytes_in old) ++ piece ++ l) (sym none_too)
    | inr within ↦
        let all : over ≡ piece = take_all (long - at) piece within in
        ap (λ (l : List ℕ). with_piece at over (bytes_in old) ++ l) (drop_all (long - at) piece within) ∙ append-nil (with_piece at over (bytes_in old)) ∙ ap (λ (l : List ℕ). with_piece at l (bytes_in old)) all
  ]

  pub told_write : Some (bytes_in new) ≡ Some (with_piece at piece (bytes_in old))
  told_write =
      let puts : (after_changes (pending_of old) (puts_of at over)).bytes ≡ with_piece at over (bytes_in old) = puts_bytes (pending_of old) at over (omega (arith, over_count, place)) in
      ap Some (ap (λ (p : Pending). p.bytes) now ∙ ap (λ (p : Pending). p.bytes) (after_changes-append (pending_of old) (puts_of at over) (Appended rest ∷ [])) ∙ ap (λ (l : List ℕ). l ++ rest) puts ∙ whole)

  pub images_write : AreBytes piece → Follows (Writes at long (at + length piece)) (IsImage (pending_of old)) (WasImage new.first new.changes (length old.changes))
  images_write are c left =
      let taken : take left.0 new.changes ≡ old.changes ++ take (left.0 - length old.changes) more = ap (take left.0) grown ∙ take_behind left.0 old.changes more left.1 in
      let then : pending_after new.first (take left.0 new.changes) ≡ after_changes (pending_of old) (take (left.0 - length old.changes) more) =
      ap (λ (first : List ℕ). pending_after first (take left.0 new.changes)) same ∙ ap (pending_after old.first) taken ∙ after_changes-append (settled old.first) old.changes (take (left.0 - length old.changes) more) in
      let before = on_the_way (pending_of old) sound at over rest (omega (arith, over_count, place)) behind
      (λ i lt. below _ _ (get_or-take (long - at) piece i 0 (omega (arith, lt, over_count))) (are i (omega (arith, lt, over_count))))
      (λ i lt. below _ _ (get_or-drop (long - at) piece i 0) (are (long - at + i) (omega (arith, lt, rest_count))))
      (left.0 - length old.changes) c (subst (λ (p : Pending). IsImage p c) then left.3) in
      let ends : at + length over + length rest ≡ at + length piece = omega (arith, over_count, rest_count) in
      (before.0, before.1, subst (λ (n : ℕ). Writes at long n before.0 c) ends before.2)

  pub no_sync_write : NoSync (SyncAt old.changes) (SyncAt new.changes)
  no_sync_write t sync = never_syncs at over rest old.changes t (subst (λ (changes : List Change). SyncAt changes t) grown sync)

  pub time_write : Elapses (length old.changes) (length new.changes) (WasImage old.first old.changes) (WasImage new.first new.changes) (SyncAt old.changes) (SyncAt new.changes)
  time_write =
      subst (λ (first : List ℕ). Elapses (length old.changes) (length new.changes) (WasImage old.first old.changes) (WasImage first new.changes) (SyncAt old.changes) (SyncAt new.changes)) (sym same)
      (subst (λ (changes : List Change). Elapses (length old.changes) (length changes) (WasImage old.first old.changes) (WasImage old.first changes) (SyncAt old.changes) (SyncAt changes)) (sym grown)
      (elapses_grown old.first old.changes more))
