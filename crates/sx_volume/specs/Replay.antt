-- A volume in memory through its changes: what is pending after each, and which lists a crash may leave.
use Rattle.std.specs.Prelude.{◌≡◌, ℕ, zero, suc, ◌+◌, ◌<◌, ◌≤◌, List, [], ◌∷◌, length, take, slice_get, Some, refl}
use Rattle.std.proofs.Common.{inl, arith, sym, ap, subst, length-append, length-set}
use Rattle.std.proofs.lemmas.List.{length-take, take_all}
use Rattle.sx_volume.specs.Change.{Change, Appended, Put, Cut, Synced, Pending, settled, after_change, after_changes, IsImage}

-- after all these changes, from these bytes on
abbrev pub pending_after : List ℕ → List Change → Pending
pending_after first changes = after_changes (settled first) changes

-- a crash may have left the list at some moment since that one, where each change makes one moment more
abbrev pub WasImage : List ℕ → List Change → ℕ → List ℕ → Type 0
WasImage first changes t c = (k : ℕ) × (t ≤ k) × (k ≤ length changes) × IsImage (pending_after first (take k changes)) c

-- a sync succeeded at this moment
abbrev pub SyncAt : List Change → ℕ → Type 0
SyncAt changes t = (k : ℕ) × (slice_get changes k ≡ Some Synced) × (t ≡ k + 1)

pub counts_now : (first : List ℕ) (changes : List Change) (t : ℕ) (c : List ℕ) → t ≤ length changes → IsImage (pending_after first changes) c → WasImage first changes t c
counts_now first changes t c le image =
    (length changes, le, omega arith, subst (λ (l : List Change). IsImage (pending_after first l) c) (sym (take_all (length changes) changes (omega arith))) image)

pub only_now : (first : List ℕ) (changes : List Change) (c : List ℕ) → WasImage first changes (length changes) c → IsImage (pending_after first changes) c
only_now first changes c was = subst (λ (l : List Change). IsImage (pending_after first l) c) (take_all was.0 changes was.1) was.3

pub got_within : (changes : List Change) (k : ℕ) (change : Change) → slice_get changes k ≡ Some change → k < length changes
got_within [] k change got = absurd (cc got)
got_within (x ∷ changes) zero change got = omega arith
got_within (x ∷ changes) (suc k) change got = let rest = got_within changes k change got in omega (arith, rest)

pub synced_by_now : (changes : List Change) (t : ℕ) → SyncAt changes t → t ≤ length changes
synced_by_now changes t sync = let within = got_within changes sync.0 Synced sync.1 in omega (arith, within, sync.2)

-- the lengths between which a crash leaves the volume are about the one that is read
pub record IsSound (p : Pending) : Type 0 where
  pub least : p.least ≤ length p.bytes
  pub greatest : length p.bytes ≤ p.greatest

pub sound_change : (p : Pending) (change : Change) → IsSound p → IsSound (after_change p change)
sound_change p (Appended piece) sound = record {
  least = omega (arith, sound.least, length-append p.bytes piece);
  greatest = omega (arith, length-append p.bytes piece);
}
sound_change p (Put at byte) sound = record {
  least = omega (arith, sound.least, length-set p.bytes at byte);
  greatest = omega (arith, sound.greatest, length-set p.bytes at byte);
}
sound_change p (Cut len) sound = record {
  least = omega (arith, sound.least, length-take len p.bytes);
  greatest = omega (arith, sound.greatest, length-take len p.bytes);
}
sound_change p Synced sound = record { least = omega arith; greatest = omega arith }

sound_changes : (p : Pending) (changes : List Change) → IsSound p → IsSound (after_changes p changes)
sound_changes p [] sound = sound
sound_changes p (change ∷ changes) sound = sound_changes (after_change p change) changes (sound_change p change sound)

pub pending_is_sound : (first : List ℕ) (changes : List Change) → IsSound (pending_after first changes)
pending_is_sound first changes = sound_changes (settled first) changes (record { least = omega arith; greatest = omega arith })

-- a volume as it is read is one of its images
pub is_image-bytes : (p : Pending) → IsSound p → IsImage p p.bytes
is_image-bytes p sound = record { no_shorter = sound.least; no_longer = sound.greatest; bytes = λ i lt. inl (lt, refl) }

pub told_length : (bytes all : List ℕ) → Some bytes ≡ Some all → length all ≡ length bytes
told_length bytes all told = let is : all ≡ bytes = cc in ap length is

pub as_read : (first : List ℕ) (changes : List Change) (all : List ℕ) → Some (pending_after first changes).bytes ≡ Some all → IsImage (pending_after first changes) all
as_read first changes all told =
    let is : (pending_after first changes).bytes ≡ all = cc in subst (IsImage (pending_after first changes)) is (is_image-bytes _ (pending_is_sound first changes))
