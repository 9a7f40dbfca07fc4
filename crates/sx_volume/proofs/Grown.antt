-- The record of a volume in memory grows by a change, or not at all.
use Rattle.std.proofs.Common.{◌≡◌, ◌≢◌, ◌⊎◌, inl, inr, ℕ, zero, suc, ◌<◌, ◌≤◌, List, [], ◌∷◌, ◌++◌, length, take, slice_get, Some, refl, sym, ◌∙◌, ap, subst, arith, length-append}
use Rattle.std.proofs.lemmas.Bool.{cases_lt}
use Rattle.std.proofs.lemmas.List.{take-append-le, take_all}
use Rattle.sx_volume.specs.Change.{Change, Synced, Pending, settled, after_change, after_changes, IsImage}
use Rattle.sx_volume.specs.Images.{Elapses, NoSync, Syncs}
use Rattle.sx_volume.specs.Replay.{WasImage, SyncAt, pending_after, got_within, synced_by_now}

pub after_changes-push : (p : Pending) (changes : List Change) (change : Change) → after_changes p (changes ++ change ∷ []) ≡ after_change (after_changes p changes) change
after_changes-push p [] change = refl
after_changes-push p (x ∷ changes) change = after_changes-push (after_change p x) changes change

pub after_changes-append : (p : Pending) (changes more : List Change) → after_changes p (changes ++ more) ≡ after_changes (after_changes p changes) more
after_changes-append p [] more = refl
after_changes-append p (x ∷ changes) more = after_changes-append (after_change p x) changes more

got_grown : (changes more : List Change) (k : ℕ) → k < length changes → slice_get (changes ++ more) k ≡ slice_get changes k
got_grown [] more k lt = absurd (omega (arith, lt))
got_grown (x ∷ changes) more zero lt = refl
got_grown (x ∷ changes) more (suc k) lt = got_grown changes more k (omega (arith, lt))

got_last : (changes : List Change) (change : Change) → slice_get (changes ++ change ∷ []) (length changes) ≡ Some change
got_last [] change = refl
got_last (x ∷ changes) change = got_last changes change

-- a sync before the last change is one of those that were there
sync_before : (changes more : List Change) (t : ℕ) → t ≤ length changes → SyncAt (changes ++ more) t → SyncAt changes t
sync_before changes more t le sync = (sync.0, sym (got_grown changes more sync.0 (omega (arith, le, sync.2))) ∙ sync.1, sync.2)

sync_still : (changes more : List Change) (t : ℕ) → SyncAt changes t → SyncAt (changes ++ more) t
sync_still changes more t sync = (sync.0, got_grown changes more sync.0 (got_within changes sync.0 Synced sync.1) ∙ sync.1, sync.2)

-- the last moment is that of the last change
sync_last : (changes : List Change) (change : Change) (t : ℕ) → length changes < t → SyncAt (changes ++ change ∷ []) t → (change ≡ Synced) × (t ≡ length (changes ++ change ∷ []))
sync_last changes change t lt sync =
    let by_now = synced_by_now (changes ++ change ∷ []) t sync in
    let last : t ≡ length (changes ++ change ∷ []) = omega (arith, by_now, lt, length-append changes (change ∷ [])) in
    let at : sync.0 ≡ length changes = omega (arith, sync.2, last, length-append changes (change ∷ [])) in
    let got : Some change ≡ Some Synced = sym (got_last changes change) ∙ ap (λ (k : ℕ). slice_get (changes ++ change ∷ []) k) (sym at) ∙ sync.1 in
    (cc got, last)

pub no_sync_grown : (changes : List Change) (change : Change) → change ≢ Synced → NoSync (SyncAt changes) (SyncAt (changes ++ change ∷ []))
no_sync_grown changes change other t sync = elim (cases_lt (length changes) t) [
  | inl after ↦ absurd (other (sync_last changes change t after sync).0)
  | inr before ↦ sync_before changes (change ∷ []) t before sync
]

pub sync_grown : (changes : List Change) → Syncs (length changes) (length (changes ++ Synced ∷ [])) (SyncAt changes) (SyncAt (changes ++ Synced ∷ []))
sync_grown changes = record {
  later = omega (arith, length-append changes (Synced ∷ []));
  here = (length changes, got_last changes Synced, length-append changes (Synced ∷ []));
  no_other = λ t sync. elim (cases_lt (length changes) t) [
    | inl after ↦ inr (sync_last changes Synced t after sync).1
    | inr before ↦ inl (sync_before changes (Synced ∷ []) t before sync)
  ];
}

module _ (first : List ℕ) (changes more : List Change) where
  -- at a moment that was there before, nothing is another
  abbrev At : ℕ → List ℕ → Type 0
  At k c = IsImage (pending_after first (take k changes)) c

  abbrev LaterAt : ℕ → List ℕ → Type 0
  LaterAt k c = IsImage (pending_after first (take k (changes ++ more))) c

  back : (k : ℕ) (c : List ℕ) → k ≤ length changes → LaterAt k c → At k c
  back k c le image = subst (λ (l : List Change). IsImage (pending_after first l) c) (take-append-le k changes more le) image

  on : (k : ℕ) (c : List ℕ) → k ≤ length changes → At k c → LaterAt k c
  on k c le image = subst (λ (l : List Change). IsImage (pending_after first l) c) (sym (take-append-le k changes more le)) image

  longer : length changes ≤ length (changes ++ more)
  longer = omega (arith, length-append changes more)

  nothing_else : (t : ℕ) (c : List ℕ) → WasImage first (changes ++ more) t c → WasImage first changes t c ⊎ WasImage first (changes ++ more) (length changes) c
  nothing_else t c was = elim (cases_lt (length changes) was.0) [
    | inl after ↦ inr (was.0, omega arith, was.2, was.3)
    | inr before ↦ inl (was.0, was.1, before, back was.0 c before was.3)
  ]

  pub elapses_grown : Elapses (length changes) (length (changes ++ more)) (WasImage first changes) (WasImage first (changes ++ more)) (SyncAt changes) (SyncAt (changes ++ more))
  elapses_grown = record {
    later = longer;
    nothing_else = λ t c le was. nothing_else t c was;
    keeps = λ t c le was. (was.0, was.1, omega (arith, was.2, longer), on was.0 c was.2 was.3);
    counts = λ t c le was. (was.0, omega (arith, le, was.1), was.2, was.3);
    syncs = sync_still changes more;
    no_sync_before = sync_before changes more;
  }

-- since the start of a call that made a change, the images are those before it and those after it
pub since_change : (first : List ℕ) (changes : List Change) (change : Change) (c : List ℕ) → WasImage first (changes ++ change ∷ []) (length changes) c → IsImage (pending_after first changes) c ⊎ IsImage (after_change (pending_after first changes) change) c
since_change first changes change c was = elim (cases_lt (length changes) was.0) [
  | inl after ↦
      let whole : take was.0 (changes ++ change ∷ []) ≡ changes ++ change ∷ [] = take_all was.0 (changes ++ change ∷ []) (omega (arith, after, length-append changes (change ∷ []))) in
      let pushed : pending_after first (take was.0 (changes ++ change ∷ [])) ≡ after_change (pending_after first changes) change =
      ap (pending_after first) whole ∙ after_changes-push (settled first) changes change in
      inr (subst (λ (p : Pending). IsImage p c) pushed was.3)
  | inr before ↦
      let whole : take was.0 (changes ++ change ∷ []) ≡ changes = take-append-le was.0 changes (change ∷ []) before ∙ take_all was.0 changes was.1 in
      inl (subst (λ (l : List Change). IsImage (pending_after first l) c) whole was.3)
]
