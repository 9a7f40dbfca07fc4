-- What the calls of a volume in memory do to its bytes and its images.
use Rattle.std.proofs.Common.{◌≡◌, ⊎_elim, ℕ, ◌+◌, ◌≤◌, ◌<◌, IsTrue, List, [], ◌∷◌, ◌++◌, length, take, sym, ◌∙◌, ap, subst, arith, length-append}
use Rattle.std.specs.Prelude.{Some, slice_set}
use Rattle.std.proofs.lemmas.List.{length-set, length-take}
use Rattle.sx_volume.specs.Change.{AreBytes, Change, Appended, Put, Cut, Synced, Pending, settled, after_change, IsImage}
use Rattle.sx_volume.specs.Held.{held_piece}
use Rattle.sx_volume.specs.Images.{Only, IsWithin, Follows, Appends, Puts, Cuts, NoSync, Syncs, Elapses}
use Rattle.sx_volume.specs.Medium.{Medium, pending, bytes_of, is_calm, moment_of, MayLeave, MayHaveLeft, HadSync, after_append, after_put, after_cut, after_sync, after_failure}
use Rattle.sx_volume.specs.Replay.{IsSound, pending_after, pending_is_sound, only_now, WasImage, SyncAt}
use Rattle.sx_volume.proofs.Grown.{after_changes-push, since_change, elapses_grown, no_sync_grown, sync_grown}
use Rattle.sx_volume.proofs.Images.{appends_same, puts_same, cuts_same}
use Rattle.sx_volume.proofs.Steps.{appended_image, put_image, cut_image, settled_image, synced_image}

module _ (old new : Medium) where
  module _ (is : new ≡ after_failure old) where
    pub failed_images : IsWithin (MayLeave old) (MayHaveLeft new (moment_of old))
    failed_images c left = only_now old.first old.changes c (subst (λ (m : Medium). MayHaveLeft m (moment_of old) c) is left)

    pub failed_append : (end : ℕ) → Follows (Appends end) (MayLeave old) (MayHaveLeft new (moment_of old))
    failed_append end c left = (c, failed_images c left, appends_same end c)

    pub failed_put : (at : ℕ) → Follows (Puts at) (MayLeave old) (MayHaveLeft new (moment_of old))
    failed_put at c left = (c, failed_images c left, puts_same at c)

    pub failed_cut : (len : ℕ) → Follows (Cuts len) (MayLeave old) (MayHaveLeft new (moment_of old))
    failed_cut len c left = (c, failed_images c left, cuts_same len c)

  sound : IsSound (pending old)
  sound = pending_is_sound old.first old.changes

  pushed : (change : Change) → pending_after old.first (old.changes ++ change ∷ []) ≡ after_change (pending old) change
  pushed change = after_changes-push (settled old.first) old.changes change

  abbrev pub Goes : Type 0
  Goes = Elapses (moment_of old) (moment_of new) (MayHaveLeft old) (MayHaveLeft new) (HadSync old) (HadSync new)

  goes : (change : Change) → new.first ≡ old.first → new.changes ≡ old.changes ++ change ∷ [] → Goes
  goes change same grown =
      subst (λ (first : List ℕ). Elapses (moment_of old) (moment_of new) (MayHaveLeft old) (WasImage first new.changes) (HadSync old) (HadSync new)) (sym same)
      (subst (λ (changes : List Change). Elapses (moment_of old) (length changes) (MayHaveLeft old) (WasImage old.first changes) (HadSync old) (SyncAt changes)) (sym grown)
      (elapses_grown old.first old.changes (change ∷ [])))

  module _ (is : new ≡ after_append old) where
    abbrev piece : List ℕ
    piece = held_piece old.held

    bytes_appended : bytes_of new ≡ bytes_of old ++ piece
    bytes_appended = ap bytes_of is ∙ ap (λ (p : Pending). p.bytes) (pushed (Appended piece))

    pub told_append : Some (bytes_of new) ≡ Some (bytes_of old ++ piece)
    told_append = ap Some bytes_appended

    pub size_append : length (bytes_of new) ≡ length (bytes_of old) + length piece
    size_append = ap length bytes_appended ∙ length-append (bytes_of old) piece

    pub images_append : AreBytes piece → Follows (Appends (length (bytes_of old) + length piece)) (MayLeave old) (MayHaveLeft new (moment_of old))
    images_append bytes c left =
        ⊎_elim (λ before. (c, before, appends_same (length (bytes_of old) + length piece) c)) (λ after. appended_image (pending old) sound piece bytes c after)
        (since_change old.first old.changes (Appended piece) c (subst (λ (m : Medium). MayHaveLeft m (moment_of old) c) is left))

    pub no_sync_append : NoSync (HadSync old) (HadSync new)
    no_sync_append = subst (λ (m : Medium). NoSync (HadSync old) (HadSync m)) (sym is) (no_sync_grown old.changes (Appended piece) (λ same. cc same))

    pub time_append : Goes
    time_append = goes (Appended piece) (ap (λ (m : Medium). m.first) is) (ap (λ (m : Medium). m.changes) is)

  module _ (at byte : ℕ) (is : new ≡ after_put old at byte) where
    bytes_put : bytes_of new ≡ slice_set (bytes_of old) at byte
    bytes_put = ap bytes_of is ∙ ap (λ (p : Pending). p.bytes) (pushed (Put at byte))

    pub told_put : Some (bytes_of new) ≡ Some (slice_set (bytes_of old) at byte)
    told_put = ap Some bytes_put

    pub size_put : length (bytes_of new) ≡ length (bytes_of old)
    size_put = ap length bytes_put ∙ length-set (bytes_of old) at byte

    pub images_put : at < length (bytes_of old) → byte < 256 → Follows (Puts at) (MayLeave old) (MayHaveLeft new (moment_of old))
    images_put place is_byte c left =
        ⊎_elim (λ before. (c, before, puts_same at c)) (λ after. put_image (pending old) sound at byte place is_byte c after)
        (since_change old.first old.changes (Put at byte) c (subst (λ (m : Medium). MayHaveLeft m (moment_of old) c) is left))

    pub no_sync_put : NoSync (HadSync old) (HadSync new)
    no_sync_put = subst (λ (m : Medium). NoSync (HadSync old) (HadSync m)) (sym is) (no_sync_grown old.changes (Put at byte) (λ same. cc same))

    pub time_put : Goes
    time_put = goes (Put at byte) (ap (λ (m : Medium). m.first) is) (ap (λ (m : Medium). m.changes) is)

  module _ (len : ℕ) (is : new ≡ after_cut old len) where
    bytes_cut : bytes_of new ≡ take len (bytes_of old)
    bytes_cut = ap bytes_of is ∙ ap (λ (p : Pending). p.bytes) (pushed (Cut len))

    pub told_cut : Some (bytes_of new) ≡ Some (take len (bytes_of old))
    told_cut = ap Some bytes_cut

    pub size_cut : len ≤ length (bytes_of old) → length (bytes_of new) ≡ len
    size_cut place = omega (arith, place, ap length bytes_cut, length-take len (bytes_of old))

    pub images_cut : len ≤ length (bytes_of old) → Follows (Cuts len) (MayLeave old) (MayHaveLeft new (moment_of old))
    images_cut place c left =
        ⊎_elim (λ before. (c, before, cuts_same len c)) (λ after. cut_image (pending old) sound len place c after)
        (since_change old.first old.changes (Cut len) c (subst (λ (m : Medium). MayHaveLeft m (moment_of old) c) is left))

    pub no_sync_cut : NoSync (HadSync old) (HadSync new)
    no_sync_cut = subst (λ (m : Medium). NoSync (HadSync old) (HadSync m)) (sym is) (no_sync_grown old.changes (Cut len) (λ same. cc same))

    pub time_cut : Goes
    time_cut = goes (Cut len) (ap (λ (m : Medium). m.first) is) (ap (λ (m : Medium). m.changes) is)

  module _ (is : new ≡ after_sync old) where
    pending_synced : pending new ≡ settled (bytes_of old)
    pending_synced = ap pending is ∙ pushed Synced

    pub told_sync : Some (bytes_of new) ≡ Some (bytes_of old)
    told_sync = ap (λ (p : Pending). Some p.bytes) pending_synced

    pub size_sync : length (bytes_of new) ≡ length (bytes_of old)
    size_sync = ap (λ (p : Pending). length p.bytes) pending_synced

    pub calm_sync : IsTrue (is_calm new)
    calm_sync = ap (λ (p : Pending). p.calm) pending_synced

    pub durable_sync : Only (bytes_of old) (MayLeave new)
    durable_sync c image = settled_image (bytes_of old) c (subst (λ (p : Pending). IsImage p c) pending_synced image)

    pub images_sync : IsWithin (MayLeave old) (MayHaveLeft new (moment_of old))
    images_sync c left =
        ⊎_elim (λ before. before) (λ after. synced_image (pending old) sound c after)
        (since_change old.first old.changes Synced c (subst (λ (m : Medium). MayHaveLeft m (moment_of old) c) is left))

    pub one_sync : Syncs (moment_of old) (moment_of new) (HadSync old) (HadSync new)
    one_sync = subst (λ (m : Medium). Syncs (moment_of old) (moment_of m) (HadSync old) (HadSync m)) (sym is) (sync_grown old.changes)

    pub time_sync : Goes
    time_sync = goes Synced (ap (λ (m : Medium). m.first) is) (ap (λ (m : Medium). m.changes) is)
