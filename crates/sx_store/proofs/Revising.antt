-- What a commit leaves, by what was left of its group.
use Rattle.std.proofs.Common.{◌≡◌, ◌∙◌, ◌⊎◌, inl, inr, ℕ, ℤ, zero, suc, ◌+◌, ◌≤◌, List, [], ◌∷◌, ◌++◌, length, Option, None, Some, IfSome, refl, ap, sym, subst, arith, append-nil, length-append, Result, Ok, Err, FitsSigned, w64}
use Rattle.std.proofs.lemmas.List.{append_assoc}
use Rattle.std.specs.Int.{int_max}
use Rattle.std.specs.Prelude.{IfErr, IfOk, IsErrAnd, IsErrOf, OnOk}
use Rattle.sha2.specs.Sha256.{sha256}
use Rattle.sx_layout.specs.Birth.{Birth}
use Rattle.sx_layout.specs.Born.{HasLog}
use Rattle.sx_layout.specs.FrameGroup.{FrameGroup, first_root, head_part}
use Rattle.sx_layout.proofs.Fronts.{same_front}
use Rattle.sx_log.specs.Committing.{IsNext, SameLog, sealed_bytes}
use Rattle.sx_log.specs.Creating.{birth_of}
use Rattle.sx_log.specs.Kept.{listed, root_behind}
use Rattle.sx_log.specs.declared.birth.Birth.{Birth as Names}
use Rattle.sx_log.specs.declared.log.GroupRow.{GroupRow}
use Rattle.sx_log.proofs.Finding.{all_told, if_told}
use Rattle.sx_model.specs.Commit.{Commit}
use Rattle.sx_root.specs.declared.root.RevisionRoot.{RevisionRoot}
use Rattle.sx_run.specs.Run.{Book, current, next_commit}
use Rattle.sx_store.specs.Commits.{Adds, Commits, HasWithOrWithout, IsNoFailure, IsWriteFault, Leaves, LeavesGroups, LeavesLog, LeavesStage, StandAll}
use Rattle.sx_store.specs.Groups.{IsGroupAfter}
use Rattle.sx_store.specs.Room.{room}
use Rattle.sx_store.specs.Shows.{HasDraft, Shows, birth_in, count_of, last_root_of, next_in, stage_of}
use Rattle.sx_store.specs.Sound.{GrowsFrom, HasAll, IsLedgerOf, IsSameDraft, IsSound, SameBut, SameDraft}
use Rattle.sx_store.specs.declared.draft.Draft.{Draft}
use Rattle.sx_store.specs.declared.fault.CommitFault.{CommitFault}
use Rattle.sx_store.specs.declared.fault.CommitFault.TheVariants as faults
use Rattle.sx_store.specs.declared.fault.Committed.{Committed}
use Rattle.sx_store.specs.declared.group.NewGroup.{NewGroup}
use Rattle.sx_store.specs.declared.ledger.Ledger.{Ledger}
use Rattle.sx_store.proofs.Accepting.{LastOf, added, no-memory, not-added}
use Rattle.sx_store.proofs.Committing.{is-next}
use Rattle.sx_store.proofs.Editing.{shows-with}
use Rattle.sx_store.proofs.Keeping.{grows-same, ledger-same}
use Rattle.sx_store.proofs.Ledgers.{images_have, images_stand, kept_in, shown_groups}
use Rattle.sx_volume.specs.declared.spot.Spot as spot
use Rattle.sx_volume.specs.declared.volume.Volume as volume
use Rattle.sx_whole.specs.Stands.{ShowsState, Stands}

-- ---- nothing was written

leaves-all : {S : Type 0} (s : spot.Ghosts S) (birth : Birth) (book : Book) (next : Commit) (fault : CommitFault) (new : Ledger S) (from : ℕ) (was : ℕ → List ℕ → Type 0) (has : ℕ → Type 0)
    → Commits s book next (Err fault) new → IsNoFailure fault → StandAll birth book (was from) → Leaves birth book next (Err fault) from was has
leaves-all s birth book next (faults.Stopped stage) new from was has is none all = absurd is
leaves-all s birth book next faults.ReadFailed new from was has is none all = all
leaves-all s birth book next (faults.Damaged damage) new from was has is none all = absurd is
leaves-all s birth book next (faults.LogFull frames revisions) new from was has is none all = all
leaves-all s birth book next (faults.CommitTooLarge bytes) new from was has is none all = all
leaves-all s birth book next faults.OutOfMemory new from was has is none all = all
leaves-all s birth book next (faults.Failed stage) new from was has is none all = absurd (none stage refl)

unwritten : {S : Type 0} (s : spot.Ghosts S) (birth : Birth) (book : Book) (next : Commit) (r : Result Committed CommitFault) (fault : CommitFault) (new : Ledger S) (from : ℕ) (was : ℕ → List ℕ → Type 0) (has : ℕ → Type 0)
    → IsErrAnd r (λ e. e ≡ fault) → Commits s book next (Err fault) new → IsNoFailure fault → StandAll birth book (was from) → Commits s book next r new × Leaves birth book next r from was has
unwritten s birth book next (Ok done) fault new from was has is commits none all = absurd is
unwritten s birth book next (Err e) fault new from was has is commits none all =
    subst (λ (f : CommitFault). Commits s book next (Err f) new × Leaves birth book next (Err f) from was has) (sym is) (commits, leaves-all s birth book next fault new from was has commits none all)

module _ {V S E : Type 0} (g : volume.Ghosts V S E) (s : spot.Ghosts S) (volume : V) (old : Ledger S) (sound : IsSound g s volume old) (going : stage_of old ≡ None)
    (only_now : (image : List ℕ) → g.was_image volume (g.moment volume) image → g.is_image volume image) where
  -- the volume was not touched
  pub nothing-written : (book : Book) (next : Commit) (r : Result Committed CommitFault) (fault : CommitFault) (new : Ledger S) → Shows s old book → IsErrAnd r (λ e. e ≡ fault)
      → Commits s book next (Err fault) new → IsNoFailure fault
      → IfSome (g.bytes volume) (λ _. Commits s book next r new × Leaves (birth_in old) book next r (g.moment volume) (g.was_image volume) (g.synced volume))
  nothing-written book next r fault new shows is commits none =
      if_told (g.bytes volume) (λ _. (image : List ℕ) → g.is_image volume image → Stands image (Some (birth_in old)) book.commits)
      (λ _. Commits s book next r new × Leaves (birth_in old) book next r (g.moment volume) (g.was_image volume) (g.synced volume))
      (λ all told stand. unwritten s (birth_in old) book next r fault new (g.moment volume) (g.was_image volume) (g.synced volume) is commits none (λ image left. stand image (only_now image left)))
      (images_stand g s volume old sound going book shows)

  pub all-there : IfSome (g.bytes volume) (λ _. (image : List ℕ) → g.was_image volume (g.moment volume) image → HasAll s old image)
  all-there =
      if_told (g.bytes volume) (λ _. (image : List ℕ) → g.is_image volume image → HasAll s old image) (λ _. (image : List ℕ) → g.was_image volume (g.moment volume) image → HasAll s old image)
      (λ all told have image left. have image (only_now image left)) (images_have g s volume old sound going)

-- ---- the group of the state is the one that was made

parts : (head digest body : List ℕ) → (head ++ (digest ++ body)) ++ 0 ∷ [] ≡ head ++ (digest ++ (body ++ 0 ∷ []))
parts head digest body = append_assoc head (digest ++ body) (0 ∷ []) ∙ ap (λ (l : List ℕ). head ++ l) (append_assoc digest body (0 ∷ []))

same-body : (head digest a b : List ℕ) → (head ++ (digest ++ a)) ++ 0 ∷ [] ≡ (head ++ (digest ++ b)) ++ 0 ∷ [] → a ≡ b
same-body head digest a b same =
    let behind = same_front head head (digest ++ (a ++ 0 ∷ [])) (digest ++ (b ++ 0 ∷ [])) refl (sym (parts head digest a) ∙ same ∙ parts head digest b) in
    let bodies = same_front digest digest (a ++ 0 ∷ []) (b ++ 0 ∷ []) refl behind.1 in
    let long : length a ≡ length b = omega (arith, length-append a (0 ∷ []), length-append b (0 ∷ []), ap length bodies.1) in
    (same_front a b (0 ∷ []) (0 ∷ []) long bodies.1).0

group-same : (last : RevisionRoot) (made : NewGroup) (next : IsGroupAfter last made) (group : FrameGroup) → made.root ≡ group.root → made.bytes.items ≡ sealed_bytes group → made.row ∷ [] ≡ group.table → group ≡ next.group
group-same last made next group root bytes table =
    let own : FrameGroup = next.group in
    let roots : group.root ≡ own.root = sym root ∙ next.root_is in
    let tables : group.table ≡ own.table = sym table ∙ sym next.table in
    let other : FrameGroup = record { root = own.root; table = own.table; body = group.body } in
    let moved : group ≡ other = λ i. record { root = roots i; table = tables i; body = group.body } in
    let head : List ℕ = head_part own.root own.table in
    let bodies : group.body ≡ own.body = same-body head (sha256 head) group.body own.body (ap (λ (x : FrameGroup). sealed_bytes x) (sym moved) ∙ sym bytes ∙ next.bytes_are) in
    moved ∙ ap (λ (b : List ℕ). (record { root = own.root; table = own.table; body = b })) bodies

-- ---- what is left of the ledger's groups

-- each image has the groups, and maybe one more
with-more : (birth : Birth) (groups : List FrameGroup) (next : FrameGroup) (image : List ℕ) → HasWithOrWithout birth groups next image → (more : List FrameGroup) × HasLog image birth (groups ++ more)
with-more birth groups next image (inl has) = ([], subst (HasLog image birth) (sym (append-nil groups)) has)
with-more birth groups next image (inr has) = (next ∷ [], has)

none-more : (birth : Birth) (groups : List FrameGroup) (image : List ℕ) → HasLog image birth groups → (more : List FrameGroup) × HasLog image birth (groups ++ more)
none-more birth groups image has = ([], subst (HasLog image birth) (sym (append-nil groups)) has)

stage-more : (birth : Birth) (groups : List FrameGroup) (next : FrameGroup) (stage from : ℕ) (was : ℕ → List ℕ → Type 0) (has : ℕ → Type 0) → LeavesStage birth groups next stage from was has
    → (image : List ℕ) → was from image → (more : List FrameGroup) × HasLog image birth (groups ++ more)
stage-more birth groups next zero from was has leaves image left = none-more birth groups image (leaves image left)
stage-more birth groups next (suc zero) from was has leaves image left = none-more birth groups image (leaves image left)
stage-more birth groups next (suc (suc stage)) from was has leaves image left = with-more birth groups next image (leaves.0 image left)

left-more : (birth : Birth) (groups : List FrameGroup) (next : FrameGroup) (r : Result Committed CommitFault) (from : ℕ) (was : ℕ → List ℕ → Type 0) (has : ℕ → Type 0) → LeavesGroups birth groups next r from was has
    → (image : List ℕ) → was from image → (more : List FrameGroup) × HasLog image birth (groups ++ more)
left-more birth groups next (Ok done) from was has leaves image left = with-more birth groups next image (leaves image left)
left-more birth groups next (Err (faults.Stopped stage)) from was has leaves image left = none-more birth groups image (leaves image left)
left-more birth groups next (Err faults.ReadFailed) from was has leaves image left = none-more birth groups image (leaves image left)
left-more birth groups next (Err (faults.Damaged damage)) from was has leaves image left = none-more birth groups image (leaves image left)
left-more birth groups next (Err (faults.LogFull frames revisions)) from was has leaves image left = none-more birth groups image (leaves image left)
left-more birth groups next (Err (faults.CommitTooLarge bytes)) from was has leaves image left = none-more birth groups image (leaves image left)
left-more birth groups next (Err faults.OutOfMemory) from was has leaves image left = none-more birth groups image (leaves image left)
left-more birth groups next (Err (faults.Failed stage)) from was has leaves image left = stage-more birth groups next stage from was has leaves image left

-- ---- the group was taken, or not

module _ {S : Type 0} (old new : Ledger S) where
  -- what an error says of the ledger
  abbrev Fails : Result Committed CommitFault → Type 0
  Fails r = (stage : ℕ) → IsErrOf r (faults.Failed stage)
      → (stage_of new ≡ Some stage) × (new.draft ≡ None) × SameLog old.log new.log × (new.cells.items ≡ old.cells.items) × ((stage ≡ 1) ⊎ (stage ≡ 2))

  abbrev Refuses : Result Committed CommitFault → Type 0
  Refuses r = IfErr r (λ fault. IsNoFailure fault → SameBut old new × (new.draft ≡ old.draft))

  same-else : (fault : CommitFault) → IsWriteFault fault → Fails (Err fault) → Refuses (Err fault) → SameLog old.log new.log × (new.cells.items ≡ old.cells.items)
  same-else (faults.Stopped stage) is fails same = absurd is
  same-else faults.ReadFailed is fails same = absurd is
  same-else (faults.Damaged damage) is fails same = absurd is
  same-else (faults.LogFull frames revisions) is fails same = absurd is
  same-else (faults.CommitTooLarge bytes) is fails same = absurd is
  same-else faults.OutOfMemory is fails same = let parts = same (λ stage told. cc told) in (parts.0.log, parts.0.cells)
  same-else (faults.Failed stage) is fails same = let parts = fails stage refl in (parts.2, parts.3)

  pub no-fewer : (r : Result Committed CommitFault) → OnOk r (count_of new ≡ count_of old + 1) → IfErr r IsWriteFault → Fails r → Refuses r → count_of old ≤ count_of new
  no-fewer (Ok done) counts is fails same = omega (arith, counts)
  no-fewer (Err fault) counts is fails same = let rows = ap (λ (rows : List GroupRow). length rows) (same-else fault is fails same).0.rows in omega (arith, rows)

-- What adding a group leaves of a ledger and of its volume.
pub record IsAdded {V S E : Type 0} (g : volume.Ghosts V S E) (s : spot.Ghosts S) (volume later : V) (old new : Ledger S) (made : NewGroup) (r : Result Committed CommitFault) : Type 0 where
  pub adds : OnOk r (IfSome (g.bytes volume) (λ _. (next : FrameGroup) → IsNext (listed old.log.groups) made.bytes.items next → next.table ≡ made.row ∷ [] → Adds s old next new))
  pub leaves : IfSome (g.bytes volume) (λ _. (next : FrameGroup) → IsNext (listed old.log.groups) made.bytes.items next → LeavesLog s old next r (g.moment volume) (g.was_image later) (g.synced later))
  pub done : IfOk r (λ done. (done.revision ≡ made.root.revision) × (done.time ≡ made.root.time))
  pub goes_on : OnOk r ((stage_of new ≡ None) × (new.draft ≡ None))
  pub fails : Fails old new r
  pub refuses : IfErr r IsWriteFault
  pub same_ledger : Refuses old new r

module _ {V S E : Type 0} (g : volume.Ghosts V S E) (s : spot.Ghosts S) (volume later : V) (old new : Ledger S) (made : NewGroup) (next : IsGroupAfter (last_root_of old) made) where
  is-the-next : IsNext (listed old.log.groups) made.bytes.items next.group
  is-the-next = is-next (last_root_of old) made (listed old.log.groups) next refl

  abbrev Leave : Result Committed CommitFault → Type 0
  Leave r = IfSome (g.bytes volume) (λ _. (group : FrameGroup) → IsNext (listed old.log.groups) made.bytes.items group → LeavesLog s old group r (g.moment volume) (g.was_image later) (g.synced later))

  abbrev Add : Result Committed CommitFault → Type 0
  Add r = OnOk r (IfSome (g.bytes volume) (λ _. (group : FrameGroup) → IsNext (listed old.log.groups) made.bytes.items group → group.table ≡ made.row ∷ [] → Adds s old group new))

  left : (r : Result Committed CommitFault) → Leave r → (all : List ℕ) → g.bytes volume ≡ Some all → (groups : List FrameGroup) → IsLedgerOf s old groups
      → LeavesGroups (birth_in old) groups next.group r (g.moment volume) (g.was_image later) (g.synced later)
  left r leaves all told =
      subst (λ (b : Option (List ℕ)). IfSome b (λ _. (group : FrameGroup) → IsNext (listed old.log.groups) made.bytes.items group → LeavesLog s old group r (g.moment volume) (g.was_image later) (g.synced later))) told leaves
      next.group is-the-next

  joined : (done : Committed) → Add (Ok done) → (all : List ℕ) → g.bytes volume ≡ Some all → (groups : List FrameGroup) → IsLedgerOf s old groups → IsLedgerOf s new (groups ++ next.group ∷ [])
  joined done adds all told =
      subst (λ (b : Option (List ℕ)). IfSome b (λ _. (group : FrameGroup) → IsNext (listed old.log.groups) made.bytes.items group → group.table ≡ made.row ∷ [] → Adds s old group new)) told adds
      next.group is-the-next next.table

  -- the later ledger has all that the earlier one has
  pub grown : (r : Result Committed CommitFault) → Add r → birth_in new ≡ birth_in old → IfErr r IsWriteFault → Fails old new r → Refuses old new r → IfSome (g.bytes volume) (λ _. GrowsFrom s old new)
  grown (Ok done) adds birth is fails same =
      all_told (g.bytes volume) (λ _. GrowsFrom s old new) (λ all told. record { birth = birth; grown = λ groups of. (next.group ∷ [], joined done adds all told groups of) })
  grown (Err fault) adds birth is fails same =
      all_told (g.bytes volume) (λ _. GrowsFrom s old new) (λ all told. let parts = same-else old new fault is fails same in grows-same s old new parts.0 parts.1)

  -- each image has all that the ledger has
  pub has-all : (r : Result Committed CommitFault) → Leave r → IfSome (g.bytes volume) (λ _. (image : List ℕ) → g.was_image later (g.moment volume) image → HasAll s old image)
  has-all r leaves = all_told (g.bytes volume) (λ _. (image : List ℕ) → g.was_image later (g.moment volume) image → HasAll s old image)
      (λ all told image was groups of. left-more (birth_in old) groups next.group r (g.moment volume) (g.was_image later) (g.synced later) (left r leaves all told groups of) image was)

  module _ (book : Book) (moment : ℤ) (root : RevisionRoot) (time : ℤ) (sound : IsSound g s volume old) (going : stage_of old ≡ None) (shows : Shows s old book) (last : LastOf old book) (fits : FitsSigned w64 moment)
      (root_is : root ≡ last_root_of old) (time_is : time ≡ int_max moment root.time) (free : room (book.commits ++ next_commit book moment ∷ []) ≡ None)
      (has : (group : FrameGroup) × ShowsState (root.revision + 1) time (current book) group × (made.root ≡ group.root) × (made.bytes.items ≡ sealed_bytes group) × (made.row ∷ [] ≡ group.table)) where
    same-time : time ≡ (next_commit book moment).time
    same-time = time_is ∙ ap (λ (r : RevisionRoot). int_max moment r.time) root_is ∙ ap (int_max moment) last.time

    shown : ShowsState ((last_root_of old).revision + 1) (next_commit book moment).time (current book) next.group
    shown =
        let own : ShowsState (root.revision + 1) time (current book) next.group = subst (ShowsState (root.revision + 1) time (current book)) (group-same (last_root_of old) made next has.0 has.2 has.3 has.4) has.1 in
        subst (λ (r : RevisionRoot). ShowsState (r.revision + 1) (next_commit book moment).time (current book) next.group) root_is
        (subst (λ (t : ℤ). ShowsState (root.revision + 1) t (current book) next.group) same-time own)

    revision : made.root.revision ≡ (last_root_of old).revision + 1
    revision = ap (λ (r : RevisionRoot). r.revision) has.2 ∙ ap (λ (group : FrameGroup). group.root.revision) has.1.group_is ∙ ap (λ (r : RevisionRoot). r.revision + 1) root_is

    made-time : made.root.time ≡ (next_commit book moment).time
    made-time = ap (λ (r : RevisionRoot). r.time) has.2 ∙ ap (λ (group : FrameGroup). group.root.time) has.1.group_is ∙ same-time

    by : (r : Result Committed CommitFault) → IsAdded g s volume later old new made r → (all : List ℕ) → g.bytes volume ≡ Some all → (groups : List FrameGroup) → IsLedgerOf s old groups
        → Commits s book (next_commit book moment) r new × Leaves (birth_in old) book (next_commit book moment) r (g.moment volume) (g.was_image later) (g.synced later)
    by (Ok done) is all told groups of =
        added s (birth_in old) old book moment groups next.group shows last (shown_groups s old book groups shows of) fits shown new done (g.moment volume) (g.was_image later) (g.synced later) free
        (is.done.0 ∙ revision) (is.done.1 ∙ made-time) (joined done is.adds all told groups of) is.goes_on.1 is.goes_on.0 (left (Ok done) is.leaves all told groups of)
    by (Err (faults.Stopped stage)) is all told groups of = absurd is.refuses
    by (Err faults.ReadFailed) is all told groups of = absurd is.refuses
    by (Err (faults.Damaged damage)) is all told groups of = absurd is.refuses
    by (Err (faults.LogFull frames revisions)) is all told groups of = absurd is.refuses
    by (Err (faults.CommitTooLarge bytes)) is all told groups of = absurd is.refuses
    by (Err faults.OutOfMemory) is all told groups of =
        let same = is.same_ledger (λ stage told. cc told) in
        no-memory s (birth_in old) old book moment groups next.group shows last (shown_groups s old book groups shows of) fits shown new (g.moment volume) (g.was_image later) (g.synced later)
        (shows-with s old new book book.edits same.0 shows shows.accepted (subst (λ (o : Option Draft). HasDraft o book) (sym same.1) shows.draft)) (left (Err faults.OutOfMemory) is.leaves all told groups of)
    by (Err (faults.Failed stage)) is all told groups of =
        let parts = is.fails stage refl in
        not-added s (birth_in old) old book moment groups next.group shows last (shown_groups s old book groups shows of) fits shown new stage (g.moment volume) (g.was_image later) (g.synced later) free
        parts.4 (ledger-same s old new parts.2 parts.3 groups of) parts.1 parts.0 (left (Err (faults.Failed stage)) is.leaves all told groups of)

    -- it joins the commits, or it does not
    pub commits-or-not : (r : Result Committed CommitFault) → IsAdded g s volume later old new made r
        → IfSome (g.bytes volume) (λ _. Commits s book (next_commit book moment) r new × Leaves (birth_in old) book (next_commit book moment) r (g.moment volume) (g.was_image later) (g.synced later))
    commits-or-not r is = all_told (g.bytes volume) (λ _. Commits s book (next_commit book moment) r new × Leaves (birth_in old) book (next_commit book moment) r (g.moment volume) (g.was_image later) (g.synced later))
        (λ all told. let kept = kept_in g s volume old sound going all told in by r is all told kept.groups kept.is_of)

-- ---- the ledger before the draft was taken

module _ {S : Type 0} (s : spot.Ghosts S) (old mid new : Ledger S) (same : SameBut old mid) where
  same-birth : birth_in mid ≡ birth_in old
  same-birth = ap (λ (b : Names). birth_of b) same.log.birth

  pub same-root : last_root_of mid ≡ last_root_of old
  same-root = ap (λ (rows : List GroupRow). root_behind first_root rows) same.log.rows

  pub fewer-before : count_of mid ≤ count_of new → count_of old ≤ count_of new
  fewer-before within = let rows = ap (λ (rows : List GroupRow). length rows) same.log.rows in omega (arith, within, rows)

  pub grown-before : (bytes : Option (List ℕ)) → IfSome bytes (λ _. GrowsFrom s mid new) → IfSome bytes (λ _. GrowsFrom s old new)
  grown-before bytes = if_told bytes (λ _. GrowsFrom s mid new) (λ _. GrowsFrom s old new)
      (λ all is grows. record { birth = grows.birth ∙ same-birth; grown = λ groups of. grows.grown groups (ledger-same s old mid same.log same.cells groups of) })

  pub all-before : (bytes : Option (List ℕ)) (was : List ℕ → Type 0) → IfSome bytes (λ _. (image : List ℕ) → was image → HasAll s mid image) → IfSome bytes (λ _. (image : List ℕ) → was image → HasAll s old image)
  all-before bytes was = if_told bytes (λ _. (image : List ℕ) → was image → HasAll s mid image) (λ _. (image : List ℕ) → was image → HasAll s old image)
      (λ all is has image left groups of.
      let found = has image left groups (ledger-same s old mid same.log same.cells groups of) in
      (found.0, subst (λ (b : Birth). HasLog image b (groups ++ found.0)) same-birth found.1))

  pub leaves-before : (bytes : Option (List ℕ)) (book : Book) (next : Commit) (r : Result Committed CommitFault) (from : ℕ) (was : ℕ → List ℕ → Type 0) (has : ℕ → Type 0)
      → IfSome bytes (λ _. Commits s book next r new × Leaves (birth_in mid) book next r from was has) → IfSome bytes (λ _. Commits s book next r new × Leaves (birth_in old) book next r from was has)
  leaves-before bytes book next r from was has = subst (λ (b : Birth). IfSome bytes (λ _. Commits s book next r new × Leaves b book next r from was has)) same-birth

  same-then : (tells : Type 0) → SameDraft s tells old mid → SameBut mid new → new.draft ≡ mid.draft → SameBut old new × SameDraft s tells old new
  same-then tells before later draft = (
    record {
      log = record { birth = later.log.birth ∙ same.log.birth; rows = later.log.rows ∙ same.log.rows; end = later.log.end ∙ same.log.end };
      cells = later.cells ∙ same.cells;
      stage = later.stage ∙ same.stage;
    },
    record {
      draft = subst (λ (o : Option Draft). IsSameDraft s tells old old.draft o) (sym draft) before.draft;
      next = ap (λ (o : Option Draft). next_in o (last_root_of new)) draft ∙ ap (λ (rows : List GroupRow). next_in mid.draft (root_behind first_root rows)) later.log.rows ∙ before.next;
    },
  )

  pub same-ledger : (tells : Type 0) (r : Result Committed CommitFault) → SameDraft s tells old mid → IfErr r (λ fault. IsNoFailure fault → SameBut mid new × (new.draft ≡ mid.draft))
      → IfErr r (λ fault. IsNoFailure fault → SameBut old new × SameDraft s tells old new)
  same-ledger tells (Ok done) before later = tt
  same-ledger tells (Err fault) before later = λ none. let parts = later none in same-then tells before parts.0 parts.1

pub goes-on : {S : Type 0} (r : Result Committed CommitFault) (new : Ledger S) → OnOk r ((stage_of new ≡ None) × (new.draft ≡ None)) → OnOk r (stage_of new ≡ None)
goes-on (Ok done) new is = is.0
goes-on (Err fault) new is = tt
