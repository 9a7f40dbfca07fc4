-- What a crash may leave while a group is written behind the groups of a ledger.
use Rattle.std.proofs.Common.{◌≡◌, ◌∙◌, ◌⊎◌, inl, ⊎_elim, ℕ, zero, suc, ◌≤◌, List, [], ◌∷◌, ◌++◌, slice_set, Option, Some, IfSome, ap, sym, subst, arith, Result, Ok, Err}
use Rattle.std.specs.Prelude.{IsErrAnd}
use Rattle.std.specs.Option.{option_map}
use Rattle.sx_layout.specs.Birth.{Birth}
use Rattle.sx_layout.specs.Born.{HasLog}
use Rattle.sx_layout.specs.FrameGroup.{FrameGroup, gate_behind}
use Rattle.sx_log.specs.Committing.{KeepsLog, SameLog, with_staged}
use Rattle.sx_log.specs.Creating.{birth_of}
use Rattle.sx_log.specs.declared.birth.Birth.{Birth as Names}
use Rattle.sx_log.specs.declared.log.Log.{Log}
use Rattle.sx_log.proofs.Finding.{all_told}
use Rattle.sx_store.specs.Commits.{HasWithOrWithout, LeavesGroups, LeavesStage, LeavesWritten}
use Rattle.sx_store.specs.declared.fault.CommitFault.{CommitFault}
use Rattle.sx_store.specs.declared.fault.CommitFault.TheVariants as faults
use Rattle.sx_store.specs.declared.fault.Committed.{Committed}
use Rattle.sx_volume.specs.Images.{Elapses, KeptSince, Syncs}
use Rattle.sx_volume.specs.declared.volume.Volume.{Ghosts}

pub mapped_told : (bytes now : Option (List ℕ)) (f : List ℕ → List ℕ) (all : List ℕ) → bytes ≡ Some all → now ≡ option_map f bytes → (P : List ℕ → Type 0) → IfSome now P → P (f all)
mapped_told bytes now f all is made P holds = subst (λ (b : Option (List ℕ)). IfSome b P) (made ∙ ap (option_map f) is) holds

-- what is left over two calls, the second of which begins where the first one ended
module _ {V Spot End : Type 0} (g : Ghosts V Spot End) (old mid new : V) (later : g.moment old ≤ g.moment mid)
    (time : Elapses (g.moment mid) (g.moment new) (g.was_image mid) (g.was_image new) (g.synced mid) (g.synced new)) where
  pub left_then : (P : List ℕ → Type 0) → ((c : List ℕ) → g.was_image mid (g.moment old) c → P c) → ((c : List ℕ) → g.was_image new (g.moment mid) c → P c)
      → (c : List ℕ) → g.was_image new (g.moment old) c → P c
  left_then P first second c left =
      ⊎_elim (λ (before : g.was_image mid (g.moment old) c). first c before) (λ (during : g.was_image new (g.moment mid) c). second c during) (time.nothing_else (g.moment old) c later left)

  -- the first call synced at its end
  pub kept_since : (P : List ℕ → Type 0) → Syncs (g.moment old) (g.moment mid) (g.synced old) (g.synced mid) → ((c : List ℕ) → g.was_image new (g.moment mid) c → P c)
      → KeptSince (g.moment old) (g.was_image new) (g.synced new) P
  kept_since P syncs kept = (g.moment mid, syncs.later, time.syncs (g.moment mid) syncs.here, kept)

  module _ (birth : Birth) (groups : List FrameGroup) (next : FrameGroup) where
    -- the first call only held the group
    stage_then : (stage : ℕ) → ((c : List ℕ) → g.was_image mid (g.moment old) c → HasLog c birth groups) → LeavesStage birth groups next stage (g.moment mid) (g.was_image new) (g.synced new)
        → LeavesStage birth groups next stage (g.moment old) (g.was_image new) (g.synced new)
    stage_then zero first second = left_then (λ c. HasLog c birth groups) first second
    stage_then (suc zero) first second = left_then (λ c. HasLog c birth groups) first second
    stage_then (suc (suc stage)) first second = (
      left_then (HasWithOrWithout birth groups next) (λ c left. inl (first c left)) second.0,
      (second.1.0, omega (arith, later, second.1.1), second.1.2, second.1.3),
    )

    pub failed_then : (stage : ℕ) → ((c : List ℕ) → g.was_image mid (g.moment old) c → HasLog c birth groups)
        → LeavesWritten birth groups next (Err stage) (g.moment mid) (g.was_image new) (g.synced new)
        → LeavesGroups birth groups next (Err (faults.Failed stage)) (g.moment old) (g.was_image new) (g.synced new)
    failed_then stage first second = stage_then stage first second

    pub done_then : (done : Committed) → ((c : List ℕ) → g.was_image mid (g.moment old) c → HasLog c birth groups)
        → LeavesWritten birth groups next (Ok tt) (g.moment mid) (g.was_image new) (g.synced new) → LeavesGroups birth groups next (Ok done) (g.moment old) (g.was_image new) (g.synced new)
    done_then done first second = left_then (HasWithOrWithout birth groups next) (λ c left. inl (first c left)) second

-- A held group is written: it is put behind the closed gate, and then the gate is opened.
module _ {V Spot End : Type 0} (g : Ghosts V Spot End) (old mid new : V) (later : g.moment old ≤ g.moment mid)
    (time : Elapses (g.moment mid) (g.moment new) (g.was_image mid) (g.was_image new) (g.synced mid) (g.synced new)) (log mid_log : Log) (same : SameLog log mid_log) (groups : List FrameGroup) (next : FrameGroup)
    (bytes : g.bytes mid ≡ option_map (with_staged log.end next) (g.bytes old)) where
  -- what holds where the bytes are told in between
  in_between : (P : Type 0) (all : List ℕ) → g.bytes old ≡ Some all → IfSome (g.bytes mid) (λ _. P) → P
  in_between P all is holds = mapped_told (g.bytes old) (g.bytes mid) (with_staged log.end next) all is bytes (λ _. P) holds

  with_or_without : IfSome (g.bytes old) (λ _. (c : List ℕ) → g.was_image mid (g.moment old) c → HasLog c (birth_of log.birth) groups)
      → IfSome (g.bytes mid) (λ _. (c : List ℕ) → g.was_image new (g.moment mid) c → HasLog c (birth_of mid_log.birth) groups ⊎ HasLog c (birth_of mid_log.birth) (groups ++ next ∷ []))
      → IfSome (g.bytes old) (λ _. (c : List ℕ) → g.was_image new (g.moment old) c → HasWithOrWithout (birth_of log.birth) groups next c)
  with_or_without first second =
      all_told (g.bytes old) (λ _. (c : List ℕ) → g.was_image new (g.moment old) c → HasWithOrWithout (birth_of log.birth) groups next c)
      (λ all is.
      let before : (c : List ℕ) → g.was_image mid (g.moment old) c → HasLog c (birth_of log.birth) groups =
      subst (λ (b : Option (List ℕ)). IfSome b (λ _. (c : List ℕ) → g.was_image mid (g.moment old) c → HasLog c (birth_of log.birth) groups)) is first in
      let during = in_between ((c : List ℕ) → g.was_image new (g.moment mid) c → HasLog c (birth_of mid_log.birth) groups ⊎ HasLog c (birth_of mid_log.birth) (groups ++ next ∷ [])) all is second in
      left_then g old mid new later time (HasWithOrWithout (birth_of log.birth) groups next) (λ c left. inl (before c left))
      (subst (λ (b : Names). (c : List ℕ) → g.was_image new (g.moment mid) c → HasLog c (birth_of b) groups ⊎ HasLog c (birth_of b) (groups ++ next ∷ [])) same.birth during))

  pub written_done : IfSome (g.bytes old) (λ _. (c : List ℕ) → g.was_image mid (g.moment old) c → HasLog c (birth_of log.birth) groups)
      → IfSome (g.bytes mid) (λ _. (c : List ℕ) → g.was_image new (g.moment mid) c → HasLog c (birth_of mid_log.birth) groups ⊎ HasLog c (birth_of mid_log.birth) (groups ++ next ∷ []))
      → IfSome (g.bytes old) (λ _. LeavesWritten (birth_of log.birth) groups next (Ok tt) (g.moment old) (g.was_image new) (g.synced new))
  written_done first second = with_or_without first second

  pub written_failed : IfSome (g.bytes old) (λ _. Syncs (g.moment old) (g.moment mid) (g.synced old) (g.synced mid))
      → IfSome (g.bytes old) (λ _. (c : List ℕ) → g.was_image mid (g.moment old) c → HasLog c (birth_of log.birth) groups) → KeepsLog g mid_log mid groups
      → IfSome (g.bytes mid) (λ _. (c : List ℕ) → g.was_image new (g.moment mid) c → HasLog c (birth_of mid_log.birth) groups ⊎ HasLog c (birth_of mid_log.birth) (groups ++ next ∷ []))
      → IfSome (g.bytes mid) (λ _. (c : List ℕ) → g.was_image new (g.moment mid) c → HasLog (slice_set c mid_log.end 1) (birth_of mid_log.birth) (groups ++ next ∷ []))
      → IfSome (g.bytes old) (λ _. LeavesWritten (birth_of log.birth) groups next (Err 2) (g.moment old) (g.was_image new) (g.synced new))
  written_failed syncs first keeps second opened =
      all_told (g.bytes old) (λ _. LeavesWritten (birth_of log.birth) groups next (Err 2) (g.moment old) (g.was_image new) (g.synced new))
      (λ all is.
      let both : (c : List ℕ) → g.was_image new (g.moment old) c → HasWithOrWithout (birth_of log.birth) groups next c =
      subst (λ (b : Option (List ℕ)). IfSome b (λ _. (c : List ℕ) → g.was_image new (g.moment old) c → HasWithOrWithout (birth_of log.birth) groups next c)) is (with_or_without first second) in
      let synced : Syncs (g.moment old) (g.moment mid) (g.synced old) (g.synced mid) = subst (λ (b : Option (List ℕ)). IfSome b (λ _. Syncs (g.moment old) (g.moment mid) (g.synced old) (g.synced mid))) is syncs in
      let gate_open : (c : List ℕ) → g.was_image new (g.moment mid) c → HasLog (slice_set c mid_log.end 1) (birth_of mid_log.birth) (groups ++ next ∷ []) =
      in_between ((c : List ℕ) → g.was_image new (g.moment mid) c → HasLog (slice_set c mid_log.end 1) (birth_of mid_log.birth) (groups ++ next ∷ [])) all is opened in
      let here : (c : List ℕ) → g.was_image new (g.moment mid) c → HasLog (slice_set c (gate_behind groups) 1) (birth_of log.birth) (groups ++ next ∷ []) =
      subst (λ (n : ℕ). (c : List ℕ) → g.was_image new (g.moment mid) c → HasLog (slice_set c n 1) (birth_of log.birth) (groups ++ next ∷ [])) keeps.is_log.end
      (subst (λ (b : Names). (c : List ℕ) → g.was_image new (g.moment mid) c → HasLog (slice_set c mid_log.end 1) (birth_of b) (groups ++ next ∷ [])) same.birth gate_open) in
      (both, kept_since g old mid new later time (λ c. HasLog (slice_set c (gate_behind groups) 1) (birth_of log.birth) (groups ++ next ∷ [])) synced here))

-- want of memory leaves the groups as they were
pub refused_leaves : (birth : Birth) (groups : List FrameGroup) (next : FrameGroup) (r : Result Committed CommitFault) (from : ℕ) (was : ℕ → List ℕ → Type 0) (has : ℕ → Type 0)
    → IsErrAnd r (λ e. e ≡ faults.OutOfMemory) → ((image : List ℕ) → was from image → HasLog image birth groups) → LeavesGroups birth groups next r from was has
refused_leaves birth groups next (Ok done) from was has is all = absurd is
refused_leaves birth groups next (Err fault) from was has is all =
    subst (λ (f : CommitFault). LeavesGroups birth groups next (Err f) from was has) (sym is) all
