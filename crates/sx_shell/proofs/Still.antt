-- Calls that leave the volume as it was.
use Rattle.std.proofs.Common.{◌≡◌, ◌∙◌, ℕ, ◌≤◌, List, ◌++◌, length, Option, None, Some, IfSome, IsSome, is_some, refl, ap, sym, subst, arith, append_assoc}
use Rattle.std.proofs.lemmas.Bool.{false≢true}
use Rattle.sx_layout.specs.FrameGroup.{FrameGroup}
use Rattle.sx_outside.specs.Faults.{Rose}
use Rattle.sx_run.specs.Run.{Book}
use Rattle.sx_shell.proofs.Climbing.{climbed_same}
use Rattle.sx_layout.specs.Born.{HasLog}
use Rattle.sx_layout.specs.Birth.{Birth}
use Rattle.sx_shell.specs.Done.{Carries, Continues, HaveAll}
use Rattle.sx_shell.specs.Medium.{Medium}
use Rattle.sx_shell.specs.Shows.{IsReady}
use Rattle.sx_log.specs.Creating.{birth_of}
use Rattle.sx_store.specs.Shows.{birth_in, count_of, stage_of}
use Rattle.sx_store.specs.Sound.{GrowsFrom, HasAll, IsLedgerOf, IsSound, SameBut}
use Rattle.sx_store.specs.declared.ledger.Ledger.{Ledger}
use Rattle.sx_volume.proofs.Images.{elapses_same, elapses_then}
use Rattle.sx_volume.specs.declared.spot.Spot as spot
use Rattle.sx_volume.specs.declared.volume.Volume as volume

-- what holds always holds where bytes are told
pub if_told : {A P : Type 0} (o : Option A) → P → IfSome o (λ _. P)
if_told None p = tt
if_told (Some x) p = p

-- what holds where bytes are told, which are told where others are
pub told_before : {A : Type 0} (P : Type 0) (old new : Option A) → (IsSome old → IsSome new) → IfSome new (λ _. P) → IfSome old (λ _. P)
told_before P None new told p = tt
told_before P (Some x) None told p = absurd (false≢true (told refl))
told_before P (Some x) (Some y) told p = p

pub both_told : {A P Q R : Type 0} (o : Option A) → (P → Q → R) → IfSome o (λ _. P) → IfSome o (λ _. Q) → IfSome o (λ _. R)
both_told None f p q = tt
both_told (Some x) f p q = f p q

pub when_some : {A P : Type 0} (o : Option A) → IsSome o → IfSome o (λ _. P) → P
when_some None some p = absurd (false≢true some)
when_some (Some x) some p = p

pub not_some : {A : Type 0} (o : Option A) → o ≡ None → IsSome o → ⊥
not_some o is some = false≢true (sym (ap is_some is) ∙ some)

module _ {S : Type 0} (s : spot.Ghosts S) where
  -- a ledger grows from another, and that from a third
  pub grows_then : (first mid last : Ledger S) → GrowsFrom s first mid → GrowsFrom s mid last → GrowsFrom s first last
  grows_then first mid last one two = record {
    birth = two.birth ∙ one.birth;
    grown = λ groups is.
        let to_mid = one.grown groups is in
        let to_last = two.grown (groups ++ to_mid.0) to_mid.1 in
        (to_mid.0 ++ to_last.0, subst (λ (all : List FrameGroup). IsLedgerOf s last all) (append_assoc groups to_mid.0 to_last.0) to_last.1);
  }

  -- an image that has all of a ledger has all of one from which that grew
  pub has_all_before : (first last : Ledger S) (image : List ℕ) → GrowsFrom s first last → HasAll s last image → HasAll s first image
  has_all_before first last image grows has = λ groups is.
      let grown = grows.grown groups is in
      let all = has (groups ++ grown.0) grown.1 in (
        grown.0 ++ all.0,
        subst (λ (birth : Birth). HasLog image birth (groups ++ (grown.0 ++ all.0))) grows.birth
            (subst (λ (list : List FrameGroup). HasLog image (birth_in last) list) (append_assoc groups grown.0 all.0) all.1),
      )

-- a ledger with the same log has as many commits
pub counts_same : {S : Type 0} (old new : Ledger S) → SameBut old new → count_of new ≡ count_of old
counts_same old new same = ap length same.log.rows

-- and the same birth
pub birth_same : {S : Type 0} (old new : Ledger S) → SameBut old new → birth_in new ≡ birth_in old
birth_same old new same = ap birth_of same.log.birth

module _ {V S E : Type 0} (g : volume.Ghosts V S E) (s : spot.Ghosts S) where
  pub ready_still : (old new : V) (before after : Ledger S) (olds news : List E) (revisions : List ℕ) → IsReady g s old before olds revisions → count_of before ≤ count_of after
      → length news ≡ length olds → IsSound g s new after → IsReady g s new after news revisions
  ready_still old new before after olds news revisions ready more count sound = record {
    sound = sound;
    there = λ client. let there = ready.there client in omega (arith, more, there);
    each = count ∙ ready.each;
  }

  pub continues_still : (old new : V) (before after : Ledger S) → new ≡ old
      → ((t : ℕ) (c : List ℕ) → t ≤ g.moment old → g.is_image old c → g.was_image old t c) → ((c : List ℕ) → g.was_image old (g.moment old) c → g.is_image old c)
      → birth_in after ≡ birth_in before → GrowsFrom s before after → stage_of after ≡ stage_of before → Continues g s old new before after
  continues_still old new before after same counts only birth grows stage = subst (λ (v : V). Continues g s old v before after) (sym same) (record {
    time = elapses_same (g.moment old) (g.was_image old) (g.synced old) (g.is_image old) counts only;
    told = λ some. some;
    same_birth = birth;
    grows = if_told (g.bytes old) grows;
    keeps = if_told (g.bytes old) (λ from first le grew have. have);
    stays = λ stage_then is. (stage ∙ is, refl);
    no_fault = λ going. refl;
    cause = λ going stopped. absurd (not_some (stage_of after) (stage ∙ going) stopped);
    never_falls = omega arith;
  })

  abbrev Keeps : V → V → Ledger S → Type 0
  Keeps old new before = (from : ℕ) (older : Ledger S) → from ≤ g.moment old → GrowsFrom s older before → HaveAll g s from old older → HaveAll g s from new older

  keeps_then : (a b c : V) (one two : Ledger S) → g.moment a ≤ g.moment b → IfSome (g.bytes a) (λ _. GrowsFrom s one two) → IfSome (g.bytes a) (λ _. Keeps a b one) → IfSome (g.bytes a) (λ _. Keeps b c two)
      → IfSome (g.bytes a) (λ _. Keeps a c one)
  keeps_then a b c one two later grows p q =
      both_told (g.bytes a)
      (λ (grow : GrowsFrom s one two) (both : Keeps a b one × Keeps b c two).
      λ from older le grew have. both.1 from older (omega (arith, le, later)) (grows_then s older one two grew grow) (both.0 from older le grew have))
      grows (both_told (g.bytes a) (λ (x : Keeps a b one) (y : Keeps b c two). (x, y)) p q)

  -- one call behind another
  pub continues_then : (a b c : V) (one two three : Ledger S) → Continues g s a b one two → Continues g s b c two three → Continues g s a c one three
  continues_then a b c one two three first second = record {
    time = elapses_then (g.moment a) (g.moment b) (g.moment c) (g.was_image a) (g.was_image b) (g.was_image c) (g.synced a) (g.synced b) (g.synced c) first.time second.time;
    told = λ some. second.told (first.told some);
    same_birth = second.same_birth ∙ first.same_birth;
    grows = both_told (g.bytes a) (λ (p : GrowsFrom s one two) (q : GrowsFrom s two three). grows_then s one two three p q) first.grows (told_before _ (g.bytes a) (g.bytes b) first.told second.grows);
    keeps = keeps_then a b c one two first.time.later first.grows first.keeps (told_before _ (g.bytes a) (g.bytes b) first.told second.keeps);
    stays = λ stage is. let mid = first.stays stage is in let end = second.stays stage mid.0 in (end.0, end.1 ∙ mid.1);
    no_fault = λ going. no_fault_by (stage_of two) refl going;
    cause = λ going stopped. cause_by (stage_of two) refl going stopped;
    never_falls = let one_more = first.never_falls in let two_more = second.never_falls in omega (arith, one_more, two_more);
  }
    where
      no_fault_by : (o : Option ℕ) → stage_of two ≡ o → stage_of three ≡ None → g.faults c ≡ g.faults a
      no_fault_by None is going = second.no_fault going ∙ first.no_fault is
      no_fault_by (Some stage) is going = absurd (cc ((second.stays stage is).0, going))

      cause_by : (o : Option ℕ) → stage_of two ≡ o → stage_of one ≡ None → IsSome (stage_of three) → Rose (g.faults a) (g.faults c)
      cause_by None is going stopped = subst (λ (n : ℕ). Rose n (g.faults c)) (first.no_fault is) (second.cause is stopped)
      cause_by (Some stage) is going stopped = subst (λ (n : ℕ). Rose (g.faults a) n) (sym (second.stays stage is).1) (first.cause going (ap is_some is))

module _ {V S E : Type 0} (g : Medium V S E) where
  pub carries_still : (old new : V) (before after : Book) → new ≡ old → after.commits ≡ before.commits → after.stopped ≡ before.stopped → Carries g old new before after
  carries_still old new before after same commits stopped =
      subst (λ (v : V). Carries g old v before after) (sym same) (if_told (g.volume.bytes old) (λ from start climbed. climbed_same g from start old before after commits stopped climbed))
