-- What a crash leaves while a volume is made: it stands for no commits.
use Rattle.std.specs.Prelude.{IsSome}
use Rattle.std.proofs.Common.{false, true, ◌≡◌, ◌≢◌, ◌∙◌, ℕ, suc, ◌≤◌, ◌⊎◌, inl, inr, ⊎_elim, List, [], ◌∷◌, ◌++◌, length, take, slice_get, slice_set, Option, None, Some, IfSome, IfErr, Result, Ok, Err, refl, ap, sym, subst, arith}
use Rattle.std.specs.Option.{option_map}
use Rattle.std.proofs.lemmas.Bool.{cases_eq}
use Rattle.std.proofs.lemmas.List.{length-set, take_all}
use Rattle.sx_layout.proofs.BornReadings.{not_both}
use Rattle.sx_layout.specs.Birth.{Birth, IsBirth, IsBorn, IsNotOurs, IsUnborn, birth_part}
use Rattle.sx_layout.specs.Born.{StandsForNone}
use Rattle.sx_log.specs.Calls.{HoldsSinceSync, IsSettled, IsSynced, IsUnsynced, OnlyReads}
use Rattle.sx_log.specs.Creating.{HasPart, IsEmptySince, IsMade, IsOther, IsRefusal, IsShut, IsTaken, StayShut, Tells}
use Rattle.sx_log.specs.declared.fault.LogFault.{LogFault}
use Rattle.sx_log.specs.declared.fault.LogFault.TheVariants.{Born, NotOurs}
use Rattle.sx_volume.specs.Images.{Only, IsWithin, Follows, Appends, Cuts, Puts, Elapses, Syncs}
use Rattle.sx_volume.specs.declared.volume.Volume.{Ghosts}

-- ---- one call

-- a birth part behind any first byte, with the closed gate of the first group
pub any_gate : (birth : Birth) (byte : ℕ) (c : List ℕ) → IsBirth birth → c ≡ byte ∷ (birth_part birth ++ 0 ∷ []) → StandsForNone c
any_gate birth byte c is are =
    elim (cases_eq byte 0) [
      | inl closed ↦ inl (inr (inl (ap (λ (b : List ℕ). slice_get b 0) are ∙ ap Some closed)))
      | inr no_zero ↦ elim (cases_eq byte 1) [
        | inl one ↦ inr (birth, record { is_birth = is; follow = tt; gate = 0; behind = []; closed = λ same. omega (arith, same); bytes_are = are ∙ ap (λ n. n ∷ (birth_part birth ++ 0 ∷ [])) one })
        | inr no_one ↦ inl (inr (inr (byte, birth, no_zero, no_one, is, are)))
      ]
    ]

same_number : (a b : ℕ) → Some a ≡ Some b → a ≡ b
same_number a b is = cc is

shut_front : (all : List ℕ) → slice_get all 0 ≡ Some 0 → (rest : List ℕ) × (all ≡ 0 ∷ rest)
shut_front [] at = absurd (cc at)
shut_front (x ∷ rest) at = let zero_is : x ≡ 0 = cc at in (rest, ap (λ n. n ∷ rest) zero_is)

pub keeps_shut : (all c : List ℕ) (count : ℕ) → slice_get all 0 ≡ Some 0 → take (suc count) c ≡ take (suc count) all → slice_get c 0 ≡ Some 0
keeps_shut all [] count at same =
    let front = shut_front all at in
    let none : [] ≡ 0 ∷ take count front.0 = same ∙ ap (λ (b : List ℕ). take (suc count) b) front.1 in cc none
keeps_shut all (x ∷ c) count at same =
    let front = shut_front all at in
    let heads : x ∷ take count c ≡ 0 ∷ take count front.0 = same ∙ ap (λ (b : List ℕ). take (suc count) b) front.1 in
    let zero_is : x ≡ 0 = cc heads in
    ap Some zero_is

pub put_gate : (all c : List ℕ) (first : ℕ) → IsUnborn all → slice_get all 0 ≡ Some first → first ≢ 0 → Puts 0 all c → StandsForNone c
put_gate all c first unborn at no_zero (inl same) = inl (subst IsUnborn (sym same) unborn)
put_gate all c first (inl short) at no_zero (inr put) = inl (inl (omega (arith, short, ap length put.2, length-set all 0 put.0)))
put_gate all c first (inr (inl shut)) at no_zero (inr put) = absurd (no_zero (same_number first 0 (sym at ∙ shut)))
put_gate all c first (inr (inr whole)) at no_zero (inr put) = any_gate whole.1 put.0 c whole.4 (put.2 ∙ ap (λ (b : List ℕ). slice_set b 0 put.0) whole.5)

-- ---- calls one after another

-- what may be left since the start of a call over bytes that are all kept
pub step_images : (step : List ℕ → List ℕ → Type 0) (P : List ℕ → Type 0) (bytes : Option (List ℕ)) (image since : List ℕ → Type 0) → IfSome bytes (λ all. Only all image) → IfSome bytes (λ all. (c : List ℕ) → step all c → P c)
    → Follows step image since → IfSome bytes (λ _. (c : List ℕ) → since c → P c)
step_images step P None image since only holds follows = tt
step_images step P (Some all) image since only holds follows = λ c left. let from = follows c left in holds c (subst (λ (d : List ℕ). step d c) (only from.0 from.1) from.2)

pub read_images : (P : List ℕ → Type 0) (bytes : Option (List ℕ)) (image since : List ℕ → Type 0) → IfSome bytes (λ all. Only all image) → IfSome bytes P → IsWithin image since → IfSome bytes (λ _. (c : List ℕ) → since c → P c)
read_images P None image since only holds within = tt
read_images P (Some all) image since only holds within = λ c left. subst P (sym (only c (within c left))) holds

-- calls, and then others
pub then_images : (P : List ℕ → Type 0) (bytes now : Option (List ℕ)) (start mid end : ℕ) (was is : ℕ → List ℕ → Type 0) (had has : ℕ → Type 0) → (IsSome bytes → IsSome now) → start ≤ mid
    → IfSome bytes (λ _. (c : List ℕ) → was start c → P c) → IfSome now (λ _. (c : List ℕ) → is mid c → P c) → Elapses mid end was is had has → IfSome bytes (λ _. (c : List ℕ) → is start c → P c)
then_images P None now start mid end was is had has on le first second time = tt
then_images P (Some all) None start mid end was is had has on le first second time = let some : false ≡ true = on refl in cc some
then_images P (Some all) (Some more) start mid end was is had has on le first second time = λ c left.
    ⊎_elim (λ (before : was start c). first c before) (λ (during : is mid c). second c during) (time.nothing_else start c le left)

-- calls, and then one that leaves nothing more
pub then_same : (P : List ℕ → Type 0) (bytes : Option (List ℕ)) (start mid end : ℕ) (now : List ℕ → Type 0) (was is : ℕ → List ℕ → Type 0) (had has : ℕ → Type 0) → start ≤ mid → ((c : List ℕ) → now c → was start c)
    → IfSome bytes (λ _. (c : List ℕ) → was start c → P c) → IsWithin now (is mid) → Elapses mid end was is had has → IfSome bytes (λ _. (c : List ℕ) → is start c → P c)
then_same P None start mid end now was is had has le counts_now first within time = tt
then_same P (Some all) start mid end now was is had has le counts_now first within time = λ c left.
    ⊎_elim (λ (before : was start c). first c before) (λ (during : is mid c). first c (counts_now c (within c during))) (time.nothing_else start c le left)

-- told bytes go on to be told
pub same_told : (bytes now : Option (List ℕ)) → now ≡ bytes → IsSome bytes → IsSome now
same_told bytes now same some = subst (λ (b : Option (List ℕ)). IsSome b) (sym same) some

-- a byte was written over the first one
pub put_shut : (bytes : Option (List ℕ)) (size : ℕ) → ((all : List ℕ) → bytes ≡ Some all → length all ≡ size) → 1 ≤ size → IfSome (option_map (λ all. slice_set all 0 0) bytes) (λ all. slice_get all 0 ≡ Some 0)
put_shut None size told long = tt
put_shut (Some []) size told long = let none = told [] refl in absurd (omega (arith, none, long))
put_shut (Some (x ∷ all)) size told long = refl

pub puts_told : (bytes : Option (List ℕ)) (first : ℕ) → IfSome bytes IsUnborn → IfSome bytes (λ all. slice_get all 0 ≡ Some first) → first ≢ 0 → IfSome bytes (λ all. (c : List ℕ) → Puts 0 all c → StandsForNone c)
puts_told None first unborn at no_zero = tt
puts_told (Some all) first unborn at no_zero = λ c put. put_gate all c first unborn at no_zero put

pub unborn_told : (bytes : Option (List ℕ)) → IfSome bytes IsUnborn → IfSome bytes StandsForNone
unborn_told None unborn = tt
unborn_told (Some all) unborn = inl unborn

-- bytes that were all kept still are, after calls that only read
pub still_only : (bytes now : Option (List ℕ)) (before after : List ℕ → Type 0) → now ≡ bytes → ((c : List ℕ) → after c → before c) → IfSome bytes (λ all. Only all before) → IfSome now (λ all. Only all after)
still_only bytes now before after same less only = subst (λ (b : Option (List ℕ)). IfSome b (λ all. Only all after)) (sym same) (by bytes only)
  where
    by : (b : Option (List ℕ)) → IfSome b (λ all. Only all before) → IfSome b (λ all. Only all after)
    by None kept = tt
    by (Some all) kept = λ c image. kept c (less c image)

-- ---- the birth gate stays shut

pub shut_none : (bytes : Option (List ℕ)) (images : List ℕ → Type 0) → StayShut bytes images → IfSome bytes (λ _. (c : List ℕ) → images c → StandsForNone c)
shut_none None images stay = tt
shut_none (Some all) images stay = λ c left. inl (inr (inl (stay c left)))

pub cut_told : (bytes : Option (List ℕ)) → IsShut bytes → IfSome bytes (λ all. (c : List ℕ) → Cuts 1 all c → slice_get c 0 ≡ Some 0)
cut_told None shut = tt
cut_told (Some all) shut = λ c cut. keeps_shut all c 0 shut cut.front

pub cut_bytes : (bytes : Option (List ℕ)) → IsShut bytes → option_map (λ all. take 1 all) bytes ≡ option_map (λ _. 0 ∷ []) bytes
cut_bytes None shut = refl
cut_bytes (Some all) shut = let front = shut_front all shut in ap (λ (b : List ℕ). Some (take 1 b)) front.1

-- one byte is all there is
pub one_byte : (bytes : Option (List ℕ)) (size : ℕ) → IsShut bytes → ((all : List ℕ) → bytes ≡ Some all → length all ≡ size) → size ≤ 1 → bytes ≡ option_map (λ _. 0 ∷ []) bytes
one_byte None size shut told short = refl
one_byte (Some all) size shut told short =
    let front = shut_front all shut in
    let long = told all refl in
    let none : front.0 ≡ [] = nothing front.0 (omega (arith, short, long, ap length front.1)) in
    ap Some (front.1 ∙ ap (λ (b : List ℕ). 0 ∷ b) none)
  where
    nothing : (b : List ℕ) → length b ≤ 0 → b ≡ []
    nothing [] short = refl
    nothing (x ∷ b) short = absurd (omega (arith, short))

-- nothing was called yet
pub stay_shut : (bytes : Option (List ℕ)) (image since : List ℕ → Type 0) → IfSome bytes (λ all. Only all image) → IsShut bytes → IsWithin image since → StayShut bytes since
stay_shut None image since only shut within = tt
stay_shut (Some all) image since only shut within = λ c left. subst (λ (b : List ℕ). slice_get b 0 ≡ Some 0) (sym (only c (within c left))) shut

pub append_shut : (bytes : Option (List ℕ)) (end : ℕ) (image since : List ℕ → Type 0) → StayShut bytes image → Follows (Appends end) image since → StayShut bytes since
append_shut None end image since stay follows = tt
append_shut (Some all) end image since stay follows = λ c left. let from = follows c left in behind from.0 c (stay from.0 from.1) from.2.front
  where
    behind : (d c : List ℕ) → slice_get d 0 ≡ Some 0 → take (length d) c ≡ d → slice_get c 0 ≡ Some 0
    behind [] c at same = absurd (cc at)
    behind (x ∷ d) c at same = keeps_shut (x ∷ d) c (length d) at (same ∙ sym (take_all (suc (length d)) (x ∷ d) (omega arith)))

pub part_puts : (bytes : Option (List ℕ)) → IfSome bytes HasPart → IfSome bytes (λ all. (c : List ℕ) → Puts 0 all c → StandsForNone c)
part_puts None has = tt
part_puts (Some all) has = λ c put. by c put
  where
    by : (c : List ℕ) → Puts 0 all c → StandsForNone c
    by c (inl same) = any_gate has.0 0 c has.1 (same ∙ has.2)
    by c (inr put) = any_gate has.0 put.0 c has.1 (put.2 ∙ ap (λ (b : List ℕ). slice_set b 0 put.0) has.2)

-- images that are among those
pub within_shut : (bytes : Option (List ℕ)) (images fewer : List ℕ → Type 0) → StayShut bytes images → ((c : List ℕ) → fewer c → images c) → StayShut bytes fewer
within_shut None images fewer stay within = tt
within_shut (Some all) images fewer stay within = λ c left. stay c (within c left)

-- told as one list
pub stay_mapped : (bytes now : Option (List ℕ)) (images : List ℕ → Type 0) (x : List ℕ) → now ≡ option_map (λ _. x) bytes → StayShut bytes images → StayShut now images
stay_mapped None now images x is stay = subst (λ (b : Option (List ℕ)). StayShut b images) (sym is) tt
stay_mapped (Some all) now images x is stay = subst (λ (b : Option (List ℕ)). StayShut b images) (sym is) stay

pub mapped_then : (bytes : Option (List ℕ)) (x more : List ℕ) → option_map (λ all. all ++ more) (option_map (λ _. x) bytes) ≡ option_map (λ _. x ++ more) bytes
mapped_then None x more = refl
mapped_then (Some all) x more = refl

pub some_mapped : (bytes now : Option (List ℕ)) (x : List ℕ) → now ≡ option_map (λ _. x) bytes → IsSome bytes → IsSome now
some_mapped None now x is some = cc some
some_mapped (Some all) now x is some = subst (λ (b : Option (List ℕ)). IsSome b) (sym is) refl

-- ---- the answer

pub made_unborn : (image : List ℕ) (result : Result (Unit {0}) LogFault) → IsUnborn image → IfErr result IsOther → IsMade image result
made_unborn image (Ok u) unborn other = record {
  unborn = λ is. inl refl;
  born = λ born. absurd (not_both image unborn born);
  not_ours = λ first is. absurd (is.not_unborn unborn);
}
made_unborn image (Err fault) unborn other = record {
  unborn = λ is. inr (fault, refl, other);
  born = λ born. absurd (not_both image unborn born);
  not_ours = λ first is. absurd (is.not_unborn unborn);
}

pub made_born : (image : List ℕ) → IsBorn image → IsMade image (Err Born)
made_born image born = record {
  unborn = λ unborn. absurd (not_both image unborn born);
  born = λ is. (Born, refl, inl refl);
  not_ours = λ first is. absurd (is.not_born born);
}

pub made_not_ours : (image : List ℕ) (first : ℕ) → IsNotOurs image first → IsMade image (Err (NotOurs first))
made_not_ours image first ours = record {
  unborn = λ unborn. absurd (ours.not_unborn unborn);
  born = λ born. absurd (ours.not_born born);
  not_ours = λ other is. (NotOurs first, refl, inl (ap NotOurs (same_number first other (sym ours.first_is ∙ is.first_is))));
}

pub made_other : (image : List ℕ) (fault : LogFault) → IsOther fault → IsMade image (Err fault)
made_other image fault other = record { unborn = λ is. inr (fault, refl, other); born = λ is. (fault, refl, inr other); not_ours = λ first is. (fault, refl, inr other) }

-- the birth gate is opened in front of the part that was written
pub made_told : (bytes closed written made : Option (List ℕ)) (part : List ℕ) → (IsSome bytes → IsSome closed) → written ≡ option_map (λ _. 0 ∷ part) closed → made ≡ option_map (λ all. slice_set all 0 1) written → Tells (1 ∷ part) bytes made
made_told None closed written made part on is done = tt
made_told (Some all) None written made part on is done = let some : false ≡ true = on refl in cc some
made_told (Some all) (Some more) written made part on is done = done ∙ ap (λ (b : Option (List ℕ)). option_map (λ all. slice_set all 0 1) b) is

-- ---- over a volume that is unborn, or not

pub reads_unborn : (bytes : Option (List ℕ)) (image since : List ℕ → Type 0) → IfSome bytes (λ all. Only all image) → IsWithin image since → IfSome bytes (λ all. IsUnborn all → (c : List ℕ) → since c → StandsForNone c)
reads_unborn None image since only within = tt
reads_unborn (Some all) image since only within = λ unborn c left. inl (subst IsUnborn (sym (only c (within c left))) unborn)

pub then_unborn : (bytes now : Option (List ℕ)) (start mid end : ℕ) (was is : ℕ → List ℕ → Type 0) (had has : ℕ → Type 0) → now ≡ bytes → start ≤ mid → IfSome bytes (λ all. IsUnborn all → (c : List ℕ) → was start c → StandsForNone c)
    → IfSome now (λ _. (c : List ℕ) → is mid c → StandsForNone c) → Elapses mid end was is had has → IfSome bytes (λ all. IsUnborn all → (c : List ℕ) → is start c → StandsForNone c)
then_unborn None now start mid end was is had has same le first second time = tt
then_unborn (Some all) now start mid end was is had has same le first second time = λ unborn.
    then_images StandsForNone (Some all) now start mid end was is had has (same_told (Some all) now same) le (first unborn) second time

-- the first sync, and what comes behind it
module _ {V Spot End : Type 0} (g : Ghosts V Spot End) (old mid new : V) where
  since_sync : (P : List ℕ → Type 0) → Syncs (g.moment old) (g.moment mid) (g.synced old) (g.synced mid) → IsWithin (g.is_image old) (g.was_image mid (g.moment old))
      → Elapses (g.moment mid) (g.moment new) (g.was_image mid) (g.was_image new) (g.synced mid) (g.synced new)
      → ((c : List ℕ) → g.was_image new (g.moment mid) c → P c) → HoldsSinceSync g P old new
  since_sync P synced within time since = record {
    moment = g.moment mid;
    later = synced.later;
    no_later = time.later;
    here = time.syncs (g.moment mid) synced.here;
    first = λ t before here. ⊎_elim (λ (had : g.synced old t). had) (λ (is : t ≡ g.moment mid). absurd (omega (arith, is, before)))
        (synced.no_other t (time.no_sync_before t (omega (arith, before)) here));
    up_to = λ c was. ⊎_elim (λ (earlier : g.was_image mid (g.moment old) c). inl (within c earlier)) (λ (during : g.was_image new (g.moment mid) c). inr during)
        (time.nothing_else (g.moment old) c (omega (arith, synced.later)) was);
    since = since;
  }

  pub empty_since : g.bytes mid ≡ g.bytes old → IfSome (g.bytes old) (λ _. Syncs (g.moment old) (g.moment mid) (g.synced old) (g.synced mid))
      → IsWithin (g.is_image old) (g.was_image mid (g.moment old)) → Elapses (g.moment mid) (g.moment new) (g.was_image mid) (g.was_image new) (g.synced mid) (g.synced new)
      → IfSome (g.bytes mid) (λ image. IsUnborn image → (c : List ℕ) → g.was_image new (g.moment mid) c → StandsForNone c)
      → IfSome (g.bytes old) (λ image. IsUnborn image → IsEmptySince g old new)
  empty_since same synced within time left =
      with_both (g.bytes old) synced (subst (λ (b : Option (List ℕ)). IfSome b (λ image. IsUnborn image → (c : List ℕ) → g.was_image new (g.moment mid) c → StandsForNone c)) same left)
    where
      with_both : (o : Option (List ℕ)) → IfSome o (λ _. Syncs (g.moment old) (g.moment mid) (g.synced old) (g.synced mid))
          → IfSome o (λ image. IsUnborn image → (c : List ℕ) → g.was_image new (g.moment mid) c → StandsForNone c) → IfSome o (λ image. IsUnborn image → IsEmptySince g old new)
      with_both None synced left = tt
      with_both (Some image) synced left = λ unborn. since_sync StandsForNone synced within time (left unborn)

  -- calls behind it that only read
  pub reads_since : g.bytes mid ≡ g.bytes old → IfSome (g.bytes old) (λ _. Syncs (g.moment old) (g.moment mid) (g.synced old) (g.synced mid))
      → IsWithin (g.is_image old) (g.was_image mid (g.moment old)) → IsSettled g mid → OnlyReads g mid new → IfSome (g.bytes old) (λ image. IsSynced g image old new)
  reads_since same synced within settled only = with_both (g.bytes old) synced (subst (λ (b : Option (List ℕ)). IfSome b (λ image. Only image (g.is_image mid))) same settled)
    where
      with_both : (o : Option (List ℕ)) → IfSome o (λ _. Syncs (g.moment old) (g.moment mid) (g.synced old) (g.synced mid)) → IfSome o (λ image. Only image (g.is_image mid))
          → IfSome o (λ image. IsSynced g image old new)
      with_both None synced settled = tt
      with_both (Some image) synced settled = since_sync (λ c. c ≡ image) synced within only.time (λ c was. settled c (only.no_image_more c was))

  -- over bytes that are not unborn these are the calls behind it
  pub taken_bytes : (X : Type 0) → g.bytes mid ≡ g.bytes old → IfSome (g.bytes mid) (λ image. IsTaken image → OnlyReads g mid new) → IfSome (g.bytes old) (λ image. IsTaken image → X → g.bytes new ≡ g.bytes old)
  taken_bytes X same taken = by (g.bytes old) (subst (λ (b : Option (List ℕ)). IfSome b (λ image. IsTaken image → OnlyReads g mid new)) same taken)
    where
      by : (o : Option (List ℕ)) → IfSome o (λ image. IsTaken image → OnlyReads g mid new) → IfSome o (λ image. IsTaken image → X → g.bytes new ≡ g.bytes old)
      by None only = tt
      by (Some image) only = λ is other. (only is).same_bytes ∙ same

  pub taken_images : g.bytes mid ≡ g.bytes old → IfSome (g.bytes old) (λ _. Syncs (g.moment old) (g.moment mid) (g.synced old) (g.synced mid))
      → IsWithin (g.is_image old) (g.was_image mid (g.moment old)) → IsSettled g mid → IfSome (g.bytes mid) (λ image. IsTaken image → OnlyReads g mid new)
      → IfSome (g.bytes old) (λ image. IsTaken image → IsSynced g image old new ⊎ IsUnsynced g old new)
  taken_images same synced within settled taken =
      by (g.bytes old) synced (subst (λ (b : Option (List ℕ)). IfSome b (λ image. Only image (g.is_image mid))) same settled)
      (subst (λ (b : Option (List ℕ)). IfSome b (λ image. IsTaken image → OnlyReads g mid new)) same taken)
    where
      by : (o : Option (List ℕ)) → IfSome o (λ _. Syncs (g.moment old) (g.moment mid) (g.synced old) (g.synced mid)) → IfSome o (λ image. Only image (g.is_image mid))
          → IfSome o (λ image. IsTaken image → OnlyReads g mid new) → IfSome o (λ image. IsTaken image → IsSynced g image old new ⊎ IsUnsynced g old new)
      by None synced settled only = tt
      by (Some image) synced settled only = λ is. inl (since_sync (λ c. c ≡ image) synced within (only is).time (λ c was. settled c ((only is).no_image_more c was)))

  pub refused_since : (result : Result (Unit {0}) LogFault) → g.bytes mid ≡ g.bytes old → IfSome (g.bytes old) (λ _. Syncs (g.moment old) (g.moment mid) (g.synced old) (g.synced mid))
      → IsWithin (g.is_image old) (g.was_image mid (g.moment old)) → IsSettled g mid → IfErr result (λ fault. IsRefusal fault → OnlyReads g mid new)
      → IfErr result (λ fault. IsRefusal fault → IfSome (g.bytes old) (λ image. IsSynced g image old new))
  refused_since (Ok done) same synced within settled only = tt
  refused_since (Err fault) same synced within settled only = λ is. reads_since same synced within settled (only is)

-- no sync came
pub taken_unsynced : (bytes : Option (List ℕ)) (P : List ℕ → Type 0) (Q : Type 0) → Q → IfSome bytes (λ image. IsTaken image → P image ⊎ Q)
taken_unsynced None P Q holds = tt
taken_unsynced (Some image) P Q holds = λ is. inr holds

-- the bytes are those of an unborn volume, or something holds over all others
pub never_taken : (bytes : Option (List ℕ)) (Q : Type 0) → IfSome bytes IsUnborn → IfSome bytes (λ image. IsTaken image → Q)
never_taken None Q unborn = tt
never_taken (Some image) Q unborn = λ is. absurd (is unborn)

pub though_taken : (bytes : Option (List ℕ)) (Q : Type 0) → Q → IfSome bytes (λ image. IsTaken image → Q)
though_taken None Q holds = tt
though_taken (Some image) Q holds = λ is. holds

pub or_not : (bytes : Option (List ℕ)) (P : List ℕ → Type 0) (Q : Type 0) → IfSome bytes (λ image. IsUnborn image → P image) → IfSome bytes (λ image. IsUnborn image → P image ⊎ Q)
or_not None P Q holds = tt
or_not (Some image) P Q holds = λ unborn. inl (holds unborn)
