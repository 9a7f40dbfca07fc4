-- Levels of nesting, from one node to the one above it, and what they leave room for.
use Rattle.std.proofs.Common.{◌≡◌, ℕ, ◌+◌, ◌-◌, List, [], ◌∷◌, Option, Some, None, Result, Ok, Err, refl, sym, ap, subst, ◌∙◌, arith, min, nat_lt}
use Rattle.std.specs.Prelude.{◌^◌, IsErrAnd, option_map, sum_by}
use Rattle.std.specs.Option.{option_or, ForSome}
use Rattle.std.specs.FinMap as fin
use Rattle.std.proofs.lemmas.Bool.Decides.{nat_tests}
use Rattle.std.proofs.lemmas.List.Sums.{sum_by-cons}
use Rattle.sx_tree.specs.declared.edit.EditRefusal.{EditRefusal}
use Rattle.sx_tree.specs.declared.edit.EditRefusal.TheVariants.{NumbersSpent, TooDeep}
use Rattle.sx_tree.specs.declared.record.NodeRecord.{NodeRecord}
use Rattle.sx_tree.specs.Value.{Value, depth}
use Rattle.sx_view.specs.declared.fault.Fault.{Fault}
use Rattle.sx_view.specs.declared.fault.Fault.TheVariants as reading
use Rattle.sx_view.specs.Records.{RecordMap}
use Rattle.sx_model.specs.Edit.{nesting_limit, number_limit, numbers_spent, when}
use Rattle.sx_model.specs.Hash.{local_hash}
use Rattle.sx_model.specs.Holes.{Frame, shown, shown_by, around_hole}
use Rattle.sx_model.specs.Records.{NodeRow, rows}
use Rattle.sx_model.specs.Tree.{Node, Forest, levels}
use Rattle.sx_model.proofs.Holes.{rows-plug}
use Rattle.sx_edit.specs.declared.fault.EditFault.{EditFault}
use Rattle.sx_edit.specs.Damage.{IsDamaged}
use Rattle.sx_edit.specs.EditFault.{edit_fault}
use Rattle.sx_edit.specs.Holes.{frame_rows}
use Rattle.sx_edit.specs.Room.{nodes_of, levels_in, CountsLevels, IsSite, MakesRoom, Passes}
use Rattle.sx_edit.specs.Told.{AreDistinct, Holds, numbers_of}
use Rattle.sx_edit.proofs.Climbing.{parent-around_hole, some_is, whole-frame}
use Rattle.sx_edit.proofs.Failing.{known}
use Rattle.sx_edit.proofs.Relabeling.{deep-plug}
use Rattle.sx_edit.proofs.Standing.{new-whole}

counts-none : (node : Option ℕ) (limit : ℕ) (o : Option (RecordMap NodeRecord)) → node ≡ None → CountsLevels node limit o (Some 0)
unfolding CountsLevels
counts-none at limit o is local number [] a hole new up deep holds = refl
counts-none at limit o is local number (frame ∷ frames) a hole new up deep holds = absurd cc

pub counts-endless : (node : Option ℕ) (k limit : ℕ) (o : Option (RecordMap NodeRecord)) → node ≡ Some k → limit ≡ 0 → CountsLevels node limit o None
unfolding CountsLevels
counts-endless at k limit o is none local number [] a hole new up deep holds = absurd cc
counts-endless at k limit o is none local number (frame ∷ frames) a hole new up deep holds = absurd (omega arith)

pub counts-absent : (node : Option ℕ) (k limit : ℕ) (o : Option (RecordMap NodeRecord)) → node ≡ Some k → ForSome o (λ m. fin.get m k ≡ None) → CountsLevels node limit o None
unfolding CountsLevels
counts-absent at k limit o is there local number [] a hole new up deep holds = absurd cc
counts-absent at k limit o is there local number (frame ∷ frames) a hole new up deep holds =
    let same : frame.node.number ≡ k = cc in
    let row = known k o None local number frames frame a hole there new same holds in
    absurd cc

pub counts-next : (node : Option ℕ) (k limit fewer : ℕ) (r : NodeRecord) (o : Option (RecordMap NodeRecord)) (rest : Option ℕ) → node ≡ Some k → ForSome o (λ m. fin.get m k ≡ Some r)
    → limit - 1 ≡ fewer → CountsLevels r.parent fewer o rest → CountsLevels node limit o (option_map (λ n. levels r.kind + n) rest)
unfolding CountsLevels
counts-next at k limit fewer r o rest is there one_less more local number [] a hole new up deep holds = absurd cc
counts-next at k limit fewer r o rest is there one_less more local number (frame ∷ frames) a hole new up deep holds =
    let same : frame.node.number ≡ k = cc in
    let row = some_is _ _ (known k o (Some r) local number frames frame a hole there new same holds) in
    let kind = ap (λ (w : NodeRow). w.kind) row in
    let parent = sym (ap (λ (w : NodeRow). w.parent) row ∙ parent-around_hole local number frames) in
    let others = more local number frames (shown_by local frame a) (frame_rows local number frames frame a hole) new.1 parent (omega arith) (subst (Holds o) (whole-frame local number frames frame a hole) holds) in
    ap (option_map (λ n. levels r.kind + n)) others ∙ (λ i. Some (levels (kind i) + levels_in (nodes_of frames)))

-- the count goes on with the next node's
pub count-more : (count level own : ℕ) (rest : Option ℕ) → own ≡ level → option_map (λ n. count + n) (option_map (λ n. level + n) rest) ≡ option_map (λ n. count + own + n) rest
count-more count level own None is = refl
count-more count level own (Some n) is = let sum : count + (level + n) ≡ count + own + n = omega arith in ap (λ z. Some z) sum

pub counts-all : (node at : Option ℕ) (limit fewer count : ℕ) (o now : Option (RecordMap NodeRecord)) → ((rest : Option ℕ) → CountsLevels at fewer now rest → CountsLevels node limit o (option_map (λ n. count + n) rest))
    → at ≡ None → CountsLevels node limit o (Some count)
counts-all node at limit fewer count o now counts is = let sum : count + 0 ≡ count = omega arith in subst (λ n. CountsLevels node limit o (Some n)) sum (counts (Some 0) (counts-none at fewer now is))

-- ---- room for a value

sum_is : (ns : List Node) → sum_by (λ n. levels n.kind) ns ≡ levels_in ns
sum_is [] = refl
sum_is (n ∷ ns) = sum_by-cons (λ (m : Node). levels m.kind) n ns ∙ ap (λ z. levels n.kind + z) (sum_is ns)

-- what was counted is what stands around the site
site-counts : (parent next : ℕ) (o : Option (RecordMap NodeRecord)) (answer : Option ℕ) (frames : List Frame) (frame : Frame) (inside : Forest) → CountsLevels (Some parent) next o answer
    → IsSite parent next o frames frame inside → answer ≡ Some (sum_by (λ n. levels n.kind) (nodes_of (frame ∷ frames)))
unfolding CountsLevels
site-counts parent next o answer frames frame inside counts site =
    let all = subst (λ l. Holds o l) (rows-plug local_hash site.paths (frame ∷ frames) inside) site.shows.holds in
    let new = new-whole local_hash site.paths (frame ∷ frames) (shown local_hash inside) (rows local_hash site.paths (around_hole (frame ∷ frames)) inside)
    (subst (λ l. AreDistinct (numbers_of l)) (rows-plug local_hash site.paths (frame ∷ frames) inside) site.shows.distinct) in
    let deep = deep-plug (frame ∷ frames) inside in
    counts local_hash site.paths (frame ∷ frames) (shown local_hash inside) (rows local_hash site.paths (around_hole (frame ∷ frames)) inside) new (ap (λ k. Some k) site.number) (omega (arith, deep, site.few)) all
    ∙ ap (λ n. Some n) (sym (sum_is (nodes_of (frame ∷ frames))))

-- a fault that goes on, and is not damage
pub fault-passes : {T : Type 0} (refusal : Option EditRefusal) (fault : Fault) (result : Result T EditFault) → IsErrAnd result (λ e. e ≡ edit_fault fault) → (IsDamaged fault → ⊥) → Passes refusal result
fault-passes refusal fault (Ok x) is never = absurd is
fault-passes {T = T} refusal reading.Failed (Err e) is never = subst (λ x. Passes {T = T} refusal (Err x)) (sym is) tt
fault-passes refusal (reading.Damaged d) (Err e) is never = absurd (never tt)
fault-passes {T = T} refusal reading.OutOfMemory (Err e) is never = subst (λ x. Passes {T = T} refusal (Err x)) (sym is) tt

spent-exact : (next more : ℕ) → nat_lt number_limit (next + min more (2 ^ 64 - 1)) ≡ nat_lt number_limit (next + more)
spent-exact next more = grind (arith, nat_tests)

-- the refusal of a value below so many arrays and objects
abbrev pub deep_refusal : ℕ → Value → Option EditRefusal
deep_refusal count v = when (nat_lt nesting_limit (count + depth v)) (TooDeep (min (count + depth v) (2 ^ 32 - 1)))

-- what was found of the two refusals is what the step answers
room-passes : {T : Type 0} (next parent : ℕ) (v : Value) (more count : ℕ) (o : Option (RecordMap NodeRecord)) (result : Result T EditFault)
    → CountsLevels (Some parent) next o (Some count)
    → Passes (option_or (deep_refusal count v) (when (nat_lt number_limit (next + more)) (NumbersSpent next))) result
    → MakesRoom next parent v more o result
unfolding MakesRoom
room-passes next parent v more count o result counts passes frames frame inside state next_is site =
    let count_is : count ≡ sum_by (λ n. levels n.kind) (nodes_of (frame ∷ frames)) = let some = site-counts parent next o (Some count) frames frame inside counts site in cc in
    let both : option_or (deep_refusal count v) (when (nat_lt number_limit (next + more)) (NumbersSpent next))
    ≡ option_or (deep_refusal (sum_by (λ n. levels n.kind) (nodes_of (frame ∷ frames))) v) (numbers_spent state more) = λ i. option_or (when (nat_lt nesting_limit (count_is i + depth v)) (TooDeep (min (count_is i + depth v) (2 ^ 32 - 1)))) (when (nat_lt number_limit (sym next_is i + more)) (NumbersSpent (sym next_is i))) in
    subst (λ (refusal : Option EditRefusal). Passes refusal result) both passes

module _ (next parent : ℕ) (v : Value) (more count : ℕ) (o : Option (RecordMap NodeRecord)) (counts : CountsLevels (Some parent) next o (Some count)) where
  pub room-deep : {T : Type 0} (found : Option EditRefusal) (refusal : EditRefusal) (result : Result T EditFault) → found ≡ deep_refusal count v → found ≡ Some refusal → Passes (Some refusal) result
      → MakesRoom next parent v more o result
  room-deep found refusal result is some passes =
      let both : Some refusal ≡ option_or (deep_refusal count v) (when (nat_lt number_limit (next + more)) (NumbersSpent next)) =
      ap (λ (d : Option EditRefusal). option_or d (when (nat_lt number_limit (next + more)) (NumbersSpent next))) (sym (sym is ∙ some)) in
      room-passes next parent v more count o result counts (subst (λ (r : Option EditRefusal). Passes r result) both passes)

  -- where the first refusal does not stand, the second one decides
  pub room-spent : {T : Type 0} (found spent : Option EditRefusal) (result : Result T EditFault) → found ≡ deep_refusal count v → found ≡ None
      → spent ≡ when (nat_lt number_limit (next + min more (2 ^ 64 - 1))) (NumbersSpent next) → Passes spent result → MakesRoom next parent v more o result
  room-spent found spent result is none spent_is passes =
      let both : spent ≡ option_or (deep_refusal count v) (when (nat_lt number_limit (next + more)) (NumbersSpent next)) =
      spent_is ∙ (λ i. option_or (sym (sym is ∙ none) i) (when (spent-exact next more i) (NumbersSpent next))) in
      room-passes next parent v more count o result counts (subst (λ (refusal : Option EditRefusal). Passes refusal result) both passes)
