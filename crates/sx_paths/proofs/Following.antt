-- The paths of each state to which edits lead are listed each behind the one from which it goes on.
use Rattle.std.proofs.Common.{◌≡◌, ℕ, zero, suc, ◌+◌, Bool, true, false, not, ◌&&◌, List, [], ◌∷◌, ◌++◌, take, Option, Some, None, refl, sym, ◌∙◌, subst}
use Rattle.std.specs.Prelude.{ℤ, IsOk, IsTrue, Result, Ok, Err, if◌then◌else◌, is_none, is_some, option_and_then}
use Rattle.std.specs.Result.{result_unwrap_or}
use Rattle.std.proofs.lemmas.Bool.{false≢true}
use Rattle.sx_tree.specs.declared.edit.EditRefusal.{EditRefusal}
use Rattle.sx_tree.specs.declared.edit.EditRefusal.TheVariants.{NameMissing, NameUnasked}
use Rattle.sx_tree.specs.declared.edit.Place.{Place}
use Rattle.sx_tree.specs.declared.edit.Place.TheVariants.{Last}
use Rattle.sx_tree.specs.declared.record.Kind.{Kind}
use Rattle.sx_tree.specs.declared.record.Kind.TheVariants.{Document, Object, Array, Key, Str, Number, Bool as Truth, Null}
use Rattle.sx_tree.specs.declared.record.Step.{Step}
use Rattle.sx_tree.specs.declared.record.Step.TheVariants.{Top}
use Rattle.sx_tree.specs.Value.{Value, nodes}
use Rattle.sx_model.specs.Commit.{Commit, AreLegal, IsLegal, replay, state_of, first_time}
use Rattle.sx_model.specs.Edit.{Edit, AreAccepted, IsEdit, after, apply, child_of, document_full, edited, entering, if_place, if_there, insert, insert_at, insert_below, inserted, load, load_over, must_stay, name_taken, named_by, numbers_spent, other_keys, paths_spent, remove, rename, replace, replace_at, set_scalar, target, too_deep, unless, when, with_trees, wrong_kind}
use Rattle.sx_model.specs.Numbered.{numbered, scalar_node}
use Rattle.sx_model.specs.Paths.{path_below, paths_below, paths_in, with_paths}
use Rattle.sx_model.specs.Sound.{IsSound}
use Rattle.sx_model.specs.State.{State, empty_document}
use Rattle.sx_model.specs.Tree.{Node, Forest, no_trees, tree_then, FitBelow, Spot, change_at, is_document, is_key, is_object, is_scalar, is_value, may_stand_below, spot, tops}
use Rattle.sx_model.proofs.Accepted.{place_ok, there_ok, unless_ok}
use Rattle.sx_model.proofs.Sound.{apply-sound, empty-sound}
use Rattle.sx_paths.specs.Listed.{AreListed, GoesOnFrom, IsBase, has_path}
use Rattle.sx_paths.proofs.Listing.{Follow-add, GoesOnFrom-more, has-last, with_paths-append, with_paths-behind}

-- ---- the paths of trees

-- what is known of the path of a node of this kind before its children come
abbrev Ready : Kind → List Step → List (List Step) → Type 0
Ready Document path listed = Unit {0}
Ready Object path listed = IsBase listed path
Ready Array path listed = IsBase listed path
Ready Key path listed = GoesOnFrom listed path
Ready Str path listed = Unit {0}
Ready Number path listed = Unit {0}
Ready Truth path listed = Unit {0}
Ready Null path listed = Unit {0}

base-more : (listed more : List (List Step)) (path : List Step) → IsBase listed path → IsBase (listed ++ more) path
base-more listed more path is = GoesOnFrom-more listed more (Top ∷ path) is

ready-more : (kind : Kind) (path : List Step) (listed more : List (List Step)) → Ready kind path listed → Ready kind path (listed ++ more)
ready-more Document path listed more is = tt
ready-more Object path listed more is = base-more listed more path is
ready-more Array path listed more is = base-more listed more path is
ready-more Key path listed more is = GoesOnFrom-more listed more path is
ready-more Str path listed more is = tt
ready-more Number path listed more is = tt
ready-more Truth path listed more is = tt
ready-more Null path listed more is = tt

base-of : (listed : List (List Step)) (path : List Step) → has_path listed path ≡ true → IsBase listed path
base-of listed [] e = tt
base-of listed (step ∷ steps) e = e

-- a value is neither the Document nor a Key
no-value : (k : Kind) → (is_document k ≡ true → is_value k ≡ true → ⊥) × (is_key k ≡ true → is_value k ≡ true → ⊥)
no-value Document = (λ d v. false≢true v, λ d v. false≢true v)
no-value Object = (λ d v. false≢true d, λ d v. false≢true d)
no-value Array = (λ d v. false≢true d, λ d v. false≢true d)
no-value Key = (λ d v. false≢true d, λ d v. false≢true v)
no-value Str = (λ d v. false≢true d, λ d v. false≢true d)
no-value Number = (λ d v. false≢true d, λ d v. false≢true d)
no-value Truth = (λ d v. false≢true d, λ d v. false≢true d)
no-value Null = (λ d v. false≢true d, λ d v. false≢true d)

-- the path of a value below a node of this kind goes on from one that is listed
value-goes : (above k : Kind) (path : List Step) (label : List ℕ) (listed : List (List Step)) → IsTrue (may_stand_below above k) → Ready above path listed → is_value k ≡ true
    → GoesOnFrom listed (path_below above path label)
value-goes Document k path label listed stands ready value = tt
value-goes Object k path label listed stands ready value = absurd ((no-value k).1 stands value)
value-goes Array k path label listed stands ready value = ready
value-goes Key k path label listed stands ready value = ready
value-goes Str k path label listed stands ready value = absurd (false≢true stands)
value-goes Number k path label listed stands ready value = absurd (false≢true stands)
value-goes Truth k path label listed stands ready value = absurd (false≢true stands)
value-goes Null k path label listed stands ready value = absurd (false≢true stands)

-- and so does that of a Key
key-goes : (above : Kind) (path : List Step) (label : List ℕ) (listed : List (List Step)) → IsTrue (may_stand_below above Key) → Ready above path listed
    → GoesOnFrom listed (path_below above path label)
key-goes Document path label listed stands ready = tt
key-goes Object path label listed stands ready = ready
key-goes Array path label listed stands ready = ready
key-goes Key path label listed stands ready = ready
key-goes Str path label listed stands ready = absurd (false≢true stands)
key-goes Number path label listed stands ready = absurd (false≢true stands)
key-goes Truth path label listed stands ready = absurd (false≢true stands)
key-goes Null path label listed stands ready = absurd (false≢true stands)

ready-below : (k : Kind) (own : List Step) (listed : List (List Step)) → (k ≡ Key → GoesOnFrom listed own) → (is_value k ≡ true → has_path listed own ≡ true) → Ready k own listed
ready-below Document own listed key value = tt
ready-below Object own listed key value = base-of listed own (value refl)
ready-below Array own listed key value = base-of listed own (value refl)
ready-below Key own listed key value = key refl
ready-below Str own listed key value = tt
ready-below Number own listed key value = tt
ready-below Truth own listed key value = tt
ready-below Null own listed key value = tt

-- the list with the path of one node, where it is a value
abbrev with_own : Bool → List (List Step) → List Step → List (List Step)
with_own value listed own = with_paths listed (if value then own ∷ [] else [])

own-listed : (value : Bool) (listed : List (List Step)) (own : List Step) → AreListed listed → (value ≡ true → GoesOnFrom listed own)
    → AreListed (with_own value listed own) × (value ≡ true → has_path (with_own value listed own) own ≡ true)
own-listed false listed own all goes = (all, λ e. absurd (false≢true e))
own-listed true listed own all goes = (Follow-add listed own all (goes refl), λ e. by (has_path listed own) refl)
  where
    by : (b : Bool) → has_path listed own ≡ b → has_path (if b then listed else listed ++ own ∷ []) own ≡ true
    by true e = e
    by false e = has-last listed own

-- what is ready stays so where more paths come
module _ (above : Kind) (path : List Step) where
  ready-with : (listed paths : List (List Step)) → Ready above path listed → Ready above path (with_paths listed paths)
  ready-with listed paths ready =
      let behind = with_paths-behind listed paths in
      subst (Ready above path) (sym behind.1) (ready-more above path listed behind.0 ready)

follow : (above : Node) (path : List Step) (trees : Forest) (listed : List (List Step)) → AreListed listed → Ready above.kind path listed → FitBelow (Some above.kind) trees
    → AreListed (with_paths listed (paths_below (Some above) path trees))
follow above path no_trees listed all ready fit = all
follow above path (tree_then n below rest) listed all ready fit =
    let own : List Step = path_below above.kind path n.label in
    let first : List (List Step) = if is_value n.kind then own ∷ [] else [] in
    let one : List (List Step) = with_paths listed first in
    let inner : List (List Step) = paths_below (Some n) own below in
    let outer : List (List Step) = paths_below (Some above) path rest in
    let two : List (List Step) = with_paths one inner in
    let mine = own-listed (is_value n.kind) listed own all (value-goes above.kind n.kind path n.label listed fit.0 ready) in
    let key : n.kind ≡ Key → GoesOnFrom one own =
    λ is. key-goes above.kind path n.label one (subst (λ (k : Kind). IsTrue (may_stand_below above.kind k)) is fit.0) (ready-with above.kind path listed first ready) in
    let all_two : AreListed two = follow n own below one mine.0 (ready-below n.kind own one key mine.1) fit.3 in
    let all_three : AreListed (with_paths two outer) =
    follow above path rest two all_two (ready-with above.kind path one inner (ready-with above.kind path listed first ready)) fit.4 in
    subst AreListed (sym (with_paths-append listed first (inner ++ outer) ∙ with_paths-append one inner outer)) all_three

-- the Document's path is not listed
document-first : (k : Kind) → IsTrue (is_document k) → (is_value k ≡ false) × (k ≡ Document)
document-first Document stands = (refl, refl)
document-first Object stands = absurd (false≢true stands)
document-first Array stands = absurd (false≢true stands)
document-first Key stands = absurd (false≢true stands)
document-first Str stands = absurd (false≢true stands)
document-first Number stands = absurd (false≢true stands)
document-first Truth stands = absurd (false≢true stands)
document-first Null stands = absurd (false≢true stands)

follow-all : (trees : Forest) (listed : List (List Step)) → AreListed listed → FitBelow None trees → AreListed (with_paths listed (paths_in trees))
follow-all no_trees listed all fit = all
follow-all (tree_then n below rest) listed all fit =
    let first = document-first n.kind fit.0 in
    let inner : List (List Step) = paths_below (Some n) [] below in
    let outer : List (List Step) = paths_below None [] rest in
    let ready : Ready n.kind [] listed = subst (λ (k : Kind). Ready k [] listed) (sym first.1) tt in
    let two = follow n [] below listed all ready fit.3 in
    subst (λ (b : Bool). AreListed (with_paths listed ((if b then [] ∷ [] else []) ++ (inner ++ outer)))) (sym first.0)
    (subst AreListed (sym (with_paths-append listed inner outer)) (follow-all rest (with_paths listed inner) two fit.4))

-- ---- edits

-- the new state has the paths of the old one, and those of its own trees
abbrev Adds : State → State → Type 0
Adds old new = new.paths ≡ with_paths old.paths (paths_in new.trees)

made : (old new : State) (more : ℕ) (trees : Forest) (refusals : List (Option EditRefusal)) → unless refusals (with_trees old more trees) ≡ Ok new → Adds old new
made old new more trees refusals is = subst (λ (s : State). s.paths ≡ with_paths old.paths (paths_in s.trees)) (unless_ok refusals (with_trees old more trees) new is).0 refl

insert-adds : (place : Place) (name : Option (List ℕ)) (v : Value) (old new : State) → insert_at place name v old ≡ Ok new → Adds old new
insert-adds place name v old new is =
    let there = there_ok (named_by place) (λ s. if_place s.node (insert_below place name v old) (target place s)) (spot (named_by place) old.trees) new is in
    let into = place_ok there.0.node (insert_below place name v old) (target place there.0) new there.2 in
    let more : ℕ = if is_object into.0.parent.kind then 1 + nodes v else nodes v in
    let trees : Forest = inserted place (entering name v old.next) old.trees in
    made old new more trees (
    option_and_then (λ asked. name_taken asked (tops into.0.children)) name
    ∷ document_full into.0.parent (tops into.0.children)
    ∷ too_deep (into.0.parent ∷ into.0.above) v
    ∷ numbers_spent old more
    ∷ when (is_object into.0.parent.kind && is_none name) NameMissing
    ∷ when (not (is_object into.0.parent.kind) && is_some name) NameUnasked
    ∷ paths_spent old (with_trees old more trees)
    ∷ []
    ) into.2

replace-adds : (k : ℕ) (v : Value) (old new : State) → replace_at k v old ≡ Ok new → Adds old new
replace-adds k v old new is =
    let trees : Forest = change_at k (λ n below rest. numbered v old.next rest) old.trees in
    let next : State = with_trees old (nodes v) trees in
    let refusals = λ (t : Spot). wrong_kind (not (is_value t.node.kind)) t.node ∷ too_deep t.above v ∷ numbers_spent old (nodes v) ∷ paths_spent old next ∷ [] in
    let there = there_ok k (λ t. unless (refusals t) next) (spot k old.trees) new is in
    made old new (nodes v) trees (refusals there.0) there.2

load-adds : (child : Option Node) (v : Value) (old new : State) → load_over child v old ≡ Ok new → Adds old new
load-adds None v old new is = insert-adds (Last 0) None v old new is
load-adds (Some child) v old new is = replace-adds child.number v old new is

-- an edit that makes no node
kept-adds : (k : ℕ) (trees : Forest) (refusals : Spot → List (Option EditRefusal)) (old new : State)
    → if_there k (λ t. unless (refusals t) (with_trees old 0 trees)) (spot k old.trees) ≡ Ok new → Adds old new
kept-adds k trees refusals old new is =
    let there = there_ok k (λ t. unless (refusals t) (with_trees old 0 trees)) (spot k old.trees) new is in
    made old new 0 trees (refusals there.0) there.2

apply-adds : (edit : Edit) (old new : State) → apply edit old ≡ Ok new → Adds old new
apply-adds (load v) old new is = load-adds (child_of old.trees) v old new is
apply-adds (insert place name v) old new is = insert-adds place name v old new is
apply-adds (set_scalar k s) old new is =
    let trees : Forest = change_at k (λ n below rest. tree_then (scalar_node k s) below rest) old.trees in
    kept-adds k trees (λ t. wrong_kind (not (is_scalar t.node.kind)) t.node ∷ paths_spent old (with_trees old 0 trees) ∷ []) old new is
apply-adds (replace k v) old new is = replace-adds k v old new is
apply-adds (rename k name) old new is =
    let trees : Forest = change_at k (λ n below rest. tree_then (record n { label = name }) below rest) old.trees in
    kept-adds k trees (λ t. wrong_kind (not (is_key t.node.kind)) t.node ∷ name_taken name (other_keys t) ∷ paths_spent old (with_trees old 0 trees) ∷ []) old new is
apply-adds (remove k) old new is =
    let trees : Forest = change_at k (λ n below rest. rest) old.trees in
    kept-adds k trees (λ t. wrong_kind (must_stay t.above) t.node ∷ paths_spent old (with_trees old 0 trees) ∷ []) old new is

-- ---- the states to which edits lead

-- a sound state whose paths are listed
abbrev IsReached : State → Type 0
IsReached state = IsSound state × AreListed state.paths

reached-edit : (edit : Edit) (state : State) → IsReached state → IsEdit edit → IsOk (apply edit state) → IsReached (edited edit state)
reached-edit edit state is keeps ok = by (apply edit state) refl ok
  where
    by : (r : Result State EditRefusal) → apply edit state ≡ r → IsOk r → IsReached (result_unwrap_or r state)
    by (Ok new) made ok =
        let sound = (apply-sound edit state new is.0 keeps made).0 in
        (sound, subst AreListed (sym (apply-adds edit state new made)) (follow-all new.trees state.paths is.1 sound.well_formed.fit))
    by (Err refusal) made ok = absurd (false≢true ok)

reached-edits : (edits : List Edit) (state : State) → IsReached state → AreAccepted edits state → IsReached (after edits state)
reached-edits [] state is all = is
reached-edits (edit ∷ edits) state is all = reached-edits edits (edited edit state) (reached-edit edit state is all.0 all.1) all.2

reached-commits : (r : ℕ) (commits : List Commit) (time : ℤ) (state : State) → IsReached state → AreLegal time state commits → IsReached (replay (take r commits) state)
reached-commits zero commits time state is legal = is
reached-commits (suc r) [] time state is legal = is
reached-commits (suc r) (commit ∷ commits) time state is legal =
    reached-commits r commits commit.time (after commit.edits state) (reached-edits commit.edits state is legal.2) legal.3

-- Each revision of legal commits, and each state to which edits lead from it, lists each path behind the one from which it goes on.
pub legal-listed : (commits : List Commit) (r : ℕ) (edits : List Edit) → IsLegal commits → AreAccepted edits (state_of commits r) → AreListed (after edits (state_of commits r)).paths
legal-listed commits r edits legal accepted =
    (reached-edits edits (state_of commits r) (reached-commits r commits first_time empty_document (empty-sound, tt) legal) accepted).1
