-- The links of a node of trees lead to nodes that are told.
use Rattle.std.proofs.Common.{◌≡◌, ℕ, List, [], ◌∷◌, Option, Some, None, refl, sym, ap, subst, ◌∙◌, inl, inr, Bool}
use Rattle.std.specs.Prelude.{Result, Ok, Err, IfErr}
use Rattle.std.specs.Option.{option_or}
use Rattle.sx_bytes.specs.declared.damage.Damage.{Damage}
use Rattle.sx_tree.specs.declared.record.Kind.{Kind}
use Rattle.sx_tree.specs.declared.record.NodeRecord.{NodeRecord}
use Rattle.sx_tree.specs.declared.record.Step.{Step}
use Rattle.sx_view.specs.declared.fault.Fault.{Fault}
use Rattle.sx_view.specs.declared.fault.Fault.TheVariants.{Failed, Damaged, OutOfMemory}
use Rattle.sx_view.specs.Records.{Explains, IsDamaged, RecordMap}
use Rattle.sx_model.specs.Holes.{Frame, plug, around_hole}
use Rattle.sx_model.specs.Records.{NodeRow, at_top, first_of, last_of, rows}
use Rattle.sx_model.specs.Tree.{Node, Forest, no_trees, tree_then, beside}
use Rattle.sx_model.proofs.Holes.{or_none}
use Rattle.sx_model.proofs.Spots.{beside_assoc}
use Rattle.sx_cursor.specs.Cursor.{Place, BreaksOff, IsNoPlace}
use Rattle.sx_cursor.specs.Told.{Tells, Shows, TellsAll, row_there}
use Rattle.sx_cursor.proofs.Telling.{is_at, told, tells-once, some_number}

pub around-left : (frames : List Frame) → (around_hole frames).left ≡ None
around-left [] = refl
around-left (frame ∷ frames) = refl

pub around-right : (frames : List Frame) → (around_hole frames).right ≡ None
around-right [] = refl
around-right (frame ∷ frames) = refl

-- trees by their last one
pub record IsSnoc (trees : Forest) (k : ℕ) : Type 0 where
  pub before : Forest
  pub node : Node
  pub below : Forest
  pub is : trees ≡ beside before (tree_then node below no_trees)
  pub number_is : node.number ≡ k

or_one : (a : Option ℕ) (m : ℕ) (b : Option ℕ) → option_or (option_or a (Some m)) b ≡ option_or a (Some m)
or_one None m b = refl
or_one (Some n) m b = refl

pub snoc : (trees : Forest) (k : ℕ) → last_of trees ≡ Some k → IsSnoc trees k
snoc no_trees k last = absurd cc
snoc (tree_then n below no_trees) k last = record { before = no_trees; node = n; below = below; is = refl; number_is = cc }
snoc (tree_then n below (tree_then m b rest)) k last =
    let more = snoc (tree_then m b rest) k (sym (or_one (last_of rest) m.number (Some n.number)) ∙ last) in
    record { before = tree_then n below more.before; node = more.node; below = more.below; is = ap (tree_then n below) more.is; number_is = more.number_is }

-- some row is told of the node
abbrev IsSomewhere : Option (RecordMap NodeRecord) → ℕ → Type 0
IsSomewhere o k = (v : NodeRow) × Tells o k (Some v)

module _ (local : Kind → List ℕ → ℕ) (number : List Step → ℕ) where
  by_number : (o : Option (RecordMap NodeRecord)) (n : Node) (k : ℕ) (v : NodeRow) → n.number ≡ k → Tells o n.number (Some v) → IsSomewhere o k
  by_number o n k v same is = (v, subst (λ q. Tells o q (Some v)) same is)

  in_hole : (o : Option (RecordMap NodeRecord)) (frames : List Frame) (inside : Forest) → TellsAll o (rows local number at_top (plug frames inside)) → (k : ℕ)
      → first_of inside ≡ Some k → IsSomewhere o k
  in_hole o frames no_trees tells k is = absurd cc
  in_hole o frames (tree_then m b c) tells k is = by_number o m k _ (some_number m.number k is) (told local number o frames no_trees m b c tells).here

  at_end : (o : Option (RecordMap NodeRecord)) (frames : List Frame) (inside : Forest) → TellsAll o (rows local number at_top (plug frames inside)) → (k : ℕ)
      → last_of inside ≡ Some k → IsSomewhere o k
  at_end o frames inside tells k is =
      let end = snoc inside k is in
      by_number o end.node k _ end.number_is (told local number o frames end.before end.node end.below no_trees (subst (λ t. TellsAll o (rows local number at_top (plug frames t))) end.is tells)).here

  -- The links of a node lead to nodes that are told.
  pub record Leads (o : Option (RecordMap NodeRecord)) (w : NodeRow) : Type 0 where
    pub parent : (k : ℕ) → w.parent ≡ Some k → IsSomewhere o k
    pub left : (k : ℕ) → w.left ≡ Some k → IsSomewhere o k
    pub right : (k : ℕ) → w.right ≡ Some k → IsSomewhere o k
    pub first : (k : ℕ) → w.first ≡ Some k → IsSomewhere o k
    pub last : (k : ℕ) → w.last ≡ Some k → IsSomewhere o k

  up : (o : Option (RecordMap NodeRecord)) (frames : List Frame) (before : Forest) (n : Node) (below behind : Forest)
      → TellsAll o (rows local number at_top (plug frames (beside before (tree_then n below behind)))) → (k : ℕ)
      → (row_there local number frames before n below behind).parent ≡ Some k → IsSomewhere o k
  up o [] before n below behind tells k is = absurd cc
  up o (frame ∷ frames) before n below behind tells k is =
      by_number o frame.node k _ (some_number frame.node.number k is) (told local number o frames frame.before frame.node (beside before (tree_then n below behind)) frame.behind tells).here

  to_left : (o : Option (RecordMap NodeRecord)) (frames : List Frame) (before : Forest) (n : Node) (below behind : Forest)
      → TellsAll o (rows local number at_top (plug frames (beside before (tree_then n below behind)))) → (k : ℕ)
      → last_of before ≡ Some k → IsSomewhere o k
  to_left o frames before n below behind tells k is =
      let end = snoc before k is in
      let split : beside before (tree_then n below behind) ≡ beside end.before (tree_then end.node end.below (tree_then n below behind))
      = ap (λ t. beside t (tree_then n below behind)) end.is ∙ beside_assoc end.before (tree_then end.node end.below no_trees) (tree_then n below behind) in
      by_number o end.node k _ end.number_is
      (told local number o frames end.before end.node end.below (tree_then n below behind) (subst (λ t. TellsAll o (rows local number at_top (plug frames t))) split tells)).here

  to_right : (o : Option (RecordMap NodeRecord)) (frames : List Frame) (before : Forest) (n : Node) (below behind : Forest)
      → TellsAll o (rows local number at_top (plug frames (beside before (tree_then n below behind)))) → (k : ℕ)
      → first_of behind ≡ Some k → IsSomewhere o k
  to_right o frames before n below no_trees tells k is = absurd cc
  to_right o frames before n below (tree_then m b c) tells k is =
      by_number o m k _ (some_number m.number k is)
      (told local number o frames (beside before (tree_then n below no_trees)) m b c
      (subst (λ t. TellsAll o (rows local number at_top (plug frames t))) (sym (beside_assoc before (tree_then n below no_trees) (tree_then m b c))) tells)).here

  there_leads : (o : Option (RecordMap NodeRecord)) (frames : List Frame) (before : Forest) (n : Node) (below behind : Forest)
      → TellsAll o (rows local number at_top (plug frames (beside before (tree_then n below behind)))) → Leads o (row_there local number frames before n below behind)
  there_leads o frames before n below behind tells =
      let frame : Frame = record { before = before; node = n; behind = behind } in
      record {
        parent = up o frames before n below behind tells;
        left = λ k is. to_left o frames before n below behind tells k (sym (or_none _) ∙ ap (option_or (last_of before)) (sym (around-left frames)) ∙ is);
        right = λ k is. to_right o frames before n below behind tells k (sym (or_none _) ∙ ap (option_or (first_of behind)) (sym (around-right frames)) ∙ is);
        first = in_hole o (frame ∷ frames) below tells;
        last = at_end o (frame ∷ frames) below tells;
      }

  pub leads : (trees : Forest) (o : Option (RecordMap NodeRecord)) (k : ℕ) (w : NodeRow) → Shows local number trees o → Tells o k (Some w) → Leads o w
  leads trees o k w shows is =
      let at = is_at local number trees o k w shows is in
      subst (Leads o) at.row_is (there_leads o at.frames at.before at.spot_of.node at.spot_of.below at.behind at.tells)

-- a link that leads on wherever the place is one of a document
abbrev pub LeadsOn : (NodeRow → Option ℕ) → Option (RecordMap NodeRecord) → NodeRow → Type 0
LeadsOn link o w = (k : ℕ) → link w ≡ Some k → IsSomewhere o k

not_both : (o : Option (RecordMap NodeRecord)) (k : ℕ) (v : NodeRow) (m : RecordMap NodeRecord) → o ≡ Some m → Tells o k (Some v) → Tells o k None → ⊥
not_both None k v m is one other = absurd cc
not_both (Some n) k v m is one other = absurd (cc (tells-once n k (Some v) None one other))

-- Damage at a link that leads on: there is no such place in the records of a document.
pub no_place : (link : NodeRow → Option ℕ) (o : Option (RecordMap NodeRecord)) (old : Place) (below : Damage → Type 0) (rose : Type 0) (fault : Fault)
    → ((local : Kind → List ℕ → ℕ) (number : List Step → ℕ) → Leads local number o old.row → LeadsOn link o old.row)
    → ((d : Damage) → below d → o ≡ None) → Explains below rose (BreaksOff link o old) fault → IsDamaged fault → IsNoPlace o old
unfolding IsNoPlace
no_place link o old below rose Failed on untold why = λ is. absurd is
no_place link o old below rose OutOfMemory on untold why = λ is. absurd is
no_place link o old below rose (Damaged damage) on untold (inl told) = λ is local number trees shows stands.
    absurd (subst (λ x. Shows local number trees x) (untold damage told) shows).holds
no_place link None old below rose (Damaged damage) on untold (inr broken) = λ is local number trees shows stands. absurd shows.holds
no_place link (Some m) old below rose (Damaged damage) on untold (inr broken) = λ is local number trees shows stands.
    let there = on local number (leads local number trees (Some m) old.at old.row shows stands) broken.0 broken.1.0 in
    not_both (Some m) broken.0 there.0 m refl there.1 broken.1.1.0

pub move_sound : (r : Result Bool Fault) (link : NodeRow → Option ℕ) (o : Option (RecordMap NodeRecord)) (old : Place) (below : Damage → Type 0) (rose : Type 0)
    → ((local : Kind → List ℕ → ℕ) (number : List Step → ℕ) → Leads local number o old.row → LeadsOn link o old.row)
    → ((d : Damage) → below d → o ≡ None) → IfErr r (Explains below rose (BreaksOff link o old)) → IfErr r (λ fault. IsDamaged fault → IsNoPlace o old)
move_sound (Ok b) link o old below rose on untold why = why
move_sound (Err fault) link o old below rose on untold why = no_place link o old below rose fault on untold why
