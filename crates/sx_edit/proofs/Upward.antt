-- Nodes that were read on the way up, the nearest last.
use Rattle.std.proofs.Common.{◌≡◌, ℕ, ◌+◌, ◌≤◌, List, [], ◌∷◌, ◌++◌, length, take, Option, Some, None, append_assoc, append-nil, inl, inr, refl, sym, ap, subst, ◌∙◌, arith}
use Rattle.std.specs.Prelude.{◌<◌, ◌⊎◌, ◌^◌, map, reverse}
use Rattle.std.proofs.lemmas.List.{reverse-append, reverse-reverse}
use Rattle.sx_bytes.specs.declared.damage.Damage.{Damage}
use Rattle.sx_tree.specs.declared.record.NodeRecord.{NodeRecord}
use Rattle.sx_view.specs.Records.{RecordMap}
use Rattle.sx_edit.specs.declared.trees.Seen.{Seen}
use Rattle.sx_edit.specs.declared.trees.Tree.{Tree}
use Rattle.sx_edit.specs.Damage.{CannotCount, IsMiscounted, IsSpent, Reach, misplaced}
use Rattle.sx_edit.specs.Links.{IsAbove, IsAbsent, IsBelow, IsNear, IsOver, IsRecord, LeadsUp}
use Rattle.sx_edit.specs.Mend.{nodes_of_tree, trees_of_tree}
use Rattle.sx_edit.specs.Seen.{AreCounted, GoFrom, IsChain, IsLeaving, IsNoSight, IsSight, entry_of, upward}

pub upward-pop : (old new : List Seen) (seen : Seen) → old ≡ new ++ seen ∷ [] → upward old ≡ entry_of seen ∷ upward new
upward-pop old new seen is = ap upward is ∙ ap (map entry_of) (reverse-append new (seen ∷ []))

abbrev pub IsCounted : Option (RecordMap NodeRecord) → Reach → ℕ → Seen → Type 0
IsCounted o reach minus seen = (r : NodeRecord) × (IsRecord o seen.node r × (r.descendants ≡ seen.record.descendants) × GoFrom o reach minus seen.node)

module _ (o : Option (RecordMap NodeRecord)) (reach : Reach) (minus : ℕ) where
  counted_last : (new : List Seen) (seen : Seen) → AreCounted o reach minus (new ++ seen ∷ []) → AreCounted o reach minus new × IsCounted o reach minus seen
  counted_last [] seen all = (tt, all.0)
  counted_last (s ∷ new) seen all = let more = counted_last new seen all.1 in ((all.0, more.0), more.1)

  pub counted-pop : (old new : List Seen) (seen : Seen) → old ≡ new ++ seen ∷ [] → AreCounted o reach minus old → AreCounted o reach minus new × IsCounted o reach minus seen
  counted-pop old new seen is all = counted_last new seen (subst (AreCounted o reach minus) is all)

  push_last : (seen : Seen) → IsCounted o reach minus seen → (old : List Seen) → AreCounted o reach minus old → AreCounted o reach minus (old ++ seen ∷ [])
  push_last seen one [] all = (one, tt)
  push_last seen one (s ∷ old) all = (all.0, push_last seen one old all.1)

  pub counted-push : (old new : List Seen) (seen : Seen) → new ≡ old ++ seen ∷ [] → AreCounted o reach minus old → IsCounted o reach minus seen → AreCounted o reach minus new
  counted-push old new seen is all one = subst (AreCounted o reach minus) (sym is) (push_last seen one old all)

  counted_split : (xs ys : List Seen) → AreCounted o reach minus xs → AreCounted o reach minus ys → AreCounted o reach minus (xs ++ ys)
  counted_split [] ys xs_are ys_are = ys_are
  counted_split (x ∷ xs) ys xs_are ys_are = (xs_are.0, counted_split xs ys xs_are.1 ys_are)

  counted_reverse : (seens : List Seen) → AreCounted o reach minus seens → AreCounted o reach minus (reverse seens)
  counted_reverse [] all = tt
  counted_reverse (seen ∷ seens) all = subst (AreCounted o reach minus) (sym (reverse-append (seen ∷ []) seens)) (counted_split (reverse seens) (seen ∷ []) (counted_reverse seens all.1) (all.0, tt))

leads_up : (o : Option (RecordMap NodeRecord)) (node : ℕ) (parents : List ℕ) (top parent : ℕ) → LeadsUp o node parents top → IsBelow o top parent → LeadsUp o node (parents ++ parent ∷ []) parent
leads_up o node [] top parent leads below = (subst (λ k. IsBelow o k parent) (sym leads) below, refl)
leads_up o node (p ∷ parents) top parent leads below = (leads.0, leads_up o p parents top parent leads.1 below)

pub over-up : (o : Option (RecordMap NodeRecord)) (top parent node : ℕ) → IsOver o top node → IsBelow o top parent → IsOver o parent node
over-up o top parent node over below = (over.0 ++ parent ∷ [], leads_up o node over.0 top parent over.1 below)

above_up : (o : Option (RecordMap NodeRecord)) (top parent node : ℕ) → IsAbove o top node → IsBelow o top parent → IsAbove o parent node
above_up o top parent node above below = (above.0, (above.1.0, over-up o top parent above.0 above.1.1 below))

-- the parent of a node from below which so many go
go_up : (o : Option (RecordMap NodeRecord)) (reach : Reach) (minus top parent : ℕ) → GoFrom o reach minus top → IsBelow o top parent → GoFrom o reach minus parent
go_up o reach minus top parent (inl (none, over)) below = inl (none, over-up o top parent reach.node over below)
go_up o reach minus top parent (inr (own, (there, is, above))) below = inr (own, (there, is, above_up o top parent reach.node above below))

-- what was read one after the other was read
counted_chain : (o : Option (RecordMap NodeRecord)) (reach : Reach) (minus : ℕ) (node : Option ℕ) (seens : List Seen) → IsChain o node seens → ((k : ℕ) → node ≡ Some k → GoFrom o reach minus k) → AreCounted o reach minus seens
counted_chain o reach minus node [] chain goes = tt
counted_chain o reach minus node (seen ∷ seens) chain goes =
    let here = goes seen.node chain.0 in
    ((seen.record, (chain.1, refl, here)), counted_chain o reach minus seen.record.parent seens chain.2 (λ k is. go_up o reach minus seen.node k here (seen.record, (chain.1, is))))

pub counted-above : (o : Option (RecordMap NodeRecord)) (reach : Reach) (minus : ℕ) (k : ℕ) (r : NodeRecord) (seens : List Seen) → IsRecord o k r → GoFrom o reach minus k → IsChain o r.parent (reverse seens) → AreCounted o reach minus seens
counted-above o reach minus k r seens there goes chain =
    subst (AreCounted o reach minus) (reverse-reverse seens) (counted_reverse o reach minus (reverse seens) (counted_chain o reach minus r.parent (reverse seens) chain (λ p is. go_up o reach minus k p goes (r, (there, is)))))

-- what goes from below the parent
pub leaving-goes : (o : Option (RecordMap NodeRecord)) (reach : Reach) (parent : ℕ) (old : Option Tree) → IsLeaving o reach parent old → GoFrom o reach (nodes_of_tree old) parent
leaving-goes o reach parent None (inl same) = inl (refl, ([], sym same))
leaving-goes o reach parent None (inr below) = inl (refl, (parent ∷ [], (below, refl)))
leaving-goes o reach parent (Some tree) (below, (own, (there, is))) = inr (own, (there, is, (parent, (below, ([], refl)))))

pub leaves-tree : (o : Option (RecordMap NodeRecord)) (reach : Reach) (own : NodeRecord) (parent at : ℕ) (tree : Tree) → IsRecord o reach.node own → own.parent ≡ Some parent → at ≡ parent → tree.nodes ≡ own.descendants + 1
    → IsLeaving o reach at (Some tree)
leaves-tree o reach own parent at tree there up at_is nodes_are = ((own, (there, up ∙ ap (λ p. Some p) (sym at_is))), (own, (there, nodes_are)))

-- a count below a node that cannot be what it is to be
pub spent-count : (o : Option (RecordMap NodeRecord)) (reach : Reach) (seen : Seen) (plus minus count : ℕ) (damage : Damage) → IsCounted o reach minus seen → plus ≡ reach.more → count ≡ seen.record.descendants + plus → IsSpent count minus
    → damage ≡ misplaced seen.node count → IsMiscounted o reach damage
spent-count o reach seen plus minus count damage (r, (there, down, goes)) more count_is spent is =
    let same : count ≡ r.descendants + reach.more = omega (arith, count_is, down, more) in
    inl (seen.node, (r, (there, cannot goes (subst (λ z. IsSpent z minus) same spent), is ∙ ap (misplaced seen.node) same)))
  where
    cannot : GoFrom o reach minus seen.node → IsSpent (r.descendants + reach.more) minus → CannotCount o reach seen.node r
    cannot (inl (none, over)) (inl low) = absurd (omega (arith, none, low))
    cannot (inl (none, over)) (inr high) = inl (over, omega (arith, none, high))
    cannot (inr (own, (there, is, above))) spent = inr (own, (there, above, subst (IsSpent (r.descendants + reach.more)) is spent))

-- the same of the count of children
pub spent-children : (o : Option (RecordMap NodeRecord)) (reach : Reach) (k : ℕ) (r : NodeRecord) (plus count : ℕ) (old : Option Tree) (damage : Damage) → IsRecord o k r → plus ≤ 1 → IsLeaving o reach k old → count ≡ r.children + plus
    → IsSpent count (trees_of_tree old) → damage ≡ misplaced k count → IsMiscounted o reach damage
spent-children o reach k r plus count old damage there few leaving count_is spent is =
    inr (inr (k, (r, (plus, (there, few, cannot old leaving spent, is ∙ ap (misplaced k) count_is)))))
  where
    cannot : (old : Option Tree) → IsLeaving o reach k old → IsSpent count (trees_of_tree old) → (IsNear o reach.node k × (2 ^ 32 ≤ r.children + plus)) ⊎ (IsBelow o reach.node k × (r.children + plus ≡ 0))
    cannot None near (inl low) = absurd (omega (arith, low))
    cannot None near (inr high) = inl (near, omega (arith, high, count_is))
    cannot (Some tree) (below, rest) (inl low) = inr (below, omega (arith, low, count_is))
    cannot (Some tree) (below, rest) (inr high) = inl (inr below, omega (arith, high, count_is))

-- a node with all below it, and one more
pub spent-tree : (o : Option (RecordMap NodeRecord)) (reach : Reach) (k : ℕ) (r : NodeRecord) (count : ℕ) (damage : Damage) → reach.node ≡ k → IsRecord o k r → 2 ^ 32 ≤ r.descendants + 1 → count ≡ r.descendants + 1 → damage ≡ misplaced k count
    → IsMiscounted o reach damage
spent-tree o reach k r count damage node_is there many count_is is =
    inr (inl (r, (subst (λ n. IsRecord o n r) (sym node_is) there, many, is ∙ (λ i. misplaced (sym node_is i) (count_is i)))))

-- ---- on the way up

-- one node more was read
pub chain-on : (o : Option (RecordMap NodeRecord)) (node at : Option ℕ) (seen new : List Seen) (one : Seen) (rest : List Seen) → at ≡ Some one.node → IsRecord o one.node one.record → new ≡ seen ++ one ∷ []
    → ((rest : List Seen) → IsChain o at rest → IsChain o node (seen ++ rest)) → IsChain o one.record.parent rest → IsChain o node (new ++ rest)
chain-on o node at seen new one rest is there new_is chains more =
    subst (IsChain o node) (sym (ap (λ l. l ++ rest) new_is ∙ append_assoc seen (one ∷ []) rest)) (chains (one ∷ rest) (is, there, more))

pub chain-end : (o : Option (RecordMap NodeRecord)) (node at : Option ℕ) (seen : List Seen) → ((rest : List Seen) → IsChain o at rest → IsChain o node (seen ++ rest)) → at ≡ None → IsChain o node seen
chain-end o node at seen chains is = subst (IsChain o node) (append-nil seen) (chains [] is)

-- the nearest is the last
pub chain-last : (o : Option (RecordMap NodeRecord)) (k : ℕ) (all above : List Seen) (parent : Seen) → all ≡ above ++ parent ∷ [] → IsChain o (Some k) (reverse all) → IsChain o (Some k) (parent ∷ reverse above)
chain-last o k all above parent is = subst (IsChain o (Some k)) (ap reverse is ∙ reverse-append above (parent ∷ []))

pub chain-some : (o : Option (RecordMap NodeRecord)) (k : ℕ) (all : List Seen) → all ≡ [] → IsChain o (Some k) (reverse all) → ⊥
chain-some o k all is chain = let none : Some k ≡ None = subst (IsChain o (Some k)) (ap reverse is) chain in cc

-- ---- a sibling

pub sight-none : (o : Option (RecordMap NodeRecord)) (node : Option ℕ) → node ≡ None → IsSight o node None
sight-none o node is = rw is tt

pub sight-some : (o : Option (RecordMap NodeRecord)) (node : Option ℕ) (seen : Seen) → node ≡ Some seen.node → IsRecord o seen.node seen.record → IsSight o node (Some seen)
sight-some o node seen is there = rw is (refl, there)

pub no-sight : (o : Option (RecordMap NodeRecord)) (node : Option ℕ) (k : ℕ) → node ≡ Some k → IsAbsent o k → IsNoSight o node
no-sight o node k is none = rw is none

-- ---- in place

take-front : (xs ys : List Seen) → take (length xs) (xs ++ ys) ≡ xs
take-front [] ys = refl
take-front (x ∷ xs) ys = ap (λ l. x ∷ l) (take-front xs ys)

-- what a list has once all of it was written over
pub written-back : (n : ℕ) (new rest : List Seen) → length new ≡ n → take n (new ++ rest) ≡ new
written-back n new rest is = subst (λ m. take m (new ++ rest) ≡ new) is (take-front new rest)
