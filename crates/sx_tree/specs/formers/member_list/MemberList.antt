-- `MemberList` as a type that may hold the type that holds it, by its values.
use Rattle.std.specs.Prelude.{◌≡◌, ℕ, List, [], Option, Some, None}
use Rattle.std.specs.declared.boxed.Box.{Box}
use Rattle.std.specs.contracts.boxed.Box as box
use Rattle.std.specs.contracts.option.Option as option
use Rattle.std.specs.declared.alloc.Global.{Global}
use Rattle.std.specs.contracts.alloc.Global as heap
use Rattle.std.specs.contracts.impls.GlobalAllocator.TheImpl.{ghosts}
use mathlib.Core.Path.{refl}
use mathlib.Core.Logic.{◌⊎◌, inl, inr}
use mathlib.Core.Former.{Former, this, const, pair, or, via, children}
use base.Stored.{gnil}
use base.Fml.{ftrue}
use denote.RattleType.{RattleType}
use denote.Memory.{part_of}
use denote.RawPtr.{Ptr}
use denote.Sharing.{nothing}
use denote.HoleLaws.{Alike}
use denote.HolePlaces.{Recodes, struct_places, enum_places, eachs, laid, one_value}
use denote.Hole.Carrier.{listed}
use denote.Hole.Fix.{over}
use denote.Param.Weighed.{Weighed}
use denote.Model.Placed.{held, view_places}
use Rattle.sx_tree.specs.declared.member_list.MemberList.TheInside.{Inside}
use Rattle.sx_tree.specs.declared.member_list.MemberList.TheView.{view, invariant}
use Rattle.sx_tree.specs.contracts.member_list.MemberList as C
use Rattle.sx_tree.specs.contracts.member_list.MemberList.TheInside as I
use Rattle.sx_tree.specs.contracts.named_list.NamedList as N
use Rattle.sx_tree.specs.formers.named_list.NamedList as named
use Rattle.sx_tree.specs.Names.{boxed_members}

abbrev pub the_former : Former {0} → Former {0}
the_former g = named.the_former g

abbrev pub the_weighed : {g : Former {0}} → Weighed g → Weighed (the_former g)
the_weighed w = named.the_weighed w

pub the_empty : List (List ℕ × ⊥)
the_empty = []

abbrev pub the_items : (X : Type 0) → List (List ℕ × X) → List X
the_items X es = named.the_items X es

pub the_items_listed : (X : Type 0) (es : List (List ℕ × X)) → listed _ (children (the_former this) X es) ≡ the_items X es
the_items_listed X es = named.the_items_listed X es

abbrev Boxed : Type 0 → Type 0
Boxed X = Option (Box (List (List ℕ × X)) Global)

abbrev with_value : {A B : Type 0} → Box A Global → B → Box B Global
with_value b y = record { ptr = b.ptr; alloc = b.alloc; value = y }

module _ {A : Type 0} where
  abbrev split_box : Option (Box A Global) → Unit {0} ⊎ ((Ptr × Global) × A)
  split_box None = inl tt
  split_box (Some b) = inr ((b.ptr, b.alloc), b.value)

  abbrev join_box : Unit {0} ⊎ ((Ptr × Global) × A) → Option (Box A Global)
  join_box (inl u) = None
  join_box (inr v) = Some (record { ptr = v.0.0; alloc = v.0.1; value = v.1 })

  join-split : (o : Option (Box A Global)) → join_box (split_box o) ≡ o
  join-split None = refl
  join-split (Some b) = refl

  split-join : (v : Unit {0} ⊎ ((Ptr × Global) × A)) → split_box (join_box v) ≡ v
  split-join (inl u) = refl
  split-join (inr v) = refl

abbrev fields : Former {0}
fields = via (or (const (Unit {0})) (pair (const (Ptr × Global)) (the_former this))) (λ X. Inside X) (λ X a. split_box a.list)
    (λ X v. record { list = join_box v }) (λ X a i. record { list = join-split a.list i }) (λ X v. split-join v)

abbrev on_members : {X Y : Type 0} → (X → Y) → List (List ℕ × X) → List (List ℕ × Y)
on_members {X} {Y} h es = (the_former this).map X Y h es

abbrev on_box : {X Y : Type 0} → (X → Y) → Boxed X → Boxed Y
on_box h None = None
on_box h (Some b) = Some (with_value b (on_members h b.value))

mapped : (X Y : Type 0) (h : X → Y) (o : Boxed X) → (fields.map X Y h (record { list = o })).list ≡ on_box h o
mapped X Y h None = refl
mapped X Y h (Some b) = refl

natural : (X Y : Type 0) (h : X → Y) (o : Boxed X) → boxed_members (fields.map X Y h (record { list = o })).list ≡ on_members h (boxed_members o)
natural X Y h None = refl
natural X Y h (Some b) = refl

keeps : (X : Type 0) (o : Boxed X) → held (the_former this) X (boxed_members o) ≡ held fields X (record { list = o })
keeps X None = refl
keeps X (Some b) = refl

abbrev box_of : RattleType → RattleType
box_of R = box.the_row R heap.the_row ghosts

module _ (R S : RattleType) (h : R.Denot → S.Denot) where
  box_places : Alike R S h → Alike (box_of R) (box_of S) (λ b. with_value b (h b.value))
  unfolding part_of
  box_places a = record {
    mir_same = λ i. (box_of (one_value R (a.mir_same i) (λ _. ftrue) (λ _ _. nothing) gnil)).mir;
    own_same = λ b i. (box_of (one_value R (a.mir_same i) (a.own_same b.value i) (a.shr_same b.value i) gnil)).own_val (with_value b tt);
    shr_same = λ b i. (box_of (one_value R (a.mir_same i) (a.own_same b.value i) (a.shr_same b.value i) gnil)).shr_at (with_value b tt);
  }

module _ (R R' : RattleType) (h : R.Denot → R'.Denot) where
  abbrev of_box : Box (List (List ℕ × R.Denot)) Global → Box (List (List ℕ × R'.Denot)) Global
  of_box b = with_value b (on_members h b.value)

  variant : (o : Boxed R.Denot) → (option.enum (box_of (N.the_row R'))).as_values (on_box h o)
      ≡ eachs (option.enum (box_of (N.the_row R))).parts (option.enum (box_of (N.the_row R'))).parts (tt, ((of_box, tt), tt)) ((option.enum (box_of (N.the_row R))).as_values o)
  variant None = refl
  variant (Some b) = refl

  option_places : Alike R R' h → Alike (option.the_row (box_of (N.the_row R))) (option.the_row (box_of (N.the_row R'))) (on_box h)
  option_places a = enum_places (option.enum (box_of (N.the_row R))) (option.enum (box_of (N.the_row R'))) (tt, ((of_box, tt), tt)) (on_box h) variant refl
      (tt, ((laid _ _ _ (box_places (N.the_row R) (N.the_row R') (on_members h) (named.the_places R R' h a)), tt), tt))

  pub the_places : Alike R R' h → Alike (C.the_row R) (C.the_row R') ((the_former this).map R.Denot R'.Denot h)
  the_places a = view_places fields (the_former this) (λ X. view X) (λ X Y k u. natural X Y k u.list) (λ X u. keeps X u.list)
      R.Denot R'.Denot h (C.the_row R).coded (C.the_row R').coded
      (invariant R.Denot) (invariant R'.Denot) (λ u p q. refl) (λ u p q. refl) (λ u e. tt) (λ u e. tt)
      (over (I.the_row R)) (over (I.the_row R'))
      (struct_places (I.the_type R) (I.the_type R') (on_box h, tt) _ (λ d i. (mapped R.Denot R'.Denot h d.list i, tt)) refl (laid _ _ _ (option_places a), tt))

  pub the_codes_placed : Recodes R R' h → Recodes (C.the_row R) (C.the_row R') ((the_former this).map R.Denot R'.Denot h)
  the_codes_placed e es = named.the_codes_placed R R' h e es
