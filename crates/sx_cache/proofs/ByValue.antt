-- What the words on a cache's entries give on what the values share.
use Rattle.std.proofs.Common.{◌≡◌, ℕ, zero, suc, ◌+◌, ◌-◌, ◌≤◌, Bool, true, false, cond, List, [], ◌∷◌, map, option_map, is_some, IsSome, length, take, slice_get, nat_eq, ◌&&◌, ◌==◌, Option, Some, None, refl, sym, ap, ◌∙◌, subst, arith}
use Rattle.std.specs.Arc.{arc_value}
use Rattle.std.specs.Map.{keys_of, lookup, lookup_entry, remove_entry}
use Rattle.std.specs.Option.{option_map_or}
use Rattle.std.specs.declared.sync.Arc.{Arc}
use Rattle.std.proofs.lemmas.Bool.{eqb-true}
use Rattle.std.proofs.lemmas.List.{length-map, take-map}
use Rattle.std.proofs.lemmas.Map.Made.{lookup-map_values}
use Rattle.lru.proofs.Pairs.{lookup-lookup_entry}
use Rattle.lru.specs.LruCache.{LruCache, promoted, put_entries}
use Rattle.sx_cache.specs.ByUse.{by_value, is_leaf, with_newest}

module _ {K V Z : Type 0} where
  abbrev pub pair_of : K × Arc V Z → K × V
  pair_of e = (e.0, arc_value e.1)

  pub length-by_value : (es : List (K × Arc V Z)) → length (by_value es) ≡ length es
  length-by_value es = length-map es pair_of

  pub keys-by_value : (es : List (K × Arc V Z)) → keys_of (by_value es) ≡ keys_of es
  keys-by_value [] = refl
  keys-by_value (e ∷ es) = ap (λ l. e.0 ∷ l) (keys-by_value es)

  pub slice_get-by_value : (es : List (K × Arc V Z)) (i : ℕ) → slice_get (by_value es) i ≡ option_map pair_of (slice_get es i)
  slice_get-by_value [] i = refl
  slice_get-by_value (e ∷ es) zero = refl
  slice_get-by_value (e ∷ es) (suc i) = slice_get-by_value es i

  module _ (test : K → Bool) where
    pub lookup-by_value : (es : List (K × Arc V Z)) → lookup test (by_value es) ≡ option_map arc_value (lookup test es)
    lookup-by_value = lookup-map_values arc_value test

    pub is_some-lookup-by_value : (es : List (K × Arc V Z)) → is_some (lookup test (by_value es)) ≡ is_some (lookup test es)
    is_some-lookup-by_value es = rw (lookup-by_value es) (elim (lookup test es) as (λ o. is_some (option_map arc_value o) ≡ is_some o) [
      | None ↦ refl
      | Some a ↦ refl
    ])

    pub lookup_entry-by_value : (es : List (K × Arc V Z)) → lookup_entry test (by_value es) ≡ option_map pair_of (lookup_entry test es)
    lookup_entry-by_value [] = refl
    lookup_entry-by_value (e ∷ es) = elim (test e.0) as (λ y. cond y (Some (pair_of e)) (lookup_entry test (by_value es)) ≡ option_map pair_of (cond y (Some e) (lookup_entry test es))) [
      | true ↦ refl
      | false ↦ lookup_entry-by_value es
    ]

    pub remove_entry-by_value : (es : List (K × Arc V Z)) → remove_entry test (by_value es) ≡ by_value (remove_entry test es)
    remove_entry-by_value [] = refl
    remove_entry-by_value (e ∷ es) = elim (test e.0) as (λ y. cond y (by_value es) (pair_of e ∷ remove_entry test (by_value es)) ≡ by_value (cond y es (e ∷ remove_entry test es))) [
      | true ↦ refl
      | false ↦ ap (λ l. pair_of e ∷ l) (remove_entry-by_value es)
    ]

    pub promoted-by_value : (es : List (K × Arc V Z)) → promoted test (by_value es) ≡ by_value (promoted test es)
    promoted-by_value es = rw (lookup_entry-by_value es, remove_entry-by_value es) (elim (lookup_entry test es) as (λ o. option_map_or (λ e. e ∷ by_value (remove_entry test es)) (option_map pair_of o) (by_value es) ≡ by_value (option_map_or (λ e. e ∷ remove_entry test es) o es)) [
      | None ↦ refl
      | Some e ↦ refl
    ])

-- an entry that is not there is not taken out
pub remove_entry-missed : {K V : Type 0} (test : K → Bool) (es : List (K × V)) → lookup_entry test es ≡ None → remove_entry test es ≡ es
remove_entry-missed test [] h = refl
remove_entry-missed test (e ∷ es) h = (elim (test e.0) as (λ y. test e.0 ≡ y → remove_entry test (e ∷ es) ≡ e ∷ es) [
  | true ↦ λ t. let h' = rw t at h in cc
  | false ↦ λ t. rw t (ap (λ l. e ∷ l) (remove_entry-missed test es (rw t at h)))
]) refl

-- one that is there is one less
pub length-remove_entry : {K V : Type 0} (test : K → Bool) (es : List (K × V)) (e : K × V) → lookup_entry test es ≡ Some e → length (remove_entry test es) + 1 ≡ length es
length-remove_entry test [] e h = cc
length-remove_entry test (f ∷ es) e h = (elim (test f.0) as (λ y. test f.0 ≡ y → length (remove_entry test (f ∷ es)) + 1 ≡ length (f ∷ es)) [
  | true ↦ λ t. rw t (omega arith)
  | false ↦ λ t. let less = length-remove_entry test es e (rw t at h) in rw t (omega arith)
]) refl

pub lookup_entry-passes : {K V : Type 0} (test : K → Bool) (es : List (K × V)) (e : K × V) → lookup_entry test es ≡ Some e → test e.0 ≡ true
lookup_entry-passes test [] e h = cc
lookup_entry-passes test (f ∷ es) e h = (elim (test f.0) as (λ y. test f.0 ≡ y → test e.0 ≡ true) [
  | true ↦ λ t. let h' = rw t at h in let same : f ≡ e = cc in subst (λ g. test g.0 ≡ true) same t
  | false ↦ λ t. lookup_entry-passes test es e (rw t at h)
]) refl

-- what stands first once a look-up moved it there
pub lookup-promoted : {K V : Type 0} (test : K → Bool) (old new : List (K × V)) (there : Bool) (r : Option V)
    → there ≡ is_some (lookup test old) → new ≡ promoted test old
    → (there ≡ true → r ≡ option_map (λ e. e.1) (slice_get new 0)) → (there ≡ false → r ≡ None) → r ≡ lookup test old
lookup-promoted test old new there r is_there moved asked not_asked = rw (← lookup-lookup_entry test old) ((elim (lookup_entry test old) as (λ o. lookup_entry test old ≡ o → r ≡ option_map (λ e. e.1) o) [
  | None ↦ λ h. not_asked (is_there ∙ ap is_some (sym (lookup-lookup_entry test old) ∙ ap (option_map (λ e. e.1)) h))
  | Some e ↦ λ h. let first : slice_get new 0 ≡ Some e = rw (moved, h) refl in asked (is_there ∙ ap is_some (sym (lookup-lookup_entry test old) ∙ ap (option_map (λ e. e.1)) h)) ∙ ap (option_map (λ e. e.1)) first
]) refl)

pub take-all : {X : Type 0} (n : ℕ) (xs : List X) → length xs ≤ n → take n xs ≡ xs
take-all zero [] h = refl
take-all (suc n) [] h = refl
take-all zero (x ∷ xs) h = absurd (omega arith)
take-all (suc n) (x ∷ xs) h = ap (λ l. x ∷ l) (take-all n xs (omega arith))

module _ {K V Z : Type 0} (eq : K → K → Bool) (c : LruCache K (Arc V Z)) (k : K) (v : Arc V Z) where
  -- after `put`, where keys that pass for k are k
  pub put_entries-by_value : ((j : K) → eq k j ≡ true → j ≡ k) → length c.entries ≤ c.cap → by_value (put_entries eq c k v) ≡ with_newest c.cap (eq k) k (arc_value v) (by_value c.entries)
  put_entries-by_value one fits = rw (remove_entry-by_value (eq k) c.entries, take-map pair_of (c.cap - 1) (remove_entry (eq k) c.entries)) ((elim (lookup_entry (eq k) c.entries) as (λ o. lookup_entry (eq k) c.entries ≡ o → by_value (option_map_or (λ e. (e.0, v) ∷ remove_entry (eq k) c.entries) o ((k, v) ∷ take (c.cap - 1) c.entries)) ≡ (k, arc_value v) ∷ map pair_of (take (c.cap - 1) (remove_entry (eq k) c.entries))) [
    | None ↦ λ h. rw (remove_entry-missed (eq k) c.entries h) refl
    | Some e ↦ λ h. let less = length-remove_entry (eq k) c.entries e h in rw (take-all (c.cap - 1) (remove_entry (eq k) c.entries) (omega arith), one e.0 (lookup_entry-passes (eq k) c.entries e h)) refl
  ]) refl)

pub nat_eq-same : (a b : ℕ) → nat_eq a b ≡ true → b ≡ a
nat_eq-same a b h = sym (eqb-true a b h)

leaf_by_parts : (r leaf a b : ℕ) (x : Bool) → (r == a) ≡ x → (x && (leaf == b)) ≡ true → ◌≡◌ {A = ℕ × ℕ} (a, b) (r, leaf)
leaf_by_parts r leaf a b true e h = rw (eqb-true r a e, eqb-true leaf b h) refl
leaf_by_parts r leaf a b false e h = cc

pub is_leaf-same : (r leaf : ℕ) (key : ℕ × ℕ) → is_leaf r leaf key ≡ true → key ≡ (r, leaf)
is_leaf-same r leaf key h = leaf_by_parts r leaf key.0 key.1 (r == key.0) refl h

-- whether a key is there or has a place
pub IsSome-lookup : {V : Type 0} (test : ℕ → Bool) (list : List (ℕ × V)) → is_some (lookup test list) ≡ true → IsSome (lookup test list)
IsSome-lookup test list h = (elim (lookup test list) as (λ o. is_some o ≡ true → IsSome o) [
  | None ↦ λ e. cc
  | Some v ↦ λ e. refl
]) h

pub lookup-absent : {V : Type 0} (test : ℕ → Bool) (list : List (ℕ × V)) → is_some (lookup test list) ≡ false → lookup test list ≡ None
lookup-absent test list h = (elim (lookup test list) as (λ o. is_some o ≡ false → o ≡ None) [
  | None ↦ λ e. refl
  | Some v ↦ λ e. cc
]) h
