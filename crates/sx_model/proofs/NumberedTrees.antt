-- The tree of a value: its numbers, its nesting, and that it stands where a value may.
use Rattle.std.proofs.Common.{◌≡◌, ◌+◌, ℕ, suc, Bool, true, false, ◌||◌, List, [], ◌∷◌, ◌++◌, map, length, max, slice_get, Option, Some, inl, inr, refl, ap, sym, subst, ◌∙◌, arith, append-nil}
use Rattle.std.specs.Prelude.{bytes_eq}
use Rattle.std.specs.List.{list_any}
use Rattle.std.proofs.lemmas.Slice.Eq.{bytes_eq-Decides}
use Rattle.sx_tree.specs.declared.json.Scalar.{Scalar}
use Rattle.sx_tree.specs.declared.json.Scalar.TheVariants as scalars
use Rattle.sx_tree.specs.declared.record.Kind.{Kind}
use Rattle.sx_tree.specs.declared.record.Kind.TheVariants.{Object, Array, Key, Str, Number, Bool as Truth, Null}
use Rattle.sx_tree.specs.Names.{AreDistinct}
use Rattle.sx_tree.specs.Value.{Value, Values, Fields, scalar, array, object, no_values, value_then, no_fields, field_then, depth, depth_of_values, depth_of_fields, nodes, nodes_of_values, nodes_of_fields}
use Rattle.sx_model.specs.Grammar.{names_in}
use Rattle.sx_model.specs.Limits.{KeepsLimits, ElementsKeepLimits, MembersKeepLimits, ScalarKeepsLimits}
use Rattle.sx_model.specs.Numbered.{scalar_node, numbered, numbered_values, numbered_fields}
use Rattle.sx_model.specs.Tree.{Node, Forest, no_trees, tree_then, numbers, tops, nesting, is_value, may_stand, AreApart, FitBelow}
use Rattle.sx_model.proofs.Apart.{up_from, up_from-add}

-- ---- numbers

pub scalar_number : (s : Scalar) (n : ℕ) → (scalar_node n s).number ≡ n
scalar_number (scalars.Str content) n = refl
scalar_number (scalars.Number literal) n = refl
scalar_number (scalars.Bool true) n = refl
scalar_number (scalars.Bool false) n = refl
scalar_number scalars.Null n = refl

mutual
  pub numbers-numbered : (v : Value) (n : ℕ) (rest : Forest) → numbers (numbered v n rest) ≡ up_from n (nodes v) ++ numbers rest
  numbers-numbered (scalar s) n rest = ap (λ (k : ℕ). k ∷ numbers rest) (scalar_number s n)
  numbers-numbered (array vs) n rest = ap (λ (ks : List ℕ). n ∷ (ks ++ numbers rest)) (numbers-numbered_values vs (suc n))
  numbers-numbered (object fs) n rest = ap (λ (ks : List ℕ). n ∷ (ks ++ numbers rest)) (numbers-numbered_fields fs (suc n))

  pub numbers-numbered_values : (vs : Values) (n : ℕ) → numbers (numbered_values vs n) ≡ up_from n (nodes_of_values vs)
  numbers-numbered_values no_values n = refl
  numbers-numbered_values (value_then v vs) n =
      numbers-numbered v n (numbered_values vs (n + nodes v))
      ∙ ap (λ (ks : List ℕ). up_from n (nodes v) ++ ks) (numbers-numbered_values vs (n + nodes v))
      ∙ sym (up_from-add n (nodes v) (nodes_of_values vs))

  pub numbers-numbered_fields : (fs : Fields) (n : ℕ) → numbers (numbered_fields fs n) ≡ up_from n (nodes_of_fields fs)
  numbers-numbered_fields no_fields n = refl
  numbers-numbered_fields (field_then name v fs) n =
      let count : suc (nodes v) + nodes_of_fields fs ≡ suc (nodes v + nodes_of_fields fs) = omega arith in
      ap (λ (ks : List ℕ). n ∷ ks) (
      ap (λ (ks : List ℕ). ks ++ numbers (numbered_fields fs (suc n + nodes v))) (numbers-numbered v (suc n) no_trees ∙ append-nil (up_from (suc n) (nodes v)))
      ∙ ap (λ (ks : List ℕ). up_from (suc n) (nodes v) ++ ks) (numbers-numbered_fields fs (suc n + nodes v))
      ∙ sym (up_from-add (suc n) (nodes v) (nodes_of_fields fs))
      ) ∙ ap (up_from n) (sym count)

-- ---- nesting

pub scalar_nesting : (s : Scalar) (n : ℕ) (rest : Forest) → nesting (tree_then (scalar_node n s) no_trees rest) ≡ nesting rest
scalar_nesting (scalars.Str content) n rest = omega arith
scalar_nesting (scalars.Number literal) n rest = omega arith
scalar_nesting (scalars.Bool true) n rest = omega arith
scalar_nesting (scalars.Bool false) n rest = omega arith
scalar_nesting scalars.Null n rest = omega arith

mutual
  pub nesting-numbered : (v : Value) (n : ℕ) (rest : Forest) → nesting (numbered v n rest) ≡ max (depth v) (nesting rest)
  nesting-numbered (scalar s) n rest = omega (arith, scalar_nesting s n rest)
  nesting-numbered (array vs) n rest = omega (arith, nesting-numbered_values vs (suc n))
  nesting-numbered (object fs) n rest = omega (arith, nesting-numbered_fields fs (suc n))

  nesting-numbered_values : (vs : Values) (n : ℕ) → nesting (numbered_values vs n) ≡ depth_of_values vs
  nesting-numbered_values no_values n = refl
  nesting-numbered_values (value_then v vs) n = omega (arith, nesting-numbered v n (numbered_values vs (n + nodes v)), nesting-numbered_values vs (n + nodes v))

  nesting-numbered_fields : (fs : Fields) (n : ℕ) → nesting (numbered_fields fs n) ≡ depth_of_fields fs
  nesting-numbered_fields no_fields n = refl
  nesting-numbered_fields (field_then name v fs) n =
      omega (arith, nesting-numbered v (suc n) no_trees, nesting-numbered_fields fs (suc n + nodes v))

-- ---- where it stands

-- the node at the top of a value's tree
abbrev pub top_of : Value → ℕ → Node
top_of (scalar s) n = scalar_node n s
top_of (array vs) n = record { number = n; kind = Array; label = [] }
top_of (object fs) n = record { number = n; kind = Object; label = [] }

pub tops-numbered : (v : Value) (n : ℕ) (rest : Forest) → tops (numbered v n rest) ≡ top_of v n ∷ tops rest
tops-numbered (scalar s) n rest = refl
tops-numbered (array vs) n rest = refl
tops-numbered (object fs) n rest = refl

names-numbered : (fs : Fields) (n : ℕ) → map (λ m. m.label) (tops (numbered_fields fs n)) ≡ names_in fs
names-numbered no_fields n = refl
names-numbered (field_then name v fs) n = ap (λ (names : List (List ℕ)). name ∷ names) (names-numbered fs (suc n + nodes v))

-- names of which none stands at two places are apart
absent : (names : List (List ℕ)) (name : List ℕ) → ((i : ℕ) → slice_get names i ≡ Some name → ⊥) → list_any (bytes_eq name) names ≡ false
absent [] name never = refl
absent (other ∷ names) name never = by (absent names name (λ i at. never (suc i) at)) (bytes_eq name other) refl
  where
    by : list_any (bytes_eq name) names ≡ false → (b : Bool) → bytes_eq name other ≡ b → (b || list_any (bytes_eq name) names) ≡ false
    by rest true is = absurd (never 0 (ap (λ (n : List ℕ). Some n) (sym ((bytes_eq-Decides name other).0 is))))
    by rest false is = rest

pub distinct_apart : (names : List (List ℕ)) → AreDistinct names → AreApart bytes_eq names
distinct_apart [] distinct = tt
distinct_apart (name ∷ names) distinct = (
  absent names name (λ i at. absurd (omega (arith, distinct 0 (suc i) name refl at))),
  distinct_apart names (λ i j other one two. omega (arith, distinct (suc i) (suc j) other one two)),
)

-- a kind below which values stand
abbrev pub TakesValues : Option Kind → Type 0
TakesValues kind = (child : Kind) → is_value child ≡ true → may_stand kind child ≡ true

pub scalar_fits : (s : Scalar) (n : ℕ) (kind : Option Kind) (rest : Forest) → TakesValues kind → ScalarKeepsLimits s → FitBelow kind rest → FitBelow kind (tree_then (scalar_node n s) no_trees rest)
scalar_fits (scalars.Str content) n kind rest takes keeps fit = (takes Str refl, keeps, tt, tt, fit)
scalar_fits (scalars.Number literal) n kind rest takes keeps fit = (takes Number refl, keeps, tt, tt, fit)
scalar_fits (scalars.Bool true) n kind rest takes keeps fit = (takes Truth refl, inr refl, tt, tt, fit)
scalar_fits (scalars.Bool false) n kind rest takes keeps fit = (takes Truth refl, inl refl, tt, tt, fit)
scalar_fits scalars.Null n kind rest takes keeps fit = (takes Null refl, refl, tt, tt, fit)

array_takes : TakesValues (Some Array)
array_takes child is = is

key_takes : TakesValues (Some Key)
key_takes child is = is

mutual
  pub fit-numbered : (v : Value) (n : ℕ) (kind : Option Kind) (rest : Forest) → TakesValues kind → KeepsLimits v → FitBelow kind rest → FitBelow kind (numbered v n rest)
  fit-numbered (scalar s) n kind rest takes keeps fit = scalar_fits s n kind rest takes keeps fit
  fit-numbered (array vs) n kind rest takes keeps fit = (takes Array refl, refl, tt, fit-numbered_values vs (suc n) keeps, fit)
  fit-numbered (object fs) n kind rest takes keeps fit = (
    takes Object refl,
    refl,
    subst (AreApart bytes_eq) (sym (names-numbered fs (suc n))) (distinct_apart (names_in fs) keeps.0),
    fit-numbered_fields fs (suc n) keeps.1,
    fit,
  )

  fit-numbered_values : (vs : Values) (n : ℕ) → ElementsKeepLimits vs → FitBelow (Some Array) (numbered_values vs n)
  fit-numbered_values no_values n keeps = tt
  fit-numbered_values (value_then v vs) n keeps =
      fit-numbered v n (Some Array) (numbered_values vs (n + nodes v)) array_takes keeps.0 (fit-numbered_values vs (n + nodes v) keeps.1)

  fit-numbered_fields : (fs : Fields) (n : ℕ) → MembersKeepLimits fs → FitBelow (Some Object) (numbered_fields fs n)
  fit-numbered_fields no_fields n keeps = tt
  fit-numbered_fields (field_then name v fs) n keeps = (
    refl,
    keeps.0,
    ap (λ (ns : List Node). length ns) (tops-numbered v (suc n) no_trees),
    fit-numbered v (suc n) (Some Key) no_trees key_takes keeps.1 tt,
    fit-numbered_fields fs (suc n + nodes v) keeps.2,
  )
