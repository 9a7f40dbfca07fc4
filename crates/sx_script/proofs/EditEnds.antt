-- What the rest of an edit's text makes of it.
use Rattle.std.proofs.Common.{◌≡◌, ◌∙◌, Bool, false, inl, inr, ℕ, ◌==◌, List, [], ◌∷◌, length, Result, IfOk, ap, sym, subst, refl}
use Rattle.std.proofs.lemmas.Bool.{false≢true}
use Rattle.sx_model.specs.Faults.{Faults}
use Rattle.sx_model.specs.Grammar.{Spells}
use Rattle.sx_model.specs.PathText.{QuotedAt}
use Rattle.sx_model.specs.StringFaults.{FrontFault}
use Rattle.sx_model.proofs.OneString.{string_same}
use Rattle.sx_model.specs.Strings.{StringAt}
use Rattle.sx_script.specs.Edits.{EndsAs, set_text}
use Rattle.sx_script.specs.declared.edits.EditText.{EditText}
use Rattle.sx_script.specs.declared.edits.EditText.TheVariants as texts
use Rattle.sx_script.specs.declared.heads.Head.{Head}
use Rattle.sx_script.specs.declared.heads.Head.TheVariants as heads
use Rattle.sx_tree.specs.declared.edit.Place.{Place}
use Rattle.sx_tree.specs.declared.json.Scalar.{Scalar}
use Rattle.sx_tree.specs.declared.json_fault.JsonFault.{JsonFault}
use Rattle.sx_tree.specs.Value.{Value, Values, Fields, scalar, array, object}

-- ---- a value that is set

no_array : (vs : Values) (s : Scalar) → array vs ≡ scalar s → ⊥
no_array vs s is = absurd (cc is)

no_object : (fs : Fields) (s : Scalar) → object fs ≡ scalar s → ⊥
no_object fs s is = absurd (cc is)

pub set_ends : (k : ℕ) (rest : List ℕ) (v : Value) → Spells rest v → ((w : Value) → Spells rest w → v ≡ w) → ((f : JsonFault) → Faults rest f → ⊥)
    → EndsAs (heads.Set k) rest (set_text k v)
set_ends k rest (scalar s) spells only never = (s, refl, spells)
set_ends k rest (array vs) spells only never = (λ e ends. no_array vs ends.0 (only (scalar ends.0) ends.2), never)
set_ends k rest (object fs) spells only never = (λ e ends. no_object fs ends.0 (only (scalar ends.0) ends.2), never)

-- ---- a name

left_one : (bytes a b x y : List ℕ) → QuotedAt bytes a x → QuotedAt bytes b y → x ≡ y
left_one bytes a b x y one other =
    let inside : one.0 ≡ other.0 = cc (sym one.1 ∙ other.1) in
    (string_same one.0 a b x y one.2.0 (subst (λ (l : List ℕ). StringAt l b y) (sym inside) other.2.0)).1

-- a name that does not end the text
pub rename_other : (k : ℕ) (rest name left : List ℕ) (empty : Bool) → QuotedAt rest name left → ((f : JsonFault) → FrontFault rest f → ⊥) → empty ≡ (length left == 0)
    → empty ≡ false → EndsAs (heads.Rename k) rest texts.Other
rename_other k rest name left empty quoted never is some =
    (λ e ends. false≢true (sym some ∙ is ∙ ap (λ (l : List ℕ). length l == 0) (left_one rest name ends.0 left [] quoted ends.2)), never)

-- a name without a space behind it
pub field_other : (place : Place) (rest name left : List ℕ) → QuotedAt rest name left → ((f : JsonFault) → FrontFault rest f → ⊥) → ((json : List ℕ) → left ≡ 32 ∷ json → ⊥)
    → EndsAs (heads.Field place) rest texts.Other
field_other place rest name left quoted never none = (
  λ e ends. none ends.3.0 (left_one rest name ends.0 left (32 ∷ ends.3.0) quoted ends.3.1),
  λ f fault. elim fault [ inl wrong ↦ never f wrong | inr value ↦ none value.1 (left_one rest name value.0 left (32 ∷ value.1) quoted value.2) ],
)

pub quoted_then : (rest name left json : List ℕ) → QuotedAt rest name left → left ≡ 32 ∷ json → QuotedAt rest name (32 ∷ json)
quoted_then rest name left json quoted is = subst (λ (l : List ℕ). QuotedAt rest name l) is quoted

-- ---- a call that reads the rest

pub ends_as : {E : Type 0} (r : Result EditText E) (head known : Head) (rest : List ℕ) → head ≡ known → IfOk r (EndsAs known rest) → IfOk r (EndsAs head rest)
ends_as r head known rest is ends = subst (λ (h : Head). IfOk r (EndsAs h rest)) (sym is) ends
