-- The text of the tree that a value becomes.
use Rattle.std.proofs.Common.{◌≡◌, ◌+◌, ℕ, suc, Bool, true, false, List, [], ◌∷◌, ◌++◌, refl, ap, sym, ◌∙◌, append_assoc, append-nil}
use Rattle.sx_tree.specs.declared.json.Scalar.{Scalar}
use Rattle.sx_tree.specs.declared.json.Scalar.TheVariants as scalars
use Rattle.sx_tree.specs.Value.{Value, Values, Fields, scalar, array, object, no_values, value_then, no_fields, field_then, nodes}
use Rattle.sx_model.specs.Canonical.{text, scalar_text, string_text, elements_text, more_elements_text, members_text, more_members_text}
use Rattle.sx_model.specs.Numbered.{scalar_node, numbered, numbered_values, numbered_fields}
use Rattle.sx_model.specs.Tree.{Forest, no_trees}
use Rattle.sx_model.specs.TreeText.{texts, opening, closing, comma}

texts-scalar : (s : Scalar) (n : ℕ) → opening (scalar_node n s).kind (scalar_node n s).label ++ closing (scalar_node n s).kind ≡ scalar_text s
texts-scalar (scalars.Str content) n = append-nil (string_text content)
texts-scalar (scalars.Number literal) n = append-nil literal
texts-scalar (scalars.Bool true) n = refl
texts-scalar (scalars.Bool false) n = refl
texts-scalar scalars.Null n = refl

-- a name, a colon and a value before others
member_text : (name : List ℕ) (v : Value) (fs : Fields) (n : ℕ) → texts false (numbered v (suc n) no_trees) ≡ text v ++ [] → texts true (numbered_fields fs (suc n + nodes v)) ≡ more_members_text fs
    → texts false (numbered_fields (field_then name v fs) n) ≡ members_text (field_then name v fs)
member_text name v fs n value more =
    append_assoc (string_text name) (58 ∷ []) (texts false (numbered v (suc n) no_trees) ++ texts true (numbered_fields fs (suc n + nodes v)))
    ∙ ap (λ (t : List ℕ). string_text name ++ 58 ∷ (t ++ texts true (numbered_fields fs (suc n + nodes v)))) (value ∙ append-nil (text v))
    ∙ ap (λ (t : List ℕ). string_text name ++ 58 ∷ (text v ++ t)) more

mutual
  pub texts-numbered : (v : Value) (n : ℕ) (begun : Bool) (rest : Forest) → texts begun (numbered v n rest) ≡ comma begun ++ (text v ++ texts true rest)
  texts-numbered (scalar s) n begun rest =
      ap (λ (t : List ℕ). comma begun ++ t) (
      sym (append_assoc (opening (scalar_node n s).kind (scalar_node n s).label) (closing (scalar_node n s).kind) (texts true rest))
      ∙ ap (λ (t : List ℕ). t ++ texts true rest) (texts-scalar s n)
      )
  texts-numbered (array vs) n begun rest =
      ap (λ (t : List ℕ). comma begun ++ t) (ap (λ (t : List ℕ). 91 ∷ (t ++ 93 ∷ texts true rest)) (texts-elements vs (suc n)) ∙ sym (simp append_assoc))
  texts-numbered (object fs) n begun rest =
      ap (λ (t : List ℕ). comma begun ++ t) (ap (λ (t : List ℕ). 123 ∷ (t ++ 125 ∷ texts true rest)) (texts-members fs (suc n)) ∙ sym (simp append_assoc))

  texts-elements : (vs : Values) (n : ℕ) → texts false (numbered_values vs n) ≡ elements_text vs
  texts-elements no_values n = refl
  texts-elements (value_then v vs) n = texts-numbered v n false (numbered_values vs (n + nodes v)) ∙ ap (λ (t : List ℕ). text v ++ t) (texts-more vs (n + nodes v))

  texts-more : (vs : Values) (n : ℕ) → texts true (numbered_values vs n) ≡ more_elements_text vs
  texts-more no_values n = refl
  texts-more (value_then v vs) n = texts-numbered v n true (numbered_values vs (n + nodes v)) ∙ ap (λ (t : List ℕ). 44 ∷ (text v ++ t)) (texts-more vs (n + nodes v))

  texts-members : (fs : Fields) (n : ℕ) → texts false (numbered_fields fs n) ≡ members_text fs
  texts-members no_fields n = refl
  texts-members (field_then name v fs) n = member_text name v fs n (texts-numbered v (suc n) false no_trees) (texts-more_members fs (suc n + nodes v))

  texts-more_members : (fs : Fields) (n : ℕ) → texts true (numbered_fields fs n) ≡ more_members_text fs
  texts-more_members no_fields n = refl
  texts-more_members (field_then name v fs) n = ap (λ (t : List ℕ). 44 ∷ t) (member_text name v fs n (texts-numbered v (suc n) false no_trees) (texts-more_members fs (suc n + nodes v)))

-- The text of a value's tree is the value's.
pub text-numbered : (v : Value) (n : ℕ) → texts false (numbered v n no_trees) ≡ text v
text-numbered v n = texts-numbered v n false no_trees ∙ append-nil (text v)
