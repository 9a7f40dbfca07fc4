-- Rows that a test finds equal are equal.
use Rattle.std.proofs.Common.{◌≡◌, ◌∙◌, ℕ, zero, suc, Bool, true, false, Option, Some, None, refl, ap, sym}
use Rattle.std.specs.Prelude.{◌&&◌, ◌==◌, bytes_eq}
use Rattle.std.proofs.lemmas.Bool.Decides.{Decides-eqb}
use Rattle.std.proofs.lemmas.Slice.Eq.{bytes_eq-Decides}
use Rattle.sx_tree.specs.Record.{kind_byte}
use Rattle.sx_tree.specs.declared.record.Kind.{Kind}
use Rattle.sx_tree.specs.declared.record.Kind.TheVariants.{Document, Object, Array, Key, Str, Number, Bool as Truth, Null}
use Rattle.sx_tree.specs.declared.record.Step.{Step}
use Rattle.sx_tree.specs.declared.record.Step.TheVariants.{Top, Item, Name}
use Rattle.sx_model.specs.Paths.{same_step}
use Rattle.sx_shows.specs.Rows.{same_kin, same_link, same_node, same_numbers, same_path_row}
use Rattle.sx_shows.proofs.Windows.{Tells}

both : (a b : Bool) → (a && b) ≡ true → (a ≡ true) × (b ≡ true)
both true b is = (refl, is)
both false b is = cc is

equal : (a b : ℕ) → (a == b) ≡ true → a ≡ b
equal a b is = (Decides-eqb a b).0 is

kind_back : ℕ → Option Kind
kind_back zero = Some Document
kind_back (suc zero) = Some Object
kind_back (suc (suc zero)) = Some Array
kind_back (suc (suc (suc zero))) = Some Key
kind_back (suc (suc (suc (suc zero)))) = Some Str
kind_back (suc (suc (suc (suc (suc zero))))) = Some Number
kind_back (suc (suc (suc (suc (suc (suc zero)))))) = Some Truth
kind_back (suc (suc (suc (suc (suc (suc (suc n))))))) = Some Null

kind_back_of : (k : Kind) → kind_back (kind_byte k) ≡ Some k
unfolding kind_back
kind_back_of Document = refl
kind_back_of Object = refl
kind_back_of Array = refl
kind_back_of Key = refl
kind_back_of Str = refl
kind_back_of Number = refl
kind_back_of Truth = refl
kind_back_of Null = refl

some_is : {X : Type 0} (a b : X) → Some a ≡ Some b → a ≡ b
some_is a b e = cc

kind_is : (a b : Kind) → kind_byte a ≡ kind_byte b → a ≡ b
kind_is a b is = some_is a b (sym (kind_back_of a) ∙ ap kind_back is ∙ kind_back_of b)

link_is : (a b : Option ℕ) → same_link a b ≡ true → a ≡ b
link_is None None is = refl
link_is None (Some m) is = cc is
link_is (Some k) None is = cc is
link_is (Some k) (Some m) is = ap Some (equal k m is)

step_is : (a b : Step) → same_step a b ≡ true → a ≡ b
step_is Top Top is = refl
step_is Top Item is = cc is
step_is Top (Name n) is = cc is
step_is Item Top is = cc is
step_is Item Item is = refl
step_is Item (Name n) is = cc is
step_is (Name m) Top is = cc is
step_is (Name m) Item is = cc is
step_is (Name m) (Name n) is = ap Name ((bytes_eq-Decides m n).0 is)

pub node-tells : Tells same_node
node-tells a b is =
    let all = both ((kind_byte a.kind == kind_byte b.kind && bytes_eq a.label b.label) && same_kin a b) (same_numbers a b) is in
    let most = both (kind_byte a.kind == kind_byte b.kind && bytes_eq a.label b.label) (same_kin a b) all.0 in
    let head = both (kind_byte a.kind == kind_byte b.kind) (bytes_eq a.label b.label) most.0 in
    let kind = kind_is a.kind b.kind (equal (kind_byte a.kind) (kind_byte b.kind) head.0) in
    let label = (bytes_eq-Decides a.label b.label).0 head.1 in
    let four = both (same_link a.parent b.parent && same_link a.left b.left && same_link a.right b.right && same_link a.first b.first) (same_link a.last b.last) most.1 in
    let three = both (same_link a.parent b.parent && same_link a.left b.left && same_link a.right b.right) (same_link a.first b.first) four.0 in
    let two = both (same_link a.parent b.parent && same_link a.left b.left) (same_link a.right b.right) three.0 in
    let one = both (same_link a.parent b.parent) (same_link a.left b.left) two.0 in
    let parent = link_is a.parent b.parent one.0 in
    let left = link_is a.left b.left one.1 in
    let right = link_is a.right b.right two.1 in
    let first = link_is a.first b.first three.1 in
    let last = link_is a.last b.last four.1 in
    let last_three = both (a.children == b.children && a.descendants == b.descendants && a.hash == b.hash) (a.path == b.path) all.1 in
    let last_two = both (a.children == b.children && a.descendants == b.descendants) (a.hash == b.hash) last_three.0 in
    let last_one = both (a.children == b.children) (a.descendants == b.descendants) last_two.0 in
    let children = equal a.children b.children last_one.0 in
    let descendants = equal a.descendants b.descendants last_one.1 in
    let hash = equal a.hash b.hash last_two.1 in
    let path = equal a.path b.path last_three.1 in
    λ i. record {
      kind = kind i;
      label = label i;
      parent = parent i;
      left = left i;
      right = right i;
      first = first i;
      last = last i;
      children = children i;
      descendants = descendants i;
      hash = hash i;
      path = path i;
    }

pub path_row-tells : Tells same_path_row
path_row-tells a b is =
    let all = both (a.parent == b.parent && same_step a.step b.step) (a.count == b.count) is in
    let most = both (a.parent == b.parent) (same_step a.step b.step) all.0 in
    let parent = equal a.parent b.parent most.0 in
    let step = step_is a.step b.step most.1 in
    let count = equal a.count b.count all.1 in
    λ i. record { parent = parent i; step = step i; count = count i }
