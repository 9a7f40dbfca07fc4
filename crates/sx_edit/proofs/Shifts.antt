-- What a change of the trees in the hole does to the frames around_hole it.
use Rattle.std.proofs.Common.{◌≡◌, ℕ, ◌+◌, ◌-◌, ◌*◌, List, refl, sym, ap, ◌∙◌, arith}
use Rattle.std.specs.Prelude.{◌%◌, ◌^◌}
use Rattle.std.proofs.Math.Nat.{add-mod-mod, mod-add-mod}
use Rattle.std.proofs.lemmas.Nat.{mul-mod_second}
use Rattle.sx_tree.specs.declared.record.Kind.{Kind}
use Rattle.sx_tree.specs.declared.record.Step.{Step}
use Rattle.sx_model.specs.Holes.{Shown, Frame, shown_by, frame_row}
use Rattle.sx_edit.specs.Holes.{IsShift, IsAlike, shifted}

times : (M c a b r : ℕ) → a % M ≡ b % M → (c * a + r) % M ≡ (c * b + r) % M
times M c a b r is =
    sym (mod-add-mod (c * a) M r) ∙ ap (λ z. (z + r) % M) (sym (mul-mod_second c a M) ∙ ap (λ z. (c * z) % M) is ∙ mul-mod_second c b M)
    ∙ mod-add-mod (c * b) M r

-- a sum of hashes that grew by d makes a hash above it that grew by 257 d
node_hash : (M l s t d e : ℕ) → t % M ≡ (s + d) % M → e ≡ 257 * d % M → (l + 257 * t) % M ≡ ((l + 257 * s) % M + e) % M
node_hash M l s t d e is more =
    let before : l + 257 * t ≡ 257 * t + l = omega arith in
    let after : 257 * (s + d) + l ≡ l + 257 * s + 257 * d = omega arith in
    ap (λ z. z % M) before ∙ times M 257 t (s + d) l is ∙ ap (λ z. z % M) after
    ∙ sym (mod-add-mod (l + 257 * s) M (257 * d)) ∙ sym (add-mod-mod ((l + 257 * s) % M) (257 * d) M) ∙ ap (λ z. ((l + 257 * s) % M + z) % M) (sym more)

-- a hash that grew by e among others
pub hash_among : (M x y h k e : ℕ) → k ≡ (h + e) % M → (x + (k + y)) % M ≡ (x + (h + y) + e) % M
hash_among M x y h k e is =
    let before : x + (k + y) ≡ (h + e) % M + (x + y) = omega arith in
    let after : h + e + (x + y) ≡ x + (h + y) + e = omega arith in
    ap (λ z. z % M) before ∙ mod-add-mod (h + e) M (x + y) ∙ ap (λ z. z % M) after

module _ (local : Kind → List ℕ → ℕ) (number : List Step → ℕ) where
  pub shift-frame : (plus minus d e : ℕ) (frame : Frame) (a b : Shown) → IsShift plus minus d a b → e ≡ 257 * d % 2 ^ 128
      → IsShift plus minus e (shown_by local frame a) (shown_by local frame b)
  shift-frame plus minus d e frame a b is more = record {
    nodes = omega (arith, is.nodes);
    hashes = hash_among (2 ^ 128) _ _ _ _ e (node_hash (2 ^ 128) (local frame.node.kind frame.node.label) a.hashes b.hashes d e is.hashes more);
  }

  pub alike-frame : (frame : Frame) (a b : Shown) → IsAlike (shown_by local frame a) (shown_by local frame b)
  alike-frame frame a b = record { first = refl; last = refl; trees = refl }

  pub row-shift : (plus minus d e : ℕ) (frames : List Frame) (frame : Frame) (a b : Shown) → IsShift plus minus d a b → IsAlike a b → e ≡ 257 * d % 2 ^ 128
      → shifted plus minus e (frame_row local number frames frame a) ≡ frame_row local number frames frame b
  row-shift plus minus d e frames frame a b is alike more =
      let nodes : a.nodes + plus - minus ≡ b.nodes = omega (arith, is.nodes) in
      let hash = sym (node_hash (2 ^ 128) (local frame.node.kind frame.node.label) a.hashes b.hashes d e is.hashes more) in
      let first = sym alike.first in
      let last = sym alike.last in
      let trees = sym alike.trees in
      cc
