-- A head that was written is read again.
use Rattle.std.proofs.Common.{◌≡◌, ◌∙◌, ℕ, ℤ, ◌^◌, ◌<◌, List, ◌++◌, length, Option, None, Some, refl, ap, sym, arith, lit<, FitsSigned}
use Rattle.std.specs.Int.{to_be_bytes, cast_unsigned, cast_signed, w32, w64}
use Rattle.std.proofs.Math.Facts.{Fits-of_z}
use Rattle.std.proofs.lemmas.Int.{to_z-of_z}
use Rattle.sx_bytes.specs.Front.{Gives}
use Rattle.sx_bytes.proofs.Fronts.{some_is, front_number_again, front_piece_again}
use Rattle.sx_root.specs.Root.{IsRoot, front_root, mark, root_bytes}
use Rattle.sx_root.specs.declared.root.RevisionRoot.{RevisionRoot}

abbrev some : RevisionRoot × List ℕ → Option (RevisionRoot × List ℕ)
some x = Some x

time_below : (time : ℤ) → FitsSigned w64 time → cast_unsigned w64 time < 2 ^ 64
time_below time fits = let below = Fits-of_z fits in omega (arith, below)

with_time : (root : RevisionRoot) (rest : List ℕ) (time : ℤ) → time ≡ root.time → some (record root { time = time }, rest) ≡ some (root, rest)
with_time root rest time is = ap (λ (t : ℤ). some (record root { time = t }, rest)) is

pub front_root-again : (root : RevisionRoot) (rest : List ℕ) → IsRoot root → front_root (root_bytes root ++ rest) ≡ Some (root, rest)
unfolding front_root root_bytes
front_root-again root rest is =
    let b10 = rest in
    let b9 = to_be_bytes w32 root.body ++ b10 in
    let b8 = to_be_bytes w32 root.paths ++ b9 in
    let b7 = to_be_bytes w32 root.nodes ++ b8 in
    let b6 = to_be_bytes w32 root.next ++ b7 in
    let b5 = to_be_bytes w32 root.path_root ++ b6 in
    let b4 = to_be_bytes w32 root.node_root ++ b5 in
    let b3 = to_be_bytes w32 root.frames ++ b4 in
    let b2 = to_be_bytes w32 root.first_frame ++ b3 in
    let b1 = to_be_bytes w64 (cast_unsigned w64 root.time) ++ b2 in
    let b0 = to_be_bytes w32 root.revision ++ b1 in
    let regrouped : root_bytes root ++ rest ≡ mark ++ b0 = refl in
    ap front_root regrouped
    ∙ rw (
      front_piece_again mark b0,
      front_number_again w32 root.revision b1 (lit< tt) is.revision,
      front_number_again w64 (cast_unsigned w64 root.time) b2 (lit< tt) (time_below root.time is.time),
      front_number_again w32 root.first_frame b3 (lit< tt) is.first_frame,
      front_number_again w32 root.frames b4 (lit< tt) is.frames,
      front_number_again w32 root.node_root b5 (lit< tt) is.node_root,
      front_number_again w32 root.path_root b6 (lit< tt) is.path_root,
      front_number_again w32 root.next b7 (lit< tt) is.next,
      front_number_again w32 root.nodes b8 (lit< tt) is.nodes,
      front_number_again w32 root.paths b9 (lit< tt) is.paths,
      front_number_again w32 root.body b10 (lit< tt) is.body,
    )
    (with_time root rest (cast_signed w64 (cast_unsigned w64 root.time)) (to_z-of_z w64 root.time is.time))

pub length-root_bytes : (root : RevisionRoot) → length (root_bytes root) ≡ 48
unfolding root_bytes
length-root_bytes root = refl

-- no two heads have one spelling, and no spelling begins another's
pub root-one_spelling : (a b : RevisionRoot) (x y : List ℕ) → IsRoot a → IsRoot b → root_bytes a ++ x ≡ root_bytes b ++ y → (a ≡ b) × (x ≡ y)
root-one_spelling a b x y a_is b_is same =
    let read : some (a, x) ≡ some (b, y) = sym (front_root-again a x a_is) ∙ ap front_root same ∙ front_root-again b y b_is in
    let both = some_is (a, x) (b, y) read in
    (ap (λ (p : RevisionRoot × List ℕ). p.0) both, ap (λ (p : RevisionRoot × List ℕ). p.1) both)

-- a reader gives the head that was written
pub read_again : (bytes left : List ℕ) (result : Option RevisionRoot) (root : RevisionRoot) (rest : List ℕ) → Gives result left (front_root bytes) → IsRoot root → bytes ≡ root_bytes root ++ rest
    → (result ≡ Some root) × (left ≡ rest)
read_again bytes left None root rest gives is same =
    let read : front_root bytes ≡ some (root, rest) = ap front_root same ∙ front_root-again root rest is in cc
read_again bytes left (Some given) root rest gives is same =
    let read : some (given, left) ≡ some (root, rest) = sym gives ∙ ap front_root same ∙ front_root-again root rest is in
    let both = some_is (given, left) (root, rest) read in
    (ap (λ (p : RevisionRoot × List ℕ). Some p.0) both, ap (λ (p : RevisionRoot × List ℕ). p.1) both)
