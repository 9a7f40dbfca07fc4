-- What is left behind a string.
use Rattle.std.proofs.Common.{◌≡◌, ◌∙◌, ℕ, List, [], ◌∷◌, ◌++◌, drop, length, length-append, refl, sym, ap, subst, arith}
use Rattle.std.proofs.Math.Seq.{drop-append_seam}
use Rattle.sx_model.specs.Front.{IsStringFront}
use Rattle.sx_model.specs.PathText.{QuotedAt}
use Rattle.sx_model.specs.Strings.{StringAt, closing, plain, short, unicode, pair}

-- what is left behind a string ends the bytes
string_ends : (bytes content left : List ℕ) → StringAt bytes content left → (front : List ℕ) × (bytes ≡ front ++ left)
string_ends bytes content left (closing l) = (34 ∷ [], refl)
string_ends bytes content left (plain byte rest c l p s) = let more = string_ends rest c l s in (byte ∷ more.0, ap (λ (t : List ℕ). byte ∷ t) more.1)
string_ends bytes content left (short letter byte rest c l p s) =
    let more = string_ends rest c l s in (92 ∷ letter ∷ more.0, ap (λ (t : List ℕ). 92 ∷ letter ∷ t) more.1)
string_ends bytes content left (unicode rest unit after c l u p s) =
    let more = string_ends after c l s in (
      92 ∷ 117 ∷ u.a ∷ u.b ∷ u.c ∷ u.d ∷ more.0,
      ap (λ (t : List ℕ). 92 ∷ 117 ∷ t) u.bytes_are ∙ ap (λ (t : List ℕ). 92 ∷ 117 ∷ u.a ∷ u.b ∷ u.c ∷ u.d ∷ t) more.1,
    )
string_ends bytes content left (pair rest high middle low after c l u p v q s) =
    let more = string_ends after c l s in (
      92 ∷ 117 ∷ u.a ∷ u.b ∷ u.c ∷ u.d ∷ 92 ∷ 117 ∷ v.a ∷ v.b ∷ v.c ∷ v.d ∷ more.0,
      ap (λ (t : List ℕ). 92 ∷ 117 ∷ t) u.bytes_are ∙ ap (λ (t : List ℕ). 92 ∷ 117 ∷ u.a ∷ u.b ∷ u.c ∷ u.d ∷ 92 ∷ 117 ∷ t) v.bytes_are
          ∙ ap (λ (t : List ℕ). 92 ∷ 117 ∷ u.a ∷ u.b ∷ u.c ∷ u.d ∷ 92 ∷ 117 ∷ v.a ∷ v.b ∷ v.c ∷ v.d ∷ t) more.1,
    )

-- the string that was read of a text, with what is behind it
pub quoted_front : (text content : List ℕ) (used : ℕ) → IsStringFront text content used → QuotedAt text content (drop used text)
quoted_front text content used front =
    let ends = string_ends front.0 content front.1 front.3.0 in
    let whole : text ≡ (34 ∷ ends.0) ++ front.1 = front.2 ∙ ap (λ (t : List ℕ). 34 ∷ t) ends.1 in
    let long = ap (λ (t : List ℕ). length t) whole in
    let count : used ≡ length (34 ∷ ends.0) = omega (arith, long, length-append (34 ∷ ends.0) front.1, front.4) in
    let left : drop used text ≡ front.1
    = ap (λ (n : ℕ). drop n text) count ∙ ap (λ (t : List ℕ). drop (length (34 ∷ ends.0)) t) whole ∙ drop-append_seam (34 ∷ ends.0) front.1 in
    subst (λ (l : List ℕ). QuotedAt text content l) (sym left) (front.0, front.2, front.3)
