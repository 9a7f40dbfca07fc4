-- Fronts of bytes up to one of them.
use Rattle.std.proofs.Common.{◌≡◌, ◌≢◌, ◌∙◌, ℕ, zero, suc, ◌<◌, Bool, false, cond, nat_eq, inl, inr, List, [], ◌∷◌, ◌++◌, length, take, get_or, refl, ap, sym, arith}
use Rattle.std.proofs.lemmas.Bool.{eq-eqb}
use Rattle.std.proofs.lemmas.Bool.Decides.{eqb_tells}
use Rattle.sx_script.specs.Words.{front_of}

no_test : (byte end : ℕ) → byte ≢ end → nat_eq byte end ≡ false
no_test byte end other = elim (eqb_tells byte end) [ inl same ↦ absurd (other same.1) | inr differ ↦ differ.0 ]

-- the front goes on with a byte that does not end it
front_on : (end byte : ℕ) (bytes : List ℕ) → byte ≢ end → front_of end (byte ∷ bytes) ≡ byte ∷ front_of end bytes
front_on end byte bytes other = ap (λ (test : Bool). cond test [] (byte ∷ front_of end bytes)) (no_test byte end other)

-- one that ends it is not in the front
front_ends : (end byte : ℕ) (bytes : List ℕ) → byte ≡ end → front_of end (byte ∷ bytes) ≡ []
front_ends end byte bytes same = ap (λ (test : Bool). cond test [] (byte ∷ front_of end bytes)) (eq-eqb byte end same)

-- the front up to the first such byte
pub front_at : (end : ℕ) (bytes : List ℕ) (n : ℕ) → n < length bytes → ((k : ℕ) → k < n → get_or bytes k 0 ≢ end) → get_or bytes n 0 ≡ end → take n bytes ≡ front_of end bytes
front_at end [] n within none at = absurd (omega (arith, within))
front_at end (byte ∷ bytes) zero within none at = sym (front_ends end byte bytes at)
front_at end (byte ∷ bytes) (suc n) within none at =
    ap (λ (rest : List ℕ). byte ∷ rest) (front_at end bytes n (omega (arith, within)) (λ k below. none (suc k) (omega (arith, below))) at)
    ∙ sym (front_on end byte bytes (none 0 (omega arith)))

-- all of them, where there is no such byte
pub front_all : (end : ℕ) (bytes : List ℕ) → ((k : ℕ) → k < length bytes → get_or bytes k 0 ≢ end) → bytes ≡ front_of end bytes
front_all end [] none = refl
front_all end (byte ∷ bytes) none =
    ap (λ (rest : List ℕ). byte ∷ rest) (front_all end bytes (λ k below. none (suc k) (omega (arith, below))))
    ∙ sym (front_on end byte bytes (none 0 (omega arith)))

-- the byte is not among these
abbrev pub Lacks : ℕ → List ℕ → Type 0
Lacks end [] = Unit {0}
Lacks end (byte ∷ bytes) = (byte ≢ end) × Lacks end bytes

pub Lacks-append : (end : ℕ) (a b : List ℕ) → Lacks end a → Lacks end b → Lacks end (a ++ b)
Lacks-append end [] b none also = also
Lacks-append end (byte ∷ a) b none also = (none.0, Lacks-append end a b none.1 also)

-- the front of a word and its end
pub front_of-append : (end : ℕ) (word rest : List ℕ) → Lacks end word → front_of end (word ++ end ∷ rest) ≡ word
front_of-append end [] rest none = front_ends end end rest refl
front_of-append end (byte ∷ word) rest none =
    front_on end byte (word ++ end ∷ rest) none.0 ∙ ap (λ (front : List ℕ). byte ∷ front) (front_of-append end word rest none.1)
