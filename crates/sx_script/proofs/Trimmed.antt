-- Carriage returns.
use Rattle.std.proofs.Common.{◌≡◌, ◌≢◌, ◌∙◌, ℕ, suc, ◌+◌, inl, inr, List, [], ◌∷◌, length, take, get_or, Bool, false, cond, nat_eq, refl, ap, sym, subst, arith}
use Rattle.std.proofs.lemmas.Bool.Decides.{eqb_tells}
use Rattle.sx_run.specs.Line.{without_return}

-- a carriage return at the last place is dropped
pub without_return-at : (line : List ℕ) (n : ℕ) → length line ≡ n + 1 → get_or line n 0 ≡ 13 → take n line ≡ without_return line
without_return-at [] n long last = absurd (omega arith)
without_return-at (byte ∷ []) n long last =
    let first : n ≡ 0 = omega arith in
    let at : byte ≡ 13 = subst (λ k. get_or (byte ∷ []) k 0 ≡ 13) first last in
    ap (λ k. take k (byte ∷ [])) first ∙ ap (λ b. cond (nat_eq b 13) [] (b ∷ [])) (sym at) ∙ refl
without_return-at (byte ∷ next ∷ bytes) n long last =
    let more : n ≡ suc (length bytes) = omega arith in
    let at : get_or (next ∷ bytes) (length bytes) 0 ≡ 13 = subst (λ k. get_or (byte ∷ next ∷ bytes) k 0 ≡ 13) more last in
    ap (λ k. take k (byte ∷ next ∷ bytes)) more
    ∙ ap (λ (rest : List ℕ). byte ∷ rest) (without_return-at (next ∷ bytes) (length bytes) (omega arith) at)

-- another byte there stays
pub without_return-other : (line : List ℕ) (n : ℕ) → length line ≡ n + 1 → get_or line n 0 ≢ 13 → line ≡ without_return line
without_return-other [] n long last = absurd (omega arith)
without_return-other (byte ∷ []) n long last =
    let first : n ≡ 0 = omega arith in
    let other : byte ≢ 13 = λ same. last (ap (λ k. get_or (byte ∷ []) k 0) first ∙ same) in
    let test : nat_eq byte 13 ≡ false = elim (eqb_tells byte 13) [ inl same ↦ absurd (other same.1) | inr differ ↦ differ.0 ] in
    sym (ap (λ (t : Bool). cond t [] (byte ∷ [])) test)
without_return-other (byte ∷ next ∷ bytes) n long last =
    let more : n ≡ suc (length bytes) = omega arith in
    let other : get_or (next ∷ bytes) (length bytes) 0 ≢ 13 = λ same. last (ap (λ k. get_or (byte ∷ next ∷ bytes) k 0) more ∙ same) in
    ap (λ (rest : List ℕ). byte ∷ rest) (without_return-other (next ∷ bytes) (length bytes) (omega arith) other)
