-- Bytes that grow by one piece after another.
use Rattle.std.proofs.Common.{◌≡◌, ◌∙◌, ℕ, List, ◌++◌, length, take, drop, ap, sym, append_assoc}
use Rattle.std.proofs.Math.Seq.{take-append_seam}
use Rattle.std.proofs.lemmas.List.{take-append-drop}

-- What begins the bytes in the middle begins those at the end.
pub begins_on : (old more mid new : List ℕ) → mid ≡ old ++ more → take (length mid) new ≡ mid → take (length old) new ≡ old
begins_on old more mid new middle begins =
    let rest : List ℕ = drop (length mid) new in
    let whole : new ≡ old ++ (more ++ rest) =
    sym (take-append-drop (length mid) new) ∙ ap (λ (front : List ℕ). front ++ rest) (begins ∙ middle) ∙ append_assoc old more rest in
    ap (λ (bytes : List ℕ). take (length old) bytes) whole ∙ take-append_seam old (more ++ rest)

-- two pieces
pub grown_twice : (old more mid last new : List ℕ) → mid ≡ old ++ more → new ≡ mid ++ last → new ≡ old ++ (more ++ last)
grown_twice old more mid last new middle is = is ∙ ap (λ (front : List ℕ). front ++ last) middle ∙ append_assoc old more last
