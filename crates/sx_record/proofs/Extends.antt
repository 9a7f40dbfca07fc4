-- Fields one behind another, as they are appended and as they are read.
use Rattle.std.proofs.Common.{◌≡◌, ℕ, ◌≤◌, List, ◌++◌, length, take, sym, ap, ◌∙◌, append_assoc, arith}
use Rattle.std.proofs.lemmas.List.{take-take, length-append}
use Rattle.std.proofs.Math.Seq.{take-append_seam}

-- what was appended in two steps
pub put_then : (old a middle b new : List ℕ) → middle ≡ old ++ a → new ≡ middle ++ b → new ≡ old ++ (a ++ b)
put_then old a middle b new first second = second ∙ ap (λ (t : List ℕ). t ++ b) first ∙ append_assoc old a b

-- what was read in two steps
pub read_then : (bytes a middle b rest : List ℕ) → bytes ≡ a ++ middle → middle ≡ b ++ rest → bytes ≡ (a ++ b) ++ rest
read_then bytes a middle b rest first second = first ∙ ap (λ (t : List ℕ). a ++ t) second ∙ sym (append_assoc a b rest)

-- what was appended leaves the front as it was
pub front_append : (old more new : List ℕ) → new ≡ old ++ more → take (length old) new ≡ old
front_append old more new is = rw is (take-append_seam old more)

-- and so does what may have been appended behind that
pub front_then : (old more middle new : List ℕ) → middle ≡ old ++ more → take (length middle) new ≡ middle → take (length old) new ≡ old
front_then old more middle new first second =
    let shorter : length old ≤ length middle = omega (arith, length-append old more, ap length first) in
    sym (take-take (length old) (length middle) new shorter) ∙ ap (take (length old)) second ∙ front_append old more middle first
