-- White space and words, byte by byte.
use Rattle.std.proofs.Common.{◌≡◌, ℕ, ◌+◌, ◌<◌, List, [], ◌∷◌, ◌++◌, refl, ap, sym, ◌∙◌, length, take, drop, get_or, append_assoc}
use Rattle.std.proofs.lemmas.List.{take-append-drop, take_more}
use Rattle.sx_model.specs.Grammar.{AreBlanks, BeginsOther, IsBlank, Skips}
use Rattle.sx_model.proofs.StringShapes.{same_tail}

AreBlanks-push : (blanks : List ℕ) (b : ℕ) → AreBlanks blanks → IsBlank b → AreBlanks (blanks ++ b ∷ [])
AreBlanks-push [] b all one = (one, tt)
AreBlanks-push (c ∷ cs) b all one = (all.0, AreBlanks-push cs b all.1 one)

pub skips_none : (bytes : List ℕ) → Skips bytes bytes
skips_none bytes = ([], tt, refl)

pub skips_more : (bytes rest after : List ℕ) (b : ℕ) → Skips bytes rest → rest ≡ b ∷ after → IsBlank b → Skips bytes after
skips_more bytes rest after b s is one = (s.0 ++ b ∷ [], AreBlanks-push s.0 b s.1 one, s.2 ∙ ap (λ l. s.0 ++ l) is ∙ sym (append_assoc s.0 (b ∷ []) after))

pub word_differs : (bytes word rest left : List ℕ) (i : ℕ) → i < length word → bytes ≡ take i word ++ rest → BeginsOther (get_or word i 0) rest → bytes ≡ word ++ left → ⊥
word_differs bytes word rest left i below is other whole =
    let parts : word ≡ take i word ++ (get_or word i 0 ∷ drop (i + 1) word)
    = sym (take-append-drop (i + 1) word) ∙ ap (λ l. l ++ drop (i + 1) word) (take_more word i 0 below) ∙ append_assoc (take i word) (get_or word i 0 ∷ []) (drop (i + 1) word) in
    other (drop (i + 1) word ++ left)
    (same_tail (take i word) rest (get_or word i 0 ∷ (drop (i + 1) word ++ left))
    (sym is ∙ whole ∙ ap (λ l. l ++ left) parts ∙ append_assoc (take i word) (get_or word i 0 ∷ drop (i + 1) word) left))
