-- Words at the front of bytes.
use Rattle.std.proofs.Common.{◌<◌, ◌+◌, ℕ, List, [], ◌∷◌, ◌++◌, take, get_or, length, sym, subst}
use Rattle.std.proofs.lemmas.List.{take_more}
use Rattle.sx_model.specs.PathText.{AreWordBytes, IsWordByte}

words-append : (xs ys : List ℕ) → AreWordBytes xs → AreWordBytes ys → AreWordBytes (xs ++ ys)
words-append [] ys one other = other
words-append (x ∷ xs) ys one other = (one.0, words-append xs ys one.1 other)

-- one more byte of a word
pub words-more : (bytes : List ℕ) (i : ℕ) → i < length bytes → AreWordBytes (take i bytes) → IsWordByte (get_or bytes i 0) → AreWordBytes (take (i + 1) bytes)
words-more bytes i lt word byte = subst AreWordBytes (sym (take_more bytes i 0 lt)) (words-append (take i bytes) (get_or bytes i 0 ∷ []) word (byte, tt))
