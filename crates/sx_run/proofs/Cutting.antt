-- Lines that are known, and what is left to cut.
use Rattle.std.proofs.Common.{◌≡◌, ◌≢◌, ◌∙◌, ℕ, inl, inr, List, [], ◌∷◌, ◌++◌, Bool, false, cond, nat_eq, refl, ap, sym, append_assoc}
use Rattle.std.proofs.lemmas.Bool.Decides.{eqb_tells}
use Rattle.sx_run.specs.Lines.{before_first, lines_of, before_first_ended, ended_lines_of, HasNoFeed, HaveNoFeeds, fed}

no_feed_test : (byte : ℕ) → byte ≢ 10 → nat_eq byte 10 ≡ false
no_feed_test byte other = elim (eqb_tells byte 10) [ inl same ↦ absurd (other same.1) | inr differ ↦ differ.0 ]

pub HasNoFeed-append : (a b : List ℕ) → HasNoFeed a → HasNoFeed b → HasNoFeed (a ++ b)
HasNoFeed-append [] b none also = also
HasNoFeed-append (byte ∷ a) b none also = (none.0, HasNoFeed-append a b none.1 also)

pub HaveNoFeeds-append : (lines : List (List ℕ)) (line : List ℕ) → HaveNoFeeds lines → HasNoFeed line → HaveNoFeeds (lines ++ line ∷ [])
HaveNoFeeds-append [] line none also = (also, tt)
HaveNoFeeds-append (first ∷ lines) line none also = (none.0, HaveNoFeeds-append lines line none.1 also)

pub fed-append : (lines : List (List ℕ)) (line rest : List ℕ) → fed (lines ++ line ∷ []) ++ rest ≡ fed lines ++ (line ++ 10 ∷ rest)
fed-append [] line rest = append_assoc line (10 ∷ []) rest
fed-append (first ∷ lines) line rest =
    append_assoc first (10 ∷ fed (lines ++ line ∷ [])) rest
    ∙ ap (λ (bytes : List ℕ). first ++ 10 ∷ bytes) (fed-append lines line rest)
    ∙ sym (append_assoc first (10 ∷ fed lines) (line ++ 10 ∷ rest))

-- the line that a line feed ends comes first
pub lines_of-line : (line text : List ℕ) → HasNoFeed line → lines_of (line ++ 10 ∷ text) ≡ line ∷ lines_of text
lines_of-line [] text none = refl
lines_of-line (byte ∷ line) text none =
    ap (λ (test : Bool). cond test ([] ∷ lines_of (line ++ 10 ∷ text)) (before_first byte (lines_of (line ++ 10 ∷ text)))) (no_feed_test byte none.0)
    ∙ ap (λ (lines : List (List ℕ)). before_first byte lines) (lines_of-line line text none.1)

-- a rest that is not empty is a line
pub lines_of-rest : (byte : ℕ) (line : List ℕ) → HasNoFeed (byte ∷ line) → lines_of (byte ∷ line) ≡ (byte ∷ line) ∷ []
lines_of-rest byte [] none =
    ap (λ (test : Bool). cond test ([] ∷ []) (before_first byte [])) (no_feed_test byte none.0)
lines_of-rest byte (next ∷ line) none =
    ap (λ (test : Bool). cond test ([] ∷ lines_of (next ∷ line)) (before_first byte (lines_of (next ∷ line)))) (no_feed_test byte none.0)
    ∙ ap (λ (lines : List (List ℕ)). before_first byte lines) (lines_of-rest next line none.1)

pub ended_lines_of-line : (line text : List ℕ) → HasNoFeed line → ended_lines_of (line ++ 10 ∷ text) ≡ line ∷ ended_lines_of text
ended_lines_of-line [] text none = refl
ended_lines_of-line (byte ∷ line) text none =
    ap (λ (test : Bool). cond test ([] ∷ ended_lines_of (line ++ 10 ∷ text)) (before_first_ended byte (ended_lines_of (line ++ 10 ∷ text)))) (no_feed_test byte none.0)
    ∙ ap (λ (lines : List (List ℕ)). before_first_ended byte lines) (ended_lines_of-line line text none.1)

-- no line feed ends what has none
pub ended_lines_of-rest : (line : List ℕ) → HasNoFeed line → ended_lines_of line ≡ []
ended_lines_of-rest [] none = refl
ended_lines_of-rest (byte ∷ line) none =
    ap (λ (test : Bool). cond test ([] ∷ ended_lines_of line) (before_first_ended byte (ended_lines_of line))) (no_feed_test byte none.0)
    ∙ ap (λ (lines : List (List ℕ)). before_first_ended byte lines) (ended_lines_of-rest line none.1)

-- lines that ended come first
pub lines_of-fed : (lines : List (List ℕ)) (text : List ℕ) → HaveNoFeeds lines → lines_of (fed lines ++ text) ≡ lines ++ lines_of text
lines_of-fed [] text none = refl
lines_of-fed (line ∷ lines) text none =
    ap (λ (bytes : List ℕ). lines_of bytes) (append_assoc line (10 ∷ fed lines) text)
    ∙ lines_of-line line (fed lines ++ text) none.0
    ∙ ap (λ (rest : List (List ℕ)). line ∷ rest) (lines_of-fed lines text none.1)

pub ended_lines_of-fed : (lines : List (List ℕ)) (rest : List ℕ) → HaveNoFeeds lines → HasNoFeed rest → ended_lines_of (fed lines ++ rest) ≡ lines
ended_lines_of-fed [] rest none also = ended_lines_of-rest rest also
ended_lines_of-fed (line ∷ lines) rest none also =
    ap (λ (bytes : List ℕ). ended_lines_of bytes) (append_assoc line (10 ∷ fed lines) rest)
    ∙ ended_lines_of-line line (fed lines ++ rest) none.0
    ∙ ap (λ (others : List (List ℕ)). line ∷ others) (ended_lines_of-fed lines rest none.1 also)
