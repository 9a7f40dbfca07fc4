-- Places of line feeds.
use Rattle.std.proofs.Common.{◌≡◌, ◌≢◌, ◌∙◌, ℕ, zero, suc, ◌+◌, ◌<◌, ◌≤◌, List, [], ◌∷◌, ◌++◌, length, take, drop, get_or, ap, sym, arith}
use Rattle.std.proofs.lemmas.List.{take-append-drop, drop_more}
use Rattle.sx_run.specs.Lines.{HasNoFeed}

-- no byte below a place is a line feed
pub HasNoFeed-take : (bytes : List ℕ) (n : ℕ) → n ≤ length bytes → ((k : ℕ) → k < n → get_or bytes k 0 ≢ 10) → HasNoFeed (take n bytes)
HasNoFeed-take bytes zero within none = tt
HasNoFeed-take [] (suc n) within none = tt
HasNoFeed-take (byte ∷ bytes) (suc n) within none =
    (none 0 (omega arith), HasNoFeed-take bytes n (omega arith) (λ k below. none (suc k) (omega arith)))

pub HasNoFeed-all : (bytes : List ℕ) → ((k : ℕ) → k < length bytes → get_or bytes k 0 ≢ 10) → HasNoFeed bytes
HasNoFeed-all [] none = tt
HasNoFeed-all (byte ∷ bytes) none = (none 0 (omega arith), HasNoFeed-all bytes (λ k below. none (suc k) (omega arith)))

-- the bytes round a place
pub split_at : (bytes : List ℕ) (n byte : ℕ) → n < length bytes → get_or bytes n 0 ≡ byte → bytes ≡ take n bytes ++ byte ∷ drop (n + 1) bytes
split_at bytes n byte within at =
    sym (take-append-drop n bytes)
    ∙ ap (λ (rest : List ℕ). take n bytes ++ rest) (drop_more bytes n 0 within ∙ ap (λ (b : ℕ). b ∷ drop (n + 1) bytes) at)
