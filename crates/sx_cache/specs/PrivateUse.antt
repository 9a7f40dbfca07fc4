-- What a private cache is once a leaf was looked up in it.
use Rattle.std.specs.Prelude.{ℕ, ◌≡◌}
use Rattle.std.specs.Borrow.{Fml, MutBor, RattleType}
use Rattle.std.specs.Io.BufRead.{Rests}
use Rattle.lru.specs.LruCache.{promoted}
use Rattle.sx_cache.specs.ByUse.{is_leaf}
use Rattle.sx_cache.specs.declared.private_cache.PrivateCache.{PrivateCache}
use Rattle.sx_cache.specs.contracts.private_cache.PrivateCache.{the_row}

-- the leaf goes first, where it is there, and the others follow as they stood
abbrev pub LeavesPromoted : (R : RattleType) → MutBor (PrivateCache R.Denot) → ℕ → ℕ → Fml
LeavesPromoted R cache r leaf = Rests (the_row R) cache (λ new. new ≡ promoted (is_leaf r leaf) cache.now)
