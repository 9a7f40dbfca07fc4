-- A volume over a file, as its callers see it.
use Rattle.std.specs.Prelude.{ℕ, Bool, List, Option}

pub record OnFile (F : Type 0) : Type 0 where
  pub file : F
  -- the length that was asked, or that the calls made
  pub size : ℕ
  -- the piece that is held for the next append, and its place
  pub held : Option (ℕ × List ℕ)
  -- nothing was written since the last sync that succeeded
  pub calm : Bool
  pub bytes_read : ℕ
