-- When each fault of a literal comes.
use Rattle.std.specs.Prelude.{ℕ, ◌≡◌, ◌≤◌, ◌<◌, List, length}
use Rattle.sx_tree.specs.Number.{IsNumber, IsLiteral, IsLongestFront}
use Rattle.sx_tree.specs.declared.literal.LiteralFault.{LiteralFault}
use Rattle.sx_tree.specs.declared.literal.LiteralFault.TheVariants.{TooLong, Bad, OutOfMemory}

-- The fault is the one that the bytes have: their length where it is above the limit, else the first
-- byte with which no number goes on. Memory runs out for numbers alone.
abbrev pub ExplainsLiteral : List ℕ → LiteralFault → Type 0
ExplainsLiteral bytes (TooLong count) = (64 < length bytes) × (count ≡ length bytes)
ExplainsLiteral bytes (Bad place) = (length bytes ≤ 64) × (¬ IsNumber bytes) × IsLongestFront bytes place
ExplainsLiteral bytes OutOfMemory = IsLiteral bytes
