-- When each fault of a text comes.
use Rattle.std.specs.Prelude.{ℕ, ◌≡◌, ◌<◌, List, length, IsUtf8}
use Rattle.std.specs.Str.Lossy.{utf8_valid_len}
use Rattle.sx_tree.specs.Text.{IsText}
use Rattle.sx_tree.specs.declared.text.TextFault.{TextFault}
use Rattle.sx_tree.specs.declared.text.TextFault.TheVariants.{NotUtf8, TooLong, OutOfMemory}

-- The fault is the one that the bytes have: the length of their longest front in UTF-8, else their own
-- length where it is above the limit. Memory runs out for texts alone.
abbrev pub ExplainsText : List ℕ → TextFault → Type 0
ExplainsText bytes (NotUtf8 place) = (¬ IsUtf8 bytes) × (place ≡ utf8_valid_len bytes)
ExplainsText bytes (TooLong count) = IsUtf8 bytes × (1_048_576 < length bytes) × (count ≡ length bytes)
ExplainsText bytes OutOfMemory = IsText bytes
