-- The fields at the front of bytes, and the bytes behind them.
use Rattle.std.specs.Prelude.{ℕ, List, Option, Some}
use Rattle.std.specs.Int.{w32, w128}
use Rattle.sx_bytes.specs.Front.{◌>>=◌, front_byte, front_number, front_piece}
use Rattle.sx_record.specs.Spelling.{PathFields, NodeFields}

-- a length, and so many bytes
unfoldable pub front_text : List ℕ → Option (List ℕ × List ℕ)
front_text bytes = do
  count ← front_number w32 bytes
  front_piece count.0 count.1

unfoldable pub front_path : List ℕ → Option (PathFields × List ℕ)
front_path bytes = do
  parent ← front_number w32 bytes
  step ← front_byte parent.1
  count ← front_number w32 step.1
  name ← front_text count.1
  Some (record { parent = parent.0; step = step.0; count = count.0; name = name.0 }, name.1)

unfoldable pub front_node : List ℕ → Option (NodeFields × List ℕ)
front_node bytes = do
  kind ← front_byte bytes
  parent ← front_number w32 kind.1
  left ← front_number w32 parent.1
  right ← front_number w32 left.1
  first ← front_number w32 right.1
  last ← front_number w32 first.1
  children ← front_number w32 last.1
  descendants ← front_number w32 children.1
  hash ← front_number w128 descendants.1
  path ← front_number w32 hash.1
  label ← front_text path.1
  Some (
    record {
      kind = kind.0;
      parent = parent.0;
      left = left.0;
      right = right.0;
      first = first.0;
      last = last.0;
      children = children.0;
      descendants = descendants.0;
      hash = hash.0;
      path = path.0;
      label = label.0;
    },
    label.1,
  )
