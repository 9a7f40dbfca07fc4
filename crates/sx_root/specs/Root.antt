-- The one spelling of a revision's head.
use Rattle.std.specs.Prelude.{ℕ, ◌^◌, ◌<◌, FitsSigned, List, [], ◌∷◌, ◌++◌, Option, None, Some, Bool, true, false}
use Rattle.std.specs.Int.{to_be_bytes, cast_unsigned, cast_signed, w32, w64}
use Rattle.std.specs.Str.{bytes_eq}
use Rattle.sx_bytes.specs.Front.{◌>>=◌, front_number, front_piece}
use Rattle.sx_root.specs.declared.root.RevisionRoot.{RevisionRoot}

-- the ASCII bytes SXGR
abbrev pub mark : List ℕ
mark = 83 ∷ 88 ∷ 71 ∷ 82 ∷ []

-- The mark, and then each field, the highest byte first: the revision (4 bytes), the time in two's complement (8), and the
-- others (4 each).
unfoldable pub root_bytes : RevisionRoot → List ℕ
root_bytes root =
    mark ++ (to_be_bytes w32 root.revision ++ (to_be_bytes w64 (cast_unsigned w64 root.time) ++ (to_be_bytes w32 root.first_frame
    ++ (to_be_bytes w32 root.frames ++ (to_be_bytes w32 root.node_root ++ (to_be_bytes w32 root.path_root ++ (to_be_bytes w32 root.next
    ++ (to_be_bytes w32 root.nodes ++ (to_be_bytes w32 root.paths ++ to_be_bytes w32 root.body)))))))))

-- the fields behind the mark, where it is one
abbrev pub front_fields : Bool → List ℕ → Option (RevisionRoot × List ℕ)
front_fields false bytes = None
front_fields true bytes = do
  revision ← front_number w32 bytes
  time ← front_number w64 revision.1
  first_frame ← front_number w32 time.1
  frames ← front_number w32 first_frame.1
  node_root ← front_number w32 frames.1
  path_root ← front_number w32 node_root.1
  next ← front_number w32 path_root.1
  nodes ← front_number w32 next.1
  paths ← front_number w32 nodes.1
  body ← front_number w32 paths.1
  Some (
    record {
      revision = revision.0;
      time = cast_signed w64 time.0;
      first_frame = first_frame.0;
      frames = frames.0;
      node_root = node_root.0;
      path_root = path_root.0;
      next = next.0;
      nodes = nodes.0;
      paths = paths.0;
      body = body.0;
    },
    body.1,
  )

-- the head at the front of bytes, and the bytes behind it; None where there is none
unfoldable pub front_root : List ℕ → Option (RevisionRoot × List ℕ)
front_root bytes = do
  given ← front_piece 4 bytes
  front_fields (bytes_eq given.0 mark) given.1

-- its numbers fit their fields
pub record IsRoot (root : RevisionRoot) : Type 0 where
  pub revision : root.revision < 2 ^ 32
  pub time : FitsSigned w64 root.time
  pub first_frame : root.first_frame < 2 ^ 32
  pub frames : root.frames < 2 ^ 32
  pub node_root : root.node_root < 2 ^ 32
  pub path_root : root.path_root < 2 ^ 32
  pub next : root.next < 2 ^ 32
  pub nodes : root.nodes < 2 ^ 32
  pub paths : root.paths < 2 ^ 32
  pub body : root.body < 2 ^ 32
