-- The fields of a record, appended and read one by one.
use Rattle.std.proofs.Common.{◌≡◌, ℕ, List, [], ◌∷◌, ◌++◌, length, take}
use Rattle.std.specs.Int.{w32, w128, to_be_bytes}
use Rattle.sx_record.specs.Spelling.{text_bytes, PathFields, path_bytes, NodeFields, node_bytes}
use Rattle.sx_record.proofs.Extends.{put_then, read_then, front_then}

pub put_path : (f : PathFields) (o0 o1 o2 o3 o4 : List ℕ) → o1 ≡ o0 ++ to_be_bytes w32 f.parent → o2 ≡ o1 ++ (f.step ∷ []) → o3 ≡ o2 ++ to_be_bytes w32 f.count → o4 ≡ o3 ++ text_bytes f.name → o4 ≡ o0 ++ path_bytes f
unfolding path_bytes
put_path f o0 o1 o2 o3 o4 e1 e2 e3 e4 =
    put_then o0 (to_be_bytes w32 f.parent) o1 ((f.step ∷ []) ++ (to_be_bytes w32 f.count ++ text_bytes f.name)) o4 e1 (put_then o1 (f.step ∷ []) o2 (to_be_bytes w32 f.count ++ text_bytes f.name) o4 e2 (put_then o2 (to_be_bytes w32 f.count) o3 (text_bytes f.name) o4 e3 (e4)))

pub read_path : (f : PathFields) (b0 b1 b2 b3 b4 : List ℕ) → b0 ≡ to_be_bytes w32 f.parent ++ b1 → b1 ≡ (f.step ∷ []) ++ b2 → b2 ≡ to_be_bytes w32 f.count ++ b3 → b3 ≡ text_bytes f.name ++ b4 → b0 ≡ path_bytes f ++ b4
unfolding path_bytes
read_path f b0 b1 b2 b3 b4 e1 e2 e3 e4 =
    read_then b0 (to_be_bytes w32 f.parent) b1 ((f.step ∷ []) ++ (to_be_bytes w32 f.count ++ text_bytes f.name)) b4 e1 (read_then b1 (f.step ∷ []) b2 (to_be_bytes w32 f.count ++ text_bytes f.name) b4 e2 (read_then b2 (to_be_bytes w32 f.count) b3 (text_bytes f.name) b4 e3 (e4)))

pub put_node : (f : NodeFields) (o0 o1 o2 o3 o4 o5 o6 o7 o8 o9 o10 o11 : List ℕ) → o1 ≡ o0 ++ (f.kind ∷ []) → o2 ≡ o1 ++ to_be_bytes w32 f.parent → o3 ≡ o2 ++ to_be_bytes w32 f.left → o4 ≡ o3 ++ to_be_bytes w32 f.right → o5 ≡ o4 ++ to_be_bytes w32 f.first → o6 ≡ o5 ++ to_be_bytes w32 f.last → o7 ≡ o6 ++ to_be_bytes w32 f.children → o8 ≡ o7 ++ to_be_bytes w32 f.descendants → o9 ≡ o8 ++ to_be_bytes w128 f.hash → o10 ≡ o9 ++ to_be_bytes w32 f.path → o11 ≡ o10 ++ text_bytes f.label → o11 ≡ o0 ++ node_bytes f
unfolding node_bytes
put_node f o0 o1 o2 o3 o4 o5 o6 o7 o8 o9 o10 o11 e1 e2 e3 e4 e5 e6 e7 e8 e9 e10 e11 =
    put_then o0 (f.kind ∷ []) o1 (to_be_bytes w32 f.parent ++ (to_be_bytes w32 f.left ++ (to_be_bytes w32 f.right ++ (to_be_bytes w32 f.first ++ (to_be_bytes w32 f.last ++ (to_be_bytes w32 f.children ++ (to_be_bytes w32 f.descendants ++ (to_be_bytes w128 f.hash ++ (to_be_bytes w32 f.path ++ text_bytes f.label))))))))) o11 e1 (put_then o1 (to_be_bytes w32 f.parent) o2 (to_be_bytes w32 f.left ++ (to_be_bytes w32 f.right ++ (to_be_bytes w32 f.first ++ (to_be_bytes w32 f.last ++ (to_be_bytes w32 f.children ++ (to_be_bytes w32 f.descendants ++ (to_be_bytes w128 f.hash ++ (to_be_bytes w32 f.path ++ text_bytes f.label)))))))) o11 e2 (put_then o2 (to_be_bytes w32 f.left) o3 (to_be_bytes w32 f.right ++ (to_be_bytes w32 f.first ++ (to_be_bytes w32 f.last ++ (to_be_bytes w32 f.children ++ (to_be_bytes w32 f.descendants ++ (to_be_bytes w128 f.hash ++ (to_be_bytes w32 f.path ++ text_bytes f.label))))))) o11 e3 (put_then o3 (to_be_bytes w32 f.right) o4 (to_be_bytes w32 f.first ++ (to_be_bytes w32 f.last ++ (to_be_bytes w32 f.children ++ (to_be_bytes w32 f.descendants ++ (to_be_bytes w128 f.hash ++ (to_be_bytes w32 f.path ++ text_bytes f.label)))))) o11 e4 (put_then o4 (to_be_bytes w32 f.first) o5 (to_be_bytes w32 f.last ++ (to_be_bytes w32 f.children ++ (to_be_bytes w32 f.descendants ++ (to_be_bytes w128 f.hash ++ (to_be_bytes w32 f.path ++ text_bytes f.label))))) o11 e5 (put_then o5 (to_be_bytes w32 f.last) o6 (to_be_bytes w32 f.children ++ (to_be_bytes w32 f.descendants ++ (to_be_bytes w128 f.hash ++ (to_be_bytes w32 f.path ++ text_bytes f.label)))) o11 e6 (put_then o6 (to_be_bytes w32 f.children) o7 (to_be_bytes w32 f.descendants ++ (to_be_bytes w128 f.hash ++ (to_be_bytes w32 f.path ++ text_bytes f.label))) o11 e7 (put_then o7 (to_be_bytes w32 f.descendants) o8 (to_be_bytes w128 f.hash ++ (to_be_bytes w32 f.path ++ text_bytes f.label)) o11 e8 (put_then o8 (to_be_bytes w128 f.hash) o9 (to_be_bytes w32 f.path ++ text_bytes f.label) o11 e9 (put_then o9 (to_be_bytes w32 f.path) o10 (text_bytes f.label) o11 e10 (e11))))))))))

pub read_node : (f : NodeFields) (b0 b1 b2 b3 b4 b5 b6 b7 b8 b9 b10 b11 : List ℕ) → b0 ≡ (f.kind ∷ []) ++ b1 → b1 ≡ to_be_bytes w32 f.parent ++ b2 → b2 ≡ to_be_bytes w32 f.left ++ b3 → b3 ≡ to_be_bytes w32 f.right ++ b4 → b4 ≡ to_be_bytes w32 f.first ++ b5 → b5 ≡ to_be_bytes w32 f.last ++ b6 → b6 ≡ to_be_bytes w32 f.children ++ b7 → b7 ≡ to_be_bytes w32 f.descendants ++ b8 → b8 ≡ to_be_bytes w128 f.hash ++ b9 → b9 ≡ to_be_bytes w32 f.path ++ b10 → b10 ≡ text_bytes f.label ++ b11 → b0 ≡ node_bytes f ++ b11
unfolding node_bytes
read_node f b0 b1 b2 b3 b4 b5 b6 b7 b8 b9 b10 b11 e1 e2 e3 e4 e5 e6 e7 e8 e9 e10 e11 =
    read_then b0 (f.kind ∷ []) b1 (to_be_bytes w32 f.parent ++ (to_be_bytes w32 f.left ++ (to_be_bytes w32 f.right ++ (to_be_bytes w32 f.first ++ (to_be_bytes w32 f.last ++ (to_be_bytes w32 f.children ++ (to_be_bytes w32 f.descendants ++ (to_be_bytes w128 f.hash ++ (to_be_bytes w32 f.path ++ text_bytes f.label))))))))) b11 e1 (read_then b1 (to_be_bytes w32 f.parent) b2 (to_be_bytes w32 f.left ++ (to_be_bytes w32 f.right ++ (to_be_bytes w32 f.first ++ (to_be_bytes w32 f.last ++ (to_be_bytes w32 f.children ++ (to_be_bytes w32 f.descendants ++ (to_be_bytes w128 f.hash ++ (to_be_bytes w32 f.path ++ text_bytes f.label)))))))) b11 e2 (read_then b2 (to_be_bytes w32 f.left) b3 (to_be_bytes w32 f.right ++ (to_be_bytes w32 f.first ++ (to_be_bytes w32 f.last ++ (to_be_bytes w32 f.children ++ (to_be_bytes w32 f.descendants ++ (to_be_bytes w128 f.hash ++ (to_be_bytes w32 f.path ++ text_bytes f.label))))))) b11 e3 (read_then b3 (to_be_bytes w32 f.right) b4 (to_be_bytes w32 f.first ++ (to_be_bytes w32 f.last ++ (to_be_bytes w32 f.children ++ (to_be_bytes w32 f.descendants ++ (to_be_bytes w128 f.hash ++ (to_be_bytes w32 f.path ++ text_bytes f.label)))))) b11 e4 (read_then b4 (to_be_bytes w32 f.first) b5 (to_be_bytes w32 f.last ++ (to_be_bytes w32 f.children ++ (to_be_bytes w32 f.descendants ++ (to_be_bytes w128 f.hash ++ (to_be_bytes w32 f.path ++ text_bytes f.label))))) b11 e5 (read_then b5 (to_be_bytes w32 f.last) b6 (to_be_bytes w32 f.children ++ (to_be_bytes w32 f.descendants ++ (to_be_bytes w128 f.hash ++ (to_be_bytes w32 f.path ++ text_bytes f.label)))) b11 e6 (read_then b6 (to_be_bytes w32 f.children) b7 (to_be_bytes w32 f.descendants ++ (to_be_bytes w128 f.hash ++ (to_be_bytes w32 f.path ++ text_bytes f.label))) b11 e7 (read_then b7 (to_be_bytes w32 f.descendants) b8 (to_be_bytes w128 f.hash ++ (to_be_bytes w32 f.path ++ text_bytes f.label)) b11 e8 (read_then b8 (to_be_bytes w128 f.hash) b9 (to_be_bytes w32 f.path ++ text_bytes f.label) b11 e9 (read_then b9 (to_be_bytes w32 f.path) b10 (text_bytes f.label) b11 e10 (e11))))))))))

-- the numbers of a node were appended, and behind them what may have been of its label
pub front_node : (f : NodeFields) (o0 o1 o2 o3 o4 o5 o6 o7 o8 o9 o10 new : List ℕ) → o1 ≡ o0 ++ (f.kind ∷ []) → o2 ≡ o1 ++ (to_be_bytes w32 f.parent) → o3 ≡ o2 ++ (to_be_bytes w32 f.left) → o4 ≡ o3 ++ (to_be_bytes w32 f.right) → o5 ≡ o4 ++ (to_be_bytes w32 f.first) → o6 ≡ o5 ++ (to_be_bytes w32 f.last) → o7 ≡ o6 ++ (to_be_bytes w32 f.children) → o8 ≡ o7 ++ (to_be_bytes w32 f.descendants) → o9 ≡ o8 ++ (to_be_bytes w128 f.hash) → o10 ≡ o9 ++ (to_be_bytes w32 f.path) → take (length o10) new ≡ o10 → take (length o0) new ≡ o0
front_node f o0 o1 o2 o3 o4 o5 o6 o7 o8 o9 o10 new e1 e2 e3 e4 e5 e6 e7 e8 e9 e10 last =
    front_then o0 (f.kind ∷ []) o1 new e1 (front_then o1 (to_be_bytes w32 f.parent) o2 new e2 (front_then o2 (to_be_bytes w32 f.left) o3 new e3 (front_then o3 (to_be_bytes w32 f.right) o4 new e4 (front_then o4 (to_be_bytes w32 f.first) o5 new e5 (front_then o5 (to_be_bytes w32 f.last) o6 new e6 (front_then o6 (to_be_bytes w32 f.children) o7 new e7 (front_then o7 (to_be_bytes w32 f.descendants) o8 new e8 (front_then o8 (to_be_bytes w128 f.hash) o9 new e9 (front_then o9 (to_be_bytes w32 f.path) o10 new e10 last)))))))))
