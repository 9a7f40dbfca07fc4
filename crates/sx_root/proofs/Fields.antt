-- The fields of a head, appended and read one behind another.
use Rattle.std.proofs.Common.{◌≡◌, ◌∙◌, ℕ, List, ◌++◌, ap, sym, append_assoc}
use Rattle.std.specs.Int.{cast_unsigned, to_be_bytes, w32, w64}
use Rattle.sx_root.specs.Root.{mark, root_bytes}
use Rattle.sx_root.specs.declared.root.RevisionRoot.{RevisionRoot}

-- what was appended in two steps
put_then : (old a middle b new : List ℕ) → middle ≡ old ++ a → new ≡ middle ++ b → new ≡ old ++ (a ++ b)
put_then old a middle b new first second = second ∙ ap (λ (t : List ℕ). t ++ b) first ∙ append_assoc old a b

-- what was read in two steps
read_then : (bytes a middle b rest : List ℕ) → bytes ≡ a ++ middle → middle ≡ b ++ rest → bytes ≡ (a ++ b) ++ rest
read_then bytes a middle b rest first second = first ∙ ap (λ (t : List ℕ). a ++ t) second ∙ sym (append_assoc a b rest)

pub put_root : (root : RevisionRoot) (o0 o1 o2 o3 o4 o5 o6 o7 o8 o9 o10 o11 : List ℕ) → o1 ≡ o0 ++ mark → o2 ≡ o1 ++ to_be_bytes w32 root.revision → o3 ≡ o2 ++ to_be_bytes w64 (cast_unsigned w64 root.time) → o4 ≡ o3 ++ to_be_bytes w32 root.first_frame → o5 ≡ o4 ++ to_be_bytes w32 root.frames → o6 ≡ o5 ++ to_be_bytes w32 root.node_root → o7 ≡ o6 ++ to_be_bytes w32 root.path_root → o8 ≡ o7 ++ to_be_bytes w32 root.next → o9 ≡ o8 ++ to_be_bytes w32 root.nodes → o10 ≡ o9 ++ to_be_bytes w32 root.paths → o11 ≡ o10 ++ to_be_bytes w32 root.body → o11 ≡ o0 ++ root_bytes root
unfolding root_bytes
put_root root o0 o1 o2 o3 o4 o5 o6 o7 o8 o9 o10 o11 e1 e2 e3 e4 e5 e6 e7 e8 e9 e10 e11 =
    put_then o0 (mark) o1 (to_be_bytes w32 root.revision ++ (to_be_bytes w64 (cast_unsigned w64 root.time) ++ (to_be_bytes w32 root.first_frame ++ (to_be_bytes w32 root.frames ++ (to_be_bytes w32 root.node_root ++ (to_be_bytes w32 root.path_root ++ (to_be_bytes w32 root.next ++ (to_be_bytes w32 root.nodes ++ (to_be_bytes w32 root.paths ++ to_be_bytes w32 root.body))))))))) o11 e1 (put_then o1 (to_be_bytes w32 root.revision) o2 (to_be_bytes w64 (cast_unsigned w64 root.time) ++ (to_be_bytes w32 root.first_frame ++ (to_be_bytes w32 root.frames ++ (to_be_bytes w32 root.node_root ++ (to_be_bytes w32 root.path_root ++ (to_be_bytes w32 root.next ++ (to_be_bytes w32 root.nodes ++ (to_be_bytes w32 root.paths ++ to_be_bytes w32 root.body)))))))) o11 e2 (put_then o2 (to_be_bytes w64 (cast_unsigned w64 root.time)) o3 (to_be_bytes w32 root.first_frame ++ (to_be_bytes w32 root.frames ++ (to_be_bytes w32 root.node_root ++ (to_be_bytes w32 root.path_root ++ (to_be_bytes w32 root.next ++ (to_be_bytes w32 root.nodes ++ (to_be_bytes w32 root.paths ++ to_be_bytes w32 root.body))))))) o11 e3 (put_then o3 (to_be_bytes w32 root.first_frame) o4 (to_be_bytes w32 root.frames ++ (to_be_bytes w32 root.node_root ++ (to_be_bytes w32 root.path_root ++ (to_be_bytes w32 root.next ++ (to_be_bytes w32 root.nodes ++ (to_be_bytes w32 root.paths ++ to_be_bytes w32 root.body)))))) o11 e4 (put_then o4 (to_be_bytes w32 root.frames) o5 (to_be_bytes w32 root.node_root ++ (to_be_bytes w32 root.path_root ++ (to_be_bytes w32 root.next ++ (to_be_bytes w32 root.nodes ++ (to_be_bytes w32 root.paths ++ to_be_bytes w32 root.body))))) o11 e5 (put_then o5 (to_be_bytes w32 root.node_root) o6 (to_be_bytes w32 root.path_root ++ (to_be_bytes w32 root.next ++ (to_be_bytes w32 root.nodes ++ (to_be_bytes w32 root.paths ++ to_be_bytes w32 root.body)))) o11 e6 (put_then o6 (to_be_bytes w32 root.path_root) o7 (to_be_bytes w32 root.next ++ (to_be_bytes w32 root.nodes ++ (to_be_bytes w32 root.paths ++ to_be_bytes w32 root.body))) o11 e7 (put_then o7 (to_be_bytes w32 root.next) o8 (to_be_bytes w32 root.nodes ++ (to_be_bytes w32 root.paths ++ to_be_bytes w32 root.body)) o11 e8 (put_then o8 (to_be_bytes w32 root.nodes) o9 (to_be_bytes w32 root.paths ++ to_be_bytes w32 root.body) o11 e9 (put_then o9 (to_be_bytes w32 root.paths) o10 (to_be_bytes w32 root.body) o11 e10 (e11))))))))))

pub read_root : (root : RevisionRoot) (b0 b1 b2 b3 b4 b5 b6 b7 b8 b9 b10 b11 : List ℕ) → b0 ≡ mark ++ b1 → b1 ≡ to_be_bytes w32 root.revision ++ b2 → b2 ≡ to_be_bytes w64 (cast_unsigned w64 root.time) ++ b3 → b3 ≡ to_be_bytes w32 root.first_frame ++ b4 → b4 ≡ to_be_bytes w32 root.frames ++ b5 → b5 ≡ to_be_bytes w32 root.node_root ++ b6 → b6 ≡ to_be_bytes w32 root.path_root ++ b7 → b7 ≡ to_be_bytes w32 root.next ++ b8 → b8 ≡ to_be_bytes w32 root.nodes ++ b9 → b9 ≡ to_be_bytes w32 root.paths ++ b10 → b10 ≡ to_be_bytes w32 root.body ++ b11 → b0 ≡ root_bytes root ++ b11
unfolding root_bytes
read_root root b0 b1 b2 b3 b4 b5 b6 b7 b8 b9 b10 b11 e1 e2 e3 e4 e5 e6 e7 e8 e9 e10 e11 =
    read_then b0 (mark) b1 (to_be_bytes w32 root.revision ++ (to_be_bytes w64 (cast_unsigned w64 root.time) ++ (to_be_bytes w32 root.first_frame ++ (to_be_bytes w32 root.frames ++ (to_be_bytes w32 root.node_root ++ (to_be_bytes w32 root.path_root ++ (to_be_bytes w32 root.next ++ (to_be_bytes w32 root.nodes ++ (to_be_bytes w32 root.paths ++ to_be_bytes w32 root.body))))))))) b11 e1 (read_then b1 (to_be_bytes w32 root.revision) b2 (to_be_bytes w64 (cast_unsigned w64 root.time) ++ (to_be_bytes w32 root.first_frame ++ (to_be_bytes w32 root.frames ++ (to_be_bytes w32 root.node_root ++ (to_be_bytes w32 root.path_root ++ (to_be_bytes w32 root.next ++ (to_be_bytes w32 root.nodes ++ (to_be_bytes w32 root.paths ++ to_be_bytes w32 root.body)))))))) b11 e2 (read_then b2 (to_be_bytes w64 (cast_unsigned w64 root.time)) b3 (to_be_bytes w32 root.first_frame ++ (to_be_bytes w32 root.frames ++ (to_be_bytes w32 root.node_root ++ (to_be_bytes w32 root.path_root ++ (to_be_bytes w32 root.next ++ (to_be_bytes w32 root.nodes ++ (to_be_bytes w32 root.paths ++ to_be_bytes w32 root.body))))))) b11 e3 (read_then b3 (to_be_bytes w32 root.first_frame) b4 (to_be_bytes w32 root.frames ++ (to_be_bytes w32 root.node_root ++ (to_be_bytes w32 root.path_root ++ (to_be_bytes w32 root.next ++ (to_be_bytes w32 root.nodes ++ (to_be_bytes w32 root.paths ++ to_be_bytes w32 root.body)))))) b11 e4 (read_then b4 (to_be_bytes w32 root.frames) b5 (to_be_bytes w32 root.node_root ++ (to_be_bytes w32 root.path_root ++ (to_be_bytes w32 root.next ++ (to_be_bytes w32 root.nodes ++ (to_be_bytes w32 root.paths ++ to_be_bytes w32 root.body))))) b11 e5 (read_then b5 (to_be_bytes w32 root.node_root) b6 (to_be_bytes w32 root.path_root ++ (to_be_bytes w32 root.next ++ (to_be_bytes w32 root.nodes ++ (to_be_bytes w32 root.paths ++ to_be_bytes w32 root.body)))) b11 e6 (read_then b6 (to_be_bytes w32 root.path_root) b7 (to_be_bytes w32 root.next ++ (to_be_bytes w32 root.nodes ++ (to_be_bytes w32 root.paths ++ to_be_bytes w32 root.body))) b11 e7 (read_then b7 (to_be_bytes w32 root.next) b8 (to_be_bytes w32 root.nodes ++ (to_be_bytes w32 root.paths ++ to_be_bytes w32 root.body)) b11 e8 (read_then b8 (to_be_bytes w32 root.nodes) b9 (to_be_bytes w32 root.paths ++ to_be_bytes w32 root.body) b11 e9 (read_then b9 (to_be_bytes w32 root.paths) b10 (to_be_bytes w32 root.body) b11 e10 (e11))))))))))
