-- The definitions of what a volume's bytes stand for, on worked rows.
use Rattle.std.proofs.Common.{◌≡◌, ℕ, ◌+◌, List, [], ◌∷◌, length, Some, None, refl}
use Rattle.sx_tree.specs.declared.json.Scalar.TheVariants.{Number}
use Rattle.sx_tree.specs.Value.{scalar}
use Rattle.sx_layout.specs.FrameGroup.{FrameGroup, group_size}
use Rattle.sx_model.specs.Commit.{Commit}
use Rattle.sx_model.specs.Edit.{after, load}
use Rattle.sx_model.specs.State.{empty_document}
use Rattle.sx_whole.specs.Stands.{ShowCommits, body_size, root_of}
use Rattle.sx_root.specs.declared.root.RevisionRoot.{RevisionRoot}
use Rattle.std.specs.Prelude.{pos}

-- the Document alone: two numbers of 4 bytes, and 57 bytes
empty_body : body_size empty_document ≡ 65
empty_body = refl

-- the group of a first commit without an edit
empty_group : group_size 1 (5 + body_size empty_document) ≡ 187
empty_group = refl

-- the Document and the number 7, which stands on the one path
seven_body : body_size (after (load (scalar (Number (55 ∷ []))) ∷ []) empty_document) ≡ 136
seven_body = refl

seven_root : root_of 1 (pos 5) (after (load (scalar (Number (55 ∷ []))) ∷ []) empty_document) 141
    ≡ record { revision = 1; time = pos 5; first_frame = 0; frames = 1; node_root = 1; path_root = 0; next = 2; nodes = 2; paths = 1; body = 141 }
seven_root = refl

-- no commits have no groups
no_commits : ShowCommits [] []
no_commits = (tt, tt)
