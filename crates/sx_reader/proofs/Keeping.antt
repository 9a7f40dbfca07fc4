-- A frame that was read keeps the rules.
use Rattle.std.proofs.Common.{◌≡◌, ◌∙◌, ℕ, ◌+◌, ◌-◌, ◌^◌, ◌<◌, inl, inr, List, ◌++◌, length, true, false, refl, ap, sym, subst, arith, length-append, w32, IfSome, Option, None, Some}
use Rattle.std.specs.Int.{to_be_bytes, from_be_bytes}
use Rattle.std.proofs.lemmas.List.{take_at}
use Rattle.std.proofs.lemmas.Nat.{from_be_bytes-to_be_bytes_4}
use Rattle.sha2.specs.Sha256.{sha256}
use Rattle.sx_bytes.specs.declared.damage.Damage.{Damage}
use Rattle.sx_frame.specs.Frame.{body_length, frame_bytes}
use Rattle.sx_frame.specs.declared.frame.Frame.{Frame}
use Rattle.sx_layout.proofs.Fronts.{same_front}
use Rattle.sx_model.specs.Records.{PathRow}
use Rattle.sx_reader.specs.Asked.{KeepsAsking}
use Rattle.sx_reader.specs.Documents.{IsDocumentIn}
use Rattle.sx_reader.specs.Frames.{BreaksFrame, BreaksHead, BreaksSpelling, IsFrame, IsFrameOf, IsReadOf}
use Rattle.sx_reader.specs.declared.cell.Cell.{Cell}
use Rattle.sx_tree.specs.declared.record.NodeRecord.{NodeRecord}
use Rattle.sx_volume.specs.declared.spot.Spot.{Ghosts}
use Rattle.sx_whole.specs.Body.{AreWhole, body_bytes}
use Rattle.sx_whole.specs.Stands.{whole_frame, whole_kind}
use Rattle.sx_whole.specs.declared.document.Document.{Document}
use Rattle.sx_whole.proofs.OneBody.{no_break}

length-frame : (frame : Frame) → length (frame_bytes frame) ≡ 5 + length frame.body
length-frame frame = omega (arith, length-append (to_be_bytes w32 (length frame.body)) frame.body)

told-length : (frame : Frame) → length frame.body < 2 ^ 32 → body_length (frame_bytes frame) ≡ length frame.body
told-length frame fits =
    ap (from_be_bytes w32) (take_at (to_be_bytes w32 (length frame.body)) frame.body 4 refl) ∙ from_be_bytes-to_be_bytes_4 (length frame.body) fits

spelled : (place : ℕ) (digest bytes : List ℕ) (frame : Frame) (damage : Damage) → IsFrame digest bytes frame → length bytes < 2 ^ 32 → BreaksSpelling place digest bytes damage → ⊥
spelled place digest bytes frame damage is fits (violation, inl other, told) = other.0 is.0
spelled place digest bytes frame damage is fits (violation, inr (same, long, other), told) =
    let size : length bytes ≡ 5 + length frame.body = ap length is.1 ∙ length-frame frame in
    let told_is : body_length bytes ≡ length frame.body = ap body_length is.1 ∙ told-length frame (omega (arith, size, fits)) in
    let whole : length frame.body ≡ length bytes - 5 = omega (arith, size) in
    long (told_is ∙ whole)

same-kind : (a b : Frame) → frame_bytes a ≡ frame_bytes b → a.kind ≡ b.kind
same-kind a b is = cc is

pub same-whole : (a b : List ℕ) → whole_frame a ≡ whole_frame b → a ≡ b
same-whole a b is =
    let tails : to_be_bytes w32 (length a) ++ a ≡ to_be_bytes w32 (length b) ++ b = cc is in
    (same_front (to_be_bytes w32 (length a)) (to_be_bytes w32 (length b)) a b refl tails).1

pub head-keeps : (place : ℕ) (digest bytes : List ℕ) (frame : Frame) (damage : Damage) → IsFrame digest bytes frame → frame.kind ≡ whole_kind → length bytes < 2 ^ 32
    → BreaksHead place digest bytes damage → ⊥
head-keeps place digest bytes frame damage is kind fits (inl spelling) = spelled place digest bytes frame damage is fits spelling
head-keeps place digest bytes frame damage is kind fits (inr (other, other_is, unlike, told)) =
    unlike (same-kind other frame (sym other_is.1 ∙ is.1) ∙ kind)

-- a frame of a whole document keeps all rules
pub whole-keeps : (place : ℕ) (digest bytes : List ℕ) (nodes : List (ℕ × NodeRecord)) (rows : List PathRow) (damage : Damage) → sha256 bytes ≡ digest
    → bytes ≡ whole_frame (body_bytes nodes rows) → AreWhole nodes rows → length bytes < 2 ^ 32 → BreaksFrame place digest bytes damage → ⊥
whole-keeps place digest bytes nodes rows damage same is whole fits (inl head) =
    head-keeps place digest bytes (record { kind = whole_kind; body = body_bytes nodes rows }) damage (same, is) refl fits head
whole-keeps place digest bytes nodes rows damage same is whole fits (inr (body, digest_is, other, broken)) =
    no_break place body damage nodes rows whole (same-whole body (body_bytes nodes rows) (sym other ∙ is)) broken

if_some-then : {A : Type 0} (o : Option A) (P Q : A → Type 0) → ((a : A) → P a → Q a) → IfSome o P → IfSome o Q
if_some-then None P Q step is = is
if_some-then (Some a) P Q step is = step a is

pub document-asking : {S : Type 0} (g : Ghosts S) (tells : Type 0) (cell : Cell S) (bytes : List ℕ) (document : Document) → IsReadOf g tells cell bytes
    → IsDocumentIn cell.row.digest bytes document → tells → KeepsAsking g true cell
document-asking g tells cell bytes document read is now =
    if_some-then (g.content cell.spot) _ _
    (λ all same damage. subst (λ (b : List ℕ). BreaksFrame cell.place cell.row.digest b damage → ⊥) same
    (whole-keeps cell.place cell.row.digest bytes _ _ damage is.same_digest is.bytes_are is.whole read.fits)) (read.told now)

pub frame-asking : {S : Type 0} (g : Ghosts S) (tells : Type 0) (cell : Cell S) (frame : Frame) → IsFrameOf g tells cell frame → frame.kind ≡ whole_kind → tells → KeepsAsking g false cell
frame-asking g tells cell frame (bytes, read, is) kind now =
    if_some-then (g.content cell.spot) _ _
    (λ all same damage. subst (λ (b : List ℕ). BreaksHead cell.place cell.row.digest b damage → ⊥) same
    (head-keeps cell.place cell.row.digest bytes frame damage is kind read.fits)) (read.told now)
